-- What is known where a record was read.
--
-- A record that was read is the one that the bytes say, and it is whole. What is said of a page by the records that were
-- read is said of those that the bytes have, since they are equal.
use Rattle.std.proofs.Common.{◌≡◌, ℕ, zero, suc, ◌+◌, ◌≤◌, ◌<◌, ◌-◌, ◌/◌, List, [], ◌∷◌, length, get_or, Some, sym, ap, subst, ◌∙◌, refl, arith, rules}
use Rattle.macho_bytes.specs.Layouts.{Layout, reading, read_of, size_of}
use Rattle.macho_unwind.specs.Layouts.{compressed_page}
use Rattle.macho_unwind.specs.Sections.{entry_at, page_at, lsda_count, IsWholePage}
use Rattle.macho_unwind.specs.declared.records.PageEntry.{PageEntry}
use Rattle.macho_unwind.specs.declared.records.CompressedPage.{CompressedPage}
use Rattle.macho_unwind.specs.steps.Parts.{HasPage}

-- a record that was read is that of the bytes, and stands whole
pub record IsRead {R : Type 0} (l : Layout R) (bytes : List ℕ) (at : ℕ) (r : R) : Type 0 where
  pub whole : at + size_of l ≤ length bytes
  pub is : r ≡ reading l bytes at

-- the head of a page that was read is that of the bytes, and stands whole
pub page_is_read : (bytes : List ℕ) (at : ℕ) (r : CompressedPage) → Some r ≡ read_of compressed_page bytes at
    → IsRead compressed_page bytes at r
page_is_read bytes at r e = record { whole = search rules; is = search rules }

-- the page of an entry that was read
pub page_is : (bytes : List ℕ) (k : ℕ) (entry : PageEntry) (head : CompressedPage) → entry ≡ entry_at bytes k
    → head ≡ reading compressed_page bytes entry.page_offset → head ≡ page_at bytes k
unfolding page_at
page_is bytes k entry head entry_is head_is =
    head_is ∙ ap (λ (e : PageEntry). reading compressed_page bytes e.page_offset) entry_is

-- how many LSDA entries are between two entries that were read
pub lsdas_are : (bytes : List ℕ) (k : ℕ) (entry next : PageEntry) → entry ≡ entry_at bytes k → next ≡ entry_at bytes (k + 1)
    → (next.lsda_index_offset - entry.lsda_index_offset) / 8 ≡ lsda_count bytes k
lsdas_are bytes k entry next entry_is next_is =
    ap (λ (e : PageEntry). (e.lsda_index_offset - entry.lsda_index_offset) / 8) next_is
    ∙ ap (λ (e : PageEntry). ((entry_at bytes (k + 1)).lsda_index_offset - e.lsda_index_offset) / 8) entry_is

-- what is said of the records that were read is said of those of the bytes, and the other way round
pub page_whole : (bytes : List ℕ) (k : ℕ) (entry : PageEntry) (head : CompressedPage) (lsdas : ℕ) → entry ≡ entry_at bytes k
    → head ≡ page_at bytes k → lsdas ≡ lsda_count bytes k → IsWholePage bytes entry head lsdas → HasPage bytes k
page_whole bytes k entry head lsdas entry_is head_is lsdas_is whole =
    subst (λ (n : ℕ). IsWholePage bytes (entry_at bytes k) (page_at bytes k) n) lsdas_is
    (subst (λ (h : CompressedPage). IsWholePage bytes (entry_at bytes k) h lsdas) head_is
    (subst (λ (e : PageEntry). IsWholePage bytes e head lsdas) entry_is whole))

-- a page that the bytes have whole is whole by the records that were read
pub page_was_whole : (bytes : List ℕ) (k : ℕ) (entry : PageEntry) (head : CompressedPage) (lsdas : ℕ) → entry ≡ entry_at bytes k
    → head ≡ page_at bytes k → lsdas ≡ lsda_count bytes k → HasPage bytes k → IsWholePage bytes entry head lsdas
page_was_whole bytes k entry head lsdas entry_is head_is lsdas_is whole =
    subst (λ (n : ℕ). IsWholePage bytes entry head n) (sym lsdas_is)
    (subst (λ (h : CompressedPage). IsWholePage bytes entry h (lsda_count bytes k)) (sym head_is)
    (subst (λ (e : PageEntry). IsWholePage bytes e (page_at bytes k) (lsda_count bytes k)) (sym entry_is) whole))
