-- A section says the plan that it was made of.
--
-- Where a record's spelling stands the record is read back, if its fields fit: places are at most the last page's place,
-- which fits 32 bits; starts and encodings fit by the plan. Where a row of words stands each word is read back. The tables
-- are whole since all of the section is inside the bytes.
use Rattle.std.proofs.Common.{◌≡◌, ℕ, ◌+◌, ◌-◌, ◌*◌, ◌^◌, ◌<◌, ◌≤◌, true, false, nat_lt, List, [], ◌++◌, length, get_or, if◌then◌else◌, slice_index, Option, Some, None, sym, ap, subst, ◌∙◌, refl, arith, inl, inr}
use Rattle.std.specs.List.{range_with_len}
use Rattle.std.proofs.lemmas.Bool.{cases_lt}
use Rattle.std.proofs.lemmas.Bool.Decides.{nat_tests}
use Rattle.std.proofs.lemmas.List.{get_or_append_left, get_or-append_right}
use Rattle.std.proofs.lemmas.List.FromFn.{length-range_with_len, get_or-range_with_len}
use Rattle.std.proofs.lemmas.List.Sums.{count_by-le-length}
use Rattle.macho_bytes.specs.Numbers.{le_at}
use Rattle.macho_bytes.specs.Texts.{Stands}
use Rattle.macho_bytes.specs.Layouts.{reading}
use Rattle.macho_bytes.proofs.Tables.{table-stands}
use Rattle.macho_bytes.proofs.Layouts.{reading-stands_little}
use Rattle.macho_unwind_pages.specs.declared.plans.Lsda.{Lsda}
use Rattle.macho_unwind_pages.specs.Plans.{PlanList, IsPlan, IsPage}
use Rattle.macho_unwind_pages.proofs.Implied.{word_fits}
use Rattle.macho_unwind.specs.declared.records.CompactUnwindInfoHeader.{CompactUnwindInfoHeader}
use Rattle.macho_unwind.specs.declared.records.PageEntry.{PageEntry}
use Rattle.macho_unwind.specs.declared.records.CompressedPage.{CompressedPage}
use Rattle.macho_unwind.specs.Layouts.{page_entry, compressed_page}
use Rattle.macho_unwind.specs.Sections.{header_of, entry_at, page_at, word_at, encoding_at, personality_at, HasTables}
use Rattle.macho_unwind.specs.Texts.{HasPlaces, personalities_place, entries_place, pages_place, page_place, page_of}
use Rattle.macho_unwind.specs.steps.Tables.{lsda_place, entry_text}
use Rattle.macho_unwind.proofs.Lengths.{length-entry_text}
use Rattle.macho_unwind.proofs.Places.{place-grows}
use Rattle.macho_unwind.proofs.Standing.{PlanStands, PageStands, word-stands, page-stands, page-parts}
use Rattle.macho_unwind.specs.Spellings.{compact_unwind_info_header_rows, page_entry_rows, compressed_page_rows}
use Rattle.macho_unwind.specs.steps.Records.{header_for, entry_for, last_entry_for, head_for}

-- a page of a plan
pub formed_at : (plan : PlanList) (k : ℕ) → IsPlan plan → k < length plan.pages → IsPage plan.globals (page_of plan k)
formed_at plan k formed lt = formed.pages k (record { first = 0; words = []; locals = [] }) lt

-- places fit
pub place-fits : (plan : PlanList) (k : ℕ) → HasPlaces plan → k < length plan.pages → page_place plan k < 2 ^ 32
place-fits plan k places lt = omega (arith, place-grows plan k (length plan.pages - 1) (omega arith), places.fits)

tables-fit : (plan : PlanList) → HasPlaces plan → pages_place plan < 2 ^ 32
tables-fit plan places = omega (arith, place-fits plan 0 places (omega (arith, places.some)))

-- the LSDAs of a start begin in the table or where it ends, so not behind the first page's place
pub lsda_place-within : (plan : PlanList) (start : ℕ) → lsda_place plan start ≤ pages_place plan
lsda_place-within plan start = omega (arith, count_by-le-length (λ (l : Lsda). nat_lt l.function start) plan.lsdas)

-- the records
pub header-read : (bytes : List ℕ) (plan : PlanList) → HasPlaces plan → PlanStands bytes plan → header_of bytes ≡ header_for plan
header-read bytes plan places s =
    let fits = tables-fit plan places in
    reading-stands_little compact_unwind_info_header_rows (header_for plan) bytes 0 refl
    (((omega arith, (omega arith, (omega arith, (omega arith, (omega arith, (omega arith, (omega arith, tt))))))), refl), tt) refl s.header

-- what is read at a place of the page entries
entry-place : (bytes : List ℕ) (plan : PlanList) (k : ℕ) → header_of bytes ≡ header_for plan
    → entry_at bytes k ≡ reading page_entry bytes (entries_place plan + 12 * k)
unfolding entry_at
entry-place bytes plan k header = ap (λ (h : CompactUnwindInfoHeader). reading page_entry bytes (h.pages_offset + 12 * k)) header

-- the entry of a page is read back
pub entry-read : (bytes : List ℕ) (plan : PlanList) (k : ℕ) → IsPlan plan → HasPlaces plan → PlanStands bytes plan → k < length plan.pages
    → entry_at bytes k ≡ entry_for plan k
entry-read bytes plan k formed places s lt =
    let range = range_with_len 0 (length plan.pages) in
    let within : k < length range = omega (arith, length-range_with_len 0 (length plan.pages)) in
    let number : get_or range k 0 ≡ k = omega (arith, get_or-range_with_len 0 (length plan.pages) k 0 lt) in
    let stands = table-stands (entry_text plan) 12 range (entries_place plan) k 0 bytes
    (record { long = λ j d h. length-entry_text plan (get_or range j d) }) within s.entries in
    let here = subst (λ (n : ℕ). Stands bytes (record { at = entries_place plan + 12 * k; text = entry_text plan n })) number stands in
    let fits = tables-fit plan places in
    let place = place-fits plan k places lt in
    let lsda = lsda_place-within plan (page_of plan k).first in
    let start = (formed_at plan k formed lt).start in
    entry-place bytes plan k (header-read bytes plan places s)
    ∙ reading-stands_little page_entry_rows (entry_for plan k) bytes (entries_place plan + 12 * k) refl
    (((omega arith, (omega arith, (omega arith, tt))), refl), tt) refl here

-- the last entry is read back, behind those of the pages
pub last-read : (bytes : List ℕ) (plan : PlanList) → IsPlan plan → HasPlaces plan → PlanStands bytes plan
    → entry_at bytes (length plan.pages) ≡ last_entry_for plan
last-read bytes plan formed places s =
    let fits = tables-fit plan places in
    entry-place bytes plan (length plan.pages) (header-read bytes plan places s)
    ∙ reading-stands_little page_entry_rows (last_entry_for plan) bytes (entries_place plan + 12 * length plan.pages) refl
    (((omega (arith, formed.end), (omega arith, (omega arith, tt))), refl), tt) refl s.last

-- the parts of a page
pub page-here : (bytes : List ℕ) (plan : PlanList) (k : ℕ) → PlanStands bytes plan → k < length plan.pages
    → PageStands bytes (page_place plan k) (page_of plan k)
page-here bytes plan k s lt =
    page-parts bytes (page_place plan k) (page_of plan k)
    (page-stands plan.pages bytes (pages_place plan) k (record { first = 0; words = []; locals = [] }) lt s.pages)

-- the head of a page is read back
pub head-read : (bytes : List ℕ) (plan : PlanList) (k : ℕ) → IsPlan plan → HasPlaces plan → PlanStands bytes plan → k < length plan.pages
    → page_at bytes k ≡ head_for (page_of plan k)
unfolding page_at
head-read bytes plan k formed places s lt =
    let room = (formed_at plan k formed lt).room in
    ap (λ (e : PageEntry). reading compressed_page bytes e.page_offset) (entry-read bytes plan k formed places s lt)
    ∙ reading-stands_little compressed_page_rows (head_for (page_of plan k)) bytes (page_place plan k) refl
    (((omega arith, tt), refl), (((omega arith, (omega arith, (omega arith, (omega arith, tt)))), refl), tt)) refl
    (page-here bytes plan k s lt).head

-- each word of a page is read back
pub word-read : (bytes : List ℕ) (plan : PlanList) (k j : ℕ) → IsPlan plan → HasPlaces plan → PlanStands bytes plan → k < length plan.pages
    → j < length (page_of plan k).words
    → word_at bytes k j ≡ slice_index (page_of plan k).words j
unfolding word_at
word-read bytes plan k j formed places s lt within =
    ap (λ (e : PageEntry). le_at 4 bytes (e.page_offset + (page_at bytes k).functions_offset + 4 * j))
    (entry-read bytes plan k formed places s lt)
    ∙ ap (λ (h : CompressedPage). le_at 4 bytes (page_place plan k + h.functions_offset + 4 * j))
    (head-read bytes plan k formed places s lt)
    ∙ word-stands (page_of plan k).words bytes (page_place plan k + 12) j within
    (word_fits plan k j (record { first = 0; words = []; locals = [] }) 0 formed lt within) (page-here bytes plan k s lt).words

-- the encoding of a number, by the records that tell where encodings are
abbrev encoding_by : List ℕ → CompactUnwindInfoHeader → PageEntry → CompressedPage → ℕ → Option ℕ
encoding_by bytes h e p i =
    if nat_lt i h.global_opcodes_len then Some (le_at 4 bytes (h.global_opcodes_offset + 4 * i))
    else if nat_lt (i - h.global_opcodes_len) p.local_opcodes_len
    then Some (le_at 4 bytes (e.page_offset + p.local_opcodes_offset + 4 * (i - h.global_opcodes_len)))
    else None

encoding-told : (bytes : List ℕ) (k i : ℕ)
    → encoding_at bytes k i ≡ encoding_by bytes (header_of bytes) (entry_at bytes k) (page_at bytes k) i
unfolding encoding_at
encoding-told bytes k i = refl

encoding-shared : (bytes : List ℕ) (plan : PlanList) (k i : ℕ) → IsPlan plan → PlanStands bytes plan → i < length plan.globals
    → encoding_by bytes (header_for plan) (entry_for plan k) (head_for (page_of plan k)) i
    ≡ Some (slice_index (plan.globals ++ (page_of plan k).locals) i)
encoding-shared bytes plan k i formed s lt =
    let test : nat_lt i (length plan.globals) ≡ true = grind (arith, nat_tests) in
    rw test (ap Some (word-stands plan.globals bytes 28 i lt (formed.codes i 0 lt) s.globals
    ∙ sym (get_or_append_left plan.globals (page_of plan k).locals 0 i lt)))

encoding-own : (bytes : List ℕ) (plan : PlanList) (k i : ℕ) → IsPlan plan → PlanStands bytes plan → k < length plan.pages
    → length plan.globals ≤ i → i < length plan.globals + length (page_of plan k).locals
    → encoding_by bytes (header_for plan) (entry_for plan k) (head_for (page_of plan k)) i
    ≡ Some (slice_index (plan.globals ++ (page_of plan k).locals) i)
encoding-own bytes plan k i formed s lt past within =
    let none : nat_lt i (length plan.globals) ≡ false = grind (arith, nat_tests) in
    let test : nat_lt (i - length plan.globals) (length (page_of plan k).locals) ≡ true = grind (arith, nat_tests) in
    let own : i - length plan.globals < length (page_of plan k).locals = omega arith in
    rw (none, test) (ap Some (
    word-stands (page_of plan k).locals bytes (page_place plan k + (12 + 4 * length (page_of plan k).words)) (i - length plan.globals) own
    ((formed_at plan k formed lt).codes (i - length plan.globals) 0 own) (page-here bytes plan k s lt).locals
    ∙ sym (get_or-append_right plan.globals (page_of plan k).locals (length plan.globals) i 0 refl past)))

-- the encoding of each number of a page is read back: of all pages first, then of the page alone
pub encoding-read : (bytes : List ℕ) (plan : PlanList) (k i : ℕ) → IsPlan plan → HasPlaces plan
    → PlanStands bytes plan → k < length plan.pages → i < length plan.globals + length (page_of plan k).locals
    → encoding_at bytes k i ≡ Some (slice_index (plan.globals ++ (page_of plan k).locals) i)
encoding-read bytes plan k i formed places s lt within =
    let told = encoding-told bytes k i
    ∙ ap (λ (h : CompactUnwindInfoHeader). encoding_by bytes h (entry_at bytes k) (page_at bytes k) i) (header-read bytes plan places s)
    ∙ ap (λ (e : PageEntry). encoding_by bytes (header_for plan) e (page_at bytes k) i) (entry-read bytes plan k formed places s lt)
    ∙ ap (λ (p : CompressedPage). encoding_by bytes (header_for plan) (entry_for plan k) p i) (head-read bytes plan k formed places s lt) in
    elim (cases_lt i (length plan.globals)) [
      | inl shared ↦ told ∙ encoding-shared bytes plan k i formed s shared
      | inr past ↦ told ∙ encoding-own bytes plan k i formed s lt past within
    ]

-- the slot of each personality's number is read back
pub personality-read : (bytes : List ℕ) (plan : PlanList) (n : ℕ) → IsPlan plan → HasPlaces plan → PlanStands bytes plan → 1 ≤ n
    → n ≤ length plan.personalities
    → personality_at bytes n ≡ slice_index plan.personalities (n - 1)
unfolding personality_at
personality-read bytes plan n formed places s one within =
    let lt : n - 1 < length plan.personalities = omega arith in
    ap (λ (h : CompactUnwindInfoHeader). le_at 4 bytes (h.personalities_offset + 4 * (n - 1))) (header-read bytes plan places s)
    ∙ word-stands plan.personalities bytes (personalities_place plan) (n - 1) lt (formed.slots (n - 1) 0 lt) s.personalities

-- the tables that the header tells of are whole
pub tables-read : (bytes : List ℕ) (plan : PlanList) → HasPlaces plan → PlanStands bytes plan → HasTables bytes
tables-read bytes plan places s =
    let header = sym (header-read bytes plan places s) in
    let whole = s.whole in record {
      header = omega arith;
      encodings = subst (λ (h : CompactUnwindInfoHeader). h.global_opcodes_offset + 4 * h.global_opcodes_len ≤ length bytes)
          header (omega arith);
      personalities = subst (λ (h : CompactUnwindInfoHeader). h.personalities_offset + 4 * h.personalities_len ≤ length bytes)
          header (omega arith);
      pages = subst (λ (h : CompactUnwindInfoHeader). h.pages_offset + 12 * h.pages_len ≤ length bytes) header (omega arith);
    }
