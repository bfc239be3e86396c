-- What is told of a segment: its record, then the starts of its pages.
--
-- The starts are put where the record ends, and then the record in front of them, so both are one put. A segment without pages has no
-- bytes, and nothing is written for it.
use Rattle.std.proofs.Common.{◌≡◌, ℕ, ◌+◌, ◌*◌, ◌/◌, ◌≤◌, ◌==◌, true, false, List, [], ◌++◌, length, arith, refl, sym, ap, ◌∙◌}
use Rattle.std.proofs.lemmas.Bool.Decides.{nat_tests}
use Rattle.std.proofs.lemmas.List.{length-append}
use Rattle.macho_bytes.specs.Texts.{put}
use Rattle.macho_bytes.proofs.Puts.{put_nothing}
use Rattle.macho_fixups.proofs.PutOrder.{put_in_front}
use Rattle.macho_model.specs.Segments.{SEGMENT_PAGE}
use Rattle.macho_fixups.specs.declared.run.Fixup.{Fixup}
use Rattle.macho_fixups.specs.declared.run.FixupSegment.{FixupSegment}
use Rattle.macho_fixups.specs.Tables.{starts_text, starts_size, starts_record, page_starts_text}
use Rattle.macho_bytes.specs.Spellings.{spelling}
use Rattle.macho_wire.specs.Spellings.{chained_starts_in_segment_rows}

-- a segment without pages
pub nothing_told : (base at pages : ℕ) (fixups : List Fixup) (s : FixupSegment) (out : List ℕ) → pages ≡ 0 → at ≤ length out
    → (out ≡ put at (starts_text base fixups s pages) out) × (length (starts_text base fixups s pages) ≡ starts_size pages)
unfolding starts_text
nothing_told base at pages fixups s out none fits =
    let yes : (pages == 0) ≡ true = grind (arith, nat_tests) in
    let text : starts_text base fixups s pages ≡ [] = rw yes refl in
    let size : starts_size pages ≡ 0 = rw yes refl in
    (sym (ap (λ (t : List ℕ). put at t out) text ∙ put_nothing at out fits), omega (arith, ap length text, size))

-- the room for what is told of a segment with pages
pub room_of : (pages : ℕ) → 1 ≤ pages → starts_size pages ≡ 22 + 2 * pages
room_of pages some =
    let no : (pages == 0) ≡ false = grind (arith, nat_tests) in
    rw no refl

-- a segment with pages
pub segment_told : (base at pages : ℕ) (fixups : List Fixup) (s : FixupSegment) (out a b : List ℕ) → (pages ≡ 0 → ⊥)
    → at + starts_size pages ≤ length out → length (spelling chained_starts_in_segment_rows (starts_record base s pages)) ≡ 22
    → length (page_starts_text fixups (s.address / SEGMENT_PAGE) pages) ≡ 2 * pages
    → a ≡ put (at + 22) (page_starts_text fixups (s.address / SEGMENT_PAGE) pages) out
    → b ≡ put at (spelling chained_starts_in_segment_rows (starts_record base s pages)) a
    → (b ≡ put at (starts_text base fixups s pages) out) × (length (starts_text base fixups s pages) ≡ starts_size pages)
unfolding starts_text
segment_told base at pages fixups s out a b some room head rest first second =
    let no : (pages == 0) ≡ false = grind (arith, nat_tests) in
    let record_text : List ℕ = spelling chained_starts_in_segment_rows (starts_record base s pages) in
    let pages_text : List ℕ = page_starts_text fixups (s.address / SEGMENT_PAGE) pages in
    let text : starts_text base fixups s pages ≡ record_text ++ pages_text = rw no refl in
    let size : starts_size pages ≡ 22 + 2 * pages = rw no refl in (
      second ∙ ap (put at record_text) first
          ∙ put_in_front at (at + 22) record_text pages_text out (omega (arith, head)) (omega (arith, rest, room, size))
          ∙ ap (λ (t : List ℕ). put at t out) (sym text),
      omega (arith, ap length text, length-append record_text pages_text, head, rest, size),
    )
