-- The table from its parts, and the room for it.
--
-- Starts, imports and names are put each where the one before ends, and the header in front of them: so all are one
-- put. Each segment with pages takes 22 bytes and two for each page, and there are six at most: so the table has no
-- more bytes than are kept for it, whose sum is rounded up.
use Rattle.std.proofs.Common.{◌≡◌, ℕ, ◌+◌, ◌*◌, ◌^◌, ◌<◌, ◌≤◌, ◌==◌, List, [], ◌∷◌, ◌++◌, length, arith, refl, ap, ◌∙◌, true, false, inl, inr, if◌then◌else◌}
use Rattle.std.specs.Prelude.{sum_by}
use Rattle.std.proofs.Math.Nat.{mul-le-mul}
use Rattle.std.proofs.lemmas.Bool.{cases_lt}
use Rattle.std.proofs.lemmas.Bool.Decides.{nat_tests}
use Rattle.std.proofs.lemmas.List.{length-append, append_assoc}
use Rattle.std.proofs.lemmas.List.Sums.{sum_by-cons}
use Rattle.macho_bytes.specs.Texts.{put}
use Rattle.macho_bytes.proofs.Numbers.{little_is_sound}
use Rattle.macho_bytes.proofs.Layouts.{length-spelling}
use Rattle.macho_wire.specs.declared.fixups.ChainedFixupsHeader.{ChainedFixupsHeader}
use Rattle.macho_bytes.proofs.Puts.{put-put}
use Rattle.macho_model.specs.Images.{import_entry_size}
use Rattle.macho_fixups.specs.declared.run.Fixup.{Fixup}
use Rattle.macho_fixups.specs.declared.run.FixupSegment.{FixupSegment}
use Rattle.macho_fixups.specs.declared.imports.ImportEntry.{ImportEntry}
use Rattle.macho_fixups.specs.Runs.{pages_of}
use Rattle.macho_fixups.specs.Tables.{segment_size, starts_size, image_starts_size, names_place, imports_place, table_room}
use Rattle.macho_fixups.specs.Calls.{AreEntries, FitsTable, all_pages}
use Rattle.macho_fixups.proofs.SegmentWrites.{sum_bound}
use Rattle.macho_fixups.proofs.PutOrder.{put_in_front}
use Rattle.macho_bytes.specs.Spellings.{spelling}
use Rattle.macho_wire.specs.Spellings.{chained_fixups_header_rows}

-- four texts put next to each other, the first of them last
pub joined : (b c d : ℕ) (h s i n out : List ℕ) → b ≡ length h → c ≡ b + length s → d ≡ c + length i → d + length n ≤ length out
    → put 0 h (put d n (put c i (put b s out))) ≡ put 0 (h ++ (s ++ (i ++ n))) out
joined b c d h s i n out at_b at_c at_d fits =
    let two = length-append s i in
    let all = length-append (s ++ i) n in
    ap (λ (o : List ℕ). put 0 h (put d n o)) (put-put b c s i out at_c (omega arith))
    ∙ ap (put 0 h) (put-put b d (s ++ i) n out (omega (arith, two)) fits)
    ∙ put_in_front 0 b h ((s ++ i) ++ n) out (omega arith) (omega (arith, two, all))
    ∙ ap (λ (t : List ℕ). put 0 (h ++ t) out) (append_assoc s i n)

-- and their length
pub joined_long : (h s i n : List ℕ) → length (h ++ (s ++ (i ++ n))) ≡ length h + length s + length i + length n
joined_long h s i n = omega (arith, length-append h (s ++ (i ++ n)), length-append s (i ++ n), length-append i n)

-- the header has 28 bytes
pub header_long : (h : ChainedFixupsHeader) → length (spelling chained_fixups_header_rows h) ≡ 28
header_long h = length-spelling chained_fixups_header_rows h little_is_sound (refl, tt)

-- an entry has at most eight bytes
entry_at_most : (format : ℕ) → import_entry_size format ≤ 8
entry_at_most format = elim (format == 2) as (λ b. (if b then 8 else 4) ≤ 8) [ true ↦ omega arith | false ↦ omega arith ]

-- the place of the names is small
pub names_near : (base format : ℕ) (fixups : List Fixup) (segments : List FixupSegment) (imports : List ImportEntry)
    → FitsTable base fixups segments
    → AreEntries format imports → (imports_place fixups segments < 2 ^ 32) × (names_place fixups segments format imports < 2 ^ 32)
unfolding image_starts_size
names_near base format fixups segments imports fits entries =
    let most = sum_bound fixups segments fits.pages in
    let size : import_entry_size format * length imports ≤ 8 * 2 ^ 24 = mul-le-mul (entry_at_most format) entries.count in
    (omega (arith, most, fits.count), omega (arith, most, fits.count, size))

-- the texts of segments, by their pages
texts_by_pages : (fixups : List Fixup) (segments : List FixupSegment)
    → sum_by (segment_size fixups) segments ≤ 22 * length segments + 2 * all_pages fixups segments
unfolding segment_size
texts_by_pages fixups [] = omega arith
texts_by_pages fixups (s ∷ segments) =
    omega (
      arith,
      sum_by-cons (λ t. starts_size (pages_of t fixups)) s segments,
      sum_by-cons (λ t. pages_of t fixups) s segments,
      texts_by_pages fixups segments,
      one (pages_of s fixups),
    )
  where
    one : (p : ℕ) → starts_size p ≤ 22 + 2 * p
    one p = elim (cases_lt 0 p) [
      | inl some ↦
          let no : (p == 0) ≡ false = grind (arith, nat_tests) in
          let size : starts_size p ≡ 22 + 2 * p = rw no refl in omega (arith, size)
      | inr none ↦
          let yes : (p == 0) ≡ true = grind (arith, nat_tests) in
          let size : starts_size p ≡ 0 = rw yes refl in omega (arith, size)
    ]

-- the table fits the room
pub table_fits : (base format names : ℕ) (fixups : List Fixup) (segments : List FixupSegment) (imports : List ImportEntry)
    → FitsTable base fixups segments
    → names_place fixups segments format imports + names
    ≤ table_room (length imports) (import_entry_size format) names (all_pages fixups segments)
unfolding image_starts_size
table_fits base format names fixups segments imports fits =
    let texts = texts_by_pages fixups segments in
    omega (arith, texts, fits.count)
