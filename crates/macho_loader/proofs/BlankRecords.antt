-- Records of starts in which no page has a start.
--
-- A segment's pages have their starts in its record, which begins at a place. So two segments whose records begin at one place have the
-- same starts, if they have any: where no page of the one has a start, none of the other has. Without a start no page has a word that
-- fails.
use Rattle.std.proofs.Common.{◌≡◌, ℕ, ◌+◌, ◌*◌, ◌<◌, ◌≤◌, nat_lt, ◌==◌, Bool, true, false, List, [], map, length, slice_index}
use Rattle.std.proofs.Common.{refl, sym, ap, subst, ◌∙◌, arith, if◌then◌else◌}
use Rattle.std.specs.List.{range_with_len}
use Rattle.macho_bytes.specs.Numbers.{le_at}
use Rattle.macho_bytes.specs.Layouts.{reading, size_of}
use Rattle.macho_records.specs.CommandLayouts.{chained_starts_in_segment}
use Rattle.macho_model.specs.Chain.{chain_segments}
use Rattle.macho_model.specs.Images.{Table, starts_count, starts_offset, segment_starts, segment_starts_place, page_start, NO_START}
use Rattle.macho_image_walks.specs.declared.walk.Listed.TheVariants as list
use Rattle.macho_image_walks.specs.Readings.{IsNth, starts_in, starts_of, table_there}
use Rattle.macho_image_walks.specs.steps.Walks.{chain_segment_at}
use Rattle.macho_image_walks.specs.steps.WordTests.{FitOnPage}
use Rattle.macho_image_walks.proofs.ChainSets.{page_has_start}
use Rattle.macho_image_walks.proofs.UnfitWords.{fit_without_start}
use Rattle.macho_image_walks.proofs.WordWalk.{length_starts, start_is, starts_found}
use Rattle.macho_loader.specs.steps.Blank.{HasNoStart, IsBlank}

-- a segment has a record of starts
record HasRecord (b : List ℕ) (t : Table) (k : ℕ) : Type 0 where
  among : nat_lt k (starts_count b t) ≡ true
  some : (starts_offset b t k == 0) ≡ false

has_record : (b : List ℕ) (t : Table) (k page : ℕ) → page < length (starts_in b t k) → HasRecord b t k
has_record b t k page within = cases (nat_lt k (starts_count b t)) (starts_offset b t k == 0) refl refl within
  where
    ones : List ℕ
    ones = map (page_start b t k) (range_with_len 0 (segment_starts b t k).page_count)

    cases : (x y : Bool) → nat_lt k (starts_count b t) ≡ x → (starts_offset b t k == 0) ≡ y
        → page < length (if x then (if y then [] else ones) else []) → HasRecord b t k
    cases true true _ _ lt = absurd (omega (arith, lt))
    cases false y _ _ lt = absurd (omega (arith, lt))
    cases true false among some lt = record { among = among; some = some }

-- segments whose records begin at one place have the same starts
same_start : (b : List ℕ) (t : Table) (k m page : ℕ) → segment_starts_place b t k ≡ segment_starts_place b t m
    → page < length (starts_in b t k) → 1 ≤ length (starts_in b t m)
    → (page < length (starts_in b t m)) × (slice_index (starts_in b t k) page ≡ slice_index (starts_in b t m) page)
same_start b t k m page same within some =
    let one = has_record b t k page within in
    let other = has_record b t m 0 some in
    let long = length_starts b t k one.among one.some in
    let long_too = length_starts b t m other.among other.some in
    let pages : (segment_starts b t k).page_count ≡ (segment_starts b t m).page_count =
    ap (λ (p : ℕ). (reading chained_starts_in_segment b p).page_count) same in
    let among : page < length (starts_in b t m) = omega (arith, within, long, long_too, pages) in
    let read : page_start b t k page ≡ page_start b t m page =
    ap (λ (p : ℕ). le_at 2 b (p + size_of chained_starts_in_segment + 2 * page)) same in
    (among, sym (start_is b t k page within) ∙ read ∙ start_is b t m page among)

-- no page has a start whose record begins at the place of one without a start
pub blank_place : (b : List ℕ) (table number at : ℕ) → IsNth list.Tables b 0 table
    → at ≡ segment_starts_place b (table_there b table) number
    → 1 ≤ length (starts_in b (table_there b table) number) → HasNoStart b number → IsBlank b table at
blank_place b table number at first is some none =
    let own = starts_found b number table first in
    record {
      none = λ k same page within.
          let there = starts_found b k table first in
          let both = same_start b (table_there b table) k number page (same ∙ is) (subst (λ xs. page < length xs) there within) some in
          ap (λ (xs : List ℕ). slice_index xs page) there ∙ both.1 ∙ sym (ap (λ (xs : List ℕ). slice_index xs page) own)
          ∙ none page (subst (λ xs. page < length xs) (sym own) both.0);
    }

-- no record begins at place 0
pub none_at_zero : (b : List ℕ) (table : ℕ) → IsNth list.Tables b 0 table → IsBlank b table 0
none_at_zero b table first =
    record {
      none = λ k same page within.
          let there = starts_found b k table first in
          let has = has_record b (table_there b table) k page (subst (λ xs. page < length xs) there within) in
          let none : starts_offset b (table_there b table) k ≡ 0 = omega (arith, same) in
          let some : (0 == 0) ≡ false = subst (λ (n : ℕ). (n == 0) ≡ false) none has.some in
          cc;
    }

-- the start that stands in a segment's record
pub start_there : (b : List ℕ) (table number at page start : ℕ) → IsNth list.Tables b 0 table
    → at ≡ segment_starts_place b (table_there b table) number → page < length (starts_in b (table_there b table) number)
    → start ≡ le_at 2 b (at + (22 + 2 * page)) → slice_index (starts_of b number) page ≡ start
start_there b table number at page start first is within read =
    let t = table_there b table in
    let there : segment_starts_place b t number + size_of chained_starts_in_segment + 2 * page ≡ at + (22 + 2 * page) = omega (arith, is) in
    ap (λ (xs : List ℕ). slice_index xs page) (starts_found b number table first) ∙ sym (start_is b t number page within)
    ∙ ap (λ (p : ℕ). le_at 2 b p) there ∙ sym read

-- a segment without a start has no word that fails
pub fit_without : (b : List ℕ) (number place page : ℕ) → HasNoStart b number → FitOnPage b number place page
fit_without b number place page none a on =
    let among = page_has_start (chain_segments b) b (chain_segment_at b number place) page a on in
    fit_without_start b number place page NO_START (sym (none page among)) refl a on
