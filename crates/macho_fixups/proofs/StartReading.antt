-- The starts of a table that stands in a file, read back.
--
-- The number of segments and the offsets stand one behind the other, and behind them what is told of each segment, at
-- the place that its offset tells. There its record says how many pages it has, and each page's start stands two
-- bytes behind the one before it. A segment without pages has the offset 0, and no starts are read.
use Rattle.std.proofs.Common.{◌≡◌, ℕ, zero, suc, ◌+◌, ◌*◌, ◌/◌, ◌%◌, ◌^◌, ◌<◌, ◌≤◌, ◌==◌, Bool, true, false, List, [], ◌∷◌, ◌++◌, length, get_or, take, arith, refl, sym, ap, subst, ◌∙◌, inl, inr, if◌then◌else◌}
use Rattle.std.specs.Prelude.{sum_by}
use Rattle.std.specs.List.{flat_map, range_with_len}
use Rattle.std.proofs.lemmas.Bool.{cases_lt}
use Rattle.std.proofs.lemmas.Bool.Decides.{nat_tests}
use Rattle.std.proofs.lemmas.List.{length-append}
use Rattle.std.proofs.lemmas.List.Sums.{sum_by-cons}
use Rattle.std.proofs.lemmas.List.FromFn.{length-range_with_len, get_or-range_with_len}
use Rattle.macho_bytes.specs.Numbers.{little, le_at, le_bytes}
use Rattle.macho_bytes.specs.Texts.{Stands}
use Rattle.macho_bytes.proofs.Numbers.{little_is_sound, number-stands, stands-front, stands-back}
use Rattle.macho_bytes.proofs.Layouts.{length-spelling, reads_back}
use Rattle.macho_bytes.proofs.Tables.{EachLong, length-table, table-stands}
use Rattle.macho_wire.specs.declared.fixups.ChainedStartsInSegment.{ChainedStartsInSegment}
use Rattle.macho_model.specs.Images.{Table, starts_place, starts_offset, segment_starts, segment_starts_place}
use Rattle.macho_model.specs.Segments.{SEGMENT_PAGE}
use Rattle.macho_fixups.specs.declared.run.Fixup.{Fixup}
use Rattle.macho_fixups.specs.declared.run.FixupSegment.{FixupSegment}
use Rattle.macho_fixups.specs.Runs.{pages_of, start_of}
use Rattle.macho_fixups.specs.Tables.{offsets_text, segment_text, segment_size, starts_text, starts_size, starts_record, page_starts_text}
use Rattle.macho_fixups.proofs.FirstWords.{start_text}
use Rattle.macho_fixups.specs.Calls.{FitsTable}
use Rattle.macho_fixups.proofs.Cuts.{pages_of-no_bytes}
use Rattle.macho_fixups.proofs.SegmentWrites.{offset_at, sum_bound}
use Rattle.macho_bytes.specs.Spellings.{spelling, ReadsBack}
use Rattle.macho_wire.specs.Spellings.{chained_starts_in_segment_rows}

-- each start has two bytes
two_bytes : (fixups : List Fixup) (first pages : ℕ) → EachLong (start_text fixups first) 2 (range_with_len 0 pages)
two_bytes fixups first pages = record {
  long = λ k d lt. little_is_sound.long 2 (start_of fixups
      (first + get_or (range_with_len 0 pages) k d));
}

length-page_starts : (fixups : List Fixup) (first pages : ℕ) → length (page_starts_text fixups first pages) ≡ 2 * pages
unfolding page_starts_text
length-page_starts fixups first pages =
    length-table (start_text fixups first) 2 (range_with_len 0 pages) (two_bytes fixups first pages)
    ∙ ap (λ (n : ℕ). 2 * n) (length-range_with_len 0 pages)

pub record_long : (r : ChainedStartsInSegment) → length (spelling chained_starts_in_segment_rows r) ≡ 22
record_long r = length-spelling chained_starts_in_segment_rows r little_is_sound (refl, (refl, (refl, (refl, (refl, tt)))))

-- a segment's text by its pages
pub text_some : (base pages : ℕ) (fixups : List Fixup) (s : FixupSegment) → 0 < pages
    → starts_text base fixups s pages
    ≡ spelling chained_starts_in_segment_rows (starts_record base s pages) ++ page_starts_text fixups (s.address / SEGMENT_PAGE) pages
unfolding starts_text
text_some base pages fixups s some = let other : (pages == 0) ≡ false = grind (arith, nat_tests) in rw other refl

pub text_long : (base : ℕ) (fixups : List Fixup) (s : FixupSegment) → length (segment_text base fixups s) ≡ segment_size fixups s
unfolding segment_text segment_size starts_text
text_long base fixups s =
    elim (cases_lt 0 (pages_of s fixups)) [
      | inl some ↦
          let other : (pages_of s fixups == 0) ≡ false = grind (arith, nat_tests) in
          let size : starts_size (pages_of s fixups) ≡ 22 + 2 * pages_of s fixups = rw other refl in
          omega (
            arith,
            size,
            ap length (text_some base (pages_of s fixups) fixups s some),
            length-append (spelling chained_starts_in_segment_rows (starts_record base s (pages_of s fixups)))
                (page_starts_text fixups (s.address / SEGMENT_PAGE) (pages_of s fixups)),
            record_long (starts_record base s (pages_of s fixups)),
            length-page_starts fixups (s.address / SEGMENT_PAGE) (pages_of s fixups),
          )
      | inr none ↦ let yes : (pages_of s fixups == 0) ≡ true = grind (arith, nat_tests) in rw yes refl
    ]

-- a start fits two bytes
start_small : (fixups : List Fixup) (number : ℕ) → start_of fixups number < 256 ^ 2
unfolding start_of
start_small [] number = omega arith
start_small (f ∷ fixups) number =
    let rest = start_small fixups number in
    elim (f.address / SEGMENT_PAGE == number) as (λ t. (if t then f.address % SEGMENT_PAGE else start_of fixups number) < 256 ^ 2) [
      | true ↦ omega arith
      | false ↦ rest
    ]

-- the offset of a segment among those that stand
pub offset_stands : (b : List ℕ) (fixups : List Fixup) (p place : ℕ) (xs : List FixupSegment) (k : ℕ) (d : FixupSegment)
    → place + sum_by (segment_size fixups) xs < 2 ^ 32 → Stands b (record { at = p; text = offsets_text place fixups xs }) → k < length xs
    → le_at 4 b (p + 4 * k) ≡ offset_at (place + sum_by (segment_size fixups) (take k xs)) fixups (get_or xs k d)
unfolding offsets_text
offset_stands b fixups p place [] k d small s lt = absurd (omega arith)
offset_stands b fixups p place (x ∷ xs) zero d small s lt =
    let fits : offset_at place fixups x < 256 ^ 4 = at_most (pages_of x fixups == 0) in
    ap (λ (n : ℕ). le_at 4 b n) (omega arith)
    ∙ number-stands little little_is_sound 4 (offset_at place fixups x) b p fits
    (stands-front b p (le_bytes 4 (offset_at place fixups x)) (offsets_text (place + segment_size fixups x) fixups xs) s)
    ∙ ap (λ (n : ℕ). offset_at n fixups x) (omega arith)
  where
    at_most : (t : Bool) → (if t then 0 else place) < 256 ^ 4
    at_most true = omega arith
    at_most false = omega arith
offset_stands b fixups p place (x ∷ xs) (suc k) d small s lt =
    let rest = offset_stands b fixups (p + 4) (place + segment_size fixups x) xs k d
    (omega (arith, small, sum_by-cons (segment_size fixups) x xs))
    (stands-back b p (p + 4) (le_bytes 4 (offset_at place fixups x)) (offsets_text (place + segment_size fixups x) fixups xs)
    (omega (arith, little_is_sound.long 4 (offset_at place fixups x))) s) (omega arith) in
    ap (λ (n : ℕ). le_at 4 b n) (omega arith) ∙ rest
    ∙ ap (λ (n : ℕ). offset_at n fixups (get_or xs k d)) (omega (arith, sum_by-cons (segment_size fixups) x (take k xs)))

-- the text of a segment among those that stand
pub text_stands : (b : List ℕ) (base p : ℕ) (fixups : List Fixup) (xs : List FixupSegment) (k : ℕ) (d : FixupSegment)
    → Stands b (record { at = p; text = flat_map (segment_text base fixups) xs }) → k < length xs
    → Stands b (record { at = p + sum_by (segment_size fixups) (take k xs); text = segment_text base fixups (get_or xs k d) })
text_stands b base p fixups [] k d s lt = absurd (omega arith)
text_stands b base p fixups (x ∷ xs) zero d s lt =
    subst (λ (n : ℕ). Stands b (record { at = n; text = segment_text base fixups x })) (omega arith)
    (stands-front b p (segment_text base fixups x) (flat_map (segment_text base fixups) xs) s)
text_stands b base p fixups (x ∷ xs) (suc k) d s lt =
    subst (λ (n : ℕ). Stands b (record { at = n; text = segment_text base fixups (get_or xs k d) }))
    (omega (arith, sum_by-cons (segment_size fixups) x (take k xs)))
    (text_stands b base (p + segment_size fixups x) fixups xs k d
    (stands-back b p (p + segment_size fixups x) (segment_text base fixups x) (flat_map (segment_text base fixups) xs)
    (omega (arith, text_long base fixups x)) s) (omega arith))

-- the starts of a page among those that stand
pub start_stands : (b : List ℕ) (fixups : List Fixup) (p first pages page : ℕ)
    → Stands b (record { at = p; text = page_starts_text fixups first pages }) → page < pages
    → le_at 2 b (p + 2 * page) ≡ start_of fixups (first + page)
unfolding page_starts_text
start_stands b fixups p first pages page s lt =
    let here = table-stands (start_text fixups first) 2 (range_with_len 0 pages) p page 0 b (two_bytes fixups first pages)
    (omega (arith, length-range_with_len 0 pages)) s in
    let number : get_or (range_with_len 0 pages) page 0 ≡ page = omega (arith, get_or-range_with_len 0 pages page 0 lt) in
    number-stands little little_is_sound 2 (start_of fixups (first + get_or (range_with_len 0 pages) page 0)) b (p + 2 * page)
    (start_small fixups (first + get_or (range_with_len 0 pages) page 0)) here
    ∙ ap (λ (n : ℕ). start_of fixups (first + n)) number

-- the record of a segment reads back
record_back : (base pages : ℕ) (s : FixupSegment) → pages ≤ 65535 → s.address < 2 ^ 64
    → ReadsBack chained_starts_in_segment_rows (starts_record base s pages)
record_back base pages s few fits =
    reads_back chained_starts_in_segment_rows (starts_record base s pages) little_is_sound (
      ((omega arith, tt), refl),
      (
        ((omega arith, (omega arith, tt)), refl),
        (
          ((omega arith, tt), refl),
          (((omega arith, tt), refl), (((omega arith, tt), refl), tt)),
        ),
      ),
    )
    refl

-- the sum of the texts in front of a segment's
abbrev pub texts_before : List Fixup → List FixupSegment → ℕ → ℕ
texts_before fixups segments k = sum_by (segment_size fixups) (take k segments)

-- the offset that stands for segment k, where all starts have a place
offset_read : (base at : ℕ) (fixups : List Fixup) (segments : List FixupSegment) (b : List ℕ) (t : Table) (k : ℕ) (d : FixupSegment)
    → FitsTable base fixups segments → starts_place b t ≡ at
    → Stands b (record { at = at + 4; text = offsets_text (4 + 4 * length segments) fixups segments }) → k < length segments
    → starts_offset b t k ≡ offset_at (4 + 4 * length segments + texts_before fixups segments k) fixups (get_or segments k d)
offset_read base at fixups segments b t k d fits place offsets lt =
    ap (λ (p : ℕ). le_at 4 b (p + 4 + 4 * k)) place
    ∙ offset_stands b fixups (at + 4) (4 + 4 * length segments) segments k d
    (omega (arith, sum_bound fixups segments fits.pages, fits.count)) offsets lt

-- a segment without pages has the offset 0
pub no_offset : (base at : ℕ) (fixups : List Fixup) (segments : List FixupSegment) (b : List ℕ) (t : Table) (k : ℕ) (d : FixupSegment)
    → FitsTable base fixups segments → starts_place b t ≡ at
    → Stands b (record { at = at + 4; text = offsets_text (4 + 4 * length segments) fixups segments }) → k < length segments
    → pages_of (get_or segments k d) fixups ≡ 0 → starts_offset b t k ≡ 0
no_offset base at fixups segments b t k d fits place offsets lt none =
    let yes : (pages_of (get_or segments k d) fixups == 0) ≡ true = grind (arith, nat_tests) in
    offset_read base at fixups segments b t k d fits place offsets lt
    ∙ ap (λ (e : Bool). if e then 0 else 4 + 4 * length segments + texts_before fixups segments k) yes

-- What is read of a segment with pages: where its record is, what it says, and that its starts stand behind it.
pub record IsRecordRead (base : ℕ) (fixups : List Fixup) (segments : List FixupSegment) (b : List ℕ) (t : Table) (k : ℕ) (s : FixupSegment)
    : Type 0 where
  pub offset : starts_offset b t k ≡ 4 + 4 * length segments + texts_before fixups segments k
  pub is : segment_starts b t k ≡ starts_record base s (pages_of s fixups)
  pub behind : Stands b (record {
    at = segment_starts_place b t k + 22;
    text = page_starts_text fixups (s.address / SEGMENT_PAGE) (pages_of s fixups);
  })

pub record_read : (base at : ℕ) (fixups : List Fixup) (segments : List FixupSegment) (b : List ℕ) (t : Table) (k : ℕ) (d : FixupSegment)
    → FitsTable base fixups segments → starts_place b t ≡ at
    → Stands b (record { at = at + 4; text = offsets_text (4 + 4 * length segments) fixups segments })
    → Stands b (record { at = at + 4 + 4 * length segments; text = flat_map (segment_text base fixups) segments }) → k < length segments
    → 0 < pages_of (get_or segments k d) fixups → IsRecordRead base fixups segments b t k (get_or segments k d)
unfolding segment_text
record_read base at fixups segments b t k d fits place offsets texts lt some =
    record {
      offset = offset;
      is = (record_back base pages s (fits.pages k d lt) small).back b (segment_starts_place b t k)
          (stands-front b (segment_starts_place b t k) (spelling chained_starts_in_segment_rows (starts_record base s pages)) _ parts);
      behind = stands-back b (segment_starts_place b t k) (segment_starts_place b t k + 22)
          (spelling chained_starts_in_segment_rows (starts_record base s pages))
          (page_starts_text fixups (s.address / SEGMENT_PAGE) pages) (omega (arith, record_long (starts_record base s pages))) parts;
    }
  where
    s : FixupSegment
    s = get_or segments k d

    pages : ℕ
    pages = pages_of s fixups

    offset : starts_offset b t k ≡ 4 + 4 * length segments + texts_before fixups segments k
    offset =
        let other : (pages == 0) ≡ false = grind (arith, nat_tests) in
        offset_read base at fixups segments b t k d fits place offsets lt
        ∙ ap (λ (e : Bool). if e then 0 else 4 + 4 * length segments + texts_before fixups segments k) other

    here : segment_starts_place b t k ≡ at + 4 + 4 * length segments + texts_before fixups segments k
    here = omega (arith, place, offset)

    small : s.address < 2 ^ 64
    small = omega (arith, fits.order.ends k d lt, fits.order.sizes k d lt, pages_of-no_bytes s fixups some)

    parts : Stands b (record {
      at = segment_starts_place b t k;
      text = spelling chained_starts_in_segment_rows (starts_record base s pages)
          ++ page_starts_text fixups (s.address / SEGMENT_PAGE) pages;
    })
    parts =
        subst (λ (x : List ℕ). Stands b (record { at = segment_starts_place b t k; text = x })) (text_some base pages fixups s some)
        (subst (λ (n : ℕ). Stands b (record { at = n; text = segment_text base fixups s })) (sym here)
        (text_stands b base (at + 4 + 4 * length segments) fixups segments k d texts lt))
