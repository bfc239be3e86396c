-- The table as rows of numbers is the table as its writers spell it, record by record.
--
-- A record's spelling is its rows, one behind the other. What is told of a segment has bytes exactly where the segment has pages, so the
-- offset of an empty text is that of a segment without pages, and the texts in front of one have the sizes that the writer adds. The step
-- from a fixup to the next one of the list is the step from its address to that of the rest's first fixup.
use Rattle.std.proofs.Common.{◌≡◌, ℕ, zero, suc, ◌+◌, ◌*◌, ◌-◌, ◌/◌, ◌<◌, ◌==◌, Bool, true, false, List, [], ◌∷◌, ◌++◌, length, map, get_or, take, arith, refl, sym, ap, subst, ◌∙◌, if◌then◌else◌, inl, inr}
use Rattle.std.specs.Prelude.{nat_lt, sum_by}
use Rattle.std.specs.Int.{w32, cast_unsigned}
use Rattle.std.specs.List.{concat, flat_map, range_with_len}
use Rattle.std.proofs.lemmas.Bool.{cases_lt}
use Rattle.std.proofs.lemmas.Bool.Decides.{nat_tests}
use Rattle.std.proofs.lemmas.List.{length-append, append_assoc, length-map}
use Rattle.std.proofs.lemmas.List.Concat.{concat_is}
use Rattle.std.proofs.lemmas.List.Folds.{flat_map-map}
use Rattle.std.proofs.lemmas.List.Sums.{sum_by-cons}
use Rattle.macho_bytes.specs.Numbers.{little, le_bytes, row_bytes}
use Rattle.macho_bytes.specs.Texts.{Stands}
use Rattle.macho_bytes.proofs.Numbers.{little_is_sound}
use Rattle.macho_bytes.proofs.Tables.{length-table}
use Rattle.macho_model.specs.Images.{POINTER_FORMAT, import_entry_size}
use Rattle.macho_model.specs.Needs.{POINTER_SIZE}
use Rattle.macho_model.specs.Segments.{SEGMENT_PAGE}
use Rattle.macho_fixups.specs.declared.run.Fixup.{Fixup}
use Rattle.macho_fixups.specs.declared.run.FixupSegment.{FixupSegment}
use Rattle.macho_fixups.specs.declared.imports.ImportEntry.{ImportEntry}
use Rattle.macho_fixups.specs.Words.{word_of}
use Rattle.macho_fixups.specs.Runs.{pages_of, start_of}
use Rattle.macho_fixups.specs.Chains.{AllStand, address_at, place_of, step_between, step_of, word_part}
use Rattle.macho_fixups.specs.Tables.{offsets_text, segment_text, segment_size, starts_text, page_starts_text, image_starts_text, image_starts_size, entry_word, entry_text, table_text}
use Rattle.macho_fixups.specs.Rows.{segment_rows, offset_of, image_rows, table_rows, step_to, WordsStand}
use Rattle.macho_fixups.proofs.SegmentWrites.{length-offsets}
use Rattle.macho_fixups.proofs.StartReading.{text_long}
use Rattle.macho_bytes.specs.Spellings.{spelling}
use Rattle.macho_fixups.proofs.EntryReading.{entry_long}

-- numbers in front of others
row_joined : (w : ℕ) (ns ms : List ℕ) → row_bytes little w (ns ++ ms) ≡ row_bytes little w ns ++ row_bytes little w ms
unfolding row_bytes
row_joined w [] ms = refl
row_joined w (n ∷ ns) ms = ap (λ (t : List ℕ). le_bytes w n ++ t) (row_joined w ns ms) ∙ sym (append_assoc (le_bytes w n) _ _)

row_of : (f : ℕ → ℕ) (ks : List ℕ) → row_bytes little 2 (map f ks) ≡ flat_map (λ k. le_bytes 2 (f k)) ks
unfolding row_bytes
row_of f ks = flat_map-map (le_bytes 2) f ks

six : (a b c d e s : List ℕ) → a ++ (b ++ (c ++ (d ++ (e ++ s)))) ≡ ((((([] ++ a) ++ b) ++ c) ++ d) ++ e) ++ s
six a b c d e s = simp append_assoc refl

four : (a b c d : List ℕ) → ((a ++ b) ++ c) ++ d ≡ a ++ (b ++ (c ++ d))
four a b c d = simp append_assoc refl

-- what is told of a segment
pub segment_same : (base : ℕ) (fixups : List Fixup) (s : FixupSegment) → segment_rows base fixups s ≡ segment_text base fixups s
unfolding segment_rows segment_text starts_text page_starts_text spelling row_bytes le_bytes pages_of
segment_same base fixups s =
    let pages = pages_of s fixups in
    let start : ℕ → ℕ = λ page. start_of fixups (s.address / SEGMENT_PAGE + page) in
    let starts = map start (range_with_len 0 pages) in
    ap (λ (t : List ℕ). if pages == 0 then [] else t)
    (ap (λ (t : List ℕ). row_bytes little 4 ((22 + 2 * pages) ∷ []) ++ (row_bytes little 2 (SEGMENT_PAGE ∷ POINTER_FORMAT ∷ [])
    ++ (row_bytes little 8 ((s.address - base) ∷ []) ++ (row_bytes little 4 (0 ∷ []) ++ t))))
    (row_joined 2 (pages ∷ []) starts ∙ ap (λ (t : List ℕ). row_bytes little 2 (pages ∷ []) ++ t) (row_of start (range_with_len 0 pages)))
    ∙ six (row_bytes little 4 ((22 + 2 * pages) ∷ [])) (row_bytes little 2 (SEGMENT_PAGE ∷ POINTER_FORMAT ∷ []))
    (row_bytes little 8 ((s.address - base) ∷ [])) (row_bytes little 4 (0 ∷ [])) (row_bytes little 2 (pages ∷ []))
    (flat_map (λ page. le_bytes 2 (start page)) (range_with_len 0 pages)))

segments_same : (base : ℕ) (fixups : List Fixup) (xs : List FixupSegment)
    → concat (map (segment_rows base fixups) xs) ≡ flat_map (segment_text base fixups) xs
segments_same base fixups xs =
    concat_is (map (segment_rows base fixups) xs) ∙ flat_map-map (λ t. t) (segment_rows base fixups) xs ∙ each xs
  where
    each : (ys : List FixupSegment) → flat_map (segment_rows base fixups) ys ≡ flat_map (segment_text base fixups) ys
    each [] = refl
    each (y ∷ ys) =
        ap (λ (t : List ℕ). t ++ flat_map (segment_rows base fixups) ys) (segment_same base fixups y)
        ∙ ap (λ (t : List ℕ). segment_text base fixups y ++ t) (each ys)

-- an offset from any place on
abbrev offset_from : ℕ → List (List ℕ) → ℕ → ℕ
offset_from place texts k = if length (get_or texts k []) == 0 then 0 else place + length (concat (take k texts))

rows_long : (base : ℕ) (fixups : List Fixup) (s : FixupSegment) → length (segment_rows base fixups s) ≡ segment_size fixups s
rows_long base fixups s = ap length (segment_same base fixups s) ∙ text_long base fixups s

-- a segment's own offset
own_offset : (base place : ℕ) (fixups : List Fixup) (s : FixupSegment)
    → (if length (segment_rows base fixups s) == 0 then 0 else place + 0) ≡ (if pages_of s fixups == 0 then 0 else place)
unfolding segment_size
own_offset base place fixups s = by (pages_of s fixups) (length (segment_rows base fixups s)) (size (pages_of s fixups) refl)
  where
    size : (n : ℕ) → pages_of s fixups ≡ n → length (segment_rows base fixups s) ≡ (if n == 0 then 0 else 22 + 2 * n)
    size n is = rows_long base fixups s ∙ ap (λ (m : ℕ). if m == 0 then 0 else 22 + 2 * m) is

    by : (n m : ℕ) → m ≡ (if n == 0 then 0 else 22 + 2 * n) → (if m == 0 then 0 else place + 0) ≡ (if n == 0 then 0 else place)
    by zero m is = rw is refl
    by (suc n) m is =
        let some : (suc n == 0) ≡ false = grind (arith, nat_tests) in
        let long : m ≡ 22 + 2 * suc n = is ∙ ap (λ (b : Bool). if b then 0 else 22 + 2 * suc n) some in
        let other : (m == 0) ≡ false = grind (arith, nat_tests) in
        let here : place + 0 ≡ place = omega arith in
        ap (λ (b : Bool). if b then 0 else place + 0) other ∙ here ∙ ap (λ (b : Bool). if b then 0 else place) (sym some)

offsets_same : (base place from : ℕ) (fixups : List Fixup) (xs : List FixupSegment) (f : ℕ → ℕ)
    → ((k : ℕ) → f (from + k) ≡ offset_from place (map (segment_rows base fixups) xs) k)
    → row_bytes little 4 (map f (range_with_len from (length (map (segment_rows base fixups) xs)))) ≡ offsets_text place fixups xs
unfolding row_bytes offsets_text
offsets_same base place from fixups [] f each = refl
offsets_same base place from fixups (x ∷ xs) f each =
    ap (λ (n : ℕ). le_bytes 4 n ++ row_bytes little 4 (map f (range_with_len (from + 1) (length texts))))
    (first ∙ own_offset base place fixups x)
    ∙ ap (λ (t : List ℕ). le_bytes 4 (if pages_of x fixups == 0 then 0 else place) ++ t)
    (offsets_same base (place + segment_size fixups x) (from + 1) fixups xs f rest)
  where
    text : List ℕ
    text = segment_rows base fixups x

    texts : List (List ℕ)
    texts = map (segment_rows base fixups) xs

    first : f from ≡ (if length text == 0 then 0 else place + 0)
    first = ap f (omega arith) ∙ each 0

    front : (k : ℕ) → place + length (text ++ concat (take k texts)) ≡ place + segment_size fixups x + length (concat (take k texts))
    front k = omega (arith, length-append text (concat (take k texts)), rows_long base fixups x)

    rest : (k : ℕ) → f (from + 1 + k) ≡ offset_from (place + segment_size fixups x) texts k
    rest k =
        ap f (omega arith) ∙ each (suc k)
        ∙ ap (λ (n : ℕ). if length (get_or texts k []) == 0 then 0 else n) (front k)

-- the starts of an image
pub image_same : (base : ℕ) (fixups : List Fixup) (xs : List FixupSegment)
    → image_rows (map (segment_rows base fixups) xs) ≡ image_starts_text base fixups xs
unfolding image_rows image_starts_text row_bytes
image_same base fixups xs =
    let texts = map (segment_rows base fixups) xs in
    let many : length texts ≡ length xs = length-map xs (segment_rows base fixups) in
    let offsets : row_bytes little 4 (map (offset_of texts) (range_with_len 0 (length texts)))
    ≡ offsets_text (4 + 4 * length xs) fixups xs =
    offsets_same base (4 + 4 * length texts) 0 fixups xs (offset_of texts) (λ k. ap (offset_of texts) (omega arith))
    ∙ ap (λ (n : ℕ). offsets_text (4 + 4 * n) fixups xs) many in
    append_assoc (le_bytes 4 (length texts)) (row_bytes little 4 (map (offset_of texts) (range_with_len 0 (length texts)))) (concat texts)
    ∙ ap (λ (n : ℕ). le_bytes 4 n ++ (row_bytes little 4 (map (offset_of texts) (range_with_len 0 (length texts))) ++ concat texts)) many
    ∙ ap (λ (t : List ℕ). le_bytes 4 (length xs) ++ (t ++ concat texts)) offsets
    ∙ ap (λ (t : List ℕ). le_bytes 4 (length xs) ++ (offsets_text (4 + 4 * length xs) fixups xs ++ t)) (segments_same base fixups xs)

-- the starts of an image have their size
pub starts_long : (base : ℕ) (fixups : List Fixup) (segments : List FixupSegment) → length
    (image_starts_text base fixups segments) ≡ image_starts_size fixups segments
unfolding image_starts_text image_starts_size
starts_long base fixups segments =
    omega (
      arith,
      length-append (le_bytes 4 (length segments))
          (offsets_text (4 + 4 * length segments) fixups segments ++ flat_map (segment_text base fixups) segments),
      length-append (offsets_text (4 + 4 * length segments) fixups segments) (flat_map (segment_text base fixups) segments),
      little_is_sound.long 4 (length segments),
      length-offsets (4 + 4 * length segments) fixups segments,
      sizes segments,
    )
  where
    sizes : (xs : List FixupSegment) → length (flat_map (segment_text base fixups) xs) ≡ sum_by (segment_size fixups) xs
    sizes [] = refl
    sizes (x ∷ xs) =
        omega (
          arith,
          length-append (segment_text base fixups x) (flat_map (segment_text base fixups) xs),
          text_long base fixups x,
          sizes xs,
          sum_by-cons (segment_size fixups) x xs,
        )

pub entries_long : (format : ℕ) (es : List ImportEntry) → length (flat_map (entry_text format) es) ≡ import_entry_size format * length es
entries_long format es =
    length-table (entry_text format) (import_entry_size format) es (record { long = λ k d lt. entry_long format (get_or es k d) })

-- entries by their texts
entries_same : (format : ℕ) (es : List ImportEntry) → concat (map (entry_text format) es) ≡ flat_map (entry_text format) es
entries_same format es = concat_is (map (entry_text format) es) ∙ flat_map-map (λ t. t) (entry_text format) es

-- THE table
pub table_same : (base : ℕ) (fixups : List Fixup) (xs : List FixupSegment) (format : ℕ) (es : List ImportEntry) (names : List ℕ)
    → table_rows base fixups xs format (map (entry_text format) es) names ≡ table_text base fixups xs format es names
unfolding table_rows table_text spelling
table_same base fixups xs format es names =
    let head : ℕ → ℕ → ℕ → List ℕ = λ a b n. row_bytes little 4 (0 ∷ 28 ∷ a ∷ b ∷ n ∷ format ∷ 0 ∷ []) in
    let of : List ℕ → List ℕ → ℕ → List ℕ = λ s t n. head (28 + length s) (28 + length s + length t) n ++ s ++ t ++ names in
    let starts = image_starts_text base fixups xs in
    let entries = flat_map (entry_text format) es in
    ap (λ (s : List ℕ). of s (concat (map (entry_text format) es)) (length (map (entry_text format) es))) (image_same base fixups xs)
    ∙ ap (λ (t : List ℕ). of starts t (length (map (entry_text format) es))) (entries_same format es)
    ∙ ap (of starts entries) (length-map es (entry_text format))
    ∙ ap (λ (n : ℕ). head (28 + n) (28 + n + length entries) (length es) ++ starts ++ entries ++ names) (starts_long base fixups xs)
    ∙ ap (λ (n : ℕ). head (28 + image_starts_size fixups xs) (28 + image_starts_size fixups xs + n) (length es)
    ++ starts ++ entries ++ names)
    (entries_long format es)
    ∙ four (head (28 + image_starts_size fixups xs) (28 + image_starts_size fixups xs + import_entry_size format * length es) (length es))
    starts entries names

-- the step from a fixup is that to the rest of the list
step_same : (f : Fixup) (fs : List Fixup) → step_of (f ∷ fs) 0 ≡ step_to f.address fs
unfolding step_of
step_same f [] = refl
step_same f (g ∷ fs) =
    let more : nat_lt (0 + 1) (length (f ∷ g ∷ fs)) ≡ true = grind (arith, nat_tests) in
    ap (λ (b : Bool). if b then step_between f.address g.address else 0) more

step_later : (f : Fixup) (fs : List Fixup) (k : ℕ) → step_of (f ∷ fs) (suc k) ≡ step_of fs k
unfolding step_of
step_later f fs k =
    let next : suc k + 1 ≡ suc (k + 1) = omega arith in
    ap (λ (b : Bool). if b then step_between (address_at (f ∷ fs) (suc k)) (address_at (f ∷ fs) (suc k + 1)) else 0) (more k (length fs))
    ∙ ap (λ (j : ℕ). if nat_lt (k + 1) (length fs) then step_between (address_at fs k) (address_at (f ∷ fs) j) else 0) next
  where
    more : (i n : ℕ) → nat_lt (suc i + 1) (suc n) ≡ nat_lt (i + 1) n
    more i n = elim (cases_lt (i + 1) n) [
      | inl less ↦
          let here : nat_lt (i + 1) n ≡ true = grind (arith, nat_tests) in
          let there : nat_lt (suc i + 1) (suc n) ≡ true = grind (arith, nat_tests) in
          there ∙ sym here
      | inr not_less ↦
          let here : nat_lt (i + 1) n ≡ false = grind (arith, nat_tests) in
          let there : nat_lt (suc i + 1) (suc n) ≡ false = grind (arith, nat_tests) in
          there ∙ sym here
    ]

-- THE words
pub words_stand : (segments : List FixupSegment) (fixups : List Fixup) (b : List ℕ) → AllStand segments fixups b
    → WordsStand segments fixups b
words_stand segments [] b all = tt
words_stand segments (f ∷ fs) b all = (
  subst (λ (n : ℕ). Stands b (record { at = place_of segments f.address; text = le_bytes POINTER_SIZE (word_of f.kind n) }))
      (step_same f fs)
      (all.each 0 f (omega arith)),
  words_stand segments fs b (record {
    each = λ k d lt. subst
        (λ (n : ℕ). Stands b (record {
          at = place_of segments (get_or fs k d).address;
          text = le_bytes POINTER_SIZE (word_of (get_or fs k d).kind n);
        }))
        (step_later f fs k) (all.each (suc k) d (omega arith));
  }),
)

pub all_stand : (segments : List FixupSegment) (fixups : List Fixup) (b : List ℕ) → WordsStand segments fixups b
    → AllStand segments fixups b
all_stand segments fixups b words = record { each = λ k d lt. each fixups words k d lt }
  where
    each : (fs : List Fixup) → WordsStand segments fs b → (k : ℕ) (d : Fixup) → k < length fs
        → Stands b (word_part segments fs k (get_or fs k d))
    each [] words k d lt = absurd (omega (arith, lt))
    each (f ∷ fs) words zero d lt =
        subst (λ (n : ℕ). Stands b (record { at = place_of segments f.address; text = le_bytes POINTER_SIZE (word_of f.kind n) }))
        (sym (step_same f fs)) words.0
    each (f ∷ fs) words (suc k) d lt =
        subst
        (λ (n : ℕ). Stands b (record {
          at = place_of segments (get_or fs k d).address;
          text = le_bytes POINTER_SIZE (word_of (get_or fs k d).kind n);
        }))
        (sym (step_later f fs k)) (each fs words.1 k d (omega (arith, lt)))
