-- The numbers of the output sections of an object's sections, as they are kept in a list.
--
-- The list grows by a section at a time. Then each section's number stands at its place, and there is none past the end. The lists of all
-- objects stand in the order of the objects.
use Rattle.std.proofs.Common.{◌≡◌, ℕ, ◌+◌, ◌<◌, ◌≤◌, Bool, false, List, [], ◌∷◌, ◌++◌, map, length, get_or, refl, sym, ap, ◌∙◌, arith, Vec, Global, inl, inr}
use Rattle.std.specs.Prelude.{if◌then◌else◌, nat_lt, Some, None}
use Rattle.std.specs.List.{range_with_len}
use Rattle.std.proofs.lemmas.Bool.{cases_lt}
use Rattle.std.proofs.lemmas.Bool.Decides.{nat_tests}
use Rattle.std.proofs.lemmas.List.{get_or-map, get_or_past, length-map}
use Rattle.std.proofs.lemmas.List.FromFn.{map-range_with_len_more, get_or-map-range_with_len, length-map-range_with_len}
use Rattle.macho_model.specs.Objects.{section_at}
use Rattle.macho_model.specs.Placement.{Placed}
use Rattle.macho_object.specs.Views.{FileBytes, section_count}
use Rattle.macho_linkedit.specs.declared.listing.LinkedObject.{LinkedObject}
use Rattle.macho_symbol_tables.specs.steps.Sections.{number_with, header_with, sections_told, objects_told}

-- the number of a section
abbrev pub number_at : Placed → FileBytes → ℕ → ℕ
number_at p f k = number_with p (header_with f (Some k))

-- those of the first sections
abbrev pub numbers_to : Placed → FileBytes → ℕ → List ℕ
numbers_to p f n = map (number_at p f) (range_with_len 0 n)

pub numbers_more : (p : Placed) (f : FileBytes) (n x : ℕ) (was now : List ℕ) → was ≡ numbers_to p f n → x ≡ number_at p f n
    → now ≡ was ++ x ∷ [] → now ≡ numbers_to p f (n + 1)
numbers_more p f n x was now at is more =
    more ∙ ap (λ (xs : List ℕ). xs ++ x ∷ []) at ∙ ap (λ (y : ℕ). numbers_to p f n ++ y ∷ []) is
    ∙ sym (map-range_with_len_more (number_at p f) 0 n n (omega arith))

pub numbers_whole : (p : Placed) (f : FileBytes) (n : ℕ) (now : List ℕ) → now ≡ numbers_to p f n → n ≡ section_count f.is_dynamic f.bytes
    → now ≡ sections_told p f
unfolding sections_told
numbers_whole p f n now at is = at ∙ ap (numbers_to p f) is

numbers_long : (p : Placed) (f : FileBytes) (numbers : List ℕ) → numbers ≡ sections_told p f
    → length numbers ≡ section_count f.is_dynamic f.bytes
unfolding sections_told
numbers_long p f numbers same =
    ap (λ (xs : List ℕ). length xs) same ∙ length-map-range_with_len (number_at p f) 0 (section_count f.is_dynamic f.bytes)

number_there : (p : Placed) (f : FileBytes) (numbers : List ℕ) (k : ℕ) → numbers ≡ sections_told p f → k < length numbers
    → get_or numbers k 0 ≡ number_at p f k
unfolding sections_told
number_there p f numbers k same lt =
    ap (λ (xs : List ℕ). get_or xs k 0) same
    ∙ get_or-map-range_with_len (number_at p f) 0 (section_count f.is_dynamic f.bytes) k k 0
    (omega (arith, lt, numbers_long p f numbers same)) (omega arith)

number_past : (p : Placed) (f : FileBytes) (numbers : List ℕ) (k : ℕ) → numbers ≡ sections_told p f → length numbers ≤ k
    → get_or numbers k 0 ≡ number_at p f k
number_past p f numbers k same past =
    get_or_past numbers k 0 past
    ∙ by (nat_lt k (section_count f.is_dynamic f.bytes)) (grind (arith, nat_tests, past, numbers_long p f numbers same))
  where
    by : (t : Bool) → t ≡ false → 0 ≡ number_with p (if t then Some (section_at f.bytes k) else None)
    by t e = rw e refl

pub number_is : (p : Placed) (f : FileBytes) (numbers : List ℕ) (k : ℕ) → numbers ≡ sections_told p f → get_or numbers k 0 ≡ number_at p f k
number_is p f numbers k same = elim (cases_lt k (length numbers)) [
  | inl within ↦ number_there p f numbers k same within
  | inr past ↦ number_past p f numbers k same past
]

-- the list of an object stands at its place
pub numbers_of_object : (p : Placed) (objects : List LinkedObject) (all : List (Vec ℕ Global)) (place : ℕ) (o : LinkedObject)
    (v : Vec ℕ Global)
    → map (λ numbers. numbers.items) all ≡ objects_told p objects → place < length objects → o ≡ get_or objects place o
    → v ≡ get_or all place v → v.items ≡ sections_told p o.file
numbers_of_object p objects all place o v same lt is_o is_v =
    ap items is_v ∙ sym (get_or-map items all place v [] (omega (arith, lt, long)))
    ∙ ap (λ (xs : List (List ℕ)). get_or xs place []) same
    ∙ get_or-map told objects place o [] lt ∙ ap told (sym is_o)
  where
    items : Vec ℕ Global → List ℕ
    items w = w.items

    told : LinkedObject → List ℕ
    told x = sections_told p x.file

    long : length all ≡ length objects
    long = sym (length-map all items) ∙ ap (λ (xs : List (List ℕ)). length xs) same ∙ length-map objects told
