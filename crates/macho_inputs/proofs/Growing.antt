-- One input more.
--
-- The inputs before a place, and that at the place, are those before the next place. So what is gathered of each, in order, is
-- what was gathered before and what the new one adds: the objects with their numbers.
use Rattle.std.proofs.Common.{◌≡◌, ℕ, ◌+◌, ◌<◌, ◌≤◌, List, [], ◌∷◌, ◌++◌, length, get_or, take, map, sym, ap, subst, ◌∙◌, arith, refl}
use Rattle.std.specs.List.{enumerate_from, filter_map}
use Rattle.std.proofs.lemmas.List.{length-map, length-take, map-append, take_all, take_more}
use Rattle.std.proofs.lemmas.List.Elements.{filter_map-append}
use Rattle.macho_model.specs.Links.{Input}
use Rattle.macho_symbol_names.specs.Kept.{FileRows, Keeps}
use Rattle.macho_linkedit.specs.Listing.{object_in}
use Rattle.macho_linker.specs.declared.owned.ObjectBytes.{ObjectBytes}
use Rattle.macho_linker.specs.declared.owned.OwnedInput.{OwnedInput}
use Rattle.macho_linker.specs.declared.owned.OwnedInput.TheVariants as owned
use Rattle.macho_linker.specs.Owned.{input_of}
use Rattle.macho_model.proofs.LinkLaws.{enumerate_more}

-- the inputs with one more
pub inputs_more : (xs : List OwnedInput) (i : ℕ) (x : OwnedInput) → i < length xs → x ≡ get_or xs i x → map input_of (take (i + 1) xs)
    ≡ map input_of (take i xs) ++ input_of x ∷ []
inputs_more xs i x lt is =
    ap (map input_of) (take_more xs i x lt ∙ ap (λ (y : OwnedInput). take i xs ++ y ∷ []) (sym is))
    ∙ map-append input_of (take i xs) (x ∷ [])

-- the objects of one more
pub objects_more : (xs : List OwnedInput) (i : ℕ) (x : OwnedInput) (old new : List (ℕ × List ℕ)) → i < length xs → x ≡ get_or xs i x
    → old ≡ filter_map object_in (enumerate_from 0 (map input_of (take i xs))) → new ≡ old ++ filter_map object_in ((i, input_of x) ∷ [])
    → new ≡ filter_map object_in (enumerate_from 0 (map input_of (take (i + 1) xs)))
objects_more xs i x old new lt is so_far added =
    let before = map input_of (take i xs) in
    let long : 0 + length before ≡ i = omega (arith, lt, length-map (take i xs) input_of, length-take i xs) in
    added ∙ ap (λ (ys : List (ℕ × List ℕ)). ys ++ filter_map object_in ((i, input_of x) ∷ [])) so_far
    ∙ sym (ap (λ (ys : List Input). filter_map object_in (enumerate_from 0 ys)) (inputs_more xs i x lt is)
    ∙ ap (filter_map object_in) (enumerate_more 0 before (input_of x)
    ∙ ap (λ (n : ℕ). enumerate_from 0 before ++ (n, input_of x) ∷ []) long)
    ∙ filter_map-append object_in (enumerate_from 0 before) ((i, input_of x) ∷ []))

-- a library is no object
pub no_object : (n : ℕ) (x : OwnedInput) → ((object : ObjectBytes) → x ≡ owned.Object object → ⊥)
    → filter_map object_in ((n, input_of x) ∷ []) ≡ []
no_object n (owned.Object object) other = absurd (other object refl)
no_object n (owned.Dylib bytes) other = refl
no_object n (owned.Stub text) other = refl

-- an object is one, with its bytes
pub one_object : (n : ℕ) (x : OwnedInput) (object : ObjectBytes) (seen : List ℕ) → x ≡ owned.Object object → seen ≡ object.bytes.items
    → (n, seen) ∷ [] ≡ filter_map object_in ((n, input_of x) ∷ [])
one_object n x object seen is same =
    ap (λ (b : List ℕ). (n, b) ∷ []) same ∙ sym (ap (λ (y : OwnedInput). filter_map object_in ((n, input_of y) ∷ [])) is)

-- all inputs were taken in
pub all_kept : (xs : List OwnedInput) (i : ℕ) (inputs : List Input) (files : List FileRows) → length xs ≤ i → inputs ≡ map input_of xs
    → Keeps (map input_of (take i xs)) files → Keeps inputs files
all_kept xs i inputs files past held kept =
    subst (λ (ys : List Input). Keeps ys files) (ap (map input_of) (take_all i xs past) ∙ sym held) kept
