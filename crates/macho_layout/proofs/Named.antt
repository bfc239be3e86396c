-- Names in fields, and lists with repeats taken out under a map.
--
-- A name that was put in a field of 16 bytes is read back as it was, since zeros follow it. So two fields are equal exactly
-- where their names are, and tables of fields have as many elements as lists of names. Taking repeats out commutes
-- with a map, under the test of what the map gives.
use Rattle.std.proofs.Common.{◌≡◌, ℕ, ◌+◌, ◌-◌, ◌==◌, ◌||◌, not, Bool, true, false, cond, List, [], ◌∷◌, ◌++◌, map, filter, length, take, replicate, refl, sym, ap, ◌∙◌, arith, zero, suc}
use Rattle.std.specs.List.{list_any, prefix_len}
use Rattle.std.specs.Str.{bytes_eq}
use Rattle.std.proofs.lemmas.Bool.Decides.{same_from_decides}
use Rattle.std.proofs.lemmas.Slice.Eq.{bytes_eq-Decides}
use Rattle.std.proofs.lemmas.List.Elements.{filter_agree}
use Rattle.macho_bytes.specs.Texts.{name_of}
use Rattle.macho_records.specs.Segments.{name_field}
use Rattle.macho_model.specs.Needs.{distinct}
use Rattle.macho_bytes.proofs.Maps.{filter-map}
use Rattle.macho_model.proofs.Sections.{name_in_field}

-- fields are equal exactly where their names are
pub fields_agree : (a b : List ℕ) → bytes_eq (name_field a) (name_field b) ≡ bytes_eq (name_of a) (name_of b)
fields_agree a b =
    let names = bytes_eq-Decides (name_of a) (name_of b) in
    let fields = bytes_eq-Decides (name_field a) (name_field b) in
    same_from_decides (bytes_eq (name_field a) (name_field b)) (bytes_eq (name_of a) (name_of b)) (
      λ t. sym (name_in_field a) ∙ ap name_of (fields.0 t) ∙ name_in_field b,
      λ e. fields.1 (ap (λ (n : List ℕ). n ++ replicate (16 - length n) 0) e),
    ) names

-- repeats of a map
pub distinct_map : {X Y : Type 0} (same : Y → Y → Bool) (g : X → Y) (xs : List X) → distinct same (map g xs) ≡ map g
    (distinct (λ a b. same (g a) (g b)) xs)
distinct_map same g [] = refl
distinct_map {X} {Y} same g (x ∷ xs) =
    ap (λ (zs : List Y). g x ∷ filter (λ y. not (same (g x) y)) zs) (distinct_map same g xs)
    ∙ ap (λ (zs : List Y). g x ∷ zs) (filter-map (λ y. not (same (g x) y)) g (distinct (λ a b. same (g a) (g b)) xs))

-- tests that agree take the same repeats out
pub distinct_agree : {X : Type 0} (s t : X → X → Bool) → ((a b : X) → s a b ≡ t a b) → (xs : List X) → distinct s xs ≡ distinct t xs
distinct_agree s t e [] = refl
distinct_agree {X} s t e (x ∷ xs) =
    ap (λ (zs : List X). x ∷ zs) (filter_agree (λ y. not (s x y)) (λ y. not (t x y)) (λ y. ap not (e x y)) (distinct s xs)
    ∙ ap (filter (λ y. not (t x y))) (distinct_agree s t e xs))
