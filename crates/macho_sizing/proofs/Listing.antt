-- The sections of a plan grow section by section, and file by file.
--
-- One section more of an object adds its specification where it is carried. One file more adds those of the file. A plan is
-- told by its parts, so
-- what was added to the sections of what was added to is added once.
use Rattle.std.proofs.Common.{◌≡◌, ℕ, ◌+◌, Bool, true, false, List, [], ◌∷◌, ◌++◌, map, get_or, refl, ap, ◌∙◌, append_assoc}
use Rattle.std.specs.Prelude.{filter, Option, None}
use Rattle.std.specs.List.{flat_map, range_with_len}
use Rattle.std.proofs.lemmas.List.{map-append, append-nil}
use Rattle.std.proofs.lemmas.List.Elements.{filter-append}
use Rattle.std.proofs.lemmas.Grind.{flat_map-append}
use Rattle.std.proofs.lemmas.List.Concat.{flat_map-cons}
use Rattle.macho_model.specs.Objects.{section_at}
use Rattle.macho_model.specs.Segments.{list_if}
use Rattle.macho_model.specs.Links.{is_carried}
use Rattle.macho_object.specs.Views.{FileBytes}
use Rattle.macho_layout.specs.declared.spec.SectionSpec.{SectionSpec}
use Rattle.macho_layout.specs.Plans.{Planning}
use Rattle.macho_sizing.specs.Sections.{spec_for, specs_below, specs_of_view}
use Rattle.macho_bytes.proofs.Maps.{range_push}

-- a plan with more sections
abbrev pub with_specs : Planning → List SectionSpec → Planning
with_specs p specs = record p { sections = p.sections ++ specs }

pub with_both : (p q r : Planning) (first second : List SectionSpec) → q ≡ with_specs p first → r ≡ with_specs q second
    → r ≡ with_specs p (first ++ second)
with_both p q r first second e f =
    f ∙ ap (λ (u : Planning). with_specs u second) e
    ∙ ap (λ (ss : List SectionSpec). record p { sections = ss }) (append_assoc p.sections first second)

-- THE step in an object
pub specs_more : (file : ℕ) (bytes : List ℕ) (n : ℕ)
    → specs_below file bytes (n + 1) ≡ specs_below file bytes n ++ list_if (is_carried (section_at bytes n))
    (spec_for file n (section_at bytes n) ∷ [])
specs_more file bytes n =
    ap (λ (ks : List ℕ). map spec (filter carried ks)) (range_push n)
    ∙ ap (map spec) (filter-append carried (range_with_len 0 n) (n ∷ []))
    ∙ map-append spec (filter carried (range_with_len 0 n)) (filter carried (n ∷ []))
    ∙ ap (λ (ss : List SectionSpec). specs_below file bytes n ++ ss) (by (is_carried (section_at bytes n)) refl)
  where
    spec : ℕ → SectionSpec
    spec k = spec_for file k (section_at bytes k)

    carried : ℕ → Bool
    carried k = is_carried (section_at bytes k)

    by : (x : Bool) → is_carried (section_at bytes n) ≡ x
        → map spec (filter carried (n ∷ [])) ≡ list_if (is_carried (section_at bytes n)) (spec_for file n (section_at bytes n) ∷ [])
    by true e = rw e refl
    by false e = rw e refl

-- the sections of the first files
abbrev pub specs_of_first : List (Option FileBytes) → ℕ → List SectionSpec
specs_of_first views n = flat_map (λ i. specs_of_view i (get_or views i None)) (range_with_len 0 n)

-- THE step from file to file
pub files_more : (views : List (Option FileBytes)) (n : ℕ)
    → specs_of_first views (n + 1) ≡ specs_of_first views n ++ specs_of_view n (get_or views n None)
files_more views n =
    let f : ℕ → List SectionSpec = λ i. specs_of_view i (get_or views i None) in
    ap (flat_map f) (range_push n) ∙ flat_map-append f (range_with_len 0 n) (n ∷ [])
    ∙ ap (λ (ss : List SectionSpec). specs_of_first views n ++ ss) (flat_map-cons f n [] ∙ append-nil (f n))
