-- What is given to a link, as the passes ask for it; and answers of a link by those of its passes.
use Rattle.std.proofs.Common.{◌≡◌, ℕ, ◌<◌, ◌^◌, ◌==◌, not, true, List, [], ◌∷◌, map, length, get_or, refl, ap, arith, All}
use Rattle.std.specs.Prelude.{Option, Some, None, Result, Ok, Err, OnOk, IfErr}
use Rattle.std.proofs.lemmas.Bool.{ne_eqb}
use Rattle.std.proofs.lemmas.List.{length-map}
use Rattle.std.proofs.lemmas.List.Elements.{All-map}
use Rattle.macho_model.specs.declared.placed.Counts.{Counts}
use Rattle.macho_model.specs.Links.{Link}
use Rattle.macho_object.specs.Views.{FileBytes}
use Rattle.macho_export_lists.specs.Entries.{ListEntries}
use Rattle.macho_symbols.specs.Kept.{ResolvedRows, IsResolved}
use Rattle.macho_symbols.specs.Exported.{AreLists}
use Rattle.macho_promise.specs.Views.{object_view, views_of}
use Rattle.macho_refusal_laws.specs.Surveys.{AreOfInputs}
use Rattle.macho_refusal_laws.specs.Inputs.{HasBytes}
use Rattle.macho_promise.specs.Sizes.{AreCounts}
use Rattle.macho_answer.specs.declared.fault.LinkError.{LinkError}
use Rattle.macho_answer.specs.Standing.{Stands}
use Rattle.macho_refusal_laws.specs.Read.{IsLinkOf, entry_of}
use Rattle.macho_linker.specs.Owned.{input_of}
use Rattle.macho_linker.specs.declared.owned.OwnedInput.{OwnedInput}
use Rattle.macho_linker.specs.declared.owned.OwnedInput.TheVariants as owned
use Rattle.macho_linker.specs.Held.{IsHeld}
use Rattle.macho_linking.specs.steps.Lists.{AreListsOf}
use Rattle.macho_linking.specs.Planning.{StandsAlways}

pub same_inputs : (l : Link) (views : List (Option FileBytes)) (r : ResolvedRows) → views ≡ views_of l → IsResolved l [] r
    → AreOfInputs views r.files
same_inputs l views r is resolved =
    record { inputs = l.inputs; keeps = record { are = resolved.keeps }; are = is }

pub link_handed : (l : Link) (views : List (Option FileBytes)) (r : ResolvedRows) (entry : Option (List ℕ)) (list : Option ListEntries)
    → views ≡ views_of l → IsResolved l [] r → entry ≡ entry_of l → AreLists l list → IsLinkOf l views r entry list
link_handed l views r entry list is resolved named lists =
    record { views_are = is; resolved = resolved; entry_is = named; lists = lists }

-- the lists of a link, read as one
pub lists_are : (l : Link) (list : Option ListEntries) → AreListsOf l.export_lists list → AreLists l list
lists_are l None none = rw none refl
lists_are l (Some e) some = (by l.export_lists some.0, some.1)
  where
    by : (texts : List (List ℕ)) → (texts ≡ [] → ⊥) → not (length texts == 0) ≡ true
    by [] none = absurd (none refl)
    by (t ∷ texts) none = ap not (ne_eqb (length (t ∷ texts)) 0 (λ e. absurd (omega (arith, e))))

-- what holds anyway holds where a call answers
pub on_ok : {X E : Type 0} (r : Result X E) (P : Type 0) → P → OnOk r P
on_ok (Ok x) P p = p
on_ok (Err e) P p = tt

-- a refusal that stands for all sizes
pub stands_always : {X : Type 0} (l : Link) (r : Result X LinkError) → ((counts : Counts) → IfErr r (Stands l counts))
    → IfErr r (StandsAlways l)
stands_always l (Ok x) each = tt
stands_always l (Err e) each = λ counts are. each counts

pub stands_counted : {X : Type 0} (l : Link) (r : Result X LinkError) → ((counts : Counts) → AreCounts l counts → IfErr r (Stands l counts))
    → IfErr r (StandsAlways l)
stands_counted l (Ok x) each = tt
stands_counted l (Err e) each = each

-- the bytes of an input that is owned are numbers below 256
pub owned_bytes : (inputs : List OwnedInput) → All HasBytes (map input_of inputs)
owned_bytes inputs = All-map HasBytes input_of inputs (λ k d lt. each (get_or inputs k d))
  where
    each : (input : OwnedInput) → HasBytes (input_of input)
    each (owned.Object object) = object.are_bytes
    each (owned.Dylib bytes) = tt
    each (owned.Stub stub) = tt

-- views are as few as inputs
pub views_few : (l : Link) (views : List (Option FileBytes)) → IsHeld l → views ≡ views_of l → length views < 2 ^ 32
views_few l views held is =
    let long : length views ≡ length (map object_view l.inputs) = ap length is in
    omega (arith, long, length-map l.inputs object_view, held.few)
