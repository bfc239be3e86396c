-- An object goes behind the others with its number, and a library adds nothing.
use Rattle.std.proofs.Common.{◌≡◌, ℕ, List, ◌++◌, map, sym, ap, subst, ◌∙◌, append-nil, false, Vec, Global, All}
use Rattle.std.proofs.lemmas.List.{map-append}
use Rattle.std.proofs.lemmas.List.Elements.{All-push}
use Rattle.macho_object.specs.Views.{FileBytes}
use Rattle.macho_linkedit.specs.declared.listing.LinkedObject.{LinkedObject}
use Rattle.macho_linkedit.specs.Listing.{seen_object}
use Rattle.macho_inputs.proofs.Growing.{objects_more, no_object, one_object}
use Rattle.macho_inputs.proofs.objects.list_objects.Goals as goal
use Rattle.macho_inputs.proofs.objects.list_objects.Goals.{in-Object+in_ok-push-in-Object, in_default}

pub loop-number-preserved : goal.loop-number-preserved
loop-number-preserved c =
    let i = c.loop-number.number in
    let seen = map seen_object c.loop-number.objects.items in
    let kind : LinkedObject → Type 0 = λ o. o.file.is_dynamic ≡ false in
    let more = objects_more c.args.inputs.now i c.index-inputs-number.result seen (map seen_object c.match-input.objects.items)
    c.loop-number-test.true c.index-inputs-number.is c.loop-number.invariant.listed in
    elim c.match-input.branch [
      | in-Object+in_ok-push-in-Object w ↦ record {
        listed = more
            (ap (λ (v : Vec LinkedObject Global). map seen_object v.items) w.objects-is
            ∙ ap (map seen_object) w.in_ok-push-in-Object.ensures.items
            ∙ map-append seen_object c.loop-number.objects.items _
            ∙ ap (λ (xs : List (ℕ × List ℕ)). seen ++ xs)
            (one_object i c.index-inputs-number.result w.in-Object.object w.of_valid.result.bytes w.in-Object.is
            (ap (λ (f : FileBytes). f.bytes) w.of_valid.ensures ∙ w.deref.ensures.value)));
        kinds = subst (λ (v : Vec LinkedObject Global). All kind v.items) (sym w.objects-is)
            (subst (All kind) (sym w.in_ok-push-in-Object.ensures.items)
            (All-push kind c.loop-number.objects.items _ c.loop-number.invariant.kinds
            (ap (λ (f : FileBytes). f.is_dynamic) w.of_valid.ensures)));
      }
      | in_default w ↦ record {
        listed = more (ap (λ (v : Vec LinkedObject Global). map seen_object v.items) w.objects-is ∙ sym (append-nil seen)
            ∙ ap (λ (xs : List (ℕ × List ℕ)). seen ++ xs) (sym (no_object i c.index-inputs-number.result w.in_default.not-Object)));
        kinds = subst (λ (v : Vec LinkedObject Global). All kind v.items) (sym w.objects-is) c.loop-number.invariant.kinds;
      }
    ]
