-- The member is looked up in its archive. Where there is none, nothing is used.
use Rattle.std.proofs.Common.{◌++◌, [], map, sym, ap, ◌∙◌, append-nil, arith}
use Rattle.std.proofs.lemmas.List.{length-map}
use Rattle.macho_members.specs.Inputs.{members_of}
use Rattle.macho_members.specs.Views.{inputs_of, names_of, input_of, texts}
use Rattle.macho_members.proofs.Members.{at_number, past_inputs, used_there, used_nowhere, texts_behind}
use Rattle.macho_members.proofs.taking.add_used_by.Goals as goal

pub returns-in-Some : goal.returns-in-Some
returns-in-Some c =
    let asked = c.in-Some-Archive in
    let place = c.args.place in
    let at = at_number members_of c.args.inputs.now place.archive asked.field-0.now asked.ensures.lookup.3.0
    asked.ensures.lookup.1 in
    texts_behind c.extend_from_slice.result c.args.pending.now.items c.extend_from_slice.new.self.items c.in-Some.names.now.used.now _
    c.extend_from_slice.ensures.items
    (used_there (inputs_of c.args.inputs.now) place.archive place.member asked.members.now c.in-Some.names.now
    (at ∙ ap (λ x. members_of (input_of x)) asked.field-0-is) c.in-Some.ensures.lookup.3.0 c.in-Some.ensures.lookup.1)

pub returns-in-None-get : goal.returns-in-None-get
returns-in-None-get c =
    let asked = c.in-Some-Archive in
    let place = c.args.place in
    let at = at_number members_of c.args.inputs.now place.archive asked.field-0.now asked.ensures.lookup.3.0
    asked.ensures.lookup.1 in
    let pending = texts c.args.pending.now.items in
    sym (ap (λ u. pending ++ u) (used_nowhere (inputs_of c.args.inputs.now) place.archive place.member (map names_of asked.members.now)
    (at ∙ ap (λ x. members_of (input_of x)) asked.field-0-is)
    (omega (arith, length-map asked.members.now names_of, c.in-None-get.ensures.lookup.3))) ∙ append-nil pending)

pub returns-in-Some-Object : goal.returns-in-Some-Object
returns-in-Some-Object c =
    let asked = c.in-Some-Object in
    let place = c.args.place in
    let at = at_number members_of c.args.inputs.now place.archive asked.field-0.now asked.ensures.lookup.3.0
    asked.ensures.lookup.1 in
    let pending = texts c.args.pending.now.items in
    sym (ap (λ u. pending ++ u) (used_nowhere (inputs_of c.args.inputs.now) place.archive place.member []
    (at ∙ ap (λ x. members_of (input_of x)) asked.field-0-is) (omega arith)) ∙ append-nil pending)

pub returns-in-Some-Library : goal.returns-in-Some-Library
returns-in-Some-Library c =
    let asked = c.in-Some-Library in
    let place = c.args.place in
    let at = at_number members_of c.args.inputs.now place.archive asked.field-0.now asked.ensures.lookup.3.0
    asked.ensures.lookup.1 in
    let pending = texts c.args.pending.now.items in
    sym (ap (λ u. pending ++ u) (used_nowhere (inputs_of c.args.inputs.now) place.archive place.member []
    (at ∙ ap (λ x. members_of (input_of x)) asked.field-0-is) (omega arith)) ∙ append-nil pending)

pub returns-in-None : goal.returns-in-None
returns-in-None c =
    let place = c.args.place in
    let pending = texts c.args.pending.now.items in
    sym (ap (λ u. pending ++ u) (used_nowhere (inputs_of c.args.inputs.now) place.archive place.member []
    (past_inputs members_of c.args.inputs.now place.archive c.in-None.ensures.lookup.3) (omega arith))
    ∙ append-nil pending)
