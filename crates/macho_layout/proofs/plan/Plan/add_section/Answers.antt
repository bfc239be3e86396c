-- A section more: its names are put into the tables, and it gets the number of its output section.
use Rattle.std.proofs.Common.{◌≡◌, List, ◌∷◌, [], ◌++◌, sym, ap, ◌∙◌, subst}
use Rattle.macho_layout.specs.declared.spec.Planned.{Planned}
use Rattle.macho_layout.specs.Keys.{specs_of}
use Rattle.macho_layout.specs.steps.Holding.{AreSound}
use Rattle.macho_layout.proofs.Tables.{names_after, sound_more}
use Rattle.macho_layout.proofs.plan.Plan.add_section.Goals as goal

pub invariant_of-self-2 : goal.invariant_of-self-2
invariant_of-self-2 c =
    let x : Planned = record { spec = c.args.spec; output = c.in_ok-output.output } in
    let sections = c.self.inside.sections.items in
    let room : c.reserve.new.self.items ≡ c.self.inside.sections.items = c.in_ok-reserve.ensures.items in
    let next : c.push.new.self.items ≡ c.reserve.new.self.items ++ record {
      spec = c.args.spec;
      output = c.in_ok-output.output;
    } ∷ [] = c.in_ok-push.ensures.items in
    let names = names_after c.self.inside.sections.items c.reserve.new.self.items c.push.new.self.items c.self.inside.keys.keys
    c.reserve-2.new.self.keys c.insert_full.new.self.keys
    c.self.inside.segments.keys c.reserve-3.new.self.keys c.insert.new.self.keys x c.output_key.result c.segment_key.result room
    c.in_ok-reserve-2.ensures.keys c.in_ok-reserve-3.ensures.keys
    c.output_key.ensures c.segment_key.ensures next c.in_ok-output.ensures.keys c.in_ok-insert.ensures.keys c.in_ok-output.ensures.index
    c.in_ok-output.ensures.within c.self.invariant.0 in
    let sound = sound_more sections c.self.inside.commons.items x c.requires.small c.requires.place c.self.invariant.1 in (
      names,
      subst (λ (ss : List Planned). AreSound (specs_of ss) c.self.inside.commons.items)
          (sym (next ∙ ap (λ (ss : List Planned). ss ++ x ∷ []) room)) sound,
    )
