-- Each name that is looked up goes, and a member that it takes is one less to take.
use Rattle.std.proofs.Common.{List, length, sym, subst, arith}
use Rattle.std.specs.List.{IsDistinct}
use Rattle.std.proofs.lemmas.List.{nil_from_length}
use Rattle.macho_members.specs.declared.inputs.MemberPlace.{MemberPlace}
use Rattle.macho_members.specs.Views.{inputs_of, texts}
use Rattle.macho_members.specs.steps.Held.{held, place_eq}
use Rattle.macho_members.specs.steps.Taken.{AreUnderway}
use Rattle.macho_members.proofs.Search.{all_taken}
use Rattle.macho_members.proofs.Counted.{all_places, taken_within, fewer_left, distinct_still, texts_last}
use Rattle.macho_members.proofs.taking.taken_members.Goals as goal

pub loop-name-init : goal.loop-name-init
unfolding IsDistinct
loop-name-init c =
    let ins = inputs_of c.args.inputs.now in
    let empty = sym c.new-taken.ensures.empty in
    record {
      underway = subst (λ (keys : List MemberPlace). AreUnderway ins (held keys) (texts c.args.pending.items)) empty c.requires.start;
      distinct = subst (IsDistinct place_eq) empty tt;
    }

pub loop-name-smaller : goal.loop-name-smaller
loop-name-smaller c =
    let ins = inputs_of c.args.inputs.now in
    let grown = c.in_ok-take_brought.ensures.grown in
    let names = texts_last c.loop-name.pending.items c.pop.new.self.items c.in-Some.name c.in-Some.ensures.items in
    let next = c.in_ok-take_brought.ensures.step c.requires.table
    (subst (AreUnderway ins (held c.loop-name.taken.keys)) names c.loop-name.invariant.underway) in
    let distinct = distinct_still c.loop-name.taken.keys c.take_brought.new.taken.keys c.pop.new.self.items
    c.take_brought.new.pending.items c.loop-name.invariant.distinct grown in
    let pending = c.take_brought.new.pending in
    fewer_left (length (all_places 0 ins)) c.loop-name.taken.keys c.take_brought.new.taken.keys c.loop-name.pending.items
    c.pop.new.self.items pending.items (taken_within ins c.take_brought.new.taken.keys distinct next.inside)
    (omega (arith, c.in-Some.ensures.cases, c.pop.new.self.ok.0, c.loop-name.pending.ok.0))
    (omega (arith, pending.small, pending.ok.0, pending.ok.1)) grown

pub loop-name-preserved : goal.loop-name-preserved
loop-name-preserved c =
    let ins = inputs_of c.args.inputs.now in
    let names = texts_last c.loop-name.pending.items c.pop.new.self.items c.in-Some.name c.in-Some.ensures.items in
    record {
      underway = c.in_ok-take_brought.ensures.step c.requires.table
          (subst (AreUnderway ins (held c.loop-name.taken.keys)) names c.loop-name.invariant.underway);
      distinct = distinct_still c.loop-name.taken.keys c.take_brought.new.taken.keys c.pop.new.self.items
          c.take_brought.new.pending.items c.loop-name.invariant.distinct c.in_ok-take_brought.ensures.grown;
    }

pub returns : goal.returns
returns c =
    let ins = inputs_of c.args.inputs.now in
    let none = nil_from_length c.loop-name.pending.items (omega (arith, c.in_default.ensures.cases.0, c.loop-name.pending.ok.0)) in
    all_taken ins (held c.loop-name.taken.keys)
    (subst (λ names. AreUnderway ins (held c.loop-name.taken.keys) (texts names)) none c.loop-name.invariant.underway)
