-- Whether the stubs are those of a link's plan.
--
-- They are as many, and each has the import and the slot of its number; one that hasn't shows that they are not the link's.
use Rattle.std.proofs.Common.{sym, ◌∙◌, arith}
use Rattle.macho_model.specs.declared.placed.Stub.{Stub}
use Rattle.macho_layout.specs.declared.spec.StubSpec.{StubSpec}
use Rattle.macho_placement_rules.proofs.SameStubs.{stubs_same, stubs_long, imports_at, slots_at}
use Rattle.macho_placement_rules.proofs.lists.are_all_stubs.Goals as goal

-- nothing, in place of what isn't there
abbrev no_stub : Stub
no_stub = record { import = 0; address = 0; slot = 0 }

abbrev no_spec : StubSpec
no_spec = record { import = 0; slot = 0 }

pub returns-then-not-is_same_stub-clause-only : goal.returns-then-not-is_same_stub-clause-only
returns-then-not-is_same_stub-clause-only c = λ l planned are.
    sym c.if-not-is_same_stub.true ∙ c.is_same_stub.ensures.only
    (imports_at l c.args.stubs.now c.args.specs.now no_stub no_spec c.loop-number.number planned are c.loop-number-test.true)
    (slots_at l c.args.stubs.now c.args.specs.now no_stub no_spec c.loop-number.number planned are c.loop-number-test.true)

pub returns-clause-found : goal.returns-clause-found
returns-clause-found c = λ l planned.
    stubs_same l c.args.stubs.now c.args.specs.now no_spec no_stub (omega arith)
    (λ k d low. c.loop-number.invariant k d no_spec (omega arith)) planned

pub returns-then-stubs-specs-clause-only : goal.returns-then-stubs-specs-clause-only
returns-then-stubs-specs-clause-only c = λ l planned are.
    absurd (omega (arith, stubs_long l c.args.stubs.now c.args.specs.now planned are))
