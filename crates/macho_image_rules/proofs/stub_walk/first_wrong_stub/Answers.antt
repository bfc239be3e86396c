-- One more stub goes on through the slot of its import. Without a `__TEXT` there are no stubs.
use Rattle.std.proofs.Common.{◌≡◌, ℕ, ◌<◌, Bool, false, All, get_or, length, sym, subst, ap, ◌∙◌, arith, inl, inr}
use Rattle.std.specs.Bool.{OnTrue}
use Rattle.std.proofs.lemmas.Bool.{cases_lt, true≢false}
use Rattle.std.proofs.lemmas.List.{get_or_default}
use Rattle.macho_bytes.proofs.Members.{all_contains}
use Rattle.macho_model.specs.declared.placed.PlacedSegment.{PlacedSegment}
use Rattle.macho_model.specs.Segments.{TEXT}
use Rattle.macho_model.specs.Placement.{is_segment_named}
use Rattle.macho_layout.specs.Placements.{placed_of}
use Rattle.macho_verify_laws.specs.InFile.{StubSays}
use Rattle.macho_image_rules.specs.StubWalk.{StubLies}
use Rattle.macho_image_rules.proofs.stub_walk.first_wrong_stub.Goals as goal

pub returns-in_default-clause-found : goal.returns-in_default-clause-found
returns-in_default-clause-found g c = λ tells found none k d low.
    let lies = c.requires.lie k d low in
    let other = all_contains (λ (s : PlacedSegment). is_segment_named TEXT s ≡ false) c.args.placement.now.segments.items lies.some.0
    (subst (All (λ (s : PlacedSegment). is_segment_named TEXT s ≡ false)) c.deref.ensures.value
    (c.segment_named.ensures.none c.in_default.is)) lies.some.1 in
    absurd (true≢false (sym lies.some.2 ∙ other))

pub is_right-requires-clause-lies : goal.is_right-requires-clause-lies
is_right-requires-clause-lies g c =
    let p = placed_of c.args.placement.now in
    let lt : c.loop-number.number < length p.stubs = omega (arith, c.loop-number-test.true, c.len-number-end.ensures) in
    all_contains (StubLies c.args.image.now p) p.stubs c.index-stub.result.now c.requires.lie
    (c.loop-number.number, lt, sym c.index-stub.ensures)

pub loop-number-preserved : goal.loop-number-preserved
loop-number-preserved g c = λ tells found k d low.
    let p = placed_of c.args.placement.now in
    let i = c.loop-number.number in
    let stub = c.index-stub.result.now in
    let lt : i < length p.stubs = omega (arith, c.loop-number-test.true, c.len-number-end.ensures) in
    elim (cases_lt k i) [
      | inl before ↦ c.loop-number.invariant tells found k d before
      | inr behind ↦
          let same : i ≡ k = omega (arith, low, behind) in
          subst (StubSays c.args.image.now p)
          (c.index-stub.ensures ∙ get_or_default p.stubs i stub d lt ∙ ap (λ (j : ℕ). get_or p.stubs j d) same)
          (subst (λ (r : Bool). OnTrue r (StubSays c.args.image.now p stub)) c.if-not-is_right.false
          (c.is_right.ensures.found tells found (i, lt, sym c.index-stub.ensures)))
    ]
