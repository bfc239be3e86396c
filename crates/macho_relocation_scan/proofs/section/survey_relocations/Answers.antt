-- The relocations so far are the first ones of the table; each that comes is the next one in the walk, and is known by what was seen
-- last. Where each stood apart from those before it, all are apart in the end.
use Rattle.std.proofs.Common.{◌≡◌, ◌<◌, ◌≤◌, List, ◌++◌, take, refl, sym, ap, ◌∙◌, subst, append-nil, arith}
use Rattle.std.proofs.lemmas.Bool.{OnTrue_from}
use Rattle.std.proofs.lemmas.Result.{err_from_is_err_and}
use Rattle.macho_model.specs.Objects.{section_at}
use Rattle.macho_model.specs.Links.{header_at}
use Rattle.macho_model.specs.Uses.{ByRelocation, carried_uses, Use}
use Rattle.macho_object.specs.Views.{RelocationBytes}
use Rattle.macho_promise.specs.Noted.{imports_in}
use Rattle.macho_relocation_scan.specs.steps.Found.{IsSurveyed}
use Rattle.macho_relocation_scan.specs.steps.Windows.{window_in}
use Rattle.macho_relocation_scan.specs.steps.Overlaps.{AreApart}
use Rattle.macho_relocation_scan.specs.steps.Sections.{id_of}
use Rattle.macho_relocation_scan.proofs.Walking.{next_is, next_there, uses_more, uses_long, all_taken, rows_kept}
use Rattle.macho_relocation_scan.proofs.section.survey_relocations.Goals as goal

pub loop-index-init : goal.loop-index-init
loop-index-init c = record {
  surveyed = λ l ss us object carried begins is. subst (λ (ws : List Use). IsSurveyed l ss ws c.args.needs.now c.args.findings.now)
      (sym (append-nil us)) is;
  last = record { is = refl; bits = tt };
  order = c.new-order.ensures c.args.list.now.bytes c.args.list.now.section;
  kept = λ inputs keeps. keeps;
}

pub survey_relocation-requires-clause-rows : goal.survey_relocation-requires-clause-rows
survey_relocation-requires-clause-rows c =
    rows_kept c.args.needs.now.resolved.files c.loop-index.needs.resolved.files c.args.at.file c.args.object.now.bytes c.requires.rows
    c.loop-index.invariant.kept

pub survey_relocation-requires-clause-seen : goal.survey_relocation-requires-clause-seen
survey_relocation-requires-clause-seen c =
    c.of-seen.ensures.seen ∙ ap (λ (n : RelocationBytes). window_in n.bytes n.section c.loop-index.index) c.requires.list

pub survey_relocation-requires-clause-index : goal.survey_relocation-requires-clause-index
survey_relocation-requires-clause-index c =
    let there : c.loop-index.index < (section_at c.args.list.now.bytes c.args.list.now.section).nreloc = omega arith in
    subst (λ (n : RelocationBytes). c.loop-index.index < (section_at n.bytes n.section).nreloc) c.requires.list there

pub loop-index-preserved : goal.loop-index-preserved
loop-index-preserved c = record {
  surveyed = λ l ss us object carried begins is.
      let s = id_of c.args.at in
      let there : c.loop-index.index < (section_at c.args.list.now.bytes c.args.list.now.section).nreloc = omega arith in
      let below : c.loop-index.index < (header_at l s).nreloc
      = subst (λ b. c.loop-index.index < (section_at b c.args.at.section).nreloc) (sym object)
      (subst (λ (n : RelocationBytes). c.loop-index.index < (section_at n.bytes n.section).nreloc) c.requires.list there) in
      let more = c.in_ok-survey_relocation.ensures.surveyed l ss (us ++ take c.loop-index.index (carried_uses l s)) object carried
      (next_is l us s c.loop-index.index below begins)
      (c.loop-index.invariant.surveyed l ss us object carried begins is) in
      subst (λ (ws : List Use). IsSurveyed l ss ws c.survey_relocation.new.needs c.survey_relocation.new.findings)
      (uses_more l us s c.loop-index.index below) more;
  last = c.of-seen.ensures.last;
  order = c.followed_by-order.ensures c.args.list.now.bytes c.args.list.now.section c.loop-index.index c.of-seen.ensures.seen
      c.loop-index.invariant.order;
  kept = λ inputs keeps. c.in_ok-survey_relocation.ensures.kept inputs (c.loop-index.invariant.kept inputs keeps);
}

pub returns-in_err-survey_relocation-clause-why : goal.returns-in_err-survey_relocation-clause-why
returns-in_err-survey_relocation-clause-why c l counts ss us object carried begins is =
    let s = id_of c.args.at in
    let there : c.loop-index.index < (section_at c.args.list.now.bytes c.args.list.now.section).nreloc = omega arith in
    let below : c.loop-index.index < (header_at l s).nreloc
    = subst (λ b. c.loop-index.index < (section_at b c.args.at.section).nreloc) (sym object)
    (subst (λ (n : RelocationBytes). c.loop-index.index < (section_at n.bytes n.section).nreloc) c.requires.list there) in
    let e = err_from_is_err_and c.from_residual.result c.from_residual.ensures.1 in
    rw (e.1, e.2)
    (c.in_err-survey_relocation.ensures.why l counts (imports_in l (us ++ take c.loop-index.index (carried_uses l s))) object
    (next_there l (us ++ take c.loop-index.index (carried_uses l s)) (ByRelocation s c.loop-index.index)
    (next_is l us s c.loop-index.index below begins))
    (c.loop-index.invariant.surveyed l ss us object carried begins is).noted.imports)

pub returns-clause-surveyed : goal.returns-clause-surveyed
returns-clause-surveyed c l ss us object carried begins is =
    let s = id_of c.args.at in
    let past : (section_at c.args.list.now.bytes c.args.list.now.section).nreloc ≤ c.loop-index.index = omega arith in
    let past_here : (header_at l s).nreloc ≤ c.loop-index.index
    = subst (λ b. (section_at b c.args.at.section).nreloc ≤ c.loop-index.index) (sym object)
    (subst (λ (n : RelocationBytes). (section_at n.bytes n.section).nreloc ≤ c.loop-index.index) c.requires.list past) in
    subst (λ (ws : List Use). IsSurveyed l ss (us ++ ws) c.loop-index.needs c.loop-index.findings)
    (all_taken c.loop-index.index (carried_uses l s) (omega (arith, past_here, uses_long l s)))
    (c.loop-index.invariant.surveyed l ss us object carried begins is)

pub returns-clause-apart : goal.returns-clause-apart
returns-clause-apart c =
    let b = c.args.list.now.bytes in
    let k = c.args.list.now.section in
    let end : c.loop-index.index ≡ (section_at b k).nreloc = omega arith in
    OnTrue_from c.loop-index.order.are_apart _ (λ e. subst (AreApart b k) end (c.loop-index.invariant.order.apart e))
