-- Each file adds what one more file adds.
use Rattle.std.proofs.Common.{◌≡◌, ℕ, ◌<◌, sym, ap, ◌∙◌, arith, length}
use Rattle.std.proofs.lemmas.List.{get_or_default}
use Rattle.std.specs.Prelude.{get_or, Option, None}
use Rattle.macho_object.specs.Views.{FileBytes}
use Rattle.macho_sizing.specs.Sections.{specs_of_view, specs_of_views}
use Rattle.macho_sizing.proofs.Listing.{with_specs, with_both, specs_of_first, files_more}
use Rattle.macho_sizing.proofs.sections.plan_sections.Goals as goal

pub returns : goal.returns
unfolding specs_of_views
returns c =
    let whole : c.loop-file.file ≡ length c.args.views.now = omega arith in
    c.loop-file.invariant ∙ ap (λ (n : ℕ). with_specs c.args.plan.now (specs_of_first c.args.views.now n)) whole

pub loop-file-preserved : goal.loop-file-preserved
loop-file-preserved c =
    let views = c.args.views.now in
    let k = c.loop-file.file in
    let lt : k < length views = omega arith in
    let same = get_or_default views k c.index-views-file.result None lt in
    with_both c.args.plan.now c.loop-file.plan c.add_view.new.plan (specs_of_first views k) (specs_of_view k (get_or views k None))
    c.loop-file.invariant
    (c.in_ok-add_view.ensures ∙ ap (λ (v : Option FileBytes). with_specs c.loop-file.plan (specs_of_view k v))
    (c.index-views-file.is ∙ same))
    ∙ ap (with_specs c.args.plan.now) (sym (files_more views k))
