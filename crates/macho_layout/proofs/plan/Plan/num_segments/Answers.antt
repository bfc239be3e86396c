-- How many segments there are: `__TEXT` and `__LINKEDIT`, and one for each test and for each other name.
use Rattle.std.proofs.Common.{◌≡◌, List, length, filter, Bool, ap, ◌∙◌, arith}
use Rattle.macho_records.specs.declared.segments.SegmentName.{SegmentName}
use Rattle.macho_model.specs.Segments.{one_if}
use Rattle.macho_layout.specs.Plans.{Planning}
use Rattle.macho_layout.specs.Names.{is_other, section_segments, has_data_const, has_data}
use Rattle.macho_layout.proofs.Tests.{one_is, count_of_names}
use Rattle.macho_layout.proofs.plan.Plan.num_segments.Goals as goal

pub returns : goal.returns
returns c =
    let p = c.args.self.now in
    let first : c.from.result ≡ one_if (has_data_const c.args.self.now) = c.from.ensures ∙ one_is c.has_data_const.result ∙ ap
    (λ (b : Bool). one_if b) c.has_data_const.ensures in
    let second : c.from-2.result ≡ one_if (has_data c.args.self.now) = c.from-2.ensures ∙ one_is c.has_data.result ∙ ap
    (λ (b : Bool). one_if b) c.has_data.ensures in
    let third : c.from-3.result ≡ one_if (c.args.self.now).executable = c.from-3.ensures ∙ one_is _ ∙ ap
    (λ (p : Planning). one_if p.executable) c.self.view_is in
    let table : c.count_others-others.result ≡ length (filter is_other (section_segments c.args.self.now))
    = c.count_others-others.ensures.count ∙ ap (λ (ns : List SegmentName). length (filter is_other ns))
    (c.as_slice.ensures.keys ∙ c.self.invariant.0.segments_are)
    ∙ ap (λ (p : Planning). length (filter is_other (section_segments p))) c.self.view_is in
    let all = count_of_names p in
    omega arith
