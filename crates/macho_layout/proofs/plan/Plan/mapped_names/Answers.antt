-- The segments that are mapped from the file, in order.
--
-- Each step adds its names at the end; the tests and the table are those of the plan.
use Rattle.std.proofs.Common.{◌≡◌, List, [], ◌∷◌, ◌++◌, filter, Bool, ap, ◌∙◌}
use Rattle.macho_records.specs.declared.segments.SegmentName.{SegmentName}
use Rattle.macho_model.specs.Segments.{TEXT, DATA_CONST, DATA, list_if}
use Rattle.macho_layout.specs.Plans.{Planning}
use Rattle.macho_layout.specs.Keys.{padded}
use Rattle.macho_layout.specs.Names.{is_other, section_segments, mapped_names, has_data_const, has_data}
use Rattle.macho_layout.proofs.plan.Plan.mapped_names.Goals as goal

pub returns : goal.returns
unfolding mapped_names
returns c =
    let first : c.push.new.self.items ≡ padded TEXT ∷ [] = c.in_ok-push.ensures.items ∙ ap
    (λ (ns : List SegmentName). ns ++ padded TEXT ∷ []) c.new-names.ensures.items in
    let second : c.push_if.new.names.items ≡ c.push.new.self.items ++ list_if (has_data_const c.args.self.now) (padded DATA_CONST ∷ [])
    = c.in_ok-push_if.ensures ∙ ap (λ (b : Bool). c.push.new.self.items ++ list_if b (padded DATA_CONST ∷ [])) c.has_data_const.ensures in
    let third : c.push_if-2.new.names.items ≡ c.push_if.new.names.items ++ list_if (has_data c.args.self.now) (padded DATA ∷ [])
    = c.in_ok-push_if-2.ensures ∙ ap (λ (b : Bool). c.push_if.new.names.items ++ list_if b (padded DATA ∷ [])) c.has_data.ensures in
    let table : c.as_slice.result.now ≡ section_segments c.args.self.now
    = c.as_slice.ensures.keys ∙ c.self.invariant.0.segments_are ∙ ap (λ (p : Planning). section_segments p) c.self.view_is in
    c.in_ok-push_others.ensures
    ∙ ap (λ (ns : List SegmentName). c.push_if-2.new.names.items ++ filter is_other ns) table
    ∙ ap (λ (ns : List SegmentName). ns ++ filter is_other (section_segments c.args.self.now)) third
    ∙ ap (λ (ns : List SegmentName). ns ++ list_if (has_data c.args.self.now) (padded DATA ∷ []) ++ filter is_other
    (section_segments c.args.self.now)) second
    ∙ ap (λ (ns : List SegmentName). ns ++ list_if (has_data_const c.args.self.now) (padded DATA_CONST ∷ []) ++ list_if
    (has_data c.args.self.now) (padded DATA ∷ []) ++ filter is_other (section_segments c.args.self.now)) first
