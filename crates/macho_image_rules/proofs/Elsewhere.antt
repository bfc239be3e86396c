-- A segment that a carried section lies in isn't `__PAGEZERO`.
--
-- The segment has the name that the section asks for, and a section that asks for `__PAGEZERO` isn't carried.
use Rattle.std.proofs.Common.{◌≡◌, List, ℕ, ap, ◌∙◌}
use Rattle.std.specs.Str.{bytes_eq}
use Rattle.std.proofs.lemmas.Slice.Eq.{bytes_eq-Decides}
use Rattle.macho_bytes.proofs.Members.{filter_contains}
use Rattle.macho_records.specs.Segments.{text_of}
use Rattle.macho_records.specs.Sections.{segment_name_of}
use Rattle.macho_model.specs.Links.{SectionId, header_at, is_carried, sections_of, carried_of}
use Rattle.macho_model.specs.Segments.{PAGEZERO}
use Rattle.macho_model.specs.Placement.{id_of}
use Rattle.macho_model.proofs.Carried.{segment_of_carried}
use Rattle.macho_image_rules.specs.Laws.{CarriedLieElsewhere}

pub carried_lie_elsewhere : CarriedLieElsewhere
unfolding carried_of
carried_lie_elsewhere l q t there named =
    let carried = (filter_contains (λ (s : SectionId). is_carried (header_at l s)) (sections_of l) (id_of q) there).1 in
    let same : text_of t.name ≡ segment_name_of (header_at l (id_of q)) =
    (bytes_eq-Decides (text_of t.name) (segment_name_of (header_at l (id_of q)))).0 named in
    ap (λ (name : List ℕ). bytes_eq name PAGEZERO) same ∙ (segment_of_carried (header_at l (id_of q)) carried).0
