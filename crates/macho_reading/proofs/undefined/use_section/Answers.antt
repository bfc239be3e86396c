-- The relocations are those of the object's section.
use Rattle.std.proofs.Common.{◌≡◌, nat_lt, sym, subst}
use Rattle.macho_object.specs.Views.{RelocationBytes, section_count}
use Rattle.macho_relocation_scan.specs.steps.Sections.{HasObject}
use Rattle.macho_relocation_scan.proofs.Walking.{some_section}
use Rattle.macho_reading.proofs.undefined.use_section.Goals as goal

pub returns-clause-why : goal.returns-clause-why
returns-clause-why c l counts has keeps =
    let object = c.args.object.now in
    let list : c.in-Some-relocations.list ≡ record { bytes = object.bytes; section = c.args.section }
    = some_section (nat_lt c.args.section (section_count object.is_dynamic object.bytes)) _ _ c.in-Some-relocations.ensures in
    c.use_relocations.ensures.why l counts (subst (λ (n : RelocationBytes). HasObject l c.args.file n.bytes) (sym list) has) keeps
