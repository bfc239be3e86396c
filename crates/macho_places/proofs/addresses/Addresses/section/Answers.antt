-- The address of a section is that of the first with its key; 0 where there is none.
use Rattle.std.proofs.Common.{◌∙◌}
use Rattle.macho_model.specs.Addresses.{section_address}
use Rattle.macho_places.proofs.addresses.Addresses.section.Goals as goal

pub returns : goal.returns
unfolding section_address
returns c = λ q a. c.address.ensures ∙ a.sections c.args.file c.args.section
