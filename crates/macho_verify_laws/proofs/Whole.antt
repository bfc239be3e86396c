-- The parts of an image decide it.
--
-- A field that the loader writes is decided by its word on the chain, each other one by the bytes of the segments; so all fields are. With
-- the laws of sections, commons, slots and stubs, the bytes of a file decide that the image stands at every load.
use Rattle.macho_verify_laws.specs.Laws.{FieldsDecide, FileDecides}
use Rattle.macho_verify_laws.proofs.Free.{sections_decide, commons_decide}
use Rattle.macho_verify_laws.proofs.Decided.{slots_decide, written_fields_decide}
use Rattle.macho_verify_laws.proofs.FieldHalves.{fields_decide}
use Rattle.macho_verify_laws.proofs.Stubs.{stubs_decide}
use Rattle.macho_verify_laws.proofs.Assembled.{file_decides}

-- THE fields, of both kinds.
pub all_fields_decide : FieldsDecide
all_fields_decide = fields_decide written_fields_decide

-- THE image.
pub all_decides : FileDecides
all_decides = file_decides sections_decide commons_decide all_fields_decide slots_decide stubs_decide
