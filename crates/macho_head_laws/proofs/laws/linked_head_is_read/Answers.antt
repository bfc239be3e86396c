use Rattle.macho_head_laws.proofs.Linked.{linked_head_is_read, linked_uuid_is_read}
use Rattle.macho_head_laws.proofs.laws.linked_head_is_read.Goals as goal

pub returns : goal.returns
returns c = record { head = linked_head_is_read; uuid = linked_uuid_is_read }
