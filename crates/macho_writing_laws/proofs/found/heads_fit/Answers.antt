use Rattle.macho_writing_laws.proofs.Heads.{headers_stand, tables_end, tables_low, heads_room}
use Rattle.macho_writing_laws.proofs.found.heads_fit.Goals as goal

pub returns : goal.returns
returns c = record { split = headers_stand; ends = tables_end; low = tables_low; head = heads_room }
