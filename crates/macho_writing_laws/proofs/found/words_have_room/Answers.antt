use Rattle.macho_writing_laws.proofs.Segments.{segments_rise, segments_end, words_room}
use Rattle.macho_writing_laws.proofs.Pointers.{pointers_stand}
use Rattle.macho_writing_laws.proofs.Tables.{runs_fit}
use Rattle.macho_writing_laws.proofs.TableRooms.{tables_room}
use Rattle.macho_writing_laws.proofs.found.words_have_room.Goals as goal

pub returns : goal.returns
returns c = record
    { pointers = pointers_stand; segments = segments_rise; ends = segments_end; words = words_room; fits = runs_fit; table = tables_room }
