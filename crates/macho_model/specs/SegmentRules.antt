-- The loader's rules on single segments, by names that say which of them an image breaks (`Loader`).
use Rattle.std.specs.Prelude.{◌+◌, ◌^◌, nat_le, Bool, ℕ, ◌&&◌, List, length, ◌%◌, ◌==◌}
use Rattle.macho_records.specs.declared.header.SegmentCommand.{SegmentCommand}
use Rattle.macho_model.specs.Segments.{SEGMENT_PAGE}
use Rattle.macho_model.specs.Commands.{commands_end}
use Rattle.macho_records.specs.Numbers.{bits}

-- L6: a segment ends at 2 ^ 64 at most, and the one behind it does not begin before that
abbrev pub segment_ends : SegmentCommand → Bool
segment_ends s = nat_le (s.vmaddr + s.vmsize) (2 ^ 64)

abbrev pub begins_behind : SegmentCommand → SegmentCommand → Bool
begins_behind s t = nat_le (s.vmaddr + s.vmsize) t.vmaddr

-- L4: a segment's file bytes stand inside the file, and are at most its bytes in memory
abbrev pub file_part_inside : List ℕ → SegmentCommand → Bool
file_part_inside b s = nat_le (s.fileoff + s.filesize) (length b) && nat_le s.filesize s.vmsize

-- L5: a segment is made of whole pages
abbrev pub segment_is_paged : SegmentCommand → Bool
segment_is_paged s = (s.vmaddr % SEGMENT_PAGE == 0) && (s.vmsize % SEGMENT_PAGE == 0) && (s.fileoff % SEGMENT_PAGE == 0)

-- L7, of the text segment: it begins the file and holds the load commands
abbrev pub text_holds_commands : List ℕ → SegmentCommand → Bool
text_holds_commands b s = (s.fileoff == 0) && nat_le (commands_end b) s.filesize

-- a segment may be written to
abbrev pub is_writable : SegmentCommand → Bool
is_writable s = bits 1 1 s.initprot == 1
