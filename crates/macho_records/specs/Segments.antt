-- Segments by their names (mach-o/loader.h): which are writable, how they are protected, in what order they stand.
use Rattle.std.specs.Prelude.{ℕ, ◌-◌, ◌+◌, Bool, not, ◌||◌, if◌then◌else◌, List, ◌++◌, length, replicate, bytes_eq, codes}
use Rattle.macho_bytes.specs.Texts.{name_of}
use Rattle.macho_records.specs.declared.constants.TheConstants.{VM_PROT_READ, VM_PROT_WRITE, VM_PROT_EXECUTE, SG_READ_ONLY}
use Rattle.macho_records.specs.declared.segments.SegmentName.{SegmentName}
use Rattle.macho_records.specs.declared.segments.ProgramSegmentDef.{ProgramSegmentDef}

-- the text of a name: its bytes up to the first NUL
abbrev pub text_of : SegmentName → List ℕ
text_of n = name_of n.0

-- a name in a field of 16 bytes: what stands before the first NUL, then zeros
abbrev pub name_field : List ℕ → List ℕ
name_field name = name_of name ++ replicate (16 - length (name_of name)) 0

-- the segments that the program may not write: the page at address 0, code, and the linker's tables
abbrev pub is_writable_segment : List ℕ → Bool
is_writable_segment name = not (bytes_eq name (codes "__PAGEZERO") || bytes_eq name (codes "__TEXT") || bytes_eq name (codes "__LINKEDIT"))

-- what a program may do in a segment; of `__PAGEZERO`, whose command has protection 0, the same as of data
abbrev pub protection_of : List ℕ → ℕ
protection_of name =
    if bytes_eq name (codes "__TEXT") then VM_PROT_READ + VM_PROT_EXECUTE
    else (if bytes_eq name (codes "__LINKEDIT") then VM_PROT_READ else VM_PROT_READ + VM_PROT_WRITE)

-- the `SG_` flags of a segment
abbrev pub segment_flags_of : List ℕ → ℕ
segment_flags_of name = if bytes_eq name (codes "__DATA_CONST") then SG_READ_ONLY else 0

-- the place of a segment among all: code, constants, data, any other, the linker's tables
abbrev pub order_key_of : List ℕ → ℕ
order_key_of name =
    if bytes_eq name (codes "__TEXT") then 0
    else (if bytes_eq name (codes "__DATA_CONST") then 1
    else (if bytes_eq name (codes "__DATA") then 2
    else (if bytes_eq name (codes "__LINKEDIT") then 4 else 3)))

-- the segments that stand also where nothing is in them
abbrev pub is_always_kept : List ℕ → Bool
is_always_kept name = bytes_eq name (codes "__TEXT") || bytes_eq name (codes "__LINKEDIT")

-- the segment of a name
abbrev pub segment_def_of : SegmentName → ProgramSegmentDef
segment_def_of n = record { name = n; prot = protection_of (text_of n); flags = segment_flags_of (text_of n) }
