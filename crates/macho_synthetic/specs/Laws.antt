-- Laws of what is made: each is the contract of a function of `src/laws.rt`.
use Rattle.std.specs.Prelude.{◌≡◌, ℕ, ◌+◌, ◌-◌, ◌*◌, ◌<◌, ◌≤◌, List, length, map}
use Rattle.macho_bytes.specs.Texts.{Stands}
use Rattle.macho_model.specs.declared.placed.Counts.{Counts}
use Rattle.macho_model.specs.declared.targets.Target.{Target}
use Rattle.macho_model.specs.Links.{Link}
use Rattle.macho_model.specs.Targets.{slots_of}
use Rattle.macho_model.specs.WrittenSum.{INITIALIZER_SIZE}
use Rattle.macho_model.specs.Placement.{Placed}
use Rattle.macho_model.specs.Addresses.{offset_in_file}
use Rattle.macho_model.specs.Made.{InitOffsetsSay}
use Rattle.macho_model.specs.Limits.{IsWritten32, LIMIT_32}
use Rattle.macho_promise.specs.UnwindSays.{UnwindSays}
use Rattle.macho_consumed.specs.Rows.{initializer_rows, entry_rows}
use Rattle.macho_fields.specs.Looks.{Look, Tells}
use Rattle.macho_synthetic.specs.Entries.{resolved_row, MayBeBuilt}
use Rattle.macho_synthetic.specs.Made.{IsToMake, IsOffsetsText, IsUnwindMade}

-- the entries of a link at their addresses are such that unwind information can be made of them
abbrev pub EntriesMayBeBuilt : Type 0
EntriesMayBeBuilt =
    (l : Link) (counts : Counts) (p : Placed) (look : Look) (slots : List Target) → IsToMake l counts p → Tells l p look
    → slots ≡ slots_of l
    → MayBeBuilt look.base (map (resolved_row look slots) (entry_rows l))

-- a file in which the offsets stand at the start of their range says them
abbrev pub OffsetsAreSaid : Type 0
OffsetsAreSaid =
    (l : Link) (counts : Counts) (p : Placed) (b text : List ℕ) → IsToMake l counts p → IsOffsetsText l p text
    → Stands b (record { at = offset_in_file p p.init_offsets.start; text = text })
    → InitOffsetsSay l b p

-- The file says the unwind information, with this content.
pub record SaysUnwind (l : Link) (b : List ℕ) (p : Placed) (text : List ℕ) : Type 0 where
  pub says : UnwindSays l b p
  pub content : says.content ≡ text

-- and so does one in which that stands at the start of its range
abbrev pub UnwindIsSaid : Type 0
UnwindIsSaid =
    (l : Link) (counts : Counts) (p : Placed) (b text : List ℕ) → IsToMake l counts p → IsUnwindMade l p text
    → Stands b (record { at = offset_in_file p p.unwind.start; text = text })
    → SaysUnwind l b p text

-- The ranges have the room of what is made: 4 bytes for each initializer's row, and those of the unwind information. They end in the
-- file, empty ones too.
pub record RangesFit (l : Link) (p : Placed) : Type 0 where
  pub rows : INITIALIZER_SIZE * length (initializer_rows l) ≡ p.init_offsets.end - p.init_offsets.start
  pub offsets : (text : List ℕ) → IsOffsetsText l p text → length text ≡ p.init_offsets.end - p.init_offsets.start
  pub unwind : (text : List ℕ) → IsUnwindMade l p text → length text ≤ p.unwind.end - p.unwind.start
  pub offsets_end : offset_in_file p p.init_offsets.start + (p.init_offsets.end - p.init_offsets.start) ≤ p.linkedit.signature.end
  pub unwind_end : offset_in_file p p.unwind.start + (p.unwind.end - p.unwind.start) ≤ p.linkedit.signature.end

abbrev pub TextsFitRanges : Type 0
TextsFitRanges = (l : Link) (counts : Counts) (p : Placed) → IsToMake l counts p → RangesFit l p

-- where both are made, no address passes whose offset is written in 32 bits
abbrev pub NothingWrittenPasses : Type 0
NothingWrittenPasses =
    (l : Link) (counts : Counts) (p : Placed) (offsets unwind : List ℕ) → IsToMake l counts p → IsOffsetsText l p offsets
    → IsUnwindMade l p unwind
    → (x : ℕ) → IsWritten32 l p x → x < p.base + LIMIT_32
