-- Laws on what memory holds where no chain word has a byte, and on slots and pointers that no fixup moves. Each is the contract
-- of a function of `src/laws.rt`.
use Rattle.std.specs.Prelude.{◌≡◌, ℕ, ◌+◌, ◌*◌, ◌^◌, ◌<◌, ◌≤◌, ◌||◌, true, List, [], length, get_or, Some, Contains, is_some}
use Rattle.macho_records.specs.Numbers.{le_at}
use Rattle.macho_records.specs.ByteTexts.{Stands}
use Rattle.macho_records.specs.declared.header.SegmentCommand.{SegmentCommand}
use Rattle.macho_model.specs.declared.placed.PlacedSection.{PlacedSection}
use Rattle.macho_model.specs.declared.placed.Slot.{Slot}
use Rattle.macho_model.specs.declared.targets.Target.TheVariants as target
use Rattle.macho_model.specs.Links.{Link}
use Rattle.macho_model.specs.Needs.{imports_of, import_library}
use Rattle.macho_model.specs.Targets.{is_defined}
use Rattle.macho_model.specs.Fields.{Field}
use Rattle.macho_model.specs.Meaning.{Same}
use Rattle.macho_model.specs.Placement.{Placed, id_of}
use Rattle.macho_model.specs.Images.{mapped_segments, base_of}
use Rattle.macho_model.specs.Memory.{Choice, chosen, rebase_target, rebase_high, Covers, Holds, HoldsText, HoldsNumber}
use Rattle.macho_model.specs.Stands.{Pointer, kind_of, is_template_offset, IsAt, Denotes, SlotStands}
use Rattle.macho_model.specs.Values.{is_absolute_target}
use Rattle.macho_model.specs.SlideLaws.{MovesAt, BindsAt}

-- no chain word has one of so many bytes
abbrev pub IsFree : List ℕ → ℕ → ℕ → Type 0
IsFree b a n = (k : ℕ) → k < n → (word_at : ℕ) → Covers b word_at (a + k) → ⊥

-- A text of the file that no chain word covers is held, where it stands in the file part of a mapped segment.
abbrev pub TextsAreHeld : Type 0
TextsAreHeld =
    (b : List ℕ) (s : ℕ) (choice : Choice) (segment : SegmentCommand) (i : ℕ) (text : List ℕ) → IsFree b (segment.vmaddr + i) (length text)
    → Contains (mapped_segments b) segment → i + length text ≤ segment.filesize → segment.filesize ≤ segment.vmsize
    → Stands b (record { at = segment.fileoff + i; text = text }) → HoldsText b s choice (segment.vmaddr + i + s) text

-- Zeros are held behind the file part.
abbrev pub ZerosAreHeld : Type 0
ZerosAreHeld =
    (b : List ℕ) (s : ℕ) (choice : Choice) (segment : SegmentCommand) (i n : ℕ) → IsFree b (segment.vmaddr + i) n
    → Contains (mapped_segments b) segment → segment.filesize ≤ i → i + n ≤ segment.vmsize
    → (k : ℕ) → k < n → Holds b s choice (segment.vmaddr + i + k + s) 0

-- A number of the file is held.
abbrev pub NumbersAreHeld : Type 0
NumbersAreHeld =
    (b : List ℕ) (s : ℕ) (choice : Choice) (segment : SegmentCommand) (w i : ℕ) → IsFree b (segment.vmaddr + i) w
    → Contains (mapped_segments b) segment → i + w ≤ segment.filesize → segment.filesize ≤ segment.vmsize
    → segment.fileoff + segment.filesize ≤ length b
    → HoldsNumber b s choice w (segment.vmaddr + i + s) (le_at w b (segment.fileoff + i))

-- A slot of a target that moves stands at every slide, where its chain word says the target at slide 0.
abbrev pub SlotsMove : Type 0
SlotsMove =
    (l : Link) (b : List ℕ) (p : Placed) (c : Choice) (slot : Slot) (word x : ℕ)
    → MovesAt b slot.address word → is_defined slot.target ≡ true
    → IsAt l p 0 c slot.target x → Same (rebase_target word + rebase_high word * 2 ^ 56 + base_of b) x
    → (s : ℕ) (choice : Choice) → SlotStands l b p s choice slot

-- A slot of an import stands at every slide, for every choice that has the import.
abbrev pub ImportSlotsBind : Type 0
ImportSlotsBind =
    (l : Link) (b : List ℕ) (p : Placed) (slot : Slot) (id : ℕ) → BindsAt l b slot.address id 0 → slot.target ≡ target.Import id
    → (s : ℕ) (choice : Choice) (x : ℕ)
    → chosen choice (import_library l (get_or (imports_of l) id [])) (get_or (imports_of l) id []) ≡ Some x
    → SlotStands l b p s choice slot

-- A pointer that no fixup moves, an offset from the thread-local template or an absolute value, denotes at every slide where it
-- does at slide 0.
abbrev pub PlainPointersStay : Type 0
PlainPointersStay =
    (l : Link) (b : List ℕ) (p : Placed) (s : ℕ) (c d : Choice) (q : PlacedSection) (f : Field)
    → kind_of f.type (is_some f.subtrahend) ≡ Pointer → (is_template_offset l (id_of q) f || is_absolute_target f.target) ≡ true
    → IsFree b (q.address + f.offset) f.width → Denotes l b p 0 c q f → Denotes l b p s d q f
