-- When each refusal of a link stands. A refusal is told only where it stands, and an image only where none does.
use Rattle.std.specs.Prelude.{◌≡◌, ℕ, ◌+◌, ◌*◌, ◌%◌, ◌<◌, ◌≤◌, ◌⊎◌, ◌==◌, ◌||◌, not, Bool, true, false, List, ◌++◌, length, filter, Option, Some, None, Contains, IsNone, reverse, take_while, drop, codes}
use Rattle.std.specs.List.{list_any}
use Rattle.std.specs.Str.{bytes_eq}
use Rattle.macho_records.specs.Sections.{segment_name_of}
use Rattle.macho_model.specs.declared.rules.UnwindRule.{UnwindRule}
use Rattle.macho_model.specs.declared.rules.UnwindRule.TheVariants.{U1}
use Rattle.macho_model.specs.declared.targets.Limit.{Limit}
use Rattle.macho_model.specs.declared.targets.Site.{Site}
use Rattle.macho_model.specs.declared.placed.Counts.{Counts}
use Rattle.macho_model.specs.Lists.{IsNumber}
use Rattle.macho_model.specs.ExportLists.{plain_entries}
use Rattle.macho_model.specs.Links.{Link, SectionId, section_id, header_at, carried_of}
use Rattle.macho_model.specs.Resolution.{SymbolId, name_at, strong_of, definition_of}
use Rattle.macho_model.specs.Needs.{initializer_sections, unwind_sections, carried_relocations, initializer_relocations, personality_relocations, globals_used, relocation_in, POINTER_SIZE}
use Rattle.macho_model.specs.Targets.{target_of_name, is_import}
use Rattle.macho_model.specs.Fields.{Field}
use Rattle.macho_model.specs.Segments.{SEGMENT_PAGE, may_hold_pointers}
use Rattle.macho_model.specs.Placement.{Placed}
use Rattle.macho_model.specs.Rows.{is_supported, share_byte, are_pair}
use Rattle.macho_model.specs.Consumed.{initializer_section_fits, initializer_slot_fits, is_plain_pointer, is_section_target, entry_count, whole_entries, keeps}
use Rattle.macho_model.specs.Stands.{SectionAt}
use Rattle.macho_model.specs.Limits.{PassesLimit, IsTooLarge}
use Rattle.macho_model.specs.Values.{FieldOf, fits_signed, is_pointer, needs_fixup, BadRebase, BadRange}

-- A refusal, seen without memory.
pub data LinkFault : Type 0 where
  DuplicateSymbol : (name : List ℕ) (first second : ℕ) → LinkFault
  UndefinedSymbol : (name : List ℕ) (file : ℕ) → LinkFault
  EntryNotDefined : (name : List ℕ) → LinkFault
  ExportListMissing : (name : List ℕ) → LinkFault
  BadInitializer : (file section offset : ℕ) → LinkFault
  BadUnwind : (file section entry : ℕ) (rule : UnwindRule) → LinkFault
  UnsupportedRelocation : (file section relocation : ℕ) → LinkFault
  OverlappingFields : (file section first second : ℕ) → LinkFault
  BindAddend : (file section relocation addend : ℕ) → LinkFault
  FixupPlace : (file section relocation : ℕ) (placement : Option Placed) → LinkFault
  TooMany : (what : Limit) (number : ℕ) (placement : Option Placed) → LinkFault
  ImageTooLarge : (placement : Option Placed) → LinkFault
  RebaseTarget : (at : Site) (placement : Placed) → LinkFault
  RelocationRange : (at : Site) (placement : Placed) → LinkFault
  BadName : LinkFault

-- a name has two strong definitions, in these files
abbrev pub IsDuplicate : Link → List ℕ → ℕ → ℕ → Type 0
IsDuplicate l name first second =
    (i : ℕ) × (j : ℕ) × (s : SymbolId) × (t : SymbolId) × (i < j) × IsNumber (strong_of l name) i s
    × IsNumber (strong_of l name) j t × (s.file ≡ first) × (t.file ≡ second)

-- a file uses a global name that has no definition; a relocation of a consumed section uses one only where it has the form that is read
abbrev pub IsUndefined : Link → List ℕ → ℕ → Type 0
IsUndefined l name file =
    (s : SymbolId)
    × Contains (globals_used l (carried_relocations l
    ++ filter (λ u. is_plain_pointer (relocation_in l u.0 u.1)) (initializer_relocations l ++ personality_relocations l))) s
    × (name_at l s ≡ name) × (s.file ≡ file) × IsNone (definition_of l name)

-- an entry breaks a rule; a section that is cut is told at the entry that is cut
abbrev pub IsBadEntry : Link → SectionId → ℕ → UnwindRule → Type 0
IsBadEntry l s entry U1 = (entry ≡ entry_count l s) × (whole_entries l s ≡ false)
IsBadEntry l s entry rule = (entry < entry_count l s) × (keeps l s entry rule ≡ false)

-- an executable's entry is defined in a carried section
abbrev pub entry_is_defined : Link → Bool
entry_is_defined l = not l.executable || is_section_target (target_of_name l l.entry)

-- an initializer section is broken: as a whole, in a slot, or by a relocation between slots
abbrev pub IsBadInitializer : Link → SectionId → ℕ → Type 0
IsBadInitializer l s offset =
    ((initializer_section_fits l s ≡ false) × (offset ≡ 0))
    ⊎ ((slot : ℕ) × (POINTER_SIZE * slot + POINTER_SIZE ≤ (header_at l s).size) × (offset ≡ POINTER_SIZE * slot)
    × (initializer_slot_fits l s slot ≡ false))
    ⊎ ((r : ℕ) × (r < (header_at l s).nreloc) × (offset ≡ (relocation_in l s r).r_address) × ((offset % POINTER_SIZE == 0) ≡ false))

-- a pointer is in a segment that may hold none; or its word crosses a page or is not at a multiple of four
abbrev pub BadPlace : Link → SectionId → Field → Option Placed → Type 0
BadPlace l s f None = may_hold_pointers (segment_name_of (header_at l s)) ≡ false
BadPlace l s f (Some p) =
    (address : ℕ) × SectionAt p s.file s.section address
    × ((SEGMENT_PAGE < (address + f.offset) % SEGMENT_PAGE + 8) ⊎ (1 ≤ (address + f.offset) % 4))

abbrev pub SLASH : ℕ
SLASH = 47

-- the last part of a path, without the slashes at its end
abbrev pub last_part : List ℕ → List ℕ
last_part path = reverse (take_while (λ b. not (b == SLASH)) (without_slashes (reverse path)))
  where
    without_slashes : List ℕ → List ℕ
    without_slashes path = drop (length (take_while (λ b. b == SLASH) path)) path

abbrev pub has_zero : List ℕ → Bool
has_zero text = list_any (λ b. b == 0) text

-- the output has no file name, or a NUL stands in a path that is written
abbrev pub bad_name : Link → Bool
bad_name l =
    (length (last_part l.output) == 0) || bytes_eq (last_part l.output) (codes ".") || bytes_eq (last_part l.output) (codes "..")
    || has_zero l.output || has_zero l.install_name || list_any has_zero l.rpaths

-- THE refusal stands.
abbrev pub FaultStands : Link → Counts → LinkFault → Type 0
FaultStands l counts (DuplicateSymbol name first second) = IsDuplicate l name first second
FaultStands l counts (UndefinedSymbol name file) = IsUndefined l name file
FaultStands l counts (EntryNotDefined name) = (name ≡ l.entry) × (entry_is_defined l ≡ false)
FaultStands l counts (ExportListMissing name) = Contains (plain_entries l.export_lists) name × IsNone (definition_of l name)
FaultStands l counts (BadInitializer file section offset) =
    Contains (initializer_sections l) (section_id file section) × IsBadInitializer l (section_id file section) offset
FaultStands l counts (BadUnwind file section entry rule) =
    Contains (unwind_sections l) (section_id file section) × IsBadEntry l (section_id file section) entry rule
FaultStands l counts (UnsupportedRelocation file section relocation) =
    Contains (carried_of l) (section_id file section) × (relocation < (header_at l (section_id file section)).nreloc)
    × (is_supported l (section_id file section) relocation ≡ false)
FaultStands l counts (OverlappingFields file section first second) =
    Contains (carried_of l) (section_id file section) × (first < second) × (second < (header_at l (section_id file section)).nreloc)
    × (share_byte l (section_id file section) first second ≡ true) × (are_pair l (section_id file section) first second ≡ false)
FaultStands l counts (BindAddend file section relocation addend) =
    (f : Field) × FieldOf l (section_id file section) relocation f × (is_pointer f ≡ true) × (is_import f.target ≡ true)
    × (addend ≡ f.addend) × (fits_signed 32 addend ≡ false)
FaultStands l counts (FixupPlace file section relocation placement) =
    (f : Field) × FieldOf l (section_id file section) relocation f × (needs_fixup l (section_id file section) f ≡ true)
    × BadPlace l (section_id file section) f placement
FaultStands l counts (TooMany what number placement) = PassesLimit l counts what number placement
FaultStands l counts (ImageTooLarge placement) = IsTooLarge l counts placement
FaultStands l counts (RebaseTarget at placement) = BadRebase l placement at
FaultStands l counts (RelocationRange at placement) = BadRange l placement at
FaultStands l counts BadName = bad_name l ≡ true

-- the placement that a refusal keeps, if it keeps one
abbrev pub kept_placement : LinkFault → Option Placed
kept_placement (FixupPlace file section relocation placement) = placement
kept_placement (TooMany what number placement) = placement
kept_placement (ImageTooLarge placement) = placement
kept_placement (RebaseTarget at placement) = Some placement
kept_placement (RelocationRange at placement) = Some placement
kept_placement fault = None

-- No refusal stands: in the link, or in this placement of it.
pub record NoneStands (l : Link) (counts : Counts) (p : Placed) : Type 0 where
  pub none : (f : LinkFault) → (kept_placement f ≡ None) ⊎ (kept_placement f ≡ Some p) → FaultStands l counts f → ⊥
