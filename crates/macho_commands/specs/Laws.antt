-- What the head of an image promises of a file that has it: what each reading of the file finds, and the loader's rules on
-- header and load commands. Each is the contract of a function of `src/laws.rt`.
use Rattle.std.specs.Prelude.{◌≡◌, ℕ, ◌+◌, ◌*◌, ◌-◌, ◌≤◌, ◌^◌, true, List, [], ◌∷◌, length, map, All}
use Rattle.std.specs.List.{flat_map}
use Rattle.macho_bytes.specs.Layouts.{size_of}
use Rattle.macho_bytes.specs.Texts.{name_of}
use Rattle.macho_records.specs.Layouts.{symtab_entry}
use Rattle.macho_model.specs.declared.placed.Counts.{Counts}
use Rattle.macho_model.specs.Commands.{commands_of, commands_end, command_fits}
use Rattle.macho_model.specs.ObjectRules.{commands_inside}
use Rattle.macho_model.specs.Grammar.{EachCommand}
use Rattle.macho_model.specs.Links.{Link}
use Rattle.macho_model.specs.Needs.{libraries_needed}
use Rattle.macho_model.specs.Targets.{target_of_name}
use Rattle.macho_model.specs.Segments.{TEXT, list_if}
use Rattle.macho_model.specs.Placement.{Placed, is_segment_named}
use Rattle.macho_model.specs.Spans.{IsInOrder}
use Rattle.macho_model.specs.Addresses.{address_of}
use Rattle.macho_model.specs.Images.{segments_of, segments_named, tables_of, tries_of, signatures_of, symbol_tables_of, string_tables_of, entries_of_file, libraries_of}
use Rattle.macho_model.specs.LoadRules.{image_head_fits, needed_in_image, protections_fit}
use Rattle.macho_model.specs.Agreement.{SegmentsAgree, section_headers_of, table_of_range}
use Rattle.macho_model.specs.Signature.{UuidSays}
use Rattle.macho_model.specs.Head as head
use Rattle.macho_model.specs.Head.{headers_in, head_for, HeadSays}
use Rattle.macho_model.specs.HeadCommands.{commands_in, commands_for, CommandsSay, describes_thread_locals}
use Rattle.macho_model.specs.Lists.{EachNext}
use Rattle.macho_commands.specs.declared.head.ImageKind.{ImageKind}
use Rattle.macho_commands.specs.declared.command.Command.{Command}
use Rattle.macho_commands.specs.Commands.{said_by, commands_size}
use Rattle.macho_commands.specs.Heads.{head_text, HeadIsFound, HeadIsReadable}
use Rattle.macho_model.specs.SegmentRules.{segment_ends, begins_behind, file_part_inside, segment_is_paged, text_holds_commands}

-- What the readings of a file find of a link's load commands, with an exports trie of so many bytes.
pub record HeadReads (l : Link) (counts : Counts) (uuid b : List ℕ) (p : Placed) (trie : ℕ) : Type 0 where
  -- segments, each with the headers of its sections
  pub segments : SegmentsAgree b p
  pub sections : section_headers_of b ≡ flat_map (headers_in p) p.segments
  -- an executable has one entry, a library none
  pub entry : entries_of_file b ≡ list_if l.executable ((address_of p (target_of_name l l.entry) - p.base) ∷ [])
  pub uuid_is : UuidSays uuid b
  -- libraries in order, each by its name up to the first NUL
  pub libraries : libraries_of b ≡ map name_of (libraries_needed l)
  -- the tables of `__LINKEDIT`, one of each kind
  pub fixups : tables_of b ≡ table_of_range p.linkedit.fixups ∷ []
  pub tries : tries_of b ≡ record { at = p.linkedit.trie.start; size = trie } ∷ []
  pub symbols : symbol_tables_of b ≡ record { at = p.linkedit.symtab.start; size = size_of symtab_entry * counts.symbols } ∷ []
  pub strings : string_tables_of b ≡ record { at = p.linkedit.strtab.start; size = counts.strings } ∷ []
  pub signature : signatures_of b ≡ table_of_range p.linkedit.signature ∷ []

-- a file that says a link's load commands is read so
abbrev pub HeadIsRead : Type 0
HeadIsRead =
    (l : Link) (counts : Counts) (uuid b : List ℕ) (p : Placed) (trie : ℕ) → commands_in b ≡ commands_for l counts p uuid trie
    → HeadReads l counts uuid b p trie

-- The file has room for the segments, and so have the addresses; `__TEXT` begins the file and holds the load commands.
pub record HasRoom (b : List ℕ) (p : Placed) : Type 0 where
  pub file : All (λ s. s.file_offset + s.file_size ≤ length b) p.segments
  pub memory : All (λ s. s.address + s.size ≤ 2 ^ 64) p.segments
  pub text : All (λ s. is_segment_named TEXT s ≡ true → (s.file_offset ≡ 0) × (commands_end b ≤ s.file_size)) p.segments

-- the loader's first seven rules, as `IsAccepted` has them
pub record HeadIsAccepted (b : List ℕ) : Type 0 where
  pub l1 : image_head_fits b ≡ true
  pub l2 : (commands_inside b ≡ true) × EachCommand (commands_of b) (command_fits (needed_in_image b) b)
  pub l3 : All (λ s. protections_fit s ≡ true) (segments_of b)
  pub l4 : All (λ s. file_part_inside b s ≡ true) (segments_of b)
  pub l5 : All (λ s. segment_is_paged s ≡ true) (segments_of b)
  pub l6 : All (λ s. segment_ends s ≡ true) (segments_of b) × EachNext (λ s t. begins_behind s t ≡ true) (segments_of b)
  pub l7 : (length (segments_named TEXT b) ≡ 1) × All (λ s. text_holds_commands b s ≡ true) (segments_named TEXT b)

-- a file with the header and the load commands of a link whose segments are placed keeps them
abbrev pub HeadKeepsRules : Type 0
HeadKeepsRules =
    (l : Link) (counts : Counts) (uuid b : List ℕ) (p : Placed) → CommandsSay l counts uuid b p → IsInOrder l p → HasRoom b p
    → HeadIsAccepted b

-- a file in which the head of its kind is found, with commands that say those of a link, says the link's load commands
abbrev pub FoundIsSaid : Type 0
FoundIsSaid =
    (l : Link) (counts : Counts) (uuid b : List ℕ) (p : Placed) (trie : ℕ) (kind : ImageKind) (commands : List Command)
    → kind.executable ≡ l.executable
    → kind.thread_locals ≡ describes_thread_locals p → map said_by commands ≡ commands_for l counts p uuid trie
    → HeadIsFound kind commands b
    → CommandsSay l counts uuid b p

-- the text of such a head is the link's, byte for byte
abbrev pub HeadIsSpelled : Type 0
HeadIsSpelled =
    (l : Link) (counts : Counts) (uuid : List ℕ) (p : Placed) (trie : ℕ) (kind : ImageKind) (commands : List Command)
    → kind.executable ≡ l.executable → kind.thread_locals ≡ describes_thread_locals p
    → map said_by commands ≡ commands_for l counts p uuid trie → length (head_text kind commands) ≡ 32 + commands_size commands
    → head_text kind commands ≡ head_for l p (head.commands_for l counts p uuid trie)

-- a reader of a file that begins with the link's head finds the link's header and load commands, where a text of commands that say the
-- link's is found again: no number is too large for its field
abbrev pub HeadIsFoundAgain : Type 0
HeadIsFoundAgain =
    (l : Link) (counts : Counts) (uuid b : List ℕ) (p : Placed) (says : HeadSays l counts uuid b p) (kind : ImageKind)
    (commands : List Command) → kind.executable ≡ l.executable → kind.thread_locals ≡ describes_thread_locals p
    → map said_by commands ≡ commands_for l counts p uuid says.trie → length (head_text kind commands) ≡ 32 + commands_size commands
    → HeadIsReadable kind commands → CommandsSay l counts uuid b p
