-- When the loader accepts an image: the tests of `LoadRules`, asked of each record, and of each word on the chain. A
-- refusal names a rule and the file offset of what breaks it.
use Rattle.std.specs.Prelude.{◌≡◌, ℕ, ◌+◌, ◌-◌, ◌<◌, ◌≤◌, ◌⊎◌, ◌==◌, Bool, true, false, List, [], length, filter, All, Contains, ◌*◌, ◌^◌, nat_le, ◌&&◌, ◌%◌}
use Rattle.macho_records.specs.Numbers.{bits}
use Rattle.macho_records.specs.ByteLayouts.{reading}
use Rattle.macho_records.specs.Layouts.{segment_command}
use Rattle.macho_records.specs.declared.header.SegmentCommand.{SegmentCommand}
use Rattle.macho_model.specs.declared.rules.LoadRule.{LoadRule}
use Rattle.macho_model.specs.declared.rules.LoadRule.TheVariants.{L1, L2, L3, L4, L5, L6, L7, L8, L9, L10}
use Rattle.macho_records.specs.declared.constants.TheConstants.{LC_DYLD_CHAINED_FIXUPS, LC_SEGMENT_64}
use Rattle.macho_model.specs.Lists.{IsNumber, EachNext, of_first}
use Rattle.macho_model.specs.Commands.{Command, commands_of, numbered, command_fits, commands_end}
use Rattle.macho_model.specs.ObjectRules.{commands_inside}
use Rattle.macho_model.specs.Grammar.{EachCommand, CommandFails}
use Rattle.macho_model.specs.Segments.{TEXT, SEGMENT_PAGE}
use Rattle.macho_model.specs.Images.{segments_of, is_named, segments_named, Table, table_of_command, tables_of, fixups_header, import_place}
use Rattle.macho_model.specs.Chain.{chain_segment, chain_segments, IsFileWord, OnPageChain}
use Rattle.macho_model.specs.Needs.{POINTER_SIZE}
use Rattle.macho_model.specs.LoadRules.{image_head_fits, needed_in_image, protections_fit, table_fits, import_fits}
use Rattle.macho_model.specs.SegmentRules.{file_part_inside, segment_is_paged, segment_ends, begins_behind, text_holds_commands}

-- a chain word binds an import, by number, or moves with the image (`mach-o/fixup-chains.h`)
abbrev pub is_bind : ℕ → Bool
is_bind word = bits 63 1 word == 1

abbrev pub ordinal_of : ℕ → ℕ
ordinal_of word = bits 0 24 word

-- L10: a word of a page's chain stands whole in that page and in the file bytes of the page's segment, which may be written
-- to; and its import exists
pub record WordFits (b : List ℕ) (s : SegmentCommand) (page a : ℕ) : Type 0 where
  pub writable : (bits 1 1 s.initprot == 1) ≡ true
  pub page_from : s.vmaddr + SEGMENT_PAGE * page ≤ a
  pub page_to : a + POINTER_SIZE ≤ s.vmaddr + SEGMENT_PAGE * (page + 1)
  pub to : a + POINTER_SIZE ≤ s.vmaddr + s.filesize
  pub import : (word : ℕ) → IsFileWord (chain_segments b) b a word → is_bind word ≡ true
      → ordinal_of word < of_first 0 (λ t. (fixups_header b t).imports_count) (tables_of b)

-- THE loader accepts an image: one field for each rule.
pub record IsAccepted (b : List ℕ) : Type 0 where
  pub l1 : image_head_fits b ≡ true
  pub l2 : (commands_inside b ≡ true) × EachCommand (commands_of b) (command_fits (needed_in_image b) b)
  -- each segment has the protections of its name
  pub l3 : All (λ s. protections_fit s ≡ true) (segments_of b)
  -- its bytes lie in the file, and are no more than it has in memory
  pub l4 : All (λ s. (nat_le (s.fileoff + s.filesize) (length b) && nat_le s.filesize s.vmsize) ≡ true) (segments_of b)
  -- it is made of whole pages
  pub l5 : All (λ s. ((s.vmaddr % SEGMENT_PAGE == 0) && (s.vmsize % SEGMENT_PAGE == 0) && (s.fileoff % SEGMENT_PAGE == 0)) ≡ true)
      (segments_of b)
  -- segments end in the address space, and begin behind the end of the one before
  pub l6 : All (λ s. nat_le (s.vmaddr + s.vmsize) (2 ^ 64) ≡ true) (segments_of b)
      × EachNext (λ s t. nat_le (s.vmaddr + s.vmsize) t.vmaddr ≡ true) (segments_of b)
  -- the one `__TEXT` holds the header and the load commands
  pub l7 : (length (segments_named TEXT b) ≡ 1)
      × All (λ s. ((s.fileoff == 0) && nat_le (commands_end b) s.filesize) ≡ true) (segments_named TEXT b)
  pub l8 : (length (tables_of b) ≤ 1) × All (λ t. table_fits b t ≡ true) (tables_of b)
  pub l9 : (t : Table) (k : ℕ) → Contains (tables_of b) t → k < (fixups_header b t).imports_count → import_fits b t k ≡ true
  pub l10 : (number : ℕ) (s : SegmentCommand) (page a : ℕ) → IsNumber (segments_of b) number s
      → OnPageChain (chain_segments b) b (chain_segment b (number, s)) page a → WordFits b s page a

-- the segment of a command
abbrev pub segment_in : List ℕ → Command → SegmentCommand
segment_in b c = reading segment_command b c.at

-- some segment's command and the one behind it fail a test, told at the latter
abbrev pub NeighbourFails : List Command → ℕ → (Command → Command → Bool) → Type 0
NeighbourFails cs place test =
    (k : ℕ) × (c : Command) × (d : Command) × IsNumber cs k c × IsNumber cs (k + 1) d × (place ≡ d.at)
    × (test c d ≡ false)

-- the commands of `__TEXT` segments
abbrev pub text_commands : List ℕ → List Command
text_commands b = filter (λ c. is_named TEXT (segment_in b c)) (numbered LC_SEGMENT_64 b)

-- there is no `__TEXT`, told at 0, or a second one, told at its command
abbrev pub TextIsNotOne : List ℕ → ℕ → Type 0
TextIsNotOne b place =
    ((text_commands b ≡ []) × (place ≡ 0))
    ⊎ ((k : ℕ) × (c : Command) × (1 ≤ k) × IsNumber (text_commands b) k c × (place ≡ c.at))

abbrev pub fixup_commands : List ℕ → List Command
fixup_commands b = numbered LC_DYLD_CHAINED_FIXUPS b

-- a second fixup command, told at its place
abbrev pub SecondTable : List ℕ → ℕ → Type 0
SecondTable b place = (k : ℕ) × (c : Command) × (1 ≤ k) × IsNumber (fixup_commands b) k c × (place ≡ c.at)

-- an import that fails, told at its entry
abbrev pub ImportFails : List ℕ → ℕ → Type 0
ImportFails b place =
    (t : Table) × (k : ℕ) × Contains (tables_of b) t × (k < (fixups_header b t).imports_count) × (place ≡ import_place b t k)
    × (import_fits b t k ≡ false)

-- a chain word that does not fit, told at its file offset in the segment of its page
abbrev pub WordFails : List ℕ → ℕ → Type 0
WordFails b place =
    (a : ℕ) × (number : ℕ) × (s : SegmentCommand) × (page : ℕ) × IsNumber (segments_of b) number s
    × OnPageChain (chain_segments b) b (chain_segment b (number, s)) page a
    × (place ≡ s.fileoff + (a - s.vmaddr)) × (WordFits b s page a → ⊥)

-- An image breaks a rule of the loader at a place.
abbrev pub ImageBreaks : List ℕ → LoadRule → ℕ → Type 0
ImageBreaks b L1 place = (place ≡ 0) × (image_head_fits b ≡ false)
ImageBreaks b L2 place = ((place ≡ 0) × (commands_inside b ≡ false))
    ⊎ CommandFails (commands_of b) place (command_fits (needed_in_image b) b)
ImageBreaks b L3 place = CommandFails (numbered LC_SEGMENT_64 b) place (λ c. protections_fit (segment_in b c))
ImageBreaks b L4 place = CommandFails (numbered LC_SEGMENT_64 b) place (λ c. file_part_inside b (segment_in b c))
ImageBreaks b L5 place = CommandFails (numbered LC_SEGMENT_64 b) place (λ c. segment_is_paged (segment_in b c))
ImageBreaks b L6 place =
    CommandFails (numbered LC_SEGMENT_64 b) place (λ c. segment_ends (segment_in b c))
    ⊎ NeighbourFails (numbered LC_SEGMENT_64 b) place (λ c d. begins_behind (segment_in b c) (segment_in b d))
ImageBreaks b L7 place = TextIsNotOne b place ⊎ CommandFails (text_commands b) place (λ c. text_holds_commands b (segment_in b c))
ImageBreaks b L8 place = SecondTable b place ⊎ CommandFails (fixup_commands b) place (λ c. table_fits b (table_of_command b c))
ImageBreaks b L9 place = ImportFails b place
ImageBreaks b L10 place = WordFails b place
