-- What the plain functions that look for a broken rule of the loader ask of the commands.
use Rattle.std.specs.Prelude.{◌≡◌, ℕ, ◌+◌, ◌<◌, ◌≤◌, true, false, List, length, Contains, All}
use Rattle.macho_image_walks.specs.declared.loader_rules.Asked.{Asked}
use Rattle.macho_image_walks.specs.declared.walk.Listed.TheVariants as list
use Rattle.macho_model.specs.Commands.{command_at, commands_of, command_fits, numbered}
use Rattle.macho_model.specs.Images.{segments_of, Table, tables_of, fixups_header, import_place, segments_named}
use Rattle.macho_model.specs.LoadRules.{image_head_fits, needed_in_image, table_fits, import_fits, protections_fit}
use Rattle.macho_model.specs.declared.rules.LoadRule.{LoadRule}
use Rattle.macho_model.specs.declared.rules.LoadRule.TheVariants.{L1, L2, L3, L4, L5, L6, L7, L8, L9, L10}
use Rattle.macho_model.specs.ObjectRules.{commands_inside}
use Rattle.macho_model.specs.Grammar.{EachCommand, CommandFails}
use Rattle.macho_model.specs.Segments.{TEXT}
use Rattle.macho_records.specs.declared.header.SegmentCommand.{SegmentCommand}
use Rattle.macho_records.specs.declared.constants.TheConstants.{LC_SEGMENT_64}
use Rattle.macho_model.specs.Lists.{IsNumber, EachNext}
use Rattle.macho_model.specs.Loader.{segment_in, WordFits, NeighbourFails}
use Rattle.macho_model.specs.Chain.{OnPageChain, chain_segment, chain_segments}
use Rattle.macho_image_walks.specs.Readings.{listed, IsNth, table_there}
use Rattle.macho_image_walks.specs.Tests.{list_of, test_of}
use Rattle.macho_model.specs.SegmentRules.{segment_ends, begins_behind, file_part_inside, segment_is_paged, text_holds_commands}

-- the command with a number, if there is one, passes
abbrev pub NumberPasses : List ℕ → Asked → ℕ → Type 0
NumberPasses b what number = (place : ℕ) → IsNth (list_of what) b number place → test_of what b (command_at b place) ≡ true

-- a command that is asked fails, and a segment begins before the end of the one before it; each told at its place
abbrev pub AskedFails : List ℕ → Asked → ℕ → Type 0
AskedFails b what place = CommandFails (listed (list_of what) b) place (test_of what b)

abbrev pub BeginsBefore : List ℕ → ℕ → Type 0
BeginsBefore b place = NeighbourFails (numbered LC_SEGMENT_64 b) place (λ c d. begins_behind (segment_in b c) (segment_in b d))

-- the segments with a number and the next one, if there are both, stand in order
abbrev pub NeighbourPasses : List ℕ → ℕ → Type 0
NeighbourPasses b number =
    (place next : ℕ) → IsNth list.Segments b number place → IsNth list.Segments b (number + 1) next
    → begins_behind (segment_in b (command_at b place)) (segment_in b (command_at b next)) ≡ true

-- an import of a table fails, told at its entry
pub record BadImport (b : List ℕ) (t : Table) (place : ℕ) : Type 0 where
  pub number : ℕ
  pub among : number < (fixups_header b t).imports_count
  pub is : place ≡ import_place b t number
  pub fails : import_fits b t number ≡ false

-- the imports of a table fit, of the table with a number, and of each
abbrev pub ImportsFit : List ℕ → Table → Type 0
ImportsFit b t = (k : ℕ) → k < (fixups_header b t).imports_count → import_fits b t k ≡ true

abbrev pub TableImportsFit : List ℕ → ℕ → Type 0
TableImportsFit b number = (place : ℕ) → IsNth list.Tables b number place → ImportsFit b (table_there b place)

abbrev pub EachImportFits : List ℕ → Type 0
EachImportFits b = (t : Table) (k : ℕ) → Contains (tables_of b) t → k < (fixups_header b t).imports_count → import_fits b t k ≡ true

-- what an accepted image keeps, rule by rule: the fields of `IsAccepted`
abbrev pub LoadKeeps : List ℕ → LoadRule → Type 0
LoadKeeps b L1 = image_head_fits b ≡ true
LoadKeeps b L2 = (commands_inside b ≡ true) × EachCommand (commands_of b) (command_fits (needed_in_image b) b)
LoadKeeps b L3 = All (λ s. protections_fit s ≡ true) (segments_of b)
LoadKeeps b L4 = All (λ s. file_part_inside b s ≡ true) (segments_of b)
LoadKeeps b L5 = All (λ s. segment_is_paged s ≡ true) (segments_of b)
LoadKeeps b L6 = All (λ s. segment_ends s ≡ true) (segments_of b) × EachNext (λ s t. begins_behind s t ≡ true) (segments_of b)
LoadKeeps b L7 = (length (segments_named TEXT b) ≡ 1) × All (λ s. text_holds_commands b s ≡ true) (segments_named TEXT b)
LoadKeeps b L8 = (length (tables_of b) ≤ 1) × All (λ t. table_fits b t ≡ true) (tables_of b)
LoadKeeps b L9 = (t : Table) (k : ℕ) → Contains (tables_of b) t → k < (fixups_header b t).imports_count → import_fits b t k ≡ true
LoadKeeps b L10 =
    (number : ℕ) (s : SegmentCommand) (page a : ℕ) → IsNumber (segments_of b) number s
    → OnPageChain (chain_segments b) b (chain_segment b (number, s)) page a → WordFits b s page a
