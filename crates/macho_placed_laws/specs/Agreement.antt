-- What ties a file to its placement, and follows from what the file's head says. Each law is the contract of a function of
-- `src/laws.rt`.
use Rattle.std.specs.Prelude.{◌≡◌, ℕ, ◌+◌, ◌≤◌, ◌^◌, true, List, length, All}
use Rattle.macho_bytes.specs.Texts.{name_of}
use Rattle.macho_model.specs.declared.placed.Counts.{Counts}
use Rattle.macho_model.specs.Links.{Link}
use Rattle.macho_model.specs.Needs.{libraries_needed}
use Rattle.macho_model.specs.Placement.{Placed, IsPlaced}
use Rattle.macho_model.specs.Faults.{entry_is_defined}
use Rattle.macho_model.specs.HeadCommands.{CommandsSay}
use Rattle.macho_model.specs.ImportTable.{LibrariesSay}
use Rattle.macho_commands.specs.Laws.{HasRoom}
use Rattle.macho_promise.specs.Sizes.{AreCounts}
use Rattle.macho_promise.specs.Promise.{IsLaidOut, Agrees}
use Rattle.macho_model.specs.Grammar.{ObjectsAreRead}

-- the exports trie that a head tells ends in its range
abbrev pub TrieFits : Placed → ℕ → Type 0
TrieFits p size = p.linkedit.trie.start + size ≤ p.linkedit.trie.end

-- a file whose head is that of a link says what the placement says: segments, section headers, the end of the commands, the
-- entry, the tables
abbrev pub HeadTies : Type 0
HeadTies =
    (l : Link) (counts : Counts) (uuid b : List ℕ) (p : Placed) (says : CommandsSay l counts uuid b p) → ObjectsAreRead l
    → AreCounts l counts → IsPlaced l counts p
    → IsLaidOut l counts p → entry_is_defined l ≡ true → TrieFits p says.trie → Agrees l counts b p

-- no NUL stands in the name of a library that is needed
abbrev pub NamesAreWhole : Link → Type 0
NamesAreWhole l = All (λ name. name_of name ≡ name) (libraries_needed l)

-- so the libraries of the file are those that are needed
abbrev pub LibrariesAreSaid : Type 0
LibrariesAreSaid =
    (l : Link) (counts : Counts) (uuid b : List ℕ) (p : Placed) → CommandsSay l counts uuid b p → NamesAreWhole l → LibrariesSay l b

-- a file that ends with its signature has room for the segments of its placement
abbrev pub SegmentsHaveRoom : Type 0
SegmentsHaveRoom =
    (l : Link) (counts : Counts) (uuid b : List ℕ) (p : Placed) → CommandsSay l counts uuid b p → AreCounts l counts → IsPlaced l counts p
    → IsLaidOut l counts p
    → length b ≡ p.linkedit.signature.end → All (λ s. s.address + s.size ≤ 2 ^ 64) p.segments → HasRoom b p
