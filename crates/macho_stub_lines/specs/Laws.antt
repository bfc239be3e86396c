-- What is read on lines are trees, and every tree is read.
use Rattle.std.specs.Prelude.{◌≡◌, ◌≢◌, ℕ, false, List, map, All, Ok}
use Rattle.macho_stub_lines.specs.Bytes.{has_barred}
use Rattle.macho_stub_lines.specs.Slices.{Slice, Line, texts_of}
use Rattle.macho_stub_lines.specs.Spelling.{IsScalarValue, IsNumberValue, EntryTree, IsEntry, entry_bytes, value_of}
use Rattle.macho_stub_lines.specs.FlowLists.{IsFlowList}
use Rattle.macho_stub_lines.specs.Keys.{Entry, entry_at, scalar_value, version_value}
use Rattle.macho_stub_lines.specs.ReadLists.{read_line, IsReadList}

-- A value that is read as a scalar is one, of that text; and a scalar is read, with its text.
pub record ScalarsAreTrees : Type 0 where
  pub found : (line at : ℕ) (value text : List ℕ) → scalar_value line value ≡ Ok text
      → (says : Slice) × IsScalarValue at value says × (says.text ≡ text)
  pub only : (line at : ℕ) (value : List ℕ) (says : Slice) → IsScalarValue at value says
      → scalar_value line value ≡ Ok says.text

-- the same of numbers
pub record NumbersAreTrees : Type 0 where
  pub found : (line at : ℕ) (value text : List ℕ) → version_value line value ≡ Ok text
      → (says : Slice) × IsNumberValue at value says × (says.text ≡ text)
  pub only : (line at : ℕ) (value : List ℕ) (says : Slice) → IsNumberValue at value says
      → version_value line value ≡ Ok says.text

-- what the tree of an entry says
abbrev pub entry_of_tree : EntryTree → Entry
entry_of_tree tree = record { key = tree.key; value = value_of tree }

-- A line on which a key and its value are read is spelled by a tree that says them, and every such tree is read.
pub record EntriesAreTrees : Type 0 where
  pub found : (line : ℕ) (head : List ℕ) (said : Entry) → entry_at line head ≡ Ok said
      → (tree : EntryTree) × IsEntry tree × (head ≡ entry_bytes tree) × (said ≡ entry_of_tree tree)
  pub only : (line : ℕ) (tree : EntryTree) → IsEntry tree → entry_at line (entry_bytes tree) ≡ Ok (entry_of_tree tree)

-- Lines that are read as a flow list are one, of those names; and a flow list is read, with its names.
pub record ListsAreTrees : Type 0 where
  pub found : (number at : ℕ) (value : List ℕ) (more : List Line) (names : List (List ℕ))
      → IsReadList number value (map read_line more) names
      → (says : List Slice) × IsFlowList at value more says × (texts_of says ≡ names)
  pub only : (number at : ℕ) (value : List ℕ) (more : List Line) (says : List Slice) → IsFlowList at value more says
      → IsReadList number value (map read_line more) (texts_of says)

-- bytes of which none is barred hold no NUL
abbrev pub UnbarredIsPlain : Type 0
UnbarredIsPlain = (bytes : List ℕ) → has_barred bytes ≡ false → All (λ b. b ≢ 0) bytes
