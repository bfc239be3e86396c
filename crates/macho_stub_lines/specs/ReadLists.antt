-- Flow lists as they are read: line by line, each with the tokens on it. This is what lies between a list with places
-- (`specs/FlowLists`) and the reading of one line (`list_part`).
-- A line adds its scalars to those before and leaves what may come next; the list goes on until the bracket has closed
-- it, and the line with the bracket is the last (`GoesOn`). No line of it is the end of a document. Places are left out
-- here, since the reader has none.
use Rattle.std.specs.Prelude.{◌≡◌, ◌≢◌, ℕ, List, [], ◌∷◌, drop, Ok, slice_index}
use Rattle.std.specs.List.{AllByRecursion}
use Rattle.macho_stub_lines.specs.declared.list.Expect.TheVariants.{AfterOpen, Closed}
use Rattle.macho_stub_lines.specs.Bytes.{open_bracket, end}
use Rattle.macho_stub_lines.specs.Lists.{ListPart, list_part, with_front}
use Rattle.macho_stub_lines.specs.Slices.{Line}

-- a line by its number and its text
pub record ReadLine : Type 0 where
  pub number : ℕ
  pub text : List ℕ

-- a line of the input without its place
abbrev pub read_line : Line → ReadLine
read_line line = record { number = line.number; text = line.text }

-- The lines go on with a list that was read so far: each has tokens of it, and the last closes it.
abbrev pub GoesOn : ListPart → List ReadLine → List (List ℕ) → Type 0
GoesOn part [] names = (part.expect ≡ Closed) × (part.names ≡ names)
GoesOn part (line ∷ more) names =
    (part.expect ≢ Closed) × (next : ListPart)
    × (with_front part.names (list_part line.number part.expect 0 line.text) ≡ Ok next) × GoesOn next more names

-- The value, at the line of this number, and the lines under it are a flow list of these names.
pub record IsReadList (number : ℕ) (value : List ℕ) (more : List ReadLine) (names : List (List ℕ)) : Type 0 where
  pub bracket : slice_index value 0 ≡ open_bracket
  pub first : ListPart
  pub begins : with_front [] (list_part number AfterOpen 0 (drop 1 value)) ≡ Ok first
  pub goes_on : GoesOn first more names
  pub inside : AllByRecursion (λ line. line.text ≢ end) more
