-- Flow lists with places: scalars in brackets, parted by commas, that may go on over lines. `Values` has the same by the lines alone.
use Rattle.std.specs.Prelude.{◌≡◌, ◌≢◌, ℕ, ◌+◌, true, List, [], ◌∷◌, ◌++◌, length, replicate}
use Rattle.std.specs.List.{AllByRecursion}
use Rattle.macho_stub_lines.specs.Bytes.{space, comma, open_bracket, close_bracket, end, is_tail}
use Rattle.macho_stub_lines.specs.Slices.{Slice, Line}
use Rattle.macho_stub_lines.specs.Spelling.{ScalarTree, scalar_bytes, slice_of, IsScalar}

-- ---- spelling over lines

-- what stands on the rest of a line, and the lines under it
pub record Block : Type 0 where
  pub head : List ℕ
  pub more : List Line

-- bytes in front of it on its line
abbrev pub bytes_then : List ℕ → Block → Block
bytes_then bytes rest = record { head = bytes ++ rest.head; more = rest.more }

-- the rest of a line in front of it: it begins a line with this number, at this place
abbrev pub turn_then : List ℕ → ℕ → ℕ → Block → Block
turn_then tail number at rest = record
    { head = tail; more = record { number = number; at = at; text = rest.head } ∷ rest.more }

-- ---- lists

-- What may stand between the parts of a list, at this place, in front of the rest, which begins at the other place: spaces; or
-- the rest of a line, which is spaces and a comment at most, and on the next line again what may stand between. (Blank lines and
-- lines of a comment alone aren't among the lines of a list.)
pub data IsGap : ℕ → Block → ℕ → Block → Type 0 where
  spaces : (at count : ℕ) (rest : Block) → IsGap at (bytes_then (replicate count space) rest) (at + count) rest
  turn : (at behind number next : ℕ) (tail : List ℕ) (block rest : Block) → is_tail tail ≡ true → IsGap next block behind rest
      → IsGap at (turn_then tail number next block) behind rest

-- The scalars of a list, at this place, and their texts, in front of the rest: behind each stands a comma, which the last one
-- may lack.
pub data AreScalars : ℕ → Block → List Slice → Block → Type 0 where
  none : (at : ℕ) (rest : Block) → AreScalars at rest [] rest
  last : (at behind : ℕ) (scalar : ScalarTree) (block rest : Block) → IsScalar scalar
      → IsGap (at + length (scalar_bytes scalar)) block behind rest
      → AreScalars at (bytes_then (scalar_bytes scalar) block) (slice_of at scalar ∷ []) rest
  next : (at comma_at next_at : ℕ) (scalar : ScalarTree) (before behind others rest : Block) (says : List Slice) → IsScalar scalar
      → IsGap (at + length (scalar_bytes scalar)) before comma_at (bytes_then (comma ∷ []) behind)
      → IsGap (comma_at + 1) behind next_at others → AreScalars next_at others says rest
      → AreScalars at (bytes_then (scalar_bytes scalar) before) (slice_of at scalar ∷ says) rest

-- The value, which begins at this place, and the lines under it are a list of these scalars, and behind its closing
-- bracket stands nothing but spaces and a comment. A line `...` ends the document, so none is of the list.
pub record IsFlowList (at : ℕ) (value : List ℕ) (more : List Line) (says : List Slice) : Type 0 where
  pub opened : Block
  pub spelled : record { head = value; more = more } ≡ bytes_then (open_bracket ∷ []) opened
  pub first_at : ℕ
  pub scalars : Block
  pub gap : IsGap (at + 1) opened first_at scalars
  pub tail : List ℕ
  pub are : AreScalars first_at scalars says (bytes_then (close_bracket ∷ []) (record { head = tail; more = [] }))
  pub ends : is_tail tail ≡ true
  pub inside : AllByRecursion (λ line. line.text ≢ end) more
