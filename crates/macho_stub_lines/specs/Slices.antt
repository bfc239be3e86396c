-- Where texts stand in the input: slices of it, and its lines. Places count from 0, the numbers of lines from 1.
use Rattle.std.specs.Prelude.{◌≡◌, ℕ, ◌+◌, ◌==◌, if◌then◌else◌, List, [], ◌∷◌, length, map, slice_range}
use Rattle.std.specs.List.{slice_split}
use Rattle.std.specs.Str.Lines.{strip_carriage_return}
use Rattle.macho_stub_lines.specs.Bytes.{line_feed, is_passed}

-- a text, and the place of its first byte in the input
pub record Slice : Type 0 where
  pub at : ℕ
  pub text : List ℕ

-- the input has the text at that place
abbrev pub StandsIn : List ℕ → Slice → Type 0
StandsIn input slice = slice_range input slice.at (slice.at + length slice.text) ≡ slice.text

-- the texts alone
abbrev pub texts_of : List Slice → List (List ℕ)
texts_of slices = map (λ slice. slice.text) slices

-- a line: its number, the place of its first byte in the input, and its bytes
pub record Line : Type 0 where
  pub number : ℕ
  pub at : ℕ
  pub text : List ℕ

-- The lines of parts between line feeds, from this number and place on. A carriage return before a line feed isn't of
-- the line, and an empty part behind the last line feed is no line.
abbrev pub lines_of_parts : ℕ → ℕ → List (List ℕ) → List Line
lines_of_parts number at [] = []
lines_of_parts number at (part ∷ []) =
    if length part == 0 then [] else record { number = number; at = at; text = part } ∷ []
lines_of_parts number at (part ∷ next ∷ parts) =
    record { number = number; at = at; text = strip_carriage_return part }
    ∷ lines_of_parts (number + 1) (at + length part + 1) (next ∷ parts)

-- the lines of an input
abbrev pub lines_of : List ℕ → List Line
lines_of input = lines_of_parts 1 0 (slice_split (λ b. b == line_feed) input)

-- the lines with content: those that aren't passed over
abbrev pub content_of : List Line → List Line
content_of [] = []
content_of (line ∷ more) = if is_passed line.text then content_of more else line ∷ content_of more
