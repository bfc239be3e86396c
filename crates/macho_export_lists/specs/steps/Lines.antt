-- The steps of reading a line.
use Rattle.std.specs.Prelude.{ℕ, ◌==◌, ◌||◌, not, Bool, List, [], ◌∷◌, length, filter, reverse}
use Rattle.std.specs.List.{before_first, list_any}
use Rattle.macho_model.specs.ExportLists.{STAR, without_front}
use Rattle.macho_model.specs.steps.ExportLists.{trimmed}

abbrev pub NEWLINE : ℕ
NEWLINE = 10

abbrev pub HASH : ℕ
HASH = 35

abbrev pub is_hash : ℕ → Bool
is_hash b = b == HASH

abbrev pub is_newline : ℕ → Bool
is_newline b = b == NEWLINE

-- a space, a tab or a carriage return
abbrev pub is_blank : ℕ → Bool
is_blank b = (b == 32) || (b == 9) || (b == 13)

-- the entry of a line: what stands before a `#`, trimmed
abbrev pub entry_of : List ℕ → List ℕ
entry_of line = trimmed (before_first is_hash line)

-- an entry with a star is a pattern
abbrev pub is_pattern : List ℕ → Bool
is_pattern entry = list_any (λ b. b == STAR) entry

-- a text without the blanks at its end
abbrev pub without_back : List ℕ → List ℕ
without_back text = reverse (without_front (reverse text))

-- an entry that isn't empty
abbrev pub is_entry : List ℕ → Bool
is_entry e = not (length e == 0)

-- the entry of a line, if it has one
abbrev pub entry_in : List ℕ → List (List ℕ)
entry_in line = filter is_entry (entry_of line ∷ [])
