-- The parts of a version's text.
use Rattle.std.specs.Prelude.{ℕ, ◌==◌, List}
use Rattle.std.specs.List.{slice_split}

-- the parts between the dots of a text (46 is the dot)
abbrev pub dotted_parts : List ℕ → List (List ℕ)
dotted_parts text = slice_split (λ byte. byte == 46) text
