-- The lines of a text of which each line ends with a line feed are these lines, where none holds a control character.
--
-- Cut at line feeds, the text gives its lines and an empty part behind the last; that part is no line, and no line ends with a carriage
-- return.
use Rattle.std.proofs.Common.{◌≡◌, ℕ, ◌-◌, ◌==◌, Bool, false, cond, List, [], ◌∷◌, ◌++◌, length, take, get_or, refl, ap, ◌∙◌, append_assoc, arith}
use Rattle.std.specs.Prelude.{codes}
use Rattle.std.specs.List.{AllByRecursion, list_any, flat_map, slice_split}
use Rattle.std.specs.Str.Lines.{lines, lines_of_parts, strip_carriage_return}
use Rattle.std.proofs.lemmas.List.Splits.{slice_split_at}
use Rattle.std.proofs.lemmas.Bool.Decides.{nat_tests}
use Rattle.std.proofs.lemmas.List.Elements.{All-from_recursion}
use Rattle.macho_tbd.specs.Writable.{is_control}
use Rattle.macho_tbd.proofs.Scalars.{none_passes}
use Rattle.macho_bytes.proofs.Maps.{all_weaker}

-- a line holds no control character
abbrev pub IsClean : List ℕ → Type 0
IsClean line = list_any is_control line ≡ false

-- a byte that isn't a control character is no line feed and no carriage return
no_line_feed : (b : ℕ) → is_control b ≡ false → (b == 10) ≡ false
no_line_feed b e = grind (arith, nat_tests)

no_return : (b : ℕ) → is_control b ≡ false → (b == 13) ≡ false
no_return b e = grind (arith, nat_tests)

-- no line ends with a carriage return
stripped : (line : List ℕ) → IsClean line → strip_carriage_return line ≡ line
stripped [] e = refl
stripped (b ∷ line) e =
    let k : ℕ = length (b ∷ line) - 1 in
    let here : is_control (get_or (b ∷ line) k 0) ≡ false
    = All-from_recursion (λ b. is_control b ≡ false) (b ∷ line) (none_passes is_control (b ∷ line) e) k 0 (omega arith) in
    ap (λ (t : Bool). cond t (take k (b ∷ line)) (b ∷ line)) (no_return (get_or (b ∷ line) k 0) here)

-- the parts between line feeds
parts : (all : List (List ℕ)) → AllByRecursion IsClean all
    → slice_split (λ b. b == 10) (flat_map (λ line. line ++ codes "\n") all) ≡ all ++ [] ∷ []
parts [] e = refl
parts (line ∷ all) e =
    ap (slice_split (λ b. b == 10)) (append_assoc line (codes "\n") (flat_map (λ line. line ++ codes "\n") all))
    ∙ slice_split_at (λ b. b == 10) line 10 (flat_map (λ line. line ++ codes "\n") all)
    (All-from_recursion (λ b. (b == 10) ≡ false) line
    (all_weaker (λ b. is_control b ≡ false) (λ b. (b == 10) ≡ false) no_line_feed line (none_passes is_control line e.0))) refl
    ∙ ap (λ (rest : List (List ℕ)). line ∷ rest) (parts all e.1)

-- of these parts the lines
joined : (all : List (List ℕ)) → AllByRecursion IsClean all → lines_of_parts (all ++ [] ∷ []) ≡ all
joined [] e = refl
joined (line ∷ []) e = ap (λ (l : List ℕ). l ∷ []) (stripped line e.0)
joined (line ∷ other ∷ all) e =
    ap (λ (l : List ℕ). l ∷ lines_of_parts ((other ∷ all) ++ [] ∷ [])) (stripped line e.0)
    ∙ ap (λ (rest : List (List ℕ)). line ∷ rest) (joined (other ∷ all) e.1)

pub lines_are : (all : List (List ℕ)) → AllByRecursion IsClean all → lines (flat_map (λ line. line ++ codes "\n") all) ≡ all
lines_are all e = ap lines_of_parts (parts all e) ∙ joined all e
