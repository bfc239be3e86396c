-- Flow lists by their value and the lines under it. The grammar says it of entries.
use Rattle.std.specs.Prelude.{◌≡◌, ◌≢◌, ℕ, true, List, [], ◌∷◌, ◌++◌, codes}
use Rattle.std.specs.List.{AllByRecursion}
use Rattle.macho_stub_lines.specs.Bytes.{end, is_tail}
use Rattle.macho_stub_lines.specs.Values.{IsGap, AreScalars}

-- The value and the lines under it are a list of these scalars, and behind its closing bracket stands nothing but spaces and a comment.
-- A line `...` ends the document, so none is of the list.
pub record IsFlowList (value : List ℕ) (under texts : List (List ℕ)) : Type 0 where
  pub opened : List ℕ
  pub bracket : value ≡ codes "[" ++ opened
  pub scalars : List (List ℕ)
  pub gap : IsGap (opened ∷ under) scalars
  pub tail : List ℕ
  pub are : AreScalars scalars texts ((codes "]" ++ tail) ∷ [])
  pub ends : is_tail tail ≡ true
  pub inside : AllByRecursion (λ line. line ≢ end) under
