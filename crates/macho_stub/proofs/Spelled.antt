-- How a line is spelled: its first spaces and the rest; of a line with a dash, the spaces, the dash, the spaces
-- behind it, of which there are some, and the rest.
-- The longest run of spaces in front is a row of spaces, and dropping it leaves the rest (`spaces_then`). Of a line with a
-- dash the rest begins with the dash and a space, so that behind the dash there is again such a run, of one or more; and
-- the key's column is counted over all of these.
use Rattle.std.proofs.Common.{◌≡◌, ℕ, suc, ◌+◌, ◌<◌, Bool, true, false, cond, List, [], ◌∷◌, ◌++◌, length, get_or, drop, replicate, refl, sym, ap, ◌∙◌, arith, add-one, inl, inr}
use Rattle.std.specs.List.{prefix_len}
use Rattle.std.proofs.lemmas.Bool.{cases_lt}
use Rattle.std.proofs.lemmas.Bool.Decides.{nat_tests}
use Rattle.std.proofs.lemmas.List.{get_or-drop, get_or_past, drop-drop}
use Rattle.std.proofs.Math.Seq.{drop-cons}
use Rattle.std.proofs.Math.Numerals.{one-add}
use Rattle.macho_stub_lines.specs.Bytes.{space, dash, indent, unspaced, has_dash}
use Rattle.macho_stub_lines.specs.steps.Bytes.{is_space}
use Rattle.macho_stub.specs.steps.Reader.{key_column}
use Rattle.macho_stub_lines.proofs.Bind.{eq_at}

-- a line is its first spaces and the rest
spaces_then : (line : List ℕ) → line ≡ replicate (prefix_len is_space line) space ++ drop (prefix_len is_space line) line
spaces_then [] = refl
spaces_then (b ∷ line) = by_first (spaces_then line) (is_space b) refl
  where
    by_first : line ≡ replicate (prefix_len is_space line) space ++ drop (prefix_len is_space line) line → (t : Bool) → is_space b ≡ t
        → b ∷ line ≡ replicate (cond t (1 + prefix_len is_space line) 0) space ++ drop (cond t (1 + prefix_len is_space line) 0)
        (b ∷ line)
    by_first ih true e = rw one-add (ap (λ c. c ∷ line) (eq_at b space e) ∙ ap (λ (more : List ℕ). space ∷ more) ih)
    by_first ih false e = refl

-- a line is its spaces in front, and the rest
pub spelled_unspaced : (line : List ℕ) → line ≡ replicate (indent line) space ++ unspaced line
unfolding indent unspaced
spelled_unspaced line = spaces_then line

-- a line that begins with a space has some
some_space : (line : List ℕ) → get_or line 0 0 ≡ space → 0 < prefix_len is_space line
some_space [] e = absurd (omega arith)
some_space (b ∷ line) e = by_first (is_space b) refl
  where
    by_first : (t : Bool) → is_space b ≡ t → 0 < cond t (1 + prefix_len is_space line) 0
    by_first true h = omega arith
    by_first false h = absurd (grind (arith, nat_tests))

-- the parts of a line with a dash
pub record SpelledDash (line : List ℕ) : Type 0 where
  pub gap : ℕ
  pub some : 0 < gap
  pub column : key_column line ≡ indent line + 1 + gap
  pub spelled : line ≡ replicate (indent line) space ++ dash ∷ (replicate gap space ++ drop (key_column line) line)

dash_and_space : (line : List ℕ) → has_dash line ≡ true → (get_or line (indent line) 0 ≡ dash) × (get_or line (indent line + 1) 0 ≡ space)
unfolding has_dash
dash_and_space line h = (grind (arith, nat_tests), grind (arith, nat_tests))

-- a line with a dash is spelled so
pub spelled_dash : (line : List ℕ) → has_dash line ≡ true → SpelledDash line
unfolding key_column indent
spelled_dash line h =
    let both = dash_and_space line h in
    let i = prefix_len is_space line in
    let rest = drop (i + 1) line in
    let within : i < length line = elim (cases_lt i (length line))
    [ inl lt ↦ lt | inr past ↦ absurd (omega (arith, get_or_past line i 0 past, both.0)) ] in
    let first : get_or rest 0 0 ≡ space = get_or-drop (i + 1) line 0 0 ∙ ap (λ k. get_or line k 0) (omega arith) ∙ both.1 in
    let at_dash : drop i line ≡ dash ∷ rest = drop-cons line i 0 within ∙ ap (λ b. b ∷ drop (suc i) line) both.0
    ∙ ap (λ k. dash ∷ drop k line) (sym (add-one i)) in
    let tail : drop (prefix_len is_space rest) rest
    ≡ drop (i + 1 + prefix_len is_space rest) line = drop-drop (prefix_len is_space rest) (i + 1) line in
    record {
      gap = prefix_len is_space rest;
      some = some_space rest first;
      column = refl;
      spelled = spaces_then line ∙ ap (λ (more : List ℕ). replicate i space ++ more)
          (at_dash ∙ ap (λ (more : List ℕ). dash ∷ more)
          (spaces_then rest ∙ ap (λ (more : List ℕ). replicate (prefix_len is_space rest) space ++ more) tail));
    }
