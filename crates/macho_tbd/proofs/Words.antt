-- Two words are two texts.
--
-- A list of at least two words, and of fewer than three, has these two alone.
use Rattle.std.proofs.Common.{◌≡◌, ℕ, ◌<◌, ◌≤◌, List, [], ◌∷◌, map, length, get_or, sym, ap, ◌∙◌, arith, String}
use Rattle.std.specs.String.{string_bytes}

pub two_words : {A : Type 0} (ws : List (String A)) (x y : String A) (first second : List ℕ) → 2 ≤ length ws → length ws < 3
    → x ≡ get_or ws 0 x → y ≡ get_or ws 1 y → first ≡ string_bytes x → second ≡ string_bytes y
    → map string_bytes ws ≡ first ∷ second ∷ []
two_words [] x y first second some few at next is then = absurd (omega (arith, some))
two_words (w ∷ []) x y first second some few at next is then = absurd (omega (arith, some))
two_words (w ∷ v ∷ []) x y first second some few at next is then =
    ap (λ t. t ∷ string_bytes v ∷ []) (sym (is ∙ ap string_bytes at))
    ∙ ap (λ t. first ∷ t ∷ []) (sym (then ∙ ap string_bytes next))
two_words (w ∷ v ∷ u ∷ ws) x y first second some few at next is then = absurd (omega (arith, few))
