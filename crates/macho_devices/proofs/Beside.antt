-- The folder of a path. No byte behind its last slash is a slash, so the bytes at the path's end that are none are those behind it, and
-- what is in front of them is the folder with its slash. A path without a slash has no folder.
use Rattle.std.proofs.Common.{◌≡◌, ℕ, ◌+◌, ◌-◌, ◌<◌, ◌≤◌, ◌==◌, not, List, [], ◌∷◌, ◌++◌, length, take, drop, get_or, codes, decimal, sym, ap, ◌∙◌, append_assoc, arith, length-drop}
use Rattle.std.proofs.lemmas.Bool.{ne_eqb}
use Rattle.std.proofs.lemmas.List.{take_more, get_or-drop}
use Rattle.std.proofs.lemmas.List.Sums.{suffix_len_is}
use Rattle.std.proofs.lemmas.Str.{len_utf8_ascii}
use Rattle.std.proofs.lemmas.Str.Pattern.{NoCharPasses-char}
use Rattle.std.specs.List.{suffix_len}
use Rattle.std.specs.Str.{NoCharPasses}
use Rattle.std.specs.Str.Pattern.{HasCharAt}
use Rattle.macho_devices.specs.steps.Beside.{SLASH, folder_of, name_beside}

folder_at : (path : List ℕ) (n : ℕ) → n ≤ length path → ((k : ℕ) → n ≤ k → k < length path → get_or path k 0 ≡ SLASH → ⊥)
    → (0 < n → get_or path (n - 1) 0 ≡ SLASH) → folder_of path ≡ take n path
unfolding folder_of
folder_at path n within none slash =
    let long : suffix_len (λ b. not (b == SLASH)) path ≡ length path - n
    = suffix_len_is (λ b. not (b == SLASH)) path n 0 within
    (λ k low high. ap not (ne_eqb (get_or path k 0) SLASH (none k low high))) (λ some. ap (λ b. not (b == SLASH)) (slash some)) in
    ap (λ m. take m path) (omega (arith, long, within))

pub name_without : (path : List ℕ) (number : ℕ) → NoCharPasses (λ d. d == SLASH) path
    → codes ".wild_macho." ++ decimal number ≡ name_beside path number
unfolding name_beside
name_without path number none =
    ap (λ folder. folder ++ (codes ".wild_macho." ++ decimal number))
    (sym (folder_at path 0 (omega arith) (λ k low high. NoCharPasses-char SLASH path k none (omega arith) high)
    (λ some. absurd (omega (arith, some)))))

pub name_behind : (path front back : List ℕ) (i j number : ℕ) → NoCharPasses (λ d. d == SLASH) (drop j path) → HasCharAt SLASH path i j
    → front ≡ take i path → length back + j ≡ length path
    → front ++ (codes "/.wild_macho." ++ decimal number) ≡ name_beside path number
unfolding name_beside
name_behind path front back i j number none at is rest =
    ap (λ f. f ++ (codes "/.wild_macho." ++ decimal number)) is
    ∙ sym (append_assoc (take i path) (SLASH ∷ []) (codes ".wild_macho." ++ decimal number))
    ∙ ap (λ folder. folder ++ (codes ".wild_macho." ++ decimal number)) (sym folder)
  where
    next : j ≡ i + 1
    next = omega (arith, at.ends, len_utf8_ascii SLASH (omega arith))

    slash : get_or path i 0 ≡ SLASH
    slash = at.byte (omega arith)

    later : (k : ℕ) → i + 1 ≤ k → k < length path → get_or path k 0 ≡ SLASH → ⊥
    later k low high e =
        let back_at : j + (k - j) ≡ k = omega (arith, next, low) in
        NoCharPasses-char SLASH (drop j path) (k - j) none (omega arith) (omega (arith, next, low, high, length-drop j path))
        (get_or-drop j path (k - j) 0 ∙ ap (λ n. get_or path n 0) back_at ∙ e)

    folder : folder_of path ≡ take i path ++ SLASH ∷ []
    folder =
        folder_at path (i + 1) (omega (arith, next, rest)) later
        (λ some. ap (λ n. get_or path n 0) (omega arith) ∙ slash)
        ∙ take_more path i 0 (omega (arith, next, rest)) ∙ ap (λ b. take i path ++ b ∷ []) slash
