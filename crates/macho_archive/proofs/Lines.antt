-- The line that a text begins with: what stands before the first line feed.
use Rattle.std.proofs.Common.{◌≡◌, ℕ, ◌<◌, true, false, List, length, get_or, take, drop, None, Some, ap, ◌∙◌, arith, eq-eqb, cond}
use Rattle.std.proofs.lemmas.Bool.{ne_eqb}
use Rattle.std.proofs.lemmas.List.{get_or_default, drop_all}
use Rattle.std.proofs.lemmas.List.Sums.{position_or_len_is}
use Rattle.std.proofs.lemmas.List.Folds.{list_any_at, list_any_none}
use Rattle.std.specs.List.{before_first, list_any}
use Rattle.memchr.specs.Find.{Nowhere, NoneBefore, Passes, is_byte}
use Rattle.macho_archive.specs.Entries.{first_line}

-- a byte that is no line feed fails the test of one
no_feed : (b : ℕ) → (is_byte 10 b ≡ true → ⊥) → is_byte 10 b ≡ false
no_feed b other = ne_eqb b 10 (λ same. other (eq-eqb b 10 same))

-- a line ends at a place
pub line_is : (text : List ℕ) (n : ℕ) → NoneBefore (Passes (is_byte 10) text) 0 (length text) n → Passes (is_byte 10) text n
    → first_line text ≡ Some (take n text)
unfolding first_line
line_is text n first here =
    let before : before_first (is_byte 10) text ≡ take n text =
    ap (λ m. take m text)
    (position_or_len_is (is_byte 10) text n 0 (omega (arith, first.high))
    (λ k h. no_feed (get_or text k 0) (first.before k (omega arith) h)) (λ h. here)) in
    let some : list_any (is_byte 10) text ≡ true = list_any_at (is_byte 10) text n 0 first.high here in
    ap (λ t. cond t (Some (before_first (is_byte 10) text)) None) some ∙ ap (λ xs. Some xs) before

-- no line ends
pub line_none : (text : List ℕ) → Nowhere (Passes (is_byte 10) text) 0 (length text) → first_line text ≡ None
unfolding first_line
line_none text none =
    let no : list_any (is_byte 10) text ≡ false =
    list_any_none (is_byte 10) text (λ k d h. no_feed (get_or text k d) (λ is. none k (omega arith) h (same k d h is))) in
    ap (λ t. cond t (Some (before_first (is_byte 10) text)) None) no
  where
    same : (k d : ℕ) → k < length text → is_byte 10 (get_or text k d) ≡ true → is_byte 10 (get_or text k 0) ≡ true
    same k d h is = ap (is_byte 10) (get_or_default text k 0 d h) ∙ is

-- no line begins behind the text
pub line_behind : (text : List ℕ) (n : ℕ) → length text < n → first_line (drop n text) ≡ None
unfolding first_line
line_behind text n h = ap (λ xs. cond (list_any (is_byte 10) xs) (Some (before_first (is_byte 10) xs)) None) (drop_all n text (omega arith))
