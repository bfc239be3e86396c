-- Texts without blanks at an end, and the parts of a text by the first byte that passes a test.
--
-- Where the first n bytes are blank and the next one isn't, or there is none, the text without blanks in front is what
-- stands behind the n bytes. The text without blanks behind is the same of the reversed text: of its n first bytes,
-- which are the n last ones of the text.
use Rattle.std.proofs.Common.{◌≡◌, ℕ, ◌-◌, ◌<◌, ◌≤◌, true, false, List, ◌++◌, length, get_or, take, drop, ap, sym, ◌∙◌, arith, eq-eqb, length-drop, take-append-drop}
use Rattle.std.proofs.lemmas.Bool.{ne_eqb}
use Rattle.std.proofs.lemmas.List.{reverse-append, reverse-reverse, take_all, drop_at, length-take-le, length-reverse, get_or-reverse, get_or_default}
use Rattle.std.proofs.lemmas.List.Sums.{prefix_len_is, prefix_len-le-length, position_or_len_is}
use Rattle.std.proofs.lemmas.List.Folds.{list_any_at, list_any_none}
use Rattle.std.specs.Prelude.{reverse}
use Rattle.std.specs.List.{before_first, list_any, prefix_len}
use Rattle.memchr.specs.Find.{Nowhere, NoneBefore, Passes, is_byte}
use Rattle.macho_model.specs.ExportLists.{without_front}
use Rattle.macho_export_lists.specs.steps.Lines.{without_back, is_blank}

-- the text behind its first n bytes, which are blank
pub front_is : (text : List ℕ) (n : ℕ) → n ≤ length text → ((k : ℕ) → k < n → is_blank (get_or text k 0) ≡ true)
    → (n < length text → is_blank (get_or text n 0) ≡ false) → without_front text ≡ drop n text
front_is text n within blank ends =
    let first : prefix_len is_blank text ≡ n = prefix_len_is is_blank text n 0 within blank ends in
    let long : length (take (prefix_len is_blank text) text) ≡ prefix_len is_blank text =
    length-take-le (prefix_len is_blank text) text (prefix_len-le-length is_blank text) in
    ap (λ m. drop m text) (long ∙ first)

-- the front of a reversed text is its end
reverse-drop : (text : List ℕ) (n : ℕ) → n ≤ length text → reverse (drop n (reverse text)) ≡ take (length text - n) text
reverse-drop text n within =
    let front = take (length text - n) text in
    let end = drop (length text - n) text in
    let long : length (reverse end) ≡ n = omega (arith, length-reverse end, length-drop (length text - n) text) in
    let parts : reverse text ≡ reverse end ++ reverse front = ap reverse (sym (take-append-drop (length text - n) text))
    ∙ reverse-append front end in
    ap (λ xs. reverse (drop n xs)) parts ∙ ap reverse (drop_at (reverse end) (reverse front) n long) ∙ reverse-reverse front

-- the text in front of its last n bytes, which are blank
pub back_is : (text : List ℕ) (n : ℕ) → n ≤ length text → ((k : ℕ) → k < n → is_blank (get_or text (length text - 1 - k) 0) ≡ true)
    → (n < length text → is_blank (get_or text (length text - 1 - n) 0) ≡ false) → without_back text ≡ take (length text - n) text
back_is text n within blank ends =
    let same = length-reverse text in
    ap reverse (front_is (reverse text) n (omega arith) (λ k h. ap is_blank (get_or-reverse text k 0 (omega (arith, h, within)))
    ∙ blank k h)
    (λ h. ap is_blank (get_or-reverse text n 0 (omega (arith, h, same))) ∙ ends (omega (arith, h, same))))
    ∙ reverse-drop text n within

fails : (byte b : ℕ) → (is_byte byte b ≡ true → ⊥) → is_byte byte b ≡ false
fails byte b other = ne_eqb b byte (λ same. other (eq-eqb b byte same))

-- what stands before the first byte of a kind
pub before_is : (byte : ℕ) (text : List ℕ) (n : ℕ) → NoneBefore (Passes (is_byte byte) text) 0 (length text) n
    → Passes (is_byte byte) text n
    → before_first (is_byte byte) text ≡ take n text
before_is byte text n first here =
    ap (λ m. take m text)
    (position_or_len_is (is_byte byte) text n 0 (omega (arith, first.high))
    (λ k h. fails byte (get_or text k 0) (first.before k (omega arith) h)) (λ h. here))

pub before_all : (byte : ℕ) (text : List ℕ) → Nowhere (Passes (is_byte byte) text) 0 (length text) → before_first (is_byte byte) text ≡ text
before_all byte text none =
    ap (λ m. take m text)
    (position_or_len_is (is_byte byte) text (length text) 0 (omega arith) (λ k h. fails byte (get_or text k 0) (none k (omega arith) h))
    (λ h. absurd (omega (arith, h))))
    ∙ take_all (length text) text (omega arith)

-- some byte is of a kind
pub some_byte : (byte : ℕ) (text : List ℕ) (n : ℕ) → n < length text → Passes (is_byte byte) text n → list_any (is_byte byte) text ≡ true
some_byte byte text n within here = list_any_at (is_byte byte) text n 0 within here

pub no_byte : (byte : ℕ) (text : List ℕ) → Nowhere (Passes (is_byte byte) text) 0 (length text) → list_any (is_byte byte) text ≡ false
no_byte byte text none = list_any_none (is_byte byte) text
    (λ k d h. fails byte (get_or text k d) (λ is. none k (omega arith) h (same k d h is)))
  where
    same : (k d : ℕ) → k < length text → is_byte byte (get_or text k d) ≡ true → is_byte byte (get_or text k 0) ≡ true
    same k d h is = ap (is_byte byte) (get_or_default text k 0 d h) ∙ is
