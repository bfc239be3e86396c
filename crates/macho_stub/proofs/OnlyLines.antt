-- Where the lines of a tree begin: a key, a head and an end belong to no skipped value above them, and a line that
-- is spelled with spaces, a dash and more spaces reads back as these.
-- A line that is read with a key begins with a byte of one, and its key ends at a colon; a space is no such byte, and a
-- key of a dash alone would end at the space behind it (`space_ends`, `dash_ends`). The spaces in front of a text that
-- begins with none are as many as were put there, and dropping them, or looking behind them, gives the text
-- (`spelled_indent`, `spelled_rest`, `spelled_at`). For a dash this is done before and behind it (`dash_line`).
use Rattle.std.proofs.Common.{◌≡◌, ◌≢◌, ℕ, zero, suc, ◌+◌, ◌<◌, ◌&&◌, ◌||◌, not, true, false, cond, eqb, List, [], ◌∷◌, ◌++◌, get_or, take, drop, replicate, Ok, refl, sym, ap, ◌∙◌, arith}
use Rattle.std.specs.List.{prefix_len}
use Rattle.std.specs.Str.{bytes_eq}
use Rattle.std.proofs.lemmas.Bool.Decides.{nat_tests}
use Rattle.std.proofs.Math.Numerals.{one-add}
use Rattle.std.proofs.lemmas.List.{drop-drop}
use Rattle.macho_stub_lines.specs.declared.fault.StubRule.TheVariants.{S1}
use Rattle.macho_stub_lines.specs.Bytes.{space, dash, colon, is_key_byte, indent, unspaced, head, end, belongs_to_top, has_dash}
use Rattle.macho_stub_lines.specs.steps.Bytes.{is_space}
use Rattle.macho_stub_lines.specs.Keys.{Entry, entry_at, entry_behind}
use Rattle.macho_stub.specs.steps.Reader.{key_column}
use Rattle.macho_stub_lines.proofs.Bind.{not_broken, no_ok, bytes_differ}

-- ---- keys

-- what begins with no byte of a key is no entry
no_key : (line : ℕ) (text : List ℕ) (said : Entry) → prefix_len is_key_byte text ≡ 0 → entry_at line text ≡ Ok said → ⊥
unfolding entry_at
no_key line text said none e =
    let b = not_broken (eqb (prefix_len is_key_byte text) 0 || not (eqb (get_or text (prefix_len is_key_byte text) 0) colon)) line S1
    (entry_behind line (take (prefix_len is_key_byte text) text) (drop (prefix_len is_key_byte text + 1) text)) said e in
    absurd (grind (arith, nat_tests))

no_colon : (line : ℕ) (text : List ℕ) (said : Entry) → get_or text (prefix_len is_key_byte text) 0 ≢ colon → entry_at line text ≡ Ok said
    → ⊥
unfolding entry_at
no_colon line text said none e =
    let b = not_broken (eqb (prefix_len is_key_byte text) 0 || not (eqb (get_or text (prefix_len is_key_byte text) 0) colon)) line S1
    (entry_behind line (take (prefix_len is_key_byte text) text) (drop (prefix_len is_key_byte text + 1) text)) said e in
    absurd (grind (arith, nat_tests))

-- a key begins with no space
pub space_ends : (b : ℕ) (text : List ℕ) → b ≡ space → prefix_len is_key_byte (b ∷ text) ≡ 0
unfolding is_key_byte
space_ends b text e = ap (λ c. prefix_len is_key_byte (c ∷ text)) e

entry_first : (line b : ℕ) (text : List ℕ) (said : Entry) → entry_at line (b ∷ text) ≡ Ok said → b ≢ space
entry_first line b text said e = λ s. no_key line (b ∷ text) said (space_ends b text s) e

-- and not with a dash and a space
pub dash_ends : (b c : ℕ) (text : List ℕ) → b ≡ dash → c ≡ space → get_or (b ∷ c ∷ text) (prefix_len is_key_byte (b ∷ c ∷ text)) 0 ≡ space
unfolding is_key_byte
dash_ends b c text e f = ap (λ d. get_or (d ∷ c ∷ text) (prefix_len is_key_byte (d ∷ c ∷ text)) 0) e
    ∙ ap (λ d. get_or (dash ∷ d ∷ text) (prefix_len is_key_byte (dash ∷ d ∷ text)) 0) f

entry_second : (line b c : ℕ) (text : List ℕ) (said : Entry) → entry_at line (b ∷ c ∷ text) ≡ Ok said → b ≡ dash → c ≢ space
entry_second line b c text said e is = λ s. no_colon line (b ∷ c ∷ text) said (λ k. absurd (omega (arith, dash_ends b c text is s))) e

-- so its line belongs to no skipped value above it
pub entry_at_top : (line : ℕ) (text : List ℕ) (said : Entry) → entry_at line text ≡ Ok said → belongs_to_top text ≡ false
unfolding belongs_to_top
entry_at_top line [] said e = refl
entry_at_top line (b ∷ []) said e = let n = entry_first line b [] said e in grind (arith, nat_tests)
entry_at_top line (b ∷ c ∷ text) said e = let n = entry_first line b (c ∷ text) said e in let m = entry_second line b c text said e in
    grind (arith, nat_tests)

-- and is no head
pub entry_no_head : (line : ℕ) (text : List ℕ) (said : Entry) → entry_at line text ≡ Ok said → bytes_eq text head ≡ false
unfolding entry_at is_key_byte
entry_no_head line text said e = bytes_differ text head (λ is. no_ok line S1 said (sym (ap (entry_at line) is) ∙ e))

-- nor an end
pub entry_no_end : (line : ℕ) (text : List ℕ) (said : Entry) → entry_at line text ≡ Ok said → bytes_eq text end ≡ false
unfolding entry_at is_key_byte
entry_no_end line text said e = bytes_differ text end (λ is. no_ok line S1 said (sym (ap (entry_at line) is) ∙ e))

-- a line that belongs to no skipped value of a document begins at column 0, with no dash and space
pub top_indent : (text : List ℕ) → belongs_to_top text ≡ false → indent text ≡ 0
unfolding indent belongs_to_top
top_indent [] h = refl
top_indent (b ∷ text) h = let n : eqb b space ≡ false = grind (arith, nat_tests) in ap (λ t. cond t (1 + prefix_len is_space text) 0) n

-- and has no dash
pub top_no_dash : (text : List ℕ) → belongs_to_top text ≡ false → has_dash text ≡ false
unfolding has_dash belongs_to_top
top_no_dash text h = rw (top_indent text h) (no_dash text h)
  where
    no_dash : (text : List ℕ) → belongs_to_top text ≡ false → (eqb (get_or text 0 0) dash && eqb (get_or text (0 + 1) 0) space) ≡ false
    no_dash text h = grind (arith, nat_tests)

-- an entry begins with no space
pub entry_unspaced : (line : ℕ) (text : List ℕ) (said : Entry) → entry_at line text ≡ Ok said → prefix_len is_space text ≡ 0
unfolding indent
entry_unspaced line text said e = top_indent text (entry_at_top line text said e)

-- ---- spelled lines

-- the spaces in front of what begins with none
pub spelled_indent : (n : ℕ) (text : List ℕ) → prefix_len is_space text ≡ 0 → prefix_len is_space (replicate n space ++ text) ≡ n
spelled_indent zero text h = h
spelled_indent (suc n) text h = one-add (prefix_len is_space (replicate n space ++ text)) ∙ ap suc (spelled_indent n text h)

-- what stands behind the spaces is read back
pub spelled_rest : (n : ℕ) (text : List ℕ) → drop n (replicate n space ++ text) ≡ text
spelled_rest zero text = refl
spelled_rest (suc n) text = spelled_rest n text

-- and so is each byte of it
pub spelled_at : (n k : ℕ) (text : List ℕ) → get_or (replicate n space ++ text) (n + k) 0 ≡ get_or text k 0
spelled_at zero k text = let e : 0 + k ≡ k = omega arith in rw e refl
spelled_at (suc n) k text = let e : suc n + k ≡ suc (n + k) = omega arith in rw e (spelled_at n k text)

-- what a line with a dash reads back as
pub record DashLine (at gap : ℕ) (text head : List ℕ) : Type 0 where
  pub indented : indent text ≡ at
  pub dashed : has_dash text ≡ true
  pub column : key_column text ≡ at + 1 + gap
  pub behind : drop (key_column text) text ≡ head

first_space : (gap : ℕ) (head : List ℕ) → 0 < gap → get_or (replicate gap space ++ head) 0 0 ≡ space
first_space zero head h = absurd (omega arith)
first_space (suc gap) head h = refl

-- a line that is spelled with a dash reads back as such
pub dash_line : (at gap : ℕ) (head : List ℕ) → 0 < gap → prefix_len is_space head ≡ 0
    → DashLine at gap (replicate at space ++ dash ∷ (replicate gap space ++ head)) head
unfolding indent has_dash key_column
dash_line at gap head some unspaced =
    let tail = replicate gap space ++ head in
    let text = replicate at space ++ dash ∷ tail in
    let i : prefix_len is_space text ≡ at = spelled_indent at (dash ∷ tail) refl in
    let d : get_or text at 0 ≡ dash = ap (λ k. get_or text k 0) (omega arith) ∙ spelled_at at 0 (dash ∷ tail) in
    let s : get_or text (at + 1) 0 ≡ space = spelled_at at 1 (dash ∷ tail) ∙ first_space gap head some in
    let r : drop (at + 1) text ≡ tail = sym (drop-drop 1 at text) ∙ ap (drop 1) (spelled_rest at (dash ∷ tail)) in
    let g : prefix_len is_space tail ≡ gap = spelled_indent gap head unspaced in
    let c : prefix_len is_space text + 1 + prefix_len is_space (drop (prefix_len is_space text + 1) text)
    ≡ at + 1 + gap = rw (i, r, g) refl in
    record {
      indented = i;
      dashed = rw (i, d, s) refl;
      column = c;
      behind = rw c (sym (drop-drop gap (at + 1) text) ∙ ap (drop gap) r ∙ spelled_rest gap head);
    }
