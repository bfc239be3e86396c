-- What may stand behind a value on its line, byte by byte: nothing, or spaces and then nothing or a comment.
-- The definition counts the spaces in front and looks at the byte behind them. Here it is taken apart at its first
-- byte, as the reading of a list does it: a tail with a byte begins with a space, and behind that stands a comment, or
-- a space and the same again (`tail_begins`, `passed_begins`). The other way, a space in front of a tail gives a
-- tail, and so does a space in front of a comment (`tail_spaced`, `tail_comment`).
use Rattle.std.proofs.Common.{◌≡◌, ℕ, Bool, true, false, List, [], ◌∷◌, ◌&&◌, eqb, one-add, refl, sym, ap, ◌∙◌, ◌⊎◌, inl, inr}
use Rattle.std.specs.List.{prefix_len}
use Rattle.macho_stub_lines.specs.Bytes.{space, number_sign, indent, unspaced, is_blank_or_comment, is_passed, is_tail}
use Rattle.macho_stub_lines.specs.steps.Bytes.{is_space}
use Rattle.macho_stub_lines.proofs.Bind.{eq_at}

-- a tail with a byte begins with a space
pub tail_begins : (b : ℕ) (bytes : List ℕ) → is_tail (b ∷ bytes) ≡ true → (b ≡ space) × (is_passed bytes ≡ true)
unfolding is_tail
tail_begins b bytes h = by_test (eqb b space) refl h
  where
    by_test : (t : Bool) → eqb b space ≡ t → (t && is_passed bytes) ≡ true → (b ≡ space) × (is_passed bytes ≡ true)
    by_test true e h = (eq_at b space e, h)
    by_test false e h = absurd cc

-- spaces in front are passed
passed_spaced : (bytes : List ℕ) → is_passed (space ∷ bytes) ≡ is_passed bytes
unfolding is_passed unspaced indent
passed_spaced bytes = rw (one-add (prefix_len is_space bytes)) refl

-- a line that is passed over begins with a number sign, or with a space and such a line
pub passed_begins : (b : ℕ) (bytes : List ℕ) → is_passed (b ∷ bytes) ≡ true → (b ≡ number_sign) ⊎ ((b ≡ space) × (is_passed bytes ≡ true))
unfolding is_passed unspaced indent is_blank_or_comment
passed_begins b bytes h = by_test (eqb b space) refl
  where
    by_test : (t : Bool) → eqb b space ≡ t → (b ≡ number_sign) ⊎ ((b ≡ space) × (is_passed bytes ≡ true))
    by_test true e =
        let is : b ≡ space = eq_at b space e in
        inr (is, sym (passed_spaced bytes) ∙ ap (λ (first : ℕ). is_passed (first ∷ bytes)) (sym is) ∙ h)
    by_test false e = inl (eq_at b number_sign (rw e at h))

-- a space in front of a tail gives a tail
pub tail_spaced : (tail : List ℕ) → is_tail tail ≡ true → is_tail (space ∷ tail) ≡ true
unfolding is_tail is_passed unspaced indent is_blank_or_comment
tail_spaced [] h = refl
tail_spaced (b ∷ bytes) h =
    let begins = tail_begins b bytes h in
    ap (λ (first : ℕ). is_passed (first ∷ bytes)) begins.0 ∙ passed_spaced bytes ∙ begins.1

-- and so does a space in front of a comment
pub tail_comment : (bytes : List ℕ) → is_tail (space ∷ number_sign ∷ bytes) ≡ true
unfolding is_tail is_passed unspaced indent is_blank_or_comment
tail_comment bytes = refl
