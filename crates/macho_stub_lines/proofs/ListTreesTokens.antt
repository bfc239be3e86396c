-- The tokens of a list, by the bytes that begin with them.
-- A space is a token of one byte if no comment follows it, and takes all if one does. A comma and the closing bracket
-- are tokens of one byte. A scalar begins with none of these bytes, so it is read as a scalar, up to its end if no
-- plain byte follows it. The other way, bytes with a token in front begin with one of these (`Begins`, `token_found`):
-- the tests on the first byte say with which, and what is read as a scalar is the tree of one.
use Rattle.std.proofs.Common.{◌≡◌, ℕ, ◌+◌, Bool, true, false, cond, eqb, List, [], ◌∷◌, ◌++◌, length, Option, Some, None, Ok, refl, sym, ap, ◌∙◌, subst, subst₂}
use Rattle.macho_stub_lines.specs.declared.list.Expect.{Expect}
use Rattle.macho_stub_lines.specs.declared.list.TokenKind.TheVariants as token
use Rattle.macho_stub_lines.specs.declared.fault.StubRule.TheVariants.{S1}
use Rattle.macho_stub_lines.specs.Bytes.{space, comma, close_bracket, number_sign}
use Rattle.macho_stub_lines.specs.Scalars.{ScalarSpan, scalar_front}
use Rattle.macho_stub_lines.specs.Lists.{TokenSpan, mark, gap, name_token, token_front, behind}
use Rattle.macho_stub_lines.specs.Spelling.{ScalarTree, scalar_bytes, IsScalar}
use Rattle.macho_stub_lines.specs.steps.Spelling.{text_of}
use Rattle.macho_stub_lines.proofs.Bind.{eq_at, ne_at, eq_false, no_ok, same_ok, done}
use Rattle.macho_stub_lines.proofs.ScalarTrees.{EndsPlain, front_found, front_reads}
use Rattle.macho_stub_lines.proofs.ListTreesRemains.{NoComment, BeginsScalar, scalar_begins}

-- ---- from the bytes to the token

-- the token of a scalar
abbrev pub named_by : ScalarTree → TokenSpan
named_by scalar = record { kind = token.Name; text = text_of scalar; width = length (scalar_bytes scalar) }

-- a space that no comment follows is a token of one byte
pub one_space : (bytes : List ℕ) → NoComment bytes → gap bytes ≡ mark token.Gap 1
one_space [] free = refl
one_space (b ∷ bytes) free = rw (eq_false b number_sign free) refl

-- a space in front, perhaps with a comment
pub space_token : (line : ℕ) (bytes : List ℕ) → token_front line (space ∷ bytes) ≡ Ok (gap bytes)
unfolding token_front
space_token line bytes = refl

-- a comma in front
pub comma_token : (line : ℕ) (bytes : List ℕ) → token_front line (comma ∷ bytes) ≡ Ok (mark token.Comma 1)
unfolding token_front
comma_token line bytes = refl

-- a closing bracket in front
pub close_token : (line : ℕ) (bytes : List ℕ) → token_front line (close_bracket ∷ bytes) ≡ Ok (mark token.Close 1)
unfolding token_front
close_token line bytes = refl

other_token : (line b : ℕ) (bytes : List ℕ) → BeginsScalar b → token_front line (b ∷ bytes)
    ≡ name_token line (scalar_front (b ∷ bytes))
unfolding token_front
other_token line b bytes begins =
    rw (eq_false b space begins.no_space, eq_false b comma begins.no_comma, eq_false b close_bracket begins.no_close) refl

-- a scalar that no plain byte follows is a token
pub scalar_token : (line : ℕ) (scalar : ScalarTree) (rest : List ℕ) → IsScalar scalar → EndsPlain rest
    → token_front line (scalar_bytes scalar ++ rest) ≡ Ok (named_by scalar)
scalar_token line scalar rest sound ends =
    let begins = scalar_begins scalar sound in
    let bytes = begins.1 ++ rest in
    let e : scalar_bytes scalar ++ rest ≡ begins.0 ∷ bytes = ap (λ (front : List ℕ). front ++ rest) begins.2 in
    ap (token_front line) e ∙ other_token line begins.0 bytes begins.3 ∙ ap (λ (all : List ℕ). name_token line (scalar_front all)) (sym e)
    ∙ ap (name_token line) (front_reads scalar rest sound ends)

-- a gap changes nothing
pub behind_gap : (line : ℕ) (expect : Expect) → behind line expect token.Gap ≡ Ok expect
unfolding behind
behind_gap line expect = refl

-- ---- from the token to the bytes

-- the bytes that begin with a token
pub data Begins : List ℕ → TokenSpan → Type 0 where
  Spaced : (rest : List ℕ) → NoComment rest → Begins (space ∷ rest) (mark token.Gap 1)
  Commented : (rest : List ℕ) → Begins (space ∷ number_sign ∷ rest) (mark token.Gap (1 + length (number_sign ∷ rest)))
  Parted : (rest : List ℕ) → Begins (comma ∷ rest) (mark token.Comma 1)
  Ended : (rest : List ℕ) → Begins (close_bracket ∷ rest) (mark token.Close 1)
  Named : (scalar : ScalarTree) (rest : List ℕ) → IsScalar scalar → Begins (scalar_bytes scalar ++ rest) (named_by scalar)

gap_begins : (bytes : List ℕ) → Begins (space ∷ bytes) (gap bytes)
gap_begins [] = Spaced [] tt
gap_begins (b ∷ bytes) = by_test (eqb b number_sign) refl
  where
    by_test : (t : Bool) → eqb b number_sign ≡ t → Begins (space ∷ b ∷ bytes)
        (cond t (mark token.Gap (1 + length (b ∷ bytes))) (mark token.Gap 1))
    by_test true e =
        let is : b ≡ number_sign = eq_at b number_sign e in
        let B : ℕ → Type 0 = λ n. Begins (space ∷ n ∷ bytes) (mark token.Gap (1 + length (n ∷ bytes))) in
        subst B (sym is) (Commented bytes)
    by_test false e = Spaced (b ∷ bytes) (ne_at b number_sign e)

name_begins : (line : ℕ) (bytes : List ℕ) (found : TokenSpan) (front : Option ScalarSpan) → scalar_front bytes ≡ front
    → name_token line front ≡ Ok found → Begins bytes found
name_begins line bytes found None e h = absurd (no_ok line S1 found h)
name_begins line bytes found (Some span) e h =
    let tree = front_found bytes span e in
    let is : named_by tree.0 ≡ found = rw (sym tree.4, sym tree.5) (same_ok _ _ h) in
    subst₂ Begins (sym tree.3) is (Named tree.0 tree.1 tree.2)

begins_as : (b first : ℕ) (bytes : List ℕ) (is found : TokenSpan) → b ≡ first → done is ≡ Ok found → Begins (first ∷ bytes) is
    → Begins (b ∷ bytes) found
begins_as b first bytes is found e h begins =
    subst₂ Begins (ap (λ (n : ℕ). n ∷ bytes) (sym e)) (same_ok is found h) begins

-- Bytes that have a token in front begin with it.
pub token_found : (line b : ℕ) (bytes : List ℕ) (found : TokenSpan) → token_front line (b ∷ bytes) ≡ Ok found → Begins (b ∷ bytes) found
unfolding token_front
token_found line b bytes found h = by_tests (eqb b space) (eqb b comma) (eqb b close_bracket) refl refl refl h
  where
    by_tests : (s c e : Bool) → eqb b space ≡ s → eqb b comma ≡ c → eqb b close_bracket ≡ e
        → cond s (done (gap bytes)) (cond c (done (mark token.Comma 1)) (cond e (done (mark token.Close 1))
        (name_token line (scalar_front (b ∷ bytes))))) ≡ Ok found
        → Begins (b ∷ bytes) found
    by_tests true c e is _ _ h = begins_as b space bytes (gap bytes) found (eq_at b space is) h (gap_begins bytes)
    by_tests false true e _ is _ h =
        begins_as b comma bytes (mark token.Comma 1) found (eq_at b comma is) h (Parted bytes)
    by_tests false false true _ _ is h =
        begins_as b close_bracket bytes (mark token.Close 1) found (eq_at b close_bracket is) h (Ended bytes)
    by_tests false false false _ _ _ h = name_begins line (b ∷ bytes) found (scalar_front (b ∷ bytes)) refl h
