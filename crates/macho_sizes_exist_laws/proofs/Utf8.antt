-- The bytes of a text in UTF-8 are below 256.
--
-- A character has one to four bytes. The first begins with bits that tell how many, and has what is left of a number below
-- 0x110000; each other one has six bits of it.
use Rattle.std.proofs.Common.{◌≡◌, ℕ, ◌+◌, ◌/◌, ◌<◌, Bool, true, false, cond, ltb, List, [], ◌∷◌, refl, subst, arith, inl, inr, All}
use Rattle.std.specs.Str.{IsUtf8, encode_utf8_all}
use Rattle.std.proofs.Math.Utf8.{scalar, scalars, scalar_cases, next}
use lib.Utf8.{encode}
use Rattle.std.proofs.lemmas.Bool.{and_parts, ltb-true}
use Rattle.std.proofs.lemmas.List.Elements.{All-nil, All-cons, All-append}

abbrev pub IsByte : ℕ → Type 0
IsByte b = b < 256

one : (a : ℕ) → a < 256 → All IsByte (a ∷ [])
one a h = All-cons IsByte a [] h (All-nil IsByte)

at_most : (c : ℕ) → scalar c ≡ true → c < 1114112
at_most c is = elim (scalar_cases c is) [ inl low ↦ omega (arith, low) | inr high ↦ high.1 ]

of_character : (c : ℕ) → scalar c ≡ true → All IsByte (encode c)
unfolding encode
of_character c is = by (ltb c 128) (ltb c 2048) (ltb c 65536) refl refl refl
  where
    bits : (b : ℕ) → next b < 256
    bits b = omega arith

    by : (x y z : Bool) → ltb c 128 ≡ x → ltb c 2048 ≡ y → ltb c 65536 ≡ z
        → All IsByte (cond x (c ∷ []) (cond y ((192 + c / 64) ∷ next c ∷ []) (cond z ((224 + c / 4096) ∷ next (c / 64) ∷ next c ∷ [])
        ((240 + c / 262144) ∷ next (c / 4096) ∷ next (c / 64) ∷ next c ∷ []))))
    by true y z e f g = one c (omega (arith, ltb-true c 128 e))
    by false true z e f g =
        All-cons IsByte (192 + c / 64) (next c ∷ []) (omega (arith, ltb-true c 2048 f)) (one (next c) (bits c))
    by false false true e f g =
        All-cons IsByte (224 + c / 4096) (next (c / 64) ∷ next c ∷ []) (omega (arith, ltb-true c 65536 g))
        (All-cons IsByte (next (c / 64)) (next c ∷ []) (bits (c / 64)) (one (next c) (bits c)))
    by false false false e f g =
        All-cons IsByte (240 + c / 262144) (next (c / 4096) ∷ next (c / 64) ∷ next c ∷ []) (omega (arith, at_most c is))
        (All-cons IsByte (next (c / 4096)) (next (c / 64) ∷ next c ∷ []) (bits (c / 4096))
        (All-cons IsByte (next (c / 64)) (next c ∷ []) (bits (c / 64)) (one (next c) (bits c))))

of_characters : (cs : List ℕ) → scalars cs ≡ true → All IsByte (encode_utf8_all cs)
of_characters [] are = All-nil IsByte
of_characters (c ∷ cs) are =
    let p = and_parts (scalar c) (scalars cs) are in
    All-append IsByte (encode c) (encode_utf8_all cs) (of_character c p.0) (of_characters cs p.1)

pub of_utf8 : (text : List ℕ) → IsUtf8 text → All IsByte text
of_utf8 text (cs, (are, is)) = subst (All IsByte) is (of_characters cs are)
