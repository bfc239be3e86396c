-- What `split_once` at a dot answers, against the parts between the dots.
--
-- Where there is no dot, the text is the one part. Else the first part ends before the first dot, and the
-- other parts are those of the text behind it. A fourth part makes the text no version.
use Rattle.std.proofs.Common.{ℕ, suc, ◌<◌, nat_lt, true, cond, ◌≡◌, ◌≢◌, codes, List, [], ◌∷◌, length, eqb, get_or, arith, Option, None, refl}
use Rattle.std.specs.List.{position_or_len, before_first, after_first}
use Rattle.std.proofs.lemmas.Bool.Decides.{nat_tests}
use Rattle.std.proofs.lemmas.List.{get_or_default}
use Rattle.std.proofs.lemmas.List.Splits.{slice_split_none, slice_split_first, length-slice_split}
use Rattle.macho_args.specs.Version.{packed, version_of}
use Rattle.macho_args.specs.steps.Version.{dotted_parts}

pub dotted-none : (text : List ℕ) → ((i : ℕ) → i < length text → get_or text i 0 ≢ 46) → dotted_parts text ≡ text ∷ []
dotted-none text none =
    slice_split_none (λ byte. eqb byte 46) text (λ k d h.
    let differs = none k h in
    let same : get_or text k d ≡ get_or text k 0 = get_or_default text k d 0 h in
    grind (arith, nat_tests))

pub dotted-first : (text first rest : List ℕ) → position_or_len (λ byte. eqb byte 46) text < length text
    → first ≡ before_first (λ byte. eqb byte 46) text
    → rest ≡ after_first (λ byte. eqb byte 46) text → dotted_parts text ≡ first ∷ dotted_parts rest
dotted-first text first rest found is_first is_rest = rw (is_first, is_rest) (slice_split_first (λ byte. eqb byte 46) text 0 found)

-- the version by its parts
abbrev of_parts : List (List ℕ) → Option ℕ
of_parts parts = cond (nat_lt 3 (length parts)) None (packed (get_or parts 0 []) (get_or parts 1 (codes "0")) (get_or parts 2 (codes "0")))

too_many : (n : ℕ) → 0 < n → nat_lt 3 (suc (suc (suc n))) ≡ true
too_many n some = grind (arith, nat_tests)

no_version : (a b c : List ℕ) (parts : List (List ℕ)) → 0 < length parts → of_parts (a ∷ b ∷ c ∷ parts) ≡ None
no_version a b c parts some = rw (too_many (length parts) some) refl

-- a text with a dot behind its third part is no version
pub version-four : (text a b c rest : List ℕ) → dotted_parts text ≡ a ∷ b ∷ c ∷ dotted_parts rest → version_of text ≡ None
unfolding version_of
version-four text a b c rest parts =
    let some : 0 < length (dotted_parts rest) = omega (arith, length-slice_split (λ byte. eqb byte 46) rest) in
    rw parts (no_version a b c (dotted_parts rest) some)
