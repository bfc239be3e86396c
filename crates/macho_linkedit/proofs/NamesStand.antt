-- Names one behind the other, each with its NUL.
--
-- A name stands behind those before it, and a NUL behind it; none of its own bytes is 0, so what is read from its place up to
-- the first NUL is the name.
use Rattle.std.proofs.Common.{◌≡◌, ◌≢◌, ℕ, zero, suc, ◌+◌, ◌-◌, ◌<◌, ◌==◌, false, List, [], ◌∷◌, ◌++◌, take, drop, length, get_or, slice_index, refl, sym, ap, subst, ◌∙◌, arith}
use Rattle.std.specs.Prelude.{All, sum_by}
use Rattle.std.specs.List.{flat_map, position_or_len}
use Rattle.std.proofs.Math.Seq.{take-append_seam}
use Rattle.std.proofs.lemmas.Bool.Decides.{nat_tests}
use Rattle.std.proofs.lemmas.List.{length-append, length-take, get_or-take, get_or_append_left, get_or-append_right, append_assoc}
use Rattle.std.proofs.lemmas.List.Sums.{sum_by-cons, fails_before_first}
use Rattle.macho_bytes.specs.Texts.{Stands, name_of}
use Rattle.macho_bytes.proofs.Names.{name_of-ends}
use Rattle.macho_bytes.proofs.Numbers.{stands-front, stands-back, drop-stands}
use Rattle.macho_bytes.proofs.Puts.{stands_by_bytes}

-- number j stands behind those before it
pub name_stands : {X : Type 0} (f : X → List ℕ) (xs : List X) (d : X) (W : List ℕ) (at j : ℕ) → j < length xs
    → Stands W (record { at = at; text = flat_map (λ x. f x ++ 0 ∷ []) xs })
    → Stands W (record { at = at + sum_by (λ x. length (f x) + 1) (take j xs); text = f (get_or xs j d) ++ 0 ∷ [] })
name_stands f [] d W at j lt s = absurd (omega arith)
name_stands f (x ∷ xs) d W at zero lt s =
    let here : at ≡ at + 0 = omega arith in
    subst (λ (n : ℕ). Stands W (record { at = n; text = f x ++ 0 ∷ [] })) here
    (stands-front W at (f x ++ 0 ∷ []) (flat_map (λ x. f x ++ 0 ∷ []) xs) s)
name_stands {X} f (x ∷ xs) d W at (suc j) lt s =
    let long : length (f x ++ 0 ∷ []) ≡ length (f x) + 1 = omega (arith, length-append (f x) (0 ∷ [])) in
    let back = stands-back W at (at + (length (f x) + 1)) (f x ++ 0 ∷ []) (flat_map (λ x. f x ++ 0 ∷ []) xs) (omega (arith, long)) s in
    let rest = name_stands f xs d W (at + (length (f x) + 1)) j (omega arith) back in
    let here : at + (length (f x) + 1) + sum_by (λ x. length (f x) + 1) (take j xs) ≡ at + sum_by (λ x. length (f x) + 1) (x ∷ take j xs)
    = omega (arith, sum_by-cons (λ (y : X). length (f y) + 1) x (take j xs)) in
    subst (λ (n : ℕ). Stands W (record { at = n; text = f (get_or xs j d) ++ 0 ∷ [] })) here rest

-- a text stands in itself
pub whole : (W : List ℕ) → Stands W (record { at = 0; text = W })
whole W = stands_by_bytes W (record { at = 0; text = W }) (omega arith) (λ i lt. ap (λ (n : ℕ). get_or W n 0) (omega arith))

-- a name without a NUL is what stands up to the first one
pub read_up_to : (name rest : List ℕ) → All (λ c. c ≢ 0) name → name_of (name ++ (0 ∷ rest)) ≡ name
read_up_to name rest plain =
    name_of-ends (name ++ (0 ∷ rest)) (length name) (omega (arith, length-append name (0 ∷ rest))) before nul ∙ take-append_seam name
    (0 ∷ rest)
  where
    before : (i : ℕ) → i < length name → slice_index (name ++ (0 ∷ rest)) i ≡ 0 → ⊥
    before i lt is = plain i 0 lt (sym (get_or_append_left name (0 ∷ rest) 0 i lt) ∙ is)

    nul : slice_index (name ++ (0 ∷ rest)) (length name) ≡ 0
    nul =
        let first : length name - length name ≡ 0 = omega arith in
        get_or-append_right name (0 ∷ rest) (length name) (length name) 0 refl (omega arith) ∙ ap (λ (n : ℕ). get_or (0 ∷ rest) n 0) first

-- so a name that stands is read from its place
pub name_read : (W name : List ℕ) (at : ℕ) → Stands W (record { at = at; text = name ++ 0 ∷ [] }) → All (λ c. c ≢ 0) name → name_of
    (drop at W) ≡ name
name_read W name at s plain =
    ap name_of (drop-stands W (record { at = at; text = name ++ 0 ∷ [] }) s ∙ append_assoc name (0 ∷ [])
    (drop (at + length (name ++ 0 ∷ [])) W))
    ∙ read_up_to name (drop (at + length (name ++ 0 ∷ [])) W) plain

-- what is read up to the first NUL has none
pub read_plain : (bytes : List ℕ) → All (λ c. c ≢ 0) (name_of bytes)
read_plain bytes k d lt is =
    let n = position_or_len (λ b. b == 0) bytes in
    let below : k < n = omega (arith, length-take n bytes) in
    let byte : get_or bytes k d ≡ 0 = sym (get_or-take n bytes k d below) ∙ is in
    let fails : (get_or bytes k d == 0) ≡ false = fails_before_first (λ b. b == 0) bytes k d below in
    grind (arith, nat_tests)
