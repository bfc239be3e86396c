-- Tables: the spellings of many records, one after the other.
--
-- One record more, put where the table ends, makes the table of one record more, since two puts next to each other
-- are one. Where each spelling has w bytes, so has the table w for each record, and record k stands w * k bytes
-- behind the table's start.
use Rattle.std.proofs.Common.{◌≡◌, ℕ, zero, suc, ◌+◌, ◌*◌, ◌<◌, ◌≤◌, List, [], ◌∷◌, ◌++◌, length, get_or, take, sym, ap, subst, ◌∙◌, arith}
use Rattle.std.specs.List.{flat_map}
use Rattle.std.proofs.Math.Nat.{mul-suc}
use Rattle.std.proofs.lemmas.List.{length-append, append-nil}
use Rattle.std.proofs.lemmas.Grind.{flat_map-append}
use Rattle.macho_bytes.specs.Texts.{put, Stands}
use Rattle.macho_bytes.proofs.Numbers.{stands-front, stands-back}

-- one record more of a table
pub flat_map-more : {X : Type 0} (f : X → List ℕ) (xs : List X) (x : X) → flat_map f (xs ++ x ∷ []) ≡ flat_map f xs ++ f x
flat_map-more f xs x = flat_map-append f xs (x ∷ []) ∙ ap (λ (t : List ℕ). flat_map f xs ++ t) (append-nil (f x))

-- each text of a table has w bytes
pub record EachLong {X : Type 0} (f : X → List ℕ) (w : ℕ) (xs : List X) : Type 0 where
  pub long : (k : ℕ) (d : X) → k < length xs → length (f (get_or xs k d)) ≡ w

-- so the table has w bytes for each
pub length-table : {X : Type 0} (f : X → List ℕ) (w : ℕ) (xs : List X) → EachLong f w xs → length (flat_map f xs) ≡ w * length xs
length-table f w [] each = omega arith
length-table f w (x ∷ xs) each =
    let rest = length-table f w xs (record { long = λ k d h. each.long (suc k) d (omega arith) }) in
    omega (arith, rest, each.long 0 x (omega arith), length-append (f x) (flat_map f xs), mul-suc w (length xs))

-- record k of a table that stands
pub table-stands : {X : Type 0} (f : X → List ℕ) (w : ℕ) (xs : List X) (at k : ℕ) (d : X) (bytes : List ℕ) → EachLong f w xs → k < length xs
    → Stands bytes (record { at = at; text = flat_map f xs }) → Stands bytes (record { at = at + w * k; text = f (get_or xs k d) })
table-stands f w [] at k d bytes each lt s = absurd (omega arith)
table-stands f w (x ∷ xs) at zero d bytes each lt s =
    let front = stands-front bytes at (f x) (flat_map f xs) s in
    let here : at ≡ at + w * 0 = omega arith in
    subst (λ (m : ℕ). Stands bytes (record { at = m; text = f x })) here front
table-stands f w (x ∷ xs) at (suc k) d bytes each lt s =
    let back = stands-back bytes at (at + w) (f x) (flat_map f xs) (omega (arith, each.long 0 x (omega arith))) s in
    let rest = table-stands f w xs (at + w) k d bytes (record { long = λ m e h. each.long (suc m) e (omega arith) }) (omega arith) back in
    let here : at + w + w * k ≡ at + w * suc k = omega (arith, mul-suc w k) in
    subst (λ (m : ℕ). Stands bytes (record { at = m; text = f (get_or xs k d) })) here rest
