-- The piece around pieces begins where one of them does, and ends where one of them does.
--
-- The least of numbers is one of them, and so is the greatest; and the least start is no greater than the greatest end.
use Rattle.std.proofs.Common.{◌≡◌, ℕ, ◌≤◌, ◌⊎◌, inl, inr, min, List, [], ◌∷◌, map, fold, refl, sym, arith}
use Rattle.std.specs.Prelude.{Contains}
use Rattle.std.proofs.lemmas.Bool.{cases_lt}
use Rattle.macho_bytes.proofs.Members.{contains_first, contains_later}
use Rattle.macho_model.specs.Links.{greatest}
use Rattle.macho_model.specs.OutputSections.{around}
use Rattle.macho_model.specs.Placement.{Piece, end_of_piece}

abbrev start_of : Piece → ℕ
start_of c = c.start

-- the least of numbers, from one on
least_of : (n : ℕ) (cs : List Piece)
    → (fold min n (map start_of cs) ≡ n) ⊎ ((a : Piece) × Contains cs a × (a.start ≡ fold min n (map start_of cs)))
least_of n [] = inl refl
least_of n (c ∷ cs) = elim (least_of (min n c.start) cs) [
  | inr a ↦ inr (a.0, contains_later c cs a.0 a.1, a.2)
  | inl e ↦ elim (cases_lt c.start n) [
    | inl below ↦ inr (c, contains_first c cs, omega (arith, e, below))
    | inr above ↦ inl (omega (arith, e, above))
  ]
]

least_below : (n : ℕ) (cs : List Piece) → fold min n (map start_of cs) ≤ n
least_below n [] = omega arith
least_below n (c ∷ cs) = omega (arith, least_below (min n c.start) cs)

-- the greatest
greatest_of : (x : Piece) (cs : List Piece)
    → (a : Piece) × Contains (x ∷ cs) a × (end_of_piece a ≡ greatest (map end_of_piece (x ∷ cs)))
greatest_of x [] = (x, contains_first x [], omega arith)
greatest_of x (y ∷ cs) =
    let a = greatest_of y cs in
    elim (cases_lt (end_of_piece x) (greatest (map end_of_piece (y ∷ cs)))) [
      | inl below ↦ (a.0, contains_later x (y ∷ cs) a.0 a.1, omega (arith, a.2, below))
      | inr above ↦ (x, contains_first x (y ∷ cs), omega (arith, above))
    ]

-- THE piece around pieces
pub around_begins : (x : Piece) (cs : List Piece) → (a : Piece) × Contains (x ∷ cs) a × (a.start ≡ (around (x ∷ cs)).start)
around_begins x cs = elim (least_of x.start cs) [
  | inl e ↦ (x, contains_first x cs, sym e)
  | inr a ↦ (a.0, contains_later x cs a.0 a.1, a.2)
]

pub around_ends : (x : Piece) (cs : List Piece) → (a : Piece) × Contains (x ∷ cs) a × (end_of_piece a ≡ end_of_piece (around (x ∷ cs)))
around_ends x cs =
    let a = greatest_of x cs in
    let low = least_below x.start cs in
    let high : end_of_piece x ≤ greatest (map end_of_piece (x ∷ cs)) = omega arith in
    (a.0, a.1, omega (arith, a.2, low, high))
