-- What export lists contain, and how sections are classed, by computing.
use Rattle.std.proofs.Common.{◌≡◌, ℕ, true, false, List, [], ◌∷◌, ◌++◌, refl, map}
use Rattle.std.specs.Prelude.{codes}
use Rattle.macho_model.specs.ExportLists.{entries_of, all_entries, plain_entries, listed, matches}

-- a list of a pattern, a comment and a name between blanks
abbrev pub a_list : List ℕ
a_list = codes "_a*" ++ 10 ∷ codes "# c" ++ 10 ∷ codes " _b " ++ 10 ∷ []

pub its_entries : entries_of a_list ≡ codes "_a*" ∷ codes "_b" ∷ []
unfolding entries_of
its_entries = refl

-- it contains `_a`, `_ax` and `_b`, not `b` nor `_bx`
pub what_it_contains : map (listed (a_list ∷ [])) (codes "_a" ∷ codes "_ax" ∷ codes "_b" ∷ codes "b" ∷ codes "_bx" ∷ [])
    ≡ true ∷ true ∷ true ∷ false ∷ false ∷ []
unfolding all_entries entries_of
what_it_contains = refl

-- its plain names
pub its_plain_names : plain_entries (a_list ∷ []) ≡ codes "_b" ∷ []
unfolding plain_entries all_entries entries_of
its_plain_names = refl

-- a star inside and at both ends; no other byte stands for more than itself
pub patterns : (matches (codes "_*x") (codes "_x") ≡ true) × (matches (codes "*b*") (codes "abc") ≡ true)
    × (matches (codes "_?") (codes "_a") ≡ false)
    × (matches (codes "*") [] ≡ true) × (matches (codes "_*x") (codes "_xy") ≡ false)
patterns = (refl, refl, refl, refl, refl)
