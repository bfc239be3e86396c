-- Any name that a radix tree doesn't lead to can be inserted.
--
-- A recursion on the edges. Label and name are split behind the bytes that they have in common; where both go on, their next
-- bytes differ. Their first bytes are equal where the name goes through the edge, so what they have in common is not empty.
use Rattle.std.proofs.Common.{◌≡◌, ◌⊎◌, ℕ, ◌<◌, ◌≤◌, List, [], ◌∷◌, ◌++◌, length, Option, Some, None, refl, sym, ap, ◌∙◌, subst, arith, inl, inr}
use Rattle.std.proofs.lemmas.Bool.{cases_lt}
use Rattle.std.proofs.lemmas.List.{append-nil}
use Rattle.macho_trie.specs.Trees.{Edges, no_edge, edge, LeadsTo, edge_count, IsLabel, AreRadix}
use Rattle.macho_sizes_exist_laws.proofs.Inserting.{Inserted, head, in_front, later, under, ending, shorter, forked, back_label}

-- one of two texts ends, or they begin with different bytes
abbrev Leave : List ℕ → List ℕ → Type 0
Leave [] right = Unit {0}
Leave (a ∷ left) [] = Unit {0}
Leave (a ∷ left) (b ∷ right) = (a < b) ⊎ (b < a)

-- what two texts have in common, and what is left of each
record Split (label name : List ℕ) : Type 0 where
  front : List ℕ
  left : List ℕ
  right : List ℕ
  label_is : label ≡ front ++ left
  name_is : name ≡ front ++ right
  leave : Leave left right

split : (label name : List ℕ) → Split label name
split [] name = record { front = []; left = []; right = name; label_is = refl; name_is = refl; leave = tt }
split (a ∷ label) [] = record { front = []; left = a ∷ label; right = []; label_is = refl; name_is = refl; leave = tt }
split (a ∷ label) (b ∷ name) = by (split label name) (cases_lt a b) (cases_lt b a)
  where
    apart : (a < b) ⊎ (b < a) → Split (a ∷ label) (b ∷ name)
    apart leave = record { front = []; left = a ∷ label; right = b ∷ name; label_is = refl; name_is = refl; leave = leave }

    by : Split label name → (a < b) ⊎ (b ≤ a) → (b < a) ⊎ (a ≤ b) → Split (a ∷ label) (b ∷ name)
    by rest (inl less) other = apart (inl less)
    by rest (inr x) (inl more) = apart (inr more)
    by rest (inr x) (inr y) =
        let same : b ≡ a = omega (arith, x, y) in
        record {
          front = a ∷ rest.front;
          left = rest.left;
          right = rest.right;
          label_is = ap (λ (w : List ℕ). a ∷ w) rest.label_is;
          name_is = ap (λ (w : List ℕ). b ∷ w) rest.name_is ∙ ap (λ (x : ℕ). x ∷ (rest.front ++ rest.right)) same;
          leave = rest.leave;
        }

-- texts that begin with one byte have it in common
some_front : (front left right : List ℕ) → 1 ≤ length (front ++ left) → 1 ≤ length (front ++ right)
    → head (front ++ left) ≡ head (front ++ right) → Leave left right → 1 ≤ length front
some_front (x ∷ front) left right some more same leave = omega arith
some_front [] [] right some more same leave = absurd (omega (arith, some))
some_front [] (a ∷ left) [] some more same leave = absurd (omega (arith, more))
some_front [] (a ∷ left) (b ∷ right) some more same (inl less) = absurd (omega (arith, same, less))
some_front [] (a ∷ left) (b ∷ right) some more same (inr less) = absurd (omega (arith, same, less))

-- an edge's tree doesn't lead to a name
abbrev Misses : Edges → List ℕ → Type 0
Misses es name = (t : ℕ) → LeadsTo es name t → ⊥

abbrev Inserts : Edges → Type 0
Inserts es = (name : List ℕ) (s : ℕ) → IsLabel name → Misses es name → Inserted es name s

at_end : (label : List ℕ) (symbol : Option ℕ) (below rest : Edges) (s : ℕ) → AreRadix (edge label symbol below rest)
    → Misses (edge label symbol below rest) label → Inserted (edge label symbol below rest) label s
at_end label None below rest s r none = ending label below rest s r
at_end label (Some t) below rest s r none = absurd (none t (inl ([], sym (append-nil label), inl (refl, refl))))

-- what is left of a label gets the name's rest beside it
beside : (a b : ℕ) (left right : List ℕ) (symbol : Option ℕ) (below : Edges) (s : ℕ) → AreRadix (edge (a ∷ left) symbol below no_edge)
    → IsLabel (b ∷ right) → (a < b) ⊎ (b < a)
    → (i : Inserted (edge (a ∷ left) symbol below no_edge) (b ∷ right) s) × (2 ≤ edge_count i.out)
beside a b left right symbol below s r l (inl less) =
    let own = in_front (b ∷ right) s no_edge l tt tt in
    let j = later (a ∷ left) symbol below no_edge (b ∷ right) s r less own.0 in
    (j.0, omega (arith, own.1, j.1))
beside a b left right symbol below s r l (inr more) =
    let j = in_front (b ∷ right) s (edge (a ∷ left) symbol below no_edge) l more r in
    (j.0, omega (arith, j.1))

-- a name that begins as an edge does, split
through : (front left right : List ℕ) (symbol : Option ℕ) (below rest : Edges) (s : ℕ) → Leave left right → 1 ≤ length front
    → AreRadix (edge (front ++ left) symbol below rest) → IsLabel (front ++ right)
    → Misses (edge (front ++ left) symbol below rest) (front ++ right) → Inserts below
    → Inserted (edge (front ++ left) symbol below rest) (front ++ right) s
through front [] [] symbol below rest s leave some r l none inserts = at_end (front ++ []) symbol below rest s r none
through front [] (b ∷ right) symbol below rest s leave some r l none inserts =
    let I : List ℕ → Type 0 = λ w. Inserted (edge (front ++ []) symbol below rest) (w ++ b ∷ right) s in
    let N : List ℕ → Type 0 = λ w. Misses (edge (front ++ []) symbol below rest) (w ++ b ∷ right) in
    let whole : front ++ [] ≡ front = append-nil front in
    let misses = subst N (sym whole) none in
    subst I whole
    (under (front ++ []) symbol below rest (b ∷ right) s r
    (inserts (b ∷ right) s (back_label front (b ∷ right) l (omega arith)) (λ t on. misses t (inl (b ∷ right, refl, inr on)))))
through front (a ∷ left) [] symbol below rest s leave some r l none inserts =
    let I : List ℕ → Type 0 = λ w. Inserted (edge (front ++ a ∷ left) symbol below rest) w s in
    subst I (sym (append-nil front)) (shorter front (a ∷ left) symbol below rest s some (omega arith) r)
through front (a ∷ left) (b ∷ right) symbol below rest s leave some r l none inserts =
    let i = beside a b left right symbol below s (back_label front (a ∷ left) r.0 (omega arith), r.1, r.2, tt, tt)
    (back_label front (b ∷ right) l (omega arith)) leave in
    forked front (a ∷ left) (b ∷ right) symbol below rest s some r i.0 i.1

-- a name that begins as an edge does
along : (label : List ℕ) (symbol : Option ℕ) (below rest : Edges) (name : List ℕ) (s : ℕ) → head label ≡ head name
    → AreRadix (edge label symbol below rest) → IsLabel name → Misses (edge label symbol below rest) name → Inserts below
    → Inserted (edge label symbol below rest) name s
along label symbol below rest name s same r l none inserts = by (split label name)
  where
    by : Split label name → Inserted (edge label symbol below rest) name s
    by p =
        let R : List ℕ → Type 0 = λ w. AreRadix (edge w symbol below rest) in
        let M : List ℕ → Type 0 = λ w. Misses (edge w symbol below rest) name in
        let N : List ℕ → Type 0 = λ w. Misses (edge (p.front ++ p.left) symbol below rest) w in
        let I : List ℕ → Type 0 = λ w. Inserted (edge (p.front ++ p.left) symbol below rest) w s in
        let J : List ℕ → Type 0 = λ w. Inserted (edge w symbol below rest) name s in
        let some = some_front p.front p.left p.right (omega (arith, r.0.some, ap length p.label_is))
        (omega (arith, l.some, ap length p.name_is)) (ap head (sym p.label_is) ∙ same ∙ ap head p.name_is) p.leave in
        subst J (sym p.label_is) (subst I (sym p.name_is)
        (through p.front p.left p.right symbol below rest s p.leave some (subst R p.label_is r) (subst IsLabel p.name_is l)
        (subst N p.name_is (subst M p.label_is none)) inserts))

pub insert : (es : Edges) → AreRadix es → (name : List ℕ) (s : ℕ) → IsLabel name → ((t : ℕ) → LeadsTo es name t → ⊥) → Inserted es name s
insert no_edge r name s l none = (in_front name s no_edge l tt tt).0
insert (edge label symbol below rest) r name s l none =
    by (insert below r.2) (insert rest r.4 name s l (λ t h. none t (inr h))) (cases_lt (head label) (head name))
    (cases_lt (head name) (head label))
  where
    by : Inserts below → Inserted rest name s → (head label < head name) ⊎ (head name ≤ head label)
        → (head name < head label) ⊎ (head label ≤ head name) → Inserted (edge label symbol below rest) name s
    by inserts i (inl low) other = (later label symbol below rest name s r low i).0
    by inserts i (inr x) (inl high) = (in_front name s (edge label symbol below rest) l high r).0
    by inserts i (inr x) (inr y) = along label symbol below rest name s (omega (arith, x, y)) r l none inserts
