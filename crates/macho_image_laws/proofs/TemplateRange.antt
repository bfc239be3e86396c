-- Output sections one behind the other that fill a range.
--
-- The piece around pieces begins at the least of them and ends at the greatest end. Of sections in order the first begins no later
-- than any other, and the last ends no earlier; so where all lie in a range, one begins at its start and one ends at its end, the
-- first begins it and the last ends it.
use Rattle.std.proofs.Common.{◌≡◌, ℕ, zero, suc, ◌+◌, ◌-◌, ◌≤◌, min, List, [], ◌∷◌, ◌++◌, map, length, get_or, fold, refl, ap, subst, ◌∙◌, arith, inl, inr, All}
use Rattle.std.specs.Prelude.{Contains, AllPairs}
use Rattle.std.proofs.lemmas.List.{map-append, length-append, get_or-append-add}
use Rattle.std.proofs.lemmas.List.Elements.{Contains-append_cases, Contains-append_right, All-map, All-contains}
use Rattle.macho_records.specs.declared.header.SectionHeader.{SectionHeader}
use Rattle.macho_model.specs.declared.placed.Range64.{Range64}
use Rattle.macho_model.specs.Lists.{IsNumber}
use Rattle.macho_model.specs.Links.{Link, greatest}
use Rattle.macho_model.specs.Placement.{Placed, Piece, end_of_piece}
use Rattle.macho_model.specs.OutputSections.{around}
use Rattle.macho_model.specs.steps.Outputs.{OutputSection, extent_of, output_header}
use Rattle.macho_model.proofs.Least.{EndsBefore}
use Rattle.macho_model.specs.Made.{FillTemplate}
use Rattle.macho_bytes.proofs.Members.{contains_first, contains_later, contains_cases, nil_contains, contains_map, map_contains}
use Rattle.macho_bytes.proofs.Pairs.{pairs_cross}

-- the least and the greatest of numbers
least_below : (n : ℕ) (ns : List ℕ) (x : ℕ) → Contains (n ∷ ns) x → fold min n ns ≤ x
least_below n [] x there = elim (contains_cases n [] x there) [
  | inl here ↦ omega (arith, here)
  | inr none ↦ absurd (nil_contains x none)
]
least_below n (m ∷ ns) x there = elim (contains_cases n (m ∷ ns) x there) [
  | inl here ↦ omega (arith, here, least_below (min n m) ns (min n m) (contains_first (min n m) ns))
  | inr rest ↦ elim (contains_cases m ns x rest) [
    | inl here ↦ omega (arith, here, least_below (min n m) ns (min n m) (contains_first (min n m) ns))
    | inr more ↦ least_below (min n m) ns x (contains_later (min n m) ns x more)
  ]
]

least_above : (b n : ℕ) (ns : List ℕ) → b ≤ n → ((x : ℕ) → Contains ns x → b ≤ x) → b ≤ fold min n ns
least_above b n [] first each = first
least_above b n (m ∷ ns) first each =
    least_above b (min n m) ns (omega (arith, first, each m (contains_first m ns))) (λ x there. each x (contains_later m ns x there))

pub greatest_above : (ns : List ℕ) (x : ℕ) → Contains ns x → x ≤ greatest ns
greatest_above [] x there = absurd (nil_contains x there)
greatest_above (n ∷ ns) x there = elim (contains_cases n ns x there) [
  | inl here ↦ omega (arith, here)
  | inr rest ↦ omega (arith, greatest_above ns x rest)
]

greatest_below : (b : ℕ) (ns : List ℕ) → ((x : ℕ) → Contains ns x → x ≤ b) → greatest ns ≤ b
greatest_below b [] each = omega arith
greatest_below b (n ∷ ns) each =
    omega (arith, each n (contains_first n ns), greatest_below b ns (λ x there. each x (contains_later n ns x there)))

-- the piece around pieces, of which one is given and all lie between two numbers
pub record IsAround (cs : List Piece) (c : Piece) (low : ℕ) (high : ℕ) : Type 0 where
  pub from : low ≤ (around cs).start
  pub start : (around cs).start ≤ c.start
  pub end : end_of_piece c ≤ end_of_piece (around cs)
  pub to : end_of_piece (around cs) ≤ high

pub is_around : (cs : List Piece) (c : Piece) (low high : ℕ) → Contains cs c
    → ((d : Piece) → Contains cs d → (low ≤ d.start) × (end_of_piece d ≤ high)) → IsAround cs c low high
is_around [] c low high one each = absurd (nil_contains c one)
is_around (x ∷ cs) c low high one each =
    let starts : List ℕ = map (λ d. d.start) cs in
    let ends : List ℕ = map end_of_piece (x ∷ cs) in
    let least : fold min x.start starts ≤ c.start = least_below x.start starts c.start
    (contains_map (λ (d : Piece). d.start) (x ∷ cs) c one) in
    let most : end_of_piece c ≤ greatest ends = greatest_above ends (end_of_piece c) (contains_map end_of_piece (x ∷ cs) c one) in
    let from : low ≤ fold min x.start starts
    = least_above low x.start starts (each x (contains_first x cs)).0 (λ n there.
    let m = map_contains (λ (d : Piece). d.start) cs n there in omega (arith, m.2, (each m.0 (contains_later x cs m.0 m.1)).0)) in
    let to : greatest ends ≤ high = greatest_below high ends (λ n there.
    let m = map_contains end_of_piece (x ∷ cs) n there in omega (arith, m.2, (each m.0 m.1).1)) in
    record { from = from; start = least; end = omega (arith, least, most); to = omega (arith, least, most, to) }

-- sections in order
abbrev pub IsBehind : Link → Placed → OutputSection → OutputSection → Type 0
IsBehind l p o q = EndsBefore (extent_of l p o) (extent_of l p q)

abbrev pub IsWithin : Link → Placed → Range64 → OutputSection → Type 0
IsWithin l p r o = (r.start ≤ (extent_of l p o).start) × (end_of_piece (extent_of l p o) ≤ r.end)

first_begins : (l : Link) (p : Placed) (o : OutputSection) (os : List OutputSection) (a : OutputSection)
    → AllPairs (IsBehind l p) (o ∷ os) → Contains (o ∷ os) a → (extent_of l p o).start ≤ (extent_of l p a).start
first_begins l p o os a h (zero, lt, is) = omega (arith, ap (λ (x : OutputSection). (extent_of l p x).start) is)
first_begins l p o os a h (suc k, lt, is) =
    let before : IsBehind l p o a = subst (λ (x : OutputSection). IsBehind l p o x) is (h 0 (suc k) a (omega arith) lt) in
    omega (arith, before)

-- a list ends with an element
ends_with : {X : Type 0} (x : X) (xs : List X) → (before : List X) × (last : X) × (x ∷ xs ≡ before ++ last ∷ [])
ends_with x [] = ([], x, refl)
ends_with {X} x (y ∷ xs) = let r = ends_with y xs in (x ∷ r.0, r.1, ap (λ (ys : List X). x ∷ ys) r.2)

last_ends : (l : Link) (p : Placed) (os : List OutputSection) (last : OutputSection) (a : OutputSection)
    → AllPairs (IsBehind l p) (os ++ last ∷ []) → Contains (os ++ last ∷ []) a
    → end_of_piece (extent_of l p a) ≤ end_of_piece (extent_of l p last)
last_ends l p os last a h there = elim (Contains-append_cases os (last ∷ []) a there) [
  | inl before ↦ let behind : IsBehind l p a last = pairs_cross (IsBehind l p) os (last ∷ []) a last h before (contains_first last []) in
      omega (arith, behind)
  | inr end ↦ elim (contains_cases last [] a end) [
    | inl same ↦ omega (arith, ap (λ (x : OutputSection). end_of_piece (extent_of l p x)) same)
    | inr none ↦ absurd (nil_contains a none)
  ]
]

-- its number is the length less 1
last_numbered : {X : Type 0} (xs before : List X) (last : X) → xs ≡ before ++ last ∷ [] → IsNumber xs (length xs - 1) last
last_numbered {X} xs before last is =
    let long : length xs ≡ length before + 1 = ap length is ∙ length-append before (last ∷ []) in
    let number : length xs - 1 ≡ length before + 0 = omega (arith, long) in (
      omega (arith, long),
      ap (λ (n : ℕ). get_or xs n last) number ∙ ap (λ (ys : List X). get_or ys (length before + 0) last) is
          ∙ get_or-append-add before (last ∷ []) 0 last,
    )

-- THE range is filled
pub fills : (l : Link) (p : Placed) (r : Range64) (os : List OutputSection) (a z : OutputSection) → AllPairs (IsBehind l p) os
    → All (IsWithin l p r) os → Contains os a → (extent_of l p a).start ≡ r.start → Contains os z
    → end_of_piece (extent_of l p z) ≡ r.end → FillTemplate (map (output_header l p) os) r
fills l p r [] a z pairs within in_a begins in_z ends = absurd (nil_contains a in_a)
fills l p r (o ∷ os) a z pairs within in_a begins in_z ends =
    let e = ends_with o os in
    let first = first_begins l p o os a pairs in_a in
    let low = All-contains (IsWithin l p r) (o ∷ os) o within (contains_first o os) in
    let pairs_last = subst (λ (xs : List OutputSection). AllPairs (IsBehind l p) xs) e.2 pairs in
    let in_last = subst (λ (xs : List OutputSection). Contains xs z) e.2 in_z in
    let last = last_ends l p e.0 e.1 z pairs_last in_last in
    let within_last = subst (λ (xs : List OutputSection). All (IsWithin l p r) xs) e.2 within in
    let high = All-contains (IsWithin l p r) (e.0 ++ e.1 ∷ []) e.1 within_last
    (Contains-append_right e.0 (e.1 ∷ []) e.1 (contains_first e.1 [])) in
    record {
      within = All-map (λ (h : SectionHeader). (r.start ≤ h.addr) × (h.addr + h.size ≤ r.end)) (output_header l p) (o ∷ os) within;
      begins = (output_header l p o, (omega arith, refl), omega (arith, first, begins, low.0));
      ends = (
        output_header l p e.1,
        last_numbered (map (output_header l p) (o ∷ os)) (map (output_header l p) e.0) (output_header l p e.1)
            (ap (map (output_header l p)) e.2 ∙ map-append (output_header l p) e.0 (e.1 ∷ [])),
        omega (arith, last, ends, high.1),
      );
    }
