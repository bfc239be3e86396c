-- Numbers of slots, stubs and entries, and the addresses that stand at them.
--
-- A number is the place of the first element that passes a test; where none passes it is the length of the list, and a list of
-- addresses that is as long has nothing there. Behind elements of which none passes, places are counted on. So an import whose
-- addend is 0 has its own number, and any other entry is found behind all imports.
use Rattle.std.proofs.Common.{◌≡◌, ℕ, suc, ◌+◌, ◌<◌, ◌≤◌, ◌==◌, ◌&&◌, not, cond, Bool, true, false, List, [], ◌∷◌, ◌++◌, map, length, get_or, refl, sym, ap, ◌∙◌, arith, if◌then◌else◌, Some, None}
use Rattle.std.specs.Prelude.{nat_lt, position}
use Rattle.std.specs.List.{position_or_len, range_with_len}
use Rattle.std.proofs.lemmas.Bool.{eqb-true, eq-eqb, ne_eqb}
use Rattle.std.proofs.lemmas.Bool.Decides.{nat_tests}
use Rattle.std.proofs.lemmas.List.{get_or_past, length-map, get_or-map, length-append, get_or_append_left}
use Rattle.std.proofs.lemmas.List.Sums.{position_or_len_is}
use Rattle.std.proofs.lemmas.List.FromFn.{get_or-range_with_len, length-range_with_len}
use Rattle.macho_model.specs.Fixups.{EntryOfImport, same_entry}
use Rattle.macho_places.specs.Looked.{numbered, number_behind, entry_number}

place_bound : {X : Type 0} (test : X → Bool) (xs : List X) → position_or_len test xs ≤ length xs
place_bound test [] = omega arith
place_bound test (x ∷ xs) = by (place_bound test xs) (test x)
  where
    by : position_or_len test xs ≤ length xs → (b : Bool) → cond (not b) (1 + position_or_len test xs) 0 ≤ suc (length xs)
    by rest true = omega arith
    by rest false = omega (arith, rest)

-- an address by its number
pub numbered_is : {X : Type 0} (addresses : List ℕ) (test : X → Bool) (xs : List X) → length addresses ≡ length xs
    → numbered addresses (position test xs) ≡ get_or addresses (position_or_len test xs) 0
numbered_is addresses test xs long = by (nat_lt (position_or_len test xs) (length xs)) refl
  where
    by : (b : Bool) → nat_lt (position_or_len test xs) (length xs) ≡ b
        → numbered addresses (cond b (Some (position_or_len test xs)) None) ≡ get_or addresses (position_or_len test xs) 0
    by true e = refl
    by false e =
        let past : length addresses ≤ position_or_len test xs = grind (arith, nat_tests) in
        sym (get_or_past addresses (position_or_len test xs) 0 past)

-- behind elements of which none passes
behind : {X : Type 0} (test : X → Bool) (xs ys : List X) → ((k : ℕ) (d : X) → k < length xs → test (get_or xs k d) ≡ false)
    → position_or_len test (xs ++ ys) ≡ length xs + position_or_len test ys
behind test [] ys none = omega arith
behind test (x ∷ xs) ys none =
    let first : test x ≡ false = none 0 x (omega arith) in
    let rest = behind test xs ys (λ k d low. none (suc k) d (omega (arith, low))) in
    ap (λ (b : Bool). cond (not b) (1 + position_or_len test (xs ++ ys)) 0) first ∙ omega (arith, rest)

pub behind_is : (n : ℕ) (own : List EntryOfImport) (test : EntryOfImport → Bool)
    → number_behind n own (position test own) ≡ n + position_or_len test own
behind_is n own test = by (nat_lt (position_or_len test own) (length own)) refl
  where
    by : (b : Bool) → nat_lt (position_or_len test own) (length own) ≡ b
        → number_behind n own (cond b (Some (position_or_len test own)) None) ≡ n + position_or_len test own
    by true e = refl
    by false e =
        let past : length own ≤ position_or_len test own = grind (arith, nat_tests) in
        let bound = place_bound test own in
        omega (arith, past, bound)

-- the entries of imports, without an addend
abbrev pub plain : ℕ → EntryOfImport
plain id = record { import = id; addend = 0 }

plain_at : (n k : ℕ) (d : EntryOfImport) → k < n → get_or (map plain (range_with_len 0 n)) k d ≡ plain k
plain_at n k d low =
    let from_zero : 0 + k ≡ k = omega arith in
    get_or-map plain (range_with_len 0 n) k 0 d (omega (arith, low, length-range_with_len 0 n))
    ∙ ap plain (get_or-range_with_len 0 n k 0 low ∙ from_zero)

plain_long : (n : ℕ) → length (map plain (range_with_len 0 n)) ≡ n
plain_long n = length-map (range_with_len 0 n) plain ∙ length-range_with_len 0 n

-- THE number of an entry
pub entry_is : (n : ℕ) (own : List EntryOfImport) (id addend : ℕ)
    → entry_number n own id addend ≡ position_or_len (same_entry (record { import = id; addend = addend })) (map plain
    (range_with_len 0 n) ++ own)
entry_is n own id addend = by (addend == 0) refl (nat_lt id n) refl
  where
    e : EntryOfImport
    e = record { import = id; addend = addend }

    imports : List EntryOfImport
    imports = map plain (range_with_len 0 n)

    last : ((k : ℕ) → k < n → same_entry e (plain k) ≡ false)
        → number_behind n own (position (same_entry e) own) ≡ position_or_len (same_entry e) (imports ++ own)
    last none =
        let away = behind (same_entry e) imports own (λ k d low.
        let within : k < n = omega (arith, low, plain_long n) in
        ap (same_entry e) (plain_at n k d within) ∙ none k within) in
        behind_is n own (same_entry e) ∙ ap (λ (m : ℕ). m + position_or_len (same_entry e) own) (sym (plain_long n)) ∙ sym away

    first : addend ≡ 0 → id < n → id ≡ position_or_len (same_entry e) (imports ++ own)
    first plain_one low =
        sym (position_or_len_is (same_entry e) (imports ++ own) id e (omega (arith, low, plain_long n, length-append imports own))
        (λ k less.
        ap (same_entry e) (get_or_append_left imports own e k (omega (arith, low, less, plain_long n))
        ∙ plain_at n k e (omega (arith, low, less)))
        ∙ ap (λ (b : Bool). b && (addend == 0)) (ne_eqb id k (λ same. omega (arith, same, less))))
        (λ among.
        ap (same_entry e) (get_or_append_left imports own e id (omega (arith, low, plain_long n)) ∙ plain_at n id e low)
        ∙ ap (λ (b : Bool). b && (addend == 0)) (eq-eqb id id refl) ∙ eq-eqb addend 0 plain_one))

    by : (a : Bool) → (addend == 0) ≡ a → (b : Bool) → nat_lt id n ≡ b
        → (if a then (if b then id else number_behind n own (position (same_entry e) own)) else number_behind n own (position
        (same_entry e) own))
        ≡ position_or_len (same_entry e) (imports ++ own)
    by true none true low = first (eqb-true addend 0 none) (grind (arith, nat_tests))
    by true none false high =
        let above : n ≤ id = grind (arith, nat_tests) in
        last (λ k low. ap (λ (b : Bool). b && (addend == 0)) (ne_eqb id k (λ same. omega (arith, same, low, above))))
    by false some b low = last (λ k less. and_false (id == k) (addend == 0) some)
      where
        and_false : (x y : Bool) → y ≡ false → (x && y) ≡ false
        and_false true y e = e
        and_false false y e = refl
