-- Numbers of patterns under parts. A group that gets a number keeps those that it had, and other groups are as they
-- were. A part that gets a group had no number before, and each other one finds the group that it found.
use Rattle.std.proofs.Common.{◌≡◌, ℕ, ◌<◌, ◌≤◌, ◌==◌, true, false, Bool, Option, Some, None, List, [], ◌∷◌, ◌++◌, length, get_or, refl, ap, sym, subst, ◌∙◌, arith, inl, inr, set}
use Rattle.std.proofs.lemmas.Bool.{cases_lt, or_left, or_right, eqb-true, eqb-false, eq-eqb}
use Rattle.std.proofs.lemmas.List.{get_or_append_left, get_or-set_other, get_or-set_same, map-set, get_or-map, length-map, get_or_past, map-append}
use Rattle.std.proofs.lemmas.List.Folds.{list_any_at, list_any-append, Any-from_list_any}
use Rattle.std.specs.List.{list_any}
use Rattle.std.specs.Str.{bytes_eq}
use Rattle.std.specs.HashMap.{HashMap, get_by, UpdatesBy}
use Rattle.std.specs.declared.vec.Vec.{Vec}
use Rattle.macho_export_lists.specs.Entries.{texts_of}
use Rattle.macho_export_lists.specs.steps.Tables.{has, numbers_at, numbers_of, KeepsNumbers, KeepsGroups, KeepsParts}
use Rattle.macho_export_lists.proofs.Places.{same_items, other_found}
use Rattle.macho_bytes.proofs.Comparing.{same_bytes}

-- what holds of a number that is among numbers holds of one of them
pub any_of : (p : ℕ → Bool) (numbers : List ℕ) (n : ℕ) → has numbers n ≡ true → p n ≡ true → list_any p numbers ≡ true
any_of p numbers n there holds =
    let a = Any-from_list_any (λ m. m == n) numbers there in
    list_any_at p numbers a.0 a.1 a.2 (ap p (a.3 ∙ eqb-true a.1 n a.4) ∙ holds)

-- a number behind others
last_there : (numbers : List ℕ) (n : ℕ) → has (numbers ++ n ∷ []) n ≡ true
last_there numbers n =
    list_any-append (λ m. m == n) numbers (n ∷ []) ∙ or_right (has numbers n) (has (n ∷ []) n) (or_left (n == n) false (eq-eqb n n refl))

keeps_front : (numbers more : List ℕ) → KeepsNumbers numbers (numbers ++ more)
keeps_front numbers more = record { all = λ n is. list_any-append (λ m. m == n) numbers more ∙ or_left (has numbers n) (has more n) is }

-- a number is put into a group
pub put_there : {A : Type 0} (groups : List (Vec ℕ A)) (group n : ℕ) (old v : Vec ℕ A) → group < length groups
    → v.items ≡ old.items ++ n ∷ [] → has (get_or (texts_of (set groups group v)) group []) n ≡ true
put_there groups group n old v within is =
    ap (λ vs. has (get_or vs group []) n) (map-set (λ w. w.items) groups group v)
    ∙ ap (λ numbers. has numbers n)
    (get_or-set_same (texts_of groups) group v.items [] (omega (arith, within, length-map groups (λ w. w.items))) ∙ is)
    ∙ last_there old.items n

pub put_keeps : {A : Type 0} (groups : List (Vec ℕ A)) (group : ℕ) (old v : Vec ℕ A) (more : List ℕ) → group < length groups
    → old ≡ get_or groups group old → v.items ≡ old.items ++ more → KeepsGroups groups (set groups group v)
put_keeps groups group old v more within here is = record { each = λ g. of (g == group) g refl }
  where
    long : group < length (texts_of groups)
    long = omega (arith, within, length-map groups (λ w. w.items))

    before : get_or (texts_of groups) group [] ≡ old.items
    before = get_or-map (λ w. w.items) groups group old [] within ∙ ap (λ w. w.items) (sym here)

    after : get_or (texts_of (set groups group v)) group [] ≡ old.items ++ more
    after = ap (λ vs. get_or vs group []) (map-set (λ w. w.items) groups group v) ∙ get_or-set_same (texts_of groups) group v.items [] long
        ∙ is

    of : (t : Bool) (g : ℕ) → (g == group) ≡ t
        → KeepsNumbers (get_or (texts_of groups) g []) (get_or (texts_of (set groups group v)) g [])
    of true g same_bytes =
        subst (λ k. KeepsNumbers (get_or (texts_of groups) k []) (get_or (texts_of (set groups group v)) k []))
        (sym (eqb-true g group same_bytes)) (rw (before, after) (keeps_front old.items more))
    of false g other =
        subst (λ (ns : List ℕ). KeepsNumbers (get_or (texts_of groups) g []) ns)
        (sym (ap (λ vs. get_or vs g []) (map-set (λ w. w.items) groups group v)
        ∙ get_or-set_other (texts_of groups) group g v.items [] (eqb-false g group other)))
        (record { all = λ n is. is })

-- a group behind others
more_groups : (groups more : List (List ℕ)) (o : Option ℕ) → KeepsNumbers (numbers_at groups o) (numbers_at (groups ++ more) o)
more_groups groups more None = record { all = λ n is. is }
more_groups groups more (Some g) = elim (cases_lt g (length groups)) [
  | inl within ↦ rw (get_or_append_left groups more [] g within) (record { all = λ n is. is })
  | inr past ↦ rw (get_or_past groups g [] past) (record { all = λ n is. absurd cc })
]

pub new_group : {A B S : Type 0} (m n : HashMap (Vec ℕ A) ℕ S) (groups : List (Vec ℕ B)) (key : Vec ℕ A) (v : Vec ℕ B) (w : Option ℕ)
    → numbers_of m groups key.items ≡ [] → UpdatesBy same_items (same_items key) m n w → KeepsParts m groups n (groups ++ v ∷ [])
new_group m n groups key v w none updates = record { each = λ q. of (bytes_eq key.items q) q refl }
  where
    of : (t : Bool) (q : List ℕ) → bytes_eq key.items q ≡ t → KeepsNumbers (numbers_of m groups q) (numbers_of n (groups ++ v ∷ []) q)
    of true q here =
        let empty : numbers_of m groups q ≡ [] = ap (numbers_of m groups) (sym (same_bytes key.items q here)) ∙ none in
        record { all = λ k is. let bad : has [] k ≡ true = sym (ap (λ (ns : List ℕ). has ns k) empty) ∙ is in absurd cc }
    of false q other =
        subst (λ (ns : List ℕ). KeepsNumbers (numbers_of m groups q) ns)
        (sym (ap (λ vs. numbers_at vs (get_by (λ k. bytes_eq q k.items) n)) (map-append (λ x. x.items) groups (v ∷ []))
        ∙ ap (numbers_at (texts_of groups ++ v.items ∷ [])) (other_found m n key w q updates other)))
        (more_groups (texts_of groups) (v.items ∷ []) (get_by (λ k. bytes_eq q k.items) m))

-- a part that has no group, or one that isn't there
pub no_group : {A B S : Type 0} (m : HashMap (Vec ℕ A) ℕ S) (groups : List (Vec ℕ B)) (q : List ℕ)
    → get_by (λ k. bytes_eq q k.items) m ≡ None → numbers_of m groups q ≡ []
no_group m groups q none = ap (numbers_at (texts_of groups)) none

pub group_past : {A B S : Type 0} (m : HashMap (Vec ℕ A) ℕ S) (groups : List (Vec ℕ B)) (q : List ℕ) (g : ℕ)
    → get_by (λ k. bytes_eq q k.items) m ≡ Some g → length groups ≤ g → numbers_of m groups q ≡ []
group_past m groups q g some past =
    ap (numbers_at (texts_of groups)) some ∙ get_or_past (texts_of groups) g [] (omega (arith, past, length-map groups (λ w. w.items)))
