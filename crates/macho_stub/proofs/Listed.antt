-- The set of the libraries that items list: a name is in it where it is one of those that were put in.
-- The code puts in name by name, item by item. Its invariant says for any name: it is in the set, or among those that
-- are left, exactly where it is listed at all. Putting in the next name moves it from those that are left to the set,
-- and an item whose names are all put in is left behind; what remains is that `or` may be put in another order.
use Rattle.std.proofs.Common.{◌≡◌, ℕ, zero, suc, ◌+◌, ◌<◌, ◌||◌, Bool, true, false, cond, get_or, drop, Bor, List, [], ◌∷◌, length, refl, sym, ap, ◌∙◌, arith}
use Rattle.std.specs.List.{list_any}
use Rattle.std.specs.Str.{bytes_eq}
use Rattle.std.specs.Ordering.{nat_cmp}
use Rattle.std.specs.Cmp.Lexicographic.{slice_cmp}
use Rattle.std.specs.BTreeSet.{BTreeSet, UpdatesBy}
use Rattle.std.proofs.lemmas.Map.Text.{is_eq-slice_cmp}
use Rattle.macho_stub.specs.declared.document.Item.{Item}
use Rattle.macho_stub.specs.steps.Opened.{item_of, items_of}
use Rattle.macho_stub.specs.steps.Checks.{holds, is_listed}
use Rattle.macho_stub_lines.specs.Lists.{texts}

-- after a name is put in, it is there, and what was there is
put_in : (old new : BTreeSet (Bor (List ℕ))) (x : Bor (List ℕ)) (name : List ℕ)
    → UpdatesBy (λ (x y : Bor (List ℕ)). slice_cmp nat_cmp x.now y.now) (λ k. slice_cmp nat_cmp x.now k.now) old new true
    → holds new name ≡ (bytes_eq x.now name || holds old name)
put_in old new x name u =
    let q : Bor (List ℕ) = record { ref_ptr = (0, 0); now = name } in
    u.0 q ∙ ap (λ b. cond b true (holds old name)) (is_eq-slice_cmp x.now name) ∙ as_or (bytes_eq x.now name) (holds old name)
  where
    as_or : (a b : Bool) → cond a true b ≡ (a || b)
    as_or true b = refl
    as_or false b = refl

step : (a b c total : Bool) → (b || (a || c)) ≡ total → ((a || b) || c) ≡ total
step true true c total h = h
step true false c total h = h
step false true c total h = h
step false false c total h = h

one_more : (i : ℕ) → suc (i + 1) ≡ suc i + 1
one_more i = omega arith

any_more : (p : List ℕ → Bool) (names : List (Bor (List ℕ))) (i : ℕ) (d : Bor (List ℕ)) → i < length names
    → list_any p (drop i (texts names)) ≡ (p (get_or names i d).now || list_any p (drop (i + 1) (texts names)))
any_more p [] i d lt = absurd (omega arith)
any_more p (x ∷ names) zero d lt = refl
any_more p (x ∷ names) (suc i) d lt =
    any_more p names i d (omega arith) ∙ ap (λ k. p (get_or names i d).now || list_any p (drop k (texts (x ∷ names)))) (one_more i)

-- Putting in the next name changes nothing of whether a name is in the set or still to come.
pub name_put_in : (old new : BTreeSet (Bor (List ℕ))) (names : List (Bor (List ℕ))) (i : ℕ) (d : Bor (List ℕ)) (name : List ℕ)
    (total : Bool) → i < length names
    → UpdatesBy (λ (x y : Bor (List ℕ)). slice_cmp nat_cmp x.now y.now) (λ k. slice_cmp nat_cmp (get_or names i d).now k.now) old new true
    → (holds old name || list_any (λ other. bytes_eq other name) (drop i (texts names))) ≡ total
    → (holds new name || list_any (λ other. bytes_eq other name) (drop (i + 1) (texts names))) ≡ total
name_put_in old new names i d name total lt u so_far =
    let p : List ℕ → Bool = λ other. bytes_eq other name in
    let rest = list_any p (drop (i + 1) (texts names)) in
    let x = get_or names i d in
    ap (λ b. b || rest) (put_in old new x name u)
    ∙ step (bytes_eq x.now name) (holds old name) rest total
    (ap (λ b. holds old name || b) (sym (any_more p names i d lt)) ∙ so_far)

join : (a b c : Bool) → ((a || b) || c) ≡ (a || (b || c))
join true b c = refl
join false b c = refl

listed_more : (name : List ℕ) (items : List Item) (i : ℕ) (d : Item) → i < length items
    → is_listed name (drop i (items_of items))
    ≡ (list_any (λ other. bytes_eq other name) (item_of (get_or items i d)).names || is_listed name (drop (i + 1) (items_of items)))
unfolding is_listed
listed_more name [] i d lt = absurd (omega arith)
listed_more name (x ∷ items) zero d lt = refl
listed_more name (x ∷ items) (suc i) d lt =
    listed_more name items i d (omega arith)
    ∙ ap (λ k. list_any (λ other. bytes_eq other name) (item_of (get_or items i d)).names || is_listed name (drop k (items_of (x ∷ items))))
    (one_more i)

-- after the libraries of an item are put in
pub item_put_in : (name : List ℕ) (items : List Item) (i : ℕ) (x : Item) (names : List (Bor (List ℕ))) (had has total : Bool)
    → i < length items → x ≡ get_or items i x → names ≡ x.names.items
    → has ≡ (had || list_any (λ other. bytes_eq other name) (texts names))
    → (had || is_listed name (drop i (items_of items))) ≡ total → (has || is_listed name (drop (i + 1) (items_of items))) ≡ total
item_put_in name items i x names had has total lt at same is so_far =
    let rest = is_listed name (drop (i + 1) (items_of items)) in
    let any : List (List ℕ) → Bool = list_any (λ other. bytes_eq other name) in
    ap (λ b. b || rest) is
    ∙ ap (λ (all : List (Bor (List ℕ))). (had || any (texts all)) || rest) same
    ∙ ap (λ (y : Item). (had || any (item_of y).names) || rest) at
    ∙ join had (any (item_of (get_or items i x)).names) rest
    ∙ ap (λ b. had || b) (sym (listed_more name items i x lt))
    ∙ so_far
