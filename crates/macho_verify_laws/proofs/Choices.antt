-- Any addresses may be chosen for the imports of an image and of a link.
--
-- Both have finitely many imports, so the keys, each a library's name and a name, make a list. Put the value of the function at each of
-- them into a map that is empty at first. Keys tie only if they are equal, so the map has that value at each key of the list, and at no
-- key another one.
use Rattle.std.proofs.Common.{◌≡◌, ℕ, Bool, true, false, cond, List, [], ◌∷◌, ◌++◌, length, get_or, map, refl, sym, ap, subst, ◌∙◌, inl, inr, Some, None}
use Rattle.std.specs.Prelude.{Contains}
use Rattle.std.specs.List.{flat_map, range_with_len}
use Rattle.std.specs.FinMap.{empty, insert, get, get-insert, get-empty, slice_cmp-IsAntisymmetric, nat_cmp-IsAntisymmetric}
use Rattle.std.specs.Cmp.{IsTotalOrder, tied_itself}
use Rattle.std.specs.Cmp.Lexicographic.{on_texts, slice_cmp}
use Rattle.std.specs.Ordering.{ordering_then, nat_cmp, eq_by_cmp, is_eq}
use Rattle.std.specs.declared.cmp.Ordering.{Ordering}
use Rattle.std.specs.declared.cmp.Ordering.TheVariants.{Less, Equal, Greater}
use Rattle.std.proofs.lemmas.Bool.{true≢false}
use Rattle.std.proofs.lemmas.Cmp.{then_total}
use Rattle.std.proofs.lemmas.List.Elements.{Contains-append_left, Contains-append_right}
use Rattle.macho_bytes.proofs.Members.{contains_cases, nil_contains, contains_map, contains_flat_map, contains_range}
use Rattle.macho_model.specs.Links.{Link}
use Rattle.macho_model.specs.Needs.{imports_of, import_library}
use Rattle.macho_model.specs.Images.{Table, tables_of, fixups_header, import_entry, import_name, import_library_name}
use Rattle.macho_model.specs.Memory.{Choice, pair_cmp}
use Rattle.macho_verify_laws.proofs.OneMemory.{some_one}
use Rattle.macho_verify_laws.specs.Laws.{ChoicesExist}

-- the order of keys is total
keys_are_ordered : IsTotalOrder pair_cmp
keys_are_ordered = then_total (on_texts (λ (p : List ℕ × List ℕ). p.0)) (on_texts (λ (p : List ℕ × List ℕ). p.1))

-- only equal keys tie
then_equal : (r t : Ordering) → ordering_then r t ≡ Equal → (r ≡ Equal) × (t ≡ Equal)
then_equal Less t e = absurd (less_equal e)
  where
    less_equal : Less ≡ Equal → ⊥
    less_equal d = cc
then_equal Equal t e = (refl, e)
then_equal Greater t e = absurd (greater_equal e)
  where
    greater_equal : Greater ≡ Equal → ⊥
    greater_equal d = cc

same_key : (x y : List ℕ × List ℕ) → pair_cmp x y ≡ Equal → x ≡ y
same_key x y e =
    let both = then_equal (slice_cmp nat_cmp x.0 y.0) (slice_cmp nat_cmp x.1 y.1) e in
    let first = slice_cmp-IsAntisymmetric nat_cmp-IsAntisymmetric x.0 y.0 both.0 in
    let second = slice_cmp-IsAntisymmetric nat_cmp-IsAntisymmetric x.1 y.1 both.1 in
    ap (λ (u : List ℕ). (u, x.1)) first ∙ ap (λ (u : List ℕ). (y.0, u)) second

tied : (x y : List ℕ × List ℕ) → eq_by_cmp pair_cmp x y ≡ true → x ≡ y
tied x y e = same_key x y (is_equal (pair_cmp x y) e)
  where
    is_equal : (r : Ordering) → is_eq r ≡ true → r ≡ Equal
    is_equal Less d = absurd (true≢false (sym d))
    is_equal Equal d = refl
    is_equal Greater d = absurd (true≢false (sym d))

-- a value at each key of a list
put_all : (List ℕ → List ℕ → ℕ) → List (List ℕ × List ℕ) → Choice
put_all f [] = empty
put_all f (k ∷ ks) = insert (put_all f ks) k (f k.0 k.1)

-- what is there is the function's
only_values : (f : List ℕ → List ℕ → ℕ) (ks : List (List ℕ × List ℕ)) (q : List ℕ × List ℕ) (x : ℕ) → get (put_all f ks) q ≡ Some x
    → x ≡ f q.0 q.1
unfolding put_all
only_values f [] q x e = absurd (no_value (sym (get-empty pair_cmp q) ∙ e))
  where
    no_value : None ≡ Some x → ⊥
    no_value d = cc
only_values f (k ∷ ks) q x e =
    by (λ there. only_values f ks q x there) (eq_by_cmp pair_cmp q k) refl
    (sym (get-insert keys_are_ordered (put_all f ks) k (f k.0 k.1) q) ∙ e)
  where
    by : (get (put_all f ks) q ≡ Some x → x ≡ f q.0 q.1) → (v : Bool) → eq_by_cmp pair_cmp q k ≡ v
        → cond v (Some (f k.0 k.1)) (get (put_all f ks) q) ≡ Some x → x ≡ f q.0 q.1
    by rest true same is = sym (some_one (f k.0 k.1) x is) ∙ ap (λ (y : List ℕ × List ℕ). f y.0 y.1) (sym (tied q k same))
    by rest false other is = rest is

-- and it is there at each key
all_values : (f : List ℕ → List ℕ → ℕ) (ks : List (List ℕ × List ℕ)) (q : List ℕ × List ℕ) → Contains ks q
    → get (put_all f ks) q ≡ Some (f q.0 q.1)
unfolding put_all
all_values f [] q there = absurd (nil_contains q there)
all_values f (k ∷ ks) q there =
    get-insert keys_are_ordered (put_all f ks) k (f k.0 k.1) q
    ∙ elim (contains_cases k ks q there) [ inl same ↦ here same | inr later ↦ by (eq_by_cmp pair_cmp q k) refl (all_values f ks q later) ]
  where
    here : k ≡ q → cond (eq_by_cmp pair_cmp q k) (Some (f k.0 k.1)) (get (put_all f ks) q) ≡ Some (f q.0 q.1)
    here same = by_same (eq_by_cmp pair_cmp q k) (subst (λ (y : List ℕ × List ℕ). eq_by_cmp pair_cmp q y ≡ true) (sym same) (ties q))
      where
        ties : (y : List ℕ × List ℕ) → eq_by_cmp pair_cmp y y ≡ true
        ties y = ap is_eq (tied_itself keys_are_ordered y)

        by_same : (v : Bool) → v ≡ true → cond v (Some (f k.0 k.1)) (get (put_all f ks) q) ≡ Some (f q.0 q.1)
        by_same true d = ap (λ (y : List ℕ × List ℕ). Some (f y.0 y.1)) same
        by_same false d = absurd (true≢false (sym d))

    by : (v : Bool) → eq_by_cmp pair_cmp q k ≡ v → get (put_all f ks) q ≡ Some (f q.0 q.1)
        → cond v (Some (f k.0 k.1)) (get (put_all f ks) q) ≡ Some (f q.0 q.1)
    by true d rest = ap (λ (y : List ℕ × List ℕ). Some (f y.0 y.1)) (sym (tied q k d))
    by false d rest = rest

-- the keys of a table, of an image, and of a link
entry_key : (b : List ℕ) → Table → ℕ → List ℕ × List ℕ
entry_key b t k = (import_library_name b (import_entry b t k), import_name b t (import_entry b t k))

table_keys : (b : List ℕ) → Table → List (List ℕ × List ℕ)
table_keys b t = map (entry_key b t) (range_with_len 0 (fixups_header b t).imports_count)

image_keys : (b : List ℕ) → List (List ℕ × List ℕ)
image_keys b = flat_map (table_keys b) (tables_of b)

import_key : (l : Link) → ℕ → List ℕ × List ℕ
import_key l k = (import_library l (get_or (imports_of l) k []), get_or (imports_of l) k [])

link_keys : (l : Link) → List (List ℕ × List ℕ)
link_keys l = map (import_key l) (range_with_len 0 (length (imports_of l)))

-- THE choice.
pub choices_exist : ChoicesExist
unfolding table_keys image_keys tables_of entry_key link_keys imports_of import_key
choices_exist l b f small =
    let keys = image_keys b ++ link_keys l in
    let choice = put_all f keys in (
      choice,
      λ t k there within.
          let key = entry_key b t k in
          let among = Contains-append_left (image_keys b) (link_keys l) key
          (contains_flat_map (table_keys b) (tables_of b) t key there
          (contains_map (entry_key b t) (range_with_len 0 (fixups_header b t).imports_count) k
          (contains_range (fixups_header b t).imports_count k within))) in
          (f key.0 key.1, small key.0 key.1, all_values f keys key among),
      λ k within.
          let key = import_key l k in
          let among = Contains-append_right (image_keys b) (link_keys l) key
          (contains_map (import_key l) (range_with_len 0 (length (imports_of l))) k (contains_range (length (imports_of l)) k within)) in
          (f key.0 key.1, small key.0 key.1, all_values f keys key among),
      λ library name x is. only_values f keys (library, name) x is,
    )
