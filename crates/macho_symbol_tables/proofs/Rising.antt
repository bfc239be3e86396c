-- Names in rising order are distinct, each less than every later one.
use Rattle.std.proofs.Common.{◌≡◌, ◌≢◌, ℕ, ◌+◌, List, map, get_or, sym, ap, subst, ◌∙◌, arith, AllPairs}
use Rattle.std.specs.Cmp.Lexicographic.{slice_cmp}
use Rattle.std.specs.Ordering.{nat_cmp, ordering_reverse}
use Rattle.std.specs.declared.cmp.Ordering.TheVariants.{Less, Greater}
use Rattle.std.proofs.lemmas.Cmp.{nat_list_cmp_total}
use Rattle.std.proofs.lemmas.List.{get_or-map, get_or_default, length-map}
use Rattle.macho_bytes.proofs.Orders.{EachLater, NextTo, each_later, later_at}
use Rattle.macho_model.specs.Told.{ToldExport}
use Rattle.macho_symbols.specs.Exported.{AreRising}

-- a name is less than another
abbrev pub Rises : List ℕ → List ℕ → Type 0
Rises x y = slice_cmp nat_cmp x y ≡ Less

pub not_itself : (x y : List ℕ) → Rises x y → x ≢ y
not_itself x y less same =
    let here : Rises x x = subst (λ (z : List ℕ). Rises x z) (sym same) less in
    let turned : Less ≡ Greater = sym here ∙ nat_list_cmp_total.antisymm x x ∙ ap ordering_reverse here in
    cc

pub names_rise : (names : List (List ℕ)) → AreRising names → EachLater Rises names
names_rise names rising = each_later Rises nat_list_cmp_total.trans names next
  where
    next : NextTo Rises names
    next k x y at_k at_next =
        subst (λ (z : List ℕ). Rises x z) (get_or_default names (k + 1) x y at_next.0 ∙ at_next.1)
        (subst (λ (z : List ℕ). Rises z (get_or names (k + 1) x)) at_k.1 (rising k x at_next.0))

pub told_rise : (told : List ToldExport) → EachLater Rises (map (λ t. t.name) told) → AllPairs (λ a b. Rises a.name b.name) told
told_rise told later i j d below within =
    let name : ToldExport → List ℕ = λ t. t.name in
    let one = later_at Rises (map name told) d.name i j later below (omega (arith, within, length-map told name)) in
    subst (λ (x : List ℕ). Rises x (name (get_or told j d))) (get_or-map name told i d d.name (omega (arith, below, within)))
    (subst (λ (x : List ℕ). Rises (get_or (map name told) i d.name) x) (get_or-map name told j d d.name within) one)

pub names_differ : (names : List (List ℕ)) → EachLater Rises names → AllPairs (λ x y. x ≢ y) names
names_differ names later i j d below within = not_itself _ _ (later_at Rises names d i j later below within)
