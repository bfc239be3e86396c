-- A name leads to a symbol exactly where the names of the tree have the pair.
--
-- The names along a way are those that end at an edge's child, those below it, and those at the edges after it. A name
-- that leads to a symbol is in one of the three, with the way in front, and what is in one of them leads there.
use Rattle.std.proofs.Common.{◌≡◌, ℕ, List, [], ◌∷◌, ◌++◌, get_or, Option, Some, None, Contains, refl, sym, ap, subst, append_assoc, ◌∙◌, arith, inl, inr}
use Rattle.std.proofs.lemmas.List.{append-nil}
use Rattle.std.proofs.lemmas.List.Elements.{Contains-append_left, Contains-append_right, Contains-append_cases}
use Rattle.macho_trie.specs.Trees.{Edges, no_edge, edge, LeadsTo}
use Rattle.macho_trie.specs.steps.Building.{ending, names_along}

ending_has : (way : List ℕ) (mark : Option ℕ) (s : ℕ) → mark ≡ Some s → Contains (ending way mark) (way, s)
ending_has way mark s is =
    let C : Option ℕ → Type 0 = λ m. Contains (ending way m) (way, s) in
    subst C (sym is) (0, omega arith, refl)

ending_is : (way : List ℕ) (mark : Option ℕ) (p : List ℕ × ℕ) → Contains (ending way mark) p → (p.0 ≡ way) × (mark ≡ Some p.1)
ending_is way None p (k, within, is) = absurd (omega arith)
ending_is way (Some s) p (k, within, is) =
    let zero_k : k ≡ 0 = omega arith in
    let same : (let q : List ℕ × ℕ = (way, s) in q) ≡ p = ap (λ (i : ℕ). get_or ((way, s) ∷ []) i p) (sym zero_k) ∙ is in
    (sym (ap (λ (q : List ℕ × ℕ). q.0) same), ap (λ (q : List ℕ × ℕ). (let o : Option ℕ = Some q.1 in o)) same)

pub leads_in : (way : List ℕ) (es : Edges) (left : List ℕ) (s : ℕ) → LeadsTo es left s → Contains (names_along way es) (way ++ left, s)
leads_in way no_edge left s h = absurd h
leads_in way (edge label mark below rest) left s (inl (more, is, inl (end, marked))) =
    let whole : way ++ label ≡ way ++ left = ap (λ (xs : List ℕ). way ++ xs) (sym (append-nil label)
    ∙ ap (λ (xs : List ℕ). label ++ xs) (sym end) ∙ sym is) in
    let C : List ℕ → Type 0 = λ w. Contains (names_along way (edge label mark below rest)) (w, s) in
    subst C whole (Contains-append_left (ending (way ++ label) mark) (names_along (way ++ label) below ++ names_along way rest) (
      way ++
          label,
      s,
    )
    (ending_has (way ++ label) mark s marked))
leads_in way (edge label mark below rest) left s (inl (more, is, inr further)) =
    let whole : (way ++ label) ++ more ≡ way ++ left = append_assoc way label more ∙ ap (λ (xs : List ℕ). way ++ xs) (sym is) in
    let C : List ℕ → Type 0 = λ w. Contains (names_along way (edge label mark below rest)) (w, s) in
    subst C whole (Contains-append_right (ending (way ++ label) mark) (names_along (way ++ label) below ++ names_along way rest) (
      (way
          ++ label) ++ more,
      s,
    )
    (Contains-append_left (names_along (way ++ label) below) (names_along way rest) ((way ++ label) ++ more, s) (leads_in (way ++
    label) below more s further)))
leads_in way (edge label mark below rest) left s (inr other) =
    Contains-append_right (ending (way ++ label) mark) (names_along (way ++ label) below ++ names_along way rest) (way ++ left, s)
    (Contains-append_right (names_along (way ++ label) below) (names_along way rest) (way ++ left, s) (leads_in way rest left s other))

pub in_leads : (way : List ℕ) (es : Edges) (p : List ℕ × ℕ) → Contains (names_along way es) p
    → (left : List ℕ) × (p.0 ≡ way ++ left) × LeadsTo es left p.1
in_leads way no_edge p (k, within, is) = absurd (omega arith)
in_leads way (edge label mark below rest) p c =
    elim (Contains-append_cases (ending (way ++ label) mark) (names_along (way ++ label) below ++ names_along way rest) p c) [
      | inl here ↦
          let e = ending_is (way ++ label) mark p here in
          (label ++ [], e.0 ∙ ap (λ (xs : List ℕ). way ++ xs) (sym (append-nil label)), inl ([], refl, inl (refl, e.1)))
      | inr others ↦ elim (Contains-append_cases (names_along (way ++ label) below) (names_along way rest) p others) [
        | inl further ↦
            let f = in_leads (way ++ label) below p further in
            (label ++ f.0, f.1 ∙ append_assoc way label f.0, inl (f.0, refl, inr f.2))
        | inr other ↦
            let o = in_leads way rest p other in
            (o.0, o.1, inr o.2)
      ]
    ]
