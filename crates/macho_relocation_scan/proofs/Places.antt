-- A table of places. Each byte that a relocation stands in has the first one that stood there. So one more relocation shares a
-- byte with an earlier one exactly where the table has an entry at one of its bytes; and that is its partner, or the two overlap.
use Rattle.std.proofs.Common.{◌≡◌, ℕ, ◌+◌, ◌-◌, ◌<◌, ◌≤◌, ◌⊎◌, inl, inr, Bool, true, false, ◌&&◌, nat_le, nat_lt, ◌==◌, max, List, Option, Some, None, refl, sym, ap, ◌∙◌, subst, arith, pow_pos, if◌then◌else◌}
use Rattle.std.proofs.lemmas.Bool.{cases_lt, eqb-true}
use Rattle.std.proofs.lemmas.Bool.Decides.{nat_tests}
use Rattle.macho_wire.specs.declared.relocations.RelocationInfo.{RelocationInfo}
use Rattle.macho_model.specs.Objects.{section_at, relocation_at}
use Rattle.macho_model.specs.Fields.{is_pair}
use Rattle.macho_relocation_scan.specs.declared.pairs.Seen.{Seen}
use Rattle.macho_relocation_scan.specs.steps.Windows.{window_in, ends, tests_before}
use Rattle.macho_relocation_scan.specs.steps.Overlaps.{field_end, shares, are_one, GoTogether, AreApart, Overlaps, or_new, IsPartner, IsPut, IsTaken, IsTable, PutsOrTaken}
use Rattle.macho_relocation_scan.proofs.Hulls.{partner}

-- a byte that two fields share
shared : (a e b f : ℕ) → (nat_lt a f && nat_lt b e) ≡ true → a < e → b < f → (a ≤ max a b) × (max a b < e) × (b ≤ max a b) × (max a b < f)
shared a e b f test one two = by (nat_lt a f) refl
  where
    by : (x : Bool) → nat_lt a f ≡ x → (a ≤ max a b) × (max a b < e) × (b ≤ max a b) × (max a b < f)
    by true t = let u : nat_lt b e ≡ true = sym (ap (λ y. y && nat_lt b e) t) ∙ test in
        let x : a < f = grind (arith, nat_tests) in let y : b < e = grind (arith, nat_tests)
        in (omega arith, omega arith, omega arith, omega arith)
    by false t = let u : false ≡ true = sym (ap (λ y. y && nat_lt b e) t) ∙ test in cc

some_bytes : (rel : RelocationInfo) → rel.r_address < field_end rel
some_bytes rel = omega (arith, pow_pos rel.r_length)

-- what is one with the relocation before it ends a pair
pair_ends : (b : List ℕ) (k i q : ℕ) → are_one b k q i ≡ true → (ends (window_in b k i) ≡ true → q + 1 ≡ i → ⊥) → ⊥
pair_ends b k i q e stranger =
    let next : q + 1 ≡ i = sym (eqb-true i (q + 1) (first (i == q + 1) (is_pair (relocation_at b k q) (relocation_at b k i)) e)) in
    let pair : is_pair (relocation_at b k q) (relocation_at b k i) ≡ true = second (i == q + 1)
    (is_pair (relocation_at b k q) (relocation_at b k i)) e in
    let one : nat_le 1 i ≡ true = grind (arith, nat_tests) in
    let back : i - 1 ≡ q = omega arith in
    stranger (ap (λ t. tests_before is_pair (if t then Some (relocation_at b k (i - 1)) else None) (relocation_at b k i)) one
    ∙ ap (λ n. is_pair (relocation_at b k n) (relocation_at b k i)) back ∙ pair) next
  where
    first : (x y : Bool) → (x && y) ≡ true → x ≡ true
    first true y t = refl
    first false y t = t

    second : (x y : Bool) → (x && y) ≡ true → y ≡ true
    second true y t = t
    second false y t = cc

-- a place is in a field, or before or behind it
in_or_out : (a e p : ℕ) → ((a ≤ p) × (p < e)) ⊎ ((p < a) ⊎ (e ≤ p))
in_or_out a e p = by (cases_lt p a) (cases_lt p e)
  where
    by : (p < a) ⊎ (a ≤ p) → (p < e) ⊎ (e ≤ p) → ((a ≤ p) × (p < e)) ⊎ ((p < a) ⊎ (e ≤ p))
    by (inl h) x = inr (inl h)
    by (inr h) (inl g) = inl (h, g)
    by (inr h) (inr g) = inr (inr g)

-- one relocation more
pub table_more : (b : List ℕ) (k i : ℕ) (old new : ℕ → Option ℕ) → IsTable b k i old
    → IsPut old new (relocation_at b k i).r_address (field_end (relocation_at b k i)) i (ends (window_in b k i)) → IsTable b k (i + 1) new
table_more b k i old new is put = record {
  says = λ p q e. says p q e (in_or_out (relocation_at b k i).r_address (field_end (relocation_at b k i)) p);
  full = λ p r below low high. full p r below low high (cases_lt r i)
      (in_or_out (relocation_at b k i).r_address (field_end (relocation_at b k i)) p);
}
  where
    Out : ℕ → Type 0
    Out p = (p < (relocation_at b k i).r_address) ⊎ (field_end (relocation_at b k i) ≤ p)

    In : ℕ → Type 0
    In p = ((relocation_at b k i).r_address ≤ p) × (p < field_end (relocation_at b k i))

    Stands : ℕ → ℕ → Type 0
    Stands p q = (q < i + 1) × ((relocation_at b k q).r_address ≤ p) × (p < field_end (relocation_at b k q))

    older : (p q : ℕ) → old p ≡ Some q → Stands p q
    older p q e = let h = is.says p q e in (omega (arith, h.0), h.1, h.2)

    fresh : (p q : ℕ) → In p → (o : Option ℕ) → old p ≡ o → or_new o i ≡ q → Stands p q
    fresh p q h None e same = subst (Stands p) same (omega arith, h.0, h.1)
    fresh p q h (Some x) e same = subst (Stands p) same (older p x e)

    says : (p q : ℕ) → new p ≡ Some q → In p ⊎ Out p → Stands p q
    says p q e (inr out) = older p q (sym (put.others p out) ∙ e)
    says p q e (inl h) = let same : or_new (old p) i ≡ q = let x : Some (or_new (old p) i) ≡ Some q = sym (put.there p h.0 h.1)
        ∙ e in cc in fresh p q h (old p) refl same

    Full : (ℕ → Option ℕ) → ℕ → ℕ → Type 0
    Full t p r = (t p ≡ Some r) ⊎ ((q : ℕ) × (t p ≡ Some q) × (q + 1 ≡ r))

    keeps : (p x : ℕ) → In p ⊎ Out p → old p ≡ Some x → new p ≡ Some x
    keeps p x (inl h) e = put.there p h.0 h.1 ∙ ap (λ o. Some (or_new o i)) e
    keeps p x (inr out) e = put.others p out ∙ e

    stays : (p r : ℕ) → In p ⊎ Out p → Full old p r → Full new p r
    stays p r where_is (inl e) = inl (keeps p r where_is e)
    stays p r where_is (inr h) = inr (h.0, keeps p h.0 where_is h.1, h.2)

    own : (p : ℕ) → In p → (o : Option ℕ) → old p ≡ o → IsPartner o (ends (window_in b k i)) i → Full new p i
    own p h None e partner = inl (put.there p h.0 h.1 ∙ ap (λ o. Some (or_new o i)) e)
    own p h (Some x) e partner = inr (x, put.there p h.0 h.1 ∙ ap (λ o. Some (or_new o i)) e, partner.1)

    full : (p r : ℕ) → r < i + 1 → (relocation_at b k r).r_address ≤ p → p < field_end (relocation_at b k r) → (r < i) ⊎ (i ≤ r) → In p
        ⊎ Out p → Full new p r
    full p r below low high (inl h) where_is = stays p r where_is (is.full p r h low high)
    full p r below low high (inr h) where_is =
        let same : i ≡ r = omega arith in
        let low_is = subst (λ n. (relocation_at b k n).r_address ≤ p) (sym same) low in
        let high_is = subst (λ n. p < field_end (relocation_at b k n)) (sym same) high in
        subst (Full new p) same (own p (low_is, high_is) (old p) refl (put.partner p low_is high_is))

pub apart_more : (b : List ℕ) (k i : ℕ) (old new : ℕ → Option ℕ) → IsTable b k i old
    → IsPut old new (relocation_at b k i).r_address (field_end (relocation_at b k i)) i (ends (window_in b k i)) → AreApart b k i
    → AreApart b k (i + 1)
apart_more b k i old new is put apart = record { each = λ q r order below. by q r order (cases_lt r i) below }
  where
    met : (p q : ℕ) → q < i → IsPartner (old p) (ends (window_in b k i)) i → (old p ≡ Some q) ⊎ ((x : ℕ) × (old p ≡ Some x) × (x + 1 ≡ q))
        → GoTogether b k q i
    met p q before goes (inl e) = let h = subst (λ o. IsPartner o (ends (window_in b k i)) i) e goes in inr
        (partner b k i h.0 q before (omega (arith, h.1)))
    met p q before goes (inr h) = let g = subst (λ o. IsPartner o (ends (window_in b k i)) i) h.1 goes in absurd
        (omega (arith, g.1, h.2, before))

    new_one : (q : ℕ) → q < i → (t : Bool) → shares (relocation_at b k q) (relocation_at b k i) ≡ t → GoTogether b k q i
    new_one q before false e = inl e
    new_one q before true e =
        let x = relocation_at b k q in
        let y = relocation_at b k i in
        let p = max x.r_address y.r_address in
        let s = shared x.r_address (field_end x) y.r_address (field_end y) e (some_bytes x) (some_bytes y) in
        met p q before (put.partner p s.2 s.3) (is.full p q before s.0 s.1)

    by : (q r : ℕ) → q < r → (r < i) ⊎ (i ≤ r) → r < i + 1 → GoTogether b k q r
    by q r order (inl h) below = apart.each q r order h
    by q r order (inr h) below =
        let same : i ≡ r = omega arith in
        let before : q < i = omega (arith, order, same) in
        subst (GoTogether b k q) same (new_one q before (shares (relocation_at b k q) (relocation_at b k i)) refl)

-- what has a byte of the field overlaps it
pub taken_overlaps : (b : List ℕ) (k i : ℕ) (old : ℕ → Option ℕ) (q : ℕ) → IsTable b k i old → i < (section_at b k).nreloc
    → IsTaken old (relocation_at b k i).r_address (field_end (relocation_at b k i)) i (ends (window_in b k i)) q → Overlaps b k q i
taken_overlaps b k i old q is there taken =
    let at = is.says taken.place q taken.has in record {
      order = at.0;
      there = there;
      share = meets (relocation_at b k q).r_address (field_end (relocation_at b k q)) (relocation_at b k i).r_address
          (field_end (relocation_at b k i)) taken.place at.1 at.2 taken.low taken.high;
      apart = strange (are_one b k q i) refl;
    }
  where
    meets : (a e c f p : ℕ) → a ≤ p → p < e → c ≤ p → p < f → (nat_lt a f && nat_lt c e) ≡ true
    meets a e c f p l h m g =
        let x : nat_lt a f ≡ true = grind (arith, nat_tests) in let y : nat_lt c e ≡ true = grind (arith, nat_tests) in ap
        (λ t. t && nat_lt c e) x ∙ y

    strange : (t : Bool) → are_one b k q i ≡ t → are_one b k q i ≡ false
    strange false e = e
    strange true e = absurd (pair_ends b k i q e taken.stranger)

-- of a relocation that is seen with its neighbours
seen_put : (b : List ℕ) (k i : ℕ) (old new : ℕ → Option ℕ) (seen : Seen) (told answer : Option ℕ) → seen ≡ window_in b k i → told ≡ answer
    → PutsOrTaken old new seen.this.r_address (field_end seen.this) i (ends seen) told
    → PutsOrTaken old new (relocation_at b k i).r_address (field_end (relocation_at b k i)) i (ends (window_in b k i)) answer
seen_put b k i old new seen told answer is same put =
    subst (PutsOrTaken old new (relocation_at b k i).r_address (field_end (relocation_at b k i)) i (ends (window_in b k i))) same
    (subst (λ (s : Seen). PutsOrTaken old new s.this.r_address (field_end s.this) i (ends s) told) is put)

pub seen_taken : (b : List ℕ) (k i : ℕ) (old new : ℕ → Option ℕ) (seen : Seen) (told : Option ℕ) (q : ℕ) → IsTable b k i old
    → i < (section_at b k).nreloc
    → seen ≡ window_in b k i → told ≡ Some q → PutsOrTaken old new seen.this.r_address (field_end seen.this) i (ends seen) told
    → Overlaps b k q i
seen_taken b k i old new seen told q table there is same put = taken_overlaps b k i old q table there
    (seen_put b k i old new seen told (Some q) is same put)

-- the table and what is known of the relocations in it, with one more
pub record IsSurely (b : List ℕ) (k i : ℕ) (t : ℕ → Option ℕ) : Type 0 where
  pub table : IsTable b k i t
  pub apart : AreApart b k i

pub seen_more : (b : List ℕ) (k i : ℕ) (old new : ℕ → Option ℕ) (seen : Seen) (told : Option ℕ) → IsTable b k i old → AreApart b k i
    → seen ≡ window_in b k i → told ≡ None → PutsOrTaken old new seen.this.r_address (field_end seen.this) i (ends seen) told
    → IsSurely b k (i + 1) new
seen_more b k i old new seen told table apart is same put =
    let here = seen_put b k i old new seen told None is same put in
    record { table = table_more b k i old new table here; apart = apart_more b k i old new table here apart }

pub none_left : (o : Option ℕ) → ((x : ℕ) → o ≡ Some x → ⊥) → o ≡ None
none_left None h = refl
none_left (Some x) h = absurd (h x refl)
