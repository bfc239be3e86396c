-- Tables of addresses, one section more.
--
-- What was put in answers at its key, and all others as before; that is what the first of the sections with a key is, with one more in
-- front.
use Rattle.std.proofs.Common.{◌≡◌, ◌≤◌, ◌⊎◌, inl, inr, ℕ, zero, suc, ◌+◌, ◌<◌, ◌==◌, ◌&&◌, ◌++◌, nat_lt, Bool, true, false, cond, List, [], ◌∷◌, filter, length, get_or, slice_set, drop, Option, Some, unwrap_or, refl, sym, ap, ◌∙◌, arith}
use Rattle.std.proofs.lemmas.List.{drop_more, map-set, length-map, get_or-set_other}
use Rattle.std.proofs.lemmas.Grind.{get_or-set_at}
use Rattle.std.proofs.lemmas.Bool.{true≢false, false≢true, and_from, and_left, and_right, and_parts, lt-ltb, le-ltb, eqb-true}
use Rattle.std.proofs.lemmas.Bool.Decides.{eqb_tells}
use Rattle.std.specs.declared.vec.Vec.{Vec}
use Rattle.macho_model.specs.declared.placed.PlacedSection.{PlacedSection}
use Rattle.macho_model.specs.Lists.{of_first}
use Rattle.macho_places.specs.declared.addresses.SectionTable.{SectionTable}
use Rattle.macho_places.specs.Lookups.{rows_of, HoldsSections}
use Rattle.macho_places.specs.steps.Puts.{PutsInRow, Puts}

pub rows_set : {A : Type 0} (rows : List (Vec ℕ A)) (i k : ℕ) (r : Vec ℕ A) → i < length rows
    → get_or (rows_of (slice_set rows i r)) k [] ≡ cond (i == k) r.items (get_or (rows_of rows) k [])
rows_set rows i k r low =
    let items : Vec ℕ _ → List ℕ = λ v. v.items in
    let set_items : get_or (rows_of (slice_set rows i r)) k [] ≡ get_or (slice_set (rows_of rows) i r.items) k [] =
    ap (λ (xs : List (List ℕ)). get_or xs k []) (map-set items rows i r) in
    let by : (b : Bool) → (i == k) ≡ b → cond b r.items (get_or (rows_of rows) k []) ≡ cond (i == k) r.items (get_or (rows_of rows) k []) =
    λ b e. ap (λ (x : Bool). cond x r.items (get_or (rows_of rows) k [])) (sym e) in
    elim (eqb_tells i k) [
      | inl p ↦ set_items ∙ get_or-set_at (rows_of rows) i k r.items [] (sym p.1) (omega (arith, low, length-map rows items)) ∙ by true p.0
      | inr p ↦ set_items ∙ get_or-set_other (rows_of rows) i k r.items [] (λ e. p.1 (sym e)) ∙ by false p.0
    ]

pub row_at : {A : Type 0} (rows : List (Vec ℕ A)) (i : ℕ) (r : Vec ℕ A) → i < length rows → r ≡ get_or rows i r
    → r.items ≡ get_or (rows_of rows) i []
row_at [] i r low e = absurd (omega (arith, low))
row_at (x ∷ rows) zero r low e = ap (λ v. v.items) e
row_at (x ∷ rows) (suc i) r low e = row_at rows i r (omega (arith, low)) e

in_row : (t g : Bool) (new old address others : ℕ) → new ≡ cond g address old → (g ≡ true → t ≡ true)
    → cond t new others ≡ cond g address (cond t old others)
in_row true g new old address others h within = h
in_row false true new old address others h within = absurd (false≢true (within refl))
in_row false false new old address others h within = refl

-- what is put in a row answers at the key, and all else as before
pub row_put : (rows next : List (List ℕ)) (new : List ℕ) (now many file section address f s others : ℕ)
    → now ≡ many → file < many → section < 256
    → get_or next f [] ≡ cond (file == f) new (get_or rows f [])
    → PutsInRow (get_or rows file []) new section address
    → cond (nat_lt f now && nat_lt s 256) (get_or (get_or next f []) s 0) others
    ≡ cond ((file == f) && (section == s)) address (cond (nat_lt f many && nat_lt s 256) (get_or (get_or rows f []) s 0) others)
row_put rows next new now many file section address f s others long low small is put =
    let t : Bool = nat_lt f many && nat_lt s 256 in
    let before : ℕ = cond t (get_or (get_or rows f []) s 0) others in
    let at : (b : Bool) → (file == f) ≡ b → get_or next f [] ≡ cond b new (get_or rows f []) =
    λ b e. is ∙ ap (λ (x : Bool). cond x new (get_or rows f [])) e in
    ap (λ (n : ℕ). cond (nat_lt f n && nat_lt s 256) (get_or (get_or next f []) s 0) others) long
    ∙ elim (eqb_tells file f) [
      | inl p ↦
          in_row t (section == s) (get_or (get_or next f []) s 0) (get_or (get_or rows f []) s 0) address others
          (ap (λ (r : List ℕ). get_or r s 0) (at true p.0) ∙ put s
          ∙ ap (λ (n : ℕ). cond (section == s) address (get_or (get_or rows n []) s 0)) p.1)
          (λ e. and_from _ _ (lt-ltb f many (omega (arith, p.1, low))) (lt-ltb s 256 (omega (arith, eqb-true section s e, small))))
          ∙ ap (λ (b : Bool). cond (b && (section == s)) address before) (sym p.0)
      | inr p ↦
          ap (λ (r : List ℕ). cond t (get_or r s 0) others) (at false p.0)
          ∙ ap (λ (b : Bool). cond (b && (section == s)) address before) (sym p.0)
    ]

-- no row answers a key that is behind the rows, or behind the end of each
outside : (many file section f s : ℕ) → (many ≤ file) ⊎ (256 ≤ section) → ((file == f) && (section == s)) ≡ true
    → (nat_lt f many && nat_lt s 256) ≡ false
outside many file section f s past e =
    elim past [
      | inl p ↦ and_left _ _ (le-ltb f many (omega (arith, p, eqb-true file f (and_parts _ _ e).0)))
      | inr p ↦ and_right _ _ (le-ltb s 256 (omega (arith, p, eqb-true section s (and_parts _ _ e).1)))
    ]

in_others : (t e : Bool) (row address : ℕ) (old new : Option ℕ) → new ≡ cond e (Some address) old → (e ≡ true → t ≡ false)
    → cond t row (unwrap_or new 0) ≡ cond e address (cond t row (unwrap_or old 0))
in_others true true row address old new h past = absurd (true≢false (past refl))
in_others true false row address old new h past = refl
in_others false true row address old new h past = ap (λ (o : Option ℕ). unwrap_or o 0) h
in_others false false row address old new h past = ap (λ (o : Option ℕ). unwrap_or o 0) h

-- what is put by its key answers at the key, and all else as before
pub other_put : (many file section address f s row : ℕ) (old new : Option ℕ) → (many ≤ file) ⊎ (256 ≤ section)
    → new ≡ cond ((file == f) && (section == s)) (Some address) old
    → cond (nat_lt f many && nat_lt s 256) row (unwrap_or new 0)
    ≡ cond ((file == f) && (section == s)) address (cond (nat_lt f many && nat_lt s 256) row (unwrap_or old 0))
other_put many file section address f s row old new past h =
    in_others (nat_lt f many && nat_lt s 256) ((file == f) && (section == s)) row address old new h (outside many file section f s past)

first_flag : (b : Bool) (x : PlacedSection) (ss : List PlacedSection) → of_first 0 (λ q. q.address) (cond b (x ∷ ss) ss) ≡ cond b x.address
    (of_first 0 (λ q. q.address) ss)
first_flag true x ss = refl
first_flag false x ss = refl

pub table_more : (table next : SectionTable) (xs : List PlacedSection) (i j k : ℕ) (d : PlacedSection)
    → i < length xs → j ≡ i → k ≡ i + 1
    → HoldsSections table (drop k xs)
    → Puts table next (get_or xs i d).file (get_or xs i d).section (get_or xs i d).address
    → HoldsSections next (drop j xs)
table_more table next xs i j k d low is behind h put =
    λ file section.
    let t : PlacedSection → Bool = λ q. (q.file == file) && (q.section == section) in
    let x : PlacedSection = get_or xs i d in
    let rest : List PlacedSection = filter t (drop k xs) in
    let list : drop j xs ≡ x ∷ drop k xs = ap (λ (n : ℕ). drop n xs) is ∙ drop_more xs i d low ∙ ap (λ (n : ℕ). x ∷ drop n xs)
    (sym behind) in
    put file section ∙ ap (cond (t x) x.address) (h file section)
    ∙ sym (ap (λ (ss : List PlacedSection). of_first 0 (λ q. q.address) (filter t ss)) list ∙ first_flag (t x) x rest)
