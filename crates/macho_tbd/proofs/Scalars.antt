-- A name that can be written is, in its quotes, a scalar that says the name; and names in quotes, with a comma and a space between two,
-- are the scalars of a flow list.
--
-- In single quotes stands no single quote. Double quotes are taken where the name holds a single quote: then it holds no double quote and
-- no backslash, since it can be written. The list is by recursion on its names: behind a name stands the closing bracket or a comma,
-- each with one space, and then the list of the others.
use Rattle.std.proofs.Common.{◌≡◌, ◌≢◌, ℕ, ◌==◌, ◌||◌, Bool, true, false, cond, ◌&&◌, not, List, [], ◌∷◌, ◌++◌, refl, ap, sym, subst, append_assoc}
use Rattle.std.specs.Prelude.{codes}
use Rattle.std.specs.List.{AllByRecursion, list_any, flat_map, join_by}
use Rattle.std.specs.Str.{is_utf8}
use Rattle.macho_stub_lines.specs.Values.{IsScalar, single, double, spaces, AreScalars, last, next}
use Rattle.macho_tbd.specs.Writable.{is_control, has_single, has_double, is_writable}
use Rattle.macho_tbd.specs.Text.{quoted}
use Rattle.macho_bytes.proofs.Comparing.{unequal}
use Rattle.macho_bytes.proofs.Maps.{all_weaker}

-- what is known of a name that can be written
pub record IsQuotable (name : List ℕ) : Type 0 where
  pub utf8 : is_utf8 name ≡ true
  pub plain : list_any is_control name ≡ false
  pub fits : has_single name ≡ true → has_double name ≡ false

pub quotable : (name : List ℕ) → is_writable name ≡ true → IsQuotable name
unfolding is_writable
quotable name e = by (is_utf8 name) refl (list_any is_control name) refl (has_single name) refl (has_double name) refl e
  where
    by : (u : Bool) → is_utf8 name ≡ u → (c : Bool) → list_any is_control name ≡ c → (s : Bool) → has_single name ≡ s → (d : Bool)
        → has_double name ≡ d → (u && (not c && not (s && d))) ≡ true → IsQuotable name
    by true u false c false s d b e = record { utf8 = u; plain = c; fits = λ t. absurd cc }
    by true u false c true s false b e = record { utf8 = u; plain = c; fits = λ t. b }
    by true u false c true s true b e = absurd cc
    by true u true c s t d b e = absurd cc
    by false u c p s t d b e = absurd cc

-- why a name can't be written
pub no_text : (name : List ℕ) → is_utf8 name ≡ false → is_writable name ≡ false
unfolding is_writable
no_text name e = ap (λ (u : Bool). u && (not (list_any is_control name) && not (has_single name && has_double name))) e

pub barred : (name : List ℕ) → list_any is_control name ≡ true → is_writable name ≡ false
unfolding is_writable
barred name e = by (is_utf8 name) (list_any is_control name) e
  where
    by : (u c : Bool) → c ≡ true → (u && (not c && not (has_single name && has_double name))) ≡ false
    by true true e = refl
    by false true e = refl
    by u false e = absurd cc

pub unfit : (name : List ℕ) → (has_single name && has_double name) ≡ true → is_writable name ≡ false
unfolding is_writable
unfit name e = by (is_utf8 name) (list_any is_control name) (has_single name && has_double name) e
  where
    by : (u c d : Bool) → d ≡ true → (u && (not c && not d)) ≡ false
    by true true d e = refl
    by true false true e = refl
    by true false false e = absurd cc
    by false c d e = refl

-- and why it can
pub fits_quotes : (name : List ℕ) → is_utf8 name ≡ true → list_any is_control name ≡ false → (has_single name && has_double name) ≡ false
    → is_writable name ≡ true
unfolding is_writable
fits_quotes name u c f = rw (u, c, f) refl

-- a test that nothing passes
pub none_passes : {X : Type 0} (test : X → Bool) (xs : List X) → list_any test xs ≡ false → AllByRecursion (λ x. test x ≡ false) xs
none_passes test [] e = tt
none_passes {X} test (x ∷ xs) e = (neither.0, none_passes test xs neither.1)
  where
    by : (b c : Bool) → (b || c) ≡ false → (b ≡ false) × (c ≡ false)
    by true c e = absurd cc
    by false c e = (refl, e)

    neither : (test x ≡ false) × (list_any test xs ≡ false)
    neither = by (test x) (list_any test xs) e

not_either : (b : ℕ) → ((b == 34) || (b == 92)) ≡ false → (b ≢ 34) × (b ≢ 92)
not_either b e = by (b == 34) refl e
  where
    by : (t : Bool) → (b == 34) ≡ t → (t || (b == 92)) ≡ false → (b ≢ 34) × (b ≢ 92)
    by true is e = absurd cc
    by false is e = (unequal b 34 is, unequal b 92 e)

pub scalar : (name : List ℕ) → IsQuotable name → IsScalar (quoted name) name
unfolding quoted
scalar name q = by (has_single name) refl
  where
    by : (b : Bool) → has_single name ≡ b
        → IsScalar (cond b (codes "\"" ++ (name ++ codes "\"")) (codes "'" ++ (name ++ codes "'"))) name
    by true is = double name (all_weaker _ (λ b. (b ≢ 34) × (b ≢ 92)) not_either name (none_passes _ name (q.fits is)))
    by false is = single name (all_weaker _ (λ b. b ≢ 39) (λ b. unequal b 39) name (none_passes _ name is))

-- names in quotes, with what stands between them
abbrev pub joined : List (List ℕ) → List ℕ
joined names = join_by quoted (codes ", ") names

-- THE list: its scalars in front of the closing bracket
pub scalars : (name : List ℕ) (names : List (List ℕ)) → IsQuotable name → AllByRecursion IsQuotable names
    → AreScalars ((joined (name ∷ names) ++ codes " ]") ∷ []) (name ∷ names) (codes "]" ∷ [])
scalars name [] q qs =
    subst (λ (line : List ℕ). AreScalars (line ∷ []) (name ∷ []) (codes "]" ∷ [])) (sym (append_assoc (quoted name) [] (codes " ]")))
    (last (quoted name) name (codes " ]") [] (codes "]" ∷ []) (scalar name q) (spaces 1 (codes "]") []))
scalars name (other ∷ names) q qs =
    let rest : List ℕ = joined (other ∷ names) ++ codes " ]" in
    let line : List ℕ = codes "," ++ (codes " " ++ rest) in
    subst (λ (line : List ℕ). AreScalars (line ∷ []) (name ∷ other ∷ names) (codes "]" ∷ []))
    (sym (append_assoc (quoted name) (flat_map (λ y. codes ", " ++ quoted y) (other ∷ names)) (codes " ]")))
    (next (quoted name) name line (codes " " ++ rest) [] [] (rest ∷ []) (other ∷ names) (codes "]" ∷ []) (scalar name q)
    (spaces 0 line []) (spaces 1 rest []) (scalars other names qs.0 qs.1))
