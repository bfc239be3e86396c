-- Entries that are alone with their key.
-- The grammar says what stands under a key by the entries that have it: there is one, which says this, or none. So the entries with a key
-- are one alone or none (`given`, `given_or`), and the other way, as none stands twice (`alone`, `alone_or`). Items and documents have
-- different keys, so a test for each key is asked for (`Tested`).
use Rattle.std.proofs.Common.{◌≡◌, ◌⊎◌, Bool, true, false, cond, List, [], ◌∷◌, Option, Some, None, refl, sym, ap, ◌∙◌, inl, inr, subst}
use Rattle.std.specs.List.{AllByRecursion, filter}
use Rattle.macho_stub.specs.Places.{SaysAlone}
use Rattle.macho_stub.proofs.MappingsFields.{Given, GivenOr, NoneTwice, every}
use Rattle.macho_bytes.proofs.Maps.{all_weaker}

-- ---- entries that are alone

-- A test for each key: it says which entries have the key.
pub record Tested (E K : Type 0) : Type 0 where
  pub key_of : E → K
  pub unread : K
  pub test : K → E → Bool
  pub forth : (key : K) (one : E) → test key one ≡ true → key_of one ≡ key
  pub back : (key : K) (one : E) → (key ≡ unread → ⊥) → key_of one ≡ key → test key one ≡ true
  pub is_unread : (key : K) → (key ≡ unread) ⊎ (key ≡ unread → ⊥)

-- the entries with the key
abbrev pub with_key : {E K : Type 0} → Tested E K → K → List E → List E
with_key t key entries = filter (t.test key) entries

-- the entry has the key
abbrev pub Has : {E K : Type 0} → Tested E K → K → E → Type 0
Has t key one = t.key_of one ≡ key

-- the test says no
abbrev pub Fails : {E : Type 0} → (E → Bool) → E → Type 0
Fails test one = test one ≡ true → ⊥

pub none_pass : {E : Type 0} (test : E → Bool) (entries : List E) → filter test entries ≡ [] → AllByRecursion (Fails test) entries
none_pass test [] e = tt
none_pass {E} test (one ∷ others) e = by (test one) refl (λ none. none_pass test others none) e
  where
    by : (b : Bool) → test one ≡ b → (filter test others ≡ [] → AllByRecursion (Fails test) others)
        → cond b (one ∷ filter test others) (filter test others) ≡ [] → AllByRecursion (Fails test) (one ∷ others)
    by true t more e = absurd cc
    by false t more e = ((λ h. let both = sym h ∙ t in cc), more e)

pub none_left : {E : Type 0} (test : E → Bool) (entries : List E) → AllByRecursion (Fails test) entries → filter test entries ≡ []
none_left test [] all = refl
none_left test (one ∷ others) all = by (test one) refl (none_left test others all.1)
  where
    by : (b : Bool) → test one ≡ b → filter test others ≡ [] → cond b (one ∷ filter test others) (filter test others) ≡ []
    by true t none = absurd (all.0 t)
    by false t none = none

-- no two
abbrev pub Few : {E : Type 0} → List E → Type 0
Few [] = Unit {0}
Few (one ∷ []) = Unit {0}
Few (one ∷ other ∷ more) = ⊥

pub few : {E X : Type 0} (otherwise : Option X) (says : E → X → Type 0) (entries : List E) (x : X) → SaysAlone otherwise says entries x
    → Few entries
few otherwise says [] x s = tt
few otherwise says (one ∷ []) x s = tt
few otherwise says (one ∷ other ∷ more) x s = s

pub few_behind : {E : Type 0} (one : E) (rest : List E) → Few (one ∷ rest) → rest ≡ []
few_behind one [] f = refl
few_behind one (other ∷ rest) f = absurd f

-- ---- from those that are alone

-- what each entry with the key says
pub each_says : {E X : Type 0} (test : E → Bool) (otherwise : Option X) (says : E → X → Type 0) (x : X) (entries : List E)
    → SaysAlone otherwise says (filter test entries) x → AllByRecursion (λ one. test one ≡ true → says one x) entries
each_says test otherwise says x [] s = tt
each_says {E} {X} test otherwise says x (one ∷ others) s =
    by (test one) refl (λ rest. each_says test otherwise says x others rest) s
  where
    alone_here : (rest : List E) → filter test others ≡ rest → SaysAlone otherwise says (one ∷ rest) x
        → AllByRecursion (λ one. test one ≡ true → says one x) (one ∷ others)
    alone_here [] e s = (
      (λ h. s),
      all_weaker (Fails test) (λ other. test other ≡ true → says other x) (λ other no h. absurd (no h)) others
          (none_pass test others e),
    )
    alone_here (other ∷ rest) e s = absurd s

    by : (b : Bool) → test one ≡ b
        → (SaysAlone otherwise says (filter test others) x → AllByRecursion (λ one. test one ≡ true → says one x) others)
        → SaysAlone otherwise says (cond b (one ∷ filter test others) (filter test others)) x
        → AllByRecursion (λ one. test one ≡ true → says one x) (one ∷ others)
    by true t more s = alone_here (filter test others) refl s
    by false t more s = ((λ h. let both = sym h ∙ t in absurd cc), more s)

-- one has the key and says this, or none has it
given_or_none : {E K X : Type 0} (t : Tested E K) (key : K) → (key ≡ t.unread → ⊥) → (otherwise : Option X) (says : E → X → Type 0) (x : X)
    (entries : List E) → SaysAlone otherwise says (with_key t key entries) x
    → Given (Has t key) says entries x ⊎ (AllByRecursion (λ one. Has t key one → ⊥) entries × (otherwise ≡ Some x))
given_or_none t key read otherwise says x [] s = inr (tt, s)
given_or_none {E} {K} {X} t key read otherwise says x (one ∷ others) s =
    by (t.test key one) refl (λ rest. given_or_none t key read otherwise says x others rest) s
  where
    first : (rest : List E) → SaysAlone otherwise says (one ∷ rest) x → says one x
    first [] s = s
    first (other ∷ rest) s = absurd s

    by : (b : Bool) → t.test key one ≡ b
        → (SaysAlone otherwise says (with_key t key others) x → Given (Has t key) says others x
        ⊎ (AllByRecursion (λ one. Has t key one → ⊥) others × (otherwise ≡ Some x)))
        → SaysAlone otherwise says (cond b (one ∷ with_key t key others) (with_key t key others)) x
        → Given (Has t key) says (one ∷ others) x
        ⊎ (AllByRecursion (λ one. Has t key one → ⊥) (one ∷ others) × (otherwise ≡ Some x))
    by true h more s = inl (inl (t.forth key one h, first (with_key t key others) s))
    by false h more s = elim (more s) [
      | inl g ↦ inl (inr g)
      | inr l ↦ inr (((λ is. let both = sym (t.back key one read is) ∙ h in cc), l.0), l.1)
    ]

pub given : {E K X : Type 0} (t : Tested E K) (key : K) → (key ≡ t.unread → ⊥) → (says : E → X → Type 0) (x : X) (entries : List E)
    → SaysAlone None says (with_key t key entries) x → Given (Has t key) says entries x
given t key read says x entries s = elim (given_or_none t key read None says x entries s) [ inl g ↦ g | inr l ↦ absurd (let e = l.1 in cc) ]

pub given_or : {E K X : Type 0} (t : Tested E K) (key : K) → (key ≡ t.unread → ⊥) → (otherwise : X) (says : E → X → Type 0) (x : X)
    (entries : List E) → SaysAlone (Some otherwise) says (with_key t key entries) x → GivenOr otherwise (Has t key) says entries x
given_or t key read otherwise says x entries s = elim (given_or_none t key read (Some otherwise) says x entries s) [
  | inl g ↦ inl g
  | inr l ↦ inr (l.0, (let e = l.1 in cc))
]

-- as no two have a key that is read, none stands twice
pub once : {E K : Type 0} (t : Tested E K) (entries : List E) → ((key : K) → (key ≡ t.unread → ⊥) → Few (with_key t key entries))
    → NoneTwice t.unread t.key_of entries
once t [] f = tt
once {E} {K} t (one ∷ others) f = (
  elim (t.is_unread (t.key_of one)) [
    | inl unread ↦ every (λ other. t.key_of one ≡ t.key_of other → t.key_of one ≡ t.unread) (λ other same. unread) others
    | inr read ↦
        let key = t.key_of one in
        let here : t.test key one ≡ true = t.back key one read refl in
        let F : Bool → Type 0 = λ b. Few (cond b (one ∷ with_key t key others) (with_key t key others)) in
        let none = few_behind one (with_key t key others) (subst F here (f key read)) in
        all_weaker (Fails (t.test key)) (λ other. key ≡ t.key_of other → key ≡ t.unread)
        (λ other no same. absurd (no (t.back key other read (sym same)))) others (none_pass (t.test key) others none)
  ],
  once t others (λ key read. tail key (t.test key one) (f key read)),
)
  where
    behind : (rest : List E) → Few (one ∷ rest) → Few rest
    behind [] f = tt
    behind (other ∷ rest) f = absurd f

    tail : (key : K) (b : Bool) → Few (cond b (one ∷ with_key t key others) (with_key t key others)) → Few (with_key t key others)
    tail key true f = behind (with_key t key others) f
    tail key false f = f

-- ---- to those that are alone

pub given_lacks : {E K X : Type 0} (t : Tested E K) (key : K) → (key ≡ t.unread → ⊥) → (says : E → X → Type 0) (x : X) (entries : List E)
    → Given (Has t key) says entries x → AllByRecursion (Fails (t.test key)) entries → ⊥
given_lacks t key read says x [] g all = g
given_lacks t key read says x (one ∷ others) (inl g) all = all.0 (t.back key one read g.0)
given_lacks t key read says x (one ∷ others) (inr g) all = given_lacks t key read says x others g all.1

pub alone : {E K X : Type 0} (t : Tested E K) (key : K) → (key ≡ t.unread → ⊥) → (otherwise : Option X) (says : E → X → Type 0) (x : X)
    (entries : List E) → NoneTwice t.unread t.key_of entries → Given (Has t key) says entries x
    → SaysAlone otherwise says (with_key t key entries) x
alone t key read otherwise says x [] none g = absurd g
alone {E} {K} {X} t key read otherwise says x (one ∷ others) none g =
    by (t.test key one) refl (λ rest. alone t key read otherwise says x others none.1 rest) g
  where
    others_lack : t.key_of one ≡ key → AllByRecursion (Fails (t.test key)) others
    others_lack is = all_weaker (λ other. t.key_of one ≡ t.key_of other → t.key_of one ≡ t.unread) (Fails (t.test key))
        (λ other no h. read (sym is ∙ no (is ∙ sym (t.forth key other h)))) others none.0

    by : (b : Bool) → t.test key one ≡ b → (Given (Has t key) says others x → SaysAlone otherwise says (with_key t key others) x)
        → Given (Has t key) says (one ∷ others) x
        → SaysAlone otherwise says (cond b (one ∷ with_key t key others) (with_key t key others)) x
    by true h more (inl g) =
        let S : List E → Type 0 = λ rest. SaysAlone otherwise says (one ∷ rest) x in
        subst S (sym (none_left (t.test key) others (others_lack (t.forth key one h)))) g.1
    by true h more (inr g) = absurd (given_lacks t key read says x others g (others_lack (t.forth key one h)))
    by false h more (inl g) = absurd (let both = sym (t.back key one read g.0) ∙ h in cc)
    by false h more (inr g) = more g

pub alone_or : {E K X : Type 0} (t : Tested E K) (key : K) → (key ≡ t.unread → ⊥) → (otherwise : X) (says : E → X → Type 0) (x : X)
    (entries : List E) → NoneTwice t.unread t.key_of entries → GivenOr otherwise (Has t key) says entries x
    → SaysAlone (Some otherwise) says (with_key t key entries) x
alone_or t key read otherwise says x entries none (inl g) = alone t key read (Some otherwise) says x entries none g
alone_or {E} {K} {X} t key read otherwise says x entries none (inr l) =
    let S : List E → Type 0 = λ rest. SaysAlone (Some otherwise) says rest x in
    let lacks = all_weaker (λ one. Has t key one → ⊥) (Fails (t.test key)) (λ one lack h. lack (t.forth key one h)) entries l.0 in
    subst S (sym (none_left (t.test key) entries lacks)) (ap (λ (y : X). Some y) (sym l.1))

-- what all of a list have in two ways
pub all_both : {A : Type 0} (P Q : A → Type 0) (xs : List A) → AllByRecursion P xs → AllByRecursion Q xs
    → AllByRecursion (λ x. P x × Q x) xs
all_both P Q [] p q = tt
all_both P Q (x ∷ xs) p q = ((p.0, q.0), all_both P Q xs p.1 q.1)

-- what all have for each key
pub all_keys : {A K : Type 0} (P : K → A → Type 0) (xs : List A) → ((key : K) → AllByRecursion (P key) xs)
    → AllByRecursion (λ x. (key : K) → P key x) xs
all_keys P [] f = tt
all_keys P (x ∷ xs) f = ((λ key. (f key).0), all_keys P xs (λ key. (f key).1))
