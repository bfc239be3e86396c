-- Mappings of any keys. Each key that is read has a field of what is known, which an entry with the key fills, if it was
-- empty; a key that isn't read has none.
-- From the steps of the entries to the mapping: a field was filled by the entry with its key, or no entry has the key; and
-- once a field is filled, no later entry has its key, so none stands twice.
-- From the mapping to the steps: as no key stands twice, each entry says what the whole mapping says under its key. So
-- what is known behind the entries is put together from these values alone, and when an entry comes its field is empty.
use Rattle.std.proofs.Common.{◌≡◌, List, [], ◌∷◌, Option, Some, None, refl, sym, ap, ◌∙◌, ◌⊎◌, inl, inr, subst}
use Rattle.std.specs.Prelude.{false, is_some, unwrap_or}
use Rattle.std.specs.List.{AllByRecursion}
use Rattle.macho_bytes.proofs.Maps.{all_weaker}

-- one of the entries has the key, and says this
abbrev pub Given : {E X : Type 0} → (E → Type 0) → (E → X → Type 0) → List E → X → Type 0
Given has_key says [] x = ⊥
Given has_key says (one ∷ others) x = (has_key one × says one x) ⊎ Given has_key says others x

-- the same, or no entry has the key, and this is what is said then
abbrev pub GivenOr : {E X : Type 0} → X → (E → Type 0) → (E → X → Type 0) → List E → X → Type 0
GivenOr otherwise has_key says entries x =
    Given has_key says entries x ⊎ (AllByRecursion (λ one. has_key one → ⊥) entries × (x ≡ otherwise))

-- no two entries have the same key, but for keys that aren't read
abbrev pub NoneTwice : {E K : Type 0} → K → (E → K) → List E → Type 0
NoneTwice unread key_of [] = Unit {0}
NoneTwice unread key_of (one ∷ others) =
    AllByRecursion (λ other. key_of one ≡ key_of other → key_of one ≡ unread) others × NoneTwice unread key_of others

-- Entries with keys, what an entry says under a key, and a state with a field for each key that is read.
pub record Mapping : Type 1 where
  pub Entry : Type 0
  pub Key : Type 0
  pub State : Type 0
  pub Value : Key → Type 0
  pub key_of : Entry → Key
  pub unread : Key
  pub Says : (key : Key) → Entry → Value key → Type 0
  pub field : (key : Key) → State → Option (Value key)
  pub put : (key : Key) → Value key → State → State
  pub is_same : (key other : Key) → (key ≡ other) ⊎ (key ≡ other → ⊥)
  pub put_same : (key : Key) (x : Value key) (state : State) → (key ≡ unread → ⊥) → field key (put key x state) ≡ Some x
  pub put_other : (key other : Key) (x : Value key) (state : State) → (key ≡ other → ⊥)
      → field other (put key x state) ≡ field other state
  pub unread_none : (state : State) → field unread state ≡ None

-- the key of an entry
abbrev pub HasKey : (m : Mapping) → m.Key → m.Entry → Type 0
HasKey m key one = m.key_of one ≡ key

-- one of the entries has the key, and says this
abbrev pub Gives : (m : Mapping) (key : m.Key) → List m.Entry → m.Value key → Type 0
Gives m key entries x = Given (HasKey m key) (m.Says key) entries x

-- no entry has the key
abbrev pub Lack : (m : Mapping) → m.Key → List m.Entry → Type 0
Lack m key entries = AllByRecursion (λ one. HasKey m key one → ⊥) entries

-- an entry with this key fills its field, which was empty
abbrev pub Step : (m : Mapping) → m.Key → m.Entry → m.State → m.State → Type 0
Step m key one old new = (m.field key old ≡ None) × (x : m.Value key) × m.Says key one x × (new ≡ m.put key x old)

-- the entries, one behind the other, each under its own key
abbrev pub Steps : (m : Mapping) → List m.Entry → m.State → m.State → Type 0
Steps m [] old new = new ≡ old
Steps m (one ∷ others) old new = (mid : m.State) × Step m (m.key_of one) one old mid × Steps m others mid new

-- what holds of all holds of each element
pub every : {A : Type 0} (P : A → Type 0) → ((a : A) → P a) → (xs : List A) → AllByRecursion P xs
every P p [] = tt
every P p (x ∷ xs) = (p x, every P p xs)

-- a field that isn't filled is empty
pub none_of : {X : Type 0} (field : Option X) → is_some field ≡ false → field ≡ None
none_of None e = refl
none_of (Some x) e = absurd cc

-- ---- from the steps to the mapping

-- Over the entries a field was filled, or it is what it was.
abbrev Reads : (m : Mapping) → m.Key → List m.Entry → m.State → m.State → Type 0
Reads m key entries old new =
    ((m.field key old ≡ None) × (x : m.Value key) × Gives m key entries x × (m.field key new ≡ Some x))
    ⊎ (Lack m key entries × (m.field key new ≡ m.field key old))

reads : (m : Mapping) (key : m.Key) (entries : List m.Entry) (old new : m.State) → (key ≡ m.unread → ⊥) → Steps m entries old new
    → Reads m key entries old new
reads m key [] old new read s = inr (tt, ap (m.field key) s)
reads m key (one ∷ others) old new read s =
    let rest : Reads m key others s.0 new = reads m key others s.0 new read s.2 in
    elim (m.is_same (m.key_of one) key) [
      | inl same ↦
          let T : m.Key → Type 0 = λ k. Step m k one old s.0 in
          let step : Step m key one old s.0 = subst T same s.1 in
          let here : m.field key s.0 ≡ Some step.1 = ap (m.field key) step.3 ∙ m.put_same key step.1 old read in
          elim rest [
            | inl again ↦ absurd cc
            | inr kept ↦ inl (step.0, step.1, inl (same, step.2), kept.1 ∙ here)
          ]
      | inr other ↦
          let here : m.field key s.0 ≡ m.field key old = ap (m.field key) s.1.3 ∙ m.put_other (m.key_of one) key s.1.1 old other in
          elim rest [
            | inl given ↦ inl (sym here ∙ given.0, given.1, inr given.2, given.3)
            | inr lacks ↦ inr ((other, lacks.0), lacks.1 ∙ here)
          ]
    ]

-- what stands in a field behind the entries, one of them says
pub gives : (m : Mapping) (key : m.Key) (entries : List m.Entry) (old new : m.State) (x : m.Value key) → (key ≡ m.unread → ⊥)
    → Steps m entries old new → m.field key old ≡ None → m.field key new ≡ Some x → Gives m key entries x
gives m key entries old new x read s none some =
    elim (reads m key entries old new read s) [
      | inl given ↦
          let G : m.Value key → Type 0 = λ y. Gives m key entries y in
          let e : given.1 ≡ x = cc in
          subst G e given.2
      | inr lacks ↦ absurd cc
    ]

-- the same with a default
pub gives_or : (m : Mapping) (key : m.Key) (entries : List m.Entry) (old new : m.State) (otherwise x : m.Value key)
    → (key ≡ m.unread → ⊥) → Steps m entries old new → m.field key old ≡ None → x ≡ unwrap_or (m.field key new) otherwise
    → GivenOr otherwise (HasKey m key) (m.Says key) entries x
gives_or m key entries old new otherwise x read s none e =
    let or : Option (m.Value key) → m.Value key = λ o. unwrap_or o otherwise in
    elim (reads m key entries old new read s) [
      | inl given ↦
          let G : m.Value key → Type 0 = λ y. Gives m key entries y in
          inl (subst G (sym (e ∙ ap or given.3)) given.2)
      | inr lacks ↦ inr (lacks.0, e ∙ ap or (lacks.1 ∙ none))
    ]

-- no key that is read stands twice
pub once : (m : Mapping) (entries : List m.Entry) (old new : m.State) → Steps m entries old new → NoneTwice m.unread m.key_of entries
once m [] old new s = tt
once m (one ∷ others) old new s =
    let key = m.key_of one in
    let N : m.Entry → Type 0 = λ other. key ≡ m.key_of other → key ≡ m.unread in
    let here : AllByRecursion N others = elim (m.is_same key m.unread) [
      | inl unread ↦ every N (λ other same. unread) others
      | inr read ↦ elim (reads m key others s.0 new read s.2) [
        | inl again ↦
            let full : m.field key s.0 ≡ Some s.1.1 = ap (m.field key) s.1.3 ∙ m.put_same key s.1.1 old read in
            absurd cc
        | inr lacks ↦ all_weaker (λ other. HasKey m key other → ⊥) N (λ other lack same. absurd (lack (sym same))) others lacks.0
      ]
    ] in
    (here, once m others s.0 new s.2)

-- what no entry changes
pub steps_keep : {X : Type 0} (m : Mapping) (part : m.State → X)
    → ((key : m.Key) (x : m.Value key) (state : m.State) → part (m.put key x state) ≡ part state)
    → (entries : List m.Entry) (old new : m.State) → Steps m entries old new → part new ≡ part old
steps_keep m part keeps [] old new s = ap part s
steps_keep m part keeps (one ∷ others) old new s = steps_keep m part keeps others s.0 new s.2 ∙ ap part s.1.3
    ∙ keeps (m.key_of one) s.1.1 old

-- ---- from the mapping to the steps

-- what is known behind an entry, where it says what these values are
abbrev pub filled : (m : Mapping) → ((key : m.Key) → m.Value key) → m.Entry → m.State → m.State
filled m values one old = m.put (m.key_of one) (values (m.key_of one)) old

-- and behind all entries
abbrev pub known : (m : Mapping) → ((key : m.Key) → m.Value key) → List m.Entry → m.State → m.State
known m values [] old = old
known m values (one ∷ others) old = known m values others (filled m values one old)

-- each entry with the key says this
abbrev pub Agree : (m : Mapping) (key : m.Key) → List m.Entry → m.Value key → Type 0
Agree m key entries x = AllByRecursion (λ one. HasKey m key one → m.Says key one x) entries

-- the field of the entry's key
put_value : (m : Mapping) (values : (key : m.Key) → m.Value key) (key : m.Key) (one : m.Entry) (old : m.State) → (key ≡ m.unread → ⊥)
    → HasKey m key one → m.field key (filled m values one old) ≡ Some (values key)
put_value m values key one old read same =
    let P : m.Key → Type 0 = λ k. m.field key (m.put k (values k) old) ≡ Some (values key) in
    subst P (sym same) (m.put_same key (values key) old read)

-- a field with its value keeps it
known_still : (m : Mapping) (values : (key : m.Key) → m.Value key) (key : m.Key) (entries : List m.Entry) (old : m.State)
    → (key ≡ m.unread → ⊥) → m.field key old ≡ Some (values key) → m.field key (known m values entries old) ≡ Some (values key)
known_still m values key [] old read some = some
known_still m values key (one ∷ others) old read some =
    known_still m values key others (filled m values one old) read (elim (m.is_same (m.key_of one) key) [
      | inl same ↦ put_value m values key one old read same
      | inr other ↦ m.put_other (m.key_of one) key (values (m.key_of one)) old other ∙ some
    ])

-- The field of a key that an entry has is its value.
pub known_given : (m : Mapping) (values : (key : m.Key) → m.Value key) (key : m.Key) (entries : List m.Entry) (old : m.State)
    (x : m.Value key) → (key ≡ m.unread → ⊥) → Gives m key entries x → m.field key (known m values entries old) ≡ Some (values key)
known_given m values key [] old x read g = absurd g
known_given m values key (one ∷ others) old x read (inl g) = known_still m values key others
    (filled m values one old) read (put_value m values key one old read g.0)
known_given m values key (one ∷ others) old x read (inr g) = known_given m values key others
    (filled m values one old) x read g

-- the field of a key that no entry has is what it was
known_lacking : (m : Mapping) (values : (key : m.Key) → m.Value key) (key : m.Key) (entries : List m.Entry) (old : m.State)
    → Lack m key entries → m.field key (known m values entries old) ≡ m.field key old
known_lacking m values key [] old lacks = refl
known_lacking m values key (one ∷ others) old lacks = known_lacking m values key others
    (filled m values one old) lacks.1 ∙ m.put_other (m.key_of one) key (values (m.key_of one)) old lacks.0

-- the same with a default
pub known_or : (m : Mapping) (values : (key : m.Key) → m.Value key) (key : m.Key) (entries : List m.Entry) (old : m.State)
    (otherwise : m.Value key) → (key ≡ m.unread → ⊥) → m.field key old ≡ None
    → GivenOr otherwise (HasKey m key) (m.Says key) entries (values key)
    → values key ≡ unwrap_or (m.field key (known m values entries old)) otherwise
known_or m values key entries old otherwise read none (inl g) =
    let or : Option (m.Value key) → m.Value key = λ o. unwrap_or o otherwise in
    sym (ap or (known_given m values key entries old (values key) read g))
known_or m values key entries old otherwise read none (inr l) =
    let or : Option (m.Value key) → m.Value key = λ o. unwrap_or o otherwise in
    l.1 ∙ sym (ap or (known_lacking m values key entries old l.0 ∙ none))

-- what no entry changes
pub known_keep : {X : Type 0} (m : Mapping) (values : (key : m.Key) → m.Value key) (part : m.State → X)
    → ((key : m.Key) (x : m.Value key) (state : m.State) → part (m.put key x state) ≡ part state)
    → (entries : List m.Entry) (old : m.State) → part (known m values entries old) ≡ part old
known_keep m values part keeps [] old = refl
known_keep m values part keeps (one ∷ others) old = known_keep m values part keeps others (filled m values one old)
    ∙ keeps (m.key_of one) (values (m.key_of one)) old

-- no entry has the key of one before it, if that is read
not_again : (m : Mapping) (key other : m.Key) (entries : List m.Entry) (x : m.Value key) → (key ≡ m.unread → ⊥) → other ≡ key
    → AllByRecursion (λ one. other ≡ m.key_of one → other ≡ m.unread) entries → Gives m key entries x → ⊥
not_again m key other [] x read same all g = g
not_again m key other (one ∷ others) x read same all (inl g) = read (sym same ∙ all.0 (same ∙ sym g.0))
not_again m key other (one ∷ others) x read same all (inr g) = not_again m key other others x read same all.1 g

-- As no key stands twice, each entry with the key says what the one that is given says.
pub agree : (m : Mapping) (key : m.Key) (entries : List m.Entry) (x : m.Value key) → (key ≡ m.unread → ⊥)
    → NoneTwice m.unread m.key_of entries → Gives m key entries x → Agree m key entries x
agree m key [] x read none g = tt
agree m key (one ∷ others) x read none (inl g) = (
  λ same. g.1,
  all_weaker (λ other. m.key_of one ≡ m.key_of other → m.key_of one ≡ m.unread) (λ other. HasKey m key other → m.Says key other x)
      (λ other no same. absurd (read (sym g.0 ∙ no (g.0 ∙ sym same)))) others none.0,
)
agree m key (one ∷ others) x read none (inr g) = (
  λ same. absurd (not_again m key (m.key_of one) others x read same none.0 g),
  agree m key others x read none.1 g,
)

-- the same with a default
pub agree_or : (m : Mapping) (key : m.Key) (entries : List m.Entry) (otherwise x : m.Value key) → (key ≡ m.unread → ⊥)
    → NoneTwice m.unread m.key_of entries → GivenOr otherwise (HasKey m key) (m.Says key) entries x → Agree m key entries x
agree_or m key entries otherwise x read none (inl g) = agree m key entries x read none g
agree_or m key entries otherwise x read none (inr l) = all_weaker (λ one. HasKey m key one → ⊥)
    (λ one. HasKey m key one → m.Says key one x) (λ one lack same. absurd (lack same)) entries l.0

-- behind an entry, the fields of the others are still empty
still_empty : (m : Mapping) (key : m.Key) (x : m.Value key) (entries : List m.Entry) (old : m.State)
    → AllByRecursion (λ one. key ≡ m.key_of one → key ≡ m.unread) entries
    → AllByRecursion (λ one. m.field (m.key_of one) old ≡ None) entries
    → AllByRecursion (λ one. m.field (m.key_of one) (m.put key x old) ≡ None) entries
still_empty m key x [] old none empty = tt
still_empty m key x (one ∷ others) old none empty =
    let N : m.Key → Type 0 = λ k. m.field k (m.put key x old) ≡ None in
    let here : m.field (m.key_of one) (m.put key x old) ≡ None = elim (m.is_same key (m.key_of one)) [
      | inl same ↦ subst N (sym (none.0 same) ∙ same) (m.unread_none (m.put key x old))
      | inr other ↦ m.put_other key (m.key_of one) x old other ∙ empty.0
    ] in
    (here, still_empty m key x others old none.1 empty.1)

-- the steps, from where the fields of the entries are empty
steps_from : (m : Mapping) (values : (key : m.Key) → m.Value key) (entries : List m.Entry) (old : m.State)
    → NoneTwice m.unread m.key_of entries → ((key : m.Key) → Agree m key entries (values key))
    → AllByRecursion (λ one. m.field (m.key_of one) old ≡ None) entries → Steps m entries old (known m values entries old)
steps_from m values [] old none agrees empty = refl
steps_from m values (one ∷ others) old none agrees empty =
    let key = m.key_of one in
    let mid = filled m values one old in (
      mid,
      (empty.0, values key, (agrees key).0 refl, refl),
      steps_from m values others mid none.1 (λ k. (agrees k).1) (still_empty m key (values key) others old none.0 empty.1),
    )

-- Entries of which no key stands twice, and each says the value of its key, are steps from where nothing is known.
pub steps : (m : Mapping) (values : (key : m.Key) → m.Value key) (entries : List m.Entry) (old : m.State)
    → NoneTwice m.unread m.key_of entries → ((key : m.Key) → Agree m key entries (values key))
    → ((key : m.Key) → m.field key old ≡ None) → Steps m entries old (known m values entries old)
steps m values entries old none agrees empty = steps_from m values entries old none agrees
    (every (λ one. m.field (m.key_of one) old ≡ None) (λ one. empty (m.key_of one)) entries)
