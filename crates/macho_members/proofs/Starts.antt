-- The names that are looked up first are those that objects use, and the members of whole archives.
-- Take the inputs one by one. If the first one is an object, its names are used by an object. If it is a whole archive, each of its names
-- is used by one of its members, and these are linked whatever names are used. Other inputs bring up no name. What the rest of the inputs
-- brings up is used by an object of the rest, which is one of all objects, or by a member of a whole archive, whose number is one more.
-- The other way goes by the same cases: a name that is used stands in the part of its input.
use Rattle.std.proofs.Common.{◌≡◌, ℕ, ◌<◌, ◌⊎◌, inl, inr, zero, suc, List, [], ◌∷◌, ◌++◌, true, false, map, length, get_or, refl, sym, ap, subst, arith, Contains, ◌+◌, ◌∙◌, take, append_assoc, append-nil}
use Rattle.std.proofs.lemmas.List.{take_more}
use Rattle.std.proofs.lemmas.Grind.{flat_map-append}
use Rattle.std.specs.List.{flat_map}
use Rattle.std.proofs.lemmas.List.Elements.{Contains-append_left, Contains-append_right, Contains-append_cases}
use Rattle.macho_members.specs.declared.inputs.ObjectNames.{ObjectNames}
use Rattle.macho_members.specs.declared.inputs.Asked.{Asked}
use Rattle.macho_members.specs.declared.inputs.Asked.TheVariants.{Object, Library, Archive}
use Rattle.macho_members.specs.Inputs.{Names, Input, object_of, objects_of, whole_at}
use Rattle.macho_members.specs.Needs.{MemberUses, ObjectUses}
use Rattle.macho_members.specs.Views.{texts, names_of, input_of, inputs_of}
use Rattle.macho_members.specs.steps.Held.{starts_in}

-- a member of a whole archive uses a name
abbrev pub WholeUses : List Input → List ℕ → Type 0
WholeUses inputs name = (j : ℕ) × (n : ℕ) × (n < length (whole_at inputs j)) × MemberUses inputs j n name

abbrev nobody : Names
nobody = record { used = []; defined = [] }

abbrev used_by : List ObjectNames → List (List ℕ)
used_by ms = flat_map (λ m. texts m.used.now) ms

-- what some members use, one of them uses
abbrev OneUses : List ObjectNames → List ℕ → Type 0
OneUses ms name = (n : ℕ) × (n < length (map names_of ms)) × Contains (get_or (map names_of ms) n nobody).used name

one_uses : (ms : List ObjectNames) (name : List ℕ) → Contains (used_by ms) name → OneUses ms name
one_uses [] name there = absurd (omega (arith, there.1))
one_uses (m ∷ ms) name there = by (one_uses ms name) (Contains-append_cases (texts m.used.now) (used_by ms) name there)
  where
    by : (Contains (used_by ms) name → OneUses ms name) → Contains (texts m.used.now) name ⊎ Contains (used_by ms) name
        → OneUses (m ∷ ms) name
    by rest (inl h) = (0, omega arith, h)
    by rest (inr h) = let r = rest h in (suc r.0, omega (arith, r.1), r.2)

-- and what one of them uses, they use
all_use : (ms : List ObjectNames) (name : List ℕ) (n : ℕ) → n < length (map names_of ms)
    → Contains (get_or (map names_of ms) n nobody).used name → Contains (used_by ms) name
all_use [] name n h uses = absurd (omega (arith, h))
all_use (m ∷ ms) name zero h uses = Contains-append_left (texts m.used.now) (used_by ms) name uses
all_use (m ∷ ms) name (suc n) h uses =
    Contains-append_right (texts m.used.now) (used_by ms) name (all_use ms name n (omega (arith, h)) uses)

-- with one input more in front
more_objects : (x : Input) (inputs : List Input) (name : List ℕ) → ObjectUses inputs name → ObjectUses (x ∷ inputs) name
more_objects x inputs name (o, there, uses) = (o, Contains-append_right (object_of x) (objects_of inputs) o there, uses)

more_wholes : (x : Input) (inputs : List Input) (name : List ℕ) → WholeUses inputs name → WholeUses (x ∷ inputs) name
more_wholes x inputs name (j, n, low, uses) = (suc j, n, low, uses)

-- a name that is looked up first is used by an object or by a member of a whole archive
pub started : (xs : List Asked) (name : List ℕ) → Contains (flat_map starts_in xs) name
    → ObjectUses (inputs_of xs) name ⊎ WholeUses (inputs_of xs) name
started [] name there = absurd (omega (arith, there.1))
started (x ∷ xs) name there = by (started xs name) (Contains-append_cases (starts_in x) (flat_map starts_in xs) name there)
  where
    first : (x : Asked) → Contains (starts_in x) name → ObjectUses (inputs_of (x ∷ xs)) name ⊎ WholeUses (inputs_of (x ∷ xs)) name
    first (Object names) h = inl (names_of names, (0, omega arith, refl), h)
    first (Library _) h = absurd (omega (arith, h.1))
    first (Archive true ms) h = let one = one_uses ms.now name h in inr (0, one.0, one.1, one.2)
    first (Archive false _) h = absurd (omega (arith, h.1))

    rest : ObjectUses (inputs_of xs) name ⊎ WholeUses (inputs_of xs) name
        → ObjectUses (inputs_of (x ∷ xs)) name ⊎ WholeUses (inputs_of (x ∷ xs)) name
    rest (inl h) = inl (more_objects (input_of x) (inputs_of xs) name h)
    rest (inr h) = inr (more_wholes (input_of x) (inputs_of xs) name h)

    by : (Contains (flat_map starts_in xs) name → ObjectUses (inputs_of xs) name ⊎ WholeUses (inputs_of xs) name)
        → Contains (starts_in x) name ⊎ Contains (flat_map starts_in xs) name
        → ObjectUses (inputs_of (x ∷ xs)) name ⊎ WholeUses (inputs_of (x ∷ xs)) name
    by later (inl h) = first x h
    by later (inr h) = rest (later h)

-- and what these use is looked up first
pub objects_start : (xs : List Asked) (name : List ℕ) → ObjectUses (inputs_of xs) name → Contains (flat_map starts_in xs) name
objects_start [] name (o, there, uses) = absurd (omega (arith, there.1))
objects_start (Object names ∷ xs) name (o, there, uses) =
    by (λ h. objects_start xs name (o, h, uses)) (Contains-append_cases (names_of names ∷ []) (objects_of (inputs_of xs)) o there)
  where
    here : (k : ℕ) → k < 1 → get_or (names_of names ∷ []) k o ≡ o → names_of names ≡ o
    here zero h e = e
    here (suc k) h e = absurd (omega (arith, h))

    by : (Contains (objects_of (inputs_of xs)) o → Contains (flat_map starts_in xs) name)
        → Contains (names_of names ∷ []) o ⊎ Contains (objects_of (inputs_of xs)) o
        → Contains (texts names.used.now ++ flat_map starts_in xs) name
    by later (inl h) = Contains-append_left (texts names.used.now) (flat_map starts_in xs) name
        (subst (λ (p : Names). Contains p.used name) (sym (here h.0 h.1 h.2)) uses)
    by later (inr h) = Contains-append_right (texts names.used.now) (flat_map starts_in xs) name (later h)
objects_start (Library _ ∷ xs) name uses = objects_start xs name uses
objects_start (Archive true ms ∷ xs) name uses =
    Contains-append_right (used_by ms.now) (flat_map starts_in xs) name (objects_start xs name uses)
objects_start (Archive false _ ∷ xs) name uses = objects_start xs name uses

pub wholes_start : (xs : List Asked) (j n : ℕ) (name : List ℕ) → n < length (whole_at (inputs_of xs) j)
    → MemberUses (inputs_of xs) j n name → Contains (flat_map starts_in xs) name
wholes_start [] j n name low uses = absurd (omega (arith, low))
wholes_start (Object _ ∷ xs) zero n name low uses = absurd (omega (arith, low))
wholes_start (Library _ ∷ xs) zero n name low uses = absurd (omega (arith, low))
wholes_start (Archive true ms ∷ xs) zero n name low uses =
    Contains-append_left (used_by ms.now) (flat_map starts_in xs) name (all_use ms.now name n low uses)
wholes_start (Archive false _ ∷ xs) zero n name low uses = absurd (omega (arith, low))
wholes_start (x ∷ xs) (suc j) n name low uses =
    Contains-append_right (starts_in x) (flat_map starts_in xs) name (wholes_start xs j n name low uses)

-- one more of several that add names behind others
pub starts_more : {X : Type 0} (f : X → List (List ℕ)) (xs : List X) (i : ℕ) (d : X) (old now next : List (List ℕ)) → i < length xs
    → now ≡ old ++ flat_map f (take i xs) → next ≡ now ++ f (get_or xs i d) → next ≡ old ++ flat_map f (take (i + 1) xs)
starts_more f xs i d old now next low was is =
    is ∙ ap (λ l. l ++ f (get_or xs i d)) was ∙ append_assoc old (flat_map f (take i xs)) (f (get_or xs i d))
    ∙ ap (λ l. old ++ l) (sym (ap (flat_map f) (take_more xs i d low) ∙ flat_map-append f (take i xs) (get_or xs i d ∷ [])
    ∙ ap (λ l. flat_map f (take i xs) ++ l) (append-nil (f (get_or xs i d)))))
