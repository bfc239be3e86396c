-- Walks over lists. What is told of a list is told of its elements one after the other: the first i of them, then one more. A
-- telling of two lists that are joined joins what it tells of each.
use Rattle.std.proofs.Common.{◌≡◌, ℕ, ◌+◌, ◌<◌, ◌≤◌, ◌⊎◌, inl, inr, Bool, true, false, List, [], ◌∷◌, ◌++◌, length, take, drop, get_or, if◌then◌else◌, Some, None, Contains, refl, sym, ap, ◌∙◌, subst, arith, append-nil, append_assoc}
use Rattle.std.specs.List.{flat_map, range_with_len, enumerate_from}
use Rattle.std.proofs.lemmas.List.{take_more, take-append-drop, length-map, get_or_default, take_all}
use Rattle.std.proofs.lemmas.List.Elements.{filter-append, Contains-append_left, Contains-push}
use Rattle.std.proofs.lemmas.Grind.{flat_map-append}
use Rattle.std.proofs.lemmas.List.FromFn.{length-range_with_len, get_or-map-range_with_len, length-enumerate_from, get_or-enumerate_from}
use Rattle.macho_model.specs.Objects.{num_sections, section_at}
use Rattle.macho_model.specs.Links.{Input, Object, Link, SectionId, section_id, no_input, object_of, object_bytes, header_at, is_carried, sections_of_file, sections_of, carried_of}
use Rattle.macho_model.specs.Needs.{relocations_of}
use Rattle.macho_model.specs.Uses.{Use, ByRelocation, uses_of, carried_uses}
use Rattle.macho_symbol_names.specs.Kept.{FileRows, Keeps}
use Rattle.macho_promise.specs.Noted.{BeginsWith}
use Rattle.macho_needs.specs.declared.needs.Needs.{Needs}
use Rattle.macho_relocation_scan.specs.declared.findings.Findings.{Findings}
use Rattle.macho_relocation_scan.specs.steps.Found.{IsSurveyed}
use Rattle.macho_needs.specs.Noted.{IsNext}
use Rattle.macho_relocation_scan.specs.steps.Sections.{HasRows, HasObject, carried_among, uses_among, carried_in, uses_in}
use Rattle.macho_relocation_scan.proofs.Listed.{in_filter}
use Rattle.macho_bytes.proofs.Members.{contains_map, contains_flat_map, contains_range}

-- a telling of lists
-- all of a list, once its number is reached
pub all_taken : {X : Type 0} (n : ℕ) (xs : List X) → length xs ≤ n → take n xs ≡ xs
all_taken n xs enough = take_all n xs enough

pub record Joins {X Y : Type 0} (tells : List X → List Y) : Type 0 where
  pub joined : (xs ys : List X) → tells (xs ++ ys) ≡ tells xs ++ tells ys

pub one_more : {X Y : Type 0} (tells : List X → List Y) → Joins tells → (ys : List Y) (xs : List X) (i : ℕ) (d : X) → i < length xs
    → (ys ++ tells (take i xs)) ++ tells (get_or xs i d ∷ []) ≡ ys ++ tells (take (i + 1) xs)
one_more tells joins ys xs i d below =
    append_assoc ys (tells (take i xs)) (tells (get_or xs i d ∷ []))
    ∙ ap (λ zs. ys ++ zs) (sym (joins.joined (take i xs) (get_or xs i d ∷ [])) ∙ ap tells (sym (take_more xs i d below)))

pub begins_less : (l : Link) (us ws : List Use) → BeginsWith l (us ++ ws) → BeginsWith l us
begins_less l us ws begins = record { rest = ws ++ begins.rest; is = begins.is ∙ append_assoc us ws begins.rest }

pub begins_more : {X : Type 0} (l : Link) (tells : List X → List Use) → Joins tells → (us : List Use) (xs : List X) (i : ℕ) (d : X)
    → i < length xs
    → BeginsWith l (us ++ tells xs) → BeginsWith l ((us ++ tells (take i xs)) ++ tells (get_or xs i d ∷ []))
begins_more {X} l tells joins us xs i d below begins =
    let whole : us ++ tells xs ≡ (us ++ tells (take (i + 1) xs)) ++ tells (drop (i + 1) xs)
    = ap (λ zs. us ++ tells zs) (sym (take-append-drop (i + 1) xs)) ∙ ap (λ zs. us ++ zs) (joins.joined (take (i + 1) xs) (drop (i + 1) xs))
    ∙ sym (append_assoc us (tells (take (i + 1) xs)) (tells (drop (i + 1) xs))) in
    subst (BeginsWith l) (sym (one_more tells joins us xs i d below))
    (begins_less l (us ++ tells (take (i + 1) xs)) (tells (drop (i + 1) xs)) (subst (BeginsWith l) whole begins))

-- the tellings
pub itself : Joins {X = Use} (λ us. us)
itself = record { joined = λ xs ys. refl }

pub carried_joins : (l : Link) → Joins (carried_among l)
carried_joins l = record { joined = filter-append (λ s. is_carried (header_at l s)) }

pub uses_join : (l : Link) → Joins (uses_among l)
uses_join l = record {
  joined = λ xs ys. ap (flat_map (carried_uses l)) (filter-append (λ s. is_carried (header_at l s)) xs ys)
      ∙ flat_map-append (carried_uses l) (carried_among l xs) (carried_among l ys);
}

-- the uses of a section, one by one
pub uses_long : (l : Link) (s : SectionId) → length (carried_uses l s) ≡ (header_at l s).nreloc
uses_long l s = length-map (relocations_of l s) (ByRelocation s) ∙ length-range_with_len 0 (header_at l s).nreloc

pub use_at : (l : Link) (s : SectionId) (r : ℕ) (d : Use) → r < (header_at l s).nreloc → get_or (carried_uses l s) r d ≡ ByRelocation s r
use_at l s r d below = get_or-map-range_with_len (ByRelocation s) 0 (header_at l s).nreloc r r d below (omega arith)

pub next_is : (l : Link) (us : List Use) (s : SectionId) (r : ℕ) → r < (header_at l s).nreloc → BeginsWith l (us ++ carried_uses l s)
    → IsNext l (us ++ take r (carried_uses l s)) (ByRelocation s r)
next_is l us s r below begins =
    subst (λ u. BeginsWith l ((us ++ take r (carried_uses l s)) ++ u ∷ [])) (use_at l s r (ByRelocation s r) below)
    (begins_more l (λ ws. ws) itself us (carried_uses l s) r (ByRelocation s r) (omega (arith, below, uses_long l s)) begins)

pub next_there : (l : Link) (us : List Use) (u : Use) → IsNext l us u → Contains (uses_of l) u
next_there l us u next = subst (λ (ws : List Use). Contains ws u) (sym next.is)
    (Contains-append_left (us ++ u ∷ []) next.rest u (Contains-push us u))

pub uses_more : (l : Link) (us : List Use) (s : SectionId) (r : ℕ) → r < (header_at l s).nreloc
    → (us ++ take r (carried_uses l s)) ++ ByRelocation s r ∷ [] ≡ us ++ take (r + 1) (carried_uses l s)
uses_more l us s r below =
    ap (λ u. (us ++ take r (carried_uses l s)) ++ u ∷ []) (sym (use_at l s r (ByRelocation s r) below))
    ∙ one_more (λ ws. ws) itself us (carried_uses l s) r (ByRelocation s r) (omega (arith, below, uses_long l s))

pub same_object : (l : Link) (file : ℕ) (bytes : List ℕ) → HasObject l file bytes → object_of l file ≡ bytes
same_object l file bytes has = ap object_bytes has.is

-- an input with its number
pub numbered_at : (l : Link) (i : ℕ) (x : Input) → i < length l.inputs → get_or l.inputs i no_input ≡ x → (d : ℕ × Input)
    → get_or (enumerate_from 0 l.inputs) i d ≡ (i, x)
numbered_at l i x below is d =
    get_or-enumerate_from 0 l.inputs i d below ∙ ap (λ n. (n, get_or l.inputs i d.1)) (omega arith)
    ∙ ap (λ y. (i, y)) (get_or_default l.inputs i d.1 no_input below ∙ is)

numbered : (l : Link) (file : ℕ) (bytes : List ℕ) → HasObject l file bytes → Contains (enumerate_from 0 l.inputs) (file, Object bytes)
numbered l file bytes has = (
  file,
  omega (arith, has.there, length-enumerate_from 0 l.inputs),
  numbered_at l file (Object bytes) has.there
      has.is (file, Object bytes),
)

pub carried_there : (l : Link) (file section : ℕ) (bytes : List ℕ) → HasObject l file bytes → section < num_sections bytes
    → is_carried (section_at bytes section) ≡ true
    → Contains (carried_of l) (section_id file section)
unfolding carried_of sections_of
carried_there l file section bytes has below carried =
    in_filter (λ s. is_carried (header_at l s)) (flat_map (λ i. sections_of_file i.0 i.1) (enumerate_from 0 l.inputs))
    (section_id file section)
    (ap (λ b. is_carried (section_at b section)) (same_object l file bytes has) ∙ carried)
    (contains_flat_map (λ i. sections_of_file i.0 i.1) (enumerate_from 0 l.inputs) (file, Object bytes) (section_id file section)
    (numbered l file bytes has)
    (contains_map (λ k. section_id file k) (range_with_len 0 (num_sections bytes)) section
    (contains_range (num_sections bytes) section below)))

-- inputs, each with its number
pub inputs_join : (l : Link) → Joins (carried_in l)
inputs_join l = record {
  joined = λ xs ys. ap (carried_among l) (flat_map-append (λ i. sections_of_file i.0 i.1) xs ys)
      ∙ filter-append (λ s. is_carried (header_at l s)) (flat_map (λ i. sections_of_file i.0 i.1) xs)
      (flat_map (λ i. sections_of_file i.0 i.1) ys);
}

pub uses_in_join : (l : Link) → Joins (uses_in l)
uses_in_join l = record {
  joined = λ xs ys. ap (flat_map (carried_uses l)) ((inputs_join l).joined xs ys)
      ∙ flat_map-append (carried_uses l) (carried_in l xs) (carried_in l ys);
}

-- the rows of symbols stay those of the inputs
pub rows_kept : (old new : List FileRows) (file : ℕ) (bytes : List ℕ) → HasRows old file bytes
    → ((inputs : List Input) → Keeps inputs old → Keeps inputs new) → HasRows new file bytes
rows_kept old new file bytes has kept = record { inputs = has.inputs; keeps = kept has.inputs has.keeps; there = has.there; is = has.is }

-- an element more of what is walked
pub walked_more : {X : Type 0} (l : Link) (V : List X → List SectionId) (W : List X → List Use) → Joins V → Joins W
    → (ss : List SectionId) (us : List Use) (xs : List X) (i : ℕ) (x : X)
    (n : Needs) (f : Findings) → i < length xs → get_or xs i x ≡ x
    → IsSurveyed l ((ss ++ V (take i xs)) ++ V (x ∷ [])) ((us ++ W (take i xs)) ++ W (x ∷ [])) n f
    → IsSurveyed l (ss ++ V (take (i + 1) xs)) (us ++ W (take (i + 1) xs)) n f
walked_more {X} l V W joins_v joins_w ss us xs i x n f below at is =
    let vs : (ss ++ V (take i xs)) ++ V (x ∷ []) ≡ ss ++ V (take (i + 1) xs) = ap (λ y. (ss ++ V (take i xs)) ++ V (y ∷ [])) (sym at)
    ∙ one_more V joins_v ss xs i x below in
    let ws : (us ++ W (take i xs)) ++ W (x ∷ []) ≡ us ++ W (take (i + 1) xs) = ap (λ y. (us ++ W (take i xs)) ++ W (y ∷ [])) (sym at)
    ∙ one_more W joins_w us xs i x below in
    subst (λ (a : List SectionId). IsSurveyed l a (us ++ W (take (i + 1) xs)) n f) vs
    (subst (λ (a : List Use). IsSurveyed l ((ss ++ V (take i xs)) ++ V (x ∷ [])) a n f) ws is)

pub walk_begins : {X : Type 0} (l : Link) (W : List X → List Use) → Joins W → (us : List Use) (xs : List X) (i : ℕ) (x : X)
    → i < length xs → get_or xs i x ≡ x
    → BeginsWith l (us ++ W xs) → BeginsWith l ((us ++ W (take i xs)) ++ W (x ∷ []))
walk_begins {X} l W joins us xs i x below at begins =
    subst (λ (y : X). BeginsWith l ((us ++ W (take i xs)) ++ W (y ∷ []))) at (begins_more l W joins us xs i x below begins)

pub walked_all : {X : Type 0} (l : Link) (V : List X → List SectionId) (W : List X → List Use) (ss : List SectionId) (us : List Use)
    (xs : List X) (i : ℕ) (n : Needs) (f : Findings)
    → length xs ≤ i → IsSurveyed l (ss ++ V (take i xs)) (us ++ W (take i xs)) n f → IsSurveyed l (ss ++ V xs) (us ++ W xs) n f
walked_all {X} l V W ss us xs i n f past is = subst (λ (zs : List X). IsSurveyed l (ss ++ V zs) (us ++ W zs) n f) (all_taken i xs past) is

pub walked_none : (l : Link) (ss : List SectionId) (us : List Use) (n : Needs) (f : Findings) → IsSurveyed l ss us n f
    → IsSurveyed l (ss ++ []) (us ++ []) n f
walked_none l ss us n f is =
    subst (λ (a : List SectionId). IsSurveyed l a (us ++ []) n f) (sym (append-nil ss))
    (subst (λ (a : List Use). IsSurveyed l ss a n f) (sym (append-nil us)) is)

-- one section, carried or not
pub one_carried : (l : Link) (s : SectionId) → is_carried (header_at l s) ≡ true → carried_among l (s ∷ []) ≡ s ∷ []
one_carried l s e = rw e refl

pub one_uses : (l : Link) (s : SectionId) → is_carried (header_at l s) ≡ true → uses_among l (s ∷ []) ≡ carried_uses l s
one_uses l s e = ap (flat_map (carried_uses l)) (one_carried l s e) ∙ append-nil (carried_uses l s)

pub is_carried_one : (l : Link) (ss : List SectionId) (us : List Use) (s : SectionId) (n : Needs) (f : Findings)
    → is_carried (header_at l s) ≡ true
    → IsSurveyed l (ss ++ s ∷ []) (us ++ carried_uses l s) n f
    → IsSurveyed l (ss ++ carried_among l (s ∷ [])) (us ++ uses_among l (s ∷ [])) n f
is_carried_one l ss us s n f e is =
    subst (λ (a : List SectionId). IsSurveyed l (ss ++ a) (us ++ uses_among l (s ∷ [])) n f) (sym (one_carried l s e))
    (subst (λ (a : List Use). IsSurveyed l (ss ++ s ∷ []) (us ++ a) n f) (sym (one_uses l s e)) is)

-- an answer about a section that is there
pub some_section : {X : Type 0} (b : Bool) (x y : X) → Some x ≡ (if b then Some y else None) → x ≡ y
some_section true x y e = cc
some_section false x y e = cc

-- the sections of an object, by number
pub sections_long : (file : ℕ) (bytes : List ℕ) → length (sections_of_file file (Object bytes)) ≡ num_sections bytes
sections_long file bytes = length-map (range_with_len 0 (num_sections bytes)) (section_id file)
    ∙ length-range_with_len 0 (num_sections bytes)

pub section_of : (file : ℕ) (bytes : List ℕ) (k : ℕ) → k < num_sections bytes
    → get_or (sections_of_file file (Object bytes)) k (section_id file k) ≡ section_id file k
section_of file bytes k below = get_or-map-range_with_len (section_id file) 0 (num_sections bytes) k k (section_id file k) below
    (omega arith)
