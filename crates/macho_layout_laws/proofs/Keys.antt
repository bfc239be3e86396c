-- What sections are merged by, in the link's words and in the plan's.
--
-- A plan's output sections are named as the link's keys, filled with zeros, in the same order. No two keys are the same, so a key has the
-- number of its place. A section's cell has the number of the section's key, and that of the commons has the number of theirs.
use Rattle.std.proofs.Common.{◌≡◌, ℕ, zero, suc, ◌<◌, ◌≤◌, ◌==◌, ◌&&◌, not, Bool, true, false, cond, List, [], ◌∷◌, ◌++◌, map, length, get_or, replicate, ◌-◌, All, AllPairs, Contains, refl, sym, ap, ◌∙◌, arith, inl, inr}
use Rattle.std.specs.List.{list_any, position_or_len}
use Rattle.std.proofs.lemmas.Bool.{eqb-true, eq-eqb, cases_lt}
use Rattle.std.proofs.lemmas.Bool.Decides.{same_from_decides}
use Rattle.std.proofs.lemmas.List.{append-nil, length-map, length-append, get_or-map, get_or_default, get_or_append_left, get_or_past, map_push}
use Rattle.std.proofs.lemmas.List.Elements.{All-nil, All-cons, All-append, All-map, All-contains_itself}
use Rattle.macho_bytes.specs.Texts.{name_of}
use Rattle.macho_records.specs.declared.segments.SegmentName.{SegmentName}
use Rattle.macho_records.specs.Sections.{type_of}
use Rattle.macho_model.specs.declared.placed.Counts.{Counts}
use Rattle.macho_model.specs.declared.placed.PlacedSection.{PlacedSection}
use Rattle.macho_model.specs.declared.placed.PlacedCommon.{PlacedCommon}
use Rattle.macho_model.specs.Links.{Link, SectionId, header_at, carried_of}
use Rattle.macho_model.specs.Resolution.{chosen_commons}
use Rattle.macho_model.specs.Needs.{distinct}
use Rattle.macho_model.specs.Segments.{OutputKey, same_key, key_of, common_key, output_keys_of, list_if}
use Rattle.macho_model.specs.Placement.{Placed, id_of}
use Rattle.macho_stack.specs.declared.members.PlacedMember.{PlacedMember}
use Rattle.macho_layout.specs.declared.spec.OutputName.{OutputName}
use Rattle.macho_layout.specs.Plans.{Planning, IsPlanOf}
use Rattle.macho_layout.specs.Keys.{padded, same_output}
use Rattle.macho_layout.specs.Names.{section_outputs, has_new_commons, merged_names, output_at, COMMON_NAME}
use Rattle.macho_layout.specs.Sums.{FitsLimits}
use Rattle.macho_layout.specs.Laid.{IsLaidOut}
use Rattle.macho_layout.proofs.CostLaw.{key-decides, common_agrees}
use Rattle.macho_layout.proofs.Distinct.{distinct_push}
use Rattle.macho_layout.proofs.Named.{distinct_map}
use Rattle.macho_layout.proofs.SumLaw.{output_key, outputs_are, outputs_once, commons_many}
use Rattle.macho_layout.proofs.Tests.{length-list_if}
use Rattle.macho_layout_laws.proofs.Names.{IsName, name_twice, segment_key_is, distinct_apart, all_distinct, place_is}
use Rattle.macho_layout_laws.proofs.Members.{SectionAt, CommonAt}
use Rattle.macho_layout_laws.proofs.Scene.{section_cell, common_cell, extents_many}
use Rattle.macho_bytes.proofs.Maps.{map_map, any_map, any_agree}
use Rattle.macho_model.proofs.Sections.{same_key_itself, name_in_field}

-- the parts of a key have no NUL
pub record IsKey (key : OutputKey) : Type 0 where
  pub segment : IsName key.segment
  pub name : IsName key.name

-- a key as a plan has it
abbrev pub key_name : OutputKey → OutputName
key_name key = record { segment = padded key.segment; name = padded key.name; kind = key.type }

abbrev pub key_at : Link → SectionId → OutputKey
key_at l s = key_of (header_at l s)

pub output_key_is : (l : Link) (s : SectionId) → output_key l s ≡ key_name (key_at l s)
output_key_is l s =
    ap (λ (n : SegmentName). record { segment = n; name = padded (header_at l s).sectname; kind = type_of (header_at l s) })
    (segment_key_is l s)
    ∙ ap (λ (n : List ℕ). record {
      segment = padded (name_of (header_at l s).segname);
      name = record
          { 0 = n ++ replicate (16 - length n) 0 };
      kind = type_of (header_at l s);
    }) (sym (name_twice (header_at l s).sectname))

section_is_key : (l : Link) (s : SectionId) → IsKey (key_at l s)
section_is_key l s = record { segment = name_twice (header_at l s).segname; name = name_twice (header_at l s).sectname }

pub common_is_key : IsKey common_key
common_is_key = record { segment = refl; name = refl }

-- keys are told by their names in a plan
pub same_names : (a b : OutputKey) → IsKey a → IsKey b → key_name a ≡ key_name b → a ≡ b
same_names a b ka kb e =
    let segment : a.segment ≡ b.segment = sym ka.segment ∙ sym (name_in_field a.segment) ∙ ap (λ (o : OutputName). name_of o.segment.0) e
    ∙ name_in_field b.segment ∙ kb.segment in
    let name : a.name ≡ b.name = sym ka.name ∙ sym (name_in_field a.name) ∙ ap (λ (o : OutputName). name_of o.name.0) e
    ∙ name_in_field b.name ∙ kb.name in
    ap (λ (s : List ℕ). record { segment = s; name = a.name; type = a.type }) segment ∙ ap
    (λ (n : List ℕ). record { segment = b.segment; name = n; type = a.type }) name
    ∙ ap (λ (t : ℕ). record { segment = b.segment; name = b.name; type = t }) (ap (λ (o : OutputName). o.kind) e)

pub key_turn : (a b : OutputKey) → same_key a b ≡ same_key b a
key_turn a b = same_from_decides (same_key a b) (same_key b a) (λ t. sym ((key-decides a b).0 t), λ e. (key-decides a b).1 (sym e))
    (key-decides b a)

-- what holds of the keys of carried sections, and of that of the commons, holds of all keys
pub keys_all : (P : OutputKey → Type 0) (l : Link) → ((s : SectionId) → Contains (carried_of l) s → P (key_at l s)) → P common_key → All P
    (output_keys_of l)
unfolding output_keys_of
keys_all P l each common =
    all_distinct P same_key (map (key_at l) (carried_of l) ++ list_if (not (length (chosen_commons l) == 0)) (common_key ∷ []))
    (All-append P (map (key_at l) (carried_of l)) (list_if (not (length (chosen_commons l) == 0)) (common_key ∷ []))
    (All-map P (key_at l) (carried_of l) (λ k d low. each (get_or (carried_of l) k d) (All-contains_itself (carried_of l) k d low)))
    (by (not (length (chosen_commons l) == 0))))
  where
    by : (b : Bool) → All P (list_if b (common_key ∷ []))
    by true = All-cons P common_key [] common (All-nil P)
    by false = All-nil P

pub keys_are_keys : (l : Link) → All IsKey (output_keys_of l)
keys_are_keys l = keys_all IsKey l (λ s there. section_is_key l s) common_is_key

pub keys_apart : (l : Link) → AllPairs (λ a b. same_key a b ≡ false) (output_keys_of l)
unfolding output_keys_of
keys_apart l = distinct_apart same_key (map (key_at l) (carried_of l) ++ list_if (not (length (chosen_commons l) == 0)) (common_key ∷ []))

-- the number of a key
abbrev pub number_of : Link → OutputKey → ℕ
number_of l key = position_or_len (same_key key) (output_keys_of l)

pub key_number : (l : Link) (i : ℕ) (key : OutputKey) → i < length (output_keys_of l) → get_or (output_keys_of l) i key ≡ key
    → number_of l key ≡ i
key_number l i key low is = place_is same_key (output_keys_of l) i key same_key_itself key_turn (keys_apart l) low is

-- two keys are the same exactly where their numbers are
pub numbers_agree : (l : Link) (a b : OutputKey) (i j : ℕ) → i < length (output_keys_of l) → get_or (output_keys_of l) i a ≡ a → j < length
    (output_keys_of l) → get_or (output_keys_of l) j b ≡ b
    → same_key a b ≡ (i == j)
numbers_agree l a b i j low_i at_i low_j at_j =
    same_from_decides (same_key a b) (i == j) (key-decides a b) (
      λ t. sym at_i ∙ get_or_default (output_keys_of l) i a b low_i ∙ ap (λ (k : ℕ). get_or (output_keys_of l) k b) (eqb-true i j t) ∙ at_j,
      λ e. eq-eqb i j (sym (key_number l i a low_i at_i) ∙ ap (number_of l) e ∙ key_number l j b low_j at_j),
    )

-- the keys' names are the plan's output sections
pub keys_named : (l : Link) (p : Planning) → IsPlanOf l p → merged_names p ≡ map key_name (output_keys_of l)
unfolding output_keys_of
keys_named l p plan =
    let D : List OutputKey = distinct same_key (map (key_at l) (carried_of l)) in
    let once : D ≡ map (key_at l) (outputs_once l) = distinct_map same_key (key_at l) (carried_of l) in
    let mine : section_outputs p ≡ map key_name D
    = outputs_are l p plan ∙ map_agree (output_key l) (λ s. key_name (key_at l s)) (output_key_is l) (outputs_once l) ∙ sym
    (ap (map key_name) once ∙ map_map key_name (key_at l) (outputs_once l)) in
    let there : list_any (same_output COMMON_NAME) (section_outputs p) ≡ list_any (same_key common_key) D
    = ap (list_any (same_output COMMON_NAME)) (outputs_are l p plan) ∙ any_map (same_output COMMON_NAME) (output_key l) (outputs_once l)
    ∙ any_agree (λ s. same_output COMMON_NAME (output_key l s)) (λ s. same_key common_key (key_at l s)) (common_agrees l) (outputs_once l)
    ∙ sym (ap (list_any (same_key common_key)) once ∙ any_map (same_key common_key) (key_at l) (outputs_once l)) in
    let new : has_new_commons p ≡ (not (length (chosen_commons l) == 0) && not (list_any (same_key common_key) D))
    = ap (λ (n : ℕ). not (n == 0) && not (list_any (same_output COMMON_NAME) (section_outputs p))) (commons_many l p plan)
    ∙ ap (λ (b : Bool). not (length (chosen_commons l) == 0) && not b) there in
    ap (λ (ns : List OutputName). ns ++ list_if (has_new_commons p) (COMMON_NAME ∷ [])) mine
    ∙ ap (λ (b : Bool). map key_name D ++ list_if b (COMMON_NAME ∷ [])) new ∙ by (not (length (chosen_commons l) == 0))
  where
    map_agree : {X Y : Type 0} (f g : X → Y) → ((x : X) → f x ≡ g x) → (xs : List X) → map f xs ≡ map g xs
    map_agree f g e [] = refl
    map_agree {X} {Y} f g e (x ∷ xs) = ap (λ (y : Y). y ∷ map f xs) (e x) ∙ ap (λ (ys : List Y). g x ∷ ys) (map_agree f g e xs)

    put : (b : Bool) (ks : List OutputKey) → map key_name ks ++ list_if (not b) (COMMON_NAME ∷ []) ≡ map key_name
        (cond b ks (ks ++ common_key ∷ []))
    put true ks = append-nil (map key_name ks)
    put false ks = sym (map_push key_name ks common_key)

    by : (b : Bool) → map key_name (distinct same_key (map (key_at l) (carried_of l))) ++ list_if
        (b && not (list_any (same_key common_key) (distinct same_key (map (key_at l) (carried_of l))))) (COMMON_NAME ∷ [])
        ≡ map key_name (distinct same_key (map (key_at l) (carried_of l) ++ list_if b (common_key ∷ [])))
    by true =
        put (list_any (same_key common_key) (distinct same_key (map (key_at l) (carried_of l))))
        (distinct same_key (map (key_at l) (carried_of l)))
        ∙ sym (ap (map key_name) (distinct_push same_key key-decides (map (key_at l) (carried_of l)) common_key))
    by false =
        append-nil (map key_name (distinct same_key (map (key_at l) (carried_of l))))
        ∙ sym (ap (λ (ks : List OutputKey). map key_name (distinct same_key ks)) (append-nil (map (key_at l) (carried_of l))))

module _ (l : Link) (p : Planning) (counts : Counts) (q : Placed) (plan : IsPlanOf l p) (fits : FitsLimits p counts)
    (h : IsLaidOut p counts q) where
  -- as many keys as merged output sections
  pub keys_many : length (output_keys_of l) ≡ length h.extents
  keys_many =
      omega (
        arith,
        ap length (keys_named l p plan),
        length-map (output_keys_of l) key_name,
        length-append (section_outputs p) (list_if (has_new_commons p) (COMMON_NAME ∷ [])),
        length-list_if (has_new_commons p) COMMON_NAME,
        extents_many l p counts q plan fits h,
      )

  -- an output section has the name of its key
  pub output_named : (k : ℕ) (d : OutputKey) → k < length (output_keys_of l) → output_at p k ≡ key_name (get_or (output_keys_of l) k d)
  output_named k d low =
      let one : get_or (merged_names p) k COMMON_NAME ≡ key_name (get_or (output_keys_of l) k d)
      = ap (λ (ns : List OutputName). get_or ns k COMMON_NAME) (keys_named l p plan) ∙ get_or-map key_name
      (output_keys_of l) k d COMMON_NAME low in
      first (has_new_commons p) ∙ one
    where
      first : (b : Bool) → get_or (section_outputs p) k COMMON_NAME ≡ get_or
          (section_outputs p ++ list_if b (COMMON_NAME ∷ [])) k COMMON_NAME
      first true = elim (cases_lt k (length (section_outputs p))) [
        | inl inside ↦ sym (get_or_append_left (section_outputs p) (COMMON_NAME ∷ []) COMMON_NAME k inside)
        | inr past ↦ get_or_past (section_outputs p) k COMMON_NAME past ∙ sym (past_push (section_outputs p) COMMON_NAME k past)
      ]
        where
          past_push : {X : Type 0} (xs : List X) (x : X) (k : ℕ) → length xs ≤ k → get_or (xs ++ x ∷ []) k x ≡ x
          past_push [] x zero low = refl
          past_push [] x (suc k) low = refl
          past_push (y ∷ xs) x zero low = absurd (omega (arith, low))
          past_push (y ∷ xs) x (suc k) low = past_push xs x k (omega (arith, low))
      first false = ap (λ (ns : List OutputName). get_or ns k COMMON_NAME) (sym (append-nil (section_outputs p)))

  -- a member's cell has the number of its key
  pub section_key_at : (s : PlacedSection) (m : PlacedMember) → SectionAt l p h.starts s m
      → (m.member.cell < length (output_keys_of l)) × (get_or (output_keys_of l) m.member.cell (key_at l (id_of s)) ≡ key_at l (id_of s))
  section_key_at s m at =
      let c = section_cell l p counts q plan fits h s m at in
      let low : m.member.cell < length (output_keys_of l) = omega (arith, c.0, keys_many) in
      let e = sym (output_named m.member.cell (key_at l (id_of s)) low) ∙ c.1 ∙ output_key_is l (id_of s) in
      (low, same_names _ _ (keys_are_keys l m.member.cell (key_at l (id_of s)) low) (section_is_key l (id_of s)) e)

  pub common_key_at : (c : PlacedCommon) (m : PlacedMember) → CommonAt l p h.starts c m
      → (m.member.cell < length (output_keys_of l)) × (get_or (output_keys_of l) m.member.cell common_key ≡ common_key)
  common_key_at c m at =
      let x = common_cell l p counts q plan fits h c m at in
      let low : m.member.cell < length (output_keys_of l) = omega (arith, x.0, keys_many) in
      let e : key_name (get_or (output_keys_of l) m.member.cell common_key) ≡ key_name common_key = sym
      (output_named m.member.cell common_key low) ∙ x.1 in (
        low,
        same_names (get_or (output_keys_of l) m.member.cell common_key) common_key
            (keys_are_keys l m.member.cell common_key low) common_is_key e,
      )
