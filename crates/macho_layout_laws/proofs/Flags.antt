-- The joined flags of an output section.
--
-- A cell's flags begin with the type and join those of its members: sections with the key, as the link lists them, then commons, whose
-- flags are 0. Taking away the flags that tell of relocations leaves those that tell of instructions.
use Rattle.std.proofs.Common.{◌≡◌, ℕ, ◌<◌, ◌==◌, not, Bool, List, [], ◌∷◌, ◌++◌, map, filter, length, get_or, fold, bit_and, bit_or, All, refl, sym, ap, ◌∙◌, arith}
use Rattle.std.proofs.lemmas.Nat.{and_assoc}
use Rattle.std.specs.Int.Bits.{or_comm}
use Rattle.std.proofs.lemmas.List.{map-append, take-append-drop}
use Rattle.std.proofs.lemmas.List.Elements.{All-head, All-tail, All-map, All-filter, filter-append}
use Rattle.std.proofs.lemmas.List.FromFn.{get_or-map-range_with_len}
use Rattle.std.proofs.lemmas.List.Sums.{fold-append}
use Rattle.macho_records.specs.Sections.{has_instructions}
use Rattle.macho_model.specs.declared.placed.Counts.{Counts}
use Rattle.macho_model.specs.Links.{Link, SectionId, header_at}
use Rattle.macho_model.specs.Segments.{OutputKey, same_key, output_keys_of}
use Rattle.macho_model.specs.Placement.{Placed, id_of}
use Rattle.macho_model.specs.OutputSections.{KEPT_FLAGS, flags_of_key}
use Rattle.macho_model.specs.steps.Outputs.{members_of as link_members}
use Rattle.macho_stack.specs.declared.members.Member.{Member}
use Rattle.macho_stack.specs.declared.members.PlacedMember.{PlacedMember}
use Rattle.macho_stack.specs.Stacks.{extent_at, is_in_cell, members_in}
use Rattle.macho_layout.specs.declared.spec.OutputName.{OutputName}
use Rattle.macho_layout.specs.Plans.{Planning, IsPlanOf}
use Rattle.macho_layout.specs.Names.{merged_count, output_at}
use Rattle.macho_layout.specs.Members.{first_flags}
use Rattle.macho_layout.specs.Sums.{FitsLimits}
use Rattle.macho_layout.specs.Laid.{IsLaidOut}
use Rattle.macho_layout.proofs.Whole.{sections_are_listed}
use Rattle.macho_layout_laws.proofs.Lists.{zip_map, zip_filter}
use Rattle.macho_layout_laws.proofs.Members.{SectionAt, CommonAt, sections_zip, commons_zip, section_members, common_members}
use Rattle.macho_layout_laws.proofs.Scene.{extents_many, zip_right}
use Rattle.macho_layout_laws.proofs.Keys.{key_at, numbers_agree, keys_many, output_named, section_key_at}
use Rattle.macho_bytes.proofs.Maps.{map_map, filter-map}

or_nothing : (n : ℕ) → bit_or n 0 ≡ n
or_nothing n = or_comm n 0

-- flags of 0 join nothing
fold_nothing : (a : ℕ) (ns : List ℕ) → All (λ n. n ≡ 0) ns → fold bit_or a ns ≡ a
fold_nothing a [] h = refl
fold_nothing a (n ∷ ns) h =
    ap (λ (k : ℕ). fold bit_or (bit_or a k) ns) (All-head (λ n. n ≡ 0) n ns h) ∙ ap (λ (k : ℕ). fold bit_or k ns) (or_nothing a)
    ∙ fold_nothing a ns (All-tail (λ n. n ≡ 0) n ns h)

-- instructions are told by flags that are kept
pub instructions_kept : (word : ℕ) → has_instructions (bit_and word KEPT_FLAGS) ≡ has_instructions word
instructions_kept word = ap (λ (n : ℕ). not (n == 0)) (and_assoc _ word KEPT_FLAGS)

first_at : (p : Planning) (n : ℕ) → n < merged_count p → get_or (first_flags p) n 0 ≡ (output_at p n).kind
unfolding first_flags
first_at p n inside = get_or-map-range_with_len (λ number. (output_at p number).kind) 0 (merged_count p) n n 0 inside (omega arith)

module _ (l : Link) (p : Planning) (counts : Counts) (q : Placed) (plan : IsPlanOf l p) (fits : FitsLimits p counts)
    (h : IsLaidOut p counts q) where
  abbrev pub joined : OutputKey → ℕ
  joined key = fold bit_or key.type (map (λ s. (header_at l s).flags) (link_members l key))

  -- a cell's flags are those of the sections with its key
  pub flags_are : (n : ℕ) (key : OutputKey) → n < length (output_keys_of l) → get_or (output_keys_of l) n key ≡ key →
      (extent_at h.extents n).flags ≡ joined key
  flags_are n key low is =
      let inside : n < merged_count p = omega (arith, low, keys_many l p counts q plan fits h, extents_many l p counts q plan fits h) in
      let u : PlacedMember → Bool = is_in_cell n in
      let f : PlacedMember → ℕ = λ m. m.member.flags in
      let flags_at : SectionId → ℕ = λ s. (header_at l s).flags in
      let first : get_or (first_flags p) n 0 ≡ key.type
      = first_at p n inside ∙ ap (λ (o : OutputName). o.kind) (output_named l p counts q plan fits h n key low) ∙ ap
      (λ (k : OutputKey). k.type) is in
      let one : map (λ s. flags_at (id_of s)) (filter (λ s. same_key (key_at l (id_of s)) key) q.sections) ≡ map f
      (filter u (section_members p h.members))
      = zip_map (SectionAt l p h.starts) (λ s. flags_at (id_of s)) f (λ s m at. sym (ap (λ (x : Member). x.flags) at.member))
      (filter (λ s. same_key (key_at l (id_of s)) key) q.sections) (filter u (section_members p h.members))
      (zip_filter (SectionAt l p h.starts) (λ s. same_key (key_at l (id_of s)) key) u
      (λ s m at. let k = section_key_at l p counts q plan fits h s m at in numbers_agree l
      (key_at l (id_of s)) key m.member.cell n k.0 k.1 low is)
      q.sections (section_members p h.members) (sections_zip l p counts q plan h)) in
      let listed : map (λ s. flags_at (id_of s)) (filter (λ s. same_key (key_at l (id_of s)) key) q.sections) ≡ map flags_at
      (link_members l key)
      = sym (map_map flags_at id_of (filter (λ s. same_key (key_at l (id_of s)) key) q.sections))
      ∙ ap (map flags_at) (sym (filter-map (λ s. same_key (key_at l s) key) id_of q.sections) ∙ ap
      (filter (λ s. same_key (key_at l s) key)) (sections_are_listed l p counts q plan h)) in
      let zeros : All (λ m. f m ≡ 0) (filter u (common_members p h.members))
      = All-filter u (λ m. f m ≡ 0) (common_members p h.members)
      (zip_right (CommonAt l p h.starts) (λ m. f m ≡ 0) (λ c m at. ap (λ (x : Member). x.flags) at.member) q.commons
      (common_members p h.members) (commons_zip l p counts q plan h)) in
      let members : map f (members_in n h.members) ≡ map flags_at (link_members l key) ++ map f (filter u (common_members p h.members))
      = ap (λ (ms : List PlacedMember). map f (filter u ms)) (sym (take-append-drop (length p.sections) h.members))
      ∙ ap (map f) (filter-append u (section_members p h.members) (common_members p h.members))
      ∙ map-append f (filter u (section_members p h.members)) (filter u (common_members p h.members))
      ∙ ap (λ (ns : List ℕ). ns ++ map f (filter u (common_members p h.members))) (sym one ∙ listed) in
      h.stacked.flags_of n (omega (arith, h.stacked.many, low, keys_many l p counts q plan fits h)) ∙ ap
      (fold bit_or (get_or (first_flags p) n 0)) members
      ∙ fold-append bit_or (get_or (first_flags p) n 0) (map flags_at (link_members l key)) (map f (filter u (common_members p h.members)))
      ∙ fold_nothing (fold bit_or (get_or (first_flags p) n 0) (map flags_at (link_members l key)))
      (map f (filter u (common_members p h.members))) (All-map (λ n. n ≡ 0) f (filter u (common_members p h.members)) zeros)
      ∙ ap (λ (k : ℕ). fold bit_or k (map flags_at (link_members l key))) first

  -- and so are those in its header, and whether it has instructions
  pub header_flags : (n : ℕ) (key : OutputKey) → n < length (output_keys_of l) → get_or (output_keys_of l) n key ≡ key → bit_and
      (extent_at h.extents n).flags KEPT_FLAGS ≡ flags_of_key l key
  header_flags n key low is = ap (λ (k : ℕ). bit_and k KEPT_FLAGS) (flags_are n key low is)

  pub instructions_are : (n : ℕ) (key : OutputKey) → n < length (output_keys_of l) → get_or (output_keys_of l) n key ≡ key
      → has_instructions (extent_at h.extents n).flags ≡ has_instructions (flags_of_key l key)
  instructions_are n key low is = ap has_instructions (flags_are n key low is) ∙ sym (instructions_kept (joined key))
