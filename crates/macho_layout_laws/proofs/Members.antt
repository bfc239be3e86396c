-- Sections and commons as members of output sections.
--
-- The placed sections are the plan's, one by one, and so are its members; so a placed section stands behind the start of its cell by
-- its member's offset. The same holds of commons, which are the members behind the sections. In its cell a member is inside, at a
-- multiple of its alignment, which is at most the cell's.
use Rattle.std.proofs.Common.{◌≡◌, ℕ, ◌+◌, ◌%◌, ◌^◌, ◌<◌, ◌≤◌, nat_lt, if◌then◌else◌, Bool, true, List, [], ◌∷◌, ◌++◌, map, length, get_or, take, drop, All, Contains, refl, sym, ap, ◌∙◌, subst, arith}
use Rattle.std.specs.List.{enumerate_from, AllZip, AllByRecursion}
use Rattle.std.proofs.lemmas.Bool.{eq-eqb, lt-ltb}
use Rattle.std.proofs.lemmas.List.{append_assoc, append-nil, get_or_at, get_or_default, get_or-map, length-map, length_push, length-append, take-append-drop, take-map, drop-map, take_at, drop_at}
use Rattle.std.proofs.lemmas.List.Elements.{All-head, All-tail, All-from_recursion, All-contains_itself}
use Rattle.std.proofs.lemmas.List.FromFn.{get_or-enumerate_from, length-enumerate_from}
use Rattle.macho_model.specs.declared.placed.PlacedSection.{PlacedSection}
use Rattle.macho_model.specs.declared.placed.PlacedCommon.{PlacedCommon}
use Rattle.macho_model.specs.declared.placed.Counts.{Counts}
use Rattle.macho_model.specs.Links.{Link, SectionId, carried_of, greatest}
use Rattle.macho_model.specs.Resolution.{SymbolId, chosen_commons}
use Rattle.macho_model.specs.Segments.{one_if}
use Rattle.macho_model.specs.Placement.{Placed, id_of, common_of}
use Rattle.macho_stack.specs.declared.members.Member.{Member}
use Rattle.macho_stack.specs.declared.members.PlacedMember.{PlacedMember}
use Rattle.macho_stack.specs.declared.members.Extent.{Extent}
use Rattle.macho_stack.specs.Stacks.{extent_at, members_in, is_in_cell, block_of, AreStacked}
use Rattle.macho_stack.proofs.Lists.{unfiltered}
use Rattle.macho_stack.proofs.StackRows.{row-ends, row-multiples}
use Rattle.macho_layout.specs.declared.spec.SectionSpec.{SectionSpec}
use Rattle.macho_layout.specs.declared.spec.CommonSpec.{CommonSpec}
use Rattle.macho_layout.specs.declared.spec.Planned.{Planned}
use Rattle.macho_layout.specs.Plans.{Planning, IsPlanOf, MayStand, spec_of, common_spec_of}
use Rattle.macho_layout.specs.Names.{mapped_names}
use Rattle.macho_layout.specs.Members.{section_member, common_member, members_of}
use Rattle.macho_layout.specs.Cells.{segment_number}
use Rattle.macho_layout.specs.Places.{behind, number_at, no_member, address_at, placed_section, placed_commons}
use Rattle.macho_layout.specs.Laid.{IsLaidOut}
use Rattle.macho_layout.proofs.SumLaw.{segment_key}
use Rattle.macho_layout.proofs.CostLaw.{fold_greatest}
use Rattle.macho_bytes.proofs.Maps.{map_map}

-- the address of the member behind so many others
address_behind : (members pre : List PlacedMember) (m : PlacedMember) (post : List PlacedMember) (starts : List ℕ) (n : ℕ) → members ≡ pre
    ++ (m ∷ post) → n ≡ length pre
    → address_at members starts n ≡ behind (number_at starts m.member.cell) m.offset
address_behind members pre m post starts n are long =
    let low : nat_lt n (length members) ≡ true = lt-ltb n (length members) (omega (arith, ap length are, length-append pre (m ∷ post))) in
    let here : get_or members n no_member ≡ m = ap (λ (ms : List PlacedMember). get_or ms n no_member) are
    ∙ get_or_at pre m post no_member n (sym long) in
    ap (λ (b : Bool). if b then behind (number_at starts (get_or members n no_member).member.cell)
    (get_or members n no_member).offset else 0) low
    ∙ ap (λ (x : PlacedMember). behind (number_at starts x.member.cell) x.offset) here

-- what is placed by numbers corresponds to members
zip_numbered : {X Y : Type 0} (P : X → Type 0) (f : X → Member) (g : X → ℕ → Y) (R : Y → PlacedMember → Type 0) (starts : List ℕ)
    (members : List PlacedMember) (at : ℕ → ℕ)
    → ((n : ℕ) → at (n + 1) ≡ at n + 1) → ((x : X) (m : PlacedMember) → P x → m.member ≡ f x → R
    (g x (behind (number_at starts m.member.cell) m.offset)) m)
    → (k : ℕ) (pre : List PlacedMember) (xs : List X) (ms post : List PlacedMember) → at k ≡ length pre → members ≡ pre ++ (ms ++ post)
    → map (λ (m : PlacedMember). m.member) ms ≡ map f xs → All P xs → AllZip R
    (map (λ (e : ℕ × X). g e.1 (address_at members starts (at e.0))) (enumerate_from k xs)) ms
zip_numbered P f g R starts members at step each k pre [] [] post long are same all = tt
zip_numbered P f g R starts members at step each k pre [] (m ∷ ms) post long are same all = let e = ap length same in absurd
    (omega (arith, e))
zip_numbered P f g R starts members at step each k pre (x ∷ xs) [] post long are same all = let e = ap length same in absurd
    (omega (arith, e))
zip_numbered {X} {Y} P f g R starts members at step each k pre (x ∷ xs) (m ∷ ms) post long are same all =
    let head : m.member ≡ f x = ap (λ (ns : List Member). get_or ns 0 m.member) same in
    let tail : map (λ (m : PlacedMember). m.member) ms ≡ map f xs = ap (λ (ns : List Member). drop 1 ns) same in
    let address = address_behind members pre m (ms ++ post) starts (at k) are long in
    let more : members ≡ (pre ++ m ∷ []) ++ (ms ++ post) = are ∙ sym (append_assoc pre (m ∷ []) (ms ++ post)) in (
      subst (λ (n : ℕ). R (g x n) m) (sym address) (each x m (All-head P x xs all) head),
      zip_numbered P f g R starts members at step each (k + 1) (pre ++ m ∷ []) xs ms post
          (omega (arith, step k, long, length_push pre m)) more tail (All-tail P x xs all),
    )

-- a map over a numbered list that is itself a map
pub numbered_map : {X Y Z : Type 0} (f : ℕ × Y → Z) (g : X → Y) (n : ℕ) (xs : List X) → map f (enumerate_from n (map g xs)) ≡ map
    (λ (e : ℕ × X). f (e.0, g e.1)) (enumerate_from n xs)
numbered_map f g n [] = refl
numbered_map {X} {Y} {Z} f g n (x ∷ xs) = ap (λ (zs : List Z). f (n, g x) ∷ zs) (numbered_map f g (n + 1) xs)

-- a placed section and its member
pub record SectionAt (l : Link) (p : Planning) (starts : List ℕ) (s : PlacedSection) (m : PlacedMember) : Type 0 where
  pub carried : Contains (carried_of l) (id_of s)
  pub may : MayStand (spec_of l (id_of s))
  pub member : m.member ≡ section_member p (spec_of l (id_of s))
  pub address : s.address ≡ behind (number_at starts m.member.cell) m.offset
  pub segment : s.segment ≡ one_if p.executable + segment_number (mapped_names p) (segment_key l (id_of s))

-- a placed common and its member
pub record CommonAt (l : Link) (p : Planning) (starts : List ℕ) (c : PlacedCommon) (m : PlacedMember) : Type 0 where
  pub low : c.id < length (chosen_commons l)
  pub member : m.member ≡ common_member p (common_spec_of l (c.id, common_of l c.id))
  pub address : c.address ≡ behind (number_at starts m.member.cell) m.offset

-- the members that sections are, and those that commons are
abbrev pub section_members : Planning → List PlacedMember → List PlacedMember
section_members p members = take (length p.sections) members

abbrev pub common_members : Planning → List PlacedMember → List PlacedMember
common_members p members = drop (length p.sections) members

module _ (l : Link) (p : Planning) (counts : Counts) (q : Placed) (plan : IsPlanOf l p) (h : IsLaidOut p counts q) where
  member_parts : map (λ (m : PlacedMember). m.member) h.members ≡ map (section_member p) p.sections ++ map (common_member p) p.commons
  unfolding members_of
  member_parts = h.stacked.same

  front_are : map (λ (m : PlacedMember). m.member) (section_members p h.members) ≡ map (section_member p) p.sections
  front_are =
      sym (take-map (λ (m : PlacedMember). m.member) (length p.sections) h.members) ∙ ap (take (length p.sections)) member_parts
      ∙ take_at (map (section_member p) p.sections) (map (common_member p) p.commons) (length p.sections)
      (length-map p.sections (section_member p))

  pub back_are : map (λ (m : PlacedMember). m.member) (common_members p h.members) ≡ map (common_member p) p.commons
  back_are =
      sym (drop-map (λ (m : PlacedMember). m.member) (length p.sections) h.members) ∙ ap (drop (length p.sections)) member_parts
      ∙ drop_at (map (section_member p) p.sections) (map (common_member p) p.commons) (length p.sections)
      (length-map p.sections (section_member p))

  -- sections may stand where they do
  pub may_stand : All (λ s. MayStand (spec_of l s)) (carried_of l)
  may_stand k d low =
      let same : get_or p.sections k (spec_of l d) ≡ spec_of l (get_or (carried_of l) k d)
      = ap (λ (ss : List SectionSpec). get_or ss k (spec_of l d)) plan.sections ∙ get_or-map (spec_of l) (carried_of l) k d
      (spec_of l d) low in
      subst MayStand same (h.places k (spec_of l d) (omega (arith, low, ap length plan.sections, length-map (carried_of l) (spec_of l))))

  abbrev CarriedSection : SectionId → Type 0
  CarriedSection s = Contains (carried_of l) s × MayStand (spec_of l s)

  pub sections_zip : AllZip (SectionAt l p h.starts) q.sections (section_members p h.members)
  sections_zip =
      let g : SectionId → ℕ → PlacedSection = λ s address. placed_section (one_if p.executable) (mapped_names p) (spec_of l s) address in
      let one : q.sections ≡ map (λ (e : ℕ × SectionId). placed_section (one_if p.executable) (mapped_names p) (spec_of l e.1)
      (address_at h.members h.starts e.0)) (enumerate_from 0 (carried_of l))
      = h.from_them.sections
      ∙ sym (numbered_map (λ (e : ℕ × SectionSpec). placed_section (one_if p.executable) (mapped_names p) e.1
      (address_at h.members h.starts e.0)) (λ (s : Planned). s.spec) 0 h.planned)
      ∙ ap (λ (ss : List SectionSpec). map (λ (e : ℕ × SectionSpec). placed_section (one_if p.executable) (mapped_names p) e.1
      (address_at h.members h.starts e.0)) (enumerate_from 0 ss)) (h.planned_are ∙ plan.sections)
      ∙ numbered_map (λ (e : ℕ × SectionSpec). placed_section (one_if p.executable) (mapped_names p) e.1
      (address_at h.members h.starts e.0)) (spec_of l) 0 (carried_of l) in
      let all : All (λ s. Contains (carried_of l) s × MayStand (spec_of l s))
      (carried_of l) = λ k d low. (All-contains_itself (carried_of l) k d low, may_stand k d low) in
      let whole : h.members ≡ [] ++ (section_members p h.members ++ common_members p h.members) = sym
      (take-append-drop (length p.sections) h.members) in
      subst (λ (ss : List PlacedSection). AllZip (SectionAt l p h.starts) ss (section_members p h.members)) (sym one)
      (zip_numbered (λ s. Contains (carried_of l) s × MayStand (spec_of l s)) (λ s. section_member p (spec_of l s)) g
      (SectionAt l p h.starts) h.starts h.members (λ (n : ℕ). n) (λ n. refl)
      (λ s m keeps member. record { carried = keeps.0; may = keeps.1; member = member; address = refl; segment = refl })
      0 [] (carried_of l) (section_members p h.members) (common_members p h.members) refl whole
      (front_are ∙ ap (map (section_member p)) plan.sections ∙ map_map (section_member p) (spec_of l) (carried_of l)) all)

  pub commons_zip : AllZip (CommonAt l p h.starts) q.commons (common_members p h.members)
  commons_zip =
      let g : ℕ × SymbolId → ℕ → PlacedCommon = λ c address. record { id = c.0; address = address } in
      let one : q.commons ≡ map (λ (e : ℕ × (ℕ × SymbolId)). g e.1 (address_at h.members h.starts (length p.sections + e.0)))
      (enumerate_from 0 (enumerate_from 0 (chosen_commons l)))
      = h.from_them.commons
      ∙ ap (λ (cs : List CommonSpec). placed_commons (length p.sections) h.members h.starts cs) plan.commons
      ∙ numbered_map (λ (e : ℕ × CommonSpec). record { id = e.1.id; address = address_at h.members h.starts (length p.sections + e.0) })
      (common_spec_of l) 0 (enumerate_from 0 (chosen_commons l)) in
      let all : All (λ (c : ℕ × SymbolId). (c.0 < length (chosen_commons l)) × (common_of l c.0 ≡ c.1))
      (enumerate_from 0 (chosen_commons l)) =
      λ k d low.
      let inside : k < length (chosen_commons l) = omega (arith, low, length-enumerate_from 0 (chosen_commons l)) in
      let zero_first : 0 + k ≡ k = omega arith in
      let is : get_or (enumerate_from 0 (chosen_commons l)) k d ≡ (k, get_or (chosen_commons l) k d.1)
      = get_or-enumerate_from 0 (chosen_commons l) k d inside ∙ ap (λ (n : ℕ). (n, get_or (chosen_commons l) k d.1)) zero_first in
      subst (λ (c : ℕ × SymbolId). (c.0 < length (chosen_commons l)) × (common_of l c.0 ≡ c.1)) (sym is)
      (inside, get_or_default (chosen_commons l) k (record { file = 0; symbol = 0 }) d.1 inside) in
      let split : h.members ≡ section_members p h.members ++ (common_members p h.members ++ [])
      = sym (take-append-drop (length p.sections) h.members) ∙ ap (λ (ms : List PlacedMember). section_members p h.members ++ ms)
      (sym (append-nil (common_members p h.members))) in
      let long : length p.sections + 0 ≡ length (section_members p h.members)
      = omega (
        arith,
        ap length front_are,
        length-map (section_members p h.members) (λ (m : PlacedMember). m.member),
        length-map p.sections
            (section_member p),
      ) in
      subst (λ (cs : List PlacedCommon). AllZip (CommonAt l p h.starts) cs (common_members p h.members)) (sym one)
      (zip_numbered (λ (c : ℕ × SymbolId). (c.0 < length (chosen_commons l)) × (common_of l c.0 ≡ c.1))
      (λ c. common_member p (common_spec_of l c)) g (CommonAt l p h.starts) h.starts h.members
      (λ (n : ℕ). length p.sections + n) (λ n. omega arith)
      (λ c m keeps member. record {
        low = keeps.0;
        member = member ∙ ap (λ (x : SymbolId). common_member p (common_spec_of l (c.0, x))) (sym keeps.1);
        address = refl;
      })
      0 (section_members p h.members) (enumerate_from 0 (chosen_commons l)) (common_members p h.members) [] long split
      (back_are ∙ ap (map (common_member p)) plan.commons ∙ map_map (common_member p) (common_spec_of l)
      (enumerate_from 0 (chosen_commons l))) all)

-- a member in its cell
pub record IsInCell (extents : List Extent) (m : PlacedMember) : Type 0 where
  pub cell : m.member.cell < length extents
  pub ends : m.offset + m.member.size ≤ (extent_at extents m.member.cell).size
  pub whole : m.offset % 2 ^ m.member.exponent ≡ 0
  pub small : m.member.exponent ≤ (extent_at extents m.member.cell).exponent

greatest_most : {X : Type 0} (f : X → ℕ) (m : ℕ) (xs : List X) → greatest (map f xs) ≤ m → AllByRecursion (λ x. f x ≤ m) xs
greatest_most f m [] h = tt
greatest_most f m (x ∷ xs) h = (omega (arith, h), greatest_most f m xs (omega (arith, h)))

pub member_in : (flags : List ℕ) (members : List Member) (extents : List Extent) (placed : List PlacedMember)
    → AreStacked flags members extents placed
    → (k : ℕ) (d : PlacedMember) → k < length placed → (get_or placed k d).member.cell < length flags → IsInCell extents (get_or placed k d)
member_in flags members extents placed s k d low there =
    let c : ℕ = (get_or placed k d).member.cell in
    let here : is_in_cell c (get_or placed k d) ≡ true = eq-eqb c c refl in
    let size : ℕ = (extent_at extents c).size in
    let ends = All-from_recursion (λ (x : PlacedMember). is_in_cell c x ≡ true → x.offset + x.member.size ≤ size) placed
    (unfiltered (λ (x : PlacedMember). x.offset + x.member.size ≤ size) (is_in_cell c) placed
    (row-ends block_of 0 (members_in c placed) size (s.stacks c there).least)) in
    let whole = All-from_recursion (λ (x : PlacedMember). is_in_cell c x ≡ true → x.offset % 2 ^ x.member.exponent ≡ 0) placed
    (unfiltered (λ (x : PlacedMember). x.offset % 2 ^ x.member.exponent ≡ 0) (is_in_cell c) placed
    (row-multiples block_of 0 (members_in c placed) size (s.stacks c there).least)) in
    let most : greatest (map (λ (x : PlacedMember). x.member.exponent) (members_in c placed)) ≤ (extent_at extents c).exponent
    = omega (arith, s.exponents c there, fold_greatest 0 (map (λ (x : PlacedMember). x.member.exponent) (members_in c placed))) in
    let small = All-from_recursion (λ (x : PlacedMember). is_in_cell c x ≡ true → x.member.exponent ≤ (extent_at extents c).exponent) placed
    (unfiltered (λ (x : PlacedMember). x.member.exponent ≤ (extent_at extents c).exponent) (is_in_cell c) placed
    (greatest_most (λ (x : PlacedMember). x.member.exponent) (extent_at extents c).exponent (members_in c placed) most)) in
    record { cell = omega (arith, s.many, there); ends = ends k d low here; whole = whole k d low here; small = small k d low here }
