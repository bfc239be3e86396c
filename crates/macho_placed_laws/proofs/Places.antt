-- What is of a link has one place in a placement that lists it.
--
-- A section that the placement lists stands somewhere in its list, and the first that has its file and number is told as its address; no
-- other has them, since carried sections are listed once each, by file and number. Commons are listed by number, slots by target.
use Rattle.std.proofs.Common.{◌≡◌, ℕ, ◌+◌, ◌<◌, ◌⊎◌, inl, inr, ◌==◌, ◌&&◌, Bool, true, false, List, [], ◌∷◌, length, refl, sym, ap, subst, ◌∙◌, arith, eq-eqb}
use Rattle.std.specs.Prelude.{filter, Contains}
use Rattle.std.proofs.lemmas.Bool.{eqb-true}
use Rattle.macho_bytes.proofs.Members.{map_contains, contains_range}
use Rattle.macho_model.specs.declared.targets.Target.{Target}
use Rattle.macho_model.specs.declared.targets.Target.TheVariants as target
use Rattle.macho_model.specs.declared.placed.PlacedSection.{PlacedSection}
use Rattle.macho_model.specs.declared.placed.PlacedCommon.{PlacedCommon}
use Rattle.macho_model.specs.declared.placed.Slot.{Slot}
use Rattle.macho_model.specs.Links.{Link, SectionId, section_id, carried_of}
use Rattle.macho_model.specs.Resolution.{chosen_commons}
use Rattle.macho_model.specs.Targets.{same_target}
use Rattle.macho_model.specs.Placement.{Placed, id_of}
use Rattle.macho_model.specs.Lists.{of_first}
use Rattle.macho_model.specs.Addresses.{section_address, common_address, slot_address}
use Rattle.macho_bytes.proofs.Orders.{EachLater, one_element}
use Rattle.macho_placed_laws.specs.Targets.{ListsAll, TargetsHavePlaces, PlacesAreOne, SlotsHavePlaces, SlotPlacesAreOne}
use Rattle.macho_placed_laws.proofs.Once.{Before, carried_rise, not_before, numbers_rise, slots_differ}
use Rattle.macho_bytes.proofs.Bools.{and_left, and_right, true_or_false, and_both as both}
use Rattle.macho_model.proofs.SameTargets.{same_target_is as same_targets, target_itself}
use Rattle.macho_model.proofs.Sections.{first_passes}

-- THE place of a section that is listed
pub section_place : (l : Link) (p : Placed) (file section : ℕ) → ListsAll l p → Contains (carried_of l) (section_id file section)
    → (q : PlacedSection) × Contains p.sections q × (q.file ≡ file) × (q.section ≡ section) × (q.address ≡ section_address p file section)
unfolding section_address
section_place l p file section lists has =
    let made = map_contains id_of p.sections (section_id file section)
    (subst (λ (ids : List SectionId). Contains ids (section_id file section)) (sym lists.sections) has) in
    let same_file : made.0.file ≡ file = ap (λ (s : SectionId). s.file) made.2 in
    let same_section : made.0.section ≡ section = ap (λ (s : SectionId). s.section) made.2 in
    let found = first_passes (λ (q : PlacedSection). (q.file == file) && (q.section == section))
    (λ (q : PlacedSection). q.address) p.sections made.0 made.1
    (both _ _ (eq-eqb made.0.file file same_file) (eq-eqb made.0.section section same_section)) in (
      found.0,
      found.1,
      eqb-true found.0.file file (and_left _ _ found.2),
      eqb-true found.0.section section
          (and_right _ _ found.2),
      sym found.3,
    )

pub common_place : (l : Link) (p : Placed) (id : ℕ) → ListsAll l p → id < length (chosen_commons l)
    → (c : PlacedCommon) × Contains p.commons c × (c.id ≡ id) × (c.address ≡ common_address p id)
unfolding common_address
common_place l p id lists low =
    let made = map_contains (λ (c : PlacedCommon). c.id) p.commons id
    (subst (λ (ids : List ℕ). Contains ids id) (sym lists.commons) (contains_range (length (chosen_commons l)) id low)) in
    let found = first_passes (λ (c : PlacedCommon). c.id == id) (λ (c : PlacedCommon). c.address) p.commons made.0 made.1
    (eq-eqb made.0.id id made.2) in
    (found.0, found.1, eqb-true found.0.id id found.2, sym found.3)

pub places_are_had : TargetsHavePlaces
places_are_had l p s choice (target.Section file section offset) lists of =
    let q = section_place l p file section lists of in
    (q.0.address, (q.0, q.1, q.2, q.3, refl), ap (λ (a : ℕ). a + offset + s) (sym q.4))
places_are_had l p s choice (target.Common id) lists of =
    let c = common_place l p id lists of in
    (c.0, c.1, c.2, ap (λ (a : ℕ). a + s) (sym c.3))
places_are_had l p s choice (target.Import id) lists of = absurd of
places_are_had l p s choice target.Base lists of = refl
places_are_had l p s choice (target.Absolute value) lists of = absurd of
places_are_had l p s choice target.None lists of = absurd of

-- THE address of a section that is listed
section_at_one : (l : Link) (p : Placed) (q : PlacedSection) → ListsAll l p → Contains p.sections q
    → q.address ≡ section_address p q.file q.section
unfolding section_address
section_at_one l p q lists has =
    let found = first_passes (λ (r : PlacedSection). (r.file == q.file) && (r.section == q.section))
    (λ (r : PlacedSection). r.address) p.sections q has
    (both _ _ (eq-eqb q.file q.file refl) (eq-eqb q.section q.section refl)) in
    let same_file : found.0.file ≡ q.file = eqb-true found.0.file q.file (and_left _ _ found.2) in
    let same_section : found.0.section ≡ q.section = eqb-true found.0.section q.section (and_right _ _ found.2) in
    let same : id_of q ≡ id_of found.0 =
    ap (λ (f : ℕ). section_id f q.section) (sym same_file) ∙ ap (section_id found.0.file) (sym same_section) in
    let rises = subst (λ (ids : List SectionId). EachLater Before ids) (sym lists.sections) (carried_rise l) in
    ap (λ (r : PlacedSection). r.address) (one_element Before id_of p.sections not_before rises q found.0 has found.1 same) ∙ sym found.3

common_at_one : (l : Link) (p : Placed) (c : PlacedCommon) → ListsAll l p → Contains p.commons c → c.address ≡ common_address p c.id
unfolding common_address
common_at_one l p c lists has =
    let found = first_passes (λ (d : PlacedCommon). d.id == c.id) (λ (d : PlacedCommon). d.address) p.commons c has
    (eq-eqb c.id c.id refl) in
    let same : c.id ≡ found.0.id = sym (eqb-true found.0.id c.id found.2) in
    let rises = subst (λ (ids : List ℕ). EachLater (λ a b. a < b) ids) (sym lists.commons) (numbers_rise 0 (length (chosen_commons l))) in
    ap (λ (d : PlacedCommon). d.address)
    (one_element (λ a b. a < b) (λ (d : PlacedCommon). d.id) p.commons
    (λ a b e lt. omega (arith, e, lt)) rises c found.0 has found.1 same) ∙ sym found.3

slot_at_one : (l : Link) (p : Placed) (s : Slot) → ListsAll l p → Contains p.slots s → s.address ≡ slot_address p s.target
unfolding slot_address
slot_at_one l p s lists has =
    let found = first_passes (λ (u : Slot). same_target u.target s.target) (λ (u : Slot). u.address) p.slots s has
    (target_itself s.target) in
    let differ = subst (λ (ts : List Target). EachLater (λ t u. same_target t u ≡ false) ts) (sym lists.slots) (slots_differ l) in
    let same : s.target ≡ found.0.target = sym (same_targets found.0.target s.target found.2) in
    ap (λ (u : Slot). u.address)
    (one_element (λ t u. same_target t u ≡ false) (λ (u : Slot). u.target) p.slots
    (λ t u e not_same. true_or_false (same_target t u)
    (subst (λ (v : Target). same_target t v ≡ true) e (target_itself t)) not_same) differ s found.0 has found.1 same)
    ∙ sym found.3

-- THE slot of a target that has one
pub slots_are_had : SlotsHavePlaces
unfolding slot_address
slots_are_had l p s t lists has =
    let made = map_contains (λ (u : Slot). u.target) p.slots t (subst (λ (ts : List Target). Contains ts t) (sym lists.slots) has) in
    let passes : same_target made.0.target t ≡ true =
    subst (λ (u : Target). same_target made.0.target u ≡ true) made.2 (target_itself made.0.target) in
    let found = first_passes (λ (u : Slot). same_target u.target t) (λ (u : Slot). u.address) p.slots made.0 made.1 passes in
    (found.0, found.1, same_targets found.0.target t found.2, ap (λ (a : ℕ). a + s) found.3)

pub slots_are_one : SlotPlacesAreOne
slots_are_one l p s t x lists (slot, has, target_is, x_is) =
    x_is ∙ ap (λ (a : ℕ). a + s) (slot_at_one l p slot lists has ∙ ap (slot_address p) target_is)

-- THE place of a target that moves
pub places_are_one : PlacesAreOne
places_are_one l p s choice (target.Section file section offset) x lists moves (address, (q, has, file_is, section_is, address_is), x_is) =
    let at : address ≡ section_address p file section =
    sym address_is ∙ section_at_one l p q lists has ∙ ap (λ (f : ℕ). section_address p f q.section) file_is
    ∙ ap (section_address p file) section_is in
    x_is ∙ ap (λ (a : ℕ). a + offset + s) at
places_are_one l p s choice (target.Common id) x lists moves (c, has, id_is, x_is) =
    x_is ∙ ap (λ (a : ℕ). a + s) (common_at_one l p c lists has ∙ ap (common_address p) id_is)
places_are_one l p s choice (target.Import id) x lists moves is = cc
places_are_one l p s choice target.Base x lists moves is = is
places_are_one l p s choice (target.Absolute value) x lists moves is = cc
places_are_one l p s choice target.None x lists moves is = cc
