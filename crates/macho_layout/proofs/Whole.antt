-- Each thing of a link has a place.
--
-- The placed sections are the plan's, one by one, with addresses beside them; the plan's are the carried ones of the link. So
-- without addresses the lists are the same. Commons are numbered by their places, and slots and stubs are those of the plan.
use Rattle.std.proofs.Common.{◌≡◌, ℕ, ◌+◌, List, [], ◌∷◌, map, length, if◌then◌else◌, All, refl, sym, ap, ◌∙◌, subst}
use Rattle.std.specs.List.{enumerate_from, range_with_len, AllByRecursion}
use Rattle.std.proofs.lemmas.List.{map-id}
use Rattle.std.proofs.lemmas.List.Elements.{recursion_from_All, All-from_recursion}
use Rattle.macho_model.specs.declared.placed.Counts.{Counts}
use Rattle.macho_model.specs.declared.placed.PlacedCommon.{PlacedCommon}
use Rattle.macho_model.specs.declared.placed.Slot.{Slot}
use Rattle.macho_model.specs.declared.placed.Stub.{Stub}
use Rattle.macho_model.specs.declared.targets.Target.{Target}
use Rattle.macho_model.specs.declared.targets.Target.TheVariants as target
use Rattle.macho_model.specs.Links.{Link, SectionId, carried_of}
use Rattle.macho_model.specs.Resolution.{chosen_commons}
use Rattle.macho_model.specs.Targets.{slots_of, stubs_of, slot_number}
use Rattle.macho_model.specs.Placement.{Placed, id_of}
use Rattle.macho_layout.specs.declared.spec.SectionSpec.{SectionSpec}
use Rattle.macho_layout.specs.declared.spec.CommonSpec.{CommonSpec}
use Rattle.macho_layout.specs.declared.spec.StubSpec.{StubSpec}
use Rattle.macho_layout.specs.declared.spec.Planned.{Planned}
use Rattle.macho_layout.specs.Plans.{Planning, IsPlanOf, spec_of, common_spec_of}
use Rattle.macho_layout.specs.Names.{mapped_names}
use Rattle.macho_layout.specs.Places.{placed_section, address_at}
use Rattle.macho_layout.specs.Laid.{IsLaidOut}
use Rattle.macho_layout.specs.Laws.{BaseIsLinks, ListsAreWhole, SectionsAreListed, CommonsAreListed}
use Rattle.macho_bytes.proofs.Maps.{map_map}

-- what is told of numbered elements without their numbers
pub map_numbered : {X Y Z : Type 0} (g : Y → Z) (f : ℕ × X → Y) (h : X → Z) → ((n : ℕ) (x : X) → g (f (n, x)) ≡ h x) → (n : ℕ) (xs : List X)
    → map g (map f (enumerate_from n xs)) ≡ map h xs
map_numbered g f h e n [] = refl
map_numbered {X} {Y} {Z} g f h e n (x ∷ xs) =
    ap (λ (z : Z). z ∷ map g (map f (enumerate_from (n + 1) xs))) (e n x) ∙ ap (λ (zs : List Z). h x ∷ zs) (map_numbered g f h e (n + 1) xs)

-- the numbers alone
numbers_of : {X : Type 0} (n : ℕ) (xs : List X) → map (λ (e : ℕ × X). e.0) (enumerate_from n xs) ≡ range_with_len n (length xs)
numbers_of n [] = refl
numbers_of n (x ∷ xs) = ap (λ (ns : List ℕ). n ∷ ns) (numbers_of (n + 1) xs)

-- what holds of elements holds of what is made of them
all_numbered : {X Y : Type 0} (P : X → Type 0) (Q : Y → Type 0) (f : ℕ × X → Y) → ((n : ℕ) (x : X) → P x → Q (f (n, x))) → (n : ℕ)
    (xs : List X)
    → AllByRecursion P xs → AllByRecursion Q (map f (enumerate_from n xs))
all_numbered P Q f e n [] h = tt
all_numbered P Q f e n (x ∷ xs) h = (e n x h.0, all_numbered P Q f e (n + 1) xs h.1)

abbrev spec_id : SectionSpec → SectionId
spec_id s = record { file = s.file; section = s.section }

pub base_is_links : BaseIsLinks
base_is_links l p counts q plan h = h.from_them.base ∙ ap (λ b. if b then 0x100000000 else 0) plan.executable

pub sections_are_listed : SectionsAreListed
sections_are_listed l p counts q plan h =
    ap (map id_of) h.from_them.sections
    ∙ map_numbered id_of (λ (e : ℕ × Planned). placed_section _ (mapped_names p) e.1.spec (address_at h.members h.starts e.0))
    (λ (s : Planned). spec_id s.spec) (λ n x. refl) 0 h.planned
    ∙ sym (map_map spec_id (λ (s : Planned). s.spec) h.planned) ∙ ap (map spec_id) (h.planned_are ∙ plan.sections)
    ∙ map_map spec_id (spec_of l) (carried_of l) ∙ map-id (carried_of l)

pub commons_are_listed : CommonsAreListed
commons_are_listed l p counts q plan h =
    ap (map (λ (c : PlacedCommon). c.id)) h.from_them.commons
    ∙ map_numbered (λ (c : PlacedCommon). c.id) _ (λ (c : CommonSpec). c.id) (λ n x. refl) 0 p.commons
    ∙ ap (map (λ (c : CommonSpec). c.id)) plan.commons
    ∙ map_map (λ (c : CommonSpec). c.id) (common_spec_of l) (enumerate_from 0 (chosen_commons l)) ∙ numbers_of 0 (chosen_commons l)

slots_are_listed : (l : Link) (p : Planning) (counts : Counts) (q : Placed) → IsPlanOf l p → IsLaidOut p counts q → map
    (λ (s : Slot). s.target) q.slots ≡ slots_of l
slots_are_listed l p counts q plan h =
    ap (map (λ (s : Slot). s.target)) h.from_them.slots ∙ map_numbered (λ (s : Slot). s.target) _ (λ (t : Target). t)
    (λ n x. refl) 0 p.slots
    ∙ map-id p.slots ∙ plan.slots

stubs_are_listed : (l : Link) (p : Planning) (counts : Counts) (q : Placed) → IsPlanOf l p → IsLaidOut p counts q → map
    (λ (s : Stub). target.Import s.import) q.stubs ≡ stubs_of l
stubs_are_listed l p counts q plan h =
    ap (map (λ (s : Stub). target.Import s.import)) h.from_them.stubs
    ∙ map_numbered (λ (s : Stub). target.Import s.import) _ (λ (s : StubSpec). target.Import s.import) (λ n x. refl) 0 p.stubs ∙ plan.stubs

pub lists_are_whole : ListsAreWhole
lists_are_whole l p counts q plan h = record {
  sections = sections_are_listed l p counts q plan h;
  commons = commons_are_listed l p counts q plan h;
  slots = slots_are_listed l p counts q plan h;
  stubs = stubs_are_listed l p counts q plan h;
  stub_slots = subst (λ (ss : List Stub). All (λ s. s.slot ≡ slot_number l (target.Import s.import)) ss) (sym h.from_them.stubs)
      (All-from_recursion (λ (s : Stub). s.slot ≡ slot_number l (target.Import s.import)) _
      (all_numbered (λ (s : StubSpec). s.slot ≡ slot_number l (target.Import s.import))
      (λ (s : Stub). s.slot ≡ slot_number l (target.Import s.import)) _
      (λ n x e. e) 0 p.stubs (recursion_from_All (λ (s : StubSpec). s.slot ≡ slot_number l (target.Import s.import)) p.stubs
      plan.stub_slots)));
}
