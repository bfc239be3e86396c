-- What slots lead to has its place; stubs stand in front of their slots.
--
-- The slots' targets are those of the link, each a part of the link, an import or the base. A stub's import has a slot, since a
-- call that needs a stub needs a slot too. Stubs lie in `__TEXT`, slots in `__DATA_CONST` behind it.
use Rattle.std.proofs.Common.{◌≡◌, false, List, refl, subst}
use Rattle.std.specs.Prelude.{Contains}
use Rattle.macho_bytes.proofs.Members.{all_contains, contains_map}
use Rattle.macho_model.specs.declared.placed.Counts.{Counts}
use Rattle.macho_model.specs.declared.placed.Slot.{Slot}
use Rattle.macho_model.specs.declared.targets.Target.{Target}
use Rattle.macho_model.specs.declared.targets.Target.TheVariants as target
use Rattle.macho_model.specs.Links.{Link}
use Rattle.macho_model.specs.Rows.{is_none}
use Rattle.macho_model.specs.Targets.{slots_of}
use Rattle.macho_model.specs.Placement.{Placed}
use Rattle.macho_layout_laws.specs.Laws.{IsWhollyPlaced}
use Rattle.macho_placed_laws.proofs.Places.{section_place, common_place}
use Rattle.macho_image_laws.specs.Leads.{HasPlace}
use Rattle.macho_fields.specs.Looks.{IsThere}
use Rattle.macho_fields.proofs.Once.{placed_once}
use Rattle.macho_writing_laws.specs.Premises.{IsSoundlyPlaced}
use Rattle.macho_writing_laws.specs.Slots.{SlotsStand}
use Rattle.macho_writing_laws.proofs.Placed.{things_listed}
use Rattle.macho_writing_laws.proofs.Pointers.{leads}
use Rattle.macho_writing_laws.proofs.Places.{places_low}

-- a slot's target is one of the link's
slot_of_link : (l : Link) (counts : Counts) (p : Placed) (s : Slot) → IsWhollyPlaced l counts p → Contains p.slots s
    → Contains (slots_of l) s.target
slot_of_link l counts p s whole has =
    subst (λ (ts : List Target). Contains ts s.target) whole.placed.whole_list.slots (contains_map (λ (x : Slot). x.target) p.slots s has)

slot_leads : (l : Link) (counts : Counts) (p : Placed) (s : Slot) → IsSoundlyPlaced l counts p → Contains p.slots s → HasPlace l s.target
slot_leads l counts p s sound has =
    all_contains (HasPlace l) (slots_of l) s.target (leads l counts p sound).slots (slot_of_link l counts p s sound.placed has)

there : (l : Link) (counts : Counts) (p : Placed) (t : Target) → IsWhollyPlaced l counts p → HasPlace l t → IsThere p t
there l counts p (target.Section file section offset) whole has =
    let q = section_place l p file section (things_listed l counts p whole) has.0 in (q.0, q.1, q.2, q.3)
there l counts p (target.Common id) whole has = let c = common_place l p id (things_listed l counts p whole) has in (c.0, c.1, c.2)
there l counts p (target.Import id) whole has = tt
there l counts p target.Base whole has = tt
there l counts p (target.Absolute value) whole has = tt
there l counts p target.None whole has = tt

somewhere : (l : Link) (t : Target) → HasPlace l t → is_none t ≡ false
somewhere l (target.Section file section offset) has = refl
somewhere l (target.Common id) has = refl
somewhere l (target.Import id) has = refl
somewhere l target.Base has = refl
somewhere l (target.Absolute value) has = refl
somewhere l target.None has = absurd has

pub slots_stand : SlotsStand
slots_stand l counts p sound = record {
  once = placed_once l counts p sound.placed.placed;
  targets = sound.placed.placed.whole_list.slots;
  there = λ s has. there l counts p s.target sound.placed (slot_leads l counts p s sound has);
  some = λ s has. somewhere l s.target (slot_leads l counts p s sound has);
  low = λ s has. places_low l counts p s.target sound.placed sound.within (slot_leads l counts p s sound has);
}
