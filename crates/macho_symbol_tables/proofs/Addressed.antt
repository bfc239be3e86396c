-- Where the targets of names are: look-ups tell the address, which is in the image and not below its base.
use Rattle.std.proofs.Common.{◌≡◌, ℕ, ◌+◌, ◌%◌, ◌^◌, ◌<◌, ◌≤◌, true, refl, ap, subst, ◌∙◌, arith}
use Rattle.std.specs.Prelude.{max}
use Rattle.std.specs.FinMap.{empty}
use Rattle.macho_model.specs.declared.placed.Counts.{Counts}
use Rattle.macho_model.specs.declared.targets.Target.{Target}
use Rattle.macho_model.specs.declared.targets.Target.TheVariants as target
use Rattle.macho_model.specs.Links.{Link}
use Rattle.macho_model.specs.Targets.{is_defined}
use Rattle.macho_model.specs.Placement.{Placed}
use Rattle.macho_model.specs.Addresses.{address_of}
use Rattle.macho_model.specs.Stands.{IsAt}
use Rattle.macho_layout_laws.specs.Laws.{IsWhollyPlaced}
use Rattle.macho_placed_laws.specs.Targets.{ListsAll, IsOfLink}
use Rattle.macho_placed_laws.proofs.Above.{targets_above}
use Rattle.macho_placed_laws.proofs.Places.{places_are_had}
use Rattle.macho_fields.specs.Looks.{Look, TellsAddresses, wrapped_in}

pub lists_all : (l : Link) (counts : Counts) (p : Placed) → IsWhollyPlaced l counts p → ListsAll l p
lists_all l counts p placed =
    record { sections = placed.order.sections; commons = placed.order.commons; slots = placed.placed.whole_list.slots }

-- what the look-ups tell of a target
pub told_address : (p : Placed) (look : Look) (t : Target) → TellsAddresses p look → (is_defined t ≡ true → address_of p t < 2 ^ 64)
    → wrapped_in look t ≡ address_of p t
told_address p look (target.Section file section offset) tells low =
    ap (λ (n : ℕ). (n + offset) % 2 ^ 64) (tells.sections file section) ∙ omega (arith, low refl)
told_address p look (target.Common id) tells low = tells.commons id
told_address p look target.Base tells low = tells.base
told_address p look (target.Absolute value) tells low = refl
told_address p look (target.Import id) tells low = refl
told_address p look target.None tells low = refl

-- a target of the link is where its address is
pub stands_at : (l : Link) (p : Placed) (t : Target) → ListsAll l p → IsOfLink l t → IsAt l p 0 empty t (address_of p t)
stands_at l p t lists of =
    subst (IsAt l p 0 empty t) zero_more (places_are_had l p 0 empty t lists of)
  where
    zero_more : address_of p t + 0 ≡ address_of p t
    zero_more = omega arith

-- and that is not below the base
pub base_below : (l : Link) (counts : Counts) (p : Placed) (look : Look) (t : Target) → IsWhollyPlaced l counts p → TellsAddresses p look
    → IsOfLink l t
    → address_of p t < 2 ^ 64
    → (max look.base (wrapped_in look t) ≡ address_of p t) × (p.base ≤ address_of p t)
base_below l counts p look t placed tells of low =
    let above = targets_above l counts p t placed.placed (lists_all l counts p placed) of in
    let told = told_address p look t tells (λ moves. low) in
    (omega (arith, above, told, tells.base), above)
