-- Where a target is, by the addresses that are looked up.
--
-- A thing that is placed has one address, and the look-ups tell it. So a target in its place is where the look-ups say, and
-- nowhere else; a slot and a stub likewise.
use Rattle.std.proofs.Common.{◌≡◌, ℕ, ◌+◌, true, false, refl, sym, ap, subst, ◌∙◌, arith}
use Rattle.std.specs.FinMap.{empty}
use Rattle.macho_model.specs.declared.targets.Target.{Target}
use Rattle.macho_model.specs.declared.targets.Target.TheVariants as target
use Rattle.macho_model.specs.Links.{Link}
use Rattle.macho_model.specs.Targets.{is_import, is_defined}
use Rattle.macho_model.specs.Rows.{is_none}
use Rattle.macho_model.specs.Placement.{Placed}
use Rattle.macho_model.specs.Addresses.{section_address, common_address, slot_address, address_of}
use Rattle.macho_model.specs.Stands.{IsAt, SlotAt, CallIsAt, LoadIsAt}
use Rattle.macho_fields.specs.Looks.{Look, TellsAddresses, IsThere, HasSlot, HasStub, IsPlacedOnce, stub_address, address_in}
use Rattle.macho_fields.specs.steps.Fields.{call_in, load_in}
use Rattle.macho_fields.specs.steps.Kinds.{IsInImage, IsCallable, IsLoadable, direct, by_stub, by_slot}
use Rattle.macho_model.specs.steps.Stands.{StubAt}
use Rattle.macho_bytes.proofs.Bools.{true_or_false}

-- the address that is looked up is the placement's
pub address_told : (p : Placed) (look : Look) (t : Target) → TellsAddresses p look → address_in look t ≡ address_of p t
address_told p look (target.Section file section offset) tells = ap (λ (n : ℕ). n + offset) (tells.sections file section)
address_told p look (target.Common id) tells = tells.commons id
address_told p look (target.Import id) tells = refl
address_told p look target.Base tells = tells.base
address_told p look (target.Absolute value) tells = refl
address_told p look target.None tells = refl

-- a target is at that address
pub stands_at : (l : Link) (p : Placed) (t : Target) → IsPlacedOnce p → IsThere p t → is_import t ≡ false → is_none t ≡ false
    → IsAt l p 0 empty t (address_of p t)
stands_at l p (target.Section file section offset) once there own some = (
  section_address p file section,
  (
    there.0,
    there.1,
    there.2,
    there.3,
    sym (once.sections there.0 there.1) ∙ (ap (λ (n : ℕ). section_address p n there.0.section) there.2
        ∙ ap (section_address p file) there.3),
  ),
  omega arith,
)
stands_at l p (target.Common id) once there own some =
    (there.0, there.1, there.2, let e = sym (ap (common_address p) there.2) ∙ once.commons there.0 there.1 in omega (arith, e))
stands_at l p (target.Import id) once there own some = absurd (true_or_false true refl own)
stands_at l p target.Base once there own some = omega arith
stands_at l p (target.Absolute value) once there own some = refl
stands_at l p target.None once there own some = absurd (true_or_false true refl some)

-- and nowhere else
pub stands_only : (l : Link) (p : Placed) (t : Target) (x : ℕ) → IsPlacedOnce p → is_import t ≡ false → IsAt l p 0 empty t x
    → x ≡ address_of p t
stands_only l p (target.Section file section offset) x once own h =
    let q = h.1 in
    let e = ap (λ (n : ℕ). section_address p n section) (sym q.2) ∙ ap (section_address p q.0.file) (sym q.3) ∙ once.sections q.0 q.1
    ∙ q.4 in
    omega (arith, h.2, e)
stands_only l p (target.Common id) x once own h =
    let e = sym (ap (common_address p) h.2) ∙ once.commons h.0 h.1 in omega (arith, h.3, e)
stands_only l p (target.Import id) x once own h = absurd (true_or_false true refl own)
stands_only l p target.Base x once own h = omega (arith, h)
stands_only l p (target.Absolute value) x once own h = h
stands_only l p target.None x once own h = absurd h

-- a target that moves is no import, and not nothing
pub defined_is : (t : Target) → is_defined t ≡ true → (is_import t ≡ false) × (is_none t ≡ false)
defined_is (target.Section file section offset) moves = (refl, refl)
defined_is (target.Common id) moves = (refl, refl)
defined_is (target.Import id) moves = absurd (true_or_false false moves refl)
defined_is target.Base moves = (refl, refl)
defined_is (target.Absolute value) moves = absurd (true_or_false false moves refl)
defined_is target.None moves = absurd (true_or_false false moves refl)

pub in_image_at : (l : Link) (p : Placed) (t : Target) → IsPlacedOnce p → IsInImage p t → IsAt l p 0 empty t (address_of p t)
in_image_at l p t once h = let d = defined_is t h.defined in stands_at l p t once h.there d.0 d.1

pub in_image_only : (l : Link) (p : Placed) (t : Target) (x : ℕ) → IsPlacedOnce p → IsInImage p t → IsAt l p 0 empty t x
    → x ≡ address_of p t
in_image_only l p t x once h at = stands_only l p t x once (defined_is t h.defined).0 at

-- a slot and a stub
pub slot_at : (p : Placed) (t : Target) → IsPlacedOnce p → HasSlot p t → SlotAt p 0 t (slot_address p t)
slot_at p t once h = (h.0, h.1, h.2, let e = sym (ap (slot_address p) h.2) ∙ once.slots h.0 h.1 in omega (arith, e))

pub slot_only : (p : Placed) (t : Target) (x : ℕ) → IsPlacedOnce p → SlotAt p 0 t x → x ≡ slot_address p t
slot_only p t x once h = let e = sym (ap (slot_address p) h.2) ∙ once.slots h.0 h.1 in omega (arith, h.3, e)

pub stub_only : (p : Placed) (id x : ℕ) → IsPlacedOnce p → StubAt p 0 id x → x ≡ stub_address p id
stub_only p id x once h = let e = sym (ap (stub_address p) h.2) ∙ once.stubs h.0 h.1 in omega (arith, h.3, e)

import_number : Target → ℕ
import_number (target.Import id) = id
import_number t = 0

same_import : (a b : ℕ) → target.Import a ≡ target.Import b → a ≡ b
unfolding import_number
same_import a b same = ap import_number same

pub stub_at : (p : Placed) (id : ℕ) → IsPlacedOnce p → HasStub p (target.Import id) → StubAt p 0 id (stub_address p id)
stub_at p id once h =
    let own = same_import h.0.import id h.2 in
    (h.0, h.1, own, let e = sym (ap (stub_address p) own) ∙ once.stubs h.0 h.1 in omega (arith, e))

-- The same by the look-ups: what moves with the image.
pub image_looked : (l : Link) (p : Placed) (look : Look) (t : Target) → TellsAddresses p look → IsPlacedOnce p → IsInImage p t
    → IsAt l p 0 empty t (address_in look t)
image_looked l p look t tells once h = subst (IsAt l p 0 empty t) (sym (address_told p look t tells)) (in_image_at l p t once h)

pub image_only : (l : Link) (p : Placed) (look : Look) (t : Target) (x : ℕ) → TellsAddresses p look → IsPlacedOnce p → IsInImage p t
    → IsAt l p 0 empty t x → x ≡ address_in look t
image_only l p look t x tells once h at = in_image_only l p t x once h at ∙ sym (address_told p look t tells)

-- a slot
pub slot_looked : (p : Placed) (look : Look) (t : Target) → TellsAddresses p look → IsPlacedOnce p → HasSlot p t
    → SlotAt p 0 t (look.slot t)
slot_looked p look t tells once h = subst (SlotAt p 0 t) (sym (tells.slots t)) (slot_at p t once h)

pub slot_looked_only : (p : Placed) (look : Look) (t : Target) (x : ℕ) → TellsAddresses p look → IsPlacedOnce p → SlotAt p 0 t x
    → x ≡ look.slot t
slot_looked_only p look t x tells once h = slot_only p t x once h ∙ sym (tells.slots t)

-- what is called
call_direct : (l : Link) (p : Placed) (t : Target) (x : ℕ) → is_import t ≡ false → IsAt l p 0 empty t x → CallIsAt l p 0 empty t x
call_direct l p (target.Section file section offset) x own h = h
call_direct l p (target.Common id) x own h = h
call_direct l p (target.Import id) x own h = absurd (true_or_false true refl own)
call_direct l p target.Base x own h = h
call_direct l p (target.Absolute value) x own h = h
call_direct l p target.None x own h = h

direct_call : (l : Link) (p : Placed) (t : Target) (x : ℕ) → is_import t ≡ false → CallIsAt l p 0 empty t x → IsAt l p 0 empty t x
direct_call l p (target.Section file section offset) x own h = h
direct_call l p (target.Common id) x own h = h
direct_call l p (target.Import id) x own h = absurd (true_or_false true refl own)
direct_call l p target.Base x own h = h
direct_call l p (target.Absolute value) x own h = h
direct_call l p target.None x own h = h

call_in_direct : (look : Look) (t : Target) → is_import t ≡ false → call_in look t ≡ address_in look t
call_in_direct look (target.Section file section offset) own = refl
call_in_direct look (target.Common id) own = refl
call_in_direct look (target.Import id) own = absurd (true_or_false true refl own)
call_in_direct look target.Base own = refl
call_in_direct look (target.Absolute value) own = refl
call_in_direct look target.None own = refl

stub_call : (l : Link) (p : Placed) (look : Look) (t : Target) → TellsAddresses p look → IsPlacedOnce p → is_import t ≡ true → HasStub p t
    → CallIsAt l p 0 empty t (call_in look t)
stub_call l p look (target.Import id) tells once moves h = subst (StubAt p 0 id) (sym (tells.stubs id)) (stub_at p id once h)
stub_call l p look (target.Section file section offset) tells once moves h = absurd (true_or_false false moves refl)
stub_call l p look (target.Common id) tells once moves h = absurd (true_or_false false moves refl)
stub_call l p look target.Base tells once moves h = absurd (true_or_false false moves refl)
stub_call l p look (target.Absolute value) tells once moves h = absurd (true_or_false false moves refl)
stub_call l p look target.None tells once moves h = absurd (true_or_false false moves refl)

stub_call_only : (l : Link) (p : Placed) (look : Look) (t : Target) (x : ℕ) → TellsAddresses p look → IsPlacedOnce p → is_import t ≡ true
    → CallIsAt l p 0 empty t x → x ≡ call_in look t
stub_call_only l p look (target.Import id) x tells once moves h = stub_only p id x once h ∙ sym (tells.stubs id)
stub_call_only l p look (target.Section file section offset) x tells once moves h = absurd (true_or_false false moves refl)
stub_call_only l p look (target.Common id) x tells once moves h = absurd (true_or_false false moves refl)
stub_call_only l p look target.Base x tells once moves h = absurd (true_or_false false moves refl)
stub_call_only l p look (target.Absolute value) x tells once moves h = absurd (true_or_false false moves refl)
stub_call_only l p look target.None x tells once moves h = absurd (true_or_false false moves refl)

pub call_looked : (l : Link) (p : Placed) (look : Look) (t : Target) → TellsAddresses p look → IsPlacedOnce p → IsCallable p t
    → CallIsAt l p 0 empty t (call_in look t)
call_looked l p look t tells once (direct h) =
    let own = (defined_is t h.defined).0 in
    subst (CallIsAt l p 0 empty t) (sym (call_in_direct look t own))
    (call_direct l p t (address_in look t) own (image_looked l p look t tells once h))
call_looked l p look t tells once (by_stub moves h) = stub_call l p look t tells once moves h

pub call_only : (l : Link) (p : Placed) (look : Look) (t : Target) (x : ℕ) → TellsAddresses p look → IsPlacedOnce p → IsCallable p t
    → CallIsAt l p 0 empty t x → x ≡ call_in look t
call_only l p look t x tells once (direct h) at =
    let own = (defined_is t h.defined).0 in
    image_only l p look t x tells once h (direct_call l p t x own at) ∙ sym (call_in_direct look t own)
call_only l p look t x tells once (by_stub moves h) at = stub_call_only l p look t x tells once moves at

-- what is loaded
load_direct : (l : Link) (p : Placed) (t : Target) (x : ℕ) → is_defined t ≡ true → IsAt l p 0 empty t x → LoadIsAt l p 0 empty t x
load_direct l p (target.Section file section offset) x moves h = h
load_direct l p (target.Common id) x moves h = h
load_direct l p (target.Import id) x moves h = absurd (true_or_false false moves refl)
load_direct l p target.Base x moves h = h
load_direct l p (target.Absolute value) x moves h = absurd (true_or_false false moves refl)
load_direct l p target.None x moves h = h

direct_load : (l : Link) (p : Placed) (t : Target) (x : ℕ) → is_defined t ≡ true → LoadIsAt l p 0 empty t x → IsAt l p 0 empty t x
direct_load l p (target.Section file section offset) x moves h = h
direct_load l p (target.Common id) x moves h = h
direct_load l p (target.Import id) x moves h = absurd (true_or_false false moves refl)
direct_load l p target.Base x moves h = h
direct_load l p (target.Absolute value) x moves h = absurd (true_or_false false moves refl)
direct_load l p target.None x moves h = h

pub load_in_direct : (look : Look) (t : Target) → is_import t ≡ false → load_in look t ≡ address_in look t
load_in_direct look (target.Section file section offset) own = refl
load_in_direct look (target.Common id) own = refl
load_in_direct look (target.Import id) own = absurd (true_or_false true refl own)
load_in_direct look target.Base own = refl
load_in_direct look (target.Absolute value) own = refl
load_in_direct look target.None own = refl

pub load_in_slot : (look : Look) (t : Target) → is_import t ≡ true → load_in look t ≡ look.slot t
load_in_slot look (target.Import id) moves = refl
load_in_slot look (target.Section file section offset) moves = absurd (true_or_false false moves refl)
load_in_slot look (target.Common id) moves = absurd (true_or_false false moves refl)
load_in_slot look target.Base moves = absurd (true_or_false false moves refl)
load_in_slot look (target.Absolute value) moves = absurd (true_or_false false moves refl)
load_in_slot look target.None moves = absurd (true_or_false false moves refl)

load_slot : (l : Link) (p : Placed) (t : Target) (x : ℕ) → is_import t ≡ true → SlotAt p 0 t x → LoadIsAt l p 0 empty t x
load_slot l p (target.Import id) x moves h = h
load_slot l p (target.Section file section offset) x moves h = absurd (true_or_false false moves refl)
load_slot l p (target.Common id) x moves h = absurd (true_or_false false moves refl)
load_slot l p target.Base x moves h = absurd (true_or_false false moves refl)
load_slot l p (target.Absolute value) x moves h = absurd (true_or_false false moves refl)
load_slot l p target.None x moves h = absurd (true_or_false false moves refl)

slot_load : (l : Link) (p : Placed) (t : Target) (x : ℕ) → is_import t ≡ true → LoadIsAt l p 0 empty t x → SlotAt p 0 t x
slot_load l p (target.Import id) x moves h = h
slot_load l p (target.Section file section offset) x moves h = absurd (true_or_false false moves refl)
slot_load l p (target.Common id) x moves h = absurd (true_or_false false moves refl)
slot_load l p target.Base x moves h = absurd (true_or_false false moves refl)
slot_load l p (target.Absolute value) x moves h = absurd (true_or_false false moves refl)
slot_load l p target.None x moves h = absurd (true_or_false false moves refl)

pub load_looked : (l : Link) (p : Placed) (look : Look) (t : Target) → TellsAddresses p look → IsPlacedOnce p → IsLoadable p t
    → LoadIsAt l p 0 empty t (load_in look t)
load_looked l p look t tells once (direct h) =
    subst (LoadIsAt l p 0 empty t) (sym (load_in_direct look t (defined_is t h.defined).0))
    (load_direct l p t (address_in look t) h.defined (image_looked l p look t tells once h))
load_looked l p look t tells once (by_slot moves h) =
    subst (LoadIsAt l p 0 empty t) (sym (load_in_slot look t moves))
    (load_slot l p t (look.slot t) moves (slot_looked p look t tells once h))

pub load_only : (l : Link) (p : Placed) (look : Look) (t : Target) (x : ℕ) → TellsAddresses p look → IsPlacedOnce p → IsLoadable p t
    → LoadIsAt l p 0 empty t x → x ≡ load_in look t
load_only l p look t x tells once (direct h) at =
    image_only l p look t x tells once h (direct_load l p t x h.defined at) ∙ sym (load_in_direct look t (defined_is t h.defined).0)
load_only l p look t x tells once (by_slot moves h) at =
    slot_looked_only p look t x tells once (slot_load l p t x moves at) ∙ sym (load_in_slot look t moves)
