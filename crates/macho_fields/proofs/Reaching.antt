-- A value that was written fits, and one that could not be written does not, kind by kind.
--
-- A field can hold its value exactly where the definitions say that the target is in reach, by the laws of reaches; and a
-- target is nowhere but where the look-ups say. A pointer always fits its 8 bytes. The load of a slot always fits, since a
-- slot stands at a multiple of 8, and so does the ADD that is made of one.
use Rattle.std.proofs.Common.{◌≡◌, ℕ, ◌+◌, ◌%◌, ◌≤◌, ◌==◌, ◌||◌, true, false, Bool, List, Option, Some, None, refl, sym, ap, subst, ◌∙◌, arith, inl, inr, ◌⊎◌, length, Contains}
use Rattle.std.specs.FinMap.{empty}
use Rattle.macho_bytes.specs.Numbers.{le_at, page, low}
use Rattle.macho_model.specs.declared.placed.PlacedSection.{PlacedSection}
use Rattle.macho_model.specs.declared.placed.Slot.{Slot}
use Rattle.macho_model.specs.declared.targets.Target.{Target}
use Rattle.macho_model.specs.Links.{Link}
use Rattle.macho_model.specs.Targets.{is_import}
use Rattle.macho_model.specs.Words.{is_ldr}
use Rattle.macho_model.specs.Fields.{Field}
use Rattle.macho_model.specs.Meaning.{address}
use Rattle.macho_model.specs.Placement.{Placed, id_of}
use Rattle.macho_model.specs.Addresses.{slot_address}
use Rattle.macho_model.specs.Stands.{Kind, Pointer, Difference, Branch, Page, Offset, SlotPage, SlotOffset, SlotDistance, NoKind, SubtrahendIsAt}
use Rattle.macho_model.specs.Values.{less, DoesNotFit, branch_reaches, page_reaches, offset_fits, fits_signed}
use Rattle.macho_arm64.specs.declared.kinds.FieldSize.TheVariants.{Bytes, Adr, JumpCall, Low12}
use Rattle.macho_arm64.specs.Fields.{fits_word, can_hold}
use Rattle.macho_arm64.specs.Laws.{size_for}
use Rattle.macho_arm64.specs.Relaxations.{IsMadeAdd, is_relaxable}
use Rattle.macho_arm64.proofs.FieldLaws.{add_can_hold, slot_load_fits, slot_load_can_hold}
use Rattle.macho_arm64.proofs.ReachLaws.{page_can_hold, offset_can_hold, offset_words}
use Rattle.macho_fields.specs.Looks.{Look, TellsAddresses, IsPlacedOnce, HasSlot, address_in}
use Rattle.macho_fields.specs.steps.Fields.{call_in, load_in, minus_in, write_in}
use Rattle.macho_fields.specs.steps.Filled.{place_in}
use Rattle.macho_fields.specs.steps.Writes.{IsReady, HasField}
use Rattle.macho_fields.specs.steps.Kinds.{KindFits, IsSubtracted, IsLoadable, direct, by_slot}
use Rattle.macho_fields.proofs.Placing.{defined_is, image_looked, image_only, slot_looked, slot_looked_only, call_looked, call_only, load_looked, load_only, load_in_slot}
use Rattle.macho_fields.proofs.Saying.{subtracted_at, import_stays, other_goes}
use Rattle.macho_bytes.proofs.Bools.{true_or_false}

pub subtracted_only : (l : Link) (p : Placed) (look : Look) (t : Option Target) (y : ℕ) → TellsAddresses p look → IsPlacedOnce p
    → IsSubtracted p t
    → SubtrahendIsAt l p 0 empty t y → y ≡ minus_in look t
subtracted_only l p look None y tells once h at = absurd h
subtracted_only l p look (Some t) y tells once h at = image_only l p look t y tells once h at

-- a place below 2 ^ 64, as the page of it is taken
page_holds : (word place to : ℕ) (b : Bool) → can_hold Adr word (less (page (address to)) (page place)) ≡ b → page_reaches place to ≡ b
page_holds word place to b h = sym (page_can_hold word place to) ∙ h

-- the word before the value, where nothing was changed, is the input's
input_word : (w o : ℕ) (mid old : List ℕ) (input : ℕ) → w ≡ 4 → mid ≡ old → le_at w old o ≡ input → le_at 4 mid o ≡ input
input_word w o mid old input four same still = ap (λ (t : List ℕ). le_at 4 t o) same ∙ ap (λ (n : ℕ). le_at n old o) (sym four) ∙ still

-- what was written fits
pub fits_by_kind : (l : Link) (p : Placed) (look : Look) (q : PlacedSection) (f : Field) (start input : ℕ) (old mid : List ℕ) (kind : Kind)
    → TellsAddresses p look → IsPlacedOnce p → KindFits p f input kind → le_at f.width old f.offset ≡ input
    → IsReady (write_in look (place_in q f) start f kind) old mid
    → can_hold (size_for kind f.width) (le_at 4 mid f.offset) (write_in look (place_in q f) start f kind).value ≡ true
    → DoesNotFit l p (id_of q) f (place_in q f) input kind → ⊥
fits_by_kind l p look q f start input old mid Pointer tells once fits still ready room bad = bad
fits_by_kind l p look q f start input old mid Difference tells once fits still ready room bad =
    let x = image_only l p look f.target bad.0 tells once fits.1 bad.2 in
    let y = subtracted_only l p look f.subtrahend bad.1 tells once fits.2 bad.3 in
    let held = subst (λ (n : ℕ). can_hold (Bytes n) (le_at 4 mid f.offset)
    (less (address_in look f.target + f.addend) (minus_in look f.subtrahend)) ≡ true) bad.4 room in
    true_or_false (fits_signed 32 (less (address_in look f.target + f.addend) (minus_in look f.subtrahend))) held
    (ap (λ (n : ℕ). fits_signed 32 (less (n + f.addend) (minus_in look f.subtrahend))) (sym x)
    ∙ ap (λ (n : ℕ). fits_signed 32 (less (bad.0 + f.addend) n)) (sym y) ∙ bad.5)
fits_by_kind l p look q f start input old mid Branch tells once fits still ready room bad =
    let x = call_only l p look f.target bad.0 tells once fits.2 bad.1 in
    true_or_false (branch_reaches (place_in q f) (call_in look f.target + f.addend)) room
    (ap (λ (n : ℕ). branch_reaches (place_in q f) (n + f.addend)) (sym x) ∙ bad.2)
fits_by_kind l p look q f start input old mid Page tells once fits still ready room bad =
    let x = image_only l p look f.target bad.0 tells once fits.2 bad.1 in
    true_or_false (page_reaches (place_in q f) (address_in look f.target + f.addend))
    (page_holds (le_at 4 mid f.offset) (place_in q f) (address_in look f.target + f.addend) true room)
    (ap (λ (n : ℕ). page_reaches (place_in q f) (n + f.addend)) (sym x) ∙ bad.2)
fits_by_kind l p look q f start input old mid Offset tells once fits still ready room bad =
    let x = image_only l p look f.target bad.0 tells once fits.2 bad.1 in
    let word = input_word f.width f.offset mid old input fits.0 (ready.kept refl) still in
    true_or_false (offset_fits input (address_in look f.target + f.addend))
    (ap (λ (n : ℕ). offset_fits n (address_in look f.target + f.addend)) (sym word)
    ∙ sym (offset_can_hold (le_at 4 mid f.offset) (address_in look f.target + f.addend)) ∙ room)
    (ap (λ (n : ℕ). offset_fits input (n + f.addend)) (sym x) ∙ bad.2)
fits_by_kind l p look q f start input old mid SlotPage tells once fits still ready room bad =
    let x = load_only l p look f.target bad.0 tells once fits.2 bad.1 in
    true_or_false (page_reaches (place_in q f) (load_in look f.target))
    (page_holds (le_at 4 mid f.offset) (place_in q f) (load_in look f.target) true room)
    (ap (page_reaches (place_in q f)) (sym x) ∙ bad.2)
fits_by_kind l p look q f start input old mid SlotOffset tells once fits still ready room bad = bad
fits_by_kind l p look q f start input old mid SlotDistance tells once fits still ready room bad =
    let x = slot_looked_only p look f.target bad.0 tells once bad.1 in
    let held = subst (λ (n : ℕ). can_hold (Bytes n) (le_at 4 mid f.offset) (less (look.slot f.target) (place_in q f)) ≡ true) fits.0 room in
    true_or_false (fits_signed 32 (less (look.slot f.target) (place_in q f))) held
    (ap (λ (n : ℕ). fits_signed 32 (less n (place_in q f))) (sym x) ∙ bad.2)
fits_by_kind l p look q f start input old mid NoKind tells once fits still ready room bad = bad

-- a slot stands at a multiple of 8, as it is looked up
abbrev pub AreAligned : Placed → Type 0
AreAligned p = (s : Slot) → Contains p.slots s → s.address % 8 ≡ 0

pub slot_aligned : (p : Placed) (look : Look) (t : Target) → TellsAddresses p look → IsPlacedOnce p → AreAligned p → HasSlot p t
    → look.slot t % 8 ≡ 0
slot_aligned p look t tells once aligned h =
    let e : look.slot t ≡ h.0.address = tells.slots t ∙ sym (ap (slot_address p) h.2) ∙ once.slots h.0 h.1 in
    ap (λ (n : ℕ). n % 8) e ∙ aligned h.0 h.1

-- the low bits of whatever a load is written for fit
load_fits_always : (p : Placed) (look : Look) (t : Target) (input mid : ℕ) → TellsAddresses p look → IsPlacedOnce p → AreAligned p
    → is_ldr input ≡ true
    → (is_import t ≡ true → mid ≡ input) → (is_import t ≡ false → IsMadeAdd input mid) → IsLoadable p t
    → can_hold Low12 mid (low (address (load_in look t))) ≡ true
load_fits_always p look t input mid tells once aligned load kept made (direct image) =
    add_can_hold input mid (low (address (load_in look t))) (made (defined_is t image.defined).0) (omega arith)
load_fits_always p look t input mid tells once aligned load kept made (by_slot moves slot) =
    subst (λ (k : ℕ). can_hold Low12 k (low (address (load_in look t))) ≡ true) (sym (kept moves))
    (slot_load_can_hold input (load_in look t) load
    (subst (λ (n : ℕ). n % 8 ≡ 0) (sym (load_in_slot look t moves)) (slot_aligned p look t tells once aligned slot)))

four_or_eight : (w : ℕ) (word value : ℕ) → (w ≡ 4) ⊎ (w ≡ 8) → can_hold (Bytes w) word value ≡ false → w ≡ 4
four_or_eight w word value (inl four) far = four
four_or_eight w word value (inr eight) far =
    absurd (true_or_false true refl (subst (λ (n : ℕ). can_hold (Bytes n) word value ≡ false) eight far))

-- what could not be written does not fit
pub unfit_by_kind : (l : Link) (p : Placed) (look : Look) (q : PlacedSection) (f : Field) (start input : ℕ) (old mid : List ℕ) (kind : Kind)
    → TellsAddresses p look → IsPlacedOnce p → AreAligned p → KindFits p f input kind → le_at f.width old f.offset ≡ input
    → IsReady (write_in look (place_in q f) start f kind) old mid
    → can_hold (size_for kind f.width) (le_at 4 mid f.offset) (write_in look (place_in q f) start f kind).value ≡ false
    → DoesNotFit l p (id_of q) f (place_in q f) input kind
unfit_by_kind l p look q f start input old mid Pointer tells once aligned fits still ready far =
    true_or_false true refl
    (subst (λ (n : ℕ). can_hold (Bytes n) (le_at 4 mid f.offset) (write_in look (place_in q f) start f Pointer).value ≡ false) fits.0 far)
unfit_by_kind l p look q f start input old mid Difference tells once aligned fits still ready far =
    let value = less (address_in look f.target + f.addend) (minus_in look f.subtrahend) in
    let four = four_or_eight f.width (le_at 4 mid f.offset) value fits.0 far in (
      address_in look f.target,
      minus_in look f.subtrahend,
      image_looked l p look f.target tells once fits.1,
      subtracted_at l p look f.subtrahend tells once fits.2,
      four,
      subst (λ (n : ℕ). can_hold (Bytes n) (le_at 4 mid f.offset) value ≡ false) four far,
    )
unfit_by_kind l p look q f start input old mid Branch tells once aligned fits still ready far =
    (call_in look f.target, call_looked l p look f.target tells once fits.2, far)
unfit_by_kind l p look q f start input old mid Page tells once aligned fits still ready far = (
  address_in look f.target,
  image_looked l p look f.target tells once fits.2,
  page_holds (le_at 4 mid f.offset) (place_in q f) (address_in look f.target + f.addend) false far,
)
unfit_by_kind l p look q f start input old mid Offset tells once aligned fits still ready far =
    let word = input_word f.width f.offset mid old input fits.0 (ready.kept refl) still in (
      address_in look f.target,
      image_looked l p look f.target tells once fits.2,
      ap (λ (n : ℕ). offset_fits n (address_in look f.target + f.addend)) (sym word)
          ∙ sym (offset_can_hold (le_at 4 mid f.offset) (address_in look f.target + f.addend)) ∙ far,
    )
unfit_by_kind l p look q f start input old mid SlotPage tells once aligned fits still ready far = (
  load_in look f.target,
  load_looked l p look f.target tells once fits.2,
  page_holds (le_at 4 mid f.offset) (place_in q f) (load_in look f.target) false far,
)
unfit_by_kind l p look q f start input old mid SlotOffset tells once aligned fits still ready far =
    let four = fits.0 in
    let from : le_at 4 old f.offset ≡ input = ap (λ (n : ℕ). le_at n old f.offset) (sym four) ∙ still in
    true_or_false (can_hold Low12 (le_at 4 mid f.offset) (low (address (load_in look f.target))))
    (load_fits_always p look f.target input (le_at 4 mid f.offset) tells once aligned fits.1
    (λ moves. ap (λ (t : List ℕ). le_at 4 t f.offset) (ready.kept (import_stays f.target moves)) ∙ from)
    (λ own. subst (λ (k : ℕ). IsMadeAdd k (le_at 4 mid f.offset)) from (ready.made (other_goes f.target own))) fits.3)
    far
unfit_by_kind l p look q f start input old mid SlotDistance tells once aligned fits still ready far = (
  look.slot f.target,
  slot_looked p look f.target tells once fits.2,
  subst (λ (n : ℕ). can_hold (Bytes n) (le_at 4 mid f.offset) (less (look.slot f.target) (place_in q f)) ≡ false) fits.0 far,
)
unfit_by_kind l p look q f start input old mid NoKind tells once aligned fits still ready far = absurd fits

is_four_or_eight : (w : ℕ) → (w ≡ 4) ⊎ (w ≡ 8) → ((w == 4) || (w == 8)) ≡ true
is_four_or_eight w (inl four) = rw four refl
is_four_or_eight w (inr eight) = rw eight refl

-- a field that fits can be written
pub has_field_by_kind : (look : Look) (p : Placed) (q : PlacedSection) (f : Field) (start input : ℕ) (old : List ℕ) (kind : Kind)
    → KindFits p f input kind
    → f.offset + f.width ≤ length old → le_at f.width old f.offset ≡ input → HasField (write_in look (place_in q f) start f kind) old
has_field_by_kind look p q f start input old Pointer fits inside still = record {
  inside = inside;
  field = is_four_or_eight f.width (inr fits.0);
  kept = λ plain. refl;
  made = λ relaxed. absurd (true_or_false false relaxed refl);
}
has_field_by_kind look p q f start input old Difference fits inside still = record {
  inside = inside;
  field = is_four_or_eight f.width fits.0;
  kept = λ plain. refl;
  made = λ relaxed. absurd (true_or_false false relaxed refl);
}
has_field_by_kind look p q f start input old Branch fits inside still =
    let from = ap (λ (n : ℕ). le_at n old f.offset) (sym fits.0) ∙ still in
    record {
      inside = omega (arith, fits.0, inside);
      field = refl;
      kept = λ plain. ap (fits_word JumpCall) from ∙ fits.1;
      made = λ relaxed. absurd (true_or_false false relaxed refl);
    }
has_field_by_kind look p q f start input old Page fits inside still =
    let from = ap (λ (n : ℕ). le_at n old f.offset) (sym fits.0) ∙ still in
    record {
      inside = omega (arith, fits.0, inside);
      field = refl;
      kept = λ plain. ap (fits_word Adr) from ∙ fits.1;
      made = λ relaxed. absurd (true_or_false false relaxed refl);
    }
has_field_by_kind look p q f start input old Offset fits inside still =
    let from = ap (λ (n : ℕ). le_at n old f.offset) (sym fits.0) ∙ still in
    record {
      inside = omega (arith, fits.0, inside);
      field = refl;
      kept = λ plain. ap (fits_word Low12) from ∙ offset_words input ∙ fits.1;
      made = λ relaxed. absurd (true_or_false false relaxed refl);
    }
has_field_by_kind look p q f start input old SlotPage fits inside still =
    let from = ap (λ (n : ℕ). le_at n old f.offset) (sym fits.0) ∙ still in
    record {
      inside = omega (arith, fits.0, inside);
      field = refl;
      kept = λ plain. ap (fits_word Adr) from ∙ fits.1;
      made = λ relaxed. absurd (true_or_false false relaxed refl);
    }
has_field_by_kind look p q f start input old SlotOffset fits inside still =
    let from = ap (λ (n : ℕ). le_at n old f.offset) (sym fits.0) ∙ still in
    record {
      inside = omega (arith, fits.0, inside);
      field = refl;
      kept = λ plain. ap (fits_word Low12) from ∙ slot_load_fits input fits.1;
      made = λ relaxed. (ap is_relaxable from ∙ fits.2 relaxed, refl);
    }
has_field_by_kind look p q f start input old SlotDistance fits inside still = record {
  inside = inside;
  field = is_four_or_eight f.width (inl fits.0);
  kept = λ plain. refl;
  made = λ relaxed. absurd (true_or_false false relaxed refl);
}
has_field_by_kind look p q f start input old NoKind fits inside still = absurd fits
