-- A word says what its field is asked to exactly where it passes the test for its value, kind by kind.
--
-- A target is at one address, which is looked up. So where the word says it, the way from the place to that address, or the
-- low bits of it, is the value that the word holds; and what is left of the word is the input's. The load of what is in the
-- image became an ADD to the same base, into the same register, and of that only the offset is a value. The other way, such
-- a word holds its value, and a word that holds its value says what it is asked to.
use Rattle.std.proofs.Common.{◌≡◌, ℕ, ◌+◌, ◌*◌, ◌^◌, ◌<◌, ◌==◌, ◌&&◌, true, false, Bool, Option, Some, None, refl, sym, ap, subst, ◌∙◌, arith}
use Rattle.std.specs.FinMap.{empty}
use Rattle.macho_bytes.specs.Numbers.{bits, signed, page, low, PAGE}
use Rattle.macho_model.specs.declared.placed.PlacedSection.{PlacedSection}
use Rattle.macho_model.specs.declared.placed.Range64.{Range64}
use Rattle.macho_model.specs.declared.targets.Target.{Target}
use Rattle.macho_model.specs.declared.targets.Target.TheVariants as target
use Rattle.macho_model.specs.Links.{Link}
use Rattle.macho_model.specs.Targets.{is_import}
use Rattle.macho_model.specs.Words.{is_add, imm12, imm21, imm26, scale_of, base_register, written_register}
use Rattle.macho_model.specs.Fields.{Field}
use Rattle.macho_model.specs.Meaning.{Same, address, AddsTo}
use Rattle.macho_model.specs.Placement.{Placed, id_of}
use Rattle.macho_model.specs.Stands.{IsAt, Kind, Pointer, Difference, Branch, Page, Offset, SlotPage, SlotOffset, SlotDistance, NoKind, PointerSays, LoadSays, is_template_offset}
use Rattle.macho_model.specs.steps.Stands.{SaysOf}
use Rattle.macho_model.specs.Values.{less}
use Rattle.macho_arm64.specs.declared.kinds.FieldSize.{FieldSize}
use Rattle.macho_arm64.specs.declared.kinds.FieldSize.TheVariants.{Bytes, Adr, JumpCall, Low12}
use Rattle.macho_arm64.specs.Fields.{value_of, rest_of, Holds}
use Rattle.macho_arm64.specs.Relaxations.{IsMadeAdd}
use Rattle.macho_arm64.proofs.FieldLaws.{operation, scale_of-add, scale_of-ldr, signed_64}
use Rattle.macho_fields.specs.Looks.{Look, TellsAddresses, IsPlacedOnce, address_in}
use Rattle.macho_fields.specs.steps.Fields.{call_in, load_in, minus_in, goes_straight, value_in, write_in}
use Rattle.macho_fields.specs.steps.Filled.{place_in}
use Rattle.macho_fields.specs.steps.Kinds.{KindFits}
use Rattle.macho_fields.specs.steps.Reads.{is_straight_add, says_value, tells, IsHeld}
use Rattle.macho_fields.proofs.Placing.{address_told, stands_only, image_only, slot_looked_only, call_only, load_only}
use Rattle.macho_fields.proofs.Saying.{IsStart}
use Rattle.macho_fields.proofs.Reaching.{subtracted_only}
use Rattle.macho_bytes.proofs.Bools.{true_or_false, and_left, and_right, and_both, is_equal, equal_is}

-- A test that is passed: the word holds its value.
test_holds : (size : FieldSize) (value input word : ℕ) → ((value_of size word == value) && (rest_of size word == rest_of size input)) ≡ true
    → Holds size input word value
test_holds size value input word h = record {
  says = is_equal (value_of size word) value (and_left (value_of size word == value) (rest_of size word == rest_of size input) h);
  kept = is_equal (rest_of size word) (rest_of size input)
      (and_right (value_of size word == value) (rest_of size word == rest_of size input) h);
}

-- the ADD of 0 to the same base, into the same register
plain_add : ℕ → ℕ
plain_add word = 0x91000000 + bits 0 10 word

pub record IsStraight (value input word : ℕ) : Type 0 where
  pub add : is_add word ≡ true
  pub base : base_register word ≡ base_register input
  pub written : written_register word ≡ written_register input
  pub says : imm12 word ≡ value

straight_is : (value input word : ℕ) → is_straight_add value input word ≡ true → IsStraight value input word
straight_is value input word h =
    let a = is_add word in
    let b = base_register word == base_register input in
    let c = written_register word == written_register input in
    let d = imm12 word == value in
    let front = and_left (a && b && c) d h in
    record {
      add = and_left a b (and_left (a && b) c front);
      base = is_equal (base_register word) (base_register input) (and_right a b (and_left (a && b) c front));
      written = is_equal (written_register word) (written_register input) (and_right (a && b) c front);
      says = is_equal (imm12 word) value (and_right (a && b && c) d h);
    }

straight_add : (value input word : ℕ) → IsStraight value input word → is_straight_add value input word ≡ true
straight_add value input word s =
    let a = is_add word in
    let b = base_register word == base_register input in
    let c = written_register word == written_register input in
    let d = imm12 word == value in
    and_both (a && b && c) d
    (and_both (a && b) c (and_both a b s.add (equal_is (base_register word) (base_register input) s.base))
    (equal_is (written_register word) (written_register input) s.written))
    (equal_is (imm12 word) value s.says)

add_is_made : (value input word : ℕ) → IsStraight value input word → IsMadeAdd input (plain_add word)
unfolding plain_add
add_is_made value input word s =
    let op : bits 22 10 (0x91000000 + bits 0 10 word) ≡ 0b1001000100 = omega arith in
    record {
      add = equal_is (bits 22 10 (0x91000000 + bits 0 10 word)) 0b1001000100 op;
      base = omega (arith, s.base);
      written = omega (arith, s.written);
      zero_offset = omega arith;
    }

add_holds : (value input word : ℕ) → IsStraight value input word → Holds Low12 (plain_add word) word value
unfolding plain_add
add_holds value input word s =
    let op : bits 22 10 word ≡ 0b1001000100 = operation word 0b1001000100 s.add in
    let one : imm12 word * 1 ≡ value = omega (arith, s.says) in
    record {
      says = ap (λ (n : ℕ). imm12 word * n) (scale_of-add word s.add) ∙ one;
      kept = omega arith;
    }

by_goes : (b : Bool) (at value input word : ℕ) → says_value Low12 b value input word ≡ true
    → IsHeld (record { at = at; size = Low12; relax = b; value = value }) input word
by_goes false at value input word h = record {
  ready = input;
  kept = λ plain. refl;
  made = λ relaxed. absurd (true_or_false false relaxed refl);
  holds = test_holds Low12 value input word h;
}
by_goes true at value input word h =
    let s = straight_is value input word h in
    record {
      ready = plain_add word;
      kept = λ plain. absurd (true_or_false true refl plain);
      made = λ relaxed. add_is_made value input word s;
      holds = add_holds value input word s;
    }

plainly : (size : FieldSize) (at value input word : ℕ)
    → ((value_of size word == value) && (rest_of size word == rest_of size input)) ≡ true
    → IsHeld (record { at = at; size = size; relax = false; value = value }) input word
plainly size at value input word h = record {
  ready = input;
  kept = λ plain. refl;
  made = λ relaxed. absurd (true_or_false false relaxed refl);
  holds = test_holds size value input word h;
}

-- THE word that passes the test holds its value.
pub told_held : (look : Look) (place start : ℕ) (f : Field) (input word : ℕ) (kind : Kind)
    → tells (write_in look place start f kind) input word ≡ true → IsHeld (write_in look place start f kind) input word
told_held look place start f input word Pointer h = plainly (Bytes f.width) f.offset (value_in look place start f Pointer) input word h
told_held look place start f input word Difference h =
    plainly (Bytes f.width) f.offset (value_in look place start f Difference) input word h
told_held look place start f input word Branch h = plainly JumpCall f.offset (value_in look place start f Branch) input word h
told_held look place start f input word Page h = plainly Adr f.offset (value_in look place start f Page) input word h
told_held look place start f input word Offset h = by_goes false f.offset (value_in look place start f Offset) input word h
told_held look place start f input word SlotPage h = plainly Adr f.offset (value_in look place start f SlotPage) input word h
told_held look place start f input word SlotOffset h =
    by_goes (goes_straight f.target) f.offset (value_in look place start f SlotOffset) input word h
told_held look place start f input word SlotDistance h =
    plainly (Bytes f.width) f.offset (value_in look place start f SlotDistance) input word h
told_held look place start f input word NoKind h = plainly (Bytes 0) f.offset 0 input word h

-- A test for a value that the word has.
test_passes : (size : FieldSize) (value input word : ℕ) → value_of size word ≡ value → rest_of size word ≡ rest_of size input
    → ((value_of size word == value) && (rest_of size word == rest_of size input)) ≡ true
test_passes size value input word says kept =
    and_both (value_of size word == value) (rest_of size word == rest_of size input) (equal_is (value_of size word) value says)
    (equal_is (rest_of size word) (rest_of size input) kept)

-- a way from one address to another
way : (n y x : ℕ) → Same (n + y) x → address n ≡ less x y
way n y x same = omega arith

-- of pages, from a place that is below 2 ^ 64
page_way : (n place x : ℕ) → place < 2 ^ 64 → Same (page (address place) + 4096 * n) (page (address x))
    → address (PAGE * n) ≡ less (page (address x)) (page place)
page_way n place x below same =
    let here : address place ≡ place = omega arith in
    let moved : Same (page place + 4096 * n) (page (address x)) =
    subst (λ (a : ℕ). Same (page a + 4096 * n) (page (address x))) here same in
    omega (arith, moved)

-- a pointer, which may count from the start of the template
pointer_told : (b : Bool) (template : Option Range64) (start word x : ℕ) → IsStart b template start → PointerSays b template 0 word x
    → address (signed 64 word) ≡ less x start
pointer_told false template start word x begins says = omega (arith, begins, says, signed_64 word)
pointer_told true None start word x begins says = absurd begins
pointer_told true (Some r) start word x begins says = omega (arith, begins, says, signed_64 word)

-- the ADD of the target's own address
add_told : (l : Link) (p : Placed) (look : Look) (t : Target) (input word : ℕ) → TellsAddresses p look → IsPlacedOnce p
    → is_import t ≡ false → (x : ℕ) → IsAt l p 0 empty t x → AddsTo word input x
    → is_straight_add (low (address (address_in look t))) input word ≡ true
add_told l p look t input word tells once own x at adds =
    let here : x ≡ address_in look t = stands_only l p t x once own at ∙ sym (address_told p look t tells) in
    straight_add (low (address (address_in look t))) input word (record {
      add = adds.add;
      base = adds.base;
      written = adds.written;
      says = adds.reaches ∙ ap (λ (n : ℕ). low (address n)) here;
    })

-- the load of a slot, or that ADD
load_told : (l : Link) (p : Placed) (look : Look) (t : Target) (input word : ℕ) → TellsAddresses p look → IsPlacedOnce p
    → LoadSays l p 0 empty t word input
    → says_value Low12 (goes_straight t) (low (address (load_in look t))) input word ≡ true
load_told l p look (target.Import id) input word tells once says =
    let slot = slot_looked_only p look (target.Import id) says.0 tells once says.1 in
    let value : imm12 word * scale_of word ≡ low (address (look.slot (target.Import id))) =
    ap (λ (n : ℕ). imm12 word * n) (scale_of-ldr word says.2.load) ∙ omega (arith, says.2.reaches)
    ∙ ap (λ (n : ℕ). low (address n)) slot in
    test_passes Low12 (low (address (look.slot (target.Import id)))) input word value says.2.kept
load_told l p look (target.Section file section offset) input word tells once says =
    add_told l p look (target.Section file section offset) input word tells once refl says.0 says.1 says.2
load_told l p look (target.Common id) input word tells once says =
    add_told l p look (target.Common id) input word tells once refl says.0 says.1 says.2
load_told l p look target.Base input word tells once says =
    add_told l p look target.Base input word tells once refl says.0 says.1 says.2
load_told l p look (target.Absolute value) input word tells once says = absurd says
load_told l p look target.None input word tells once says = absurd says.1

-- THE word that says what its field is asked to passes the test.
pub says_told : (l : Link) (p : Placed) (look : Look) (q : PlacedSection) (f : Field) (start input word : ℕ) (kind : Kind)
    → TellsAddresses p look → IsPlacedOnce p → place_in q f < 2 ^ 64 → KindFits p f input kind
    → (kind ≡ Pointer → (is_import f.target ≡ false) × IsStart (is_template_offset l (id_of q) f) p.template start)
    → SaysOf l p 0 empty (id_of q) f (q.address + f.offset) word input kind
    → tells (write_in look (place_in q f) start f kind) input word ≡ true
says_told l p look q f start input word Pointer tells once below fits begins says =
    let own = begins refl in
    let x : says.0 ≡ address_in look f.target =
    stands_only l p f.target says.0 once own.0 says.1 ∙ sym (address_told p look f.target tells) in
    let value = less (address_in look f.target + f.addend) start in
    let here : address (signed (8 * 8) word) ≡ value =
    pointer_told (is_template_offset l (id_of q) f) p.template start word (says.0 + f.addend) own.1 says.2
    ∙ ap (λ (n : ℕ). less (n + f.addend) start) x in
    test_passes (Bytes f.width) value input word (ap (λ (n : ℕ). address (signed (8 * n) word)) fits.0 ∙ here) refl
says_told l p look q f start input word Difference tells once below fits begins says =
    let x = image_only l p look f.target says.0 tells once fits.1 says.2 in
    let y = subtracted_only l p look f.subtrahend says.1 tells once fits.2 says.3 in
    let value = less (address_in look f.target + f.addend) (minus_in look f.subtrahend) in
    let here : address (signed (8 * f.width) word) ≡ value =
    way (signed (8 * f.width) word) says.1 (says.0 + f.addend) says.4
    ∙ ap (λ (n : ℕ). less (n + f.addend) says.1) x ∙ ap (λ (n : ℕ). less (address_in look f.target + f.addend) n) y in
    test_passes (Bytes f.width) value input word here refl
says_told l p look q f start input word Branch tells once below fits begins says =
    let x = call_only l p look f.target says.0 tells once fits.2 says.1 in
    let place = place_in q f in
    let here : address (4 * signed 26 (imm26 word)) ≡ less (call_in look f.target + f.addend) place =
    way (4 * signed 26 (imm26 word)) place (says.0 + f.addend) (omega (arith, says.2.reaches))
    ∙ ap (λ (n : ℕ). less (n + f.addend) place) x in
    test_passes JumpCall (less (call_in look f.target + f.addend) place) input word here says.2.kept
says_told l p look q f start input word Page tells once below fits begins says =
    let x = image_only l p look f.target says.0 tells once fits.2 says.1 in
    let place = place_in q f in
    let value = less (page (address (address_in look f.target + f.addend))) (page place) in
    let here : address (PAGE * signed 21 (imm21 word)) ≡ value =
    page_way (signed 21 (imm21 word)) place (says.0 + f.addend) below says.2.reaches
    ∙ ap (λ (n : ℕ). less (page (address (n + f.addend))) (page place)) x in
    test_passes Adr value input word here says.2.kept
says_told l p look q f start input word Offset tells once below fits begins says =
    let x = image_only l p look f.target says.0 tells once fits.2 says.1 in
    let value = low (address (address_in look f.target + f.addend)) in
    test_passes Low12 value input word (says.2.reaches ∙ ap (λ (n : ℕ). low (address (n + f.addend))) x) says.2.kept
says_told l p look q f start input word SlotPage tells once below fits begins says =
    let x = load_only l p look f.target says.0 tells once fits.2 says.1 in
    let place = place_in q f in
    let value = less (page (address (load_in look f.target))) (page place) in
    let here : address (PAGE * signed 21 (imm21 word)) ≡ value =
    page_way (signed 21 (imm21 word)) place says.0 below says.2.reaches
    ∙ ap (λ (n : ℕ). less (page (address n)) (page place)) x in
    test_passes Adr value input word here says.2.kept
says_told l p look q f start input word SlotOffset tells once below fits begins says =
    load_told l p look f.target input word tells once says
says_told l p look q f start input word SlotDistance tells once below fits begins says =
    let x = slot_looked_only p look f.target says.0 tells once says.1 in
    let place = place_in q f in
    let value = less (look.slot f.target) place in
    let here : address (signed (8 * 4) word) ≡ value =
    way (signed 32 word) place says.0 (omega (arith, says.2)) ∙ ap (λ (n : ℕ). less n place) x in
    test_passes (Bytes f.width) value input word (ap (λ (n : ℕ). address (signed (8 * n) word)) fits.0 ∙ here) refl
says_told l p look q f start input word NoKind tells once below fits begins says = absurd says
