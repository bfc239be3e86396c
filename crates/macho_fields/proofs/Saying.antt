-- A field that was written says what it is asked to, before any slide, kind by kind.
--
-- The value was the distance, page distance or low bits that the kind asks for, taken by the addresses that are looked up,
-- where the target is. The field holds it, and the rest of its word is the input's, or the ADD's that was made of it. So
-- the laws of fields say what the word means.
use Rattle.std.proofs.Common.{◌≡◌, ℕ, ◌+◌, ◌^◌, ◌<◌, true, false, Bool, List, Option, Some, None, refl, sym, ap, subst, ◌∙◌, arith}
use Rattle.std.specs.FinMap.{empty}
use Rattle.macho_bytes.specs.Numbers.{le_at, page, low}
use Rattle.macho_model.specs.declared.placed.PlacedSection.{PlacedSection}
use Rattle.macho_model.specs.declared.placed.Range64.{Range64}
use Rattle.macho_model.specs.declared.targets.Target.{Target}
use Rattle.macho_model.specs.declared.targets.Target.TheVariants as target
use Rattle.macho_model.specs.Links.{Link}
use Rattle.macho_model.specs.Targets.{is_import}
use Rattle.macho_model.specs.Words.{is_ldr}
use Rattle.macho_model.specs.Fields.{Field}
use Rattle.macho_model.specs.Meaning.{Same, address, IsDistance}
use Rattle.macho_model.specs.Placement.{Placed, id_of}
use Rattle.macho_model.specs.Stands.{IsAt, Kind, Pointer, Difference, Branch, Page, Offset, SlotPage, SlotOffset, SlotDistance, NoKind, PointerSays, LoadSays, SubtrahendIsAt, is_template_offset}
use Rattle.macho_model.specs.steps.Stands.{SaysOf}
use Rattle.macho_model.specs.Values.{less}
use Rattle.macho_arm64.specs.declared.kinds.FieldSize.{FieldSize}
use Rattle.macho_arm64.specs.declared.kinds.FieldSize.TheVariants.{Bytes, Adr, JumpCall, Low12}
use Rattle.macho_arm64.specs.Fields.{width_of, Holds}
use Rattle.macho_arm64.specs.Laws.{size_for}
use Rattle.macho_arm64.specs.Relaxations.{IsMadeAdd}
use Rattle.macho_arm64.proofs.FieldLaws.{points_to, offsets_from, branches_to, pages_to, offsets_to, is_distance, loads_from, adds_to}
use Rattle.macho_arm64.proofs.ReachLaws.{less_leads}
use Rattle.macho_fields.specs.Looks.{Look, TellsAddresses, IsPlacedOnce, address_in}
use Rattle.macho_fields.specs.declared.write.FieldWrite.{FieldWrite}
use Rattle.macho_fields.specs.steps.Fields.{call_in, load_in, minus_in, goes_straight, relaxes, write_in}
use Rattle.macho_fields.specs.steps.Filled.{place_in}
use Rattle.macho_fields.specs.steps.Writes.{IsPut}
use Rattle.macho_fields.specs.steps.Reads.{IsHeld}
use Rattle.macho_fields.specs.steps.Kinds.{KindFits, IsSubtracted, IsLoadable, direct, by_slot}
use Rattle.macho_fields.proofs.Placing.{address_told, stands_at, image_looked, slot_looked, call_looked, load_looked}
use Rattle.macho_bytes.proofs.Bools.{true_or_false}

-- where a pointer counts from: nothing, or the start of the template where it is an offset in it
abbrev pub IsStart : Bool → Option Range64 → ℕ → Type 0
IsStart false template start = start ≡ 0
IsStart true None start = ⊥
IsStart true (Some r) start = start ≡ r.start

pointer_says : (b : Bool) (template : Option Range64) (start input word value x : ℕ) → IsStart b template start
    → Holds (Bytes 8) input word value
    → Same (value + start) x → PointerSays b template 0 word x
pointer_says false template start input word value x begins h row = points_to input word value x h (omega (arith, begins, row))
pointer_says true None start input word value x begins h row = absurd begins
pointer_says true (Some r) start input word value x begins h row =
    let e : Same (word + (r.start + 0)) (x + 0 + 0) = offsets_from input word value r.start x 0 0 h (omega (arith, begins, row)) in omega
    (arith, e)

-- what holds a value where the input's word does
as_input : (size : FieldSize) (ready input word v : ℕ) → ready ≡ input → Holds size ready word v → Holds size input word v
as_input size ready input word v same h = subst (λ (k : ℕ). Holds size k word v) same h

pub subtracted_at : (l : Link) (p : Placed) (look : Look) (t : Option Target) → TellsAddresses p look → IsPlacedOnce p → IsSubtracted p t
    → SubtrahendIsAt l p 0 empty t (minus_in look t)
subtracted_at l p look None tells once h = h
subtracted_at l p look (Some t) tells once h = image_looked l p look t tells once h

-- the page of a place that is below 2 ^ 64
page_leads : (to place : ℕ) → place < 2 ^ 64 → Same (less (page (address to)) (page place) + page (address place)) (page (address to))
page_leads to place below =
    let same : address place ≡ place = omega arith in
    subst (λ (n : ℕ). Same (less (page (address to)) (page place) + page n) (page (address to))) (sym same)
    (less_leads (page (address to)) (page place))

-- the load of a slot that was written, or made an ADD
load_says : (l : Link) (p : Placed) (look : Look) (t : Target) (input mid word : ℕ) → TellsAddresses p look → IsPlacedOnce p
    → is_ldr input ≡ true
    → (is_import t ≡ true → mid ≡ input) → (is_import t ≡ false → IsMadeAdd input mid)
    → Holds Low12 mid word (low (address (load_in look t)))
    → IsLoadable p t → LoadSays l p 0 empty t word input
load_says l p look (target.Import id) input mid word tells once load kept made h (by_slot moves slot) = (
  look.slot (target.Import id),
  slot_looked p look (target.Import id) tells once slot,
  loads_from input word (low (address (look.slot (target.Import id)))) (look.slot (target.Import id)) 0 (look.slot (target.Import id))
      (subst (λ (k : ℕ). Holds Low12 k word (low (address (look.slot (target.Import id))))) (kept refl) h) load refl refl (omega arith),
)
load_says l p look (target.Import id) input mid word tells once load kept made h (direct image) = absurd
    (true_or_false false image.defined refl)
load_says l p look (target.Section file section offset) input mid word tells once load kept made h (direct image) =
    let t = target.Section file section offset in (
      address_in look t,
      image_looked l p look t tells once image,
      adds_to input mid word (low (address (address_in look t))) (address_in look t) 0 (address_in look t) load (made refl) h refl refl
          (omega arith),
    )
load_says l p look (target.Section file section offset) input mid word tells once load kept made h (by_slot moves slot) = absurd
    (true_or_false false moves refl)
load_says l p look (target.Common id) input mid word tells once load kept made h (direct image) =
    let t = target.Common id in (
      address_in look t,
      image_looked l p look t tells once image,
      adds_to input mid word (low (address (address_in look t))) (address_in look t) 0 (address_in look t) load (made refl) h refl refl
          (omega arith),
    )
load_says l p look (target.Common id) input mid word tells once load kept made h (by_slot moves slot) = absurd
    (true_or_false false moves refl)
load_says l p look target.Base input mid word tells once load kept made h (direct image) = (
  look.base,
  image_looked l p look target.Base tells once image,
  adds_to input mid word (low (address look.base)) look.base 0 look.base load (made refl) h refl refl (omega arith),
)
load_says l p look target.Base input mid word tells once load kept made h (by_slot moves slot) = absurd (true_or_false false moves refl)
load_says l p look (target.Absolute value) input mid word tells once load kept made h (direct image) = absurd
    (true_or_false false image.defined refl)
load_says l p look (target.Absolute value) input mid word tells once load kept made h (by_slot moves slot) = absurd
    (true_or_false false moves refl)
load_says l p look target.None input mid word tells once load kept made h (direct image) = absurd (true_or_false false image.defined refl)
load_says l p look target.None input mid word tells once load kept made h (by_slot moves slot) = absurd (true_or_false false moves refl)

-- a load of an import's slot stays a load, and any other becomes an ADD
pub import_stays : (t : Target) → is_import t ≡ true → goes_straight t ≡ false
import_stays (target.Import id) moves = refl
import_stays (target.Section file section offset) moves = absurd (true_or_false false moves refl)
import_stays (target.Common id) moves = absurd (true_or_false false moves refl)
import_stays target.Base moves = absurd (true_or_false false moves refl)
import_stays (target.Absolute value) moves = absurd (true_or_false false moves refl)
import_stays target.None moves = absurd (true_or_false false moves refl)

pub other_goes : (t : Target) → is_import t ≡ false → goes_straight t ≡ true
other_goes (target.Import id) own = absurd (true_or_false true refl own)
other_goes (target.Section file section offset) own = refl
other_goes (target.Common id) own = refl
other_goes target.Base own = refl
other_goes (target.Absolute value) own = refl
other_goes target.None own = refl

-- THE field whose word holds its value says what it is asked to.
pub held_says : (l : Link) (p : Placed) (look : Look) (q : PlacedSection) (f : Field) (start input word : ℕ) (kind : Kind)
    → TellsAddresses p look → IsPlacedOnce p → place_in q f < 2 ^ 64 → KindFits p f input kind
    → (kind ≡ Pointer → (is_import f.target ≡ false) × IsStart (is_template_offset l (id_of q) f) p.template start)
    → IsHeld (write_in look (place_in q f) start f kind) input word
    → SaysOf l p 0 empty (id_of q) f (q.address + f.offset + 0) word input kind
held_says l p look q f start input word Pointer tells once below fits begins held =
    let own = begins refl in
    let at = subst (IsAt l p 0 empty f.target) (sym (address_told p look f.target tells))
    (stands_at l p f.target once fits.2 own.0 fits.1) in
    let value = less (address_in look f.target + f.addend) start in
    let h = subst (λ (n : ℕ). Holds (Bytes n) held.ready word value) fits.0 held.holds in (
      address_in look f.target,
      at,
      pointer_says (is_template_offset l (id_of q) f) p.template start held.ready word value
          (address_in look f.target + f.addend) own.1 h
          (less_leads (address_in look f.target + f.addend) start),
      fits.0,
    )
held_says l p look q f start input word Difference tells once below fits begins held = (
  address_in look f.target,
  minus_in look f.subtrahend,
  image_looked l p look f.target tells once fits.1,
  subtracted_at l p look f.subtrahend tells once fits.2,
  omega (arith, held.holds.says, less_leads (address_in look f.target + f.addend) (minus_in look f.subtrahend)),
)
held_says l p look q f start input word Branch tells once below fits begins held =
    let to = call_in look f.target + f.addend in
    let value = less to (place_in q f) in (
      call_in look f.target,
      call_looked l p look f.target tells once fits.2,
      branches_to input word value (place_in q f) to 0 to
          (as_input JumpCall held.ready input word value (held.kept refl) held.holds)
          (less_leads to (place_in q f)) (omega arith),
    )
held_says l p look q f start input word Page tells once below fits begins held =
    let to = address_in look f.target + f.addend in
    let value = less (page (address to)) (page (place_in q f)) in (
      address_in look f.target,
      image_looked l p look f.target tells once fits.2,
      pages_to input word value (place_in q f) to 0 to
          (as_input Adr held.ready input word value (held.kept refl) held.holds)
          (page_leads to (place_in q f) below) refl (omega arith),
    )
held_says l p look q f start input word Offset tells once below fits begins held =
    let to = address_in look f.target + f.addend in (
      address_in look f.target,
      image_looked l p look f.target tells once fits.2,
      offsets_to input word (low (address to)) to 0 to
          (as_input Low12 held.ready input word (low (address to)) (held.kept refl) held.holds) refl refl (omega arith),
    )
held_says l p look q f start input word SlotPage tells once below fits begins held =
    let to = load_in look f.target in
    let value = less (page (address to)) (page (place_in q f)) in (
      to,
      load_looked l p look f.target tells once fits.2,
      pages_to input word value (place_in q f) to 0 to
          (as_input Adr held.ready input word value (held.kept refl) held.holds)
          (page_leads to (place_in q f) below) refl (omega arith),
    )
held_says l p look q f start input word SlotOffset tells once below fits begins held =
    load_says l p look f.target input held.ready word tells once fits.1
    (λ moves. held.kept (import_stays f.target moves)) (λ own. held.made (other_goes f.target own)) held.holds fits.3
held_says l p look q f start input word SlotDistance tells once below fits begins held =
    let slot = look.slot f.target in
    let value = less slot (place_in q f) in
    let h = subst (λ (n : ℕ). Holds (Bytes n) held.ready word value) fits.0 held.holds in
    let says : IsDistance (place_in q f + 0) word (slot + 0) =
    is_distance held.ready word value (place_in q f) slot 0 h (less_leads slot (place_in q f)) in
    (slot, slot_looked p look f.target tells once fits.2, omega (arith, says))
held_says l p look q f start input word NoKind tells once below fits begins held = absurd fits

-- the bytes of a field
pub wide : (p : Placed) (f : Field) (w : ℕ) (kind : Kind) → KindFits p f w kind → width_of (size_for kind f.width) ≡ f.width
wide p f w Pointer fits = refl
wide p f w Difference fits = refl
wide p f w Branch fits = sym fits.0
wide p f w Page fits = sym fits.0
wide p f w Offset fits = sym fits.0
wide p f w SlotPage fits = sym fits.0
wide p f w SlotOffset fits = sym fits.0
wide p f w SlotDistance fits = refl
wide p f w NoKind fits = absurd fits

-- a load that becomes an ADD has four
relaxed_four : (p : Placed) (f : Field) (w : ℕ) (kind : Kind) → KindFits p f w kind → relaxes kind f.target ≡ true → f.width ≡ 4
relaxed_four p f w SlotOffset fits relaxed = fits.0
relaxed_four p f w Pointer fits relaxed = absurd (true_or_false false relaxed refl)
relaxed_four p f w Difference fits relaxed = absurd (true_or_false false relaxed refl)
relaxed_four p f w Branch fits relaxed = fits.0
relaxed_four p f w Page fits relaxed = fits.0
relaxed_four p f w Offset fits relaxed = fits.0
relaxed_four p f w SlotPage fits relaxed = fits.0
relaxed_four p f w SlotDistance fits relaxed = fits.0
relaxed_four p f w NoKind fits relaxed = absurd fits

-- a word that a value was written to holds it
put_holds : (w : FieldWrite) (width input : ℕ) (old new : List ℕ) → width_of w.size ≡ width → (w.relax ≡ true → width ≡ 4)
    → le_at width old w.at ≡ input → IsPut w old new → IsHeld w input (le_at width new w.at)
put_holds w width input old new is four still put = record {
  ready = le_at (width_of w.size) put.mid w.at;
  kept = λ plain. ap (λ (t : List ℕ). le_at (width_of w.size) t w.at) (put.ready.kept plain) ∙ ap (λ (n : ℕ). le_at n old w.at) is ∙ still;
  made = λ relaxed.
      let has_four = four relaxed in
      subst (λ (n : ℕ). IsMadeAdd input (le_at n put.mid w.at)) (sym (is ∙ has_four))
      (subst (λ (k : ℕ). IsMadeAdd k (le_at 4 put.mid w.at)) (ap (λ (n : ℕ). le_at n old w.at) (sym has_four) ∙ still)
      (put.ready.made relaxed));
  holds = subst (λ (n : ℕ). Holds w.size (le_at (width_of w.size) put.mid w.at) (le_at n new w.at) w.value) is put.holds;
}

-- THE field that was written says what it is asked to.
pub says_by_kind : (l : Link) (p : Placed) (look : Look) (q : PlacedSection) (f : Field) (start input : ℕ) (old new : List ℕ) (kind : Kind)
    → TellsAddresses p look → IsPlacedOnce p → place_in q f < 2 ^ 64 → KindFits p f input kind
    → (kind ≡ Pointer → (is_import f.target ≡ false) × IsStart (is_template_offset l (id_of q) f) p.template start)
    → le_at f.width old f.offset ≡ input → IsPut (write_in look (place_in q f) start f kind) old new
    → SaysOf l p 0 empty (id_of q) f (q.address + f.offset + 0) (le_at f.width new f.offset) input kind
says_by_kind l p look q f start input old new kind tells once below fits begins still put =
    held_says l p look q f start input (le_at f.width new f.offset) kind tells once below fits begins
    (put_holds (write_in look (place_in q f) start f kind) f.width input old new (wide p f input kind fits)
    (relaxed_four p f input kind fits) still put)
