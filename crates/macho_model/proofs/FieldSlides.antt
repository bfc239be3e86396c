-- A field that needs no fixup, and denotes at slide 0, denotes at every slide of whole pages.
--
-- Its word is the same at every slide, since no chain word covers it; its place and whatever it compares it with move by
-- the slide. So what it says at slide 0 it says at the other one, kind by kind.
use Rattle.std.proofs.Common.{◌≡◌, ℕ, ◌+◌, ◌%◌, ◌<◌, ◌||◌, true, false, List, get_or, refl, subst, arith, Option, Some, None}
use Rattle.std.specs.Prelude.{is_some}
use Rattle.macho_model.specs.declared.placed.PlacedSection.{PlacedSection}
use Rattle.macho_model.specs.declared.targets.Target.{Target}
use Rattle.macho_model.specs.declared.targets.Target.TheVariants as target
use Rattle.macho_model.specs.Links.{Link, SectionId}
use Rattle.macho_model.specs.Targets.{is_import, is_defined}
use Rattle.macho_model.specs.Fields.{Field, content_of}
use Rattle.macho_model.specs.Placement.{Placed, id_of}
use Rattle.macho_model.specs.Memory.{Choice, Covers, HoldsNumber}
use Rattle.macho_model.specs.Stands.{IsAt, CallIsAt, LoadIsAt, LoadSays, SlotAt, SubtrahendIsAt, Kind, Pointer, Difference, Branch, Page, Offset, SlotPage, SlotOffset, SlotDistance, NoKind, kind_of, Denotes}
use Rattle.macho_model.specs.SlideLaws.{subtrahend_moves, targets_move}
use Rattle.macho_model.proofs.ChainMemory.{memory_moves}
use Rattle.macho_model.proofs.Slides.{branch_slides, difference_slides, distance_slides, page_of_slides, offset_slides, adds_slides, loads_slides}
use Rattle.macho_model.specs.steps.Stands.{StubAt, SaysOf}
use Rattle.macho_bytes.proofs.Bools.{true_or_false, and_left, and_right}

-- a target that moves with the image is at its place plus the slide
pub defined_moves : (l : Link) (p : Placed) (c d : Choice) (t : Target) (x s : ℕ) → is_defined t ≡ true → IsAt l p 0 c t x
    → IsAt l p s d t (x + s)
defined_moves l p c d (target.Section file section offset) x s moves h = (h.0, h.1, omega (arith, h.2))
defined_moves l p c d (target.Common id) x s moves h = (h.0, h.1, h.2, omega (arith, h.3))
defined_moves l p c d (target.Import id) x s moves h = absurd (true_or_false false moves refl)
defined_moves l p c d target.Base x s moves h = omega (arith, h)
defined_moves l p c d (target.Absolute value) x s moves h = absurd (true_or_false false moves refl)
defined_moves l p c d target.None x s moves h = absurd (true_or_false false moves refl)

-- so is a slot, and so a stub
pub slot_moves : (p : Placed) (t : Target) (x s : ℕ) → SlotAt p 0 t x → SlotAt p s t (x + s)
slot_moves p t x s h = (h.0, h.1, h.2, omega (arith, h.3))

pub stub_moves : (p : Placed) (id x s : ℕ) → StubAt p 0 id x → StubAt p s id (x + s)
stub_moves p id x s h = (h.0, h.1, h.2, omega (arith, h.3))

-- a target that may be called moves: by its stub, or by itself
pub call_moves : (l : Link) (p : Placed) (c d : Choice) (t : Target) (x s : ℕ) → (is_defined t || is_import t) ≡ true → CallIsAt l p 0 c t x
    → CallIsAt l p s d t (x + s)
call_moves l p c d (target.Section file section offset) x s moves h = defined_moves l p c d (target.Section file section offset) x s refl h
call_moves l p c d (target.Common id) x s moves h = defined_moves l p c d (target.Common id) x s refl h
call_moves l p c d (target.Import id) x s moves h = stub_moves p id x s h
call_moves l p c d target.Base x s moves h = defined_moves l p c d target.Base x s refl h
call_moves l p c d (target.Absolute value) x s moves h = absurd (true_or_false false moves refl)
call_moves l p c d target.None x s moves h = absurd (true_or_false false moves refl)

-- and so where a load begins with, or what it says
pub load_moves : (l : Link) (p : Placed) (c d : Choice) (t : Target) (x s : ℕ) → (is_defined t || is_import t) ≡ true → LoadIsAt l p 0 c t x
    → LoadIsAt l p s d t (x + s)
load_moves l p c d (target.Section file section offset) x s moves h = defined_moves l p c d (target.Section file section offset) x s refl h
load_moves l p c d (target.Common id) x s moves h = defined_moves l p c d (target.Common id) x s refl h
load_moves l p c d (target.Import id) x s moves h = slot_moves p (target.Import id) x s h
load_moves l p c d target.Base x s moves h = defined_moves l p c d target.Base x s refl h
load_moves l p c d (target.Absolute value) x s moves h = absurd (true_or_false false moves refl)
load_moves l p c d target.None x s moves h = absurd (true_or_false false moves refl)

pub load_says_moves : (l : Link) (p : Placed) (c d : Choice) (t : Target) (word input s : ℕ) → s % 4096 ≡ 0
    → (is_defined t || is_import t) ≡ true
    → LoadSays l p 0 c t word input → LoadSays l p s d t word input
load_says_moves l p c d (target.Section file section offset) word input s whole moves h =
    (h.0 + s, defined_moves l p c d (target.Section file section offset) h.0 s refl h.1, adds_slides word input h.0 s whole h.2)
load_says_moves l p c d (target.Common id) word input s whole moves h =
    (h.0 + s, defined_moves l p c d (target.Common id) h.0 s refl h.1, adds_slides word input h.0 s whole h.2)
load_says_moves l p c d (target.Import id) word input s whole moves h =
    (h.0 + s, slot_moves p (target.Import id) h.0 s h.1, loads_slides word input h.0 s whole h.2)
load_says_moves l p c d target.Base word input s whole moves h =
    (h.0 + s, defined_moves l p c d target.Base h.0 s refl h.1, adds_slides word input h.0 s whole h.2)
load_says_moves l p c d (target.Absolute value) word input s whole moves h = absurd (true_or_false false moves refl)
load_says_moves l p c d target.None word input s whole moves h = absurd (true_or_false false moves refl)

subtrahend_at : (l : Link) (p : Placed) (c d : Choice) (t : Option Target) (y s : ℕ) → subtrahend_moves t ≡ true
    → SubtrahendIsAt l p 0 c t y → SubtrahendIsAt l p s d t (y + s)
subtrahend_at l p c d None y s moves h = h
subtrahend_at l p c d (Some t) y s moves h = defined_moves l p c d t y s moves h

-- What a field says at slide 0 it says at every slide of whole pages.
pub says_at_every_slide : (l : Link) (p : Placed) (c d : Choice) (id : SectionId) (f : Field) (place word input s : ℕ) (kind : Kind)
    → s % 4096 ≡ 0
    → targets_move f kind ≡ true → SaysOf l p 0 c id f place word input kind → SaysOf l p s d id f (place + s) word input kind
says_at_every_slide l p c d id f place word input s Pointer whole moves h = absurd (true_or_false false moves refl)
says_at_every_slide l p c d id f place word input s Difference whole moves h =
    let one = and_left (is_defined f.target) (subtrahend_moves f.subtrahend) moves in
    let other = and_right (is_defined f.target) (subtrahend_moves f.subtrahend) moves in (
      h.0 + s,
      h.1 + s,
      defined_moves l p c d f.target h.0 s one h.2,
      subtrahend_at l p c d f.subtrahend h.1 s other h.3,
      difference_slides
          f.width word h.0 h.1 f.addend s h.4,
    )
says_at_every_slide l p c d id f place word input s Branch whole moves h =
    let sum : h.0 + f.addend + s ≡ h.0 + s + f.addend = omega arith in
    (h.0 + s, call_moves l p c d f.target h.0 s moves h.1, rw (← sum) (branch_slides place word input (h.0 + f.addend) s h.2))
says_at_every_slide l p c d id f place word input s Page whole moves h =
    let sum : h.0 + f.addend + s ≡ h.0 + s + f.addend = omega arith in
    (h.0 + s, defined_moves l p c d f.target h.0 s moves h.1, rw (← sum) (page_of_slides place word input (h.0 + f.addend) s whole h.2))
says_at_every_slide l p c d id f place word input s Offset whole moves h =
    let sum : h.0 + f.addend + s ≡ h.0 + s + f.addend = omega arith in
    (h.0 + s, defined_moves l p c d f.target h.0 s moves h.1, rw (← sum) (offset_slides word input (h.0 + f.addend) s whole h.2))
says_at_every_slide l p c d id f place word input s SlotPage whole moves h =
    (h.0 + s, load_moves l p c d f.target h.0 s moves h.1, page_of_slides place word input h.0 s whole h.2)
says_at_every_slide l p c d id f place word input s SlotOffset whole moves h = load_says_moves l p c d f.target word input s whole moves h
says_at_every_slide l p c d id f place word input s SlotDistance whole moves h =
    (h.0 + s, slot_moves p f.target h.0 s h.1, distance_slides place word h.0 s h.2)
says_at_every_slide l p c d id f place word input s NoKind whole moves h = h

-- a number outside all chain words is held at every slide
pub number_moves : (b : List ℕ) (s : ℕ) (c d : Choice) (w x n : ℕ) → ((k : ℕ) → k < w → (word_at : ℕ) → Covers b word_at (x + k) → ⊥)
    → HoldsNumber b 0 c w x n → HoldsNumber b s d w (x + s) n
number_moves b s c d w x n uncovered h =
    record {
      text = h.text;
      long = h.long;
      held = λ k within.
          let here : x + s + k ≡ x + k + s = omega arith in
          rw here (memory_moves b s c d (x + k) (get_or h.text k 0) (uncovered k (omega (arith, within, h.long))) (h.held k within));
      is = h.is;
    }

-- THE field denotes at every slide of whole pages, where no chain word covers it and its targets move.
pub denotes_at_every_slide : (l : Link) (b : List ℕ) (p : Placed) (s : ℕ) (c d : Choice) (q : PlacedSection) (f : Field) → s % 4096 ≡ 0
    → targets_move f (kind_of f.type (is_some f.subtrahend)) ≡ true
    → ((k : ℕ) → k < f.width → (word_at : ℕ) → Covers b word_at (q.address + f.offset + k) → ⊥)
    → Denotes l b p 0 c q f → Denotes l b p s d q f
denotes_at_every_slide l b p s c d q f whole moves uncovered h =
    let zero_slide : q.address + f.offset + 0 ≡ q.address + f.offset = omega arith in
    record {
      word = h.word;
      held = number_moves b s c d f.width (q.address + f.offset) h.word uncovered
          (subst (λ x. HoldsNumber b 0 c f.width x h.word) zero_slide h.held);
      says = says_at_every_slide l p c d (id_of q) f (q.address + f.offset) h.word (content_of l (id_of q) f.relocation) s
          (kind_of f.type (is_some f.subtrahend)) whole moves
          (subst (λ x. SaysOf l p 0 c (id_of q) f x h.word (content_of l (id_of q) f.relocation)
          (kind_of f.type (is_some f.subtrahend))) zero_slide h.says);
    }
