-- A pointer that needs a fixup denotes by its chain word, at every slide and for every choice.
--
-- The loader makes of a word that moves with the image its target plus the base and the slide; where target and base are
-- the place of the pointer's target plus its addend, at slide 0, that is where the target is at the slide. Of a word that
-- binds it makes the import's address plus addends, whatever the slide. In both the new word is what memory holds.
use Rattle.std.proofs.Common.{◌≡◌, ℕ, ◌+◌, ◌*◌, ◌%◌, ◌^◌, true, false, List, [], get_or, refl, arith, Some}
use Rattle.std.specs.Prelude.{is_some}
use Rattle.std.proofs.Math.Nat.{mod-lt}
use Rattle.macho_model.specs.declared.placed.PlacedSection.{PlacedSection}
use Rattle.macho_model.specs.declared.placed.Slot.{Slot}
use Rattle.macho_model.specs.declared.targets.Target.TheVariants as target
use Rattle.macho_model.specs.Links.{Link}
use Rattle.macho_model.specs.Needs.{imports_of, import_library, POINTER_SIZE}
use Rattle.macho_model.specs.Targets.{is_defined}
use Rattle.macho_model.specs.Fields.{Field}
use Rattle.macho_model.specs.Images.{base_of}
use Rattle.macho_model.specs.Meaning.{Same, PointsTo}
use Rattle.macho_model.specs.Placement.{Placed, id_of}
use Rattle.macho_model.specs.Memory.{Choice, chosen, rebase_target, rebase_high, HoldsNumber}
use Rattle.macho_model.specs.Stands.{IsAt, Pointer, kind_of, is_template_offset, Denotes, SlotStands}
use Rattle.macho_model.specs.SlideLaws.{MovesAt, BindsAt}
use Rattle.macho_model.proofs.ChainMemory.{fixed_word_is_held}
use Rattle.macho_model.proofs.FieldSlides.{defined_moves}

-- what it becomes
abbrev pub moved_value : List ℕ → ℕ → ℕ → ℕ
moved_value b word s = (rebase_target word + rebase_high word * 2 ^ 56 + base_of b + s) % 2 ^ 64

pub moved_is_held : (b : List ℕ) (a word : ℕ) → MovesAt b a word → (s : ℕ) (choice : Choice)
    → HoldsNumber b s choice POINTER_SIZE (a + s) (moved_value b word s)
moved_is_held b a word h s choice =
    fixed_word_is_held b s choice a (moved_value b word s)
    (record { on = h.on; word = word; stands = h.stands; becomes = rw h.rebases refl })
    (mod-lt (rebase_target word + rebase_high word * 2 ^ 56 + base_of b + s) (omega arith)) h.alone

-- a number modulo 2 ^ 64, plus a slide
moved_same : (n x s : ℕ) → Same n x → Same ((n + s) % 2 ^ 64) (x + s)
moved_same n x s h = omega (arith, h)

-- A pointer of 8 bytes to a target that moves denotes at every slide, where its chain word says the target at slide 0.
pub pointer_denotes : (l : Link) (b : List ℕ) (p : Placed) (c : Choice) (q : PlacedSection) (f : Field) (word x : ℕ)
    → MovesAt b (q.address + f.offset) word
    → f.width ≡ 8 → kind_of f.type (is_some f.subtrahend) ≡ Pointer → is_template_offset l (id_of q) f ≡ false → is_defined f.target ≡ true
    → IsAt l p 0 c f.target x → Same (rebase_target word + rebase_high word * 2 ^ 56 + base_of b) (x + f.addend)
    → (s : ℕ) (choice : Choice) → Denotes l b p s choice q f
pointer_denotes l b p c q f word x h wide kind plain moves at same s choice =
    let sum : x + f.addend + s ≡ x + s + f.addend = omega arith in
    let points : PointsTo (moved_value b word s) (x + s + f.addend) =
    rw (← sum) (moved_same (rebase_target word + rebase_high word * 2 ^ 56 + base_of b) (x + f.addend) s same) in
    record {
      word = moved_value b word s;
      held = rw wide (moved_is_held b (q.address + f.offset) word h s choice);
      says = rw kind (x + s, defined_moves l p c choice f.target x s moves at, rw plain points, wide);
    }

-- So does a slot of a target that moves.
pub slot_denotes : (l : Link) (b : List ℕ) (p : Placed) (c : Choice) (slot : Slot) (word x : ℕ) → MovesAt b slot.address word
    → is_defined slot.target ≡ true
    → IsAt l p 0 c slot.target x → Same (rebase_target word + rebase_high word * 2 ^ 56 + base_of b) x → (s : ℕ) (choice : Choice)
    → SlotStands l b p s choice slot
slot_denotes l b p c slot word x h moves at same s choice =
    record {
      word = moved_value b word s;
      held = moved_is_held b slot.address word h s choice;
      x = x + s;
      at = defined_moves l p c choice slot.target x s moves at;
      points = moved_same (rebase_target word + rebase_high word * 2 ^ 56 + base_of b) x s same;
    }

-- and of one that binds an import
pub bound_is_held : (l : Link) (b : List ℕ) (a id addend : ℕ) → BindsAt l b a id addend → (s : ℕ) (choice : Choice) (x : ℕ)
    → chosen choice (import_library l (get_or (imports_of l) id [])) (get_or (imports_of l) id []) ≡ Some x
    → HoldsNumber b s choice POINTER_SIZE (a + s) ((x + addend) % 2 ^ 64)
bound_is_held l b a id addend h s choice x chooses =
    fixed_word_is_held b s choice a ((x + addend) % 2 ^ 64)
    (record { on = h.on; word = h.word; stands = h.stands; becomes = rw h.binds (h.bound choice x chooses) })
    (mod-lt (x + addend) (omega arith)) h.alone

-- A pointer of 8 bytes to an import denotes at every slide, for every choice that has the import.
pub import_pointer_denotes : (l : Link) (b : List ℕ) (p : Placed) (q : PlacedSection) (f : Field) (id : ℕ)
    → BindsAt l b (q.address + f.offset) id f.addend
    → f.width ≡ 8 → kind_of f.type (is_some f.subtrahend) ≡ Pointer → is_template_offset l (id_of q) f ≡ false → f.target ≡ target.Import id
    → (s : ℕ) (choice : Choice) (x : ℕ)
    → chosen choice (import_library l (get_or (imports_of l) id [])) (get_or (imports_of l) id []) ≡ Some x
    → Denotes l b p s choice q f
import_pointer_denotes l b p q f id h wide kind plain is s choice x chooses =
    let points : PointsTo ((x + f.addend) % 2 ^ 64) (x + f.addend) = omega arith in
    let at : IsAt l p s choice f.target x = rw is chooses in
    record {
      word = (x + f.addend) % 2 ^ 64;
      held = rw wide (bound_is_held l b (q.address + f.offset) id f.addend h s choice x chooses);
      says = rw kind (x, at, rw plain points, wide);
    }

-- So does the slot of an import.
pub import_slot_denotes : (l : Link) (b : List ℕ) (p : Placed) (slot : Slot) (id : ℕ) → BindsAt l b slot.address id 0
    → slot.target ≡ target.Import id
    → (s : ℕ) (choice : Choice) (x : ℕ)
    → chosen choice (import_library l (get_or (imports_of l) id [])) (get_or (imports_of l) id []) ≡ Some x
    → SlotStands l b p s choice slot
import_slot_denotes l b p slot id h is s choice x chooses =
    record {
      word = (x + 0) % 2 ^ 64;
      held = bound_is_held l b slot.address id 0 h s choice x chooses;
      x = x;
      at = rw is chooses;
      points = omega arith;
    }
