-- A pointer that no fixup moves denotes at every slide where it does at slide 0.
--
-- Its word is the same at every slide, since no chain word covers it. An offset from the thread-local template compares two
-- places that move alike; an absolute value does not move at all.
use Rattle.std.proofs.Common.{◌≡◌, ℕ, ◌+◌, ◌==◌, ◌||◌, Bool, true, false, List, refl, sym, subst, arith, Option, Some, None}
use Rattle.std.specs.Prelude.{is_some}
use Rattle.macho_model.specs.declared.placed.PlacedSection.{PlacedSection}
use Rattle.macho_model.specs.declared.placed.Range64.{Range64}
use Rattle.macho_model.specs.declared.targets.Target.{Target}
use Rattle.macho_model.specs.declared.targets.Target.TheVariants as target
use Rattle.macho_records.specs.Sections.{type_of}
use Rattle.macho_records.specs.declared.constants.TheConstants.{S_THREAD_LOCAL_VARIABLES}
use Rattle.macho_model.specs.Links.{Link, SectionId, header_at}
use Rattle.macho_model.specs.Fields.{Field, content_of}
use Rattle.macho_model.specs.Placement.{Placed, id_of}
use Rattle.macho_model.specs.Memory.{Choice, HoldsNumber}
use Rattle.macho_model.specs.Stands.{Pointer, Kind, kind_of, is_in_template, is_template_offset, IsAt, PointerSays, Denotes}
use Rattle.macho_model.specs.steps.Stands.{SaysOf}
use Rattle.macho_model.specs.Values.{is_absolute_target}
use Rattle.macho_model.specs.HeldLaws.{IsFree}
use Rattle.macho_model.proofs.FieldSlides.{defined_moves, number_moves}
use Rattle.macho_bytes.proofs.Bools.{true_or_false, and_right, or_right}

-- an offset from the template: the target and the template's start move alike
offset_stays : (template : Option Range64) (word x y s : ℕ) → y ≡ x + s → PointerSays true template 0 word x
    → PointerSays true template s word y
offset_stays None word x y s is h = h
offset_stays (Some r) word x y s is h = omega (arith, h, is)

-- what lies in the template moves with the image, an absolute value stays
template_moves : (l : Link) (p : Placed) (c d : Choice) (t : Target) (x s : ℕ) → is_in_template l t ≡ true → IsAt l p 0 c t x
    → IsAt l p s d t (x + s)
template_moves l p c d (target.Section file section offset) x s is at =
    defined_moves l p c d (target.Section file section offset) x s refl at
template_moves l p c d (target.Common id) x s is at = absurd (true_or_false false is refl)
template_moves l p c d (target.Import id) x s is at = absurd (true_or_false false is refl)
template_moves l p c d target.Base x s is at = absurd (true_or_false false is refl)
template_moves l p c d (target.Absolute value) x s is at = absurd (true_or_false false is refl)
template_moves l p c d target.None x s is at = absurd (true_or_false false is refl)

absolute_stays : (l : Link) (p : Placed) (c d : Choice) (t : Target) (x s : ℕ) → is_absolute_target t ≡ true → IsAt l p 0 c t x
    → IsAt l p s d t x
absolute_stays l p c d (target.Section file section offset) x s is at = absurd (true_or_false false is refl)
absolute_stays l p c d (target.Common id) x s is at = absurd (true_or_false false is refl)
absolute_stays l p c d (target.Import id) x s is at = absurd (true_or_false false is refl)
absolute_stays l p c d target.Base x s is at = absurd (true_or_false false is refl)
absolute_stays l p c d (target.Absolute value) x s is at = at
absolute_stays l p c d target.None x s is at = absurd (true_or_false false is refl)

-- what a pointer says, whatever its place and the input's word are
pointer_stays : (l : Link) (p : Placed) (c d : Choice) (id : SectionId) (f : Field) (word s : ℕ)
    → (is_template_offset l id f || is_absolute_target f.target) ≡ true → SaysOf l p 0 c id f 0 word 0 Pointer
    → SaysOf l p s d id f 0 word 0 Pointer
pointer_stays l p c d id f word s plain h = by (is_template_offset l id f) refl
  where
    by : (t : Bool) → is_template_offset l id f ≡ t → SaysOf l p s d id f 0 word 0 Pointer
    by true is = (
      h.0 + s,
      template_moves l p c d f.target h.0 s
          (and_right (type_of (header_at l id) == S_THREAD_LOCAL_VARIABLES) (is_in_template l f.target) is) h.1,
      subst (λ (t : Bool). PointerSays t p.template s word (h.0 + s + f.addend)) (sym is)
          (offset_stays p.template word (h.0 + f.addend) (h.0 + s + f.addend) s (omega arith)
          (subst (λ (t : Bool). PointerSays t p.template 0 word (h.0 + f.addend)) is h.2)),
      h.3,
    )
    by false is = (
      h.0,
      absolute_stays l p c d f.target h.0 s (or_right (is_template_offset l id f) (is_absolute_target f.target) plain is) h.1,
      subst (λ (t : Bool). PointerSays t p.template s word (h.0 + f.addend)) (sym is)
          (subst (λ (t : Bool). PointerSays t p.template 0 word (h.0 + f.addend)) is h.2),
      h.3,
    )

-- THE pointer denotes at every slide.
pub plain_pointer_stays : (l : Link) (b : List ℕ) (p : Placed) (s : ℕ) (c d : Choice) (q : PlacedSection) (f : Field)
    → kind_of f.type (is_some f.subtrahend) ≡ Pointer → (is_template_offset l (id_of q) f || is_absolute_target f.target) ≡ true
    → IsFree b (q.address + f.offset) f.width → Denotes l b p 0 c q f → Denotes l b p s d q f
plain_pointer_stays l b p s c d q f kind plain free h =
    let zero_slide : q.address + f.offset + 0 ≡ q.address + f.offset = omega arith in
    let input : ℕ = content_of l (id_of q) f.relocation in
    let says = subst (λ (k : Kind). SaysOf l p 0 c (id_of q) f (q.address + f.offset + 0) h.word input k) kind h.says in
    let moved : SaysOf l p s d (id_of q) f (q.address + f.offset + s) h.word input Pointer =
    pointer_stays l p c d (id_of q) f h.word s plain
    says in
    record {
      word = h.word;
      held = number_moves b s c d f.width (q.address + f.offset) h.word free
          (subst (λ x. HoldsNumber b 0 c f.width x h.word) zero_slide h.held);
      says = rw kind moved;
    }
