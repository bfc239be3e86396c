-- Where an image of one of two links that agree stands in memory, it stands as an image of the other. A target is in one place for both:
-- that of an import is the one chosen for its name in its library, and name and library are the same. So each field denotes the same.
use Rattle.std.proofs.Common.{ℕ, List, Option, Some, None, subst}
use Rattle.std.specs.Prelude.{All}
use Rattle.std.proofs.lemmas.List.Elements.{All-weaker}
use Rattle.macho_model.specs.declared.targets.Target.{Target}
use Rattle.macho_model.specs.declared.targets.Target.TheVariants as target
use Rattle.macho_model.specs.declared.placed.Counts.{Counts}
use Rattle.macho_model.specs.declared.placed.PlacedSection.{PlacedSection}
use Rattle.macho_model.specs.declared.placed.Slot.{Slot}
use Rattle.macho_model.specs.Links.{Link, SectionId}
use Rattle.macho_model.specs.Fields.{Field}
use Rattle.macho_model.specs.Memory.{Choice}
use Rattle.macho_model.specs.Placement.{Placed, id_of}
use Rattle.macho_model.specs.Stands.{Kind, Pointer, Difference, Branch, Page, Offset, SlotPage, SlotOffset, SlotDistance, NoKind, IsAt, CallIsAt, LoadSays, LoadIsAt, SubtrahendIsAt, Seen, Says, Denotes, SectionStands, SlotStands, ImageStands, IsLoadable}
use Rattle.macho_alike_laws.proofs.Inputs.{Agree}
use Rattle.macho_alike_laws.proofs.Views as views
use Rattle.macho_alike_laws.proofs.Parts as parts
use Rattle.macho_alike_laws.proofs.Tables as tables
use Rattle.macho_alike_laws.proofs.Places as places

module _ (l m : Link) (same : Agree l m) (p : Placed) (s : ℕ) (choice : Choice) where
  -- ---- targets

  -- where a target is
  pub is_at : (t : Target) (x : ℕ) → IsAt l p s choice t x → IsAt m p s choice t x
  is_at (target.Section file section offset) x h = h
  is_at (target.Common id) x h = h
  is_at (target.Import id) x h = simp (views.imports l m same, views.definition l m same, same.library) at h
  is_at target.Base x h = h
  is_at (target.Absolute value) x h = h
  is_at target.None x h = h

  -- where a call of a target goes
  pub call_at : (t : Target) (x : ℕ) → CallIsAt l p s choice t x → CallIsAt m p s choice t x
  call_at (target.Section file section offset) x h = h
  call_at (target.Common id) x h = h
  call_at (target.Import id) x h = h
  call_at target.Base x h = h
  call_at (target.Absolute value) x h = h
  call_at target.None x h = h

  -- where a load begins
  pub load_at : (t : Target) (x : ℕ) → LoadIsAt l p s choice t x → LoadIsAt m p s choice t x
  load_at (target.Section file section offset) x h = h
  load_at (target.Common id) x h = h
  load_at (target.Import id) x h = h
  load_at target.Base x h = h
  load_at (target.Absolute value) x h = h
  load_at target.None x h = h

  load_says : (t : Target) (word input : ℕ) → LoadSays l p s choice t word input → LoadSays m p s choice t word input
  load_says (target.Section file section offset) word input h = h
  load_says (target.Common id) word input h = h
  load_says (target.Import id) word input h = h
  load_says target.Base word input h = h
  load_says (target.Absolute value) word input h = h
  load_says target.None word input h = h

  -- where a subtrahend is
  pub subtrahend_at : (t : Option Target) (x : ℕ) → SubtrahendIsAt l p s choice t x → SubtrahendIsAt m p s choice t x
  subtrahend_at None x h = h
  subtrahend_at (Some t) x h = is_at t x h

  -- ---- fields

  says : (d : SectionId) (f : Field) (seen : Seen) (kind : Kind) → Says l p s choice d f seen kind → Says m p s choice d f seen kind
  says d f seen Pointer (x, at, is, wide) = (x, is_at f.target x at, simp (tables.offset l m same) at is, wide)
  says d f seen Difference (x, y, at, from, is) = (x, y, is_at f.target x at, subtrahend_at f.subtrahend y from, is)
  says d f seen Branch (x, at, is) = (x, call_at f.target x at, is)
  says d f seen Page (x, at, is) = (x, is_at f.target x at, is)
  says d f seen Offset (x, at, is) = (x, is_at f.target x at, is)
  says d f seen SlotPage (x, at, is) = (x, load_at f.target x at, is)
  says d f seen SlotOffset h = load_says f.target seen.word seen.input h
  says d f seen SlotDistance h = h
  says d f seen NoKind h = h

  -- ---- the parts of an image

  denotes : (b : List ℕ) (q : PlacedSection) (f : Field) → Denotes l b p s choice q f → Denotes m b p s choice q f
  denotes b q f d = record {
    word = d.word;
    held = d.held;
    says = simp same.object at (says (id_of q) f _ _ d.says);
  }

  section_stands : (b : List ℕ) (q : PlacedSection) → SectionStands l b p s choice q → SectionStands m b p s choice q
  section_stands b q h = record {
    bytes = simp (same.object, parts.fields l m same) at h.bytes;
    fields = subst (λ (fs : List Field). All (Denotes m b p s choice q) fs) (parts.fields l m same (id_of q))
        (All-weaker (Denotes l b p s choice q) (Denotes m b p s choice q) (denotes b q) _ h.fields);
  }

  slot_stands : (b : List ℕ) (slot : Slot) → SlotStands l b p s choice slot → SlotStands m b p s choice slot
  slot_stands b slot h = record { word = h.word; held = h.held; x = h.x; at = is_at slot.target h.x h.at; points = h.points }

  -- THE image stands
  pub image_stands : (b : List ℕ) → ImageStands l b p s choice → ImageStands m b p s choice
  image_stands b h = record {
    sections = All-weaker (SectionStands l b p s choice) (SectionStands m b p s choice) (section_stands b) p.sections h.sections;
    commons = simp (same.object, views.commons l m same) at h.commons;
    slots = All-weaker (SlotStands l b p s choice) (SlotStands m b p s choice) (slot_stands b) p.slots h.slots;
    stubs = h.stubs;
  }

-- and is loadable
pub loadable : (l m : Link) → Agree l m → (counts : Counts) (b : List ℕ) (p : Placed) → IsLoadable l counts b p → IsLoadable m counts b p
loadable l m same counts b p h = record {
  placed = places.placed l m same counts p h.placed;
  accepted = h.accepted;
  stands = λ s choice whole fits all. image_stands l m same p s choice b (h.stands s choice whole fits all);
}
