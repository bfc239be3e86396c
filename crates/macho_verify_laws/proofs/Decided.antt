-- Slots, and pointers that the loader writes, are decided by what their words say.
--
-- A slot, and such a pointer, hold a target's address and an addend, which for slots is 0: a pointer has 8 bytes, and is no offset from the
-- template. Both stand where the loader writes. What either leads to has a place in the link, so it is no absolute value: a word that leads
-- to it points there at each load, and one that doesn't misses it at some load.
use Rattle.std.proofs.Common.{◌≡◌, ℕ, ◌+◌, Bool, true, false, List, refl, subst, arith}
use Rattle.std.specs.Prelude.{Contains}
use Rattle.std.proofs.lemmas.List.Elements.{All-contains}
use Rattle.macho_model.specs.declared.placed.Counts.{Counts}
use Rattle.macho_model.specs.declared.placed.PlacedSection.{PlacedSection}
use Rattle.macho_model.specs.declared.placed.Slot.{Slot}
use Rattle.macho_model.specs.declared.targets.Target.{Target}
use Rattle.macho_model.specs.declared.targets.Target.TheVariants as target
use Rattle.macho_model.specs.Links.{Link}
use Rattle.macho_model.specs.Targets.{slots_of}
use Rattle.macho_model.specs.Fields.{Field, fields_of, content_of}
use Rattle.macho_model.specs.Placement.{Placed, id_of}
use Rattle.macho_model.specs.Meaning.{Same, PointsTo}
use Rattle.macho_model.specs.Memory.{Choice, HoldsNumber}
use Rattle.macho_model.specs.Stands.{Kind, Says, PointerSays, Denotes, SlotStands}
use Rattle.macho_model.specs.Values.{is_absolute_target, needs_fixup}
use Rattle.macho_model.specs.Fixups as place
use Rattle.macho_model.proofs.FixedPointers.{fixed_pointer}
use Rattle.macho_image_laws.specs.Leads.{HasPlace}
use Rattle.macho_image_laws.proofs.Leading.{link_leads}
use Rattle.macho_image_laws.proofs.Words.{slot_number_of}
use Rattle.macho_verify_laws.specs.Loads.{Always, Fails}
use Rattle.macho_verify_laws.specs.InFile.{WordLeads}
use Rattle.macho_verify_laws.specs.Laws.{IsAsked, SlotsDecide}
use Rattle.macho_verify_laws.proofs.Found.{has_file_word}
use Rattle.macho_verify_laws.proofs.Pointing.{PointsAt, leads_always}
use Rattle.macho_verify_laws.proofs.Missing.{leads_fails}

-- what has a place is no absolute value
no_value : (l : Link) (t : Target) → HasPlace l t → is_absolute_target t ≡ false
no_value l (target.Section file section offset) has = refl
no_value l (target.Common id) has = refl
no_value l (target.Import id) has = refl
no_value l target.Base has = refl
no_value l (target.Absolute value) has = absurd has
no_value l target.None has = absurd has

-- where what follows fails, so does what it follows from
fails_sooner : (l : Link) (b : List ℕ) (P Q : ℕ → Choice → Type 0) → ((s : ℕ) (choice : Choice) → Q s choice → P s choice) → Fails l b P
    → Fails l b Q
fails_sooner l b P Q leads fails =
    record {
      s = fails.s;
      choice = fails.choice;
      load = fails.load;
      not_so = λ holds. fails.not_so (leads fails.s fails.choice holds);
    }

-- slots point
slot_points : (l : Link) (b : List ℕ) (p : Placed) (slot : Slot) (s : ℕ) (choice : Choice) → SlotStands l b p s choice slot
    → PointsAt l b p slot.address slot.target 0 s choice
slot_points l b p slot s choice h =
    record {
      word = h.word;
      held = h.held;
      x = h.x;
      at = h.at;
      points = subst (Same h.word) (omega arith) h.points;
    }

pointing_slot : (l : Link) (b : List ℕ) (p : Placed) (slot : Slot) (s : ℕ) (choice : Choice)
    → PointsAt l b p slot.address slot.target 0 s choice → SlotStands l b p s choice slot
pointing_slot l b p slot s choice h =
    record {
      word = h.word;
      held = h.held;
      x = h.x;
      at = h.at;
      points = subst (Same h.word) (omega arith) h.points;
    }

-- THE decision of slots.
pub slots_decide : SlotsDecide
slots_decide l counts b p slot asked one =
    let h = has_file_word l counts b p asked slot.address (place.IsFixupPlace.slot slot one) in
    let n = slot_number_of l p slot asked.placed.whole_list.slots one in
    let leads = link_leads l asked.objects.each asked.sound.relocations asked.personalities in
    let moves = no_value l slot.target (All-contains (HasPlace l) (slots_of l) slot.target leads.slots (n.0, n.1.0, n.1.1)) in (
      λ says s choice load. pointing_slot l b p slot s choice (leads_always l b p slot.address slot.target 0 h moves says s choice load),
      λ misses. fails_sooner l b (PointsAt l b p slot.address slot.target 0) (λ s choice. SlotStands l b p s choice slot)
          (slot_points l b p slot) (leads_fails l b p slot.address 0 asked.accepted h slot.target asked.found.once moves misses),
    )

-- pointers that the loader writes point
field_points : (l : Link) (b : List ℕ) (p : Placed) (q : PlacedSection) (f : Field) → needs_fixup l (id_of q) f ≡ true → (s : ℕ)
    (choice : Choice) → Denotes l b p s choice q f → PointsAt l b p (q.address + f.offset) f.target f.addend s choice
field_points l b p q f needs s choice h =
    let fixed = fixed_pointer l (id_of q) f needs in
    let says = subst
    (λ (k : Kind). Says l p s choice (id_of q) f
    (record { place = q.address + f.offset + s; word = h.word; input = content_of l (id_of q) f.relocation }) k) fixed.1 h.says in
    record {
      word = h.word;
      held = subst (λ (w : ℕ). HoldsNumber b s choice w (q.address + f.offset + s) h.word) fixed.0 h.held;
      x = says.0;
      at = says.1;
      points = subst (λ (t : Bool). PointerSays t p.template s h.word (says.0 + f.addend)) fixed.2 says.2;
    }

pointing_field : (l : Link) (b : List ℕ) (p : Placed) (q : PlacedSection) (f : Field) → needs_fixup l (id_of q) f ≡ true → (s : ℕ)
    (choice : Choice) → PointsAt l b p (q.address + f.offset) f.target f.addend s choice → Denotes l b p s choice q f
pointing_field l b p q f needs s choice h =
    let fixed = fixed_pointer l (id_of q) f needs in
    let wide = fixed.0 in
    let kind = fixed.1 in
    let plain = fixed.2 in
    let points : PointsTo h.word (h.x + f.addend) = h.points in
    record { word = h.word; held = rw wide h.held; says = rw kind (h.x, h.at, rw plain points, wide) }

-- THE decision of pointers that the loader writes.
pub written_fields_decide : (l : Link) (counts : Counts) (b : List ℕ) (p : Placed) (q : PlacedSection) (f : Field) → IsAsked l counts b p
    → Contains p.sections q → Contains (fields_of l (id_of q)) f → needs_fixup l (id_of q) f ≡ true
    → (WordLeads l b p (q.address + f.offset) f.target f.addend → Always l b (λ s choice. Denotes l b p s choice q f))
    × ((WordLeads l b p (q.address + f.offset) f.target f.addend → ⊥) → Fails l b (λ s choice. Denotes l b p s choice q f))
written_fields_decide l counts b p q f asked one field needs =
    let a = q.address + f.offset in
    let h = has_file_word l counts b p asked a (place.IsFixupPlace.pointer q f one field needs) in
    let moves = (fixed_pointer l (id_of q) f needs).3 in (
      λ says s choice load. pointing_field l b p q f needs s choice (leads_always l b p a f.target f.addend h moves says s choice load),
      λ misses. fails_sooner l b (PointsAt l b p a f.target f.addend) (λ s choice. Denotes l b p s choice q f)
          (field_points l b p q f needs) (leads_fails l b p a f.addend asked.accepted h f.target asked.found.once moves misses),
    )
