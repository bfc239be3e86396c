-- Slots, and pointers that the loader writes, at every slide and for every choice.
--
-- Each is a fixup that was asked for, so a word of the chain that says its kind. A target that is no import is at its address, and the
-- word says that address: it moves with the image. An import is bound, and every choice that binds all imports has an address for it.
use Rattle.std.proofs.Common.{◌≡◌, ℕ, ◌+◌, ◌%◌, ◌^◌, ◌<◌, true, false, ◌&&◌, not, List, length, get_or, map, refl, sym, ap, ◌∙◌, arith, inl, inr, Some}
use Rattle.std.specs.Prelude.{Contains, is_some}
use Rattle.std.specs.List.{flat_map, filter_map}
use Rattle.std.proofs.lemmas.Bool.{cases_Bool, true≢false, and_parts}
use Rattle.std.proofs.lemmas.List.{get_or-map, length-map}
use Rattle.std.proofs.lemmas.List.Elements.{All-contains}
use Rattle.std.specs.FinMap.{empty}
use Rattle.macho_model.specs.declared.placed.Counts.{Counts}
use Rattle.macho_model.specs.declared.placed.PlacedSection.{PlacedSection}
use Rattle.macho_model.specs.declared.placed.Slot.{Slot}
use Rattle.macho_model.specs.declared.targets.Site.TheVariants as site
use Rattle.macho_model.specs.declared.targets.Target.{Target}
use Rattle.macho_model.specs.declared.targets.Target.TheVariants as target
use Rattle.macho_model.specs.Lists.{IsNumber}
use Rattle.macho_model.specs.Links.{Link, SectionId, carried_of}
use Rattle.macho_model.specs.Needs.{imports_of}
use Rattle.macho_model.specs.Targets.{is_import, slots_of}
use Rattle.macho_model.specs.Fields.{Field, fields_of}
use Rattle.macho_model.specs.Placement.{Placed, id_of}
use Rattle.macho_model.specs.Addresses.{address_of}
use Rattle.macho_model.specs.Memory.{Choice, BindsAll}
use Rattle.macho_model.specs.Fixups.{EntryOfImport, same_entry, has_room, own_entry, own_entries}
use Rattle.macho_model.specs.Stands.{Pointer, Denotes, SlotStands, kind_of, is_template_offset}
use Rattle.macho_model.specs.Values.{is_pointer, is_absolute_target, needs_fixup, IsNotEncodable}
use Rattle.macho_promise.specs.FixupsSay.{kind_for}
use Rattle.macho_promise.specs.FixupsSay as asked
use Rattle.macho_image_laws.specs.Leads.{HasPlace}
use Rattle.macho_image_laws.proofs.Distinct.{in_distinct}
use Rattle.macho_image_laws.proofs.Segments.{one_base}
use Rattle.macho_image_laws.proofs.Run.{HasWord, has_word}
use Rattle.macho_image_laws.proofs.Bindings.{binds_at, import_chosen, same_entries}
use Rattle.macho_image_laws.proofs.Places.{is_at, defined_place, address_fits, address_above, not_below, kind_moves, moves_at}
use Rattle.macho_image_laws.proofs.Fits.{fixed_pointer}
use Rattle.macho_image_laws.proofs.Apart.{placed_is_carried}
use Rattle.macho_image_laws.proofs.Rests.{RestsOn, IsReady, IsJoined}
use Rattle.macho_bytes.proofs.Members.{contains_flat_map, contains_filter_map}

-- an import, or no import
pub import_number_of : (l : Link) (t : Target) → HasPlace l t → is_import t ≡ true
    → (id : ℕ) × (t ≡ target.Import id) × (id < length (imports_of l))
import_number_of l (target.Section file section offset) has is = absurd (true≢false (sym is))
import_number_of l (target.Common id) has is = absurd (true≢false (sym is))
import_number_of l (target.Import id) has is = (id, refl, has)
import_number_of l target.Base has is = absurd (true≢false (sym is))
import_number_of l (target.Absolute value) has is = absurd has
import_number_of l target.None has is = absurd has

-- a slot's number
pub slot_number_of : (l : Link) (p : Placed) (slot : Slot) → map (λ (s : Slot). s.target) p.slots ≡ slots_of l → Contains p.slots slot
    → (k : ℕ) × IsNumber (slots_of l) k slot.target
slot_number_of l p slot are (k, lt, at) =
    let value = get_or-map (λ (s : Slot). s.target) p.slots k slot slot.target lt in (
      k,
      (
        omega (arith, lt, length-map p.slots (λ (s : Slot). s.target), ap (λ (ts : List Target). length ts) are),
        ap (λ (ts : List Target). get_or ts k slot.target) (sym are) ∙ value ∙ ap (λ (s : Slot). s.target) at,
      ),
    )

pub slot_has_place : (l : Link) (counts : Counts) (p : Placed) (slot : Slot) → IsReady l counts p → Contains p.slots slot
    → HasPlace l slot.target
slot_has_place l counts p slot ready one =
    let n = slot_number_of l p slot ready.placed.whole_list.slots one in
    All-contains (HasPlace l) (slots_of l) slot.target ready.leads.slots (n.0, n.1.0, n.1.1)

-- the word of a slot
slot_word : (rests : RestsOn) (l : Link) (b : List ℕ) (p : Placed) (slot : Slot) (joined : IsJoined l b p) → Contains p.slots slot
    → HasWord b (record { address = slot.address; kind = kind_for l p slot.target 0 })
slot_word rests l b p slot joined one =
    has_word rests.chains l b p joined.fixups joined.agree (record { address = slot.address; kind = kind_for l p slot.target 0 })
    ((joined.fixups.say.are (record { address = slot.address; kind = kind_for l p slot.target 0 })).1 (asked.IsFixupOf.slot slot one))

room_for_none : has_room 0 ≡ false → ⊥
room_for_none h = cc

-- THE slot stands.
pub slot_stands : (rests : RestsOn) (l : Link) (counts : Counts) (b : List ℕ) (p : Placed) → IsReady l counts p → IsJoined l b p
    → (s : ℕ) (choice : Choice)
    → BindsAll b choice → (slot : Slot) → Contains p.slots slot → SlotStands l b p s choice slot
slot_stands rests l counts b p ready joined s choice binds slot one =
    elim (cases_Bool (is_import slot.target)) [
      | inl is ↦
          let n = import_number_of l slot.target (slot_has_place l counts p slot ready one) is in
          let kind : kind_for l p slot.target 0 ≡ kind_for l p (target.Import n.0) 0 = ap (λ (t : Target). kind_for l p t 0) n.1 in
          let bound = binds_at l b p joined.imports (record { address = slot.address; kind = kind_for l p slot.target 0 })
          (slot_word rests l b p slot joined one)
          n.0 0 kind n.2 (λ none. absurd (room_for_none none)) in
          let x = import_chosen l b joined.imports choice n.0 n.2 binds in
          rests.slides.import_slots l b p slot n.0 bound n.1 s choice x.0 x.1
      | inr other ↦ moved other
    ]
  where
    moved : is_import slot.target ≡ false → SlotStands l b p s choice slot
    moved moves =
        let has = slot_has_place l counts p slot ready one in
        let x : ℕ = address_of p slot.target in
        let at = is_at l p empty slot.target ready.placed.whole_list has moves in
        let n = slot_number_of l p slot ready.placed.whole_list.slots one in
        let encoded : IsNotEncodable p x → ⊥ = λ bad. joined.fixups.encoded (site.Slot n.0) (slot.target, x, n.1, moves, at, bad) in
        let above = address_above l p x ready.placed.base (address_fits l counts p slot.target ready.placed ready.ends has) encoded in
        let plus : x + 0 ≡ x = omega arith in
        let m = moves_at b (record { address = slot.address; kind = kind_for l p slot.target 0 }) (slot_word rests l b p slot joined one)
        (x + 0) p.base
        (kind_moves l p slot.target 0 moves) (omega (arith, above)) (one_base l counts b p ready.placed joined.agree) in
        rests.slides.slots l b p empty slot (slot_word rests l b p slot joined one).word x m.0
        (defined_place l slot.target has moves) at
        (m.1 ∙ ap (λ (v : ℕ). v % 2 ^ 64) plus) s choice

-- the entry that a pointer to an import has of its own
pub own_is_among : (l : Link) (s : SectionId) (f : Field) (id : ℕ) → Contains (carried_of l) s → Contains (fields_of l s) f
    → is_pointer f ≡ true
    → f.target ≡ target.Import id → has_room f.addend ≡ false → Contains (own_entries l) (record { import = id; addend = f.addend })
unfolding own_entries
own_is_among l s f id carried field pointer is none =
    in_distinct same_entry same_entries (flat_map entries (carried_of l)) e
    (contains_flat_map entries (carried_of l) s e carried (contains_filter_map (λ (g : Field). own_entry (is_pointer g) g.target g.addend)
    (fields_of l s) f e field asks))
  where
    e : EntryOfImport
    e = record { import = id; addend = f.addend }

    entries : SectionId → List EntryOfImport
    entries t = filter_map (λ (g : Field). own_entry (is_pointer g) g.target g.addend) (fields_of l t)

    asks : own_entry (is_pointer f) f.target f.addend ≡ Some e
    asks = rw (pointer, is, none) refl

-- the word of a pointer
field_word : (rests : RestsOn) (l : Link) (b : List ℕ) (p : Placed) (q : PlacedSection) (f : Field) (joined : IsJoined l b p)
    → Contains p.sections q
    → Contains (fields_of l (id_of q)) f → needs_fixup l (id_of q) f ≡ true
    → HasWord b (record { address = q.address + f.offset; kind = kind_for l p f.target f.addend })
field_word rests l b p q f joined one field needs =
    has_word rests.chains l b p joined.fixups joined.agree (record {
      address = q.address + f.offset;
      kind = kind_for l p f.target f.addend;
    })
    ((joined.fixups.say.are (record { address = q.address + f.offset; kind = kind_for l p f.target f.addend })).1
    (asked.IsFixupOf.pointer q f one field needs))

-- THE pointer denotes.
pub pointer_stands : (rests : RestsOn) (l : Link) (counts : Counts) (b : List ℕ) (p : Placed) → IsReady l counts p → IsJoined l b p
    → (s : ℕ) (choice : Choice)
    → BindsAll b choice → (q : PlacedSection) (f : Field) → Contains p.sections q → Contains (fields_of l (id_of q)) f
    → needs_fixup l (id_of q) f ≡ true → Denotes l b p s choice q f
pointer_stands rests l counts b p ready joined s choice binds q f one field needs =
    elim (cases_Bool (is_import f.target)) [ inl is ↦ bound is | inr other ↦ moved other ]
  where
    carried : Contains (carried_of l) (id_of q)
    carried = placed_is_carried l p q ready.placed.whole_list one

    has : HasPlace l f.target
    has = ready.leads.pointers (id_of q) f carried field needs

    fixed : (f.width ≡ 8) × (kind_of f.type (is_some f.subtrahend) ≡ Pointer) × (is_template_offset l (id_of q) f ≡ false)
        × (is_absolute_target f.target ≡ false)
    fixed = fixed_pointer l (id_of q) f needs

    bound : is_import f.target ≡ true → Denotes l b p s choice q f
    bound is =
        let n = import_number_of l f.target has is in
        let pointer = (and_parts (is_pointer f) (not (is_absolute_target f.target))
        (and_parts (is_pointer f && not (is_absolute_target f.target)) (not (is_template_offset l (id_of q) f)) needs).0).0 in
        let kind : kind_for l p f.target f.addend ≡ kind_for l p (target.Import n.0) f.addend = ap
        (λ (t : Target). kind_for l p t f.addend) n.1 in
        let at = binds_at l b p joined.imports (record { address = q.address + f.offset; kind = kind_for l p f.target f.addend })
        (field_word rests l b p q f joined one field needs) n.0 f.addend kind n.2
        (own_is_among l (id_of q) f n.0 carried field pointer n.1) in
        let x = import_chosen l b joined.imports choice n.0 n.2 binds in
        rests.slides.imports l b p q f n.0 at fixed.0 fixed.1 fixed.2 n.1 s choice x.0 x.1

    moved : is_import f.target ≡ false → Denotes l b p s choice q f
    moved moves =
        let x : ℕ = address_of p f.target in
        let at = is_at l p empty f.target ready.placed.whole_list has moves in
        let encoded : IsNotEncodable p ((x + f.addend) % 2 ^ 64) → ⊥ = λ bad.
        joined.fixups.encoded (site.Field q.file q.section f.relocation) (f, x, (carried, field, refl), needs, moves, at, bad) in
        let above = not_below p ((x + f.addend) % 2 ^ 64) encoded in
        let m = moves_at b (record { address = q.address + f.offset; kind = kind_for l p f.target f.addend })
        (field_word rests l b p q f joined one field needs)
        (x + f.addend) p.base (kind_moves l p f.target f.addend moves) above (one_base l counts b p ready.placed joined.agree) in
        rests.slides.pointers l b p empty q f (field_word rests l b p q f joined one field needs).word x m.0 fixed.0 fixed.1 fixed.2
        (defined_place l f.target has moves) at m.1 s choice
