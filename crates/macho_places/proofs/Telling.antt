-- What the look-ups tell of a link, where placement, needs and views are those of the link.
--
-- Addresses of commons, slots and stubs stand at the numbers of what they belong to, since the placement lists these as the link
-- does. Symbols lead where the link's do, since the rows are kept of its inputs. A placed section is one of an object of the
-- link, whose view shows its header. Entries are numbered as the link's are.
use Rattle.std.proofs.Common.{◌≡◌, ℕ, suc, ◌+◌, ◌<◌, ◌==◌, not, cond, Bool, true, false, List, [], ◌∷◌, ◌++◌, map, filter, length, get_or, refl, sym, ap, subst, ◌∙◌, arith, inl, inr, if◌then◌else◌, Option, Some, None}
use Rattle.std.specs.Prelude.{nat_lt, position, is_none, Contains}
use Rattle.std.specs.List.{position_or_len, range_with_len}
use Rattle.std.proofs.lemmas.Bool.{cases_lt}
use Rattle.std.proofs.lemmas.Bool.Decides.{nat_tests}
use Rattle.std.proofs.lemmas.List.{get_or_default, get_or_past, length-map, get_or-map}
use Rattle.std.proofs.lemmas.List.FromFn.{length-map-range_with_len}
use Rattle.macho_bytes.specs.Layouts.{reading}
use Rattle.macho_bytes.specs.Numbers.{le_at}
use Rattle.macho_model.specs.declared.placed.Counts.{Counts}
use Rattle.macho_model.specs.declared.placed.PlacedSection.{PlacedSection}
use Rattle.macho_model.specs.declared.placed.Slot.{Slot}
use Rattle.macho_model.specs.declared.placed.Stub.{Stub}
use Rattle.macho_model.specs.declared.targets.Target.{Target}
use Rattle.macho_model.specs.declared.targets.Target.TheVariants as target
use Rattle.macho_model.specs.Commands.{commands_of, commands_from, header_of}
use Rattle.macho_model.specs.Objects.{num_sections, num_symbols, symtab_of, section_at}
use Rattle.macho_model.specs.Links.{Input, Object, Dylib, Stub as StubInput, Link, SectionId, object_of, object_bytes, no_input, header_at, is_template, sections_of, carried_of, is_carried}
use Rattle.macho_model.specs.Needs.{imports_of}
use Rattle.macho_model.specs.Targets.{same_target, target_of}
use Rattle.macho_model.specs.Placement.{Placed, id_of}
use Rattle.macho_model.specs.Lists.{of_first}
use Rattle.macho_model.specs.Addresses.{slot_address}
use Rattle.macho_model.specs.Fixups.{same_entry, import_entries_of}
use Rattle.macho_object.specs.Views.{FileBytes}
use Rattle.macho_bytes.proofs.Members.{contains_map, filter_contains}
use Rattle.macho_placed_laws.proofs.OfLink.{IsSectionOf, section_of}
use Rattle.macho_promise.specs.Views.{object_view, views_of}
use Rattle.macho_layout_laws.proofs.ByNumber.{commons_by_number, slots_by_number, first_kept}
use Rattle.macho_layout_laws.proofs.Places.{place_agree}
use Rattle.macho_symbol_names.specs.Kept.{FileRows, kept_of, no_file, row_of_symbol, rows_of_object}
use Rattle.macho_symbols.specs.Kept.{ResolvedRows, IsResolved, HasSymbol}
use Rattle.macho_symbols.proofs.Targeted.{target_here}
use Rattle.macho_needs.specs.declared.needs.Needs.{Needs}
use Rattle.macho_fields.specs.Looks.{stub_address, Tells}
use Rattle.macho_places.specs.Places.{AreOfLink}
use Rattle.macho_places.specs.Looked.{look_of, template_in, numbered}
use Rattle.macho_places.proofs.Numbers.{numbered_is, entry_is, plain}
use Rattle.macho_bytes.proofs.Comparing.{eq_turn}
use Rattle.macho_bytes.proofs.Maps.{place_told}

-- the address of a slot, and of a stub
slot_told : (l : Link) (counts : Counts) (p : Placed) (needs : Needs) (views : List (Option FileBytes)) (t : Target)
    → AreOfLink l counts p needs views
    → numbered (map (λ (s : Slot). s.address) p.slots) (position (same_target t) needs.tables.slots) ≡ slot_address p t
slot_told l counts p needs views t of =
    let listed = of.placed.placed.whole_list.slots in
    let long : length (map (λ (s : Slot). s.address) p.slots) ≡ length needs.tables.slots = omega (
      arith,
      length-map p.slots (λ (s : Slot). s.address),
      length-map p.slots (λ (s : Slot). s.target),
      ap length listed,
      ap length of.noted.slots,
    ) in
    numbered_is (map (λ (s : Slot). s.address) p.slots) (same_target t) needs.tables.slots long
    ∙ ap (λ ts. get_or (map (λ (s : Slot). s.address) p.slots) (position_or_len (same_target t) ts) 0) of.noted.slots
    ∙ sym (slots_by_number l counts p of.placed t)

stub_told : (l : Link) (counts : Counts) (p : Placed) (needs : Needs) (views : List (Option FileBytes)) (id : ℕ)
    → AreOfLink l counts p needs views
    → numbered (map (λ (s : Stub). s.address) p.stubs) (position (same_target (target.Import id)) needs.tables.stubs) ≡ stub_address p id
unfolding stub_address
stub_told l counts p needs views id of =
    let listed = of.placed.placed.whole_list.stubs in
    let long : length (map (λ (s : Stub). s.address) p.stubs) ≡ length needs.tables.stubs = omega (
      arith,
      length-map p.stubs (λ (s : Stub). s.address),
      length-map p.stubs (λ (s : Stub). target.Import s.import),
      ap length listed,
      ap length of.noted.stubs,
    ) in
    numbered_is (map (λ (s : Stub). s.address) p.stubs) (same_target (target.Import id)) needs.tables.stubs long
    ∙ ap (λ ts. get_or (map (λ (s : Stub). s.address) p.stubs) (position_or_len (same_target (target.Import id)) ts) 0)
    (of.noted.stubs ∙ sym listed)
    ∙ ap (λ (n : ℕ). get_or (map (λ (s : Stub). s.address) p.stubs) n 0)
    (sym (place_told (same_target (target.Import id)) (λ (s : Stub). target.Import s.import) p.stubs)
    ∙ place_agree (λ (s : Stub). same_target (target.Import id) (target.Import s.import)) (λ (s : Stub). s.import == id) p.stubs
    (λ k d low. eq_turn id (get_or p.stubs k d).import))
    ∙ sym (first_kept (λ (s : Stub). s.address) (λ (s : Stub). s.import == id) p.stubs)

-- no bytes have no symbols
no_symbols : num_symbols [] ≡ 0
unfolding num_symbols symtab_of reading le_at commands_of commands_from header_of
no_symbols = refl

-- a symbol of the link is one of the rows
pub symbol_here : (l : Link) (noted : List (List ℕ)) (r : ResolvedRows) (file symbol : ℕ) → IsResolved l noted r
    → symbol < num_symbols (object_of l file) → HasSymbol r file symbol
unfolding rows_of_object
symbol_here l noted r file symbol is low = elim (cases_lt file (length l.inputs)) [
  | inr past ↦
      let none : num_symbols (object_of l file) ≡ 0 = ap (λ (x : Input). num_symbols (object_bytes x))
      (get_or_past l.inputs file no_input past) ∙ no_symbols in
      absurd (omega (arith, low, none))
  | inl among ↦ by (get_or l.inputs file no_input) refl among
]
  where
    kept : file < length l.inputs → get_or r.files file no_file ≡ kept_of (get_or l.inputs file no_input)
    kept among = ap (λ (fs : List FileRows). get_or fs file no_file) is.keeps ∙ get_or-map kept_of l.inputs file no_input no_file among

    by : (x : Input) → get_or l.inputs file no_input ≡ x → file < length l.inputs → HasSymbol r file symbol
    by (Object b) e among =
        let same : get_or r.files file no_file ≡ kept_of (Object b) = kept among ∙ ap kept_of e in
        let many : symbol < num_symbols b = subst (λ (x : Input). symbol < num_symbols (object_bytes x)) e low in (
          omega (arith, among, ap length is.keeps, length-map l.inputs kept_of),
          ap (λ (f : FileRows). is_none f.library) same,
          omega (arith, many, ap (λ (f : FileRows). length f.rows) same, length-map-range_with_len (row_of_symbol b) 0 (num_symbols b)),
        )
    by (Dylib b) e among =
        let none : num_symbols (object_of l file) ≡ 0 = ap (λ (x : Input). num_symbols (object_bytes x)) e ∙ no_symbols in
        absurd (omega (arith, low, none))
    by (StubInput text says) e among =
        let none : num_symbols (object_of l file) ≡ 0 = ap (λ (x : Input). num_symbols (object_bytes x)) e ∙ no_symbols in
        absurd (omega (arith, low, none))

-- a placed section is one of an object
placed_section : (l : Link) (p : Placed) (q : PlacedSection) → map id_of p.sections ≡ carried_of l → Contains p.sections q
    → IsSectionOf l (id_of q)
unfolding carried_of
placed_section l p q listed here =
    let carried : Contains (carried_of l) (id_of q) = subst (λ (ss : List SectionId). Contains ss (id_of q)) listed
    (contains_map id_of p.sections q here) in
    section_of l (id_of q) (filter_contains (λ (s : SectionId). is_carried (header_at l s)) (sections_of l) (id_of q) carried).0

-- and its view shows its header
template_told : (l : Link) (views : List (Option FileBytes)) (q : PlacedSection) → views ≡ views_of l → IsSectionOf l (id_of q)
    → template_in (get_or views q.file None) q.section ≡ is_template (header_at l (id_of q))
template_told l views q same of =
    let view : get_or views q.file None ≡ Some (record { bytes = of.bytes; is_dynamic = false }) =
    ap (λ (vs : List (Option FileBytes)). get_or vs q.file None) same
    ∙ get_or-map object_view l.inputs q.file no_input None of.input.0
    ∙ ap object_view (get_or_default l.inputs q.file no_input (Object of.bytes) of.input.0 ∙ of.input.1) in
    let among : nat_lt q.section (num_sections of.bytes) ≡ true = grind (arith, nat_tests, of.section) in
    ap (λ (v : Option FileBytes). template_in v q.section) view
    ∙ ap (λ (b : Bool). if b then is_template (section_at of.bytes q.section) else false) among
    ∙ ap (λ (b : List ℕ). is_template (section_at b q.section)) (sym of.object)

-- THE look-ups tell of the link.
pub tells_link : (l : Link) (counts : Counts) (p : Placed) (needs : Needs) (views : List (Option FileBytes)) (imports : ℕ)
    → AreOfLink l counts p needs views → imports ≡ length needs.resolved.noted
    → Tells l p (look_of (record { placed = p; rows = needs.resolved; imports = imports; tables = needs.tables; views = views }))
unfolding look_of target_of import_entries_of
tells_link l counts p needs views imports of many = record {
  addresses = record {
    base = refl;
    sections = λ file section. refl;
    commons = λ id. sym (commons_by_number l counts p of.placed id);
    slots = λ t. slot_told l counts p needs views t of;
    stubs = λ id. stub_told l counts p needs views id of;
    template = refl;
  };
  targets = λ file symbol low.
      target_here l (imports_of l) needs.resolved file symbol of.resolved (symbol_here l
      (imports_of l) needs.resolved file symbol of.resolved low);
  in_template = λ q here. template_told l views q of.objects (placed_section l p q of.placed.order.sections here);
  own = λ id addend.
      entry_is imports needs.tables.own id addend
      ∙ ap (λ (n : ℕ). position_or_len (same_entry (record { import = id; addend = addend })) (map plain
      (range_with_len 0 n) ++ needs.tables.own))
      (many ∙ ap length of.resolved.notes)
      ∙ ap (λ es. position_or_len (same_entry (record { import = id; addend = addend })) (map plain (range_with_len 0 (length
      (imports_of l))) ++ es))
      of.noted.own;
}
