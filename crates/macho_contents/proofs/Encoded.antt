-- Each fixup of a link has a word, where no value is without one.
--
-- A slot that is bound has no addend, and a pointer's addend is in its word only where there is room. What moves is asked for by its
-- distance from the base: by the address of its target, which is the only place that it has, and the addend. Of a value that has a word
-- that distance has none of the bits that a word has no room for.
use Rattle.std.proofs.Common.{◌≡◌, ℕ, ◌+◌, ◌-◌, ◌%◌, ◌^◌, ◌≤◌, ◌==◌, Bool, true, false, List, map, length, get_or, refl, sym, ap, ◌∙◌, arith, inl, inr, All}
use Rattle.std.specs.Prelude.{Contains, if◌then◌else◌}
use Rattle.std.proofs.lemmas.Bool.{cases_Bool, cases_lt, eq-eqb}
use Rattle.std.proofs.lemmas.List.Elements.{All-contains}
use Rattle.std.specs.FinMap.{empty}
use Rattle.macho_bytes.specs.Numbers.{bits}
use Rattle.macho_model.specs.declared.placed.Counts.{Counts}
use Rattle.macho_model.specs.declared.placed.PlacedSection.{PlacedSection}
use Rattle.macho_model.specs.declared.placed.PlacedSegment.{PlacedSegment}
use Rattle.macho_model.specs.declared.placed.Slot.{Slot}
use Rattle.macho_model.specs.declared.targets.Site.TheVariants as site
use Rattle.macho_model.specs.declared.targets.Target.{Target}
use Rattle.macho_model.specs.declared.targets.Target.TheVariants as target
use Rattle.macho_model.specs.Lists.{IsNumber}
use Rattle.macho_model.specs.Links.{Link}
use Rattle.macho_model.specs.Targets.{is_import, slots_of}
use Rattle.macho_model.specs.Fields.{Field, fields_of}
use Rattle.macho_model.specs.Fixups.{has_room}
use Rattle.macho_model.specs.Placement.{Placed, IsWholeList, id_of}
use Rattle.macho_model.specs.Addresses.{address_of}
use Rattle.macho_model.specs.Values.{needs_fixup, IsNotEncodable}
use Rattle.macho_fixups.specs.declared.run.Fixup.{Fixup}
use Rattle.macho_fixups.specs.declared.run.FixupSegment.{FixupSegment}
use Rattle.macho_fixups.specs.declared.words.FixupKind.TheVariants.{Rebase, Bind}
use Rattle.macho_fixups.specs.Words.{has_word}
use Rattle.macho_promise.specs.FixupsSay.{IsFixupOf, slot, pointer, kind_for, own_number, fixup_segments}
use Rattle.macho_promise.specs.steps.Segments.{fixup_segment}
use Rattle.macho_bytes.proofs.Members.{contains_map, contains_all, all_contains}
use Rattle.macho_image_laws.specs.Leads.{HasPlace}
use Rattle.macho_image_laws.proofs.Apart.{placed_is_carried}
use Rattle.macho_image_laws.proofs.Places.{is_at, address_fits, address_above, kind_moves}
use Rattle.macho_contents.specs.Chaining.{CanBeChained}
use Rattle.macho_image_laws.proofs.Words.{slot_number_of}

-- an import is bound with an addend that its word has room for
bind_has : (l : Link) (p : Placed) (t : Target) (addend : ℕ) → is_import t ≡ true → has_word (kind_for l p t addend) ≡ true
bind_has l p (target.Import id) addend is = by (has_room addend) refl
  where
    by : (b : Bool) → has_room addend ≡ b → has_word (if b then Bind id addend else Bind (own_number l id addend) 0) ≡ true
    by true room = room
    by false room = refl
bind_has l p (target.Section file section offset) addend is = absurd (cc)
bind_has l p (target.Common id) addend is = absurd (cc)
bind_has l p target.Base addend is = absurd (cc)
bind_has l p (target.Absolute value) addend is = absurd (cc)
bind_has l p target.None addend is = absurd (cc)

-- no bit is set outside the fields
no_bits : (n : ℕ) → (1 ≤ n → ⊥) → (n == 0) ≡ true
no_bits n none = elim (cases_lt n 1) [ inl low ↦ eq-eqb n 0 (omega (arith, low)) | inr high ↦ absurd (none high) ]

-- a value that has a word, as a distance from the base
rebase_has : (p : Placed) (v : ℕ) → (IsNotEncodable p v → ⊥) → has_word (Rebase (v - p.base)) ≡ true
rebase_has p v encoded = no_bits (bits 36 20 (v - p.base)) (λ some. encoded (inr some))

-- so has one that is taken modulo 2 ^ 64, up to that number itself
wrapped : (p : Placed) (v : ℕ) → v ≤ 2 ^ 64 → p.base ≤ v % 2 ^ 64 → (IsNotEncodable p v → ⊥)
    → has_word (Rebase (v % 2 ^ 64 - p.base)) ≡ true
wrapped p v fits above encoded = elim (cases_lt v (2 ^ 64)) [
  | inl below ↦
      let same : v % 2 ^ 64 ≡ v = omega (arith, below) in
      ap (λ (n : ℕ). has_word (Rebase (n - p.base))) same ∙ rebase_has p v encoded
  | inr end ↦
      let zero_is : v % 2 ^ 64 - p.base ≡ 0 = omega (arith, fits, end) in
      ap (λ (n : ℕ). has_word (Rebase n)) zero_is
]

memory_ends : (p : Placed) → All (λ (s : FixupSegment). (s.address + s.size ≤ 2 ^ 64) × (s.file_offset + s.file_size ≤ 2 ^ 64))
    (fixup_segments p)
    → All (λ (s : PlacedSegment). s.address + s.size ≤ 2 ^ 64) p.segments
memory_ends p ends =
    contains_all (λ (s : PlacedSegment). s.address + s.size ≤ 2 ^ 64) p.segments
    (λ s one. (all_contains (λ (t : FixupSegment). (t.address + t.size ≤ 2 ^ 64) × (t.file_offset + t.file_size ≤ 2 ^ 64))
    (fixup_segments p)
    (fixup_segment s) ends (contains_map fixup_segment p.segments s one)).0)

-- THE word of a slot
slot_has : (l : Link) (counts : Counts) (p : Placed) (s : Slot) → CanBeChained l counts p → Contains p.slots s
    → has_word (kind_for l p s.target 0) ≡ true
slot_has l counts p s can one = elim (cases_Bool (is_import s.target)) [
  | inl is ↦ bind_has l p s.target 0 is
  | inr moves ↦
      let whole : IsWholeList l p = can.placed.placed.whole_list in
      let n = slot_number_of l p s whole.slots one in
      let has : HasPlace l s.target = All-contains (HasPlace l) (slots_of l) s.target can.leads.slots (n.0, n.1.0, n.1.1) in
      let x : ℕ = address_of p s.target in
      let at = is_at l p empty s.target whole has moves in
      let encoded : IsNotEncodable p x → ⊥ = λ bad. can.encoded (site.Slot n.0) (s.target, x, n.1, moves, at, bad) in
      let fits = address_fits l counts p s.target can.placed.placed (memory_ends p can.segments.ends) has in
      let above = address_above l p x can.placed.placed.base fits encoded in
      let plus : x + 0 ≡ x = omega arith in
      ap has_word (kind_moves l p s.target 0 moves) ∙ ap (λ (v : ℕ). has_word (Rebase (v % 2 ^ 64 - p.base))) plus
      ∙ wrapped p x fits above encoded
]

-- THE word of a pointer
pointer_has : (l : Link) (counts : Counts) (p : Placed) (q : PlacedSection) (f : Field) → CanBeChained l counts p → Contains p.sections q
    → Contains (fields_of l (id_of q)) f → needs_fixup l (id_of q) f ≡ true → has_word (kind_for l p f.target f.addend) ≡ true
pointer_has l counts p q f can one there needs = elim (cases_Bool (is_import f.target)) [
  | inl is ↦ bind_has l p f.target f.addend is
  | inr moves ↦
      let whole : IsWholeList l p = can.placed.placed.whole_list in
      let carried = placed_is_carried l p q whole one in
      let has : HasPlace l f.target = can.leads.pointers (id_of q) f carried there needs in
      let x : ℕ = address_of p f.target in
      let at = is_at l p empty f.target whole has moves in
      ap has_word (kind_moves l p f.target f.addend moves)
      ∙ rebase_has p ((x + f.addend) % 2 ^ 64)
      (λ bad. can.encoded (site.Field q.file q.section f.relocation) (f, x, (carried, there, refl), needs, moves, at, bad))
]

pub fixup_has : (l : Link) (counts : Counts) (p : Placed) (f : Fixup) → CanBeChained l counts p → IsFixupOf l p f → has_word f.kind ≡ true
fixup_has l counts p _ can (slot s one) = slot_has l counts p s can one
fixup_has l counts p _ can (pointer q f one there needs) = pointer_has l counts p q f can one there needs
