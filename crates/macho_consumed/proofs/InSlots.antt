-- The slots of a section of initializers.
--
-- A cell of the table tells the relocations of its slot: none, one, or several. Where there isn't one, or it is no pointer to a
-- symbol, or the slot isn't empty, the slot breaks the rules; else it fits. Slot by slot the rows are those of the relocations
-- found, their pointers lead into carried sections, and none stands between two slots so far: at the end none does at all.
use Rattle.std.proofs.Common.{◌≡◌, ℕ, ◌+◌, ◌*◌, ◌%◌, ◌<◌, ◌≤◌, ◌⊎◌, inl, inr, eqb, Bool, true, false, List, [], ◌∷◌, ◌++◌, length, map, get_or, None, refl, sym, ap, ◌∙◌, subst, arith, below_more, append_assoc, slice_range, length-take, length-drop, nat_le, nat_lt, ◌≢◌, ◌^◌, ◌==◌, ◌&&◌, ◌||◌, if◌then◌else◌}
use Rattle.std.proofs.lemmas.Bool.{leb-true}
use Rattle.std.proofs.lemmas.Nat.{pow_pos}
use Rattle.std.proofs.lemmas.Bool.Decides.{nat_tests}
use Rattle.std.proofs.lemmas.List.{append-nil, get_or_default}
use Rattle.std.specs.List.{range_with_len, flat_map, Contains}
use Rattle.macho_bytes.specs.Numbers.{le_at}
use Rattle.macho_bytes.specs.Layouts.{read_of}
use Rattle.macho_wire.specs.Layouts.{unwind_info_entry}
use Rattle.macho_records.specs.Sections.{is_zerofill}
use Rattle.macho_wire.specs.declared.relocations.RelocationInfo.{RelocationInfo}
use Rattle.macho_records.specs.declared.header.SectionHeader.{SectionHeader}
use Rattle.macho_object.specs.Views.{FileBytes, RelocationBytes}
use Rattle.macho_model.specs.Links.{Link}
use Rattle.macho_model.specs.Grammar.{IsFile}
use Rattle.macho_model.specs.ObjectLaws.{KeepsObjectRules}
use Rattle.macho_model.proofs.ObjectLaws.{keeps_of, section_long}
use Rattle.macho_model.specs.Objects.{num_sections, num_symbols, section_at, section_bytes, relocation_at}
use Rattle.macho_model.specs.Consumed.{is_plain_pointer, initializer_section_fits}
use Rattle.macho_consumed.specs.steps.Sections.{IsRead}
use Rattle.macho_symbols.specs.Kept.{ResolvedRows, IsResolved, HasSymbol}
use Rattle.macho_consumed.specs.declared.rows.Initializer.{Initializer}
use Rattle.macho_consumed.specs.declared.fault.ConsumedFault.{ConsumedFault}
use Rattle.macho_consumed.specs.declared.fault.ConsumedFault.TheVariants.{BadInitializer}
use Rattle.macho_consumed.specs.declared.places.Cell.{Cell}
use Rattle.macho_consumed.specs.declared.places.Cell.TheVariants.{Empty, One, Several}
use Rattle.macho_consumed.specs.steps.Alone.{alone, own}
use Rattle.macho_consumed.specs.steps.Places.{found, CellTells, IsTable, IsBetween, NoneBelow}
use Rattle.macho_consumed.specs.steps.Checked.{AreNamed, leads_into, LeadsInto}
use Rattle.macho_consumed.specs.steps.Slots.{in_slot, is_symbol_pointer, SlotIs, SlotFits, SlotBreaks, SlotsFit, SlotsLead, SlotStrays, ExternsExist, AreInside, SectionFits, IsBadSection, slot_rows, row_at}
use Rattle.macho_consumed.proofs.Members.{in_filter}
use Rattle.macho_consumed.proofs.Ranges.{flat_map_range_more}
use Rattle.macho_bytes.proofs.Bools.{and_right}
use Rattle.macho_bytes.proofs.Members.{contains_first, range_contains}

-- the symbols that a section's relocations name are there, and each relocation begins in the section
symbol_there : (r : RelocationInfo) (n m : ℕ) → (if r.r_extern then nat_lt r.r_symbolnum n else ((r.r_type == 10) ||
    (nat_le 1 r.r_symbolnum && nat_le r.r_symbolnum m))) ≡ true
    → r.r_extern ≡ true → r.r_symbolnum < n
symbol_there r n m exists extern = grind (arith, nat_tests, exists, extern)

pub externs_exist : (f : FileBytes) (k : ℕ) → f.is_dynamic ≡ false → IsFile f.is_dynamic f.bytes → k < num_sections f.bytes
    → ExternsExist f.bytes k
externs_exist f k static whole among r lt extern =
    symbol_there (relocation_at f.bytes k r) (num_symbols f.bytes) (num_sections f.bytes)
    ((keeps_of f.is_dynamic f.bytes static whole).o5.1 k r among lt) extern

pub are_inside : (f : FileBytes) (k : ℕ) → f.is_dynamic ≡ false → IsFile f.is_dynamic f.bytes → k < num_sections f.bytes
    → AreInside f.bytes k
are_inside f k static whole among r lt =
    let inside = leb-true ((relocation_at f.bytes k r).r_address + 2 ^ (relocation_at f.bytes k r).r_length) (section_at f.bytes k).size
    ((keeps_of f.is_dynamic f.bytes static whole).o10.1 k r among lt) in
    omega (arith, inside, pow_pos (relocation_at f.bytes k r).r_length)

-- what is read of a section of a file that is an object
pub is_read : (f : FileBytes) (k : ℕ) (h : SectionHeader) (bytes : List ℕ) (s : RelocationBytes) → f.is_dynamic ≡ false
    → IsFile f.is_dynamic f.bytes → k < num_sections f.bytes → h ≡ section_at f.bytes k → bytes ≡ section_bytes f.bytes k
    → s ≡ record { bytes = f.bytes; section = k } → IsRead f k h bytes s
is_read f k h bytes s static whole among head content is =
    subst (IsRead f k h bytes) (sym is) (record {
      same = ap (λ (d : Bool). record { bytes = f.bytes; is_dynamic = d }) static;
      numbered = refl;
      object = keeps_of f.is_dynamic f.bytes static whole;
      among = among;
      head = head;
      content = content;
    })

-- the number of a relocation that is found
pub found_below : (b : List ℕ) (k n place r : ℕ) → Contains (found b k n place) r → r < n
unfolding found
found_below b k n place r c = range_contains n r (in_filter (λ q. eqb (relocation_at b k q).r_address place) (range_with_len 0 n) r c).1

pub in_cell : (b : List ℕ) (k n place r : ℕ) (cell : Cell) → CellTells (found b k n place) cell → cell ≡ One r → r < n
in_cell b k n place r cell tells one =
    let is : found b k n place ≡ r ∷ [] = subst (CellTells (found b k n place)) one tells in
    found_below b k n place r (subst (λ (xs : List ℕ). Contains xs r) (sym is) (contains_first r []))

-- a section of whole slots has a type with bytes
pub slots_have_bytes : (b : List ℕ) (k : ℕ) → initializer_section_fits (alone b) (own k) ≡ true
    → (is_zerofill (section_at b k) ≡ false) × ((section_at b k).size % 8 ≡ 0)
slots_have_bytes b k fits = (grind (arith, nat_tests, fits), grind (arith, nat_tests, fits))

-- slots so far
pub slots_none : (b : List ℕ) (k : ℕ) → SlotsFit b k 0
slots_none b k = record { slots = λ slot lt. absurd (omega arith) }

pub slots_more : (b : List ℕ) (k n : ℕ) (told : ℕ × RelocationInfo) → SlotsFit b k n → SlotIs b k n told → SlotsFit b k (n + 1)
slots_more b k n told fit is = record { slots = below_more _ n fit.slots (told.0, is.0) }

pub rows_none : (b : List ℕ) (file k : ℕ) (rows : List Initializer) → rows ≡ rows ++ slot_rows b file k 0
unfolding slot_rows
rows_none b file k rows = sym (append-nil rows)

pub rows_more : (b : List ℕ) (file k n : ℕ) (told : ℕ × RelocationInfo) (rows : List Initializer) → SlotIs b k n told
    → (rows ++ slot_rows b file k n) ++ record { file = file; section = k; number = told.0; relocation = told.1 } ∷ [] ≡ rows ++ slot_rows
    b file k (n + 1)
unfolding slot_rows
rows_more b file k n told rows is =
    let f : ℕ → List Initializer = λ slot. map (row_at b file k) (in_slot b k slot) in
    let last : f n ≡ row_at b file k told.0 ∷ [] = ap (map (row_at b file k)) is.0.one in
    let same : row_at b file k told.0 ≡ record { file = file; section = k; number = told.0; relocation = told.1 } =
    ap (λ (r : RelocationInfo). record { file = file; section = k; number = told.0; relocation = r }) (sym is.1) in
    append_assoc rows (flat_map f (range_with_len 0 n)) _
    ∙ ap (λ (xs : List Initializer). rows ++ xs) (sym (flat_map_range_more f n
    ∙ ap (λ (xs : List Initializer). flat_map f (range_with_len 0 n) ++ xs) (last ∙ ap (λ (x : Initializer). x ∷ []) same)))

-- a slot's cell
pub slot_cell : (b : List ℕ) (k slot : ℕ) (cells : List Cell) (cell : Cell) → IsTable b k (section_at b k).nreloc cells
    → slot < length cells → cell ≡ get_or cells slot cell → CellTells (in_slot b k slot) cell
slot_cell b k slot cells cell table lt is =
    subst (CellTells (in_slot b k slot)) (get_or_default cells slot Empty cell lt ∙ sym is) (table.cell slot lt)

pub none_at_start : (b : List ℕ) (k : ℕ) → NoneBelow b k (section_at b k).nreloc (8 * 0)
none_at_start b k = λ r lt below. absurd (omega (arith, below))

-- the slots so far lead into carried sections, and so does the next
pub leads_none : (r : ResolvedRows) (b : List ℕ) (file k : ℕ) → SlotsLead r b file k 0
leads_none r b file k = λ slot lt. absurd (omega arith)

pub leads_more : (r : ResolvedRows) (b : List ℕ) (file k n : ℕ) (told : ℕ × RelocationInfo) (into : Bool) → SlotsLead r b file k n
    → SlotIs b k n told
    → ((l : Link) (noted : List (List ℕ)) → IsResolved l noted r → into ≡ leads_into l noted
    (record { file = file; section = k; number = told.0; relocation = told.1 })) → into ≡ true → SlotsLead r b file k (n + 1)
leads_more r b file k n told into so_far is leads hits =
    below_more (λ slot. (q : ℕ) → SlotFits b k slot q → LeadsInto r (row_at b file k q) true) n so_far
    (λ q fits l noted resolved.
    let same : q ∷ [] ≡ told.0 ∷ [] = sym fits.one ∙ is.0.one in
    let number : q ≡ told.0 = cc in
    ap (λ (m : ℕ). leads_into l noted (row_at b file k m)) number
    ∙ ap (λ (x : RelocationInfo). leads_into l noted (record { file = file; section = k; number = told.0; relocation = x })) (sym is.1)
    ∙ sym (leads l noted resolved) ∙ hits)

-- or the next one strays
pub strays : (r : ResolvedRows) (b : List ℕ) (file k n : ℕ) (told : ℕ × RelocationInfo) (into : Bool) → SlotIs b k n told
    → ((l : Link) (noted : List (List ℕ)) → IsResolved l noted r → into ≡ leads_into l noted
    (record { file = file; section = k; number = told.0; relocation = told.1 })) → into ≡ false → SlotStrays r b file k n
strays r b file k n told into is leads misses = record {
  number = told.0;
  fits = is.0;
  leads = λ l noted resolved. ap (λ (x : RelocationInfo). leads_into l noted
      (record { file = file; section = k; number = told.0; relocation = x })) (sym is.1) ∙ sym (leads l noted resolved) ∙ misses;
}

-- its symbol is there
pub pointer_named : (r : ResolvedRows) (b : List ℕ) (file k n : ℕ) (told : ℕ × RelocationInfo) → SlotIs b k n told → ExternsExist b k
    → AreNamed r file b → HasSymbol r file told.1.r_symbolnum
pointer_named r b file k n told is externs named =
    let below = found_below b k (section_at b k).nreloc (8 * n) told.0 (subst (λ (xs : List ℕ). Contains xs told.0) (sym is.0.one)
    (contains_first told.0 [])) in
    let extern = and_right (is_plain_pointer (relocation_at b k told.0)) _ is.0.pointer in
    subst (λ (x : RelocationInfo). HasSymbol r file x.r_symbolnum) (sym is.1)
    (named (relocation_at b k told.0).r_symbolnum (externs told.0 below extern))

-- what is told of it
pub bad_slot : (r : ResolvedRows) (b : List ℕ) (file k slot : ℕ) (said : ConsumedFault) → 8 * slot + 8 ≤ (section_at b k).size
    → SlotBreaks b k slot ⊎ SlotStrays r b file k slot → said ≡ BadInitializer file k (8 * slot) → IsBadSection r b file k said
bad_slot r b file k slot said within breaks told =
    subst (IsBadSection r b file k) (sym told) (refl, refl, inr (inl (slot, within, refl, breaks)))

pub bad_between : (r : ResolvedRows) (b : List ℕ) (file k address : ℕ) (said : ConsumedFault)
    → IsBetween b k (section_at b k).nreloc address
    → said ≡ BadInitializer file k address → IsBadSection r b file k said
bad_between r b file k address said between told =
    subst (IsBadSection r b file k) (sym told) (refl, refl, inr (inr between))

-- the whole section fits
pub section_fits : (r : ResolvedRows) (b : List ℕ) (file k n : ℕ) (cells : List Cell) → initializer_section_fits (alone b) (own k) ≡ true
    → IsTable b k (section_at b k).nreloc cells → SlotsFit b k n → SlotsLead r b file k n → NoneBelow b k (section_at b k).nreloc (8 * n)
    → AreInside b k → length cells ≤ n → SectionFits r b file k
section_fits r b file k n cells fits table slots lead none inside all = record {
  section = fits;
  placed = λ q lt. none q lt (omega (arith, inside q lt, all, table.long, (slots_have_bytes b k fits).1));
  slots = record { slots = λ slot lt. slots.slots slot (omega (arith, lt, all, table.long)) };
  lead = λ slot lt. lead slot (omega (arith, lt, all, table.long));
}

pub slot_within : (b : List ℕ) (k n slot : ℕ) (cells : List Cell) → IsTable b k n cells → slot < length cells
    → 8 * slot + 8 ≤ (section_at b k).size
slot_within b k n slot cells table lt = omega (arith, lt, table.long)

-- a slot lies in the bytes that are read
pub slot_bytes : (s t : RelocationBytes) (slot : ℕ) (bytes : List ℕ) → s ≡ t → KeepsObjectRules s.bytes → s.section < num_sections s.bytes
    → bytes ≡ section_bytes s.bytes s.section → is_zerofill (section_at t.bytes t.section) ≡ false
    → 8 * slot + 8 ≤ (section_at t.bytes t.section).size
    → 8 * slot + 0 + 8 ≤ length bytes
slot_bytes s t slot bytes same object among content plain within =
    let back : (is_zerofill (section_at s.bytes s.section) ≡ false) × (8 * slot + 8 ≤ (section_at s.bytes s.section).size) =
    subst (λ (u : RelocationBytes). (is_zerofill (section_at u.bytes u.section) ≡ false) × (8 * slot + 8 ≤
    (section_at u.bytes u.section).size)) (sym same)
    (plain, within) in
    omega (arith, back.1, section_long s.bytes s.section object among back.0, ap length content)

-- and so does an entry
pub entry_bytes : (s t : RelocationBytes) (entry : ℕ) (bytes : List ℕ) → s ≡ t → KeepsObjectRules s.bytes → s.section < num_sections s.bytes
    → bytes ≡ section_bytes s.bytes s.section → is_zerofill (section_at t.bytes t.section) ≡ false
    → 32 * entry + 32 ≤ (section_at t.bytes t.section).size
    → 32 * entry + 32 ≤ length bytes
entry_bytes s t entry bytes same object among content plain within =
    let back : (is_zerofill (section_at s.bytes s.section) ≡ false) × (32 * entry + 32 ≤ (section_at s.bytes s.section).size) =
    subst (λ (u : RelocationBytes). (is_zerofill (section_at u.bytes u.section) ≡ false) × (32 * entry + 32 ≤
    (section_at u.bytes u.section).size)) (sym same)
    (plain, within) in
    omega (arith, back.1, section_long s.bytes s.section object among back.0, ap length content)

pub entry_is_read : (bytes : List ℕ) (at : ℕ) → at + 32 ≤ length bytes → None ≡ read_of unwind_info_entry bytes at → ⊥
entry_is_read bytes at within none = let there : nat_le (at + 32) (length bytes) ≡ true = grind (arith, nat_tests, within) in cc
