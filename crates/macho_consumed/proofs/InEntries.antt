-- An entry of compact unwind information, by its cells.
--
-- The table tells the relocations of each of an entry's four places. At each of the three addresses stands a plain pointer or none,
-- else a rule is broken. What the code found of the one, the tests of the rules say of the list of one: so each rule holds, or is the
-- one that is told. No relocation stands at 8 nor between places, so each stands at one of the three addresses.
use Rattle.std.proofs.Common.{◌≡◌, ◌≢◌, ℕ, ◌+◌, ◌*◌, ◌/◌, ◌%◌, ◌<◌, ◌≤◌, inl, inr, eqb, eq-eqb, Bool, true, false, not, nat_lt, ◌==◌, if◌then◌else◌, ◌&&◌, ◌||◌, List, [], length, filter, get_or, Option, Some, None, option_map, option_to_list, is_some, nat_le, refl, sym, ap, ◌∙◌, subst, arith}
use Rattle.std.proofs.lemmas.Bool.Decides.{nat_tests}
use Rattle.std.proofs.lemmas.Bool.{eqb-true}
use Rattle.std.specs.List.{range_with_len, list_all, list_any, Contains}
use Rattle.macho_bytes.specs.Numbers.{bits}
use Rattle.macho_wire.specs.declared.relocations.RelocationInfo.{RelocationInfo}
use Rattle.macho_wire.specs.declared.unwind.UnwindInfoEntry.{UnwindInfoEntry}
use Rattle.macho_model.specs.declared.rules.UnwindRule.{UnwindRule}
use Rattle.macho_model.specs.declared.rules.UnwindRule.TheVariants.{U2, U3, U4, U5, U8}
use Rattle.macho_model.specs.ObjectLaws.{KeepsObjectRules}
use Rattle.macho_model.specs.Objects.{num_sections, section_at, relocation_at}
use Rattle.macho_model.specs.Consumed.{is_plain_pointer, START_PLACE, LSDA_PLACE, ADDRESS_PLACES, keeps}
use Rattle.macho_model.specs.Needs.{PERSONALITY_PLACE}
use Rattle.macho_promise.specs.UnwindSays.{relocation_of}
use Rattle.macho_consumed.specs.declared.rows.SectionPlace.{SectionPlace}
use Rattle.macho_consumed.specs.declared.rows.PersonalityUse.{PersonalityUse}
use Rattle.macho_consumed.specs.Rows.{start_place, place_named, personality_use, entry_row}
use Rattle.macho_consumed.specs.steps.Alone.{alone, own}
use Rattle.macho_symbols.specs.Kept.{ResolvedRows}
use Rattle.macho_consumed.specs.declared.places.Cell.{Cell}
use Rattle.macho_consumed.specs.declared.places.Cell.TheVariants.{Empty, One}
use Rattle.macho_consumed.specs.steps.Places.{found, CellTells, IsTable, NoneBelow}
use Rattle.macho_consumed.specs.steps.Entries.{unwind_relocation_fits, NamesSection, StartFound, StartBreaks, DataFound, DataBreaks, PersonalityFound, PersonalityBreaks, PointersBreak, EntryBreaks, is_clear, at_place, read_entry, data_fits, EntryFits, HasPointers, IsPointer, IsAddress, row_in}
use Rattle.macho_consumed.proofs.Members.{in_filter}
use Rattle.macho_consumed.proofs.Tests.{one_fails}
use Rattle.macho_consumed.proofs.InSlots.{in_cell}
use Rattle.macho_bytes.proofs.Bools.{and_both}
use Rattle.macho_bytes.proofs.Members.{contains_filter, range_contains, passes_each}
use Rattle.macho_model.proofs.FixedPointers.{none_and}

-- the cells of an entry
cell_at : (b : List ℕ) (k e place at : ℕ) (cells : List Cell) → IsTable b k (section_at b k).nreloc cells → at < length cells
    → 8 * at ≡ 32 * e + place → CellTells (at_place b k e place) (get_or cells at Empty)
unfolding found
cell_at b k e place at cells table lt same =
    subst (λ (a : ℕ). CellTells (found b k (section_at b k).nreloc a) (get_or cells at Empty)) same (table.cell at lt)

pub small_address : (at : ℕ) → IsAddress (8 * at) → at < 4
small_address at (inl is) = omega (arith, is)
small_address at (inr (inl is)) = omega (arith, is)
small_address at (inr (inr is)) = omega (arith, is)

-- what a cell tells of an address
pub cell_tells : (b : List ℕ) (k e at : ℕ) (cells : List Cell) (cell : Cell) → IsTable b k (section_at b k).nreloc cells
    → 4 * e + 4 ≤ length cells → at < 4 → get_or cells (4 * e + at) Empty ≡ cell → CellTells (at_place b k e (8 * at)) cell
cell_tells b k e at cells cell table lt small is =
    subst (CellTells (at_place b k e (8 * at))) is (cell_at b k e (8 * at) (4 * e + at) cells table (omega arith) (omega arith))

pub cell_inside : (b : List ℕ) (k e at r : ℕ) (cells : List Cell) → IsTable b k (section_at b k).nreloc cells
    → 4 * e + 4 ≤ length cells → at < 4 → get_or cells (4 * e + at) Empty ≡ One r → r < (section_at b k).nreloc
cell_inside b k e at r cells table lt small is = in_cell b k (section_at b k).nreloc (8 * (4 * e + at)) r (get_or cells (4 * e + at) Empty)
    (table.cell (4 * e + at) (omega arith)) is

-- a relocation at 8 of an entry
pub between_of : (b : List ℕ) (k e r : ℕ) → Contains (at_place b k e 8) r → keeps (alone b) (own k) e U2 ≡ false
between_of b k e r at =
    let hit = in_filter (λ q. eqb (relocation_at b k q).r_address (32 * e + 8)) (range_with_len 0 (section_at b k).nreloc) r at in
    let address : (relocation_at b k r).r_address ≡ 32 * e + 8 = grind (arith, nat_tests, hit.0) in
    let mine : eqb ((relocation_at b k r).r_address / 32) e ≡ true = eq-eqb _ _ (omega (arith, address)) in
    let place : (relocation_at b k r).r_address % 32 ≡ 8 = omega (arith, address) in
    one_fails (unwind_relocation_fits (alone b) (own k)) (filter (λ q. eqb ((relocation_at b k q).r_address / 32) e) (range_with_len 0
    (section_at b k).nreloc)) r
    (contains_filter (λ q. eqb ((relocation_at b k q).r_address / 32) e) (range_with_len 0 (section_at b k).nreloc) r hit.1 mine)
    (none_and (is_plain_pointer (relocation_at b k r)) _ (ap (λ (n : ℕ). list_any (λ p. n == p) ADDRESS_PLACES) place))

-- a pointer of an address is plain
plain_at : (b : List ℕ) (k r : ℕ) (xs : List ℕ) (c : Option ℕ) → xs ≡ option_to_list c → IsPointer b k c → Contains xs r
    → is_plain_pointer (relocation_at b k r) ≡ true
plain_at b k r xs None is pointer (i, lt, at) = absurd (omega (arith, lt, ap length is))
plain_at b k r xs (Some q) is pointer (i, lt, at) =
    let one : length xs ≡ 1 = ap length is in
    let first : i ≡ 0 = omega (arith, lt, one) in
    let same : q ≡ r = sym (ap (λ (ys : List ℕ). get_or ys 0 r) is) ∙ ap (λ (m : ℕ). get_or xs m r) (sym first) ∙ at in
    subst (λ (m : ℕ). is_plain_pointer (relocation_at b k m) ≡ true) same pointer.1

no_relocation : (xs : List ℕ) (r : ℕ) → xs ≡ [] → Contains xs r → ⊥
no_relocation xs r is (i, lt, at) = absurd (omega (arith, lt, ap length is))

-- each relocation of the entry is at one of the addresses
pub all_placed : (b : List ℕ) (k e : ℕ) (c0 c2 c3 : Option ℕ) → HasPointers b k e c0 c2 c3
    → NoneBelow b k (section_at b k).nreloc (32 * e + 32) → keeps (alone b) (own k) e U2 ≡ true
all_placed b k e c0 c2 c3 has aligned =
    passes_each (unwind_relocation_fits (alone b) (own k)) (filter (λ q. eqb ((relocation_at b k q).r_address / 32) e) (range_with_len 0
    (section_at b k).nreloc))
    (λ r c.
    let hit = in_filter (λ q. eqb ((relocation_at b k q).r_address / 32) e) (range_with_len 0 (section_at b k).nreloc) r c in
    let entry : (relocation_at b k r).r_address / 32 ≡ e = grind (arith, nat_tests, hit.0) in
    let below = range_contains (section_at b k).nreloc r hit.1 in
    let zero = aligned r below (omega (arith, entry)) in
    let eight : (relocation_at b k r).r_address % 8 ≡ 0 = grind (arith, nat_tests, zero) in
    by r hit.1 entry eight (eqb ((relocation_at b k r).r_address % 32) 0) refl (eqb ((relocation_at b k r).r_address % 32) 16) refl (eqb
    ((relocation_at b k r).r_address % 32) 24) refl)
  where
    at_place_of : (r place : ℕ) → Contains (range_with_len 0 (section_at b k).nreloc) r → (relocation_at b k r).r_address ≡ 32 * e + place
        → Contains (at_place b k e place) r
    at_place_of r place there is =
        contains_filter (λ q. eqb (relocation_at b k q).r_address (32 * e + place)) (range_with_len 0 (section_at b k).nreloc) r there
        (eq-eqb _ _ is)

    by : (r : ℕ) → Contains (range_with_len 0 (section_at b k).nreloc) r → (relocation_at b k r).r_address / 32 ≡ e
        → (relocation_at b k r).r_address % 8 ≡ 0 → (t : Bool) → eqb ((relocation_at b k r).r_address % 32) 0 ≡ t
        → (u : Bool) → eqb ((relocation_at b k r).r_address % 32) 16 ≡ u → (v : Bool) → eqb ((relocation_at b k r).r_address % 32) 24 ≡ v
        → unwind_relocation_fits (alone b) (own k) r ≡ true
    by r there entry eight true p u q v s =
        let z : (relocation_at b k r).r_address % 32 ≡ 0 = eqb-true _ _ p in
        and_both _ _ (plain_at b k r _ c0 has.start_at.list has.start_at.pointer (at_place_of r 0 there (omega (arith, z, entry))))
        (rw p refl)
    by r there entry eight false p true q v s =
        let z : (relocation_at b k r).r_address % 32 ≡ 16 = eqb-true _ _ q in
        and_both _ _ (plain_at b k r _ c2 has.personality_at.list has.personality_at.pointer
        (at_place_of r 16 there (omega (arith, z, entry))))
        (rw (p, q) refl)
    by r there entry eight false p false q true s =
        let z : (relocation_at b k r).r_address % 32 ≡ 24 = eqb-true _ _ s in
        and_both _ _ (plain_at b k r _ c3 has.lsda_at.list has.lsda_at.pointer (at_place_of r 24 there (omega (arith, z, entry))))
        (rw (p, q, s) refl)
    by r there entry eight false p false q false s =
        let x : (relocation_at b k r).r_address % 32 ≢ 0 = grind (arith, nat_tests, p) in
        let y : (relocation_at b k r).r_address % 32 ≢ 16 = grind (arith, nat_tests, q) in
        let z : (relocation_at b k r).r_address % 32 ≢ 24 = grind (arith, nat_tests, s) in
        absurd (no_relocation _ r has.between_at (at_place_of r 8 there (omega (arith, x, y, z, eight, entry))))

few : (c : Option ℕ) → nat_le (length (option_to_list c)) 1 ≡ true
few None = refl
few (Some r) = refl

pub all_single : (b : List ℕ) (k e : ℕ) (c0 c2 c3 : Option ℕ) → HasPointers b k e c0 c2 c3 → keeps (alone b) (own k) e U3 ≡ true
all_single b k e c0 c2 c3 has =
    rw (has.start_at.list, has.personality_at.list, has.lsda_at.list)
    (and_both _ _ (few c0) (and_both _ _ (few c2) (and_both _ _ (few c3) refl)))

-- an address without a relocation is 0
abbrev pub absent_is_zero : List ℕ → ℕ → Bool
absent_is_zero relocations word = not (length relocations == 0) || (word == 0)

-- the start of a function
pub record StartKept (b : List ℕ) (k e : ℕ) (place : SectionPlace) : Type 0 where
  pub fits : keeps (alone b) (own k) e U4 ≡ true
  pub inside : keeps (alone b) (own k) e U5 ≡ true
  pub is : start_place (alone b) (record { of_section = own k; entry = e }) (relocation_of (alone b)
      (record { of_section = own k; entry = e }) START_PLACE) ≡ place
  pub there : absent_is_zero (at_place b k e START_PLACE) (read_entry b k e).start ≡ true

pub start_kept : (b : List ℕ) (k e : ℕ) (c : Option ℕ) (place : SectionPlace) → at_place b k e START_PLACE ≡ option_to_list c
    → StartFound b (read_entry b k e) (option_map (relocation_at b k) c) place → StartKept b k e place
start_kept b k e None place is found = absurd found
start_kept b k e (Some r) place is found = record {
  fits = rw is (rw (found.by_number, found.holds) refl);
  inside = rw is (rw found.by_number (rw found.inside refl));
  is = rw is (sym found.is);
  there = rw is refl;
}

-- the personality function
pub record PersonalityKept (b : List ℕ) (k e : ℕ) (told : Option PersonalityUse) : Type 0 where
  pub fits : list_all (λ r. (relocation_at b k r).r_extern) (at_place b k e PERSONALITY_PLACE) ≡ true
  pub is : option_map (personality_use (alone b) (record { of_section = own k; entry = e })) (relocation_of (alone b)
      (record { of_section = own k; entry = e }) PERSONALITY_PLACE) ≡ told
  pub there : absent_is_zero (at_place b k e PERSONALITY_PLACE) (read_entry b k e).personality ≡ (is_some told ||
      ((read_entry b k e).personality == 0))

pub personality_kept : (b : List ℕ) (k e : ℕ) (c : Option ℕ) (told : Option PersonalityUse)
    → at_place b k e PERSONALITY_PLACE ≡ option_to_list c
    → PersonalityFound b k c told → PersonalityKept b k e told
personality_kept b k e None told is found = record { fits = rw is refl; is = rw is (sym found); there = rw (is, found) refl }
personality_kept b k e (Some r) told is found = record {
  fits = rw is (rw found.0 refl);
  is = rw is (sym found.1);
  there = rw (is, found.1) refl;
}

-- the language data
pub record DataKept (b : List ℕ) (k e : ℕ) (told : Option SectionPlace) : Type 0 where
  pub fits : list_all (λ r. data_fits b (read_entry b k e).lsda (relocation_at b k r)) (at_place b k e LSDA_PLACE) ≡ true
  pub is : option_map (place_named (alone b) (own k) (read_entry b k e).lsda) (relocation_of (alone b)
      (record { of_section = own k; entry = e }) LSDA_PLACE) ≡ told
  pub there : absent_is_zero (at_place b k e LSDA_PLACE) (read_entry b k e).lsda ≡ (is_some told || ((read_entry b k e).lsda == 0))

pub data_kept : (b : List ℕ) (k e : ℕ) (c : Option ℕ) (told : Option SectionPlace) → at_place b k e LSDA_PLACE ≡ option_to_list c
    → DataFound b (read_entry b k e).lsda (option_map (relocation_at b k) c) told → DataKept b k e told
data_kept b k e None told is found = record { fits = rw is refl; is = rw is (sym found); there = rw (is, found) refl }
data_kept b k e (Some r) told is found = record {
  fits = rw is (rw found.0 refl);
  is = rw is (sym found.1);
  there = rw (is, found.1) refl;
}

-- the words without relocations
pub clear_is : (b : List ℕ) (k e : ℕ) (place : SectionPlace) (p : Option PersonalityUse) (d : Option SectionPlace)
    → StartKept b k e place → PersonalityKept b k e p
    → DataKept b k e d → keeps (alone b) (own k) e U8 ≡ is_clear (read_entry b k e) (is_some p) (is_some d)
clear_is b k e place p d start personality lsda = rw (start.there, personality.there, lsda.there) (regroup (bits 28 2
    (read_entry b k e).encoding == 0) _ _)
  where
    regroup : (t u v : Bool) → (t && (true && (u && (v && true)))) ≡ ((t && u) && v)
    regroup true true true = refl
    regroup true true false = refl
    regroup true false v = refl
    regroup false u v = refl

-- the whole entry
pub entry_fits : (b : List ℕ) (k e : ℕ) (c0 c2 c3 : Option ℕ) (place : SectionPlace) (p : Option PersonalityUse) (d : Option SectionPlace)
    → HasPointers b k e c0 c2 c3 → NoneBelow b k (section_at b k).nreloc (32 * e + 32) → StartKept b k e place → PersonalityKept b k e p
    → DataKept b k e d
    → is_clear (read_entry b k e) (is_some p) (is_some d) ≡ true → EntryFits b k e
entry_fits b k e c0 c2 c3 place p d has aligned start personality lsda clear = record {
  placed = all_placed b k e c0 c2 c3 has aligned;
  single = all_single b k e c0 c2 c3 has;
  start = start.fits;
  inside = start.inside;
  links = and_both _ _ personality.fits lsda.fits;
  clear = clear_is b k e place p d start personality lsda ∙ clear;
}

pub row_is : (b : List ℕ) (file k e : ℕ) (place : SectionPlace) (p : Option PersonalityUse) (d : Option SectionPlace)
    (words : UnwindInfoEntry) → StartKept b k e place
    → PersonalityKept b k e p → DataKept b k e d → words ≡ read_entry b k e
    → record {
      file = file;
      section = k;
      entry = e;
      start = place;
      length = words.length;
      encoding = words.encoding;
      personality = p;
      lsda = d;
    } ≡ row_in b file k e
unfolding entry_row
row_is b file k e place p d words start personality lsda is = rw (start.is, personality.is, lsda.is, is) refl

-- What was found of an entry: its words, its three relocations, and where they lead.
pub record IsGathered (b : List ℕ) (k e : ℕ) (words : UnwindInfoEntry) (place : SectionPlace) (p : Option PersonalityUse)
    (d : Option SectionPlace) : Type 0 where
  pub read : words ≡ read_entry b k e
  pub pointers : (c0 : Option ℕ) × (c2 : Option ℕ) × (c3 : Option ℕ) × HasPointers b k e c0 c2 c3
  pub start : StartKept b k e place
  pub personality : PersonalityKept b k e p
  pub lsda : DataKept b k e d

pub gathered : (b : List ℕ) (k e : ℕ) (c0 c2 c3 : Option ℕ) (words : UnwindInfoEntry) (r0 r3 : Option RelocationInfo)
    (place : SectionPlace) (p : Option PersonalityUse)
    (d : Option SectionPlace) → HasPointers b k e c0 c2 c3 → words ≡ read_entry b k e
    → r0 ≡ option_map (relocation_at b k) c0
    → r3 ≡ option_map (relocation_at b k) c3 → StartFound b words r0 place → PersonalityFound b k c2 p → DataFound b words.lsda r3 d
    → IsGathered b k e words place p d
gathered b k e c0 c2 c3 words r0 r3 place p d has read is0 is3 start personality lsda = record {
  read = read;
  pointers = (c0, c2, c3, has);
  start = start_kept b k e c0 place has.start_at.list
      (subst (λ (w : UnwindInfoEntry). StartFound b w (option_map (relocation_at b k) c0) place) read (subst (λ
      (r : Option RelocationInfo). StartFound b words r place) is0 start));
  personality = personality_kept b k e c2 p has.personality_at.list personality;
  lsda = data_kept b k e c3 d has.lsda_at.list
      (subst (λ (w : UnwindInfoEntry). DataFound b w.lsda (option_map (relocation_at b k) c3) d) read (subst (λ
      (r : Option RelocationInfo). DataFound b words.lsda r d) is3 lsda));
}

pub gathered_fits : (b : List ℕ) (k e : ℕ) (words : UnwindInfoEntry) (place : SectionPlace) (p : Option PersonalityUse)
    (d : Option SectionPlace)
    → IsGathered b k e words place p d → NoneBelow b k (section_at b k).nreloc (32 * e + 32)
    → true ≡ is_clear words (is_some p) (is_some d) → EntryFits b k e
gathered_fits b k e words place p d g aligned clear =
    entry_fits b k e g.pointers.0 g.pointers.1 g.pointers.2 place p d g.pointers.3 aligned g.start g.personality g.lsda
    (sym (clear ∙ ap (λ (w : UnwindInfoEntry). is_clear w (is_some p) (is_some d)) g.read))

pub gathered_row : (b : List ℕ) (file number k e : ℕ) (words : UnwindInfoEntry) (place : SectionPlace) (p : Option PersonalityUse)
    (d : Option SectionPlace)
    → IsGathered b k e words place p d → number ≡ k
    → record {
      file = file;
      section = number;
      entry = e;
      start = place;
      length = words.length;
      encoding = words.encoding;
      personality = p;
      lsda = d;
    } ≡ row_in b file k e
gathered_row b file number k e words place p d g same =
    subst (λ (n : ℕ). record {
      file = file;
      section = n;
      entry = e;
      start = place;
      length = words.length;
      encoding = words.encoding;
      personality = p;
      lsda = d;
    } ≡ row_in b file k e)
    (sym same) (row_is b file k e place p d words g.start g.personality g.lsda g.read)
