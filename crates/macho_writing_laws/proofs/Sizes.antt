-- The ranges that a placement keeps have just the room that a link's parts take.
--
-- Each has as many bytes as were counted, and what was counted is what the link has. A table of rows has an entry for each symbol,
-- and strings of a NUL and each name with its NUL. A run asks for each slot, and for each pointer of each placed section, which are
-- the carried ones in order.
use Rattle.std.proofs.Common.{◌≡◌, ℕ, suc, ◌+◌, ◌-◌, List, [], ◌∷◌, ◌++◌, map, length, refl, sym, ap, ◌∙◌, arith, replicate}
use Rattle.std.specs.Prelude.{filter, sum_by}
use Rattle.std.specs.List.{flat_map}
use Rattle.std.proofs.lemmas.List.{length-map, length-append}
use Rattle.std.proofs.lemmas.List.Concat.{length-flat_map}
use Rattle.std.proofs.lemmas.List.Sorted.{length_permutation}
use Rattle.std.proofs.lemmas.List.Sums.{sum_by-cons}
use Rattle.macho_bytes.specs.Numbers.{rounded_up}
use Rattle.macho_model.specs.declared.placed.Counts.{Counts}
use Rattle.macho_model.specs.declared.placed.PlacedSection.{PlacedSection}
use Rattle.macho_model.specs.declared.placed.Slot.{Slot}
use Rattle.macho_model.specs.Links.{Link, SectionId, carried_of}
use Rattle.macho_model.specs.Resolution.{SymbolId, name_at}
use Rattle.macho_model.specs.Targets.{slots_of}
use Rattle.macho_model.specs.Fields.{Field, fields_of}
use Rattle.macho_model.specs.Faults.{last_part}
use Rattle.macho_model.specs.Made.{initializers_of}
use Rattle.macho_model.specs.Signature.{identifier_text}
use Rattle.macho_model.specs.SymbolTable.{table_symbols}
use Rattle.macho_linkedit.specs.TableRows.{SymbolRow, row_of, symbol_rows}
use Rattle.macho_model.specs.ImportTable.{fixup_count}
use Rattle.macho_model.specs.Values.{needs_fixup}
use Rattle.macho_model.specs.Placement.{Placed, id_of}
use Rattle.macho_model.specs.Spans.{range_span, piece}
use Rattle.macho_model.specs.steps.Outputs.{POINTER_EXPONENT}
use Rattle.macho_promise.specs.Sizes.{AreCounts, counts_with, unwind_size, text_size}
use Rattle.macho_promise.specs.Asked.{field_fixup, slot_fixup, fixups_in, fixups_asked}
use Rattle.macho_layout_laws.specs.Laws.{IsWhollyPlaced}
use Rattle.macho_signature.specs.Sizes.{identifier_size}
use Rattle.macho_linkedit.specs.Symbols.{entries_from, strings_of_rows}
use Rattle.macho_writing_laws.specs.Sizes.{RangesSuffice, SymbolsFill, SignaturesFill, RunsAreCounted}
use Rattle.macho_linkedit.proofs.Rows.{entries_many}
use Rattle.macho_promise.proofs.Counted.{initializers_counted, unwind_counted, identifier_counted}
use Rattle.macho_promise.proofs.FixupCounts.{fixups_in_section}
use Rattle.macho_signature.proofs.Texts.{length-identifier}

symbols_counted : (l : Link) (counts : Counts) → AreCounts l counts → counts.symbols ≡ length (table_symbols l)
unfolding counts_with
symbols_counted l counts are = ap (λ (c : Counts). c.symbols) are.are

strings_counted : (l : Link) (counts : Counts) → AreCounts l counts
    → counts.strings ≡ 1 + sum_by (λ s. text_size (name_at l s)) (table_symbols l)
unfolding counts_with
strings_counted l counts are = ap (λ (c : Counts). c.strings) are.are

-- strings begin where symbols end
strings_behind : (l : Link) (counts : Counts) (p : Placed) → IsWhollyPlaced l counts p → p.linkedit.strtab.start ≡ p.linkedit.symtab.end
strings_behind l counts p whole =
    let next = whole.least.tables 3 (piece POINTER_EXPONENT (range_span p.linkedit.symtab)) (piece 0 (range_span p.linkedit.strtab))
    (omega arith, refl) (omega arith, refl) in
    omega (arith, next, whole.least.rooms.symbols)

pub ranges_suffice : RangesSuffice
ranges_suffice l counts p whole are =
    let rooms = whole.least.rooms in
    record {
      initializers = omega (arith, rooms.initializers, initializers_counted l counts are);
      unwind = omega (arith, rooms.unwind, unwind_counted l counts are);
      trie = rooms.trie;
      symbols = omega (arith, rooms.symbols, symbols_counted l counts are);
      behind = strings_behind l counts p whole;
      strings = omega (arith, rooms.strings, strings_counted l counts are);
    }

names_long : (rows : List SymbolRow)
    → sum_by (λ (r : SymbolRow). length (r.name ++ 0 ∷ [])) rows ≡ sum_by (λ (r : SymbolRow). text_size r.name) rows
names_long [] = refl
names_long (r ∷ rows) =
    omega (
      arith,
      names_long rows,
      length-append r.name (0 ∷ []),
      sum_by-cons (λ (x : SymbolRow). length (x.name ++ 0 ∷ [])) r rows,
      sum_by-cons (λ (x : SymbolRow). text_size x.name) r rows,
    )

names_of_rows : (l : Link) (counts : Counts) (p : Placed) (ss : List SymbolId)
    → sum_by (λ (r : SymbolRow). text_size r.name) (map (row_of l counts p) ss) ≡ sum_by (λ s. text_size (name_at l s)) ss
names_of_rows l counts p [] = refl
names_of_rows l counts p (s ∷ ss) =
    omega (
      arith,
      names_of_rows l counts p ss,
      sum_by-cons (λ (r : SymbolRow). text_size r.name) (row_of l counts p s) (map (row_of l counts p) ss),
      sum_by-cons (λ (t : SymbolId). text_size (name_at l t)) s ss,
    )

strings_long : (l : Link) (counts : Counts) (p : Placed)
    → length (strings_of_rows (symbol_rows l counts p)) ≡ 1 + sum_by (λ s. text_size (name_at l s)) (table_symbols l)
unfolding symbol_rows
strings_long l counts p =
    let rows : List SymbolRow = map (row_of l counts p) (table_symbols l) in
    let all = length-flat_map (λ (r : SymbolRow). r.name ++ 0 ∷ []) rows ∙ names_long rows ∙ names_of_rows l counts p (table_symbols l) in
    omega (arith, all)

rows_many : (l : Link) (counts : Counts) (p : Placed) → length (symbol_rows l counts p) ≡ length (table_symbols l)
unfolding symbol_rows
rows_many l counts p = length-map (table_symbols l) (row_of l counts p)

pub symbols_fill : SymbolsFill
symbols_fill l counts p t whole are has =
    let kept = ranges_suffice l counts p whole are in
    let many : length t.entries ≡ length (table_symbols l) =
    ap length has.entries_are ∙ entries_many 1 (symbol_rows l counts p) ∙ rows_many l counts p in
    let long : length t.strings ≡ 1 + sum_by (λ s. text_size (name_at l s)) (table_symbols l) =
    ap length has.strings_are ∙ strings_long l counts p in
    record {
      many = many ∙ sym (symbols_counted l counts are);
      long = long ∙ sym (strings_counted l counts are);
      symbols = omega (arith, kept.symbols, many);
      behind = omega (arith, kept.behind, kept.symbols, many);
      strings = omega (arith, kept.strings, long);
    }

pub signatures_fill : SignaturesFill
signatures_fill l counts p signer whole are signs =
    let name : length signer.identifier.now ≡ length (last_part l.output) = ap length signs.name in
    let long : counts.identifier ≡ identifier_size (length signer.identifier.now) =
    identifier_counted l counts are ∙ length-identifier (last_part l.output) ∙ ap identifier_size (sym name) in
    omega (arith, whole.least.rooms.signature, long)

in_sections : (l : Link) (p : Placed) (qs : List PlacedSection)
    → length (flat_map (fixups_in l p) qs) ≡ length (flat_map (λ s. filter (needs_fixup l s) (fields_of l s)) (map id_of qs))
in_sections l p [] = refl
in_sections l p (q ∷ qs) =
    let pointers : SectionId → List Field = λ s. filter (needs_fixup l s) (fields_of l s) in
    omega (
      arith,
      fixups_in_section l p q,
      in_sections l p qs,
      length-append (fixups_in l p q) (flat_map (fixups_in l p) qs),
      length-append (pointers (id_of q)) (flat_map pointers (map id_of qs)),
    )

pub runs_counted : RunsAreCounted
unfolding fixups_asked fixup_count
runs_counted l counts p run whole same =
    let pointers : SectionId → List Field = λ s. filter (needs_fixup l s) (fields_of l s) in
    let slots : length p.slots ≡ length (slots_of l) =
    sym (length-map p.slots (λ (s : Slot). s.target)) ∙ ap length whole.placed.whole_list.slots in
    let sections : length (flat_map (fixups_in l p) p.sections) ≡ length (flat_map pointers (carried_of l)) =
    in_sections l p p.sections ∙ ap (λ (ids : List SectionId). length (flat_map pointers ids)) whole.order.sections in
    let asked = length-append (map (slot_fixup l p) p.slots) (flat_map (fixups_in l p) p.sections) in
    let many = length-map p.slots (slot_fixup l p) in
    length_permutation (fixups_asked l p) run same ∙ omega (arith, asked, many, slots, sections)
