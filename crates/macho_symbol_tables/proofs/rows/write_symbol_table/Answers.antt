-- The object of each symbol is there, and can have the symbol's row; its sections' numbers stand at its place. That row is the next one of
-- the table, and there is room for it, since all names were counted.
use Rattle.std.proofs.Common.{◌≡◌, ◌<◌, ℕ, List, [], length, get_or, sym, ap, subst, ◌∙◌, arith}
use Rattle.std.specs.Option.{option_copied}
use Rattle.macho_model.specs.Objects.{num_symbols, symbol_name}
use Rattle.macho_layout.specs.Placements.{placed_of}
use Rattle.macho_bytes.proofs.Members.{all_contains}
use Rattle.macho_linkedit.specs.declared.listing.LinkedObject.{LinkedObject}
use Rattle.macho_linkedit.specs.declared.listing.TableSymbol.{TableSymbol}
use Rattle.macho_linkedit.specs.Listing.{id_of_symbol}
use Rattle.macho_linkedit.specs.Symbols.{row_seen, AreRowsWritten}
use Rattle.macho_symbol_tables.proofs.TableRows.{in_table}
use Rattle.macho_symbol_tables.proofs.Objects.{objects_rise, object_there, object_is, row_rests}
use Rattle.macho_symbol_tables.proofs.ListedRows.{item_listed, item_long, rows_to, next_row, row_fits, table_more, table_whole}
use Rattle.macho_symbol_tables.proofs.SectionNumbers.{numbers_of_object}
use Rattle.macho_symbol_tables.proofs.rows.write_symbol_table.Goals as goal

abbrev none : TableSymbol
none = record { file = 0; symbol = 0; length = 0 }

pub place_from-place-requires-clause-rise : goal.place_from-place-requires-clause-rise
place_from-place-requires-clause-rise g c = objects_rise c.requires.link.0 c.args.objects.now c.requires.link.2.objects_are

pub place_from-place-requires-clause-there : goal.place_from-place-requires-clause-there
place_from-place-requires-clause-there g c =
    let some = c.requires.link in
    let s = get_or c.as_slice-symbol-items.result.now c.loop-symbol.symbol-index none in
    let listed = item_listed some.0 c.args.listed.now c.as_slice-symbol-items.result.now c.loop-symbol.symbol-index none some.2.listed_are
    c.as_slice-symbol-items.ensures.value c.loop-symbol-test.true in
    object_there some.0 c.args.objects.now (id_of_symbol s) some.2.objects_are (in_table some.0 (id_of_symbol s) listed).there

pub row_of-row-requires-clause-symbol : goal.row_of-row-requires-clause-symbol
row_of-row-requires-clause-symbol g c =
    let some = c.requires.link in
    let s = get_or c.as_slice-symbol-items.result.now c.loop-symbol.symbol-index none in
    let listed = item_listed some.0 c.args.listed.now c.as_slice-symbol-items.result.now c.loop-symbol.symbol-index none some.2.listed_are
    c.as_slice-symbol-items.ensures.value c.loop-symbol-test.true in
    (row_rests some.0 some.1 (placed_of c.args.placement.now) (g.P.Places.look c.args.places.now) c.args.objects.now c.args.listed.now
    (option_copied c.args.lists) c.place_from-place.result c.index-objects-place.result (id_of_symbol s) some.2 listed
    c.place_from-place.ensures c.index-objects-place.is).0

pub row_of-row-requires-clause-known : goal.row_of-row-requires-clause-known
row_of-row-requires-clause-known g c =
    let some = c.requires.link in
    let s = get_or c.as_slice-symbol-items.result.now c.loop-symbol.symbol-index none in
    let listed = item_listed some.0 c.args.listed.now c.as_slice-symbol-items.result.now c.loop-symbol.symbol-index none some.2.listed_are
    c.as_slice-symbol-items.ensures.value c.loop-symbol-test.true in
    let can = (row_rests some.0 some.1 (placed_of c.args.placement.now) (g.P.Places.look c.args.places.now) c.args.objects.now
    c.args.listed.now
    (option_copied c.args.lists) c.place_from-place.result c.index-objects-place.result (id_of_symbol s) some.2 listed
    c.place_from-place.ensures c.index-objects-place.is).0 in
    all_contains (λ (o : LinkedObject). (k : ℕ) → k < num_symbols o.file.bytes → g.P.Places.has_symbol c.args.places.now o.number k)
    c.args.objects.now c.index-objects-place.result c.requires.symbols
    (c.place_from-place.result, c.place_from-place.ensures.within, sym c.index-objects-place.is) s.symbol can.among

pub row_of-row-requires-clause-size : goal.row_of-row-requires-clause-size
row_of-row-requires-clause-size g c =
    let some = c.requires.link in
    let now = c.as_slice-symbol-items.result.now in
    let s = get_or now c.loop-symbol.symbol-index none in
    item_long some.0 c.args.listed.now now c.loop-symbol.symbol-index none some.2.listed_are c.as_slice-symbol-items.ensures.value
    c.loop-symbol-test.true
    ∙ ap (λ (b : List ℕ). length (symbol_name b s.symbol))
    (object_is some.0 c.args.objects.now s.file c.place_from-place.result c.index-objects-place.result some.2.objects_are
    c.place_from-place.ensures c.index-objects-place.is)

pub begin-table-requires : goal.begin-table-requires
begin-table-requires g c = omega (arith, c.len.ensures, c.requires.room, c.requires.link.2.listed_are.strings_are)

pub push-requires : goal.push-requires
push-requires g c =
    let some = c.requires.link in
    let p = placed_of c.args.placement.now in
    let look = g.P.Places.look c.args.places.now in
    let now = c.as_slice-symbol-items.result.now in
    let n = c.loop-symbol.symbol-index in
    let s = get_or now n none in
    let listed = item_listed some.0 c.args.listed.now now n none some.2.listed_are c.as_slice-symbol-items.ensures.value
    c.loop-symbol-test.true in
    let rests = row_rests some.0 some.1 p look c.args.objects.now c.args.listed.now (option_copied c.args.lists) c.place_from-place.result
    c.index-objects-place.result (id_of_symbol s) some.2 listed c.place_from-place.ensures c.index-objects-place.is in
    let told = c.deref.ensures.value
    ∙ numbers_of_object p c.args.objects.now c.in_ok-numbers.numbers.objects.items c.place_from-place.result c.index-objects-place.result
    c.index.result.now c.in_ok-numbers.ensures.sections c.place_from-place.ensures.within c.index-objects-place.is c.index.ensures in
    let row = next_row some.0 some.1 p s c.args.objects.now c.place_from-place.result c.index-objects-place.result
    (row_seen c.row_of-row.result) c.place_from-place.ensures c.index-objects-place.is
    (c.row_of-row.ensures some.0 some.1 p told c.in_ok-numbers.ensures.commons rests.1) in
    let room = row_fits some.0 some.1 p c.args.listed.now now n none (row_seen c.row_of-row.result) c.loop-symbol.table c.args.out.now
    c.loop-symbol.out some.2.listed_are c.requires.short c.requires.room c.as_slice-symbol-items.ensures.value c.loop-symbol-test.true row
    (c.loop-symbol.invariant some.0 some.1 some.2) in
    record { short = room.short; entry = room.entry; name = room.behind }

pub loop-symbol-init : goal.loop-symbol-init
loop-symbol-init g c l counts to =
    let many : c.len.result ≡ length c.args.listed.now.symbols.items = omega (arith, c.len.ensures) in
    subst (λ (m : ℕ). AreRowsWritten m [] c.begin-table.result c.args.out.now c.begin-table.new.out) many c.begin-table.ensures.written

pub loop-symbol-preserved : goal.loop-symbol-preserved
loop-symbol-preserved g c l counts to =
    let p = placed_of c.args.placement.now in
    let look = g.P.Places.look c.args.places.now in
    let now = c.as_slice-symbol-items.result.now in
    let n = c.loop-symbol.symbol-index in
    let s = get_or now n none in
    let listed = item_listed l c.args.listed.now now n none to.listed_are c.as_slice-symbol-items.ensures.value c.loop-symbol-test.true in
    let rests = row_rests l counts p look c.args.objects.now c.args.listed.now (option_copied c.args.lists) c.place_from-place.result
    c.index-objects-place.result (id_of_symbol s) to listed c.place_from-place.ensures c.index-objects-place.is in
    let told = c.deref.ensures.value
    ∙ numbers_of_object p c.args.objects.now c.in_ok-numbers.numbers.objects.items c.place_from-place.result c.index-objects-place.result
    c.index.result.now c.in_ok-numbers.ensures.sections c.place_from-place.ensures.within c.index-objects-place.is c.index.ensures in
    table_more l counts p c.args.listed.now now n none (row_seen c.row_of-row.result) c.push.new.self c.args.out.now c.push.new.out
    c.as_slice-symbol-items.ensures.value c.loop-symbol-test.true
    (next_row l counts p s c.args.objects.now c.place_from-place.result c.index-objects-place.result (row_seen c.row_of-row.result)
    c.place_from-place.ensures c.index-objects-place.is
    (c.row_of-row.ensures l counts p told c.in_ok-numbers.ensures.commons rests.1))
    (c.push.ensures.written (length c.args.listed.now.symbols.items) (rows_to l counts p c.args.listed.now n) c.args.out.now
    (c.loop-symbol.invariant l counts to))

pub returns-clause-done : goal.returns-clause-done
returns-clause-done g c l counts to =
    table_whole l counts (placed_of c.args.placement.now) c.args.listed.now c.as_slice-symbol-items.result.now c.loop-symbol.symbol-index
    c.loop-symbol.table c.args.out.now c.loop-symbol.out to.listed_are c.as_slice-symbol-items.ensures.value c.loop-symbol-test.false
    (c.loop-symbol.invariant l counts to)
