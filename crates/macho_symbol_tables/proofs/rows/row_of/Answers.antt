-- The row is made of the symbol's entry, its name, its section and its address, all of which are the link's.
use Rattle.std.proofs.Common.{◌≡◌, ◌<◌, List, ℕ, sym, ap, subst, ◌∙◌}
use Rattle.macho_records.specs.Symbols.{is_global}
use Rattle.macho_model.specs.Objects.{num_symbols, symbol_at}
use Rattle.macho_model.specs.Exports.{is_listed}
use Rattle.macho_symbols.specs.Kept.{symbol_id}
use Rattle.macho_fields.specs.Looks.{wrapped_in}
use Rattle.macho_symbol_names.proofs.Entries.{some_if}
use Rattle.macho_symbol_tables.specs.steps.Sections.{section_told}
use Rattle.macho_symbol_tables.proofs.TableRows.{in_table}
use Rattle.macho_symbol_tables.proofs.RowParts.{section_seen, address_seen}
use Rattle.macho_symbol_tables.proofs.rows.row_of.Goals as goal

pub name-name-requires : goal.name-name-requires
name-name-requires g c = (c.args.symbol.symbol, (some_if _ _ _ c.in-Some.ensures).1, c.requires.size)

pub returns : goal.returns
returns g c l counts p numbers commons is =
    let look = g.P.Places.look c.args.places.now in
    let o = c.args.object.now in
    let can = c.requires.symbol in
    let index = c.args.symbol.symbol in
    let entry : c.in-Some.entry ≡ symbol_at o.file.bytes index = (some_if _ _ _ c.in-Some.ensures).1 in
    let name = c.name-name.ensures index entry in
    let in_it = in_table l (symbol_id o.number index) is.listed in
    c.table_row.ensures l counts p o index entry (record {
      bytes_are = is.bytes_are;
      name_is = name;
      listed_is = λ global. c.is_listed-is_listed.ensures l is.lists_are (ap is_global entry ∙ global) ∙ ap (is_listed l) name;
      section_is =
          c.section_of_symbol-section.ensures p o.file numbers commons
          ∙ ap (section_told p o.file) entry
          ∙ section_seen l counts p look o index is.link is.bytes_are can.kind in_it;
      address_is =
          c.address_of-address.ensures.wrapped ∙ ap (wrapped_in look) c.target.ensures
          ∙ address_seen l counts p look o.number index is.link
          (subst (λ (b : List ℕ). index < num_symbols b) (sym is.bytes_are) can.among) in_it;
    })
