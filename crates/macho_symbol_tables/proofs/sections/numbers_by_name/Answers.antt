-- The header in front of the last ones is put in, or passed over where the linker makes its section.
use Rattle.std.proofs.Common.{◌≡◌, ◌+◌, ◌-◌, ◌<◌, List, [], length, get_or, cond, Some, refl, sym, ap, ◌∙◌, arith}
use Rattle.std.proofs.lemmas.List.{get_or_default}
use Rattle.indexmap.specs.IndexMap.{get}
use Rattle.macho_records.specs.declared.header.SectionHeader.{SectionHeader}
use Rattle.macho_layout.specs.Keys.{same_output}
use Rattle.macho_layout.specs.Placements.{placed_of}
use Rattle.macho_layout.specs.declared.spec.OutputName.{OutputName}
use Rattle.macho_symbol_tables.proofs.ByName.{finds_none, finds_all, finds_more, finds_kept}
use Rattle.macho_symbol_tables.proofs.sections.numbers_by_name.Goals as goal
use Rattle.macho_symbol_tables.proofs.sections.numbers_by_name.Goals.{then-not-is_made+in_ok-insert, else-not-is_made}

abbrev no_header : SectionHeader
no_header = record {
  sectname = [];
  segname = [];
  addr = 0;
  size = 0;
  offset = 0;
  align = 0;
  reloff = 0;
  nreloc = 0;
  flags = 0;
  reserved1 = 0;
  reserved2 = 0;
  reserved3 = 0;
}

pub loop-done-init : goal.loop-done-init
loop-done-init c =
    finds_none (placed_of c.args.placement.now) (length c.args.placement.now.output_sections.items - 0)
    (get same_output c.new-numbers.result)
    (omega arith) (λ q. search)

pub loop-done-preserved : goal.loop-done-preserved
loop-done-preserved c =
    let p = placed_of c.args.placement.now in
    let hs = c.as_slice-headers.result.now in
    let many = length p.output_sections in
    let long : length hs ≡ many = ap (λ (xs : List SectionHeader). length xs) c.as_slice-headers.ensures.value in
    let done = c.loop-done.done in
    let index = length hs - 1 - done in
    let header = get_or hs index no_header in
    let within : index < length hs = omega (arith, c.loop-done-test.true) in
    let there : header ≡ get_or hs index header = get_or_default hs index no_header header within in
    let at : many - (done + 1) ≡ index = omega (arith, long) in
    let behind : many - done ≡ index + 1 = omega (arith, long, c.loop-done-test.true) in
    let was = get same_output c.loop-done.numbers in
    elim c.if-not-is_made.branch [
      | then-not-is_made+in_ok-insert w ↦
          rw w.numbers-is
          (finds_more p hs index (many - (done + 1)) (many - done) (index + 1) header was (get same_output w.insert.new.self)
          c.as_slice-headers.ensures.value within there at behind refl c.loop-done.invariant (sym c.is_made.ensures ∙ w.if-not-is_made.true)
          (λ q. w.in_ok-insert.ensures.updates.0 q
          ∙ ap (λ (x : OutputName). cond (same_output x q) (Some (index + 1)) (was q)) w.merged_by.ensures))
      | else-not-is_made w ↦
          rw w.numbers-is
          (finds_kept p hs index (many - (done + 1)) (many - done) header was c.as_slice-headers.ensures.value within there at behind
          c.loop-done.invariant (sym c.is_made.ensures ∙ w.if-not-is_made.false))
    ]

pub returns : goal.returns
returns c =
    finds_all (placed_of c.args.placement.now) (length c.args.placement.now.output_sections.items - c.loop-done.done)
    (get same_output c.loop-done.numbers) (omega arith) c.loop-done.invariant
