-- A page is read exactly where the bytes have it whole.
--
-- The entry, its head and the count of its LSDA entries are those of the bytes: what was read is what stands at its place,
-- and the count is the difference of two LSDA places, divided by the size of an entry. So what the tests say of the records
-- read (the kind, the functions, the encodings and the LSDA entries inside the bytes) is said of the bytes' own. The other
-- way round, a page that the bytes have whole passes each test: so where a test fails they don't have it.
use Rattle.std.proofs.Common.{◌≡◌, ℕ, ◌/◌, ap, refl, ◌∙◌, rules, arith}
use Rattle.std.proofs.lemmas.Grind.{common_steps}
use Rattle.macho_unwind.specs.Sections.{lsda_count, IsWholePage}
use Rattle.macho_unwind.proofs.Reading.{page_is_read, page_is, lsdas_are, page_whole, page_was_whole}
use Rattle.macho_unwind.proofs.lookup.read_page.Goals as goal

pub returns-then-has_lsdas : goal.returns-then-has_lsdas
returns-then-has_lsdas c =
    let read = page_is_read c.args.bytes.now c.read_entry-entry.result.page_offset c.in_ok-head.head c.in_ok-head.ensures in
    let head = page_is c.args.bytes.now c.args.number c.read_entry-entry.result c.in_ok-head.head c.read_entry-entry.ensures read.is in
    let lsdas : c.saturating_sub-lsdas.result / 8 ≡ lsda_count c.args.bytes.now c.args.number =
    ap (λ (n : ℕ). n / 8) c.saturating_sub-lsdas.ensures
    ∙ lsdas_are c.args.bytes.now c.args.number c.read_entry-entry.result c.read_entry-next.result
    c.read_entry-entry.ensures c.read_entry-next.ensures in
    let whole : IsWholePage c.args.bytes.now c.read_entry-entry.result c.in_ok-head.head (c.saturating_sub-lsdas.result / 8) = record {
      head = read.whole;
      kind = c.if-head-eq-COMPRESSED.true;
      functions = c.is_whole-has_functions.ensures.0 (search rules);
      encodings = c.is_whole-has_encodings.ensures.0 (search rules);
      entries = c.is_whole-has_lsdas.ensures.0 (search rules);
    } in (
      refl,
      record {
        entry = c.read_entry-entry.ensures;
        head = head;
        lsdas = lsdas;
        whole = page_whole c.args.bytes.now c.args.number c.read_entry-entry.result c.in_ok-head.head
            (c.saturating_sub-lsdas.result / 8) c.read_entry-entry.ensures head lsdas whole;
      },
    )

pub returns-else-head-eq-COMPRESSED : goal.returns-else-head-eq-COMPRESSED
returns-else-head-eq-COMPRESSED c =
    λ given. let read = page_is_read c.args.bytes.now c.read_entry-entry.result.page_offset c.in_ok-head.head c.in_ok-head.ensures in
    let head = page_is c.args.bytes.now c.args.number c.read_entry-entry.result c.in_ok-head.head c.read_entry-entry.ensures read.is in
    let lsdas : c.saturating_sub-lsdas.result / 8 ≡ lsda_count c.args.bytes.now c.args.number =
    ap (λ (n : ℕ). n / 8) c.saturating_sub-lsdas.ensures
    ∙ lsdas_are c.args.bytes.now c.args.number c.read_entry-entry.result c.read_entry-next.result
    c.read_entry-entry.ensures c.read_entry-next.ensures in
    let whole =
    page_was_whole c.args.bytes.now c.args.number c.read_entry-entry.result c.in_ok-head.head (c.saturating_sub-lsdas.result / 8)
    c.read_entry-entry.ensures head lsdas given in
    let functions = c.is_whole-has_functions.ensures.1 whole.functions in
    let encodings = c.is_whole-has_encodings.ensures.1 whole.encodings in
    let entries = c.is_whole-has_lsdas.ensures.1 whole.entries in
    let kind = whole.kind in
    grind (arith, common_steps)
