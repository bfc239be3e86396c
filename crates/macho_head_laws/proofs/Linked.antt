-- THE head of an image is read, by the image's promise alone.
--
-- 1. An image begins with the bytes of its link's head, in which each number is cut to its field.
-- 2. So they are also the bytes of another head, that of the placement with its numbers cut; and of that one each number fits.
-- 3. Names in the head have 16 bytes: they are filled to that, and read from fields of that size.
-- 4. So each command has the bytes that it says. The header tells their sum, modulo 2 ^ 32; and the promise tells that it is the sum.
-- 5. So the sum is below 2 ^ 32, and with it the size of each command, and, since each has at least 8 bytes, their number.
-- 6. So the walk of a reader meets each command of the other head, at its place, and reads it back.
-- 7. A reading of the file then finds the segments, section headers, tables and the entry of the other head.
-- 8. The promise says that the same readings find those of the placement. So none of their numbers was changed by cutting.
-- 9. The versions fit, as the promise of the head says; all other numbers are constants, counts and sizes.
-- 10. So the other head is that of the link, with an exports trie as long as its command says.
use Rattle.std.proofs.Common.{◌≡◌, ℕ, ◌%◌, ◌^◌, List, length, map, refl, sym, ap, ◌∙◌, arith}
use Rattle.std.specs.Prelude.{sum_by}
use Rattle.std.specs.List.{flat_map}
use Rattle.macho_records.specs.declared.constants.TheConstants.{LC_CODE_SIGNATURE, LC_DYLD_CHAINED_FIXUPS, LC_DYLD_EXPORTS_TRIE}
use Rattle.macho_model.specs.declared.placed.Counts.{Counts}
use Rattle.macho_model.specs.Links.{Link}
use Rattle.macho_model.specs.Placement.{Placed}
use Rattle.macho_model.specs.Spans.{StandInOrder}
use Rattle.macho_model.specs.Agreement.{TablesAgree}
use Rattle.macho_model.specs.Order.{HaveRoom}
use Rattle.macho_model.specs.Head as head
use Rattle.macho_model.specs.Head.{headers_in}
use Rattle.macho_model.specs.HeadCommands.{HeadCommand, linkedit_for, symtab_for, commands_for, header_for, size_said, header_with}
use Rattle.macho_commands.specs.Laws.{HeadReads}
use Rattle.macho_commands.proofs.HeadRead.{head_read}
use Rattle.macho_promise.specs.Sizes.{AreCounts, counts_with, commands_size}
use Rattle.macho_promise.specs.Promise.{IsLinked}
use Rattle.macho_placed_laws.specs.Targets.{ListsAll}
use Rattle.macho_placed_laws.proofs.Headers.{headers-are}
use Rattle.macho_placed_laws.proofs.Entry.{file_base}
use Rattle.macho_head_laws.specs.Laws.{LinkedHeadIsRead, LinkedUuidIsRead}
use Rattle.macho_head_laws.proofs.Cut.{segment_cut, header_cut, counts_cut, placed_cut}
use Rattle.macho_head_laws.proofs.Named.{segments_named, headers_named}
use Rattle.macho_head_laws.proofs.Whole.{commands_whole}
use Rattle.macho_head_laws.proofs.Found.{head_found, sections_cut}
use Rattle.macho_head_laws.proofs.Compared.{segments_kept, segments_same, entry_same, range_same, at_same}
use Rattle.macho_model.proofs.Parts.{in_order_of, order_of}
use Rattle.macho_model.proofs.Outputs.{headers_same}
use Rattle.macho_promise.proofs.Counted.{commands_counted}

-- the tables' commands are those of the placement
trie_same : (l : Link) (counts : Counts) (uuid b : List ℕ) (p : Placed) (trie : ℕ)
    → HeadReads l (counts_cut counts) uuid b (placed_cut l p) (trie % 2 ^ 32) → TablesAgree b p
    → linkedit_for LC_DYLD_EXPORTS_TRIE (p.linkedit.trie.start % 2 ^ 32) (trie % 2 ^ 32)
    ≡ linkedit_for LC_DYLD_EXPORTS_TRIE p.linkedit.trie.start (trie % 2 ^ 32)
trie_same l counts uuid b p trie reads agree =
    ap (λ (n : ℕ). linkedit_for LC_DYLD_EXPORTS_TRIE n (trie % 2 ^ 32)) (at_same _ _ _ _ _ reads.tries agree.trie).0

symtab_same : (l : Link) (counts : Counts) (uuid b : List ℕ) (p : Placed) (trie : ℕ)
    → HeadReads l (counts_cut counts) uuid b (placed_cut l p) trie → TablesAgree b p → HaveRoom counts p
    → symtab_for (counts_cut counts) (placed_cut l p) ≡ symtab_for counts p
symtab_same l counts uuid b p trie reads agree rooms =
    let symbols = at_same _ _ _ _ _ reads.symbols agree.symbols in
    let strings = at_same _ _ _ _ _ reads.strings agree.strings in
    let count : counts.symbols % 2 ^ 32 ≡ counts.symbols = omega (arith, symbols.1, rooms.symbols) in
    let size : counts.strings % 2 ^ 32 ≡ counts.strings = omega (arith, strings.1, rooms.strings) in
    rw (symbols.0, count, strings.0, size) refl

-- what the head's commands are, with the numbers cut and as they are
commands_same : (l : Link) (counts : Counts) (uuid b : List ℕ) (p : Placed) (trie : ℕ) → IsLinked l counts uuid b p
    → HeadReads l (counts_cut counts) uuid b (placed_cut l p) (trie % 2 ^ 32)
    → commands_for l (counts_cut counts) (placed_cut l p) uuid (trie % 2 ^ 32) ≡ commands_for l counts p uuid (trie % 2 ^ 32)
unfolding commands_for
commands_same l counts uuid b p trie linked reads =
    let order : StandInOrder l counts p = order_of linked.loadable.placed.whole_list linked.laid_out.segments linked.laid_out.names in
    let placed = linked.loadable.placed in
    let agree = linked.agrees.commands in
    let tables = linked.agrees.tables in
    let segments : map segment_cut p.segments ≡ p.segments = segments_kept p.segments (sym reads.segments ∙ agree.segments) in
    let split : flat_map (headers_in p) p.segments ≡ p.output_sections =
    headers-are l counts p linked.laid_out.segments placed.follow (linked.laid_out.sections ∙ headers_same l counts p) in
    let headers : map header_cut p.output_sections ≡ p.output_sections =
    ap (map header_cut) (sym split) ∙ sym (sections_cut l p p.segments) ∙ sym reads.sections ∙ agree.headers in
    let lists : ListsAll l p = record { sections = order.sections; commons = order.commons; slots = placed.whole_list.slots } in
    rw (
      segments_same l p segments headers,
      entry_same l b p lists (file_base l b p (in_order_of placed) placed.base agree.segments) agree.entry reads.entry,
      range_same LC_DYLD_CHAINED_FIXUPS p.linkedit.fixups _ reads.fixups tables.fixups,
      trie_same l counts uuid b p trie reads tables,
      symtab_same l counts uuid b p (trie % 2 ^ 32) reads tables linked.laid_out.least.rooms,
      range_same LC_CODE_SIGNATURE p.linkedit.signature _ reads.signature tables.signature,
    ) refl

pub linked_head_is_read : LinkedHeadIsRead
unfolding header_for
linked_head_is_read l counts uuid b p linked =
    let says = linked.written.head in
    let agree = linked.agrees.commands in
    let order : StandInOrder l counts p = order_of linked.loadable.placed.whole_list linked.laid_out.segments linked.laid_out.names in
    let split : flat_map (headers_in p) p.segments ≡ p.output_sections =
    headers-are l counts p linked.laid_out.segments linked.loadable.placed.follow (linked.laid_out.sections ∙ headers_same l counts p) in
    let whole = commands_whole l counts p uuid says.trie (segments_named l counts b p order agree.segments)
    (headers_named l counts b p (linked.laid_out.sections ∙ headers_same l counts p) agree.headers) says.versions in
    let found = head_found l counts uuid b p says whole (commands_counted l counts linked.counted) split agree.head in
    let reads = head_read l (counts_cut counts) uuid b (placed_cut l p) (says.trie % 2 ^ 32) found.commands in
    let same = commands_same l counts uuid b p says.trie linked reads in
    record {
      trie = says.trie % 2 ^ 32;
      header = found.header ∙ ap (λ (hs : List HeadCommand). header_with l p (length hs) (sum_by size_said hs)) same;
      commands = found.commands ∙ same;
    }

-- so it also finds its UUID
pub linked_uuid_is_read : LinkedUuidIsRead
linked_uuid_is_read l counts uuid b p linked =
    let says = linked_head_is_read l counts uuid b p linked in
    (head_read l counts uuid b p says.trie says.commands).uuid_is
