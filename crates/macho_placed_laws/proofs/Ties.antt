-- A file whose head is that of a link says what the placement says.
--
-- Its readings are those of the link's commands. Segments are then the placement's; section headers the output sections,
-- segment by segment; the
-- commands end where the head does; tables have the room that was counted for them, but for the trie, which may be shorter.
use Rattle.std.proofs.Common.{◌≡◌, ℕ, ◌-◌, ◌*◌, List, [], ◌∷◌, map, suc, refl, ap, ◌∙◌, arith, All, ◌+◌}
use Rattle.macho_bytes.specs.Layouts.{size_of}
use Rattle.macho_bytes.specs.Texts.{name_of}
use Rattle.macho_records.specs.Layouts.{symtab_entry}
use Rattle.macho_model.specs.declared.placed.Counts.{Counts}
use Rattle.macho_model.specs.declared.placed.Range64.{Range64}
use Rattle.macho_model.specs.Links.{Link}
use Rattle.macho_model.specs.Placement.{Placed, IsPlaced}
use Rattle.macho_model.specs.Order.{HaveRoom}
use Rattle.macho_model.specs.Images.{Table}
use Rattle.macho_model.specs.Agreement.{table_of_range, TablesAgree}
use Rattle.macho_commands.specs.Laws.{HeadReads}
use Rattle.macho_commands.proofs.HeadRead.{head_read}
use Rattle.macho_promise.specs.Sizes.{AreCounts, counts_with, commands_size}
use Rattle.macho_promise.specs.Promise.{IsLaidOut}
use Rattle.macho_placed_laws.specs.Targets.{ListsAll}
use Rattle.macho_placed_laws.specs.Agreement.{TrieFits, HeadTies, LibrariesAreSaid, SegmentsHaveRoom}
use Rattle.macho_placed_laws.proofs.Headers.{headers-are}
use Rattle.macho_placed_laws.proofs.Heads.{head_ends}
use Rattle.macho_placed_laws.proofs.Room.{file_parts_end, text_begins, text_holds_head}
use Rattle.macho_placed_laws.proofs.Entry.{file_base, entry_agrees}
use Rattle.macho_model.proofs.Parts.{in_order_of}
use Rattle.macho_model.proofs.Outputs.{headers_same}
use Rattle.macho_promise.proofs.Counted.{commands_counted}

-- a table that has so many bytes is the range with that room
ranged : (r : Range64) (size : ℕ) → r.end ≡ r.start + size → record { at = r.start; size = size } ≡ table_of_range r
ranged r size room =
    let long : size ≡ r.end - r.start = omega (arith, room) in
    ap (λ (n : ℕ). record { at = r.start; size = n }) long

pub lists_all : (l : Link) (counts : Counts) (p : Placed) → IsPlaced l counts p → IsLaidOut l counts p → ListsAll l p
lists_all l counts p placed laid = record {
  sections = placed.whole_list.sections;
  commons = placed.whole_list.commons;
  slots = placed.whole_list.slots;
}

tables_agree : (l : Link) (counts : Counts) (uuid b : List ℕ) (p : Placed) (trie : ℕ) → HeadReads l counts uuid b p trie
    → HaveRoom counts p → TrieFits p trie
    → TablesAgree b p
tables_agree l counts uuid b p trie reads room fits = record {
  fixups = reads.fixups;
  trie_size = trie;
  trie = reads.tries;
  trie_fits = fits;
  symbols = reads.symbols ∙ ap (λ (t : Table). t ∷ []) (ranged p.linkedit.symtab (size_of symtab_entry * counts.symbols) room.symbols);
  strings = reads.strings ∙ ap (λ (t : Table). t ∷ []) (ranged p.linkedit.strtab counts.strings room.strings);
  signature = reads.signature;
}

-- THE head ties the file to its placement
pub head_ties : HeadTies
head_ties l counts uuid b p says read are placed laid defined fits =
    let reads = head_read l counts uuid b p says.trie says.commands in
    let headers = headers-are l counts p laid.segments placed.follow (laid.sections ∙ headers_same l counts p) in
    let base = file_base l b p (in_order_of placed) placed.base reads.segments in
    record {
      commands = record {
        segments = reads.segments;
        head = head_ends l counts uuid b p says (commands_counted l counts are) headers;
        headers = reads.sections ∙ headers;
        entry = entry_agrees l counts b p read placed (lists_all l counts p placed laid) defined base reads.entry;
      };
      tables = tables_agree l counts uuid b p says.trie reads laid.least.rooms fits;
    }

-- THE libraries
whole_names : (names : List (List ℕ)) → All (λ name. name_of name ≡ name) names → map name_of names ≡ names
whole_names [] each = refl
whole_names (n ∷ names) each =
    let first : name_of n ≡ n = each 0 n (omega arith) in
    let rest : map name_of names ≡ names = whole_names names (λ k d lt. each (suc k) d (omega arith)) in
    cc

pub libraries_said : LibrariesAreSaid
libraries_said l counts uuid b p says whole = (head_read l counts uuid b p says.trie says.commands).libraries ∙ whole_names _ whole

-- THE room of the segments
pub segments_have_room : SegmentsHaveRoom
segments_have_room l counts uuid b p says are placed laid long memory =
    let follow = placed.follow in
    let headers = headers-are l counts p laid.segments follow (laid.sections ∙ headers_same l counts p) in
    let ends = head_ends l counts uuid b p says (commands_counted l counts are) headers in
    record {
      file = λ k d lt. omega (arith, long, file_parts_end l counts p follow laid k d lt);
      memory = memory;
      text = λ k d lt named.
          (text_begins l counts p follow laid k d lt named, omega (arith, ends, text_holds_head l counts p laid k d lt named));
    }
