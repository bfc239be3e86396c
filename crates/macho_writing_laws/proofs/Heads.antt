-- The head of an image ends in front of its parts, and its tables in a short file.
--
-- The head's bytes are the header, and for each segment and each output section as many as the placement's head counts; the rest
-- of the commands is what was counted. The placement's head lies in the file part of `__TEXT`. The tables stand in the order of
-- their commands, the signature last, which ends below 2 ^ 32.
use Rattle.std.proofs.Common.{◌≡◌, ◌+◌, ◌*◌, ◌^◌, ◌<◌, ◌≤◌, true, [], ◌∷◌, length, refl, ap, ◌∙◌, arith}
use Rattle.std.specs.Prelude.{sum_by}
use Rattle.std.specs.List.{flat_map}
use Rattle.std.proofs.lemmas.List.Elements.{All-nil, All-cons}
use Rattle.macho_bytes.proofs.Members.{all_contains}
use Rattle.macho_model.specs.declared.placed.Counts.{Counts}
use Rattle.macho_model.specs.declared.placed.PlacedSegment.{PlacedSegment}
use Rattle.macho_model.specs.declared.placed.Range64.{Range64}
use Rattle.macho_model.specs.Links.{Link}
use Rattle.macho_model.specs.Segments.{TEXT}
use Rattle.macho_model.specs.Head.{headers_in}
use Rattle.macho_model.specs.HeadCommands.{size_said}
use Rattle.macho_model.specs.Placement.{Placed, head_size, is_segment_named}
use Rattle.macho_model.specs.Spans.{range_span, piece}
use Rattle.macho_model.specs.steps.Outputs.{POINTER_EXPONENT}
use Rattle.macho_model.proofs.Least.{tables_in_order}
use Rattle.macho_promise.specs.Sizes.{AreCounts, counts_with, commands_size}
use Rattle.macho_layout_laws.specs.Laws.{IsWhollyPlaced, NonePasses}
use Rattle.macho_placed_laws.proofs.Headers.{headers-are}
use Rattle.macho_placed_laws.proofs.Heads.{commands_sized}
use Rattle.macho_placed_laws.proofs.Room.{file_parts_end, text_holds_head}
use Rattle.macho_head.specs.Heads.{commands_of_parts}
use Rattle.macho_head.proofs.Joined.{parts_said}
use Rattle.macho_writing_laws.specs.Heads.{HeadersStand, TablesEnd, TablesStandLow, HeadsHaveRoom}
use Rattle.macho_writing_laws.proofs.Placed.{laid_out}
use Rattle.macho_model.proofs.Outputs.{least_of, headers_same}
use Rattle.macho_promise.proofs.Counted.{commands_counted}

pub headers_stand : HeadersStand
headers_stand l counts p whole
    = record { are = headers-are l counts p whole.order.segments whole.placed.follow (whole.sections ∙ headers_same l counts p) }

-- the tables one behind the other
pub record TablesFollow (p : Placed) : Type 0 where
  pub fixups : (p.linkedit.fixups.start ≤ p.linkedit.fixups.end) × (p.linkedit.fixups.end ≤ p.linkedit.signature.start)
  pub trie : (p.linkedit.trie.start ≤ p.linkedit.trie.end) × (p.linkedit.trie.end ≤ p.linkedit.signature.start)
  pub symbols : (p.linkedit.symtab.start ≤ p.linkedit.symtab.end) × (p.linkedit.symtab.end ≤ p.linkedit.signature.start)
  pub strings : (p.linkedit.strtab.start ≤ p.linkedit.strtab.end) × (p.linkedit.strtab.end ≤ p.linkedit.signature.start)
  pub signature : p.linkedit.signature.start ≤ p.linkedit.signature.end

pub tables_follow : (l : Link) (counts : Counts) (p : Placed) → IsWhollyPlaced l counts p → TablesFollow p
tables_follow l counts p whole =
    let rooms = whole.least.rooms in
    let d = piece POINTER_EXPONENT (range_span p.linkedit.fixups) in
    let order = tables_in_order l counts p (least_of whole.least) in
    record {
      fixups = (omega (arith, rooms.fixups), omega (arith, rooms.fixups, order 1 5 d (omega arith) (omega arith)));
      trie = (omega (arith, rooms.trie), omega (arith, rooms.trie, order 2 5 d (omega arith) (omega arith)));
      symbols = (omega (arith, rooms.symbols), omega (arith, rooms.symbols, order 3 5 d (omega arith) (omega arith)));
      strings = (omega (arith, rooms.strings), omega (arith, rooms.strings, order 4 5 d (omega arith) (omega arith)));
      signature = omega (arith, rooms.signature);
    }

pub tables_end : TablesEnd
tables_end l counts p whole =
    let tables = tables_follow l counts p whole in
    let Q : Range64 → Type 0 = λ r. (r.start ≤ r.end) × (r.end ≤ p.linkedit.signature.end) in
    let t = p.linkedit in
    let last : p.linkedit.fixups.end ≤ p.linkedit.signature.end = omega (arith, tables.fixups.1, tables.signature) in
    All-cons Q t.fixups (t.trie ∷ t.symtab ∷ t.strtab ∷ t.signature ∷ []) (tables.fixups.0, last)
    (All-cons Q t.trie (t.symtab ∷ t.strtab ∷ t.signature ∷ []) (tables.trie.0, omega (arith, tables.trie.1, tables.signature))
    (All-cons Q t.symtab (t.strtab ∷ t.signature ∷ []) (tables.symbols.0, omega (arith, tables.symbols.1, tables.signature))
    (All-cons Q t.strtab (t.signature ∷ []) (tables.strings.0, omega (arith, tables.strings.1, tables.signature))
    (All-cons Q t.signature [] (tables.signature, omega arith) (All-nil Q)))))

-- the file is short
file_short : (l : Link) (counts : Counts) (p : Placed) → NonePasses l counts p → p.linkedit.signature.end < 2 ^ 32
file_short l counts p within = within.ranges p.linkedit.signature (4, omega arith, refl)

pub tables_low : TablesStandLow
tables_low l counts p whole within =
    let tables = tables_follow l counts p whole in
    let end = file_short l counts p within in
    record {
      fixups = (omega (arith, tables.fixups, tables.signature, end), omega (arith, tables.fixups, tables.signature, end));
      trie = omega (arith, tables.trie, tables.signature, end);
      symbols = omega (arith, tables.symbols, tables.signature, end);
      strings = omega (arith, tables.strings, tables.signature, end);
      signature = (omega (arith, tables.signature, end), end);
    }

-- the head lies in the file
head_inside : (l : Link) (counts : Counts) (p : Placed) → IsWhollyPlaced l counts p → head_size counts p ≤ p.linkedit.signature.end
head_inside l counts p whole =
    let text = whole.placed.begins in
    let laid = laid_out l counts p whole in
    let holds = all_contains (λ s. is_segment_named TEXT s ≡ true → head_size counts p ≤ s.file_size) p.segments text.0
    (text_holds_head l counts p laid) text.1 text.2 in
    let end = all_contains (λ (s : PlacedSegment). s.file_offset + s.file_size ≤ p.linkedit.signature.end) p.segments text.0
    (file_parts_end l counts p whole.placed.follow laid) text.1 in
    omega (arith, holds, end)

pub heads_room : HeadsHaveRoom
heads_room l counts uuid p h whole within are parts =
    let headers = ap length (headers_stand l counts p whole).are in
    let said : sum_by size_said (commands_of_parts p h)
    ≡ 72 * length p.segments + 80 * length (flat_map (headers_in p) p.segments) + commands_size l =
    ap (sum_by size_said) (parts_said l counts uuid p h parts) ∙ commands_sized l counts p uuid h.trie_size in
    record {
      room = omega (arith, said, headers, commands_counted l counts are);
      inside = head_inside l counts p whole;
      small = file_short l counts p within;
    }
