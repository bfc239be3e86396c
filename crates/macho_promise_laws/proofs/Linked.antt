-- A file into which contents and texts of a link were written is an image as promised.
--
-- The parts stand, each in its range. So what their writers promised of every file in which they stand is so of this one; the head tells
-- the
-- tables where the texts are, and what no content is told of is 0. This is a whole file, of which the law of whole files speaks.
use Rattle.std.proofs.Common.{◌≡◌, ℕ, ◌+◌, ◌-◌, ◌*◌, ◌/◌, ◌^◌, ◌≤◌, List, [], ◌∷◌, length, drop, replicate, refl, sym, ap, subst, ◌∙◌, arith}
use Rattle.std.specs.List.{flat_map}
use Rattle.macho_bytes.specs.Layouts.{size_of}
use Rattle.macho_bytes.specs.Texts.{Part, Stands, put}
use Rattle.macho_bytes.proofs.Numbers.{stands-front}
use Rattle.macho_records.specs.Layouts.{symtab_entry}
use Rattle.macho_model.specs.declared.placed.Counts.{Counts}
use Rattle.macho_model.specs.Links.{Link}
use Rattle.macho_model.specs.Placement.{Placed}
use Rattle.macho_model.specs.Spans.{range_span, piece}
use Rattle.macho_model.specs.Images.{fixups_header}
use Rattle.macho_model.specs.Head.{HeadSays, range_size}
use Rattle.macho_model.specs.HeadCommands.{CommandsSay}
use Rattle.macho_model.specs.steps.Outputs.{POINTER_EXPONENT}
use Rattle.macho_model.specs.WrittenSum.{SYMBOL_SIZE}
use Rattle.macho_model.specs.SymbolEntries.{SymbolsSay}
use Rattle.macho_model.specs.Zeros.{IsZeroElsewhere}
use Rattle.macho_fixups.specs.declared.run.Fixup.{Fixup}
use Rattle.macho_fixups.specs.Tables.{names_place}
use Rattle.macho_commands.specs.Laws.{HeadIsRead, HeadReads}
use Rattle.macho_promise.specs.FixupsSay.{fixup_segments}
use Rattle.macho_linkedit.specs.declared.imports.ImportTable.{ImportTable}
use Rattle.macho_promise.specs.TrieSays.{TrieSays}
use Rattle.macho_linkedit.specs.Laws.{TrieIsSaid, SymbolsAreSaid}
use Rattle.macho_linkedit.specs.Symbols.{table_text}
use Rattle.macho_contents.specs.Chaining.{CanBeChained}
use Rattle.macho_contents.specs.Writing.{text_of_range, text_of_table}
use Rattle.macho_contents.specs.ChainingLaws.{TableIsOf, BytesOutsideStay, WordsStay, FixupsStand, FixupsAreKept, ImportsAreKept}
use Rattle.macho_synthetic.specs.Laws.{OffsetsAreSaid, UnwindIsSaid, SaysUnwind}
use Rattle.macho_writing_laws.specs.Heads.{TablesEnd}
use Rattle.macho_placed_laws.specs.Ranges.{RangesAreApart, RangesEnd}
use Rattle.macho_image_laws.specs.Laws.{SectionsStayFilled, StubsStaySet}
use Rattle.macho_promise_laws.specs.Whole.{IsReady, WholeIsLinked}
use Rattle.macho_promise_laws.specs.Written.{AreStanding}
use Rattle.macho_promise_laws.specs.Meaning.{IsWritten, WrittenIsLinked, SymbolsMean}
use Rattle.macho_promise_laws.proofs.Contents.{Grounds}
use Rattle.macho_promise_laws.proofs.Standing.{are_standing}
use Rattle.macho_promise_laws.proofs.Behind.{TablesBegin}
use Rattle.macho_promise_laws.proofs.Zeros.{AreTold, zero_elsewhere}
use Rattle.macho_promise_laws.proofs.Lengths.{symbols_counted, strings_counted, symbols_long, head_ends, stands_joined}
use Rattle.macho_bytes.specs.Spellings.{spelling}
use Rattle.macho_records.specs.Spellings.{symtab_entry_rows}

-- the laws that are called
pub record PartLaws : Type 0 where
  pub apart : RangesAreApart
  pub ends : RangesEnd
  pub tables : TablesEnd
  pub outside : BytesOutsideStay
  pub words : WordsStay
  pub sections : SectionsStayFilled
  pub stubs : StubsStaySet

pub record MeaningLaws : Type 0 where
  pub head : HeadIsRead
  pub fixups : FixupsAreKept
  pub imports : ImportsAreKept
  pub trie : TrieIsSaid
  pub symbols : SymbolsAreSaid
  pub offsets : OffsetsAreSaid
  pub unwind : UnwindIsSaid
  pub whole : WholeIsLinked

-- A written file, with what stands in it and what its head reads as.
record Seen (l : Link) (counts : Counts) (uuid : List ℕ) (p : Placed) (b : List ℕ) (w : IsWritten l counts uuid p b) : Type 0 where
  stands : AreStanding l p w.run w.texts p.linkedit.signature.end b
  reads : HeadReads l counts uuid b p (length w.texts.trie)

grounds : PartLaws → (l : Link) (counts : Counts) (p : Placed) → IsReady l counts p → CanBeChained l counts p
    → Grounds l counts p p.linkedit.signature.end
grounds laws l counts p ready can = record {
  placed = ready.link.placed;
  laid_out = ready.laid_out;
  can = can;
  size = refl;
  apart = laws.apart;
  ends = laws.ends;
  outside = laws.outside;
}

standing : PartLaws → (l : Link) (counts : Counts) (uuid : List ℕ) (p : Placed) (b : List ℕ) → IsReady l counts p → CanBeChained l counts p
    → TablesBegin p p.linkedit.signature.end → (w : IsWritten l counts uuid p b) → AreStanding l p w.run w.texts p.linkedit.signature.end b
standing laws l counts uuid p b ready can begin w =
    subst (AreStanding l p w.run w.texts p.linkedit.signature.end) (sym w.is)
    (are_standing l counts p w.run p.linkedit.signature.end w.contents w.texts (grounds laws l counts p ready can)
    (record { link = ready.link; sections = laws.sections; stubs = laws.stubs; words = laws.words }) begin w.filled w.says.0)

no_part : Part
no_part = record { at = 0; text = [] }

fixups_stand : (l : Link) (counts : Counts) (uuid : List ℕ) (p : Placed) (b : List ℕ) (w : IsWritten l counts uuid p b)
    → Seen l counts uuid p b w
    → FixupsStand l p w.run w.says.1.fixups.imports b
fixups_stand l counts uuid p b w seen = record {
  run_is = w.filled.chained.run_is;
  chain = w.filled.chained.chain;
  words = seen.stands.words;
  text = subst (λ (text : List ℕ). Stands b (record { at = p.linkedit.fixups.start; text = text })) w.says.1.fixups.is
      (seen.stands.texts 2 no_part (omega arith));
  one = seen.reads.fixups;
}

trie_says : MeaningLaws → (l : Link) (counts : Counts) (uuid : List ℕ) (p : Placed) (b : List ℕ) → IsReady l counts p
    → (w : IsWritten l counts uuid p b) → Seen l counts uuid p b w
    → TrieSays l b p
trie_says laws l counts uuid p b ready w seen =
    let m = w.says.1.trie in
    laws.trie l b p (record { at = p.linkedit.trie.start; size = length w.texts.trie }) m.told m.exports w.texts.trie
    ready.link.placed.whole_list
    m.said_are (record {
      one = seen.reads.tries;
      size = refl;
      text = seen.stands.texts 3 no_part (omega arith);
      exact = m.exact;
      all = m.all;
      only = m.only;
    })

-- where the strings are behind the symbols
strings_behind : (l : Link) (counts : Counts) (p : Placed) → IsReady l counts p
    → p.linkedit.strtab.start ≡ p.linkedit.symtab.start + size_of symtab_entry * counts.symbols
strings_behind l counts p ready =
    let least : p.linkedit.strtab.start
    ≡ ((p.linkedit.symtab.start + (p.linkedit.symtab.end - p.linkedit.symtab.start)) + (2 ^ 0 - 1)) / 2 ^ 0 * 2 ^ 0 =
    ready.laid_out.least.tables 3 (piece POINTER_EXPONENT (range_span p.linkedit.symtab)) (piece 0 (range_span p.linkedit.strtab))
    (omega arith, refl) (omega arith, refl) in
    let room : p.linkedit.symtab.end ≡ p.linkedit.symtab.start + SYMBOL_SIZE * counts.symbols = ready.laid_out.least.rooms.symbols in
    omega (arith, least, room)

symbols_say : MeaningLaws → (l : Link) (counts : Counts) (uuid : List ℕ) (p : Placed) (b : List ℕ) → IsReady l counts p
    → (w : IsWritten l counts uuid p b) → Seen l counts uuid p b w
    → SymbolsSay l counts b p
unfolding table_text
symbols_say laws l counts uuid p b ready w seen =
    laws.symbols l counts b p p.linkedit.symtab.start m.table m.rows (record {
      symbols = seen.reads.symbols
          ∙ ap (λ (n : ℕ). record { at = p.linkedit.symtab.start; size = size_of symtab_entry * n } ∷ []) (sym many);
      strings = seen.reads.strings ∙ ap (λ (n : ℕ). record { at = n; size = counts.strings } ∷ []) next
          ∙ ap (λ (n : ℕ). record { at = p.linkedit.symtab.start + size_of symtab_entry * length m.table.entries; size = n } ∷ [])
          (sym (strings_counted l counts p m.table ready.counted m.rows));
      text = text;
      back = m.back;
    })
  where
    m : SymbolsMean l counts p w.texts.symbols w.texts.strings
    m = w.says.1.symbols

    many : length m.table.entries ≡ counts.symbols
    many = symbols_counted l counts p m.table ready.counted m.rows

    next : p.linkedit.strtab.start ≡ p.linkedit.symtab.start + size_of symtab_entry * length m.table.entries
    next = strings_behind l counts p ready ∙ ap (λ (n : ℕ). p.linkedit.symtab.start + size_of symtab_entry * n) (sym many)

    text : Stands b (record { at = p.linkedit.symtab.start; text = table_text m.table })
    text =
        stands_joined b p.linkedit.symtab.start p.linkedit.strtab.start (flat_map (spelling symtab_entry_rows) m.table.entries)
        m.table.strings
        (next ∙ ap (λ (n : ℕ). p.linkedit.symtab.start + n) (sym (symbols_long m.table.entries m.back)))
        (subst (λ (t : List ℕ). Stands b (record { at = p.linkedit.symtab.start; text = t })) m.entries_are
        (seen.stands.texts 4 no_part (omega arith)))
        (subst (λ (t : List ℕ). Stands b (record { at = p.linkedit.strtab.start; text = t })) m.strings_are
        (seen.stands.texts 5 no_part (omega arith)))

-- the header of the fixup table tells where its names begin
names_end : (l : Link) (p : Placed) (run : List Fixup) (imports : ImportTable) (b : List ℕ) → TableIsOf l p run imports
    → Stands b (record { at = p.linkedit.fixups.start; text = text_of_range p run imports })
    → (fixups_header b (record { at = p.linkedit.fixups.start; size = range_size p.linkedit.fixups })).symbols_offset
    ≡ names_place run (fixup_segments p) imports.format imports.entries.items
unfolding text_of_range put
names_end l p run imports b is stands =
    let table : Stands b (record { at = p.linkedit.fixups.start; text = text_of_table p run imports }) =
    stands-front b p.linkedit.fixups.start (text_of_table p run imports)
    (drop (0 + length (text_of_table p run imports)) (replicate (range_size p.linkedit.fixups) 0)) stands in
    ap (λ h. h.symbols_offset) (is.reads.read b (record { at = p.linkedit.fixups.start; size = range_size p.linkedit.fixups }) table).header

-- the tables and the head that the file tells end where the texts do
told : (l : Link) (counts : Counts) (uuid : List ℕ) (p : Placed) (b : List ℕ) → IsReady l counts p → (w : IsWritten l counts uuid p b)
    → Seen l counts uuid p b w → AreTold p w.run w.texts b
told l counts uuid p b ready w seen = record {
  head = head_ends l counts uuid p w.says.1.head.parts (length w.texts.trie) b w.says.1.head.of_link.0 w.says.1.head.of_link.1
      (w.says.1.head.header b (seen.stands.texts 6 no_part (omega arith)))
      ∙ sym w.says.1.head.long;
  fixups = seen.reads.fixups;
  trie = seen.reads.tries;
  symbols = seen.reads.symbols ∙ ap (λ (n : ℕ). record { at = p.linkedit.symtab.start; size = n } ∷ []) symbols;
  strings = seen.reads.strings ∙ ap (λ (n : ℕ). record { at = p.linkedit.strtab.start; size = n } ∷ []) strings;
  signature = (p.linkedit.signature.end - p.linkedit.signature.start, seen.reads.signature, w.says.0.signature);
}
  where
    m : SymbolsMean l counts p w.texts.symbols w.texts.strings
    m = w.says.1.symbols

    symbols : size_of symtab_entry * counts.symbols ≡ length w.texts.symbols
    symbols =
        ap (λ (n : ℕ). size_of symtab_entry * n) (sym (symbols_counted l counts p m.table ready.counted m.rows))
        ∙ sym (symbols_long m.table.entries m.back) ∙ ap length (sym m.entries_are)

    strings : counts.strings ≡ length w.texts.strings
    strings = sym (strings_counted l counts p m.table ready.counted m.rows) ∙ ap length (sym m.strings_are)

zeros : (l : Link) (counts : Counts) (uuid : List ℕ) (p : Placed) (b : List ℕ) → IsReady l counts p → (w : IsWritten l counts uuid p b)
    → Seen l counts uuid p b w → IsZeroElsewhere l b p (length w.texts.unwind)
zeros l counts uuid p b ready w seen =
    let m = w.says.1.fixups in
    let text : Stands b (record { at = p.linkedit.fixups.start; text = text_of_range p w.run m.imports }) = (fixups_stand l counts uuid p
    b w seen).text in
    zero_elsewhere l p w.run w.texts p.linkedit.signature.end b m.imports seen.stands (told l counts uuid p b ready w seen)
    (record { of_link = m.of_link; place = names_end l p w.run m.imports b m.of_link text }) m.is w.says.0.made.initializers

-- THE file is whole, and so as promised
pub written_is_linked : PartLaws → MeaningLaws → WrittenIsLinked
written_is_linked parts laws l counts uuid b p ready can w =
    laws.whole l counts uuid b p (record {
      ready = ready;
      head = record { text = text; says = head; fits = omega (arith, w.says.0.trie, table); names = w.says.1.head.names };
      tables = record {
        fixups = laws.fixups l p w.run w.says.1.fixups.imports b (fixups_stand l counts uuid p b w seen) w.says.1.fixups.of_link
            can.encoded;
        imports = laws.imports l p w.run w.says.1.fixups.imports b (fixups_stand l counts uuid p b w seen) w.says.1.fixups.of_link
            w.says.1.fixups.tellable;
        exports = trie_says laws l counts uuid p b ready w seen;
        symbols = symbols_say laws l counts uuid p b ready w seen;
      };
      content = record {
        sections = seen.stands.sections;
        stubs = seen.stands.stubs;
        initializers = laws.offsets l counts p b w.texts.initializers w.says.1.made.of_link w.says.1.made.offsets
            (seen.stands.texts 0 no_part (omega arith));
        unwind = unwind.says;
        fits = omega (arith, w.says.0.made.unwind, long);
        zeros = subst (IsZeroElsewhere l b p) (sym long) (zeros l counts uuid p b ready w seen);
      };
      sealed = record {
        size = seen.stands.size;
        signer = w.says.1.signature.signer;
        signs = w.says.1.signature.signs;
        stands = subst (λ (text : List ℕ). Stands b (record { at = p.linkedit.signature.start; text = text })) w.says.1.signature.is
            (seen.stands.texts 7 no_part (omega arith));
      };
    })
  where
    begin : TablesBegin p p.linkedit.signature.end
    begin = λ k d lt.
        let ends = parts.tables l counts p can.placed k d lt in
        omega (arith, ends.0, ends.1)

    stands : AreStanding l p w.run w.texts p.linkedit.signature.end b
    stands = standing parts l counts uuid p b ready can begin w

    text : HeadSays l counts uuid b p
    text = record {
      versions = w.says.1.head.versions;
      trie = length w.texts.trie;
      text = subst (λ (t : List ℕ). Stands b (record { at = 0; text = t })) w.says.1.head.is (stands.texts 6 no_part (omega arith));
    }

    head : CommandsSay l counts uuid b p
    head = record {
      trie = length w.texts.trie;
      header = w.says.1.head.header b (stands.texts 6 no_part (omega arith));
      commands = w.says.1.head.commands b (stands.texts 6 no_part (omega arith));
    }

    seen : Seen l counts uuid p b w
    seen = record { stands = stands; reads = laws.head l counts uuid b p (length w.texts.trie) head.commands }

    unwind : SaysUnwind l b p w.texts.unwind
    unwind = laws.unwind l counts p b w.texts.unwind w.says.1.made.of_link w.says.1.made.entries (stands.texts 1 no_part (omega arith))

    long : length unwind.says.content ≡ length w.texts.unwind
    long = ap length unwind.content

    table : p.linkedit.trie.start ≤ p.linkedit.trie.end
    table = omega (arith, ready.laid_out.least.rooms.trie)
