-- What the readings of a file find, where the file says the commands of a link.
--
-- Each reading chooses the commands of a number and takes something of each. That is the same as choosing among what the
-- file says; and of the commands of a link one piece has the number. So segments, section headers, tables, libraries,
-- entry and UUID are those of the placement and of the link.
use Rattle.std.proofs.Common.{◌≡◌, ℕ, zero, suc, ◌+◌, ◌*◌, ◌==◌, replicate, get_or, take, drop, Bool, true, false, List, [], ◌∷◌, ◌++◌, map, inl, inr, refl, sym, ap, ◌∙◌, arith}
use Rattle.std.specs.List.{flat_map}
use Rattle.std.proofs.lemmas.List.{append-nil}
use Rattle.std.proofs.lemmas.List.Folds.{flat_map-map}
use Rattle.macho_bytes.specs.Layouts.{reading, size_of}
use Rattle.macho_bytes.specs.Texts.{name_of}
use Rattle.macho_records.specs.Layouts.{segment_command, symtab_entry}
use Rattle.macho_wire.specs.Layouts.{entry_point_command, dylib_command, uuid_command}
use Rattle.macho_records.specs.declared.header.SegmentCommand.{SegmentCommand}
use Rattle.macho_records.specs.declared.header.SectionHeader.{SectionHeader}
use Rattle.macho_records.specs.declared.symbols.SymtabCommand.{SymtabCommand}
use Rattle.macho_records.specs.declared.constants.TheConstants.{LC_BUILD_VERSION, LC_CODE_SIGNATURE, LC_DYLD_CHAINED_FIXUPS, LC_DYLD_EXPORTS_TRIE, LC_ID_DYLIB, LC_LOAD_DYLIB, LC_LOAD_DYLINKER, LC_MAIN, LC_RPATH, LC_SEGMENT_64, LC_SYMTAB, LC_UUID}
use Rattle.macho_model.specs.declared.placed.Counts.{Counts}
use Rattle.macho_model.specs.Links.{Link}
use Rattle.macho_model.specs.Needs.{libraries_needed}
use Rattle.macho_model.specs.Placement.{Placed}
use Rattle.macho_model.specs.Segments.{list_if}
use Rattle.macho_model.specs.Commands.{Command, numbered, path_of}
use Rattle.macho_model.specs.Agreement.{section_headers_at, section_headers_of}
use Rattle.macho_model.specs.Images.{segments_of, Table, table_of_command, tables_of, tries_of, signatures_of, symbol_tables_of, string_tables_of, entries_of_file, libraries_of}
use Rattle.macho_model.specs.Signature.{uuid_written}
use Rattle.macho_model.specs.Head.{headers_in, range_size}
use Rattle.macho_model.specs.HeadCommands.{HeadCommand, Segment, EntryPoint, Uuid, Dylib, LinkeditData, Symtab, segment_for, path_filled, entry_point_for, uuid_for, needed_dylib_for, linkedit_for, symtab_for, commands_for, commands_in, behind}
use Rattle.macho_commands.proofs.Numbered.{in_segment, in_entry_point, in_uuid, in_dylib, in_symtab, in_linkedit}
use Rattle.macho_commands.proofs.Walked.{said_with, chosen_in}
use Rattle.macho_commands.proofs.Listed.{pieces-are, all_kept, none_kept, entry_kept, entry_dropped}
use Rattle.macho_records.specs.Spellings.{segment_command_rows, symtab_command_rows}
use Rattle.macho_model.specs.steps.Images.{symbols_range, strings_range}
use Rattle.macho_bytes.proofs.Names.{name_of-zeros}

-- what is taken of a command
abbrev pub segment_taken : HeadCommand → SegmentCommand
segment_taken (Segment command headers) = command
segment_taken _ = segment_command_rows.blank

abbrev pub headers_taken : HeadCommand → List SectionHeader
headers_taken (Segment command headers) = headers
headers_taken _ = []

abbrev pub entry_taken : HeadCommand → ℕ
entry_taken (EntryPoint command) = command.entryoff
entry_taken _ = 0

abbrev pub uuid_taken : HeadCommand → List ℕ
uuid_taken (Uuid command) = command.uuid
uuid_taken _ = []

abbrev pub symtab_taken : HeadCommand → SymtabCommand
symtab_taken (Symtab command) = command
symtab_taken _ = symtab_command_rows.blank

abbrev pub table_taken : HeadCommand → Table
table_taken (LinkeditData command) = record { at = command.dataoff; size = command.datasize }
table_taken _ = record { at = 0; size = 0 }

-- the offset of a library's path, and what stands behind its record
abbrev pub path_taken : HeadCommand → ℕ × List ℕ
path_taken (Dylib command path) = (command.name_offset, path)
path_taken _ = (0, [])

-- the commands of one number of a link
segments-listed : (l : Link) (counts : Counts) (p : Placed) (uuid : List ℕ) (trie : ℕ)
    → said_with LC_SEGMENT_64 (commands_for l counts p uuid trie) ≡ map (segment_for p) p.segments
segments-listed l counts p uuid trie =
    pieces-are LC_SEGMENT_64 l counts p uuid trie (record {
      segments = map (segment_for p) p.segments;
      entry = [];
      uuids = [];
      libraries = [];
      tables = [];
      segments_are = all_kept LC_SEGMENT_64 (segment_for p) p.segments (λ s. refl);
      entry_is = entry_dropped LC_SEGMENT_64 l.executable (entry_point_for l p) refl;
      uuid_is = refl;
      libraries_are = none_kept LC_SEGMENT_64 needed_dylib_for (libraries_needed l) (λ name. refl);
      tables_are = refl;
      no_versions = refl;
      no_dylinker = refl;
      no_id = refl;
      no_rpath = refl;
    })
    ∙ simp append-nil

entry-listed : (l : Link) (counts : Counts) (p : Placed) (uuid : List ℕ) (trie : ℕ)
    → said_with LC_MAIN (commands_for l counts p uuid trie) ≡ list_if l.executable (entry_point_for l p ∷ [])
entry-listed l counts p uuid trie =
    pieces-are LC_MAIN l counts p uuid trie (record {
      segments = [];
      entry = list_if l.executable (entry_point_for l p ∷ []);
      uuids = [];
      libraries = [];
      tables = [];
      segments_are = none_kept LC_MAIN (segment_for p) p.segments (λ s. refl);
      entry_is = entry_kept LC_MAIN l.executable (entry_point_for l p) refl;
      uuid_is = refl;
      libraries_are = none_kept LC_MAIN needed_dylib_for (libraries_needed l) (λ name. refl);
      tables_are = refl;
      no_versions = refl;
      no_dylinker = refl;
      no_id = refl;
      no_rpath = refl;
    })
    ∙ simp append-nil

libraries-listed : (l : Link) (counts : Counts) (p : Placed) (uuid : List ℕ) (trie : ℕ)
    → said_with LC_LOAD_DYLIB (commands_for l counts p uuid trie) ≡ map needed_dylib_for
    (libraries_needed l)
libraries-listed l counts p uuid trie =
    pieces-are LC_LOAD_DYLIB l counts p uuid trie (record {
      segments = [];
      entry = [];
      uuids = [];
      libraries = map needed_dylib_for (libraries_needed l);
      tables = [];
      segments_are = none_kept LC_LOAD_DYLIB (segment_for p) p.segments (λ s. refl);
      entry_is = entry_dropped LC_LOAD_DYLIB l.executable (entry_point_for l p) refl;
      uuid_is = refl;
      libraries_are = all_kept LC_LOAD_DYLIB needed_dylib_for (libraries_needed l) (λ name. refl);
      tables_are = refl;
      no_versions = refl;
      no_dylinker = refl;
      no_id = refl;
      no_rpath = refl;
    })
    ∙ simp append-nil

-- the four tables of `__LINKEDIT`, as a link's commands tell them
abbrev pub tables_for : Counts → Placed → ℕ → List HeadCommand
tables_for counts p trie =
    linkedit_for LC_DYLD_CHAINED_FIXUPS p.linkedit.fixups.start (range_size p.linkedit.fixups)
    ∷ linkedit_for LC_DYLD_EXPORTS_TRIE p.linkedit.trie.start trie ∷ symtab_for counts p
    ∷ linkedit_for LC_CODE_SIGNATURE p.linkedit.signature.start (range_size p.linkedit.signature) ∷ []

-- a number that is none of the pieces' but the UUID's and the tables'
record OneAlone (n : ℕ) : Type 0 where
  segment : (LC_SEGMENT_64 == n) ≡ false
  entry : (LC_MAIN == n) ≡ false
  library : (LC_LOAD_DYLIB == n) ≡ false
  versions : (LC_BUILD_VERSION == n) ≡ false
  dylinker : (LC_LOAD_DYLINKER == n) ≡ false
  id : (LC_ID_DYLIB == n) ≡ false
  rpath : (LC_RPATH == n) ≡ false

one-listed : (n : ℕ) (l : Link) (counts : Counts) (p : Placed) (uuid : List ℕ) (trie : ℕ) → OneAlone n
    → said_with n (commands_for l counts p uuid trie) ≡ said_with n (uuid_for uuid ∷ []) ++ said_with n (tables_for counts p trie)
one-listed n l counts p uuid trie one =
    pieces-are n l counts p uuid trie (record {
      segments = [];
      entry = [];
      uuids = said_with n (uuid_for uuid ∷ []);
      libraries = [];
      tables = said_with n (tables_for counts p trie);
      segments_are = none_kept n (segment_for p) p.segments (λ s. one.segment);
      entry_is = entry_dropped n l.executable (entry_point_for l p) one.entry;
      uuid_is = refl;
      libraries_are = none_kept n needed_dylib_for (libraries_needed l) (λ name. one.library);
      tables_are = refl;
      no_versions = one.versions;
      no_dylinker = one.dylinker;
      no_id = one.id;
      no_rpath = one.rpath;
    })
    ∙ simp append-nil

alone : (n : ℕ) → (LC_SEGMENT_64 == n) ≡ false → (LC_MAIN == n) ≡ false → (LC_LOAD_DYLIB == n) ≡ false → (LC_BUILD_VERSION == n) ≡ false
    → (LC_LOAD_DYLINKER == n) ≡ false → (LC_ID_DYLIB == n) ≡ false → (LC_RPATH == n) ≡ false → OneAlone n
alone n segment entry library versions dylinker id rpath =
    record { segment = segment; entry = entry; library = library; versions = versions; dylinker = dylinker; id = id; rpath = rpath }

uuid_alone : OneAlone LC_UUID
uuid_alone = alone LC_UUID refl refl refl refl refl refl refl

fixups_alone : OneAlone LC_DYLD_CHAINED_FIXUPS
fixups_alone = alone LC_DYLD_CHAINED_FIXUPS refl refl refl refl refl refl refl

trie_alone : OneAlone LC_DYLD_EXPORTS_TRIE
trie_alone = alone LC_DYLD_EXPORTS_TRIE refl refl refl refl refl refl refl

symtab_alone : OneAlone LC_SYMTAB
symtab_alone = alone LC_SYMTAB refl refl refl refl refl refl refl

signature_alone : OneAlone LC_CODE_SIGNATURE
signature_alone = alone LC_CODE_SIGNATURE refl refl refl refl refl refl refl

-- the file says these commands
abbrev pub Says : Link → Counts → List ℕ → List ℕ → Placed → ℕ → Type 0
Says l counts uuid b p trie = commands_in b ≡ commands_for l counts p uuid trie

-- THE segments and their section headers
pub segments-told : (l : Link) (counts : Counts) (uuid b : List ℕ) (p : Placed) (trie : ℕ) → Says l counts uuid b p trie
    → segments_of b ≡ map segment_taken (map (segment_for p) p.segments)
unfolding segments_of
segments-told l counts uuid b p trie says =
    chosen_in LC_SEGMENT_64 (λ c. reading segment_command b c.at) segment_taken b (λ c n. sym (ap segment_taken (in_segment b c n)))
    ∙ ap (λ (hs : List HeadCommand). map segment_taken (said_with LC_SEGMENT_64 hs)) says
    ∙ ap (map segment_taken) (segments-listed l counts p uuid trie)

pub headers-told : (l : Link) (counts : Counts) (uuid b : List ℕ) (p : Placed) (trie : ℕ) → Says l counts uuid b p trie
    → section_headers_of b ≡ flat_map (headers_in p) p.segments
unfolding section_headers_of
headers-told l counts uuid b p trie says =
    let id : List SectionHeader → List SectionHeader = λ hs. hs in
    sym (flat_map-map id (λ c. section_headers_at b c.at) (numbered LC_SEGMENT_64 b))
    ∙ ap (flat_map id)
    (chosen_in LC_SEGMENT_64 (λ c. section_headers_at b c.at) headers_taken b (λ c n. sym (ap headers_taken (in_segment b c n)))
    ∙ ap (λ (hs : List HeadCommand). map headers_taken (said_with LC_SEGMENT_64 hs)) says
    ∙ ap (map headers_taken) (segments-listed l counts p uuid trie))
    ∙ flat_map-map id headers_taken (map (segment_for p) p.segments)
    ∙ flat_map-map headers_taken (segment_for p) p.segments

-- THE entry, which an executable alone has
pub entry-told : (l : Link) (counts : Counts) (uuid b : List ℕ) (p : Placed) (trie : ℕ) → Says l counts uuid b p trie
    → entries_of_file b ≡ map entry_taken (list_if l.executable (entry_point_for l p ∷ []))
unfolding entries_of_file
entry-told l counts uuid b p trie says =
    chosen_in LC_MAIN (λ c. (reading entry_point_command b c.at).entryoff) entry_taken b
    (λ c n. sym (ap entry_taken (in_entry_point b c n)))
    ∙ ap (λ (hs : List HeadCommand). map entry_taken (said_with LC_MAIN hs)) says
    ∙ ap (map entry_taken) (entry-listed l counts p uuid trie)

pub uuid-told : (l : Link) (counts : Counts) (uuid b : List ℕ) (p : Placed) (trie : ℕ) → Says l counts uuid b p trie
    → map (λ c. (reading uuid_command b c.at).uuid) (numbered LC_UUID b) ≡ uuid_written uuid ∷ []
uuid-told l counts uuid b p trie says =
    chosen_in LC_UUID (λ c. (reading uuid_command b c.at).uuid) uuid_taken b (λ c n. sym (ap uuid_taken (in_uuid b c n)))
    ∙ ap (λ (hs : List HeadCommand). map uuid_taken (said_with LC_UUID hs)) says
    ∙ ap (map uuid_taken) (one-listed LC_UUID l counts p uuid trie uuid_alone)

-- THE tables of `__LINKEDIT`
pub fixups-told : (l : Link) (counts : Counts) (uuid b : List ℕ) (p : Placed) (trie : ℕ) → Says l counts uuid b p trie
    → tables_of b ≡ record { at = p.linkedit.fixups.start; size = range_size p.linkedit.fixups } ∷ []
unfolding tables_of
fixups-told l counts uuid b p trie says =
    chosen_in LC_DYLD_CHAINED_FIXUPS (table_of_command b) table_taken b (λ c n. sym (ap table_taken (in_linkedit b c (inl n))))
    ∙ ap (λ (hs : List HeadCommand). map table_taken (said_with LC_DYLD_CHAINED_FIXUPS hs)) says
    ∙ ap (map table_taken) (one-listed LC_DYLD_CHAINED_FIXUPS l counts p uuid trie fixups_alone)

pub trie-told : (l : Link) (counts : Counts) (uuid b : List ℕ) (p : Placed) (trie : ℕ) → Says l counts uuid b p trie
    → tries_of b ≡ record { at = p.linkedit.trie.start; size = trie } ∷ []
unfolding tries_of
trie-told l counts uuid b p trie says =
    chosen_in LC_DYLD_EXPORTS_TRIE (table_of_command b) table_taken b (λ c n. sym (ap table_taken (in_linkedit b c (inr (inl n)))))
    ∙ ap (λ (hs : List HeadCommand). map table_taken (said_with LC_DYLD_EXPORTS_TRIE hs)) says
    ∙ ap (map table_taken) (one-listed LC_DYLD_EXPORTS_TRIE l counts p uuid trie trie_alone)

pub signature-told : (l : Link) (counts : Counts) (uuid b : List ℕ) (p : Placed) (trie : ℕ) → Says l counts uuid b p trie
    → signatures_of b ≡ record { at = p.linkedit.signature.start; size = range_size p.linkedit.signature } ∷ []
unfolding signatures_of
signature-told l counts uuid b p trie says =
    chosen_in LC_CODE_SIGNATURE (table_of_command b) table_taken b (λ c n. sym (ap table_taken (in_linkedit b c (inr (inr n)))))
    ∙ ap (λ (hs : List HeadCommand). map table_taken (said_with LC_CODE_SIGNATURE hs)) says
    ∙ ap (map table_taken) (one-listed LC_CODE_SIGNATURE l counts p uuid trie signature_alone)

abbrev pub symbols_taken : HeadCommand → Table
symbols_taken h = record { at = (symtab_taken h).symoff; size = size_of symtab_entry * (symtab_taken h).nsyms }

abbrev pub strings_taken : HeadCommand → Table
strings_taken h = record { at = (symtab_taken h).stroff; size = (symtab_taken h).strsize }

pub symbols-told : (l : Link) (counts : Counts) (uuid b : List ℕ) (p : Placed) (trie : ℕ) → Says l counts uuid b p trie
    → symbol_tables_of b ≡ record { at = p.linkedit.symtab.start; size = size_of symtab_entry * counts.symbols } ∷ []
unfolding symbol_tables_of
symbols-told l counts uuid b p trie says =
    chosen_in LC_SYMTAB (symbols_range b) symbols_taken b (λ c n. sym (ap symbols_taken (in_symtab b c n)))
    ∙ ap (λ (hs : List HeadCommand). map symbols_taken (said_with LC_SYMTAB hs)) says
    ∙ ap (map symbols_taken) (one-listed LC_SYMTAB l counts p uuid trie symtab_alone)

pub strings-told : (l : Link) (counts : Counts) (uuid b : List ℕ) (p : Placed) (trie : ℕ) → Says l counts uuid b p trie
    → string_tables_of b ≡ record { at = p.linkedit.strtab.start; size = counts.strings } ∷ []
unfolding string_tables_of
strings-told l counts uuid b p trie says =
    chosen_in LC_SYMTAB (strings_range b) strings_taken b (λ c n. sym (ap strings_taken (in_symtab b c n)))
    ∙ ap (λ (hs : List HeadCommand). map strings_taken (said_with LC_SYMTAB hs)) says
    ∙ ap (map strings_taken) (one-listed LC_SYMTAB l counts p uuid trie symtab_alone)

-- what is taken of a library's command in the file
abbrev pub path_at : List ℕ → Command → ℕ × List ℕ
path_at b c = ((reading dylib_command b c.at).name_offset, behind b c (size_of dylib_command))

abbrev pub path_for : List ℕ → ℕ × List ℕ
path_for name = (size_of dylib_command, path_filled (size_of dylib_command) name)

names_told : (b : List ℕ) (cs : List Command) (names : List (List ℕ)) → map (path_at b) cs ≡ map path_for names
    → map (λ c. path_of b c (reading dylib_command b c.at).name_offset) cs ≡ map name_of names
names_told b [] [] e = refl
names_told b [] (name ∷ names) e = cc
names_told b (c ∷ cs) [] e = cc
names_told b (c ∷ cs) (name ∷ names) e =
    let first : path_at b c ≡ path_for name = ap (λ (xs : List (ℕ × List ℕ)). get_or xs 0 (0, [])) e in
    let offset : (reading dylib_command b c.at).name_offset ≡ 24 = ap (λ (x : ℕ × List ℕ). x.0) first in
    let path : behind b c 24 ≡ path_filled 24 name = ap (λ (x : ℕ × List ℕ). x.1) first in
    let here : path_of b c (reading dylib_command b c.at).name_offset ≡ name_of name =
    ap (path_of b c) offset ∙ ap name_of path ∙ name_of-zeros name _ in
    ap (λ (t : List ℕ). t ∷ map (λ d. path_of b d (reading dylib_command b d.at).name_offset) cs) here
    ∙ ap (λ (ts : List (List ℕ)). name_of name ∷ ts) (names_told b cs names (ap (λ (xs : List (ℕ × List ℕ)). drop 1 xs) e))

libraries-taken : (names : List (List ℕ)) → map path_taken (map needed_dylib_for names) ≡ map path_for
    names
libraries-taken [] = refl
libraries-taken (name ∷ names) = ap (λ (xs : List (ℕ × List ℕ)). path_for name ∷ xs) (libraries-taken names)

-- THE libraries, by their names up to the first NUL
pub libraries-told : (l : Link) (counts : Counts) (uuid b : List ℕ) (p : Placed) (trie : ℕ) → Says l counts uuid b p trie
    → libraries_of b ≡ map name_of (libraries_needed l)
unfolding libraries_of
libraries-told l counts uuid b p trie says =
    names_told b (numbered LC_LOAD_DYLIB b) (libraries_needed l)
    (chosen_in LC_LOAD_DYLIB (path_at b) path_taken b (λ c n. sym (ap path_taken (in_dylib b c (inr n))))
    ∙ ap (λ (hs : List HeadCommand). map path_taken (said_with LC_LOAD_DYLIB hs)) says
    ∙ ap (map path_taken) (libraries-listed l counts p uuid trie) ∙ libraries-taken (libraries_needed l))
