-- A table that stands in a file says the import table of its link.
--
-- What the table's clauses read of an entry is its library, the place of its name and its addend; the bit between the first
-- two is read from the word itself, which stands behind header, starts and the entries before it: it is a sum of the library,
-- below 256, and of a multiple of 512. A name stands behind those before it, up to its NUL, so it is read back.
use Rattle.std.proofs.Common.{◌≡◌, ◌≢◌, ℕ, ◌+◌, ◌-◌, ◌*◌, ◌^◌, ◌<◌, ◌==◌, not, if◌then◌else◌, Bool, true, false, List, [], ◌∷◌, ◌++◌, length, get_or, slice_range, sym, ap, subst, ◌∙◌, arith, inl, inr, Option, Some, None, pos}
use Rattle.std.specs.Prelude.{All, Contains}
use Rattle.std.specs.Int.{w32, cast_unsigned}
use Rattle.std.specs.List.{flat_map, filter_map}
use Rattle.std.specs.Str.{bytes_eq}
use Rattle.std.proofs.lemmas.Bool.{cases_lt}
use Rattle.std.proofs.lemmas.List.Elements.{All-get_or, Contains-get_or}
use Rattle.std.proofs.lemmas.List.Sums.{prefix_len-le-length}
use Rattle.macho_bytes.specs.Numbers.{little, le_at, le_bytes, bits}
use Rattle.macho_bytes.specs.Texts.{Stands}
use Rattle.macho_bytes.proofs.Numbers.{little_is_sound, number-stands, stands-front, stands-back}
use Rattle.macho_bytes.proofs.Tables.{table-stands}
use Rattle.macho_wire.specs.declared.fixups.ChainedFixupsHeader.{ChainedFixupsHeader}
use Rattle.macho_model.specs.declared.targets.Target.{Target}
use Rattle.macho_model.specs.declared.targets.Target.TheVariants as target
use Rattle.macho_model.specs.Links.{Link, SectionId, carried_of}
use Rattle.macho_model.specs.Needs.{imports_of, import_library, libraries_needed}
use Rattle.macho_model.specs.Fields.{Field, fields_of}
use Rattle.macho_model.specs.Values.{is_pointer}
use Rattle.macho_model.specs.Exports.{library_number}
use Rattle.macho_model.specs.Images.{Table, fixups_header, import_entry_size, import_place, import_entry}
use Rattle.macho_model.specs.Images as images
use Rattle.macho_model.specs.Fixups.{EntryOfImport, same_entry, has_room, own_entry, own_entries, import_entries_of}
use Rattle.macho_model.specs.ImportTable.{names_text, entry_of_link, name_of_entry, name_place, EntrySays}
use Rattle.macho_fixups.specs.declared.run.Fixup.{Fixup}
use Rattle.macho_fixups.specs.declared.run.FixupSegment.{FixupSegment}
use Rattle.macho_fixups.specs.declared.imports.ImportEntry.{ImportEntry}
use Rattle.macho_fixups.specs.Tables.{image_starts_text, entry_text, entry_word, table_header, table_text, names_place, imports_place}
use Rattle.macho_fixups.specs.Calls.{AreEntries}
use Rattle.macho_fixups.specs.Readings.{IsRead, entry_seen}
use Rattle.macho_fixups.specs.Laws.{NameIsRead}
use Rattle.macho_fixups.proofs.TableTexts.{header_long}
use Rattle.macho_fixups.proofs.Rows.{starts_long}
use Rattle.macho_fixups.proofs.NamesRead.{names_are_read}
use Rattle.macho_linkedit.specs.Imports.{IsEntryFor, IsImportTable, AreTellable, TableStands}
use Rattle.macho_linkedit.specs.Laws.{TableIsSaid}
use Rattle.macho_linkedit.proofs.NamesStand.{name_stands, whole}
use Rattle.macho_linkedit.proofs.Numbering.{field_below}
use Rattle.macho_linkedit.proofs.LinkEntries.{plain_of_link, own_of_link, entries_long}
use Rattle.macho_bytes.specs.Spellings.{spelling}
use Rattle.macho_wire.specs.Spellings.{chained_fixups_header_rows}
use Rattle.macho_model.specs.steps.ImportTable.{no_entry}
use Rattle.macho_bytes.proofs.Members.{flat_map_contains, filter_map_contains}
use Rattle.macho_fixups.proofs.EntryReading.{entry_long, word_stands}
use Rattle.macho_model.proofs.Distinct.{distinct_contains}

-- the entries stand behind header and starts
entries_stand : (b : List ℕ) (at base : ℕ) (fixups : List Fixup) (segments : List FixupSegment) (format : ℕ) (entries : List ImportEntry)
    (names : List ℕ)
    → Stands b (record { at = at; text = table_text base fixups segments format entries names })
    → Stands b (record { at = at + imports_place fixups segments; text = flat_map (entry_text format) entries })
unfolding table_text
entries_stand b at base fixups segments format entries names s =
    let head = spelling chained_fixups_header_rows (table_header fixups segments format entries) in
    let starts = image_starts_text base fixups segments in
    let texts = flat_map (entry_text format) entries in
    stands-front b (at + imports_place fixups segments) texts names
    (stands-back b (at + 28) (at + imports_place fixups segments) starts (texts ++ names) (omega (arith, starts_long base fixups segments))
    (stands-back b at (at + 28) head (starts ++ (texts ++ names))
    (omega (arith, header_long (table_header fixups segments format entries))) s))

-- the word of entry k is the sum of its fields
word_is : (b : List ℕ) (t : Table) (base : ℕ) (fixups : List Fixup) (segments : List FixupSegment) (format : ℕ)
    (entries : List ImportEntry) (names : List ℕ)
    (k : ℕ) (d : ImportEntry) → TableStands b t base fixups segments format entries names → k < length entries
    → (get_or entries k d).library < 256 → (get_or entries k d).name_offset < 2 ^ 23
    → le_at 4 b (import_place b t k) ≡ (get_or entries k d).library + (get_or entries k d).name_offset * 2 ^ 9
word_is b t base fixups segments format entries names k d table lt small near =
    ap (λ (p : ℕ). le_at 4 b p) place
    ∙ number-stands little little_is_sound 4 (entry_word (get_or entries k d)) b
    (t.at + imports_place fixups segments + import_entry_size format * k)
    (omega (arith, small, near))
    (word_stands b (t.at + imports_place fixups segments + import_entry_size format * k) format (get_or entries k d)
    (table-stands (entry_text format) (import_entry_size format) entries (t.at + imports_place fixups segments) k d b
    (record { long = λ j x inside. entry_long format (get_or entries j x) }) lt
    (entries_stand b t.at base fixups segments format entries names table.text)))
  where
    place : import_place b t k ≡ t.at + imports_place fixups segments + import_entry_size format * k
    place = ap (λ (h : ChainedFixupsHeader). t.at + h.imports_offset + import_entry_size h.imports_format * k)
        (table.reads.read b t table.text).header

-- an own entry is one of an import
own_import : (l : Link) (e : EntryOfImport) → Contains (own_entries l) e → e.import < length (imports_of l)
unfolding own_entries
own_import l e c =
    let s = flat_map_contains own_of (carried_of l) e (distinct_contains same_entry (flat_map own_of (carried_of l)) e c) in
    let f = filter_map_contains field_own (fields_of l s.0) e s.2 in
    field_below l s.0 f.0 e.import s.1 f.1 (by f.0.addend (is_pointer f.0) f.0.target f.2)
  where
    field_own : Field → Option EntryOfImport
    field_own f = own_entry (is_pointer f) f.target f.addend

    own_of : SectionId → List EntryOfImport
    own_of s = filter_map field_own (fields_of l s)

    some : (b : Bool) (a x : EntryOfImport) → (if b then None else Some a) ≡ Some x → a ≡ x
    some true a x is = cc
    some false a x is = cc

    by : (addend : ℕ) (b : Bool) (t : Target) → own_entry b t addend ≡ Some e → t ≡ target.Import e.import
    by addend true (target.Import id) is =
        let same = some (has_room addend) (record { import = id; addend = addend }) e is in
        ap (λ (x : EntryOfImport). target.Import x.import) same
    by addend true t is = cc
    by addend false t is = cc

entry_import : (l : Link) (k : ℕ) → k < length (import_entries_of l) → (entry_of_link l k).import < length (imports_of l)
entry_import l k lt =
    elim (cases_lt k (length (imports_of l))) [
      | inl first ↦ omega (arith, ap (λ (e : EntryOfImport). e.import) (plain_of_link l k first))
      | inr past ↦
          let j : ℕ = k - length (imports_of l) in
          let inside : j < length (own_entries l) = omega (arith, entries_long l) in
          let is : entry_of_link l k ≡ get_or (own_entries l) j no_entry = own_of_link l j k (omega arith) in
          omega (
            arith,
            ap (λ (e : EntryOfImport). e.import) is,
            own_import l (get_or (own_entries l) j no_entry)
                (Contains-get_or (own_entries l) j no_entry inside),
          )
    ]

-- a library's number fits a byte
number_small : (l : Link) (library : List ℕ) → AreTellable l → library_number l library < 256
number_small l library tell = omega
    (arith, tell.libraries_few, prefix_len-le-length (λ (x : List ℕ). not (bytes_eq library x)) (libraries_needed l))

-- what an entry says
says : (l : Link) (b : List ℕ) (t : Table) (base : ℕ) (fixups : List Fixup) (segments : List FixupSegment) (format : ℕ)
    (entries : List ImportEntry)
    (names : List ℕ) (k : ℕ) → IsImportTable l format entries names → AreEntries format entries → AreTellable l
    → TableStands b t base fixups segments format entries names → k < length (import_entries_of l) → EntrySays l b t k
unfolding names_text
says l b t base fixups segments format entries names k is fits tell table inside = record {
  library = ap (λ (x : images.ImportEntry). x.library) seen ∙ for.library;
  weak = ap (λ (n : ℕ). bits 8 1 n) word ∙ bit (get_or entries k d).library (get_or entries k d).name_offset small;
  place = ap (λ (x : images.ImportEntry). x.name_offset) seen ∙ for.place;
  name = named.is;
  addend = ap (λ (x : images.ImportEntry). x.addend) seen ∙ for.addend;
}
  where
    d : ImportEntry
    d = record { library = 0; name_offset = 0; addend = pos 0 }

    lt : k < length entries
    lt = omega (arith, is.entries_are.long)

    for : IsEntryFor l (entry_of_link l k) (get_or entries k d)
    for = is.entries_are.each k d lt

    read : IsRead b t fixups segments format entries names
    read = table.reads.read b t table.text

    seen : import_entry b t k ≡ entry_seen (get_or entries k d)
    seen = read.entries k d lt

    small : (get_or entries k d).library < 256
    small = omega (arith, for.library, number_small l (import_library l (name_of_entry l k)) tell)

    word : le_at 4 b (import_place b t k) ≡ (get_or entries k d).library + (get_or entries k d).name_offset * 2 ^ 9
    word = word_is b t base fixups segments format entries names k d table lt small (fits.names k d lt)

    bit : (m n : ℕ) → m < 256 → bits 8 1 (m + n * 2 ^ 9) ≡ 0
    bit m n less = omega arith

    import_in : (entry_of_link l k).import < length (imports_of l)
    import_in = entry_import l k inside

    stands : Stands names (record { at = (get_or entries k d).name_offset; text = name_of_entry l k ++ 0 ∷ [] })
    stands =
        subst (λ (W : List ℕ). Stands W (record { at = (get_or entries k d).name_offset; text = name_of_entry l k ++ 0 ∷ [] }))
        (sym is.names_are)
        (let at : 0 + name_place l (entry_of_link l k).import ≡ (get_or entries k d).name_offset = omega (arith, for.place) in
        subst (λ (n : ℕ). Stands (names_text l) (record { at = n; text = name_of_entry l k ++ 0 ∷ [] })) at
        (name_stands (λ (name : List ℕ). name) (imports_of l) [] (names_text l) 0 (entry_of_link l k).import import_in
        (whole (names_text l))))

    named : NameIsRead b t k (name_of_entry l k)
    named =
        names_are_read b t fixups segments format entries names k d (name_of_entry l k) read table.room lt
        (record {
          stands = stands;
          plain = All-get_or (λ name. All (λ c. c ≢ 0) name) (imports_of l)
              (entry_of_link l k).import [] import_in tell.plain;
        })

-- THE import table.
pub table_is_said : TableIsSaid
table_is_said l b t base fixups segments format entries names is fits tell table = record {
  table = t;
  one = table.one;
  format = ap (λ (h : ChainedFixupsHeader). h.imports_format) header ∙ is.format_is;
  count = ap (λ (h : ChainedFixupsHeader). h.imports_count) header ∙ is.entries_are.long;
  entries = λ k lt. says l b t base fixups segments format entries names k is fits tell table lt;
  names =
      ap (λ (h : ChainedFixupsHeader). slice_range b (t.at + h.symbols_offset) (t.at + h.symbols_offset + length (names_text l))) header
      ∙ subst (λ (W : List ℕ). slice_range b place (place + length W) ≡ W) is.names_are read.texts.same;
}
  where
    read : IsRead b t fixups segments format entries names
    read = table.reads.read b t table.text

    header : fixups_header b t ≡ table_header fixups segments format entries
    header = read.header

    place : ℕ
    place = t.at + names_place fixups segments format entries
