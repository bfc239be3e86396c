-- What a file says of the fixups of its link, from the table and the words that stand in it.
--
-- The table is that of the link as rows of numbers: an entry is spelled by the numbers that the link has for it. Its addend is spelled by
-- 32 bits, which are the lowest of the addend modulo 2 ^ 64.
use Rattle.std.proofs.Common.{◌≡◌, ℕ, ◌+◌, ◌-◌, ◌*◌, ◌^◌, ◌<◌, ◌≤◌, ◌==◌, if◌then◌else◌, Bool, true, false, List, [], ◌∷◌, ◌++◌, map, length, get_or, refl, sym, ap, subst, ◌∙◌, arith, pos, inl, inr, All}
use Rattle.std.specs.Prelude.{nat_lt}
use Rattle.std.specs.Int.{w32, cast_unsigned}
use Rattle.std.specs.List.{flat_map}
use Rattle.std.proofs.lemmas.List.{append-nil, ext_get_or, get_or-map, length-map}
use Rattle.std.proofs.lemmas.List.Elements.{All-contains}
use Rattle.macho_bytes.specs.Numbers.{little, le_bytes, row_bytes, AllBelow, signed}
use Rattle.macho_bytes.specs.Texts.{Stands}
use Rattle.macho_wire.specs.declared.fixups.ChainedFixupsHeader.{ChainedFixupsHeader}
use Rattle.macho_model.specs.Links.{Link}
use Rattle.macho_model.specs.Needs.{imports_of, import_library}
use Rattle.macho_model.specs.Exports.{library_number}
use Rattle.macho_model.specs.Segments.{list_if}
use Rattle.macho_model.specs.Fixups.{EntryOfImport, import_entries_of, entries_have_addends, import_format}
use Rattle.macho_model.specs.ImportTable.{names_text, name_place, ImportTableSays}
use Rattle.macho_model.specs.Placement.{Placed}
use Rattle.macho_fixups.specs.declared.run.Fixup.{Fixup}
use Rattle.macho_fixups.specs.declared.imports.ImportEntry.{ImportEntry}
use Rattle.macho_fixups.specs.declared.run.FixupSegment.{FixupSegment}
use Rattle.macho_fixups.specs.Tables.{image_starts_text, entry_text, entry_word, table_header, names_place, table_text}
use Rattle.macho_fixups.specs.Rows.{table_rows}
use Rattle.macho_fixups.specs.Calls.{AreEntries, FitsTable}
use Rattle.macho_fixups.specs.steps.Calls.{EntryFits}
use Rattle.macho_fixups.proofs.Rows.{table_same, words_stand}
use Rattle.macho_promise.specs.FixupsSay.{IsFixupOf, fixup_segments, entry_row, FixupsSay}
use Rattle.macho_linkedit.specs.Imports.{IsEntryFor, AreEntriesOf, IsImportTable, AreTellable}
use Rattle.macho_linkedit.specs.Laws.{FixupsAreSaid}
use Rattle.macho_bytes.specs.Spellings.{spelling, ReadsBack}
use Rattle.macho_wire.specs.Spellings.{chained_fixups_header_rows}
use Rattle.macho_model.specs.steps.ImportTable.{no_entry}

four : (a b c d w x y z : ℕ) → a ≡ w → b ≡ x → c ≡ y → d ≡ z → (a ∷ b ∷ c ∷ d ∷ []) ≡ (w ∷ x ∷ y ∷ z ∷ [])
four a b c d w x y z p q r s =
    ap (λ (n : ℕ). n ∷ b ∷ c ∷ d ∷ []) p ∙ ap (λ (n : ℕ). w ∷ n ∷ c ∷ d ∷ []) q ∙ ap (λ (n : ℕ). w ∷ x ∷ n ∷ d ∷ []) r
    ∙ ap (λ (n : ℕ). w ∷ x ∷ y ∷ n ∷ []) s

-- four bytes tell nothing of what is above them
low_same : (x : ℕ) → le_bytes 4 (x + (2 ^ 64 - 2 ^ 32)) ≡ le_bytes 4 x
unfolding le_bytes
low_same x = four _ _ _ _ _ _ _ _ (omega arith) (omega arith) (omega arith) (omega arith)

signed_same : (x : ℕ) → le_bytes 4 (signed 32 x) ≡ le_bytes 4 x
signed_same x = by (nat_lt x (2 ^ (32 - 1)))
  where
    by : (b : Bool) → le_bytes 4 (if b then x else x + (2 ^ 64 - 2 ^ 32)) ≡ le_bytes 4 x
    by true = refl
    by false = low_same x

-- an entry
row_same : (l : Link) (format : ℕ) (d : EntryOfImport) (e : ImportEntry) → format ≡ import_format l → IsEntryFor l d e
    → entry_text format e ≡ entry_row l d
unfolding entry_text row_bytes
row_same l format d e is for = by (entries_have_addends l) refl
  where
    library : ℕ
    library = library_number l (import_library l (get_or (imports_of l) d.import []))

    w : ℕ
    w = library + name_place l d.import * 2 ^ 9

    word : entry_word e ≡ w
    word = ap (λ (n : ℕ). n + e.name_offset * 2 ^ 9) for.library ∙ ap (λ (n : ℕ). library + n * 2 ^ 9) for.place

    plus : le_bytes 4 (cast_unsigned w32 e.addend) ≡ le_bytes 4 d.addend
    plus = sym (signed_same (cast_unsigned w32 e.addend)) ∙ ap (le_bytes 4) for.addend

    by : (b : Bool) → entries_have_addends l ≡ b → entry_text format e ≡ entry_row l d
    by true has =
        let two : (format == 2) ≡ true = ap (λ (f : ℕ). f == 2) is ∙ ap (λ (b : Bool). (if b then 2 else 1) == 2) has in
        ap (λ (b : Bool). if b then le_bytes 4 (entry_word e) ++ le_bytes 4 (cast_unsigned w32 e.addend) else le_bytes 4 (entry_word e)) two
        ∙ ap (λ (n : ℕ). le_bytes 4 n ++ le_bytes 4 (cast_unsigned w32 e.addend)) word
        ∙ ap (λ (t : List ℕ). le_bytes 4 w ++ t) (plus ∙ sym (append-nil (le_bytes 4 d.addend)))
        ∙ ap (λ (b : Bool). row_bytes little 4 (w ∷ list_if b (d.addend ∷ []))) (sym has)
    by false none =
        let one : (format == 2) ≡ false = ap (λ (f : ℕ). f == 2) is ∙ ap (λ (b : Bool). (if b then 2 else 1) == 2) none in
        ap (λ (b : Bool). if b then le_bytes 4 (entry_word e) ++ le_bytes 4 (cast_unsigned w32 e.addend) else le_bytes 4 (entry_word e)) one
        ∙ ap (le_bytes 4) word ∙ sym (append-nil (le_bytes 4 w))
        ∙ ap (λ (b : Bool). row_bytes little 4 (w ∷ list_if b (d.addend ∷ []))) (sym none)

-- all entries
rows_same : (l : Link) (format : ℕ) (es : List ImportEntry) → format ≡ import_format l → AreEntriesOf l es
    → map (entry_text format) es ≡ map (entry_row l) (import_entries_of l)
rows_same l format es is are =
    ext_get_or [] (map (entry_text format) es) (map (entry_row l) (import_entries_of l))
    (omega (arith, length-map es (entry_text format), length-map (import_entries_of l) (entry_row l), are.long)) each
  where
    e : ImportEntry
    e = record { library = 0; name_offset = 0; addend = pos 0 }

    each : (k : ℕ) → k < length (map (entry_text format) es)
        → get_or (map (entry_text format) es) k [] ≡ get_or (map (entry_row l) (import_entries_of l)) k []
    each k lt =
        let inside : k < length es = omega (arith, lt, length-map es (entry_text format)) in
        get_or-map (entry_text format) es k e [] inside
        ∙ row_same l format (get_or (import_entries_of l) k no_entry) (get_or es k e) is (are.each k e inside)
        ∙ sym (get_or-map (entry_row l) (import_entries_of l) k no_entry [] (omega (arith, inside, are.long)))

-- so the table of the link's entries, spelled record by record, is that of the link
pub text_same : (l : Link) (base : ℕ) (fixups : List Fixup) (segments : List FixupSegment) (format : ℕ) (entries : List ImportEntry)
    (names : List ℕ)
    → IsImportTable l format entries names → table_text base fixups segments format entries names
    ≡ table_rows base fixups segments (import_format l) (map (entry_row l) (import_entries_of l)) (names_text l)
text_same l base fixups segments format entries names is =
    let rows = map (entry_row l) (import_entries_of l) in
    sym (table_same base fixups segments format entries names)
    ∙ ap (λ (es : List (List ℕ)). table_rows base fixups segments format es names)
    (rows_same l format entries is.format_is is.entries_are)
    ∙ ap (λ (f : ℕ). table_rows base fixups segments f rows names) is.format_is
    ∙ ap (table_rows base fixups segments (import_format l) rows) is.names_are

-- THE law
unfoldable pub fixups_are_said : FixupsAreSaid
fixups_are_said l b p t fixups format entries names run is table words = record {
  fixups = fixups;
  fits = run.run;
  are = λ f. ((λ c. All-contains (IsFixupOf l p) fixups f run.each c), run.all f);
  table = t;
  one = table.one;
  text =
      subst (λ (text : List ℕ). Stands b (record { at = t.at; text = text }))
      (text_same l p.base fixups (fixup_segments p) format entries names is) table.text;
  words = words_stand (fixup_segments p) fixups b words;
}
