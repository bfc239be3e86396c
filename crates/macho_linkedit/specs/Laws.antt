-- Laws on the tables of `__LINKEDIT`: each is the contract of a function of `src/laws.rt`.
use Rattle.std.specs.Prelude.{◌≡◌, ℕ, ◌≤◌, ◌<◌, ◌^◌, false, List, map, length, sum_by, All, IsPermutation}
use Rattle.std.specs.List.{range_with_len}
use Rattle.std.specs.FinMap.{empty}
use Rattle.macho_model.specs.declared.placed.Counts.{Counts}
use Rattle.macho_model.specs.Links.{Link}
use Rattle.macho_model.specs.Placement.{Placed, IsWholeList, IsPlaced}
use Rattle.macho_fixups.specs.declared.run.Fixup.{Fixup}
use Rattle.macho_promise.specs.Asked.{fixups_asked}
use Rattle.macho_model.specs.Images.{Table}
use Rattle.macho_model.specs.ImportTable.{ImportTableSays}
use Rattle.macho_fixups.specs.declared.run.FixupSegment.{FixupSegment}
use Rattle.macho_fixups.specs.declared.imports.ImportEntry.{ImportEntry}
use Rattle.macho_fixups.specs.Calls.{AreEntries}
use Rattle.macho_fixups.specs.Chains.{AllStand}
use Rattle.macho_promise.specs.FixupsSay.{FixupsSay, fixup_segments}
use Rattle.macho_records.specs.Symbols.{is_weak_of}
use Rattle.macho_model.specs.Resolution.{SymbolId, entry_at, name_at}
use Rattle.macho_model.specs.Needs.{import_library}
use Rattle.macho_model.specs.Targets.{target_of_name}
use Rattle.macho_model.specs.Exports.{IsExported, library_number}
use Rattle.macho_model.specs.Values.{is_absolute_target}
use Rattle.macho_model.specs.Stands.{IsAt}
use Rattle.macho_model.specs.Told.{ToldExport, IsReexported}
use Rattle.macho_linkedit.specs.declared.exports.ExportSays.TheVariants.{Reexport}
use Rattle.macho_promise.specs.TrieSays.{IsTrieText, ExportedAs, TrieSays}
use Rattle.macho_promise.specs.Sizes.{IsTrieSize}
use Rattle.macho_linkedit.specs.declared.exports.NamedExport.{NamedExport}
use Rattle.macho_linkedit.specs.Tries.{said_of, value_said, is_thread_local, kept, AreKept, AreSaid, TrieStands}
use Rattle.macho_model.specs.SymbolEntries.{SymbolsSay}
use Rattle.macho_linkedit.specs.TableRows.{symbol_rows}
use Rattle.macho_linkedit.specs.Symbols.{SymbolTable, HasRows, SymbolsStand}
use Rattle.macho_linkedit.specs.Imports.{IsImportTable, AreTellable, TableStands}
use Rattle.macho_model.specs.Objects.{num_symbols, symbol_name}
use Rattle.macho_model.specs.SymbolTable.{table_symbols}
use Rattle.macho_symbols.specs.Kept.{ResolvedRows, IsResolved}
use Rattle.macho_linkedit.specs.declared.listing.LinkedObject.{LinkedObject}
use Rattle.macho_linkedit.specs.Listing.{AreObjects, CanBeListed}
use Rattle.macho_linkedit.specs.Runs.{IsSortedRunOf, IsRunOf, PointersFit}

-- what the parts of a placed link ask for, sorted, is the link's run
abbrev pub SortedIsRun : Type 0
SortedIsRun =
    (l : Link) (counts : Counts) (p : Placed) (asked run : List Fixup) → IsPlaced l counts p → PointersFit l p
    → IsPermutation (fixups_asked l p) asked → IsSortedRunOf asked run → IsRunOf l p run

-- a table with the entries and names of a link says the link's import table
abbrev pub TableIsSaid : Type 0
TableIsSaid =
    (l : Link) (b : List ℕ) (t : Table) (base : ℕ) (fixups : List Fixup) (segments : List FixupSegment) (format : ℕ)
    (entries : List ImportEntry)
    (names : List ℕ) → IsImportTable l format entries names → AreEntries format entries → AreTellable l
    → TableStands b t base fixups segments format entries names
    → ImportTableSays l b

-- with the link's run, and the words of the run, it is all that the file is to say of fixups
abbrev pub FixupsAreSaid : Type 0
FixupsAreSaid =
    (l : Link) (b : List ℕ) (p : Placed) (t : Table) (fixups : List Fixup) (format : ℕ) (entries : List ImportEntry) (names : List ℕ)
    → IsRunOf l p fixups → IsImportTable l format entries names → TableStands b t p.base fixups (fixup_segments p) format entries names
    → AllStand (fixup_segments p) fixups b → FixupsSay l b p

-- the bytes that are kept for the exports of a link are the size that the link's trie has before addresses are known
abbrev pub TrieSizeIsKept : Type 0
TrieSizeIsKept =
    (l : Link) (told : List ToldExport) (exports : List NamedExport) (bytes : List ℕ) (size : ℕ) → AreKept l told exports
    → IsTrieText (map kept exports) bytes → length bytes ≡ size → IsTrieSize l size

-- a trie of a link's exports that stands in a file says the exports of the link
abbrev pub TrieIsSaid : Type 0
TrieIsSaid =
    (l : Link) (b : List ℕ) (p : Placed) (t : Table) (told : List ToldExport) (exports : List NamedExport) (bytes : List ℕ)
    → IsWholeList l p
    → AreSaid l p told exports → TrieStands b t exports bytes → TrieSays l b p

-- a symbol table with the rows of a link that stands in a file says their entries and the strings
abbrev pub SymbolsAreSaid : Type 0
SymbolsAreSaid =
    (l : Link) (counts : Counts) (b : List ℕ) (p : Placed) (at : ℕ) (t : SymbolTable) → HasRows (symbol_rows l counts p) t
    → SymbolsStand b at t
    → SymbolsSay l counts b p

-- and where a file says them, a reader finds the name of each entry at its place
abbrev pub NamesAreFound : Type 0
NamesAreFound =
    (l : Link) (counts : Counts) (b : List ℕ) (p : Placed) → SymbolsSay l counts b p
    → map (symbol_name b) (range_with_len 0 (num_symbols b)) ≡ map (name_at l) (table_symbols l)

-- an exported name that an object defines, and one that is re-exported from a library, say what they are exported as
abbrev pub ValuesAreFound : Type 0
ValuesAreFound =
    (l : Link) (p : Placed) (name : List ℕ) (s : SymbolId) (address : ℕ) → IsExported l name s → IsAt l p 0 empty
    (target_of_name l name) address
    → (is_absolute_target (target_of_name l name) ≡ false → p.base ≤ address)
    → ExportedAs l p name (said_of
    (value_said (target_of_name l name) (is_weak_of (entry_at l s)) (is_thread_local l (target_of_name l name)) address p.base))

abbrev pub ReexportsAreFound : Type 0
ReexportsAreFound =
    (l : Link) (p : Placed) (name : List ℕ) → IsReexported l name → ExportedAs l p name
    (said_of (Reexport (library_number l (import_library l name))))

-- the objects of a link whose symbols are resolved can be listed, where their symbols are few
abbrev pub ResolvedCanBeListed : Type 0
ResolvedCanBeListed =
    (l : Link) (noted : List (List ℕ)) (r : ResolvedRows) (objects : List LinkedObject) → IsResolved l noted r → AreObjects l objects
    → All (λ o. o.file.is_dynamic ≡ false) objects → sum_by (λ o. num_symbols o.file.bytes) objects < 2 ^ 32
    → CanBeListed r objects
