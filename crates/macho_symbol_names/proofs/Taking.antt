-- Events taken in one after another: what is known grows by them, in their order, and a clash among the first ones is one
-- among all.
use Rattle.std.proofs.Common.{◌≡◌, ℕ, ◌+◌, ◌<◌, true, false, List, [], ◌∷◌, ◌++◌, filter, refl, ap, sym, ◌∙◌, arith, append-nil, append_assoc, zero, suc, ◌-◌}
use Rattle.std.specs.List.{range_with_len}
use Rattle.std.proofs.lemmas.List.FromFn.{map-range_with_len_more}
use Rattle.std.proofs.lemmas.List.Elements.{filter-append}
use Rattle.std.proofs.lemmas.List.Concat.{flat_map-append}
use Rattle.macho_symbol_names.specs.declared.table.Entry.{Entry}
use Rattle.macho_symbol_names.specs.declared.fault.SymbolFault.{SymbolFault}
use Rattle.macho_symbol_names.specs.declared.fault.SymbolFault.TheVariants.{DuplicateSymbol, UndefinedSymbol, ExportListMissing, OutOfMemory}
use Rattle.macho_symbol_names.specs.Kept.{FileRows}
use Rattle.macho_symbol_names.specs.Events.{Event, row_at, row_count, event_at, events_of_file, events_of, is_strong_of}
use Rattle.macho_symbol_names.specs.Tables.{Heads, IsTable, IsKnown, IsClash, IsNowhere, IsEntryOf, names_of}
use Rattle.macho_symbol_names.specs.steps.Tables.{TakesIn, Refuses, IsAdded, IsImproved, AreBothStrong}
use Rattle.macho_symbol_names.proofs.Knowing.{knows_nameless, knows_added}
use Rattle.macho_symbol_names.proofs.KnowingBetter.{knows_improved, clash_told}
use Rattle.macho_bytes.proofs.Maps.{range_push}

-- a clash stays one where more events come
pub clash_more : (es more : List Event) (fault : SymbolFault) → IsClash es fault → IsClash (es ++ more) fault
clash_more es more OutOfMemory clash = tt
clash_more es more (UndefinedSymbol name file) clash = clash
clash_more es more (ExportListMissing name) clash = clash
clash_more es more (DuplicateSymbol name first second) clash = record {
  a = clash.a;
  b = clash.b;
  more = clash.more ++ filter (is_strong_of name.items) more;
  strong = filter-append (is_strong_of name.items) es more ∙ ap (λ xs. xs ++ filter (is_strong_of name.items) more) clash.strong;
  left = clash.left;
  right = clash.right;
}

-- nothing is taken in
pub takes_none : (files : List FileRows) (heads : Heads) (entries : List Entry) → TakesIn files heads entries heads entries []
takes_none files heads entries = record { says = λ es known. rw (append-nil es) known }

-- some events, and then others
pub takes_both : (files : List FileRows) (heads : Heads) (entries : List Entry) (heads' : Heads) (entries' : List Entry)
    (heads'' : Heads) (entries'' : List Entry)
    (some more : List Event) → TakesIn files heads entries heads' entries' some → TakesIn files heads' entries' heads'' entries'' more
    → TakesIn files heads entries heads'' entries'' (some ++ more)
takes_both files heads entries heads' entries' heads'' entries'' some more first then =
    record { says = λ es known. rw (← append_assoc es some more) (then.says (es ++ some) (first.says es known)) }

-- some events, and then a clash; and a clash that others follow
pub refuses_then : (files : List FileRows) (heads : Heads) (entries : List Entry) (heads' : Heads) (entries' : List Entry)
    (some more : List Event) (fault : SymbolFault)
    → TakesIn files heads entries heads' entries' some → Refuses files heads' entries' more fault
    → Refuses files heads entries (some ++ more) fault
refuses_then files heads entries heads' entries' some more fault first then =
    record { says = λ es known. rw (← append_assoc es some more) (then.says (es ++ some) (first.says es known)) }

pub refuses_more : (files : List FileRows) (heads : Heads) (entries : List Entry) (some more : List Event) (fault : SymbolFault)
    → Refuses files heads entries some fault → Refuses files heads entries (some ++ more) fault
refuses_more files heads entries some more fault first =
    record { says = λ es known. rw (← append_assoc es some more) (clash_more (es ++ some) more fault (first.says es known)) }

-- one row
pub takes_nameless : (files : List FileRows) (heads : Heads) (entries : List Entry) (file row : ℕ) → (row_at files file row).global ≡ false
    → TakesIn files heads entries heads entries (event_at files file row ∷ [])
takes_nameless files heads entries file row local =
    record {
      says = λ es known. record {
        table = known.table;
        knows = knows_nameless files es entries
            (event_at files file row) known.knows local;
      };
    }

pub takes_new : (files : List FileRows) (heads : Heads) (entries : List Entry) (heads' : Heads) (entries' : List Entry) (file row : ℕ)
    → (row_at files file row).global ≡ true
    → IsNowhere (row_at files file row).name (names_of files entries) → IsAdded entries entries' file row → IsTable files heads' entries'
    → TakesIn files heads entries heads' entries' (event_at files file row ∷ [])
takes_new files heads entries heads' entries' file row global nowhere added table =
    record {
      says = λ es known. record
          { table = table; knows = knows_added files es entries entries' file row known.knows global nowhere added };
    }

pub takes_better : (files : List FileRows) (heads : Heads) (entries : List Entry) (heads' : Heads) (entries' : List Entry)
    (number file row : ℕ) → (row_at files file row).global ≡ true
    → IsEntryOf files entries (row_at files file row).name number → IsImproved files entries entries' number file row
    → IsTable files heads' entries'
    → TakesIn files heads entries heads' entries' (event_at files file row ∷ [])
takes_better files heads entries heads' entries' number file row global of_name improved table =
    record {
      says = λ es known. record {
        table = table;
        knows = knows_improved files heads es entries entries' number file row known.table known.knows global of_name
            improved;
      };
    }

pub refuses_row : (files : List FileRows) (heads : Heads) (entries : List Entry) (number file row : ℕ) (fault : SymbolFault)
    → (row_at files file row).global ≡ true
    → IsEntryOf files entries (row_at files file row).name number → AreBothStrong files entries number file row fault
    → Refuses files heads entries (event_at files file row ∷ []) fault
refuses_row files heads entries number file row fault global of_name both =
    record { says = λ es known. clash_told files es entries number file row fault known.knows global of_name both }

-- one row more of a file, and one file more
pub file_rows_more : (files : List FileRows) (file row : ℕ)
    → events_of_file files file (row + 1) ≡ events_of_file files file row ++ event_at files file row ∷ []
unfolding events_of_file
file_rows_more files file row = map-range_with_len_more (event_at files file) 0 row row (omega arith)

pub files_more : (files : List FileRows) (count : ℕ) → events_of files (count + 1) ≡ events_of files count ++ events_of_file files count
    (row_count files count)
unfolding events_of
files_more files count =
    let f : ℕ → List Event = λ file. events_of_file files file (row_count files file) in
    rw (range_push count, flat_map-append f (range_with_len 0 count) (count ∷ []), append-nil (f count)) refl

-- the rows of a file go on behind the first ones, and so do the files
pub file_rows_split : (files : List FileRows) (file row more : ℕ)
    → (rest : List Event) × (events_of_file files file (row + more) ≡ events_of_file files file row ++ rest)
file_rows_split files file row zero = ([], ap (events_of_file files file) (omega arith) ∙ sym (append-nil (events_of_file files file row)))
file_rows_split files file row (suc more) =
    let before = file_rows_split files file row more in (
      before.0 ++ event_at files file (row + more) ∷ [],
      ap (events_of_file files file) (omega arith) ∙ file_rows_more files file (row + more)
          ∙ ap (λ xs. xs ++ event_at files file (row + more) ∷ []) before.1
          ∙ append_assoc (events_of_file files file row) before.0 (event_at files file (row + more) ∷ []),
    )

pub files_split : (files : List FileRows) (few more : ℕ)
    → (rest : List Event) × (events_of files (few + more) ≡ events_of files few ++ rest)
files_split files few zero = ([], ap (events_of files) (omega arith) ∙ sym (append-nil (events_of files few)))
files_split files few (suc more) =
    let before = files_split files few more in
    let next = events_of_file files (few + more) (row_count files (few + more)) in (
      before.0 ++ next,
      ap (events_of files) (omega arith) ∙ files_more files (few + more) ∙ ap (λ xs. xs ++ next) before.1
          ∙ append_assoc (events_of files few) before.0 next,
    )

-- a clash among the first rows, or the first files, is one among all
pub refuses_file : (files : List FileRows) (heads : Heads) (entries : List Entry) (heads' : Heads) (entries' : List Entry)
    (file row count : ℕ) (fault : SymbolFault) → row < count
    → TakesIn files heads entries heads' entries' (events_of_file files file row)
    → Refuses files heads' entries' (event_at files file row ∷ []) fault
    → Refuses files heads entries (events_of_file files file count) fault
refuses_file files heads entries heads' entries' file row count fault less taken refused =
    let rest = file_rows_split files file (row + 1) (count - (row + 1)) in
    let all : events_of_file files file count ≡ (events_of_file files file row ++ event_at files file row ∷ []) ++ rest.0 =
    ap (events_of_file files file) (omega arith) ∙ rest.1 ∙ ap (λ xs. xs ++ rest.0) (file_rows_more files file row) in
    rw all (refuses_more files heads entries _ rest.0 fault (refuses_then files heads entries heads' entries' _ _ fault taken refused))

pub clash_in_files : (files : List FileRows) (heads : Heads) (entries : List Entry) (file count : ℕ) (fault : SymbolFault) → file < count
    → IsKnown files heads entries (events_of files file)
    → Refuses files heads entries (events_of_file files file (row_count files file)) fault
    → IsClash (events_of files count) fault
clash_in_files files heads entries file count fault less known refused =
    let rest = files_split files (file + 1) (count - (file + 1)) in
    let all : events_of files count ≡ (events_of files file ++ events_of_file files file (row_count files file)) ++ rest.0 =
    ap (events_of files) (omega arith) ∙ rest.1 ∙ ap (λ xs. xs ++ rest.0) (files_more files file) in
    rw all (clash_more _ rest.0 fault (refused.says (events_of files file) known))

-- no rows, no files
pub file_rows_none : (files : List FileRows) (file : ℕ) → events_of_file files file 0 ≡ []
unfolding events_of_file
file_rows_none files file = refl

pub files_none : (files : List FileRows) → events_of files 0 ≡ []
unfolding events_of
files_none files = refl
