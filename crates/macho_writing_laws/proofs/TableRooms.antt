-- The table of a link's run has as many entries and bytes of names as were counted, and no more pages than room is kept for.
use Rattle.std.proofs.Common.{◌≡◌, ℕ, List, [], ◌∷◌, ◌++◌, length, refl, sym, ap, ◌∙◌, arith}
use Rattle.std.specs.Prelude.{sum_by}
use Rattle.std.proofs.lemmas.List.{length-append}
use Rattle.std.proofs.lemmas.List.Concat.{length-flat_map}
use Rattle.std.proofs.lemmas.List.Sums.{sum_by-cons}
use Rattle.macho_model.specs.declared.placed.Counts.{Counts}
use Rattle.macho_model.specs.Links.{Link}
use Rattle.macho_model.specs.Needs.{imports_of}
use Rattle.macho_model.specs.Fixups.{import_entries_of, import_format}
use Rattle.macho_model.specs.Images.{import_entry_size}
use Rattle.macho_model.specs.ImportTable.{names_text}
use Rattle.macho_fixups.specs.Tables.{table_room}
use Rattle.macho_fixups.specs.Calls.{all_pages}
use Rattle.macho_fixups.proofs.Bounds.{room_grows}
use Rattle.macho_promise.specs.FixupsSay.{fixup_segments}
use Rattle.macho_promise.specs.Sizes.{AreCounts, counts_with, text_size}
use Rattle.macho_writing_laws.specs.Rooms.{TablesHaveRoom}
use Rattle.macho_writing_laws.proofs.Tables.{pages_kept}
use Rattle.macho_model.specs.Rooms.{fixup_room, pointer_pages}
use Rattle.macho_promise.proofs.Counted.{imports_counted, names_counted}

size_counted : (l : Link) (counts : Counts) → AreCounts l counts → counts.import_size ≡ import_entry_size (import_format l)
unfolding counts_with
size_counted l counts are = ap (λ (c : Counts). c.import_size) are.are

-- and those of the table
sum_same : (names : List (List ℕ)) → sum_by (λ (name : List ℕ). length (name ++ 0 ∷ [])) names ≡ sum_by text_size names
sum_same [] = refl
sum_same (n ∷ names) =
    omega (
      arith,
      sum_same names,
      length-append n (0 ∷ []),
      sum_by-cons (λ (name : List ℕ). length (name ++ 0 ∷ [])) n names,
      sum_by-cons text_size n names,
    )

names_long : (l : Link) → length (names_text l) ≡ sum_by text_size (imports_of l)
unfolding names_text
names_long l = length-flat_map (λ (name : List ℕ). name ++ 0 ∷ []) (imports_of l) ∙ sum_same (imports_of l)

pub tables_room : TablesHaveRoom
tables_room l counts p fixups format entries names sound are run table =
    let pages : ℕ = all_pages fixups (fixup_segments p) in
    let few = pages_kept l counts p fixups sound run in
    let many : length entries ≡ counts.imports = table.entries_are.long ∙ sym (imports_counted l counts are) in
    let bytes : length names ≡ counts.name_bytes = ap length table.names_are ∙ names_long l ∙ sym (names_counted l counts are) in
    let size : import_entry_size format ≡ counts.import_size =
    ap import_entry_size table.format_is ∙ sym (size_counted l counts are) in
    let grows = room_grows counts.import_size (length entries) counts.imports (length names) counts.name_bytes pages (pointer_pages p)
    (omega (arith, many)) (omega (arith, bytes)) few in
    let same : table_room (length entries) (import_entry_size format) (length names) pages
    ≡ table_room (length entries) counts.import_size (length names) pages =
    ap (λ (n : ℕ). table_room (length entries) n (length names) pages) size in
    let room : table_room counts.imports counts.import_size counts.name_bytes (pointer_pages p)
    ≡ fixup_room counts (pointer_pages p) = refl in
    omega (arith, grows, same, room, sound.placed.least.rooms.fixups)
