-- Chosen commons, one row and one file more.
use Rattle.std.proofs.Common.{◌≡◌, ℕ, ◌+◌, true, false, List, [], ◌∷◌, ◌++◌, map, filter, ap, sym, ◌∙◌, append-nil, append_assoc}
use Rattle.std.proofs.lemmas.List.{map-append}
use Rattle.std.proofs.lemmas.List.Elements.{filter-append}
use Rattle.macho_symbols.specs.declared.solved.Common.{Common}
use Rattle.macho_symbol_names.specs.Kept.{FileRows}
use Rattle.macho_symbol_names.specs.Events.{row_count, event_at, events_of_file, events_of}
use Rattle.macho_symbols.specs.steps.Targets.{is_chosen_in}
use Rattle.macho_symbols.specs.steps.Solved.{common_told}
use Rattle.macho_symbol_names.proofs.Lists.{filter_one, filter_none}
use Rattle.macho_symbol_names.proofs.Taking.{file_rows_more, files_more}

pub chosen_more : (files : List FileRows) (file row : ℕ) (old : List Common) (c : Common)
    → is_chosen_in files (event_at files file row) ≡ true → c ≡ common_told (event_at files file row)
    → (old ++ map common_told (filter (is_chosen_in files) (events_of_file files file row))) ++ c ∷ [] ≡ old ++ map common_told
    (filter (is_chosen_in files) (events_of_file files file (row + 1)))
chosen_more files file row old c chosen is =
    let before = events_of_file files file row in
    rw (
      file_rows_more files file row,
      filter-append (is_chosen_in files) before (event_at files file row ∷ []),
      filter_one (is_chosen_in files) (event_at files file row) chosen,
      map-append common_told (filter (is_chosen_in files) before) (event_at files file row ∷ []),
      append_assoc old (map common_told (filter (is_chosen_in files) before)) (c ∷ []),
    )
    (ap (λ x. old ++ (map common_told (filter (is_chosen_in files) before) ++ x ∷ [])) is)

pub not_chosen_more : (files : List FileRows) (file row : ℕ) → is_chosen_in files (event_at files file row) ≡ false
    → filter (is_chosen_in files) (events_of_file files file row) ≡ filter (is_chosen_in files) (events_of_file files file (row + 1))
not_chosen_more files file row other =
    sym (ap (filter (is_chosen_in files)) (file_rows_more files file row)
    ∙ filter-append (is_chosen_in files) (events_of_file files file row) (event_at files file row ∷ [])
    ∙ ap (λ xs. filter (is_chosen_in files) (events_of_file files file row) ++ xs)
    (filter_none (is_chosen_in files) (event_at files file row) other)
    ∙ append-nil (filter (is_chosen_in files) (events_of_file files file row)))

pub chosen_files_more : (files : List FileRows) (file : ℕ)
    → map common_told (filter (is_chosen_in files) (events_of files file)) ++ map common_told
    (filter (is_chosen_in files) (events_of_file files file (row_count files file)))
    ≡ map common_told (filter (is_chosen_in files) (events_of files (file + 1)))
chosen_files_more files file =
    sym (ap (λ es. map common_told (filter (is_chosen_in files) es)) (files_more files file)
    ∙ ap (map common_told) (filter-append (is_chosen_in files) (events_of files file) (events_of_file files file (row_count files file)))
    ∙ map-append common_told (filter (is_chosen_in files) (events_of files file))
    (filter (is_chosen_in files) (events_of_file files file (row_count files file))))
