-- What the rows of a link use is what its walk uses behind carried relocations.
--
-- Rows are made of relocations by number, so each is that of its number; and in the walk initializers come behind carried relocations,
-- personality functions behind initializers, names of export lists last.
use Rattle.std.proofs.Common.{◌≡◌, ℕ, ◌*◌, ◌/◌, List, ◌++◌, map, filter, Option, Some, None, refl, sym, ap, ◌∙◌, subst, append_assoc, All}
use Rattle.std.specs.Prelude.{option_map}
use Rattle.std.specs.List.{flat_map, range_with_len}
use Rattle.std.proofs.lemmas.List.Concat.{flat_map_single}
use Rattle.std.proofs.lemmas.List.Elements.{All-map}
use Rattle.macho_model.specs.ExportLists.{plain_entries}
use Rattle.macho_model.specs.Links.{Link, header_at}
use Rattle.macho_model.specs.Needs.{is_imported, relocations_at, initializer_sections, PERSONALITY_PLACE}
use Rattle.macho_model.specs.Uses.{Use, ByName, uses_of}
use Rattle.macho_model.specs.Consumed.{EntryId, entries_of_link}
use Rattle.macho_promise.specs.UnwindSays.{relocation_of}
use Rattle.macho_promise.specs.Noted.{BeginsWith, uses_of_carried, uses_of_initializers, uses_of_personalities}
use Rattle.macho_needs.specs.declared.needs.Needs.{Needs}
use Rattle.macho_needs.specs.Noted.{IsNoted}
use Rattle.macho_consumed.specs.declared.rows.Initializer.{Initializer}
use Rattle.macho_consumed.specs.declared.rows.UnwindEntry.{UnwindEntry}
use Rattle.macho_consumed.specs.Rows.{initializer_row, initializer_rows_in, initializer_rows, personality_use, entry_row, entry_rows}
use Rattle.macho_consumed.specs.Laws.{use_of_initializer, uses_of_entry}
use Rattle.macho_consumed.specs.Told.{EntriesKeepRules}
use Rattle.macho_consumed.proofs.Members.{all_joined}
use Rattle.macho_consumed.proofs.RowLaws.{are_used, are_used_by_entries}
use Rattle.macho_reading.specs.steps.Rows.{uses_of_row, IsInitializerOf, IsPersonalityOf, IsEntryOf}
use Rattle.macho_reading.specs.steps.Steps.{uses_before_names}
use Rattle.macho_bytes.proofs.Members.{contains_all}

-- rows are of the relocations of their numbers
of_initializers : (l : Link) → All (IsInitializerOf l) (initializer_rows l)
unfolding initializer_rows initializer_rows_in
of_initializers l =
    all_joined (IsInitializerOf l) (initializer_rows_in l) (initializer_sections l) (λ s c.
    all_joined (IsInitializerOf l) (λ slot. map (initializer_row l s) (relocations_at l s (8 * slot)))
    (range_with_len 0 ((header_at l s).size / 8)) (λ slot d.
    All-map (IsInitializerOf l) (initializer_row l s) (relocations_at l s (8 * slot))
    (contains_all (λ r. IsInitializerOf l (initializer_row l s r)) (relocations_at l s (8 * slot)) (λ r e. refl))))

of_personality : (l : Link) (d : EntryId) (o : Option ℕ) → IsPersonalityOf l d.of_section (option_map (personality_use l d) o)
of_personality l d None = tt
of_personality l d (Some r) = refl

of_entries : (l : Link) → All (IsEntryOf l) (entry_rows l)
unfolding entry_rows entry_row
of_entries l =
    All-map (IsEntryOf l) (entry_row l) (entries_of_link l)
    (contains_all (λ d. IsEntryOf l (entry_row l d)) (entries_of_link l) (λ d c. of_personality l d (relocation_of l d PERSONALITY_PLACE)))

-- the walk
pub uses_split : (l : Link) → uses_of l ≡ uses_before_names l ++ map ByName (filter (is_imported l) (plain_entries l.export_lists))
unfolding uses_of uses_before_names uses_of_carried uses_of_initializers uses_of_personalities
uses_split l = refl

begins_with_rows : (l : Link) → BeginsWith l (uses_before_names l)
begins_with_rows l = record { rest = map ByName (filter (is_imported l) (plain_entries l.export_lists)); is = uses_split l }

begins_with_initializers : (l : Link) → BeginsWith l (uses_of_carried l ++ uses_of_initializers l)
unfolding uses_before_names
begins_with_initializers l =
    let names = map ByName (filter (is_imported l) (plain_entries l.export_lists)) in
    record {
      rest = uses_of_personalities l ++ names;
      is = uses_split l ∙ append_assoc (uses_of_carried l ++ uses_of_initializers l) (uses_of_personalities l) names;
    }

-- THE rows of initializers
initializers_used : (l : Link) (rows : List Initializer) → rows ≡ initializer_rows l → flat_map uses_of_row rows ≡ uses_of_initializers l
initializers_used l rows are =
    ap (flat_map uses_of_row) are ∙ flat_map_single use_of_initializer (initializer_rows l) ∙ sym (are_used l)

pub rows_of : (l : Link) (rows : List Initializer) → rows ≡ initializer_rows l → All (IsInitializerOf l) rows
rows_of l rows are = subst (λ (xs : List Initializer). All (IsInitializerOf l) xs) (sym are) (of_initializers l)

pub rows_begin : (l : Link) (rows : List Initializer) → rows ≡ initializer_rows l
    → BeginsWith l (uses_of_carried l ++ flat_map uses_of_row rows)
rows_begin l rows are =
    subst (λ (ws : List Use). BeginsWith l (uses_of_carried l ++ ws)) (sym (initializers_used l rows are)) (begins_with_initializers l)

pub rows_noted : (l : Link) (rows : List Initializer) (n : Needs) → rows ≡ initializer_rows l
    → IsNoted l (uses_of_carried l ++ flat_map uses_of_row rows) n → IsNoted l (uses_of_carried l ++ uses_of_initializers l) n
rows_noted l rows n are noted = subst (λ (ws : List Use). IsNoted l (uses_of_carried l ++ ws) n) (initializers_used l rows are) noted

-- THE rows of unwind entries
entries_used : (l : Link) (rows : List UnwindEntry) → EntriesKeepRules l → rows ≡ entry_rows l
    → flat_map uses_of_entry rows ≡ uses_of_personalities l
entries_used l rows keep are = ap (flat_map uses_of_entry) are ∙ sym (are_used_by_entries l keep)

pub entries_of : (l : Link) (rows : List UnwindEntry) → rows ≡ entry_rows l → All (IsEntryOf l) rows
entries_of l rows are = subst (λ (xs : List UnwindEntry). All (IsEntryOf l) xs) (sym are) (of_entries l)

pub entries_begin : (l : Link) (rows : List UnwindEntry) → EntriesKeepRules l → rows ≡ entry_rows l
    → BeginsWith l ((uses_of_carried l ++ uses_of_initializers l) ++ flat_map uses_of_entry rows)
unfolding uses_before_names
entries_begin l rows keep are =
    subst (λ (ws : List Use). BeginsWith l ((uses_of_carried l ++ uses_of_initializers l) ++ ws)) (sym (entries_used l rows keep are))
    (begins_with_rows l)

pub entries_noted : (l : Link) (rows : List UnwindEntry) (n : Needs) → EntriesKeepRules l → rows ≡ entry_rows l
    → IsNoted l ((uses_of_carried l ++ uses_of_initializers l) ++ flat_map uses_of_entry rows) n → IsNoted l (uses_before_names l) n
unfolding uses_before_names
entries_noted l rows n keep are noted =
    subst (λ (ws : List Use). IsNoted l ((uses_of_carried l ++ uses_of_initializers l) ++ ws) n) (entries_used l rows keep are) noted
