-- Where names and symbols lead, by what the table knows: the entry of a name leads to its best row, and what has no entry
-- is of no event.
use Rattle.std.proofs.Common.{◌≡◌, ℕ, ◌+◌, ◌<◌, inl, inr, true, false, Some, None, List, [], ◌∷◌, length, map, get_or, refl, ap, subst, sym, ◌∙◌, arith}
use Rattle.std.specs.List.{position_or_len}
use Rattle.std.proofs.lemmas.List.{get_or-map, length-map}
use Rattle.std.proofs.lemmas.List.Sums.{position_or_len_is}
use Rattle.macho_model.specs.Resolution.{SymbolId, same_symbol}
use Rattle.macho_symbols.specs.declared.solved.Common.{Common}
use Rattle.macho_symbols.specs.declared.solved.Solved.{Solved}
use Rattle.macho_symbol_names.specs.declared.notes.Sort.{Sort}
use Rattle.macho_symbol_names.specs.declared.notes.Sort.TheVariants.{Section, Absolute, Common as CommonSort, Offered, Nowhere}
use Rattle.macho_symbol_names.specs.declared.table.Entry.{Entry}
use Rattle.macho_symbol_names.specs.Kept.{FileRows}
use Rattle.macho_symbol_names.specs.Events.{Event, row_at, event_at, events, best_of}
use Rattle.macho_symbol_names.specs.Tables.{Heads, heads_of, IsEntryOf, IsKnown, IsNowhere, names_of, entry_name, no_entry}
use Rattle.macho_symbols.specs.Targets.{named_in, led_in, lead_in, own_in, chosen_in, id_of}
use Rattle.macho_symbols.specs.steps.Solved.{IsSolved, common_id, common_told}
use Rattle.macho_symbols.specs.Kept.{noted_of}
use Rattle.macho_symbol_names.proofs.Chains.{name_of_entry}

-- the first common of a place
pub common_found : (commons : List Common) (s : SymbolId) (i : ℕ) (c : Common) → i < length commons
    → ((k : ℕ) (d : Common) → k < i → same_symbol s (common_id (get_or commons k d)) ≡ false)
    → same_symbol s (common_id (get_or commons i c)) ≡ true
    → position_or_len (same_symbol s) (map common_id commons) ≡ i
common_found commons s i c within others same =
    position_or_len_is (same_symbol s) (map common_id commons) i (common_id c) (omega (arith, within, length-map commons common_id))
    (λ k h. ap (same_symbol s) (get_or-map common_id commons k c (common_id c) (omega (arith, h, within))) ∙ others k c h)
    (λ h. ap (same_symbol s) (get_or-map common_id commons i c (common_id c) within) ∙ same)

pub common_missing : (commons : List Common) (s : SymbolId) (d : SymbolId)
    → ((k : ℕ) (c : Common) → k < length commons → same_symbol s (common_id (get_or commons k c)) ≡ false)
    → position_or_len (same_symbol s) (map common_id commons) ≡ length commons
common_missing commons s d others =
    let none : Common = record { file = 0; symbol = 0; size = 0; align = 0 } in
    position_or_len_is (same_symbol s) (map common_id commons) (length commons) d (omega (arith, length-map commons common_id))
    (λ k h. ap (same_symbol s) (get_or-map common_id commons k none d h) ∙ others k none h)
    (λ h. absurd (omega (arith, h, length-map commons common_id)))

-- the ids of the commons that were chosen
pub common_ids : (s : Solved) → IsSolved s → map common_id s.commons.items ≡ map id_of (chosen_in s.files.items)
common_ids s is = ap (map common_id) is.commons ∙ told (chosen_in s.files.items)
  where
    told : (es : List Event) → map common_id (map common_told es) ≡ map id_of es
    told [] = refl
    told (e ∷ es) = ap (λ xs. id_of e ∷ xs) (told es)

-- the best event of a name is the row of its entry
pub best_of_entry : (files : List FileRows) (heads : Heads) (entries : List Entry) (name : List ℕ) (j : ℕ)
    → IsKnown files heads entries (events files) → IsEntryOf files entries name j
    → best_of name (events files) ≡ Some (event_at files (get_or entries j no_entry).file (get_or entries j no_entry).row)
best_of_entry files heads entries name j known of_name =
    let named : entry_name files (get_or entries j no_entry) ≡ name =
    sym (name_of_entry files entries j no_entry of_name.0) ∙ of_name.1 in
    subst (λ n. best_of n (events files) ≡ Some (event_at files (get_or entries j no_entry).file (get_or entries j no_entry).row)) named
    (known.knows.each j no_entry of_name.0)

pub entry_best : (s : Solved) (name : List ℕ) (j : ℕ) → IsSolved s → IsEntryOf s.files.items s.table.entries.items name j
    → best_of name (events s.files.items) ≡ Some
    (event_at s.files.items (get_or s.table.entries.items j no_entry).file (get_or s.table.entries.items j no_entry).row)
entry_best s name j is of_name = best_of_entry s.files.items (heads_of s.table) s.table.entries.items name j is.known of_name

-- so the name leads where that row does
pub leads : (s : Solved) (name : List ℕ) (j : ℕ) (e : Entry) (sort : Sort) → IsSolved s
    → IsEntryOf s.files.items s.table.entries.items name j → e ≡ get_or s.table.entries.items j no_entry
    → sort ≡ (row_at s.files.items e.file e.row).sort
    → named_in s.files.items (noted_of s.imports.items) name ≡ lead_in s.files.items (noted_of s.imports.items) name
    (event_at s.files.items e.file e.row) sort
unfolding named_in
leads s name j e sort is of_name entry same =
    ap (led_in s.files.items (noted_of s.imports.items) name)
    (entry_best s name j is of_name ∙ ap (λ x. Some (event_at s.files.items x.file x.row)) (sym entry))
    ∙ ap (lead_in s.files.items (noted_of s.imports.items) name (event_at s.files.items e.file e.row)) (sym same)

pub leads_nowhere : (s : Solved) (name : List ℕ) → IsSolved s → IsNowhere name (names_of s.files.items s.table.entries.items)
    → named_in s.files.items (noted_of s.imports.items) name ≡ led_in s.files.items (noted_of s.imports.items) name None
unfolding named_in
leads_nowhere s name is nowhere = ap (led_in s.files.items (noted_of s.imports.items) name) (is.known.knows.rest name nowhere)

-- what is neither offered nor nowhere leads by itself
pub leads_itself : (files : List FileRows) (noted : List (List ℕ)) (name : List ℕ) (e : Event) (sort : Sort) → (sort ≡ Offered → ⊥)
    → (sort ≡ Nowhere → ⊥)
    → lead_in files noted name e sort ≡ own_in files e sort
leads_itself files noted name e Section offered nowhere = refl
leads_itself files noted name e Absolute offered nowhere = refl
leads_itself files noted name e CommonSort offered nowhere = refl
leads_itself files noted name e Offered offered nowhere = absurd (offered refl)
leads_itself files noted name e Nowhere offered nowhere = absurd (nowhere refl)
