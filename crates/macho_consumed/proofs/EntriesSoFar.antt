-- The entries that were read so far: each one more fits, leads somewhere, and adds its row.
--
-- What holds of the first n entries holds of the first n + 1 where it holds of the entry n.
use Rattle.std.proofs.Common.{◌≡◌, ℕ, ◌+◌, true, List, [], ◌∷◌, ◌++◌, map, sym, ap, ◌∙◌, subst, arith, below_more, append_assoc}
use Rattle.std.specs.List.{range_with_len}
use Rattle.std.proofs.lemmas.List.{append-nil}
use Rattle.std.proofs.lemmas.List.FromFn.{map-range_with_len_more}
use Rattle.macho_consumed.specs.declared.rows.UnwindEntry.{UnwindEntry}
use Rattle.macho_symbols.specs.Kept.{ResolvedRows}
use Rattle.macho_consumed.specs.steps.Entries.{EntryFits, EntriesFit, EntriesLead, row_in, rows_in}
use Rattle.macho_consumed.specs.steps.Checked.{LeadsSomewhere}

pub entries_none : (b : List ℕ) (k : ℕ) → EntriesFit b k 0
entries_none b k = record { entries = λ e lt. absurd (omega arith) }

pub entries_more : (b : List ℕ) (k n : ℕ) → EntriesFit b k n → EntryFits b k n → EntriesFit b k (n + 1)
entries_more b k n fit one = record { entries = below_more _ n fit.entries one }

pub lead_none : (r : ResolvedRows) (b : List ℕ) (file k : ℕ) → EntriesLead r b file k 0
lead_none r b file k = λ e lt. absurd (omega arith)

pub lead_more : (r : ResolvedRows) (b : List ℕ) (file k n : ℕ) (row : UnwindEntry) → EntriesLead r b file k n
    → row ≡ row_in b file k n → LeadsSomewhere r file row.personality true → EntriesLead r b file k (n + 1)
lead_more r b file k n row so_far is next =
    below_more (λ e. LeadsSomewhere r file (row_in b file k e).personality true) n so_far
    (subst (λ (x : UnwindEntry). LeadsSomewhere r file x.personality true) is next)

pub entry_rows_none : (b : List ℕ) (file k : ℕ) (rows : List UnwindEntry) → rows ≡ rows ++ rows_in b file k 0
unfolding rows_in
entry_rows_none b file k rows = sym (append-nil rows)

pub entry_rows_more : (b : List ℕ) (file k n : ℕ) (rows : List UnwindEntry) (row : UnwindEntry) → row ≡ row_in b file k n
    → (rows ++ rows_in b file k n) ++ row ∷ [] ≡ rows ++ rows_in b file k (n + 1)
unfolding rows_in
entry_rows_more b file k n rows row is =
    append_assoc rows (map (row_in b file k) (range_with_len 0 n)) (row ∷ [])
    ∙ ap (λ (xs : List UnwindEntry). rows ++ (map (row_in b file k) (range_with_len 0 n) ++ xs)) (ap (λ (x : UnwindEntry). x ∷ []) is)
    ∙ ap (λ (xs : List UnwindEntry). rows ++ xs) (sym (map-range_with_len_more (row_in b file k) 0 n n (omega arith)))
