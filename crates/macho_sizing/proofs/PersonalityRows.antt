-- The personality functions that rows name are those of the link, and as many numbers of slots at most.
--
-- One row more adds its personality function, unless it is there. By the rules the relocation of a personality is one pointer
-- to a symbol, so it leads where the row's symbol does. The ids of entries are the numbers of the slots of what rows name; in
-- order they are no more than those of the functions, each taken once.
use Rattle.std.proofs.Common.{◌≡◌, ℕ, suc, ◌+◌, ◌<◌, ◌≤◌, ◌||◌, ◌==◌, Bool, true, false, Contains, subst, List, [], ◌∷◌, ◌++◌, map, length, get_or, take, refl, sym, ap, ◌∙◌, arith, Some, None, append-nil}
use Rattle.std.specs.Prelude.{Option, nat_lt}
use Rattle.std.specs.List.{filter_map, cons_option, flat_map}
use Rattle.std.proofs.lemmas.List.{take_more, length-map}
use Rattle.std.proofs.lemmas.List.Elements.{filter_map-append}
use Rattle.std.proofs.lemmas.Bool.{eqb-true}
use Rattle.std.proofs.lemmas.List.Concat.{flat_map-cons}
use Rattle.macho_model.specs.declared.targets.Target.{Target}
use Rattle.macho_model.specs.Links.{Link}
use Rattle.macho_model.specs.Needs.{distinct, PERSONALITY_PLACE}
use Rattle.macho_model.specs.Targets.{same_target, target_of, target_of_relocation, slot_number}
use Rattle.macho_layout.proofs.Distinct.{distinct_push}
use Rattle.macho_model.specs.Consumed.{EntryId, entries_of_link, relocations_in_entry, personality_targets}
use Rattle.macho_symbols.specs.Kept.{symbol_id}
use Rattle.macho_unwind_pages.specs.Entries.{ids_of}
use Rattle.macho_unwind_pages.specs.steps.Entries.{named_by, named_ids}
use Rattle.macho_unwind_pages.specs.Orders.{in_order, put_in_order}
use Rattle.macho_unwind_pages.proofs.Orders.{has, nat_lt-strict, rises-in_order, has-in_order, in_order-unique, length-in_order}
use Rattle.macho_promise.specs.Sizes.{unwind_input}
use Rattle.macho_consumed.specs.declared.rows.PersonalityUse.{PersonalityUse}
use Rattle.macho_consumed.specs.declared.rows.UnwindEntry.{UnwindEntry}
use Rattle.macho_consumed.specs.Rows.{entry_row, entry_rows}
use Rattle.macho_consumed.specs.Told.{EntriesKeepRules}
use Rattle.macho_consumed.specs.steps.Inputs.{number_of_target, input_by}
use Rattle.macho_consumed.proofs.BoundInputs.{IsInSection, in_section, inputs_told, person_leads, one_personality}
use Rattle.macho_linkedit.proofs.Members.{in_distinct}
use Rattle.macho_needs.specs.Tables.{with_some}
use Rattle.macho_needs.proofs.Deciding.{targets_decide}
use Rattle.macho_sizing.specs.steps.Personalities.{personality_named, personality_of}
use Rattle.macho_model.proofs.Uses.{personalities_are as targets_are}
use Rattle.macho_bytes.proofs.Members.{contains_first, contains_map, map_contains, contains_behind}
use Rattle.macho_unwind_pages.proofs.NamedIds.{there_has}

-- an entry that says nothing
abbrev pub no_entry : UnwindEntry
no_entry = record {
  file = 0;
  section = 0;
  entry = 0;
  start = record { section = 0; offset = 0 };
  length = 0;
  encoding = 0;
  personality = None;
  lsda = None;
}

pub personalities_more : (l : Link) (entries : List UnwindEntry) (k : ℕ) (d : UnwindEntry) → k < length entries
    → distinct same_target (filter_map (personality_of l) (take (k + 1) entries))
    ≡ with_some same_target (distinct same_target (filter_map (personality_of l) (take k entries))) (personality_of l (get_or entries k d))
personalities_more l entries k d lt =
    ap (λ (es : List UnwindEntry). distinct same_target (filter_map (personality_of l) es)) (take_more entries k d lt)
    ∙ ap (distinct same_target) (filter_map-append (personality_of l) (take k entries) (get_or entries k d ∷ []))
    ∙ by (personality_of l (get_or entries k d))
  where
    by : (o : Option Target) → distinct same_target (filter_map (personality_of l) (take k entries) ++ cons_option o [])
        ≡ with_some same_target (distinct same_target (filter_map (personality_of l) (take k entries))) o
    by None = ap (distinct same_target) (append-nil (filter_map (personality_of l) (take k entries)))
    by (Some t) = distinct_push same_target targets_decide (filter_map (personality_of l) (take k entries)) t

-- a row names what its entry's relocation leads to
personality_row : (l : Link) (d : EntryId) (rs : List ℕ) → relocations_in_entry l d.of_section d.entry PERSONALITY_PLACE ≡ rs
    → EntriesKeepRules l → IsInSection l d
    → cons_option (personality_of l (entry_row l d)) [] ≡ map (target_of_relocation l d.of_section) rs
unfolding entry_row
personality_row l d [] is keeps it = rw is refl
personality_row l d (r ∷ []) is keeps it =
    rw is (ap (λ (t : Target). t ∷ []) (sym (person_leads l d r keeps it (subst (λ (xs : List ℕ). Contains xs r) (sym is)
    (contains_first r [])))))
personality_row l d (q ∷ r ∷ rs) is keeps it = absurd (omega (arith, one_personality l d keeps it, ap length is))

rows_named : (l : Link) (ds : List EntryId) → EntriesKeepRules l → ((d : EntryId) → Contains ds d → IsInSection l d)
    → filter_map (personality_of l) (map (entry_row l) ds)
    ≡ flat_map (λ d. map (target_of_relocation l d.of_section) (relocations_in_entry l d.of_section d.entry PERSONALITY_PLACE)) ds
rows_named l [] keeps each = refl
rows_named l (d ∷ ds) keeps each =
    by (personality_of l (entry_row l d)) refl
    (personality_row l d (relocations_in_entry l d.of_section d.entry PERSONALITY_PLACE) refl keeps (each d (contains_first d ds)))
    (rows_named l ds keeps (λ e there. each e (contains_behind d e ds there)))
    ∙ sym (flat_map-cons targets d ds)
  where
    targets : EntryId → List Target
    targets e = map (target_of_relocation l e.of_section) (relocations_in_entry l e.of_section e.entry PERSONALITY_PLACE)

    by : (o : Option Target) → personality_of l (entry_row l d) ≡ o → cons_option (personality_of l (entry_row l d)) [] ≡ targets d
        → filter_map (personality_of l) (map (entry_row l) ds) ≡ flat_map targets ds
        → filter_map (personality_of l) (map (entry_row l) (d ∷ ds)) ≡ targets d ++ flat_map targets ds
    by None is one rest = ap (λ (o : Option Target). cons_option o (filter_map (personality_of l) (map (entry_row l) ds))) is ∙ rest
        ∙ ap (λ (ts : List Target). ts ++ flat_map targets ds) (ap (λ (o : Option Target). cons_option o []) (sym is) ∙ one)
    by (Some t) is one rest = ap (λ (o : Option Target). cons_option o (filter_map (personality_of l) (map (entry_row l) ds))) is
        ∙ ap (λ (ts : List Target). t ∷ ts) rest
        ∙ ap (λ (ts : List Target). ts ++ flat_map targets ds) (ap (λ (o : Option Target). cons_option o []) (sym is) ∙ one)

-- THE personality functions of a link are those that its rows name
pub personalities_are : (l : Link) → EntriesKeepRules l
    → distinct same_target (filter_map (personality_of l) (entry_rows l)) ≡ personality_targets l
unfolding entry_rows
personalities_are l keeps = ap (distinct same_target) (rows_named l (entries_of_link l) keeps (in_section l)) ∙ sym (targets_are l)

-- a list in order is no longer
put_near : (before : ℕ → ℕ → Bool) (x : ℕ) (ys : List ℕ) → length (put_in_order before x ys) ≤ length ys + 1
unfolding put_in_order
put_near before x [] = omega arith
put_near before x (y ∷ ys) = by (x == y) (before x y) refl refl (put_near before x ys)
  where
    by : (a b : Bool) → (x == y) ≡ a → before x y ≡ b → length (put_in_order before x ys) ≤ length ys + 1
        → length (put_in_order before x (y ∷ ys)) ≤ length (y ∷ ys) + 1
    by true b same e near = rw same (omega arith)
    by false true other e near = rw (other, e) (omega arith)
    by false false other e near = rw (other, e) (omega (arith, near))

order_near : (before : ℕ → ℕ → Bool) (xs : List ℕ) → length (in_order before xs) ≤ length xs
unfolding in_order
order_near before [] = omega arith
order_near before (x ∷ xs) = omega (arith, put_near before x (in_order before xs), order_near before xs)

-- numbers of which each is among others are, in order, no more than these
has_both : (z : ℕ) (xs ys : List ℕ) → ((x : ℕ) → Contains xs x → Contains ys x) → has z (xs ++ ys) ≡ has z ys
has_both z [] ys among = refl
has_both z (x ∷ xs) ys among =
    by (z == x) refl (has_both z xs ys (λ y there. among y (suc there.0, omega (arith, there.1), there.2)))
  where
    by : (b : Bool) → (z == x) ≡ b → has z (xs ++ ys) ≡ has z ys → ((z == x) || has z (xs ++ ys)) ≡ has z ys
    by true e rest =
        let same : z ≡ x = eqb-true z x e in
        rw e (sym (there_has z ys (subst (λ (w : ℕ). Contains ys w) (sym same) (among x (contains_first x xs)))))
    by false e rest = rw e rest

pub no_more : (xs ys : List ℕ) → ((x : ℕ) → Contains xs x → Contains ys x) → length (in_order nat_lt xs) ≤ length ys
no_more xs ys among =
    let same : in_order nat_lt (xs ++ ys) ≡ in_order nat_lt ys
    = in_order-unique nat_lt ys (in_order nat_lt (xs ++ ys)) nat_lt-strict (rises-in_order nat_lt (xs ++ ys) nat_lt-strict)
    (λ z. has-in_order nat_lt z (xs ++ ys) ∙ has_both z xs ys among) in
    omega (arith, length-in_order nat_lt xs ys nat_lt-strict, ap length same, order_near nat_lt ys)

-- the ids that entries name are the numbers of the slots of what rows name
ids_named : (l : Link) (rows : List UnwindEntry)
    → named_ids (map (input_by l) rows) ≡ map (slot_number l) (filter_map (personality_of l) rows)
ids_named l [] = refl
ids_named l (e ∷ rows) = by e.personality (ids_named l rows)
  where
    by : (p : Option PersonalityUse) → named_ids (map (input_by l) rows) ≡ map (slot_number l) (filter_map (personality_of l) rows)
        → named_by (number_of_target l e.file p) (named_ids (map (input_by l) rows))
        ≡ map (slot_number l) (cons_option (personality_named l e.file p) (filter_map (personality_of l) rows))
    by None rest = rest
    by (Some p) rest =
        ap (λ (ns : List ℕ). slot_number l (target_of l (symbol_id e.file p.relocation.r_symbolnum)) ∷ ns) rest

pub ids_few : (l : Link) → EntriesKeepRules l
    → length (ids_of (map (unwind_input l) (entries_of_link l))) ≤ length (personality_targets l)
ids_few l keeps =
    let ts = filter_map (personality_of l) (entry_rows l) in
    let ids : named_ids (map (unwind_input l) (entries_of_link l)) ≡ map (slot_number l) ts
    = ap named_ids (sym (inputs_told l keeps)) ∙ ids_named l (entry_rows l) in
    omega (
      arith,
      ap (λ (xs : List ℕ). length (in_order nat_lt xs)) ids,
      no_more (map (slot_number l) ts) (map (slot_number l) (distinct same_target ts)) (among ts),
      length-map (distinct same_target ts) (slot_number l),
      ap length (personalities_are l keeps),
    )
  where
    among : (ts : List Target) (x : ℕ) → Contains (map (slot_number l) ts) x → Contains (map (slot_number l) (distinct same_target ts)) x
    among ts x there =
        let from = map_contains (slot_number l) ts x there in
        subst (λ (n : ℕ). Contains (map (slot_number l) (distinct same_target ts)) n) from.2
        (contains_map (slot_number l) (distinct same_target ts) from.0 (in_distinct same_target targets_decide ts from.0 from.1))
