-- What the rows of a link say.
--
-- Rows are made of relocations, slot by slot; what is made of the rows is made of the same relocations in the same order. An entry
-- that keeps its rules has one relocation of its personality at most, so its row tells all there is.
use Rattle.std.proofs.Common.{◌≡◌, ℕ, ◌+◌, ◌*◌, ◌/◌, ◌<◌, ◌≤◌, true, nat_le, List, [], ◌∷◌, ◌++◌, length, map, refl, sym, ap, ◌∙◌, arith}
use Rattle.std.proofs.lemmas.Bool.Decides.{nat_tests}
use Rattle.std.proofs.lemmas.List.{length-map}
use Rattle.std.specs.List.{range_with_len, flat_map, Contains}
use Rattle.macho_model.specs.declared.rules.UnwindRule.TheVariants.{U3}
use Rattle.macho_model.specs.Links.{Link, SectionId, header_at}
use Rattle.macho_model.specs.Needs.{relocations_at, initializer_sections, unwind_sections, PERSONALITY_PLACE}
use Rattle.macho_model.specs.Uses.{Use, ByInitializer, ByPersonality, personality_uses}
use Rattle.macho_model.specs.Targets.{target_of_relocation}
use Rattle.macho_model.specs.Consumed.{EntryId, entry_count, entries_of_link, relocations_in_entry, START_PLACE}
use Rattle.macho_model.specs.Made.{initializers_of}
use Rattle.macho_promise.specs.Noted.{uses_of_initializers, uses_of_personalities}
use Rattle.macho_consumed.specs.declared.rows.Initializer.{Initializer}
use Rattle.macho_consumed.specs.Rows.{initializer_row, initializer_rows_in, initializer_rows, entry_row, entry_rows}
use Rattle.macho_consumed.specs.Told.{EntriesKeepRules}
use Rattle.macho_consumed.specs.Laws.{target_of_initializer, use_of_initializer, uses_of_entry, InitializersAreRows, InitializersAreUsed, PersonalitiesAreUsed}
use Rattle.macho_consumed.proofs.Joined.{joined_agree}
use Rattle.macho_model.proofs.Uses.{initializers_are, map_flat, flat_flat}
use Rattle.macho_bytes.proofs.Maps.{flat_map-map}
use Rattle.macho_bytes.proofs.Bools.{and_left, and_right}
use Rattle.macho_bytes.proofs.Members.{range_contains}

-- what is made of each row of initializers
made : {Z : Type 0} (l : Link) (g : Initializer → Z) (f : SectionId → ℕ → Z) → ((s : SectionId) (r : ℕ)
    → g (initializer_row l s r) ≡ f s r) → (s : SectionId) (rs : List ℕ)
    → map g (map (initializer_row l s) rs) ≡ map (f s) rs
made l g f same s [] = refl
made {Z = Z} l g f same s (r ∷ rs) = ap (λ (z : Z). z ∷ map g (map (initializer_row l s) rs)) (same s r)
    ∙ ap (λ (zs : List Z). f s r ∷ zs) (made l g f same s rs)

made_of_rows : {Z : Type 0} (l : Link) (g : Initializer → Z) (f : SectionId → ℕ → Z) → ((s : SectionId) (r : ℕ)
    → g (initializer_row l s r) ≡ f s r)
    → flat_map (λ s. flat_map (λ slot. map (f s) (relocations_at l s (8 * slot))) (range_with_len 0 ((header_at l s).size / 8)))
    (initializer_sections l) ≡ map g (initializer_rows l)
unfolding initializer_rows initializer_rows_in
made_of_rows l g f same =
    sym (map_flat g (initializer_rows_in l) (initializer_sections l)
    ∙ joined_agree (λ s. map g (initializer_rows_in l s)) (λ s. flat_map (λ slot. map (f s) (relocations_at l s (8 * slot)))
    (range_with_len 0 ((header_at l s).size / 8))) (initializer_sections l)
    (λ s c.
    map_flat g (λ slot. map (initializer_row l s) (relocations_at l s (8 * slot))) (range_with_len 0 ((header_at l s).size / 8))
    ∙ joined_agree (λ slot. map g (map (initializer_row l s) (relocations_at l s (8 * slot)))) (λ slot. map (f s) (relocations_at l s
    (8 * slot))) (range_with_len 0 ((header_at l s).size / 8))
    (λ slot d. made l g f same s (relocations_at l s (8 * slot)))))

pub are_rows : InitializersAreRows
are_rows l = initializers_are l ∙ made_of_rows l (target_of_initializer l) (target_of_relocation l) (λ s r. refl)

-- and as many
pub are_many : (l : Link) → length (initializers_of l) ≡ length (initializer_rows l)
are_many l = ap length (are_rows l) ∙ length-map (initializer_rows l) (target_of_initializer l)

pub are_used : InitializersAreUsed
unfolding uses_of_initializers
are_used l = made_of_rows l use_of_initializer ByInitializer (λ s r. refl)

-- the personality of an entry
one_use : (l : Link) (s : SectionId) (e : ℕ) (rs : List ℕ) → relocations_in_entry l s e PERSONALITY_PLACE ≡ rs → length rs ≤ 1
    → map (ByPersonality s) rs ≡ uses_of_entry (entry_row l (record { of_section = s; entry = e }))
unfolding entry_row
one_use l s e [] is few = rw is refl
one_use l s e (r ∷ []) is few = rw is refl
one_use l s e (r ∷ q ∷ rs) is few = absurd (omega arith)

few_there : (l : Link) (s : SectionId) (e : ℕ) → EntriesKeepRules l → Contains (unwind_sections l) s → e < entry_count l s
    → length (relocations_in_entry l s e PERSONALITY_PLACE) ≤ 1
few_there l s e keeps there lt =
    at_most _ (and_left _ _ (and_right (nat_le (length (relocations_in_entry l s e START_PLACE)) 1) _ (keeps.unwind s e U3 there lt)))
  where
    at_most : (n : ℕ) → nat_le n 1 ≡ true → n ≤ 1
    at_most n few = grind (arith, nat_tests, few)

pub are_used_by_entries : PersonalitiesAreUsed
unfolding uses_of_personalities entry_rows entries_of_link
are_used_by_entries l keeps =
    let ids : SectionId → List EntryId = λ s. map (λ e. record { of_section = s; entry = e }) (range_with_len 0 (entry_count l s)) in
    let f : EntryId → List Use = λ d. uses_of_entry (entry_row l d) in
    joined_agree (personality_uses l) (λ s. flat_map f (ids s)) (unwind_sections l) (λ s c.
    joined_agree (λ e. map (ByPersonality s) (relocations_at l s (32 * e + PERSONALITY_PLACE))) (λ e. f
    (record { of_section = s; entry = e })) (range_with_len 0 (entry_count l s))
    (λ e d. one_use l s e (relocations_in_entry l s e PERSONALITY_PLACE) refl
    (few_there l s e keeps c (range_contains (entry_count l s) e d)))
    ∙ sym (flat_map-map f (λ e. record { of_section = s; entry = e }) (range_with_len 0 (entry_count l s))))
    ∙ sym (flat_flat f ids (unwind_sections l)) ∙ sym (flat_map-map uses_of_entry (entry_row l) (flat_map ids (unwind_sections l)))
