-- Entries that were looked at one by one and two by two meet the conditions of a section.
--
-- Of two entries at different places the earlier one was compared with the later one, and what was compared says the same
-- the other way round. An entry has one slot with itself.
use Rattle.std.proofs.Common.{◌≡◌, ℕ, ◌+◌, ◌/◌, ◌%◌, ◌^◌, ◌<◌, ◌≤◌, List, length, get_or, Option, Some, None, IfSome, sym, ap, subst, ◌∙◌, refl, arith, inl, inr}
use Rattle.std.proofs.lemmas.Bool.{cases_lt}
use Rattle.std.proofs.lemmas.List.{get_or_default}
use Rattle.macho_unwind_pages.specs.declared.entries.Personality.{Personality}
use Rattle.macho_unwind_pages.specs.declared.entries.ResolvedUnwindInfo.{ResolvedUnwindInfo}
use Rattle.macho_unwind_pages.specs.Entries.{AreEntries}
use Rattle.macho_unwind.specs.steps.Conditions.{IsFit, AreApart, HaveOneSlot}
use Rattle.macho_unwind.proofs.EntryLookup.{no_entry}

one_slot-same : (a : Option Personality) → HaveOneSlot a a
one_slot-same None = tt
one_slot-same (Some p) = λ same. refl

one_slot-sym : (a b : Option Personality) → HaveOneSlot a b → HaveOneSlot b a
one_slot-sym None None h = tt
one_slot-sym None (Some q) h = tt
one_slot-sym (Some p) None h = tt
one_slot-sym (Some p) (Some q) h = λ same. sym (h (sym same))

-- entries each of which is fit, and each two of which are apart, meet the conditions of a section
pub are_entries : (text : ℕ) (entries : List ResolvedUnwindInfo)
    → ((k : ℕ) → k < length entries → IsFit text (get_or entries k no_entry))
    → ((i j : ℕ) → i < j → j < length entries → AreApart (get_or entries i no_entry) (get_or entries j no_entry)) → AreEntries text entries
are_entries text entries fit apart =
    record {
      distinct = λ i j d lt within same. (apart i j lt within).starts
          (ap (λ (e : ResolvedUnwindInfo). e.start) (at i d (omega arith)) ∙ same
          ∙ sym (ap (λ (e : ResolvedUnwindInfo). e.start) (at j d within)));
      starts = λ k d h. subst (λ (e : ResolvedUnwindInfo). text ≤ e.start) (at k d h) (fit k h).start;
      slots = λ k d h. subst (λ (e : ResolvedUnwindInfo). IfSome e.personality (λ p. text ≤ p.slot)) (at k d h) (fit k h).slot;
      lsdas = λ k d h. subst (λ (e : ResolvedUnwindInfo). IfSome e.lsda (λ a. text ≤ a)) (at k d h) (fit k h).lsda;
      ends = λ k d h. subst (λ (e : ResolvedUnwindInfo). e.start + e.length < 2 ^ 64) (at k d h) (fit k h).end;
      alike = λ i d h j e m. subst (λ (f : ResolvedUnwindInfo). HaveOneSlot (get_or entries i d).personality f.personality) (at j e m)
          (subst (λ (f : ResolvedUnwindInfo). HaveOneSlot f.personality (get_or entries j no_entry).personality)
          (at i d h) (alike i j h m));
      clear = λ k d h. subst (λ (e : ResolvedUnwindInfo). e.encoding / 2 ^ 28 % 4 ≡ 0) (at k d h) (fit k h).clear;
    }
  where
    at : (k : ℕ) (d : ResolvedUnwindInfo) → k < length entries → get_or entries k no_entry ≡ get_or entries k d
    at k d h = get_or_default entries k no_entry d h

    alike : (i j : ℕ) → i < length entries → j < length entries
        → HaveOneSlot (get_or entries i no_entry).personality (get_or entries j no_entry).personality
    alike i j h m =
        elim (cases_lt i j) [
          | inl lt ↦ (apart i j lt m).slots
          | inr ge ↦ elim (cases_lt j i) [
            | inl gt ↦ one_slot-sym (get_or entries j no_entry).personality (get_or entries i no_entry).personality (apart j i gt h).slots
            | inr le ↦
                let same : i ≡ j = omega arith in
                subst (λ (k : ℕ). HaveOneSlot (get_or entries i no_entry).personality (get_or entries k no_entry).personality) same
                (one_slot-same (get_or entries i no_entry).personality)
          ]
        ]
