-- The first sections of a placement, taken care of one after the other.
--
-- One more section that has bytes adds its part behind the others, one of zeros adds none. Parts were written in order, so all of
-- them are written once the last one is.
use Rattle.std.proofs.Common.{◌≡◌, ℕ, ◌+◌, ◌<◌, ◌≤◌, not, cond, true, false, Bool, List, [], ◌∷◌, ◌++◌, map, length, get_or, take, take_all, refl, sym, ap, subst, ◌∙◌, append-nil, append_assoc, All}
use Rattle.std.specs.List.{flat_map}
use Rattle.std.proofs.lemmas.List.{take_more}
use Rattle.std.proofs.lemmas.List.Elements.{All-nil, All-cons, All-append, filter-append}
use Rattle.std.proofs.lemmas.Grind.{flat_map-append}
use Rattle.macho_bytes.specs.Texts.{Part, put}
use Rattle.macho_bytes.proofs.Puts.{length-put}
use Rattle.macho_records.specs.Sections.{is_zerofill}
use Rattle.macho_model.specs.declared.placed.PlacedSection.{PlacedSection}
use Rattle.macho_model.specs.declared.placed.Slot.{Slot}
use Rattle.macho_model.specs.Links.{Link, header_at}
use Rattle.macho_model.specs.Placement.{Placed, id_of}
use Rattle.macho_fixups.specs.declared.run.Fixup.{Fixup}
use Rattle.macho_promise.specs.Asked.{fixups_in, slot_fixup, fixups_asked}
use Rattle.macho_placed_laws.specs.Parts.{written}
use Rattle.macho_fields.specs.Faults.{NoneStandsIn}
use Rattle.macho_contents.specs.Filled.{ArePartsOf, IsSectionPart, SectionsAreFilled}
use Rattle.macho_contents.specs.steps.Sections.{IsDone, filled_among, AreDone}

-- one more part
pub parts_more : {X : Type 0} (IsPart : X → Part → Type 0) (xs : List X) (parts : List Part) (x : X) (part : Part)
    → ArePartsOf IsPart xs parts
    → IsPart x part → ArePartsOf IsPart (xs ++ x ∷ []) (parts ++ part ∷ [])
parts_more IsPart [] [] x part all one = (one, tt)
parts_more IsPart [] (q ∷ parts) x part all one = absurd all
parts_more IsPart (y ∷ xs) [] x part all one = absurd all
parts_more IsPart (y ∷ xs) (q ∷ parts) x part all one = (all.0, parts_more IsPart xs parts x part all.1 one)

pub written_more : (parts : List Part) (part : Part) (b : List ℕ)
    → written (parts ++ part ∷ []) b ≡ put part.at part.text (written parts b)
written_more [] part b = refl
written_more (q ∷ parts) part b = written_more parts part (put q.at q.text b)

filled_more : (l : Link) (qs : List PlacedSection) (q : PlacedSection) (b : Bool) → is_zerofill (header_at l (id_of q)) ≡ b
    → filled_among l (qs ++ q ∷ []) ≡ filled_among l qs ++ cond b [] (q ∷ [])
filled_more l qs q true is =
    filter-append (λ t. not (is_zerofill (header_at l (id_of t)))) qs (q ∷ [])
    ∙ ap (λ (b : Bool). filled_among l qs ++ cond (not b) (q ∷ []) []) is
filled_more l qs q false is =
    filter-append (λ t. not (is_zerofill (header_at l (id_of t)))) qs (q ∷ [])
    ∙ ap (λ (b : Bool). filled_among l qs ++ cond (not b) (q ∷ []) []) is

pub none_done : (l : Link) (p : Placed) (old : List ℕ) (run : List Fixup) → AreDone l p 0 old old run run
none_done l p old run = record {
  parts = [];
  each = tt;
  same = refl;
  long = refl;
  asked = sym (append-nil run);
  none = All-nil (NoneStandsIn l p);
}

-- THE step.
pub one_more_done : (l : Link) (p : Placed) (n : ℕ) (d : PlacedSection) (old now new : List ℕ) (run mid next : List Fixup)
    → n < length p.sections
    → AreDone l p n old now run mid → IsDone l p (get_or p.sections n d) now new mid next → AreDone l p (n + 1) old new run next
one_more_done l p n d old now new run mid next lt first one = by (is_zerofill (header_at l (id_of q))) refl
  where
    q : PlacedSection
    q = get_or p.sections n d

    more : take (n + 1) p.sections ≡ take n p.sections ++ q ∷ []
    more = take_more p.sections n d lt

    asked : next ≡ run ++ flat_map (fixups_in l p) (take (n + 1) p.sections)
    asked =
        one.asked ∙ ap (λ (fs : List Fixup). fs ++ fixups_in l p q) first.asked
        ∙ append_assoc run (flat_map (fixups_in l p) (take n p.sections)) (fixups_in l p q)
        ∙ ap (λ (fs : List Fixup). run ++ (flat_map (fixups_in l p) (take n p.sections) ++ fs)) (sym (append-nil (fixups_in l p q)))
        ∙ ap (λ (fs : List Fixup). run ++ fs) (sym (flat_map-append (fixups_in l p) (take n p.sections) (q ∷ [])))
        ∙ ap (λ (qs : List PlacedSection). run ++ flat_map (fixups_in l p) qs) (sym more)

    none : All (NoneStandsIn l p) (take (n + 1) p.sections)
    none =
        subst (All (NoneStandsIn l p)) (sym more)
        (All-append (NoneStandsIn l p) (take n p.sections) (q ∷ []) first.none (All-cons (NoneStandsIn l p) q [] one.none (All-nil
        (NoneStandsIn l p))))

    by : (b : Bool) → is_zerofill (header_at l (id_of q)) ≡ b → AreDone l p (n + 1) old new run next
    by true zeros = record {
      parts = first.parts;
      each = subst (λ (qs : List PlacedSection). ArePartsOf (IsSectionPart l p (length old)) qs first.parts)
          (sym (ap (filled_among l) more ∙ filled_more l (take n p.sections) q true zeros
          ∙ append-nil (filled_among l (take n p.sections)))) first.each;
      same = one.zeros zeros ∙ first.same;
      long = ap length (one.zeros zeros) ∙ first.long;
      asked = asked;
      none = none;
    }
    by false bytes =
        let put_one = one.filled bytes in
        let part_is : IsSectionPart l p (length old) q put_one.part =
        subst (λ (m : ℕ). IsSectionPart l p m q put_one.part) first.long put_one.is in
        record {
          parts = first.parts ++ put_one.part ∷ [];
          each = subst (λ (qs : List PlacedSection). ArePartsOf (IsSectionPart l p (length old)) qs (first.parts ++ put_one.part ∷ []))
              (sym (ap (filled_among l) more ∙ filled_more l (take n p.sections) q false bytes))
              (parts_more (IsSectionPart l p (length old)) (filled_among l
              (take n p.sections)) first.parts q put_one.part first.each part_is);
          same = put_one.same ∙ ap (put put_one.part.at put_one.part.text) first.same ∙ sym (written_more first.parts put_one.part old);
          long = ap length put_one.same ∙ length-put put_one.part.at put_one.part.text now put_one.is.ends ∙ first.long;
          asked = asked;
          none = none;
        }

-- all of them
pub all_filled : (l : Link) (p : Placed) (n : ℕ) (old new : List ℕ) (run next : List Fixup) → length p.sections ≤ n
    → AreDone l p n old new run next
    → SectionsAreFilled l p old new
all_filled l p n old new run next all done = record {
  parts = done.parts;
  each = subst (λ (qs : List PlacedSection). ArePartsOf (IsSectionPart l p (length old)) (filled_among l qs) done.parts)
      (take_all n p.sections all) done.each;
  same = done.same;
}

pub all_asked : (l : Link) (p : Placed) (n : ℕ) (old new : List ℕ) (run next : List Fixup) → length p.sections ≤ n
    → AreDone l p n old new run next
    → next ≡ run ++ flat_map (fixups_in l p) p.sections
all_asked l p n old new run next all done =
    done.asked ∙ ap (λ (qs : List PlacedSection). run ++ flat_map (fixups_in l p) qs) (take_all n p.sections all)

pub all_stand : (l : Link) (p : Placed) (n : ℕ) (old new : List ℕ) (run next : List Fixup) → length p.sections ≤ n
    → AreDone l p n old new run next
    → All (NoneStandsIn l p) p.sections
all_stand l p n old new run next all done = subst (All (NoneStandsIn l p)) (take_all n p.sections all) done.none

-- what slots ask for, then what sections do
pub asked_joined : (l : Link) (p : Placed) (slots : List Slot) (run mid next : List Fixup) → slots ≡ p.slots
    → mid ≡ run ++ map (slot_fixup l p) slots → next ≡ mid ++ flat_map (fixups_in l p) p.sections → next ≡ run ++ fixups_asked l p
unfolding fixups_asked
asked_joined l p slots run mid next same first then_asked =
    then_asked ∙ ap (λ (fs : List Fixup). fs ++ flat_map (fixups_in l p) p.sections) first
    ∙ ap (λ (ss : List Slot). (run ++ map (slot_fixup l p) ss) ++ flat_map (fixups_in l p) p.sections) same
    ∙ append_assoc run (map (slot_fixup l p) p.slots) (flat_map (fixups_in l p) p.sections)
