-- Nothing is bad in a placement of which nothing stands against fields, slots and stubs.
--
-- What is told of a field is told of one of a carried section, and each of these is placed.
use Rattle.std.proofs.Common.{◌≡◌, ℕ, List, map, sym, ap, subst, All}
use Rattle.std.specs.Prelude.{Contains}
use Rattle.macho_bytes.proofs.Members.{all_contains, map_contains}
use Rattle.macho_model.specs.declared.placed.PlacedSection.{PlacedSection}
use Rattle.macho_model.specs.declared.targets.Site.{Site}
use Rattle.macho_model.specs.declared.targets.Site.TheVariants as site
use Rattle.macho_model.specs.Links.{Link, SectionId, section_id, carried_of}
use Rattle.macho_model.specs.Placement.{Placed, id_of}
use Rattle.macho_model.specs.Values.{BadRange, BadRebase}
use Rattle.macho_fields.specs.Faults.{IsBadPlace, NoneStandsIn, NoneIsBad}
use Rattle.macho_fields.specs.Through.{NoStubIsFar, EachSlotFits}

pub none_is_bad : (l : Link) (p : Placed) → map id_of p.sections ≡ carried_of l → EachSlotFits l p
    → All (NoneStandsIn l p) p.sections → NoStubIsFar l p
    → NoneIsBad l p
none_is_bad l p listed slots sections stubs = record { range = range; rebase = rebase; place = place }
  where
    stands : (file section : ℕ) → Contains (carried_of l) (section_id file section)
        → (q : PlacedSection) × NoneStandsIn l p q × (q.file ≡ file) × (q.section ≡ section)
    stands file section carried =
        let made = map_contains id_of p.sections (section_id file section)
        (subst (λ (ss : List SectionId). Contains ss (section_id file section)) (sym listed) carried) in (
          made.0,
          all_contains (NoneStandsIn l p) p.sections made.0 sections made.1,
          ap (λ (s : SectionId). s.file) made.2,
          ap (λ (s : SectionId). s.section) made.2,
        )

    range : (at : Site) → BadRange l p at → ⊥
    range (site.Field file section relocation) bad =
        let q = stands file section (bad.2).0 in
        (q.1).range relocation
        (subst (λ (n : ℕ). BadRange l p (site.Field (q.0).file n relocation)) (sym q.3)
        (subst (λ (n : ℕ). BadRange l p (site.Field n section relocation)) (sym q.2) bad))
    range (site.Slot index) bad = bad
    range (site.Stub index) bad = stubs.none index bad

    rebase : (at : Site) → BadRebase l p at → ⊥
    rebase (site.Field file section relocation) bad =
        let q = stands file section (bad.2).0 in
        (q.1).rebase relocation
        (subst (λ (n : ℕ). BadRebase l p (site.Field (q.0).file n relocation)) (sym q.3)
        (subst (λ (n : ℕ). BadRebase l p (site.Field n section relocation)) (sym q.2) bad))
    rebase (site.Slot index) bad = slots.none index bad
    rebase (site.Stub index) bad = bad

    place : (file section relocation : ℕ) → IsBadPlace l p file section relocation → ⊥
    place file section relocation bad =
        let q = stands file section (bad.1).0 in
        (q.1).place relocation
        (subst (λ (n : ℕ). IsBadPlace l p (q.0).file n relocation) (sym q.3)
        (subst (λ (n : ℕ). IsBadPlace l p n section relocation) (sym q.2) bad))
