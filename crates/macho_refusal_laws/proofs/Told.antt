-- A refusal that stands is the refusal of the link.
--
-- Of a valid link no refusal stands that is of the link alone, but for a name that can't be written. A placement that a refusal keeps has
-- the sizes of the link, with unwind information cut at 4 GiB; the written sum of a valid link is far below, so nothing is cut, and of
-- such a placement no refusal stands either.
use Rattle.std.proofs.Common.{◌≡◌, ℕ, ◌^◌, ◌≤◌, min, Some, None, refl, sym, ap, subst, ◌∙◌, arith, false}
use Rattle.std.specs.Prelude.{Option, IfSome}
use Rattle.std.specs.Option.{option_map}
use Rattle.std.proofs.lemmas.Bool.{true≢false}
use Rattle.macho_model.specs.declared.placed.Counts.{Counts}
use Rattle.macho_model.specs.Links.{Link}
use Rattle.macho_model.specs.Placement.{Placed, IsPlaced}
use Rattle.macho_model.specs.WrittenSum.{content_sum, unsigned_sum, written_sum_of}
use Rattle.macho_model.specs.Faults as model
use Rattle.macho_model.specs.Faults.{LinkFault, FaultStands, kept_placement, bad_name}
use Rattle.macho_model.specs.Valid.{IsValid}
use Rattle.macho_promise.specs.Promise.{IsLaidOut, IsKept}
use Rattle.macho_promise.specs.Sizes.{AreCounts}
use Rattle.macho_answer.specs.declared.fault.LinkError.{LinkError}
use Rattle.macho_answer.specs.declared.fault.LinkError.TheVariants.{DuplicateSymbol, UndefinedSymbol, EntryNotDefined, ExportListMissing, BadInitializer, BadUnwind, UnsupportedRelocation, OverlappingFields, BindAddend, FixupPlace, TooMany, ImageTooLarge, RebaseTarget, RelocationRange, BadName, BadInput, OutOfMemory}
use Rattle.macho_layout.specs.Placements.{placed_of}
use Rattle.macho_answer.specs.Standing.{Stands, IsStanding}
use Rattle.macho_model.specs.Grammar.{ObjectsAreRead}
use Rattle.macho_writing_laws.specs.Valid.{ObjectsAreBytes}
use Rattle.macho_refusal_laws.specs.Refusals.{StandingIsTold}
use Rattle.macho_writing_laws.proofs.PlacementRefusals.{placement_is_not_refused}
use Rattle.macho_size_laws.proofs.One.{sizes_one}

-- a valid link's unwind information isn't cut
unwind_small : (l : Link) (counts : Counts) → IsValid l counts → counts.unwind ≤ 2 ^ 32
unfolding content_sum unsigned_sum written_sum_of
unwind_small l counts valid = omega (arith, valid.sum)

pub uncut : (counts : Counts) → counts.unwind ≤ 2 ^ 32 → record counts { unwind = min counts.unwind (2 ^ 32) } ≡ counts
uncut counts small =
    let is : min counts.unwind (2 ^ 32) ≡ counts.unwind = omega (arith, small) in
    ap (λ (n : ℕ). record counts { unwind = n }) is

kept_counts : (l : Link) (p : Placed) (counts : Counts) → AreCounts l counts → IsValid l counts → (kept : IsKept l p) → kept.counts ≡ counts
kept_counts l p counts are valid kept =
    let same : kept.counted.whole ≡ counts = sizes_one l kept.counted.whole counts kept.counted.are are in
    kept.counted.capped ∙ ap (λ (c : Counts). record c { unwind = min c.unwind (2 ^ 32) }) same
    ∙ uncut counts (unwind_small l counts valid)

-- no refusal stands of a valid link
not_standing : (l : Link) (counts : Counts) (f : LinkFault) → ObjectsAreRead l → ObjectsAreBytes l → bad_name l ≡ false → AreCounts l counts
    → IsValid l counts → IsStanding l counts f → ⊥
not_standing l counts f objects bytes name are valid stands = by (kept_placement f) refl stands.kept
  where
    alone : kept_placement f ≡ None → ⊥
    alone none =
        let is : f ≡ model.BadName = valid.unrefused f none stands.stands in
        true≢false (sym (subst (FaultStands l counts) is stands.stands) ∙ name)

    by : (o : Option Placed) → kept_placement f ≡ o → IfSome o (IsKept l) → ⊥
    by None none kept = alone none
    by (Some p) some kept =
        let same : kept.counts ≡ counts = kept_counts l p counts are valid kept in
        placement_is_not_refused l counts p f objects bytes valid (subst (λ (c : Counts). IsPlaced l c p) same kept.placed)
        (subst (λ (c : Counts). IsLaidOut l c p) same kept.laid_out) some stands.stands

-- a refusal that stands is want of memory, or one that says something
spared : (l : Link) (counts : Counts) (e : LinkError) → ((f : LinkFault) → IsStanding l counts f → ⊥) → Stands l counts e → e ≡ OutOfMemory
spared l counts (DuplicateSymbol name first second) never stands = absurd (never (model.DuplicateSymbol name.items first second) stands)
spared l counts (UndefinedSymbol name file) never stands = absurd (never (model.UndefinedSymbol name.items file) stands)
spared l counts (EntryNotDefined name) never stands = absurd (never (model.EntryNotDefined name.items) stands)
spared l counts (ExportListMissing name) never stands = absurd (never (model.ExportListMissing name.items) stands)
spared l counts (BadInitializer file section offset) never stands = absurd (never (model.BadInitializer file section offset) stands)
spared l counts (BadUnwind file section entry rule) never stands = absurd (never (model.BadUnwind file section entry rule) stands)
spared l counts (UnsupportedRelocation file section relocation) never stands =
    absurd (never (model.UnsupportedRelocation file section relocation) stands)
spared l counts (OverlappingFields file section first second) never stands =
    absurd (never (model.OverlappingFields file section first second) stands)
spared l counts (BindAddend file section relocation addend) never stands =
    absurd (never (model.BindAddend file section relocation addend) stands)
spared l counts (FixupPlace file section relocation placement) never stands =
    absurd (never (model.FixupPlace file section relocation (option_map placed_of placement)) stands)
spared l counts (TooMany what number placement) never stands =
    absurd (never (model.TooMany what number (option_map placed_of placement)) stands)
spared l counts (ImageTooLarge placement) never stands = absurd (never (model.ImageTooLarge (option_map placed_of placement)) stands)
spared l counts (RebaseTarget at placement) never stands = absurd (never (model.RebaseTarget at (placed_of placement)) stands)
spared l counts (RelocationRange at placement) never stands = absurd (never (model.RelocationRange at (placed_of placement)) stands)
spared l counts BadName never stands = absurd (never model.BadName stands)
spared l counts (BadInput fault) never stands = absurd stands
spared l counts OutOfMemory never stands = refl

pub standing_is_told : StandingIsTold
standing_is_told l e objects bytes name stands = record {
  stands = stands;
  spared = λ counts are valid. spared l counts e
      (λ f standing. not_standing l counts f objects bytes name are valid standing) (stands counts are);
}
