-- A placement of a plan is one of its link, and a refusal of a plan is one of its link.
--
-- What is laid out of a link's plan is placed, by the laws of placing. A layout with less unwind information than the bound passes a
-- limit only where the link does, since the sum grows with it. Where 2 ^ 32 bytes of unwind information are placed, the
-- file part of `__TEXT` holds them, so its size passes 32 bits.
use Rattle.std.proofs.Common.{◌≡◌, ℕ, ◌+◌, ◌^◌, ◌<◌, ◌≤◌, nat_lt, min, true, Some, None, refl, ap, ◌∙◌, arith, inl, inr}
use Rattle.std.proofs.lemmas.Bool.{lt-ltb}
use Rattle.std.proofs.lemmas.List.Elements.{All-contains}
use Rattle.macho_records.specs.Segments.{text_of}
use Rattle.macho_model.specs.declared.placed.Counts.{Counts}
use Rattle.macho_model.specs.declared.placed.PlacedSegment.{PlacedSegment}
use Rattle.macho_model.specs.declared.targets.Limit.{Limit}
use Rattle.macho_model.specs.declared.targets.Limit.TheVariants as limit
use Rattle.macho_model.specs.Links.{Link}
use Rattle.macho_model.specs.Limits.{PassesLimit, ImagePasses}
use Rattle.macho_model.specs.Order.{pages_of}
use Rattle.macho_model.specs.Placement.{Placed}
use Rattle.macho_model.specs.Segments.{may_hold_pointers}
use Rattle.macho_promise.specs.Sizes.{AreCounts}
use Rattle.macho_promise.specs.Promise.{IsKept}
use Rattle.macho_layout.specs.declared.fault.LayoutFault.TheVariants.{TooMany, TooLarge}
use Rattle.macho_layout.specs.Placements.{placed_of}
use Rattle.macho_layout.specs.Plans.{Planning, IsPlanOf}
use Rattle.macho_layout.specs.Sums.{FitsLimits}
use Rattle.macho_layout.specs.Laid.{IsLaidOut, IsSmall, FaultStands}
use Rattle.macho_layout_laws.specs.Laws.{IsWhollyPlaced}
use Rattle.macho_layout_laws.proofs.Placing.{laid_out_is_placed, kept_is_placed, refusals_are_links, answered_pass_none}
use Rattle.macho_layout.specs.declared.placement.Placement.{Placement}
use Rattle.macho_answer.specs.declared.fault.LinkError.TheVariants as error
use Rattle.macho_answer.specs.Standing.{Stands}
use Rattle.macho_sizing.specs.steps.Rooms.{kept_counts, IsLaid, passed_pages, HasFew}
use Rattle.macho_sizing.proofs.Larger.{outputs_kept, written_grows, some_kept}
use Rattle.macho_model.proofs.Parts.{in_segment_of}

pub is_laid : (l : Link) (p : Planning) (counts : Counts) (q : Placed) → IsPlanOf l p → FitsLimits p counts → IsLaidOut p counts q
    → IsSmall q
    → IsLaid l counts q
is_laid l p counts q plan fits laid small = record {
  planned = record { plan = p; of_link = plan; fits = fits; laid = laid };
  placed = laid_out_is_placed l p counts q plan fits laid;
  passes = answered_pass_none l p counts q plan fits laid small;
}

-- a placement with these sizes is kept
pub is_kept : (l : Link) (counts : Counts) (q : Placed) → AreCounts l counts → IsWhollyPlaced l (kept_counts counts) q → IsKept l q
is_kept l counts q are w = record {
  counts = kept_counts counts;
  counted = record { whole = counts; are = are; capped = refl };
  placed = w.placed;
  laid_out = record { segments = w.order.segments; names = w.order.names; least = w.least; sections = w.sections };
}

-- a number that a layout tells passes its limit
pub number_refused : (l : Link) (p : Planning) (counts : Counts) (what : Limit) (number : ℕ) → IsPlanOf l p
    → FaultStands p (kept_counts counts) (TooMany what number) → Stands l counts (error.TooMany what number None)
number_refused l p counts limit.Segments number plan f =
    record { stands = refusals_are_links l p (kept_counts counts) (TooMany limit.Segments number) plan f; kept = tt }
number_refused l p counts limit.Sections number plan f =
    let r = refusals_are_links l p (kept_counts counts) (TooMany limit.Sections number) plan f in
    record { stands = (r.0 ∙ outputs_kept l (kept_counts counts) counts refl (some_kept counts.unwind), r.1); kept = tt }
number_refused l p counts limit.Libraries number plan f = absurd f
number_refused l p counts limit.Personalities number plan f = absurd f
number_refused l p counts limit.Imports number plan f = absurd f
number_refused l p counts limit.NameBytes number plan f = absurd f
number_refused l p counts limit.Symbols number plan f = absurd f
number_refused l p counts limit.Pages number plan f = absurd f

-- and so does the sum
pub sum_refused : (l : Link) (p : Planning) (counts : Counts) → IsPlanOf l p → FaultStands p (kept_counts counts) (TooLarge None)
    → Stands l counts (error.ImageTooLarge None)
sum_refused l p counts plan f =
    let r = refusals_are_links l p (kept_counts counts) (TooLarge None) plan f in
    record {
      stands = omega (
        arith,
        r,
        written_grows l counts (min counts.unwind (2 ^ 32)) (omega arith)
            (outputs_kept l (kept_counts counts) counts refl (some_kept counts.unwind)),
      );
      kept = tt;
    }

-- a placement that a layout refuses is too large, and kept
pub image_refused : (l : Link) (p : Planning) (counts : Counts) (placement : Placement) → IsPlanOf l p → AreCounts l counts
    → FaultStands p (kept_counts counts) (TooLarge (Some placement))
    → ImagePasses l (placed_of placement) × IsKept l (placed_of placement)
image_refused l p counts placement plan are f = (
  refusals_are_links l p (kept_counts counts) (TooLarge (Some placement)) plan f,
  is_kept l counts (placed_of placement) are (kept_is_placed l p (kept_counts counts) (placed_of placement) plan f),
)

-- unwind information of 2 ^ 32 bytes makes `__TEXT` too large
pub unwind_passes : (l : Link) (counts : Counts) (q : Placed) → IsWhollyPlaced l (kept_counts counts) q → 2 ^ 32 ≤ counts.unwind
    → ImagePasses l q
unwind_passes l counts q w large =
    let room : q.unwind.end ≡ q.unwind.start + 2 ^ 32 = omega (arith, w.least.rooms.unwind, large) in
    elim (in_segment_of w.placed).unwind.1 [
      | inl empty ↦ absurd (omega (arith, room, empty))
      | inr lies ↦ inl (lies.0, lies.1, inr (omega (arith, lies.3.from, lies.3.to, room)))
    ]

-- what is within is kept as it is
pub kept_same : (counts : Counts) → counts.unwind < 2 ^ 32 → kept_counts counts ≡ counts
kept_same counts low = (let same : min counts.unwind (2 ^ 32) ≡ counts.unwind = omega arith in
    ap (λ (n : ℕ). let c : Counts = record counts { unwind = n } in c) same)

not_passed : (s : PlacedSegment) → passed_pages s ≡ None → may_hold_pointers (text_of s.name) ≡ true → 65535 < pages_of s → ⊥
not_passed s none may past =
    let test : nat_lt 65535 (pages_of s) ≡ true = lt-ltb 65535 (pages_of s) past in
    let some : Some (pages_of s) ≡ passed_pages s = rw (may, test) refl in
    let both : Some (pages_of s) ≡ None = some ∙ none in
    cc

pub pages_few : (l : Link) (counts : Counts) (q : Placed) → HasFew q.segments → (number : ℕ)
    → PassesLimit l counts limit.Pages number (Some q)
    → ⊥
pages_few l counts q few number (s, there, may, is, past) =
    not_passed s (All-contains (λ (x : PlacedSegment). passed_pages x ≡ None) q.segments s few there) may (omega (arith, is, past))
