-- When a refusal that keeps a placement stands.
--
-- The unwind information lies in the file part of `__TEXT`, which is below 4 GiB where no file size passes 32 bits. So nothing of the
-- sizes is cut. A link has one list of sizes, so what stands for one stands for any.
use Rattle.std.proofs.Common.{◌≡◌, ◌^◌, ◌≤◌, inl, inr, Some, None, sym, subst, arith}
use Rattle.std.specs.Prelude.{Option, IfSome}
use Rattle.macho_model.specs.declared.placed.Counts.{Counts}
use Rattle.macho_model.specs.Links.{Link}
use Rattle.macho_model.specs.Placement.{Placed}
use Rattle.macho_model.specs.Faults.{LinkFault, FaultStands, kept_placement}
use Rattle.macho_promise.specs.Sizes.{AreCounts}
use Rattle.macho_layout_laws.specs.Laws.{IsWhollyPlaced, NonePasses}
use Rattle.macho_promise.specs.Promise.{IsKept}
use Rattle.macho_answer.specs.Standing.{IsStanding}
use Rattle.macho_size_laws.proofs.One.{sizes_one}
use Rattle.macho_writing_laws.proofs.Placed.{laid_out}
use Rattle.macho_refusal_laws.specs.Kept.{PlacedIsKept, EarlyIsStanding, LateIsStanding}
use Rattle.macho_refusal_laws.proofs.Told.{uncut}
use Rattle.macho_model.proofs.Parts.{in_segment_of}

-- the unwind information is below 4 GiB
unwind_low : (l : Link) (counts : Counts) (p : Placed) → IsWhollyPlaced l counts p → NonePasses l counts p → counts.unwind ≤ 2 ^ 32
unwind_low l counts p whole within = elim (in_segment_of whole.placed).unwind.1 [
  | inl none ↦ omega (arith, none, whole.least.rooms.unwind)
  | inr lies ↦ omega (arith, lies.3.from, lies.3.to, (within.files lies.0 lies.1).1, whole.least.rooms.unwind)
]

pub placed_is_kept : PlacedIsKept
placed_is_kept l counts p whole within are = record {
  counts = counts;
  counted = record { whole = counts; are = are; capped = sym (uncut counts (unwind_low l counts p whole within)) };
  placed = whole.placed;
  laid_out = laid_out l counts p whole;
}

standing : (l : Link) (counts : Counts) (f : LinkFault) (o : Option Placed) → AreCounts l counts → kept_placement f ≡ o
    → IfSome o (IsKept l)
    → FaultStands l counts f → (others : Counts) → AreCounts l others → IsStanding l others f
standing l counts f o are kept keeps stands others other = record {
  stands = subst (λ (c : Counts). FaultStands l c f) (sizes_one l counts others are other) stands;
  kept = subst (λ (x : Option Placed). IfSome x (IsKept l)) (sym kept) keeps;
}

pub early_is_standing : EarlyIsStanding
early_is_standing l counts f are none stands = standing l counts f None are none tt stands

pub late_is_standing : LateIsStanding
late_is_standing l counts p f whole within are kept stands =
    standing l counts f (Some p) are kept (placed_is_kept l counts p whole within are) stands
