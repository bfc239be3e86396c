-- The words that are written are those of the link's run.
--
-- The sorted run is the link's, as it is what is asked for in another order. Each of its fixups has a word, so no writing of a word is
-- refused. The segments that hold fixups of the run are those that hold fixups that were asked for.
use Rattle.std.proofs.Common.{ℕ, ◌<◌, List, [], ◌∷◌, length, get_or, sym, ap, subst, ◌∙◌, arith}
use Rattle.std.specs.Prelude.{IsPermutation}
use Rattle.std.proofs.lemmas.Bool.{true≢false}
use Rattle.std.proofs.lemmas.List.Sorted.{Contains-permutation, IsPermutation-sym, IsPermutation-refl, length_permutation}
use Rattle.macho_model.specs.declared.placed.Counts.{Counts}
use Rattle.macho_model.specs.Links.{Link}
use Rattle.macho_model.specs.Placement.{Placed}
use Rattle.macho_fixups.specs.declared.run.Fixup.{Fixup}
use Rattle.macho_fixups.specs.declared.run.FixupSegment.{FixupSegment}
use Rattle.macho_fixups.specs.Chains.{HaveRoom, IsFirstRefused, AreWritten, ChainIsRun}
use Rattle.macho_promise.specs.FixupsSay.{fixup_segments}
use Rattle.macho_promise.specs.Asked.{fixups_asked}
use Rattle.macho_linkedit.specs.Runs.{IsSortedRunOf, IsRunOf}
use Rattle.macho_linkedit.proofs.SortedRun.{sorted_is_run}
use Rattle.macho_contents.specs.Chaining.{IsToChain, IsChained}
use Rattle.macho_contents.proofs.Encoded.{fixup_has}
use Rattle.macho_contents.proofs.Counted.{asked_count}

pub run_of : (l : Link) (counts : Counts) (p : Placed) (asked run : List Fixup) (n : ℕ) → IsToChain l counts p asked n
    → IsSortedRunOf asked run
    → IsRunOf l p run
run_of l counts p asked run n to sorted =
    sorted_is_run l counts p asked run to.can.placed.placed to.can.pointers
    (subst (λ (xs : List Fixup). IsPermutation (fixups_asked l p) xs) (sym to.asked_are) (IsPermutation-refl (fixups_asked l p))) sorted

pub room_of_run : (segments : List FixupSegment) (asked run : List Fixup) (n : ℕ) → IsSortedRunOf asked run → HaveRoom segments asked n
    → HaveRoom segments run n
room_of_run segments asked run n sorted room k d lt f has holds =
    room k d lt f (Contains-permutation run asked f (IsPermutation-sym asked run sorted.same) has) holds

pub none_refused : (l : Link) (counts : Counts) (p : Placed) (asked run : List Fixup) (n k : ℕ) → IsToChain l counts p asked n
    → IsSortedRunOf asked run → IsFirstRefused run k → ⊥
none_refused l counts p asked run n k to sorted refused =
    let r = run_of l counts p asked run n to sorted in
    by run refused.within r
  where
    by : (xs : List Fixup) → k < length xs → IsRunOf l p run → ⊥
    by [] lt r = absurd (omega (arith, lt))
    by (d ∷ xs) lt r =
        true≢false (sym (fixup_has l counts p (get_or run k d) to.can (r.each k d refused.within)) ∙ refused.none d)

pub chained : (l : Link) (counts : Counts) (p : Placed) (asked run : List Fixup) (before now : List ℕ) → IsToChain l counts p asked
    (length before)
    → IsSortedRunOf asked run → AreWritten (fixup_segments p) run (length run) before now → ChainIsRun (fixup_segments p) run
    → IsChained l p run before now
chained l counts p asked run before now to sorted written chain =
    let r = run_of l counts p asked run (length before) to sorted in
    record {
      run_is = r;
      count = length_permutation asked run sorted.same ∙ ap length to.asked_are ∙ asked_count l counts p to.can.placed;
      chain = chain;
      written = record { order = to.can.segments; run = r.run; each = r.each; written = written };
    }
