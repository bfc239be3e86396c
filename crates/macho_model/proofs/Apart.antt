-- Segments of an accepted image share no address, so memory has one byte at an address.
--
-- Each segment begins where the one before it ends, or behind; so, step by step, behind the end of every earlier one.
-- An address in two segments would lie behind the end of one and before it. Hence a segment's byte is determined, and so
-- is the word that the file has at an address, since a segment's file part is in its memory.
use Rattle.std.proofs.Common.{◌≡◌, ℕ, zero, suc, ◌+◌, ◌-◌, ◌<◌, ◌≤◌, nat_lt, not, if◌then◌else◌, List, get_or, slice_index, sym, ap, subst, ◌∙◌, arith, inl, inr, true}
use Rattle.std.specs.Prelude.{Contains, AllPairs}
use Rattle.std.proofs.lemmas.Bool.{cases_lt, leb-true}
use Rattle.std.proofs.lemmas.List.{get_or_default}
use Rattle.std.proofs.lemmas.List.Kept.{AllPairs-filter}
use Rattle.macho_records.specs.declared.header.SegmentCommand.{SegmentCommand}
use Rattle.macho_model.specs.Segments.{PAGEZERO}
use Rattle.macho_model.specs.Images.{segments_of, mapped_segments, is_named}
use Rattle.macho_model.specs.Loader.{IsAccepted}
use Rattle.macho_model.specs.Memory.{IsSegmentByte}
use Rattle.macho_model.specs.Lists.{EachNext}
use Rattle.macho_model.specs.SegmentRules.{begins_behind}

-- a segment ends before another one begins
abbrev pub EndsBefore : SegmentCommand → SegmentCommand → Type 0
EndsBefore s t = s.vmaddr + s.vmsize ≤ t.vmaddr

-- segments of which each begins behind the end of the one before it end before each later one begins
pub all_rise : (ss : List SegmentCommand) → EachNext (λ s t. begins_behind s t ≡ true) ss → AllPairs EndsBefore ss
all_rise ss h i zero d before within = absurd (omega (arith, before))
all_rise ss h i (suc m) d before within =
    let s : SegmentCommand = get_or ss m d in
    let t : SegmentCommand = get_or ss (m + 1) d in
    let step = h m s t (omega (arith, within), get_or_default ss m s d (omega (arith, within)))
    (omega (arith, within), get_or_default ss (m + 1) t d (omega (arith, within))) in
    let same : m + 1 ≡ suc m = omega arith in
    let next : EndsBefore s (get_or ss (suc m) d) =
    subst (λ k. EndsBefore s (get_or ss k d)) same (leb-true (s.vmaddr + s.vmsize) t.vmaddr step) in
    elim (cases_lt i m) [
      | inl lt ↦ let so_far = all_rise ss h i m d lt (omega (arith, within)) in omega (arith, so_far, next)
      | inr le ↦ let here : i ≡ m = omega (arith, before) in subst (λ k. EndsBefore (get_or ss k d) (get_or ss (suc m) d)) (sym here) next
    ]

-- segments of an accepted image end before each later one begins; so do the mapped ones
pub segments_rise : (b : List ℕ) → IsAccepted b → AllPairs EndsBefore (segments_of b)
segments_rise b accepted = all_rise (segments_of b) accepted.l6.1

pub mapped_rise : (b : List ℕ) → IsAccepted b → AllPairs EndsBefore (mapped_segments b)
unfolding mapped_segments
mapped_rise b accepted = AllPairs-filter EndsBefore (λ s. not (is_named PAGEZERO s)) (segments_of b) (segments_rise b accepted)

-- an address lies in a segment
abbrev pub Holds_address : SegmentCommand → ℕ → Type 0
Holds_address s a = (s.vmaddr ≤ a) × (a < s.vmaddr + s.vmsize)

-- of segments that rise, one holds an address
pub one_holds : (segments : List SegmentCommand) (s t : SegmentCommand) (a : ℕ) → AllPairs EndsBefore segments → Contains segments s
    → Contains segments t
    → Holds_address s a → Holds_address t a → s ≡ t
one_holds segments s t a rise (i, lt_i, at_i) (j, lt_j, at_j) in_s in_t =
    elim (cases_lt i j) [
      | inl before ↦
          let ends : EndsBefore s t =
          rw (← at_i, ← at_j)
          (subst (λ x. EndsBefore x (get_or segments j t)) (get_or_default segments i t s lt_i) (rise i j t before lt_j)) in
          absurd (omega (arith, ends, in_s.1, in_t.0))
      | inr le ↦
          elim (cases_lt j i) [
            | inl before ↦
                let ends : EndsBefore t s =
                rw (← at_i, ← at_j)
                (subst (λ x. EndsBefore x (get_or segments i s)) (get_or_default segments j s t lt_j) (rise j i s before lt_i)) in
                absurd (omega (arith, ends, in_t.1, in_s.0))
            | inr ge ↦
                let same : i ≡ j = omega (arith, le, ge) in
                sym at_i ∙ get_or_default segments i s t lt_i ∙ ap (λ k. get_or segments k t) same ∙ at_j
          ]
    ]

-- Two mapped segments of an accepted image share no address.
pub share_no_address : (b : List ℕ) (s t : SegmentCommand) (a : ℕ) → IsAccepted b → Contains (mapped_segments b) s
    → Contains (mapped_segments b) t
    → Holds_address s a → Holds_address t a → s ≡ t
share_no_address b s t a accepted one_s one_t in_s in_t = one_holds (mapped_segments b) s t a (mapped_rise b accepted) one_s one_t in_s in_t
