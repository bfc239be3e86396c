-- A test of each segment is one of each segment's command, and back; so is one of neighbours.
--
-- The segments are the records at the commands, by number.
use Rattle.std.proofs.Common.{◌≡◌, ℕ, ◌+◌, ◌<◌, Bool, true, List, length, map, get_or, sym, ap, subst, ◌∙◌, arith, All}
use Rattle.std.proofs.lemmas.List.{get_or-map, get_or_default, length-map}
use Rattle.std.proofs.lemmas.List.Elements.{All-map}
use Rattle.macho_records.specs.declared.header.SegmentCommand.{SegmentCommand}
use Rattle.macho_records.specs.declared.constants.TheConstants.{LC_SEGMENT_64}
use Rattle.macho_model.specs.Commands.{Command, numbered}
use Rattle.macho_model.specs.Grammar.{EachCommand}
use Rattle.macho_model.specs.Images.{segments_of}
use Rattle.macho_model.specs.Loader.{segment_in}
use Rattle.macho_model.specs.Lists.{EachNext}

pub of_commands : {X : Type 0} (f : Command → X) (test : X → Bool) (cs : List Command) → All (λ x. test x ≡ true) (map f cs)
    → EachCommand cs (λ c. test (f c))
of_commands f test cs each k d within =
    let long = length-map cs f in
    subst (λ x. test x ≡ true) (get_or-map f cs k d (f d) within) (each k (f d) (omega (arith, within, long)))

pub each_command : (b : List ℕ) (test : SegmentCommand → Bool) → All (λ s. test s ≡ true) (segments_of b)
    → EachCommand (numbered LC_SEGMENT_64 b) (λ c. test (segment_in b c))
unfolding segments_of
each_command b test each = of_commands (segment_in b) test (numbered LC_SEGMENT_64 b) each

pub each_segment : (b : List ℕ) (test : SegmentCommand → Bool) → EachCommand (numbered LC_SEGMENT_64 b) (λ c. test (segment_in b c))
    → All (λ s. test s ≡ true) (segments_of b)
unfolding segments_of
each_segment b test each = All-map (λ s. test s ≡ true) (segment_in b) (numbered LC_SEGMENT_64 b) each

pub next_commands : (b : List ℕ) (test : SegmentCommand → SegmentCommand → Bool) → EachNext (λ s t. test s t ≡ true) (segments_of b)
    → EachNext (λ c d. test (segment_in b c) (segment_in b d) ≡ true) (numbered LC_SEGMENT_64 b)
unfolding segments_of
next_commands b test each k c d (within, at_k) (lt, at_next) =
    let cs = numbered LC_SEGMENT_64 b in
    let f : Command → SegmentCommand = segment_in b in
    let long = length-map cs f in
    each k (f c) (f d) (omega (arith, within, long), get_or-map f cs k c (f c) within ∙ ap f at_k)
    (omega (arith, lt, long), get_or-map f cs (k + 1) d (f d) lt ∙ ap f at_next)

pub next_segments : (b : List ℕ) (test : SegmentCommand → SegmentCommand → Bool)
    → EachNext (λ c d. test (segment_in b c) (segment_in b d) ≡ true) (numbered LC_SEGMENT_64 b)
    → EachNext (λ s t. test s t ≡ true) (segments_of b)
unfolding segments_of
next_segments b test each k s t (within, at_k) (lt, at_next) =
    let cs : List Command = numbered LC_SEGMENT_64 b in
    let f : Command → SegmentCommand = segment_in b in
    let long = length-map cs f in
    let e : Command = record { at = 0; number = 0; size = 0 } in
    let c : Command = get_or cs k e in
    let d : Command = get_or cs (k + 1) e in
    let short : k + 1 < length cs = omega (arith, lt, long) in
    let before : k < length cs = omega (arith, short) in
    let first : f c ≡ s = sym (get_or-map f cs k e s before) ∙ at_k in
    let second : f d ≡ t = sym (get_or-map f cs (k + 1) e t short) ∙ at_next in
    rw (← first, ← second) (each k c d (before, get_or_default cs k c e before) (short, get_or_default cs (k + 1) d e short))
