-- A segment of an accepted image is read at its command.
--
-- The command is whole and stands inside the file, so the record is there. Its number in the list of segments' commands is
-- the segment's.
use Rattle.std.proofs.Common.{◌≡◌, ℕ, zero, suc, ◌+◌, ◌==◌, ◌≤◌, nat_le, true, ◌&&◌, List, [], ◌∷◌, length, refl, sym, ap, subst, ◌∙◌, arith, Some, None}
use Rattle.std.specs.List.{slice_get}
use Rattle.std.proofs.lemmas.Bool.{leb-true, le-leb}
use Rattle.std.proofs.lemmas.Option.{slice_get-get_or}
use Rattle.std.proofs.lemmas.List.Elements.{All-filter, filter_passes}
use Rattle.macho_bytes.specs.Layouts.{read_of, size_of}
use Rattle.macho_records.specs.Layouts.{segment_command, load_command}
use Rattle.macho_records.specs.declared.header.SegmentCommand.{SegmentCommand}
use Rattle.macho_records.specs.declared.constants.TheConstants.{LC_SEGMENT_64}
use Rattle.macho_model.specs.Commands.{Command, command_at, commands_of, commands_end, command_fits, segment_size}
use Rattle.macho_model.specs.Images.{segments_of}
use Rattle.macho_model.specs.LoadRules.{needed_in_image}
use Rattle.macho_model.specs.Loader.{IsAccepted}
use Rattle.macho_image_walks.specs.declared.walk.Listed.TheVariants as list
use Rattle.macho_image_walks.specs.Readings.{is_listed, listed, IsNth, segment_there}
use Rattle.macho_image_walks.proofs.NumberedWalk.{nth_number}
use Rattle.macho_image_walks.proofs.ListedLaws.{count_of_segments}
use Rattle.macho_bytes.proofs.Bools.{and_left, and_right}

-- the segment's record stands inside the file
record_inside : (b : List ℕ) (number place : ℕ) → IsAccepted b → IsNth list.Segments b number place → place + 72 ≤ length b
unfolding listed
record_inside b number place accepted nth =
    let c = command_at b place in
    let test = command_fits (needed_in_image b) b in
    let whole : test c ≡ true = subst (λ x. test x ≡ true) nth.is
    (All-filter (is_listed list.Segments b) (λ x. test x ≡ true) (commands_of b) accepted.l2.1 number c nth.within) in
    let kind : (c.number == LC_SEGMENT_64) ≡ true = subst (λ (x : Command). (x.number == LC_SEGMENT_64) ≡ true) nth.is
    (filter_passes (is_listed list.Segments b) (commands_of b) number c nth.within) in
    let first = and_left (nat_le (size_of load_command) c.size && nat_le (c.at + c.size) (commands_end b))
    (nat_le (needed_in_image b c) c.size)
    whole in
    let ends = leb-true (c.at + c.size) (commands_end b)
    (and_right (nat_le (size_of load_command) c.size) (nat_le (c.at + c.size) (commands_end b)) first) in
    let long = leb-true (needed_in_image b c) c.size
    (and_right (nat_le (size_of load_command) c.size && nat_le (c.at + c.size) (commands_end b)) (nat_le (needed_in_image b c) c.size)
    whole) in
    let needs : needed_in_image b c ≡ segment_size b place = rw kind refl in
    let inside = leb-true (commands_end b) (length b) accepted.l2.0 in
    omega (arith, ends, long, needs, inside)

-- so it is read
pub segment_read : (b : List ℕ) (number place : ℕ) → IsAccepted b → IsNth list.Segments b number place
    → read_of segment_command b place ≡ Some (segment_there b place)
segment_read b number place accepted nth =
    rw (le-leb (place + size_of segment_command) (length b) (record_inside b number place accepted nth)) refl

pub segment_found : (b : List ℕ) (number place : ℕ) → IsAccepted b → IsNth list.Segments b number place
    → read_of segment_command b place ≡ slice_get (segments_of b) number
segment_found b number place accepted nth =
    let s = segment_there b place in
    let is = nth_number b number place nth in
    segment_read b number place accepted nth ∙ sym (slice_get-get_or (segments_of b) number s is.0 ∙ ap
    (λ (x : SegmentCommand). Some x) is.1)

none_behind : {X : Type 0} (xs : List X) (k : ℕ) → length xs ≤ k → slice_get xs k ≡ None
none_behind [] k past = refl
none_behind (x ∷ xs) zero past = absurd (omega (arith, past))
none_behind (x ∷ xs) (suc k) past = none_behind xs k (omega (arith, past))

pub segment_missing : (b : List ℕ) (number : ℕ) → length (listed list.Segments b) ≤ number → None ≡ slice_get (segments_of b) number
segment_missing b number past =
    let many = count_of_segments b in sym (none_behind (segments_of b) number (omega (arith, past, many)))
