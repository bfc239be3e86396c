-- Where the load commands, the room and the signature of an image lie that may be changed.
--
-- The named command is one of the list, so it stands behind the header and ends where the list does. Old and new load commands end inside
-- `__TEXT`: the image is accepted, and the room is no more than that. The signature begins behind `__TEXT`. A part that isn't empty is not
-- in the way: it begins behind the old load commands, so the room counts it, and it begins behind the new ones, too. A fixed one also ends
-- in front of the signature.
use Rattle.std.proofs.Common.{◌≡◌, ℕ, ◌+◌, ◌-◌, ◌<◌, ◌≤◌, ◌==◌, nat_lt, nat_le, ◌&&◌, true, false, List, [], ◌∷◌, length, refl, ap, arith}
use Rattle.std.specs.Prelude.{Contains, filter}
use Rattle.std.proofs.lemmas.Bool.{leb-true, lt-ltb, ltb-false, le-leb}
use Rattle.macho_bytes.proofs.Bools.{and_both, and_right, is_equal, or_first, or_second, true_or_false}
use Rattle.macho_bytes.proofs.Members.{all_contains, contains_map, contains_filter, filter_contains}
use Rattle.macho_records.specs.declared.header.SegmentCommand.{SegmentCommand}
use Rattle.macho_records.specs.Layouts.{mach_header}
use Rattle.macho_bytes.specs.Layouts.{size_of}
use Rattle.macho_model.specs.Commands.{Command, commands_of, commands_end, header_of, numbered}
use Rattle.macho_model.specs.Images.{Table, segments_named}
use Rattle.macho_model.specs.Segments.{TEXT}
use Rattle.macho_model.specs.Lists.{of_first}
use Rattle.macho_model.specs.Loader.{IsAccepted}
use Rattle.macho_model.specs.LoadRules.{needed_in_image}
use Rattle.macho_retool.specs.declared.change.Change.{Change}
use Rattle.macho_retool.specs.declared.change.Change.TheVariants.{Id, Library, Rpath}
use Rattle.macho_retool.specs.declared.parts.FilePart.{FilePart}
use Rattle.macho_retool.specs.Changes.{command_number, count_of_change, record_size, path_for, new_size, new_end}
use Rattle.macho_retool.specs.Parts.{parts_of, signature_begin, is_in_way, text_end, room_of, begins_from}
use Rattle.macho_retool.specs.Retooled.{both_end}
use Rattle.macho_retool.specs.steps.Spliced.{IsReady}
use Rattle.macho_retool.proofs.Rooms.{ends_inside}
use Rattle.macho_retool.proofs.Moved.{place_from}
use Rattle.macho_retool.proofs.Lists.{least-small, least-below}
use Rattle.macho_retool.proofs.Writes.{sized_for}

-- the numbers of a change
pub record Known (change : Change) (b : List ℕ) (c : Command) (t : Table) : Type 0 where
  pub there : Contains (commands_of b) c
  pub kind : c.number ≡ command_number change
  pub from : 32 ≤ c.at
  pub head : 8 ≤ c.size
  pub holds : record_size change ≤ c.size
  pub inside : c.at + c.size ≤ commands_end b
  pub sized : record_size change + length (path_for change) + 1 ≤ new_size change
  pub old_text : commands_end b ≤ text_end b
  pub new_text : new_end change b c ≤ text_end b
  pub limit : text_end b ≤ t.at
  pub begins : signature_begin b ≡ t.at
  pub file : t.at + t.size ≡ length b

-- what a command of the change's number holds
pub needed_is : (change : Change) (b : List ℕ) (c : Command) → c.number ≡ command_number change → needed_in_image b c ≡ record_size change
needed_is (Id name) b c kind = rw kind refl
needed_is (Library number name) b c kind = rw kind refl
needed_is (Rpath number name) b c kind = rw kind refl

-- `__TEXT` begins with the file and holds the load commands
text_holds : (b : List ℕ) → IsAccepted b → commands_end b ≤ text_end b
text_holds b accepted =
    first_holds (segments_named TEXT b) accepted.l7.0 (λ s there.
    all_contains (λ t. ((t.fileoff == 0) && nat_le (commands_end b) t.filesize) ≡ true) (segments_named TEXT b) s accepted.l7.1 there)
  where
    first_holds : (ss : List SegmentCommand) → length ss ≡ 1
        → ((s : SegmentCommand) → Contains ss s → ((s.fileoff == 0) && nat_le (commands_end b) s.filesize) ≡ true)
        → commands_end b ≤ of_first 0 (λ (s : SegmentCommand). s.fileoff + s.filesize) ss
    first_holds [] one each = absurd (omega (arith, one))
    first_holds (s ∷ ss) one each =
        let h = leb-true (commands_end b) s.filesize (and_right (s.fileoff == 0) (nat_le (commands_end b) s.filesize)
        (each s (0, omega arith, refl))) in omega (arith, h)

pub known : (change : Change) (b : List ℕ) (c : Command) (t : Table) → IsReady change b c t → Known change b c t
unfolding commands_of room_of
known change b c t ready =
    let one = ready.named.one in
    let is_in : Contains (numbered (command_number change) b) c = (count_of_change change - 1, one.0, one.1) in
    let both = filter_contains (λ d. d.number == command_number change) (commands_of b) c is_in in
    let fits = ends_inside b c ready.accepted both.0 in
    let kind = is_equal c.number (command_number change) both.1 in
    let need = needed_is change b c kind in
    let room = ready.room in
    let small = least-small (text_end b) (begins_from (commands_end b) (parts_of b)) in
    let begins = ap (λ (ts : List Table). of_first 0 (λ u. u.at) ts) ready.formed.one in
    record {
      there = both.0;
      kind = kind;
      from = place_from b (header_of b).ncmds (size_of mach_header) c both.0;
      head = fits.2;
      holds = omega (arith, fits.1, need);
      inside = fits.0;
      sized = sized_for change;
      old_text = text_holds b ready.accepted;
      new_text = omega (arith, room, small);
      limit = ready.formed.behind;
      begins = begins;
      file = ready.formed.ends;
    }

-- a part that isn't empty begins behind the load commands, old and new
pub part_behind : (change : Change) (b : List ℕ) (c : Command) (t : Table) (p : FilePart) → IsReady change b c t → Contains (parts_of b) p
    → 0 < p.size → both_end change b c ≤ p.at
unfolding room_of
part_behind change b c t p ready there some =
    let clear = ready.clear p there in
    let size : nat_lt 0 p.size ≡ true = lt-ltb 0 p.size some in
    let low = elim (nat_lt p.at (commands_end b)) as (λ v. nat_lt p.at (commands_end b) ≡ v → commands_end b ≤ p.at) [
      | true ↦ λ below.
          absurd (true_or_false (is_in_way (commands_end b) (signature_begin b) p)
          (and_both (nat_lt 0 p.size) _ size (or_first (nat_lt p.at (commands_end b)) _ below)) clear)
      | false ↦ λ above. ltb-false p.at (commands_end b) above
    ] refl in
    let counts : Contains (begins_from (commands_end b) (parts_of b)) p.at =
    contains_map (λ (q : FilePart). q.at) (filter (λ (q : FilePart). nat_lt 0 q.size && nat_le (commands_end b) q.at) (parts_of b)) p
    (contains_filter (λ (q : FilePart). nat_lt 0 q.size && nat_le (commands_end b) q.at) (parts_of b) p there
    (and_both (nat_lt 0 p.size) (nat_le (commands_end b) p.at) size (le-leb (commands_end b) p.at low))) in
    let below = least-below (text_end b) (begins_from (commands_end b) (parts_of b)) p.at counts in
    let room = ready.room in
    omega (arith, low, below, room)

-- a fixed one ends in front of the signature
pub fixed_below : (change : Change) (b : List ℕ) (c : Command) (t : Table) (p : FilePart) → IsReady change b c t → Contains (parts_of b) p
    → 0 < p.size → p.fixed ≡ true → p.at + p.size ≤ t.at
fixed_below change b c t p ready there some fixed =
    let clear = ready.clear p there in
    let size : nat_lt 0 p.size ≡ true = lt-ltb 0 p.size some in
    let begins = ap (λ (ts : List Table). of_first 0 (λ (u : Table). u.at) ts) ready.formed.one in
    elim (nat_lt (signature_begin b) (p.at + p.size)) as (λ v. nat_lt (signature_begin b) (p.at + p.size) ≡ v → p.at + p.size ≤ t.at) [
      | true ↦ λ above.
          absurd (true_or_false (is_in_way (commands_end b) (signature_begin b) p)
          (and_both (nat_lt 0 p.size) _ size (or_second (nat_lt p.at (commands_end b)) _
          (and_both p.fixed (nat_lt (signature_begin b) (p.at + p.size)) fixed above))) clear)
      | false ↦ λ below. let h = ltb-false (signature_begin b) (p.at + p.size) below in omega (arith, h, begins)
    ] refl
