-- The parts of an image, and what refuses new load commands for want of room.
--
-- Each range of a segment's command has a whole command with section headers behind it, since the image is accepted. The lists of parts
-- join in their order. A refusal of the room is told in its order: each test that passed excludes one more.
use Rattle.std.proofs.Common.{◌≡◌, ℕ, ◌+◌, ◌*◌, ◌<◌, ◌≤◌, ◌==◌, true, false, ◌&&◌, List, [], ◌∷◌, ◌++◌, length, map, refl, sym, ap, subst, ◌∙◌, arith, append_assoc, All, slice_index}
use Rattle.std.specs.Prelude.{Contains, nat_le}
use Rattle.std.specs.List.{flat_map, range_with_len}
use Rattle.std.proofs.lemmas.Bool.{leb-true}
use Rattle.macho_bytes.proofs.Bools.{and_left, and_right, true_or_false}
use Rattle.macho_bytes.proofs.Maps.{flat_map-map, map_map}
use Rattle.macho_bytes.proofs.Members.{contains_all, all_contains, map_contains, filter_contains, unfilter_contains, contains_first, contains_later}
use Rattle.macho_bytes.specs.Layouts.{reading, size_of}
use Rattle.macho_records.specs.Layouts.{segment_command, section_header}
use Rattle.macho_records.specs.declared.header.SegmentCommand.{SegmentCommand}
use Rattle.macho_records.specs.declared.constants.TheConstants.{LC_CODE_SIGNATURE, LC_DYLD_CHAINED_FIXUPS, LC_DYLD_EXPORTS_TRIE, LC_SEGMENT_64, LC_SYMTAB}
use Rattle.macho_loader.specs.declared.commands.LinkeditRange.{LinkeditRange}
use Rattle.macho_loader.specs.Lists.{range_of}
use Rattle.macho_model.specs.Commands.{Command, command_at, commands_of, commands_end, numbered, segment_size, command_fits}
use Rattle.macho_model.specs.Images.{segments_named, segments_of, is_named, tables_of, tries_of, symbol_tables_of, string_tables_of, signatures_of}
use Rattle.macho_model.specs.Segments.{TEXT}
use Rattle.macho_model.specs.Lists.{of_first}
use Rattle.macho_model.specs.Loader.{IsAccepted, segment_in}
use Rattle.macho_model.specs.LoadRules.{needed_in_image}
use Rattle.macho_retool.specs.declared.parts.FilePart.{FilePart}
use Rattle.macho_retool.specs.declared.change.RetoolFault.TheVariants.{Rejected, BadName, NotThere, Unsigned, Tangled, NoRoom, PaddingUsed, OutOfMemory}
use Rattle.macho_retool.specs.Parts.{part_of_section, own_parts, parts_of_segment, parts_of, part_of_table, signature_begin, text_end, is_in_way, least, room_of, begins_from}
use Rattle.macho_retool.specs.Refusals.{IsTangled}
use Rattle.macho_retool.specs.steps.PartLists.{section_part, range_part, symbols_part, strings_part}
use Rattle.macho_retool.specs.steps.Clear.{RoomIsClear}
use Rattle.macho_retool.proofs.Found.{stands_there}
use Rattle.macho_retool.proofs.Lists.{least-small}

-- a command of an accepted image ends inside the file, with all that it holds
pub ends_inside : (b : List ℕ) (x : Command) → IsAccepted b → Contains (commands_of b) x
    → (x.at + x.size ≤ commands_end b) × (needed_in_image b x ≤ x.size) × (8 ≤ x.size)
ends_inside b x accepted there =
    let fits = all_contains (λ c. command_fits (needed_in_image b) b c ≡ true) (commands_of b) x accepted.l2.1 there in (
      leb-true (x.at + x.size) (commands_end b)
          (and_right (nat_le 8 x.size) (nat_le (x.at + x.size) (commands_end b))
          (and_left (nat_le 8 x.size && nat_le (x.at + x.size) (commands_end b)) (nat_le (needed_in_image b x) x.size) fits)),
      leb-true (needed_in_image b x) x.size
          (and_right (nat_le 8 x.size && nat_le (x.at + x.size) (commands_end b)) (nat_le (needed_in_image b x) x.size) fits),
      leb-true 8 x.size
          (and_left (nat_le 8 x.size) (nat_le (x.at + x.size) (commands_end b))
          (and_left (nat_le 8 x.size && nat_le (x.at + x.size) (commands_end b)) (nat_le (needed_in_image b x) x.size) fits)),
    )

pub commands_inside : (b : List ℕ) → IsAccepted b → commands_end b ≤ length b
commands_inside b accepted = leb-true (commands_end b) (length b) accepted.l2.0

segment_inside : (b : List ℕ) (x : Command) → IsAccepted b → Contains (numbered LC_SEGMENT_64 b) x
    → x.at + segment_size b x.at ≤ length b
segment_inside b x accepted there =
    let both = filter_contains (λ c. c.number == LC_SEGMENT_64) (commands_of b) x there in
    let fits = ends_inside b x accepted both.0 in
    let end = commands_inside b accepted in
    let size : needed_in_image b x ≡ segment_size b x.at = rw (both.1) refl in
    omega (arith, fits.0, fits.1, end, size)

pub segments_inside : (b : List ℕ) (ranges : List LinkeditRange) → IsAccepted b → ranges ≡ map (range_of b) (numbered LC_SEGMENT_64 b)
    → All (λ r. r.command + segment_size b r.command ≤ length b) ranges
segments_inside b ranges accepted are =
    contains_all (λ r. r.command + segment_size b r.command ≤ length b) ranges
    (λ r there. let one = map_contains (range_of b) (numbered LC_SEGMENT_64 b) r (subst (λ rs. Contains rs r) are there) in
    subst (λ s. s.command + segment_size b s.command ≤ length b) one.2 (segment_inside b one.0 accepted one.1))

-- the parts of a segment: itself, then its sections
pub sections_join : (b : List ℕ) (place : ℕ) (s : SegmentCommand) (p0 p1 p2 : List FilePart) → s ≡ segment_in b (command_at b place)
    → p1 ≡ p0 ++ own_parts b (command_at b place) → p2 ≡ p1 ++ map (section_part b place) (range_with_len 0 s.nsects)
    → p2 ≡ p0 ++ parts_of_segment b (command_at b place)
sections_join b place s p0 p1 p2 is h1 h2 =
    h2 ∙ ap (λ ps. ps ++ map (section_part b place) (range_with_len 0 s.nsects)) h1
    ∙ append_assoc p0 (own_parts b (command_at b place)) (map (section_part b place) (range_with_len 0 s.nsects))
    ∙ ap (λ (t : SegmentCommand). p0 ++ (own_parts b (command_at b place) ++ map (section_part b place) (range_with_len 0 t.nsects))) is
    ∙ ap (λ ps. p0 ++ (own_parts b (command_at b place) ++ ps))
    (sym (map_map part_of_section (λ k. reading section_header b (place + size_of segment_command + size_of section_header * k))
    (range_with_len 0 (segment_in b (command_at b place)).nsects)))

-- the parts, list by list
pub parts_join : (b : List ℕ) (segments fixups tries symbols strings signatures : List LinkeditRange) (p0 p1 p2 p3 p4 p5 p6 : List FilePart)
    → segments ≡ map (range_of b) (numbered LC_SEGMENT_64 b) → fixups ≡ map (range_of b) (numbered LC_DYLD_CHAINED_FIXUPS b)
    → tries ≡ map (range_of b) (numbered LC_DYLD_EXPORTS_TRIE b) → symbols ≡ map (range_of b) (numbered LC_SYMTAB b)
    → strings ≡ map (range_of b) (numbered LC_SYMTAB b)
    → signatures ≡ map (range_of b) (numbered LC_CODE_SIGNATURE b) → p0 ≡ []
    → p1 ≡ p0 ++ flat_map (λ r. parts_of_segment b (command_at b r.command)) segments → p2 ≡ p1 ++ map (range_part true) fixups
    → p3 ≡ p2 ++ map (range_part false) tries → p4 ≡ p3 ++ map (symbols_part b) symbols → p5 ≡ p4 ++ map (strings_part b) strings
    → p6 ≡ p5 ++ map (range_part false) signatures → p6 ≡ parts_of b
unfolding parts_of tables_of tries_of symbol_tables_of string_tables_of signatures_of
parts_join b segments fixups tries symbols strings signatures p0 p1 p2 p3 p4 p5 p6 is_a is_b is_c is_d is_s is_e h0 h1 h2 h3 h4 h5 h6 =
    let a : flat_map (λ r. parts_of_segment b (command_at b r.command)) segments
    ≡ flat_map (parts_of_segment b) (numbered LC_SEGMENT_64 b) =
    ap (λ rs. flat_map (λ r. parts_of_segment b (command_at b r.command)) rs) is_a
    ∙ flat_map-map (λ r. parts_of_segment b (command_at b r.command)) (range_of b) (numbered LC_SEGMENT_64 b)
    ∙ flat_same (numbered LC_SEGMENT_64 b) (λ x there. unfilter_contains (λ c. c.number == LC_SEGMENT_64) (commands_of b) x there) in
    let t1 = ap (λ rs. map (range_part true) rs) is_b ∙ map_map (range_part true) (range_of b) (numbered LC_DYLD_CHAINED_FIXUPS b)
    ∙ sym (map_map (part_of_table true) _ (numbered LC_DYLD_CHAINED_FIXUPS b)) in
    let t2 = ap (λ rs. map (range_part false) rs) is_c ∙ map_map (range_part false) (range_of b) (numbered LC_DYLD_EXPORTS_TRIE b)
    ∙ sym (map_map (part_of_table false) _ (numbered LC_DYLD_EXPORTS_TRIE b)) in
    let t3 = ap (λ rs. map (symbols_part b) rs) is_d ∙ map_map (symbols_part b) (range_of b) (numbered LC_SYMTAB b)
    ∙ sym (map_map (part_of_table false) _ (numbered LC_SYMTAB b)) in
    let t4 = ap (λ rs. map (strings_part b) rs) is_s ∙ map_map (strings_part b) (range_of b) (numbered LC_SYMTAB b)
    ∙ sym (map_map (part_of_table false) _ (numbered LC_SYMTAB b)) in
    let t5 = ap (λ rs. map (range_part false) rs) is_e ∙ map_map (range_part false) (range_of b) (numbered LC_CODE_SIGNATURE b)
    ∙ sym (map_map (part_of_table false) _ (numbered LC_CODE_SIGNATURE b)) in
    rw (h6, h5, h4, h3, h2, h1, h0, a, t1, t2, t3, t4, t5) (joined (flat_map (parts_of_segment b) (numbered LC_SEGMENT_64 b)) (map
    (part_of_table true) (tables_of b))
    (map (part_of_table false) (tries_of b)) (map (part_of_table false) (symbol_tables_of b)) (map (part_of_table false)
    (string_tables_of b))
    (map (part_of_table false) (signatures_of b)))
  where
    flat_same : (xs : List Command) → ((x : Command) → Contains xs x → Contains (commands_of b) x)
        → flat_map (λ x. parts_of_segment b (command_at b x.at)) xs ≡ flat_map (parts_of_segment b) xs
    flat_same [] each = refl
    flat_same (x ∷ xs) each =
        ap (λ y. parts_of_segment b y ++ flat_map (λ z. parts_of_segment b (command_at b z.at)) xs)
        (stands_there b x (each x (contains_first x xs)))
        ∙ ap (λ ys. parts_of_segment b x ++ ys) (flat_same xs (λ y there. each y (contains_later x xs y there)))

    joined : (a b c d e f : List FilePart) → ((((([] ++ a) ++ b) ++ c) ++ d) ++ e) ++ f ≡ a ++ ((((b ++ c) ++ d) ++ e) ++ f)
    joined a b c d e f = simp append_assoc refl

-- `__TEXT` ends inside the file
pub text_inside : (b : List ℕ) → IsAccepted b → text_end b ≤ length b
unfolding segments_of
text_inside b accepted =
    first_inside (segments_named TEXT b)
    (λ s there. leb-true (s.fileoff + s.filesize) (length b)
    (and_left (nat_le (s.fileoff + s.filesize) (length b)) (nat_le s.filesize s.vmsize)
    (all_contains (λ t. (nat_le (t.fileoff + t.filesize) (length b) && nat_le t.filesize t.vmsize) ≡ true) (segments_of b) s accepted.l4
    (unfilter_contains (is_named TEXT) (segments_of b) s there))))
  where
    first_inside : (ss : List SegmentCommand) → ((s : SegmentCommand) → Contains ss s → s.fileoff + s.filesize ≤ length b)
        → of_first 0 (λ (s : SegmentCommand). s.fileoff + s.filesize) ss ≤ length b
    first_inside [] each = omega arith
    first_inside (s ∷ ss) each = each s (contains_first s ss)

pub room_inside : (b : List ℕ) → IsAccepted b → room_of b ≤ length b
unfolding room_of
room_inside b accepted =
    let h = least-small (text_end b) (begins_from (commands_end b) (parts_of b)) in
    let g = text_inside b accepted in omega (arith, h, g)

-- the room, as it is found
pub room_is : (b : List ℕ) (parts : List FilePart) (text end room : ℕ) → parts ≡ parts_of b → text ≡ text_end b → end ≡ commands_end b
    → room ≡ least text (begins_from end parts) → room ≡ room_of b
unfolding room_of
room_is b parts text end room are is_text is_end is =
    is ∙ ap (λ n. least n (begins_from end parts)) is_text ∙ ap (λ e. least (text_end b) (begins_from e parts)) is_end
    ∙ ap (λ ps. least (text_end b) (begins_from (commands_end b) ps)) are

-- where no part is in the way, none is tangled
pub none_tangled : (b : List ℕ) (parts : List FilePart) (end limit place : ℕ) → parts ≡ parts_of b → end ≡ commands_end b
    → signature_begin b ≡ limit → All (λ p. is_in_way end limit p ≡ false) parts → IsTangled b place → ⊥
none_tangled b parts end limit place are is_end is_limit none (p, there, way, at) =
    let clear = all_contains (λ q. is_in_way end limit q ≡ false) parts p none (subst (λ ps. Contains ps p) (sym are) there) in
    let way2 : is_in_way end limit p ≡ true =
    subst (λ l. is_in_way end l p ≡ true) is_limit (subst (λ e. is_in_way e (signature_begin b) p ≡ true) (sym is_end) way) in
    true_or_false (is_in_way end limit p) way2 clear

-- test by test
pub clear_to_6 : (b : List ℕ) (end : ℕ) → ((place : ℕ) → IsTangled b place → ⊥) → RoomIsClear b end 6
clear_to_6 b end none (Tangled place) from to stands = none place stands
clear_to_6 b end none (Rejected fault) from to stands = stands
clear_to_6 b end none BadName from to stands = stands
clear_to_6 b end none NotThere from to stands = stands
clear_to_6 b end none Unsigned from to stands = stands
clear_to_6 b end none (NoRoom needed room) from to stands = absurd (omega (arith, to))
clear_to_6 b end none (PaddingUsed place) from to stands = absurd (omega (arith, to))
clear_to_6 b end none OutOfMemory from to stands = absurd (omega (arith, from))

pub clear_to_7 : (b : List ℕ) (end : ℕ) → ((place : ℕ) → IsTangled b place → ⊥) → end ≤ room_of b → RoomIsClear b end 7
clear_to_7 b end none room (NoRoom needed r) from to stands = let is = stands.1 in let less = stands.2 in absurd (omega
    (arith, is, less, room))
clear_to_7 b end none room (PaddingUsed place) from to stands = absurd (omega (arith, to))
clear_to_7 b end none room (Tangled place) from to stands = none place stands
clear_to_7 b end none room (Rejected fault) from to stands = stands
clear_to_7 b end none room BadName from to stands = stands
clear_to_7 b end none room NotThere from to stands = stands
clear_to_7 b end none room Unsigned from to stands = stands
clear_to_7 b end none room OutOfMemory from to stands = absurd (omega (arith, from))

pub clear_to_8 : (b : List ℕ) (end : ℕ) → ((place : ℕ) → IsTangled b place → ⊥) → end ≤ room_of b
    → ((i : ℕ) → commands_end b ≤ i → i < end → slice_index b i ≡ 0) → RoomIsClear b end 8
clear_to_8 b end none room zero (PaddingUsed place) from to stands = stands.used (zero place stands.behind stands.before)
clear_to_8 b end none room zero (NoRoom needed r) from to stands =
    let is = stands.1 in let less = stands.2 in absurd (omega (arith, is, less, room))
clear_to_8 b end none room zero (Tangled place) from to stands = none place stands
clear_to_8 b end none room zero (Rejected fault) from to stands = stands
clear_to_8 b end none room zero BadName from to stands = stands
clear_to_8 b end none room zero NotThere from to stands = stands
clear_to_8 b end none room zero Unsigned from to stands = stands
clear_to_8 b end none room zero OutOfMemory from to stands = absurd (omega (arith, from))
