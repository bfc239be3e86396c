-- A file with the head of a link keeps the loader's first seven rules.
--
-- Header and command sizes are those that the file says. Each rule on segments is asked of the placed segments: their
-- commands have the protections of their names, they are made of whole pages, stand in order and have room in the file
-- and in memory. `__TEXT` is there once, at the file's start, and is as long as the commands need.
use Rattle.std.proofs.Common.{◌≡◌, ℕ, ◌+◌, ◌%◌, ◌^◌, ◌≤◌, ◌==◌, ◌&&◌, nat_le, Bool, true, List, map, length, get_or, refl, sym, ap, subst, ◌∙◌, arith}
use Rattle.std.specs.Prelude.{filter}
use Rattle.std.proofs.lemmas.Bool.{le-leb, eq-eqb}
use Rattle.std.proofs.lemmas.List.{length-map}
use Rattle.std.proofs.lemmas.List.Elements.{All-map, All-same}
use Rattle.macho_records.specs.Segments.{text_of}
use Rattle.macho_records.specs.declared.header.SegmentCommand.{SegmentCommand}
use Rattle.macho_bytes.specs.Texts.{name_of}
use Rattle.macho_model.specs.declared.placed.PlacedSegment.{PlacedSegment}
use Rattle.macho_model.specs.Commands.{commands_end}
use Rattle.macho_model.specs.Segments.{TEXT, SEGMENT_PAGE, loaded_protection_of}
use Rattle.macho_model.specs.Placement.{Placed, IsPaged, is_segment_named}
use Rattle.macho_model.specs.Images.{segments_named, is_named}
use Rattle.macho_commands.specs.Laws.{HeadKeepsRules}
use Rattle.macho_commands.proofs.Told.{segments-told}
use Rattle.macho_commands.proofs.HeadRules.{ends-said, each-fits, head-fits}
use Rattle.macho_commands.proofs.SegmentRules.{record_for, AreOf, are-of, each_tested, neighbours_follow, one_text, named-records, named_each}
use Rattle.macho_model.specs.SegmentRules.{text_holds_commands}
use Rattle.macho_bytes.proofs.Bools.{and_both}

-- what the loader asks of a segment's record
abbrev pub protected : SegmentCommand → Bool
protected r = (r.maxprot == loaded_protection_of (name_of r.segname)) && (r.initprot == loaded_protection_of (name_of r.segname))

abbrev pub inside : List ℕ → SegmentCommand → Bool
inside b r = nat_le (r.fileoff + r.filesize) (length b) && nat_le r.filesize r.vmsize

abbrev pub paged : SegmentCommand → Bool
paged r = (r.vmaddr % SEGMENT_PAGE == 0) && (r.vmsize % SEGMENT_PAGE == 0) && (r.fileoff % SEGMENT_PAGE == 0)

abbrev pub ends : SegmentCommand → Bool
ends r = nat_le (r.vmaddr + r.vmsize) (2 ^ 64)

protected_for : (p : Placed) (s : PlacedSegment) → protected (record_for p s) ≡ true
protected_for p s =
    let same = eq-eqb (loaded_protection_of (text_of s.name)) (loaded_protection_of (text_of s.name)) refl in
    and_both _ _ same same

paged_for : (p : Placed) (s : PlacedSegment) → IsPaged s → paged (record_for p s) ≡ true
paged_for p s is =
    and_both _ _ (and_both _ _ (eq-eqb (s.address % SEGMENT_PAGE) 0 is.address) (eq-eqb (s.size % SEGMENT_PAGE) 0 is.size))
    (eq-eqb (s.file_offset % SEGMENT_PAGE) 0 is.file_offset)

-- THE rules are kept
pub head_kept : HeadKeepsRules
head_kept l counts uuid b p says order room = record {
  l1 = head-fits l counts uuid b p says (omega (arith, ends-said l counts uuid b p says, long));
  l2 = (le-leb (commands_end b) (length b) long, each-fits l counts uuid b p says);
  l3 = each_tested b p protected are (λ k d lt. protected_for p (get_or p.segments k d));
  l4 = each_tested b p (inside b) are (λ k d lt. and_both _ _ (le-leb _ _ (room.file k d lt))
      (le-leb _ _ (order.paged k d lt).file_size));
  l5 = each_tested b p paged are (λ k d lt. paged_for p (get_or p.segments k d) (order.paged k d lt));
  l6 = (
    each_tested b p ends are (λ k d lt. le-leb _ _ (room.memory k d lt)),
    neighbours_follow l b p first are order.follow,
  );
  l7 = (
    ap length texts ∙ length-map (filter (is_segment_named TEXT) p.segments) (record_for p)
        ∙ one_text l p first order.follow order.begins.1 order.begins.2,
    All-same (λ r. text_holds_commands b r ≡ true) (segments_named TEXT b) (map (record_for p)
        (filter (is_segment_named TEXT) p.segments)) texts
        (All-map (λ r. text_holds_commands b r ≡ true) (record_for p) (filter (is_segment_named TEXT) p.segments)
        (named_each p TEXT (λ s. text_holds_commands b (record_for p s) ≡ true)
        (λ k d lt named. and_both _ _ (eq-eqb _ 0 (room.text k d lt named).0) (le-leb _ _ (room.text k d lt named).1)))),
  );
}
  where
    first : PlacedSegment
    first = order.begins.0

    are : AreOf b p
    are = are-of b p (segments-told l counts uuid b p says.trie says.commands)

    texts : segments_named TEXT b ≡ map (record_for p) (filter (is_segment_named TEXT) p.segments)
    texts = ap (filter (is_named TEXT)) are ∙ named-records p p.segments TEXT

    -- `__TEXT` holds the commands, and the file holds `__TEXT`
    long : commands_end b ≤ length b
    long =
        let at : ℕ = order.begins.1.0 in
        let there = order.begins.1.1 in
        let is : get_or p.segments at first ≡ first = order.begins.1.2 in
        let named : is_segment_named TEXT (get_or p.segments at first) ≡ true = subst
        (λ (s : PlacedSegment). is_segment_named TEXT s ≡ true) (sym is) order.begins.2 in
        omega (arith, room.text at first there named, room.file at first there)
