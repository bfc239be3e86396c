-- The head of a link is read back: each reading finds what the link and its placement told.
--
-- The file says the link's commands. So segments are those of the placement, field by field: a name in a record is the
-- placed name, up to its first NUL. The entry stands alone in an executable; each table of `__LINKEDIT` has one command.
use Rattle.std.proofs.Common.{◌≡◌, Bool, true, false, List, [], ◌∷◌, map, refl, ap, ◌∙◌}
use Rattle.macho_model.specs.declared.placed.PlacedSegment.{PlacedSegment}
use Rattle.macho_model.specs.Placement.{Placed}
use Rattle.macho_model.specs.Segments.{list_if}
use Rattle.macho_model.specs.HeadCommands.{HeadCommand, segment_for, entry_point_for}
use Rattle.macho_commands.specs.Laws.{HeadIsRead}
use Rattle.macho_commands.proofs.Told.{segment_taken, entry_taken, segments-told, headers-told, entry-told, uuid-told, libraries-told, fixups-told, trie-told, symbols-told, strings-told, signature-told}
use Rattle.macho_model.specs.steps.Agreement.{SegmentPlace, place_by_command, place_told}

-- a segment's command tells the placed segment
places_agree : (p : Placed) (segments : List PlacedSegment) → map place_by_command (map segment_taken (map (segment_for p) segments)) ≡
    map place_told segments
places_agree p [] = refl
places_agree p (s ∷ segments) = ap (λ (ps : List SegmentPlace). place_told s ∷ ps) (places_agree p segments)

entry_alone : (e : Bool) (h : HeadCommand) → map entry_taken (list_if e (h ∷ [])) ≡ list_if e (entry_taken h ∷ [])
entry_alone true h = refl
entry_alone false h = refl

-- THE head is read
pub head_read : HeadIsRead
head_read l counts uuid b p trie says = record {
  segments = ap (map place_by_command) (segments-told l counts uuid b p trie says) ∙ places_agree p p.segments;
  sections = headers-told l counts uuid b p trie says;
  entry = entry-told l counts uuid b p trie says ∙ entry_alone l.executable (entry_point_for l p);
  uuid_is = uuid-told l counts uuid b p trie says;
  libraries = libraries-told l counts uuid b p trie says;
  fixups = fixups-told l counts uuid b p trie says;
  tries = trie-told l counts uuid b p trie says;
  symbols = symbols-told l counts uuid b p trie says;
  strings = strings-told l counts uuid b p trie says;
  signature = signature-told l counts uuid b p trie says;
}
