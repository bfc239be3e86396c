-- The head of a link and that of its placement with each number cut are the same bytes.
--
-- Each record of the one is spelled as that of the other, number by number. A segment has the headers of its name, and a name is no
-- number; so the headers of a cut segment are the cut headers, and as many.
use Rattle.std.proofs.Common.{◌≡◌, ℕ, ◌+◌, ◌*◌, ◌%◌, ◌^◌, Bool, true, false, List, [], ◌∷◌, ◌++◌, length, map, refl, ap, ◌∙◌}
use Rattle.std.specs.Prelude.{filter}
use Rattle.std.specs.List.{flat_map}
use Rattle.std.specs.Str.{bytes_eq}
use Rattle.std.proofs.lemmas.List.{length-map, map-append}
use Rattle.macho_bytes.specs.Numbers.{row_bytes}
use Rattle.macho_bytes.specs.Texts.{name_of}
use Rattle.macho_records.specs.Segments.{text_of, segment_flags_of}
use Rattle.macho_records.specs.declared.header.SectionHeader.{SectionHeader}
use Rattle.macho_records.specs.declared.constants.TheConstants.{LC_CODE_SIGNATURE, LC_DYLD_CHAINED_FIXUPS, LC_DYLD_EXPORTS_TRIE, LC_SEGMENT_64}
use Rattle.macho_model.specs.declared.placed.Counts.{Counts}
use Rattle.macho_model.specs.declared.placed.PlacedSegment.{PlacedSegment}
use Rattle.macho_model.specs.declared.placed.Range64.{Range64}
use Rattle.macho_model.specs.Links.{Link}
use Rattle.macho_model.specs.Segments.{list_if, loaded_protection_of}
use Rattle.macho_model.specs.Placement.{Placed}
use Rattle.macho_model.specs.Head.{headers_in, range_size}
use Rattle.macho_model.specs.HeadCommands.{HeadCommand, Segment, segment_for, entry_point_for, linkedit_for, symtab_for, commands_for}
use Rattle.macho_commands.specs.Texts.{text_said}
use Rattle.macho_head_laws.proofs.Cut.{bytes_cut4, bytes_cut8, segment_cut, header_cut, range_cut, range_cut-size, counts_cut, placed_cut, entry_cut, entry_distance}
use Rattle.macho_bytes.specs.Spellings.{spelling}
use Rattle.macho_records.specs.Spellings.{section_header_rows}

-- a segment's command with these headers
abbrev pub segment_with : PlacedSegment → List SectionHeader → HeadCommand
segment_with s headers = Segment (record {
  cmd = LC_SEGMENT_64;
  cmdsize = 72 + 80 * length headers;
  segname = s.name.0;
  vmaddr = s.address;
  vmsize = s.size;
  fileoff = s.file_offset;
  filesize = s.file_size;
  maxprot = loaded_protection_of (text_of s.name);
  initprot = loaded_protection_of (text_of s.name);
  nsects = length headers;
  flags = segment_flags_of (text_of s.name);
}) headers

-- the headers of a name are cut one by one
filter_cut : (name : List ℕ) (hs : List SectionHeader) → filter (λ h. bytes_eq (name_of h.segname) name) (map header_cut hs)
    ≡ map header_cut (filter (λ h. bytes_eq (name_of h.segname) name) hs)
filter_cut name [] = refl
filter_cut name (h ∷ hs) = by (filter_cut name hs) (bytes_eq (name_of h.segname) name) refl
  where
    by : filter (λ k. bytes_eq (name_of k.segname) name) (map header_cut hs)
        ≡ map header_cut (filter (λ k. bytes_eq (name_of k.segname) name) hs)
        → (x : Bool) → bytes_eq (name_of h.segname) name ≡ x
        → filter (λ k. bytes_eq (name_of k.segname) name) (map header_cut (h ∷ hs))
        ≡ map header_cut (filter (λ k. bytes_eq (name_of k.segname) name) (h ∷ hs))
    by rest true e = rw (e, rest) refl
    by rest false e = rw (e, rest) refl

pub headers_cut : (l : Link) (p : Placed) (s : PlacedSegment)
    → headers_in (placed_cut l p) (segment_cut s) ≡ map header_cut (headers_in p s)
headers_cut l p s = filter_cut (text_of s.name) p.output_sections

-- a header's bytes, and those of headers
header_text : (h : SectionHeader) → spelling section_header_rows (header_cut h) ≡ spelling section_header_rows h
unfolding spelling row_bytes
header_text h =
    rw (
      bytes_cut8 h.addr,
      bytes_cut8 h.size,
      bytes_cut4 h.offset,
      bytes_cut4 h.align,
      bytes_cut4 h.reloff,
      bytes_cut4 h.nreloc,
      bytes_cut4 h.flags,
      bytes_cut4 h.reserved1,
      bytes_cut4 h.reserved2,
      bytes_cut4 h.reserved3,
    ) refl

headers_text : (hs : List SectionHeader)
    → flat_map (spelling section_header_rows) (map header_cut hs) ≡ flat_map (spelling section_header_rows) hs
headers_text [] = refl
headers_text (h ∷ hs) =
    ap (λ (t : List ℕ). t ++ flat_map (spelling section_header_rows) (map header_cut hs)) (header_text h)
    ∙ ap (λ (t : List ℕ). spelling section_header_rows h ++ t) (headers_text hs)

-- THE bytes of a segment's command
segment_text : (s : PlacedSegment) (hs : List SectionHeader) → text_said (segment_with (segment_cut s) (map header_cut hs))
    ≡ text_said (segment_with s hs)
unfolding text_said spelling row_bytes
segment_text s hs =
    rw (
      length-map hs header_cut,
      headers_text hs,
      bytes_cut8 s.address,
      bytes_cut8 s.size,
      bytes_cut8 s.file_offset,
      bytes_cut8 s.file_size,
    ) refl

segment_alike : (l : Link) (p : Placed) (s : PlacedSegment) → text_said (segment_for (placed_cut l p) (segment_cut s))
    ≡ text_said (segment_for p s)
segment_alike l p s =
    ap (λ (hs : List SectionHeader). text_said (segment_with (segment_cut s) hs)) (headers_cut l p s) ∙ segment_text s (headers_in p s)

segments_alike : (l : Link) (p : Placed) (ss : List PlacedSegment)
    → map text_said (map (segment_for (placed_cut l p)) (map segment_cut ss)) ≡ map text_said (map (segment_for p) ss)
segments_alike l p [] = refl
segments_alike l p (s ∷ ss) =
    ap (λ (t : List ℕ). t ∷ map text_said (map (segment_for (placed_cut l p)) (map segment_cut ss))) (segment_alike l p s)
    ∙ ap (λ (ts : List (List ℕ)). text_said (segment_for p s) ∷ ts) (segments_alike l p ss)

-- of the entry, and of the tables
entry_alike : (l : Link) (p : Placed) → text_said (entry_point_for l (placed_cut l p)) ≡ text_said (entry_point_for l p)
unfolding text_said spelling row_bytes
entry_alike l p = rw (entry_cut l p, bytes_cut8 (entry_distance l p)) refl

linkedit_alike : (number at size : ℕ)
    → text_said (linkedit_for number (at % 2 ^ 32) (size % 2 ^ 32)) ≡ text_said (linkedit_for number at size)
unfolding text_said spelling row_bytes
linkedit_alike number at size = rw (bytes_cut4 at, bytes_cut4 size) refl

ranged_alike : (number : ℕ) (r : Range64) → text_said (linkedit_for number (range_cut r).start (range_size (range_cut r)))
    ≡ text_said (linkedit_for number r.start (range_size r))
ranged_alike number r =
    ap (λ (n : ℕ). text_said (linkedit_for number (r.start % 2 ^ 32) n)) (range_cut-size r) ∙ linkedit_alike number r.start (range_size r)

symtab_alike : (l : Link) (counts : Counts) (p : Placed) → text_said (symtab_for (counts_cut counts) (placed_cut l p))
    ≡ text_said (symtab_for counts p)
unfolding text_said spelling row_bytes
symtab_alike l counts p =
    rw (
      bytes_cut4 p.linkedit.symtab.start,
      bytes_cut4 counts.symbols,
      bytes_cut4 p.linkedit.strtab.start,
      bytes_cut4 counts.strings,
    ) refl

listed_alike : (e : Bool) (h k : HeadCommand) → text_said h ≡ text_said k
    → map text_said (list_if e (h ∷ [])) ≡ map text_said (list_if e (k ∷ []))
listed_alike true h k same = ap (λ (t : List ℕ). t ∷ []) same
listed_alike false h k same = refl

-- THE bytes of all commands
pub commands_alike : (l : Link) (counts : Counts) (p : Placed) (uuid : List ℕ) (trie : ℕ)
    → map text_said (commands_for l (counts_cut counts) (placed_cut l p) uuid (trie % 2 ^ 32))
    ≡ map text_said (commands_for l counts p uuid trie)
unfolding commands_for
commands_alike l counts p uuid trie =
    simp map-append (rw (
      segments_alike l p p.segments,
      listed_alike l.executable (entry_point_for l (placed_cut l p)) (entry_point_for l p) (entry_alike l p),
      ranged_alike LC_DYLD_CHAINED_FIXUPS p.linkedit.fixups,
      linkedit_alike LC_DYLD_EXPORTS_TRIE p.linkedit.trie.start trie,
      symtab_alike l counts p,
      ranged_alike LC_CODE_SIGNATURE p.linkedit.signature,
    ) refl)
