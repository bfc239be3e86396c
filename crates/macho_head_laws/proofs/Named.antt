-- Names in the head of an image have the 16 bytes of their fields.
--
-- A segment's name is that of the link, filled with zeros, so it has 16 bytes at least; its text is read from a field of the file, so
-- it has 16 at most. The headers of sections are read from the file, and their names are filled in the same way.
use Rattle.std.proofs.Common.{◌≡◌, ℕ, ◌+◌, ◌*◌, ◌-◌, ◌≤◌, ◌==◌, List, [], ◌∷◌, length, map, get_or, drop, slice_range, refl, sym, ap, subst, ◌∙◌, arith, All}
use Rattle.std.specs.Prelude.{replicate}
use Rattle.std.specs.List.{flat_map, range_with_len, position_or_len}
use Rattle.std.proofs.lemmas.List.{length-append, length-take, length-replicate}
use Rattle.std.proofs.lemmas.List.Concat.{flat_map-cons}
use Rattle.std.proofs.lemmas.List.Elements.{All-map, All-same, All-append, All-nil, All-cons}
use Rattle.macho_bytes.specs.Texts.{name_of}
use Rattle.macho_bytes.specs.Layouts.{reading}
use Rattle.macho_records.specs.Layouts.{segment_command, section_header}
use Rattle.macho_records.specs.Segments.{text_of, name_field}
use Rattle.macho_records.specs.declared.header.SectionHeader.{SectionHeader}
use Rattle.macho_records.specs.declared.constants.TheConstants.{LC_SEGMENT_64}
use Rattle.macho_model.specs.declared.placed.Counts.{Counts}
use Rattle.macho_model.specs.declared.placed.PlacedSegment.{PlacedSegment}
use Rattle.macho_model.specs.Commands.{Command, numbered}
use Rattle.macho_model.specs.Links.{Link}
use Rattle.macho_model.specs.Images.{segments_of}
use Rattle.macho_model.specs.Placement.{Placed}
use Rattle.macho_model.specs.Agreement.{SegmentsAgree, section_headers_at, section_headers_of}
use Rattle.macho_model.specs.steps.Outputs.{OutputSection, key_of_output, output_sections_of, output_sections_for, output_header}
use Rattle.macho_model.specs.Spans.{StandInOrder}
use Rattle.macho_head_laws.proofs.Fits.{IsNamed}
use Rattle.macho_model.specs.steps.Agreement.{SegmentPlace, place_by_command, place_told}
use Rattle.macho_bytes.proofs.Maps.{map_map}
use Rattle.macho_bytes.proofs.Members.{all_unmap}

-- a field of the file has 16 bytes at most, and a name no more than its field
field_short : (b : List ℕ) (from to : ℕ) → to ≤ from + 16 → length (slice_range b from to) ≤ 16
field_short b from to room = omega (arith, length-take (to - from) (drop from b), room)

name_short : (t : List ℕ) → length (name_of t) ≤ length t
name_short t = omega (arith, length-take (position_or_len (λ (x : ℕ). x == 0) t) t)

-- a name in its field
filled_least : (name : List ℕ) → 16 ≤ length (name_field name)
filled_least name =
    let n : ℕ = 16 - length (name_of name) in
    let gap : List ℕ = replicate n 0 in
    let count : length gap ≡ n = length-replicate n 0 in
    omega (arith, length-append (name_of name) gap, count)

filled_is : (name : List ℕ) → length (name_of name) ≤ 16 → length (name_field name) ≡ 16
filled_is name short =
    let n : ℕ = 16 - length (name_of name) in
    let gap : List ℕ = replicate n 0 in
    let count : length gap ≡ n = length-replicate n 0 in
    omega (arith, length-append (name_of name) gap, count, short)

of_flat_map : {X Y : Type 0} (P : Y → Type 0) (f : X → List Y) (xs : List X) → ((x : X) → All P (f x)) → All P (flat_map f xs)
of_flat_map P f [] each = All-nil P
of_flat_map P f (x ∷ xs) each = rw (flat_map-cons f x xs) (All-append P (f x) (flat_map f xs) (each x) (of_flat_map P f xs each))

-- elements of two lists that are the same
each_same : {X : Type 0} (f g : X → List ℕ) (xs : List X) → map f xs ≡ map g xs → All (λ x. f x ≡ g x) xs
each_same f g [] e = All-nil (λ x. f x ≡ g x)
each_same f g (x ∷ xs) e =
    All-cons (λ x. f x ≡ g x) x xs (ap (λ (ts : List (List ℕ)). get_or ts 0 []) e)
    (each_same f g xs (ap (λ (ts : List (List ℕ)). drop 1 ts) e))

-- THE names of segments
segment_read : (b : List ℕ) (at : ℕ) → length (reading segment_command b at).segname ≤ 16
unfolding reading
segment_read b at = field_short b (at + 8) (at + 24) (omega arith)

abbrev Short : SegmentPlace → Type 0
Short s = length s.0 ≤ 16

pub segments_named : (l : Link) (counts : Counts) (b : List ℕ) (p : Placed) → StandInOrder l counts p → SegmentsAgree b p
    → All (λ s. length s.name.0 ≡ 16) p.segments
unfolding segments_of
segments_named l counts b p order agree = λ k d lt.
    let s : PlacedSegment = get_or p.segments k d in
    let filled : s.name.0 ≡ name_field (text_of s.name) =
    each_same (λ (t : PlacedSegment). t.name.0) (λ (t : PlacedSegment). name_field (text_of t.name)) p.segments alike k d lt in
    ap length filled ∙ filled_is (text_of s.name) (omega (arith, name_short (text_of s.name), texts k d lt))
  where
    alike : map (λ (t : PlacedSegment). t.name.0) p.segments ≡ map (λ (t : PlacedSegment). name_field (text_of t.name)) p.segments
    alike = order.names ∙ ap (map name_field) (sym order.segments)
        ∙ map_map name_field (λ (t : PlacedSegment). text_of t.name) p.segments

    read : All Short (map place_by_command (segments_of b))
    read =
        All-map Short place_by_command (segments_of b)
        (All-map (λ s. Short (place_by_command s)) (λ (c : Command). reading segment_command b c.at) (numbered LC_SEGMENT_64 b)
        (λ k d lt.
        let at : ℕ = (get_or (numbered LC_SEGMENT_64 b) k d).at in
        omega (arith, name_short (reading segment_command b at).segname, segment_read b at)))

    texts : All (λ s. length (text_of s.name) ≤ 16) p.segments
    texts =
        all_unmap Short place_told p.segments
        (All-same Short (map place_told p.segments) (map place_by_command (segments_of b)) (sym agree) read)

-- THE names in section headers
header_read : (b : List ℕ) (at : ℕ)
    → (length (reading section_header b at).sectname ≤ 16) × (length (reading section_header b at).segname ≤ 16)
unfolding reading
header_read b at = (field_short b (at + 0) (at + 16) (omega arith), field_short b (at + 16) (at + 32) (omega arith))

abbrev ShortNames : SectionHeader → Type 0
ShortNames h = (length h.sectname ≤ 16) × (length h.segname ≤ 16)

abbrev LongNames : SectionHeader → Type 0
LongNames h = (16 ≤ length h.sectname) × (16 ≤ length h.segname)

headers_short : (b : List ℕ) → All ShortNames (section_headers_of b)
unfolding section_headers_of section_headers_at
headers_short b =
    of_flat_map ShortNames (λ (c : Command). section_headers_at b c.at) (numbered LC_SEGMENT_64 b)
    (λ c. All-map ShortNames (λ (k : ℕ). reading section_header b (c.at + 72 + 80 * k))
    (range_with_len 0 (reading segment_command b c.at).nsects)
    (λ k d lt. header_read b _))

headers_long : (l : Link) (counts : Counts) (p : Placed) → All LongNames (output_sections_for l counts p)
unfolding output_sections_for
headers_long l counts p =
    All-map LongNames (output_header l p) (output_sections_of l counts) (λ k d lt.
    let o : OutputSection = get_or (output_sections_of l counts) k d in
    (filled_least (key_of_output o).name, filled_least (key_of_output o).segment))

pub headers_named : (l : Link) (counts : Counts) (b : List ℕ) (p : Placed) → p.output_sections ≡ output_sections_for l counts p
    → section_headers_of b ≡ p.output_sections → All IsNamed p.output_sections
headers_named l counts b p are read = λ k d lt.
    let long = All-same LongNames p.output_sections (output_sections_for l counts p) are (headers_long l counts p) k d lt in
    let short = All-same ShortNames p.output_sections (section_headers_of b) (sym read) (headers_short b) k d lt in
    (omega (arith, long.0, short.0), omega (arith, long.1, short.1))
