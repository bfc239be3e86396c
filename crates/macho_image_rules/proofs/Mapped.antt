-- The bytes of a segment that an image has mapped.
--
-- A segment of the placement that has bytes in memory stands among those that are compared, so the image has a segment of its name and
-- ranges at the same place; that one is mapped, as its name is not that of the one that keeps addresses free. The image is accepted, so
-- the file has the segment's file bytes. An address in the segment lies in no other mapped one; so the segment's own byte is the only one
-- there.
use Rattle.std.proofs.Common.{◌≡◌, ℕ, ◌+◌, ◌-◌, ◌<◌, ◌≤◌, ◌==◌, ◌&&◌, not, nat_lt, nat_le, if◌then◌else◌, true, false, List, length, filter, slice_index, refl, sym, ap, ◌∙◌, arith}
use Rattle.std.specs.Prelude.{Contains}
use Rattle.std.specs.Str.{bytes_eq}
use Rattle.std.proofs.lemmas.Bool.{leb-true}
use Rattle.std.proofs.lemmas.Bool.Decides.{nat_tests}
use Rattle.macho_bytes.proofs.Members.{all_contains, contains_filter, filter_contains}
use Rattle.macho_records.specs.Segments.{text_of}
use Rattle.macho_records.specs.declared.header.SegmentCommand.{SegmentCommand}
use Rattle.macho_model.specs.declared.placed.PlacedSegment.{PlacedSegment}
use Rattle.macho_model.specs.Segments.{PAGEZERO}
use Rattle.macho_model.specs.Images.{segments_of, mapped_segments, is_named}
use Rattle.macho_model.specs.Loader.{IsAccepted}
use Rattle.macho_model.specs.Memory.{IsSegmentByte}
use Rattle.macho_model.proofs.Apart.{share_no_address}
use Rattle.macho_image_rules.specs.Segments.{SegmentIs}
use Rattle.macho_image_rules.specs.Bytes.{IsMapped, byte_behind}
use Rattle.macho_image_rules.specs.Laws.{PlacedIsMapped, MappedByteStands, MappedByteIsOne}
use Rattle.macho_image_rules.proofs.Zipped.{zipped_back}

-- a command of the name and ranges of a segment that isn't `__PAGEZERO`, among the segments of a file, is mapped
mapped_one : (b : List ℕ) (s : SegmentCommand) (t : PlacedSegment) → Contains (segments_of b) s → SegmentIs s t
    → bytes_eq (text_of t.name) PAGEZERO ≡ false → Contains (mapped_segments b) s
unfolding mapped_segments
mapped_one b s t there is other =
    contains_filter (λ (x : SegmentCommand). not (is_named PAGEZERO x)) (segments_of b) s there
    (ap not (ap (λ (name : List ℕ). bytes_eq name PAGEZERO) is.name ∙ other))

pub placed_is_mapped : PlacedIsMapped
placed_is_mapped b p t are there some other =
    let sized : not (t.size == 0) ≡ true = grind (arith, nat_tests) in
    let listed = contains_filter (λ (x : PlacedSegment). not (x.size == 0)) p.segments t there sized in
    let found = zipped_back SegmentIs (filter (λ (x : SegmentCommand). not (x.vmsize == 0)) (segments_of b))
    (filter (λ (x : PlacedSegment). not (x.size == 0)) p.segments) t are.each listed in
    let one = filter_contains (λ (x : SegmentCommand). not (x.vmsize == 0)) (segments_of b) found.0 found.1 in
    record { command = found.0; one = mapped_one b found.0 t one.0 found.2 other; is = found.2 }

-- a mapped segment is a segment of the file
pub mapped_listed : (b : List ℕ) (s : SegmentCommand) → Contains (mapped_segments b) s → Contains (segments_of b) s
unfolding mapped_segments
mapped_listed b s one = (filter_contains (λ (x : SegmentCommand). not (is_named PAGEZERO x)) (segments_of b) s one).0

and_left : (p q : _) → (p && q) ≡ true → p ≡ true
and_left true q h = refl
and_left false q h = h

-- the file has the file bytes of a mapped segment
pub mapped_inside : (b : List ℕ) (t : PlacedSegment) → IsAccepted b → IsMapped b t → t.file_offset + t.file_size ≤ length b
mapped_inside b t accepted mapped =
    let s : SegmentCommand = mapped.command in
    let fits = all_contains (λ (x : SegmentCommand). (nat_le (x.fileoff + x.filesize) (length b) && nat_le x.filesize x.vmsize) ≡ true)
    (segments_of b) s accepted.l4 (mapped_listed b s mapped.one) in
    let inside = leb-true (s.fileoff + s.filesize) (length b)
    (and_left (nat_le (s.fileoff + s.filesize) (length b)) (nat_le s.filesize s.vmsize) fits) in
    omega (arith, inside, mapped.is.offset, mapped.is.filed)

-- the byte of the command's segment is that of the placed one
same_byte : (b : List ℕ) (s : SegmentCommand) (t : PlacedSegment) (a i : ℕ) → SegmentIs s t → a ≡ t.address + i
    → (if nat_lt (a - s.vmaddr) s.filesize then slice_index b (s.fileoff + (a - s.vmaddr)) else 0) ≡ byte_behind b t i
same_byte b s t a i is at =
    let far : a - s.vmaddr ≡ i = omega (arith, is.address) in
    rw (far, is.filed, is.offset) refl

-- the byte of a mapped segment at a place in it
pub byte_stands : (b : List ℕ) (t : PlacedSegment) (a i : ℕ) → IsMapped b t → a ≡ t.address + i → i < t.size
    → IsSegmentByte b a (byte_behind b t i)
byte_stands b t a i mapped at low = record {
  segment = mapped.command;
  one = mapped.one;
  from = omega (arith, at, mapped.is.address);
  to = omega (arith, at, low, mapped.is.address, mapped.is.size);
  is = sym (same_byte b mapped.command t a i mapped.is at);
}

-- there is no other byte there
pub byte_is_one : (b : List ℕ) (t : PlacedSegment) (a i v : ℕ) → IsAccepted b → IsMapped b t → a ≡ t.address + i → i < t.size
    → IsSegmentByte b a v → v ≡ byte_behind b t i
byte_is_one b t a i v accepted mapped at low byte =
    let same : byte.segment ≡ mapped.command = share_no_address b byte.segment mapped.command a accepted byte.one mapped.one
    (byte.from, byte.to)
    (omega (arith, at, mapped.is.address), omega (arith, at, low, mapped.is.address, mapped.is.size)) in
    byte.is
    ∙ ap (λ (s : SegmentCommand). if nat_lt (a - s.vmaddr) s.filesize then slice_index b (s.fileoff + (a - s.vmaddr)) else 0) same
    ∙ same_byte b mapped.command t a i mapped.is at

-- THE laws of a mapped segment's bytes.
pub mapped_byte_stands : MappedByteStands
mapped_byte_stands b t i mapped low = byte_stands b t (t.address + i) i mapped refl low

pub mapped_byte_is_one : MappedByteIsOne
mapped_byte_is_one b t i v accepted mapped low byte = byte_is_one b t (t.address + i) i v accepted mapped refl low byte
