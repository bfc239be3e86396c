-- The link's placement, as the head of its image holds it: each number cut to its field.
--
-- What is written of a number is its lowest bytes, and they are those of the number that is left of it in its field. An entry is
-- written as its distance from the base; so in place of a base that is too far away stands one that is as far as the field says.
use Rattle.std.proofs.Common.{◌≡◌, ℕ, ◌+◌, ◌-◌, ◌/◌, ◌%◌, ◌^◌, map, refl, arith}
use Rattle.macho_bytes.specs.Numbers.{le_bytes}
use Rattle.macho_records.specs.declared.header.SectionHeader.{SectionHeader}
use Rattle.macho_model.specs.declared.placed.Counts.{Counts}
use Rattle.macho_model.specs.declared.placed.PlacedSegment.{PlacedSegment}
use Rattle.macho_model.specs.declared.placed.Range64.{Range64}
use Rattle.macho_model.specs.declared.targets.Target.{Target}
use Rattle.macho_model.specs.declared.targets.Target.TheVariants as target
use Rattle.macho_model.specs.Links.{Link}
use Rattle.macho_model.specs.Targets.{target_of_name}
use Rattle.macho_model.specs.Placement.{Placed}
use Rattle.macho_model.specs.Addresses.{address_of, section_address, common_address}

-- the lowest bytes of a number
pub bytes_cut4 : (n : ℕ) → le_bytes 4 (n % 2 ^ 32) ≡ le_bytes 4 n
unfolding le_bytes
bytes_cut4 n =
    let b0 : n % 4294967296 % 256 ≡ n % 256 = omega arith in
    let b1 : n % 4294967296 / 256 % 256 ≡ n / 256 % 256 = omega arith in
    let b2 : n % 4294967296 / 65536 % 256 ≡ n / 65536 % 256 = omega arith in
    let b3 : n % 4294967296 / 16777216 % 256 ≡ n / 16777216 % 256 = omega arith in
    rw (b0, b1, b2, b3) refl

pub bytes_cut8 : (n : ℕ) → le_bytes 8 (n % 2 ^ 64) ≡ le_bytes 8 n
unfolding le_bytes
bytes_cut8 n =
    let b0 : n % 18446744073709551616 % 256 ≡ n % 256 = omega arith in
    let b1 : n % 18446744073709551616 / 256 % 256 ≡ n / 256 % 256 = omega arith in
    let b2 : n % 18446744073709551616 / 65536 % 256 ≡ n / 65536 % 256 = omega arith in
    let b3 : n % 18446744073709551616 / 16777216 % 256 ≡ n / 16777216 % 256 = omega arith in
    let b4 : n % 18446744073709551616 / 4294967296 % 256 ≡ n / 4294967296 % 256 = omega arith in
    let b5 : n % 18446744073709551616 / 1099511627776 % 256 ≡ n / 1099511627776 % 256 = omega arith in
    let b6 : n % 18446744073709551616 / 281474976710656 % 256 ≡ n / 281474976710656 % 256 = omega arith in
    let b7 : n % 18446744073709551616 / 72057594037927936 % 256 ≡ n / 72057594037927936 % 256 = omega arith in
    rw (b0, b1, b2, b3, b4, b5, b6, b7) refl

-- what is told of a link, with each number cut
abbrev pub segment_cut : PlacedSegment → PlacedSegment
segment_cut s = record {
  name = s.name;
  address = s.address % 2 ^ 64;
  size = s.size % 2 ^ 64;
  file_offset = s.file_offset % 2 ^ 64;
  file_size = s.file_size % 2 ^ 64;
}

abbrev pub header_cut : SectionHeader → SectionHeader
header_cut h = record {
  sectname = h.sectname;
  segname = h.segname;
  addr = h.addr % 2 ^ 64;
  size = h.size % 2 ^ 64;
  offset = h.offset % 2 ^ 32;
  align = h.align % 2 ^ 32;
  reloff = h.reloff % 2 ^ 32;
  nreloc = h.nreloc % 2 ^ 32;
  flags = h.flags % 2 ^ 32;
  reserved1 = h.reserved1 % 2 ^ 32;
  reserved2 = h.reserved2 % 2 ^ 32;
  reserved3 = h.reserved3 % 2 ^ 32;
}

abbrev pub range_cut : Range64 → Range64
range_cut r = record { start = r.start % 2 ^ 32; end = r.start % 2 ^ 32 + (r.end - r.start) % 2 ^ 32 }

abbrev pub counts_cut : Counts → Counts
counts_cut c = record c { symbols = c.symbols % 2 ^ 32; strings = c.strings % 2 ^ 32 }

-- how far the entry is from the base
abbrev pub entry_distance : Link → Placed → ℕ
entry_distance l p = address_of p (target_of_name l l.entry) - p.base

abbrev pub placed_cut : Link → Placed → Placed
placed_cut l p = record p {
  base = address_of p (target_of_name l l.entry) - entry_distance l p % 2 ^ 64;
  segments = map segment_cut p.segments;
  output_sections = map header_cut p.output_sections;
  linkedit = record {
    fixups = range_cut p.linkedit.fixups;
    trie = record { start = p.linkedit.trie.start % 2 ^ 32; end = p.linkedit.trie.end };
    symtab = range_cut p.linkedit.symtab;
    strtab = range_cut p.linkedit.strtab;
    signature = range_cut p.linkedit.signature;
  };
}

-- a range has the size that is left
pub range_cut-size : (r : Range64) → (range_cut r).end - (range_cut r).start ≡ (r.end - r.start) % 2 ^ 32
range_cut-size r = omega arith

-- the entry is as far as the field says
distance_of : (p q : Placed) (t : Target) → q.sections ≡ p.sections → q.commons ≡ p.commons
    → q.base ≡ address_of p t - (address_of p t - p.base) % 2 ^ 64
    → address_of q t - q.base ≡ (address_of p t - p.base) % 2 ^ 64
unfolding section_address common_address
distance_of p q (target.Section file section offset) sections commons base = rw (sections, base) (omega arith)
distance_of p q (target.Common id) sections commons base = rw (commons, base) (omega arith)
distance_of p q (target.Import id) sections commons base = omega arith
distance_of p q target.Base sections commons base = omega arith
distance_of p q (target.Absolute value) sections commons base = rw base (omega arith)
distance_of p q target.None sections commons base = omega arith

pub entry_cut : (l : Link) (p : Placed) → entry_distance l (placed_cut l p) ≡ entry_distance l p % 2 ^ 64
entry_cut l p = distance_of p (placed_cut l p) (target_of_name l l.entry) refl refl refl
