-- Where the parts of a placement are in the file.
use Rattle.std.specs.Prelude.{◌≡◌, ℕ, ◌+◌, ◌*◌, ◌<◌, ◌≤◌, length, get_or, All}
use Rattle.macho_model.specs.declared.placed.Counts.{Counts}
use Rattle.macho_model.specs.declared.placed.Stub.{Stub}
use Rattle.macho_model.specs.Links.{Link}
use Rattle.macho_model.specs.Placement.{Placed}
use Rattle.macho_model.specs.Zeros.{Span}
use Rattle.macho_model.specs.Spans.{section_span, slot_span, stub_span, range_span, filled_sections}
use Rattle.macho_model.specs.Addresses.{offset_in_file}
use Rattle.macho_model.specs.WrittenSum.{STUB_SIZE}
use Rattle.macho_layout_laws.specs.Laws.{IsWhollyPlaced}

-- The bytes of a range of addresses stand in the file one behind the other, in front of its end.
pub record StandsInFile (p : Placed) (s : Span) : Type 0 where
  pub each : (i : ℕ) → i < s.size → offset_in_file p (s.start + i) ≡ offset_in_file p s.start + i
  pub ends : 1 ≤ s.size → offset_in_file p s.start + s.size ≤ p.linkedit.signature.end

-- all stubs as one range
abbrev pub stubs_span : Placed → Stub → Span
stubs_span p d = record { start = (get_or p.stubs 0 d).address; size = STUB_SIZE * length p.stubs }

-- So do sections with bytes, slots, stubs, each and all of them, offsets of initializers and unwind information.
pub record PartsStandInFile (l : Link) (p : Placed) : Type 0 where
  pub sections : All (λ q. StandsInFile p (section_span l q)) (filled_sections l p)
  pub slots : All (λ s. StandsInFile p (slot_span s)) p.slots
  pub stubs : All (λ s. StandsInFile p (stub_span s)) p.stubs
  pub all_stubs : (d : Stub) → StandsInFile p (stubs_span p d)
  pub init_offsets : StandsInFile p (range_span p.init_offsets)
  pub unwind : StandsInFile p (range_span p.unwind)

abbrev pub PartsStand : Type 0
PartsStand = (l : Link) (counts : Counts) (p : Placed) → IsWhollyPlaced l counts p → PartsStandInFile l p
