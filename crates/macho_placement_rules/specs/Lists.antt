-- The stubs of a link, and the ranges that the linker fills.
use Rattle.std.specs.Prelude.{◌≡◌, ◌+◌, ◌≤◌, ◌⊎◌, List, map, All, true}
use Rattle.macho_model.specs.declared.targets.Target.TheVariants as target
use Rattle.macho_model.specs.declared.placed.Stub.{Stub}
use Rattle.macho_model.specs.declared.placed.Range64.{Range64}
use Rattle.macho_model.specs.Links.{Link}
use Rattle.macho_model.specs.Targets.{stubs_of, slot_number}
use Rattle.macho_model.specs.Segments.{TEXT, LINKEDIT}
use Rattle.macho_model.specs.Placement.{Placed, IsInNamed, LiesIn, range_piece}
use Rattle.macho_layout.specs.declared.spec.StubSpec.{StubSpec}

-- These stubs are the link's, by first call, each through the slot of its import: as a placement has them, and as a plan.
pub record AreStubs (l : Link) (stubs : List Stub) : Type 0 where
  pub stubs_are : map (λ s. target.Import s.import) stubs ≡ stubs_of l
  pub slots_are : All (λ s. s.slot ≡ slot_number l (target.Import s.import)) stubs

pub record ArePlannedStubs (l : Link) (specs : List StubSpec) : Type 0 where
  pub stubs_are : map (λ s. target.Import s.import) specs ≡ stubs_of l
  pub slots_are : All (λ s. s.slot ≡ slot_number l (target.Import s.import)) specs

-- a range that the linker fills ends no earlier than it begins, and lies in the file part of `__TEXT` where it isn't empty
abbrev pub RangeLies : Placed → Range64 → Type 0
RangeLies p r = (r.start ≤ r.end) × ((r.end ≡ r.start) ⊎ IsInNamed p TEXT (LiesIn true (range_piece 0 r)))

-- a table of `__LINKEDIT` lies, by its file offsets, in the file part of that segment where it isn't empty
abbrev pub TableLies : Placed → Range64 → Type 0
TableLies p r = (r.end ≡ r.start)
    ⊎ IsInNamed p LINKEDIT (λ s. (s.file_offset ≤ r.start) × (r.start ≤ r.end) × (r.end ≤ s.file_offset + s.file_size))
