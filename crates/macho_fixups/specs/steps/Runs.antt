-- The pages of one fixup.
use Rattle.std.specs.Prelude.{ℕ, ◌+◌, ◌-◌, ◌/◌, if◌then◌else◌, ◌≤◌, List}
use Rattle.macho_model.specs.Segments.{SEGMENT_PAGE}
use Rattle.macho_fixups.specs.declared.run.Fixup.{Fixup}
use Rattle.macho_fixups.specs.declared.run.FixupSegment.{FixupSegment}
use Rattle.macho_fixups.specs.Runs.{is_in}
use Rattle.std.specs.List.{AllPairs}
use Rattle.macho_model.specs.Needs.{POINTER_SIZE}

-- the pages of a segment up to that of a fixup in it, none for another
abbrev pub pages_with : FixupSegment → Fixup → ℕ
pages_with s f = if is_in s f.address then f.address / SEGMENT_PAGE - s.address / SEGMENT_PAGE + 1 else 0

-- the fixups stand in order, and no word begins inside another
abbrev pub AreSorted : List Fixup → Type 0
AreSorted fixups = AllPairs (λ f g. f.address + POINTER_SIZE ≤ g.address) fixups
