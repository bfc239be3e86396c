-- Valid links: those that a linker owes an image if their paths can be written, wherever there is memory.
use Rattle.std.specs.Prelude.{◌≡◌, ℕ, ◌+◌, ◌*◌, ◌-◌, ◌%◌, ◌^◌, ◌≤◌, ◌==◌, nat_le, nat_lt, ◌&&◌, ◌||◌, not, Bool, true, false, All, Contains, None, is_some}
use Rattle.macho_records.specs.Sections.{segment_name_of}
use Rattle.macho_model.specs.declared.targets.Target.{Target}
use Rattle.macho_model.specs.declared.targets.Target.TheVariants as target
use Rattle.macho_model.specs.declared.placed.Counts.{Counts}
use Rattle.macho_records.specs.Symbols.{common_exponent_of, common_size_of}
use Rattle.macho_model.specs.Links.{Link, SectionId, section_id, header_at, carried_of, placed_exponent}
use Rattle.macho_model.specs.Resolution.{entry_at}
use Rattle.macho_model.specs.Fields.{Field, fields_of, content_of}
use Rattle.macho_model.specs.Words.{scale_of}
use Rattle.macho_model.specs.Segments.{may_hold_pointers}
use Rattle.macho_model.specs.WrittenSum.{written_sum_of}
use Rattle.macho_model.specs.Placement.{common_of}
use Rattle.macho_model.specs.Stands.{Kind, Pointer, Difference, Branch, Page, Offset, kind_of}
use Rattle.macho_model.specs.Values.{fits_signed, needs_fixup}
use Rattle.macho_model.specs.Faults.{LinkFault, BadName, FaultStands, kept_placement}

-- a number modulo 2 ^ 64, read as signed, is below 2 ^ 23 in size
abbrev pub is_small : ℕ → Bool
is_small x = nat_lt x (2 ^ 23) || nat_lt (2 ^ 64 - 2 ^ 23) x

-- a target plus an addend is a multiple of a power of two, whatever address the target gets
abbrev pub is_multiple : Link → ℕ → Target → ℕ → Bool
is_multiple l m (target.Section file section offset) addend =
    nat_le m (2 ^ placed_exponent l (section_id file section)) && ((offset + addend) % m == 0)
is_multiple l m (target.Common id) addend = nat_le m (2 ^ common_exponent_of (entry_at l (common_of l id))) && (addend % m == 0)
is_multiple l m target.Base addend = addend % m == 0
is_multiple l m t addend = true

-- the place of a field is a multiple of a power of two
abbrev pub stands_at_multiple : Link → SectionId → ℕ → Field → Bool
stands_at_multiple l s m f = nat_le m (2 ^ placed_exponent l s) && (f.offset % m == 0)

-- an address plus an addend lies in its section or common, or at its end; an import's addend fits 32 bits
abbrev pub stays_inside : Link → Target → ℕ → Bool
stays_inside l (target.Section file section offset) addend =
    nat_le ((offset + addend) % 2 ^ 64) (header_at l (section_id file section)).size
stays_inside l (target.Common id) addend = nat_le addend (common_size_of (entry_at l (common_of l id)))
stays_inside l (target.Import id) addend = fits_signed 32 addend
stays_inside l target.Base addend = addend == 0
stays_inside l t addend = false

-- A field is sure to fit, by its kind. A pointer that the loader writes is aligned, in a segment that may hold it, and leads into its
-- target.
abbrev pub field_fits : Link → SectionId → Field → Kind → Bool
field_fits l s f Pointer =
    not (needs_fixup l s f)
    || (may_hold_pointers (segment_name_of (header_at l s)) && stands_at_multiple l s 8 f && stays_inside l f.target f.addend)
field_fits l s f Difference = (f.width == 8) || is_small f.addend
field_fits l s f Branch = is_small f.addend && stands_at_multiple l s 4 f && is_multiple l 4 f.target f.addend
field_fits l s f Page = is_small f.addend
field_fits l s f Offset = is_small f.addend && is_multiple l (scale_of (content_of l s f.relocation)) f.target f.addend
field_fits l s f kind = true

-- A valid link.
pub record IsValid (l : Link) (counts : Counts) : Type 0 where
  -- no refusal stands that shows without a placement, but that of a path that can't be written
  pub unrefused : (f : LinkFault) → kept_placement f ≡ None → FaultStands l counts f → f ≡ BadName
  -- each field fits
  pub fields : (s : SectionId) → Contains (carried_of l) s
      → All (λ f. field_fits l s f (kind_of f.type (is_some f.subtrahend)) ≡ true) (fields_of l s)
  -- and the written sum is at most 64 MiB
  pub sum : written_sum_of l counts ≤ 64 * 2 ^ 20
