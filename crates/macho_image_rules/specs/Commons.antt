-- The commons of a placement in an image: what a walk over them rests on, and what it tells.
use Rattle.std.specs.Prelude.{◌≡◌, ℕ, ◌+◌, ◌<◌, ◌≤◌, true, List, map, All, Contains}
use Rattle.std.specs.List.{enumerate_from}
use Rattle.macho_records.specs.Symbols.{common_size_of}
use Rattle.macho_model.specs.declared.placed.Counts.{Counts}
use Rattle.macho_model.specs.declared.placed.PlacedSegment.{PlacedSegment}
use Rattle.macho_model.specs.declared.placed.PlacedCommon.{PlacedCommon}
use Rattle.macho_model.specs.Lists.{IsNumber}
use Rattle.macho_model.specs.Links.{Link}
use Rattle.macho_model.specs.Resolution.{entry_at, chosen_commons}
use Rattle.macho_model.specs.Segments.{DATA}
use Rattle.macho_model.specs.Placement.{Placed, IsPlaced, common_of, is_segment_named}
use Rattle.macho_layout.specs.declared.spec.CommonSpec.{CommonSpec}
use Rattle.macho_layout.specs.Plans.{common_spec_of}
use Rattle.macho_verify_laws.specs.InFile.{CommonByteIs}
use Rattle.macho_image_rules.specs.Segments.{SegmentsAre}
use Rattle.macho_image_rules.specs.Bytes.{IsMapped}
use Rattle.macho_image_rules.specs.declared.commons.WrongCommon.{WrongCommon}

-- A part of memory lies in a segment, which an image has mapped where the part has bytes.
pub record LiesMapped (b : List ℕ) (s : PlacedSegment) (address size : ℕ) : Type 0 where
  pub mapped : 0 < size → IsMapped b s
  pub from : s.address ≤ address
  pub to : address + size ≤ s.address + s.size

-- A placed common has its size told by its number; there is a `__DATA`, and each holds it.
pub record CommonStands (b : List ℕ) (p : Placed) (sizes : List CommonSpec) (c : PlacedCommon) : Type 0 where
  pub spec : CommonSpec
  pub number : IsNumber sizes c.id spec
  pub some : (s : PlacedSegment) × Contains p.segments s × (is_segment_named DATA s ≡ true)
  pub each : (s : PlacedSegment) → Contains p.segments s → is_segment_named DATA s ≡ true → LiesMapped b s c.address spec.size

abbrev pub CommonsStand : List ℕ → Placed → List CommonSpec → Type 0
CommonsStand b p sizes = All (CommonStands b p sizes) p.commons

-- the chosen commons of a link, by number, with their sizes
abbrev pub commons_of : Link → List CommonSpec
commons_of l = map (common_spec_of l) (enumerate_from 0 (chosen_commons l))

-- all commons of a placed link stand so, where the image's segments are the placement's
abbrev pub PlacedCommonsStand : Type 0
PlacedCommonsStand =
    (l : Link) (counts : Counts) (b : List ℕ) (p : Placed) → IsPlaced l counts p → SegmentsAre b p → CommonsStand b p (commons_of l)

-- each byte of a common is 0
abbrev pub CommonBytesAre : Link → List ℕ → PlacedCommon → Type 0
CommonBytesAre l b c = (i : ℕ) → i < common_size_of (entry_at l (common_of l c.id)) → CommonByteIs b c i

-- A byte of a common isn't 0.
pub record IsWrongOf (l : Link) (b : List ℕ) (c : PlacedCommon) (i : ℕ) : Type 0 where
  pub inside : i < common_size_of (entry_at l (common_of l c.id))
  pub other : CommonByteIs b c i → ⊥

-- What is told of a common is that of a placed one whose byte at the offset isn't 0.
pub record IsWrongCommon (l : Link) (b : List ℕ) (p : Placed) (t : WrongCommon) : Type 0 where
  pub place : PlacedCommon
  pub one : Contains p.commons place
  pub id : place.id ≡ t.id
  pub wrong : IsWrongOf l b place t.offset
