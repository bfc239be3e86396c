-- What the table of relocations asks of a field, by its kind: its width, the word at its place, and that its target has a
-- place that the field can name.
use Rattle.std.specs.Prelude.{◌≡◌, ℕ, ◌⊎◌, true, false, Option, Some, None}
use Rattle.macho_model.specs.declared.targets.Target.{Target}
use Rattle.macho_model.specs.Targets.{is_import, is_defined}
use Rattle.macho_model.specs.Fields.{Field}
use Rattle.macho_model.specs.Words.{is_adrp, is_branch, is_ldr}
use Rattle.macho_model.specs.Rows.{is_none}
use Rattle.macho_model.specs.Supported.{takes_offset}
use Rattle.macho_model.specs.Stands.{Kind, Pointer, Difference, Branch, Page, Offset, SlotPage, SlotOffset, SlotDistance, NoKind}
use Rattle.macho_model.specs.Placement.{Placed}
use Rattle.macho_arm64.specs.Relaxations.{is_relaxable}
use Rattle.macho_fields.specs.Looks.{IsThere, HasSlot, HasStub}
use Rattle.macho_fields.specs.steps.Fields.{goes_straight}

-- a target that moves with the image, in its place
pub record IsInImage (p : Placed) (t : Target) : Type 0 where
  pub defined : is_defined t ≡ true
  pub there : IsThere p t

-- a target that may be called, or loaded: in the image, or an import with a stub or a slot
pub data IsCallable (p : Placed) (t : Target) : Type 0 where
  direct : IsInImage p t → IsCallable p t
  by_stub : is_import t ≡ true → HasStub p t → IsCallable p t

pub data IsLoadable (p : Placed) (t : Target) : Type 0 where
  direct : IsInImage p t → IsLoadable p t
  by_slot : is_import t ≡ true → HasSlot p t → IsLoadable p t

abbrev pub IsSubtracted : Placed → Option Target → Type 0
IsSubtracted p None = ⊥
IsSubtracted p (Some t) = IsInImage p t

-- a pointer to anything; a load of what is in the image can be made an ADD
abbrev pub KindFits : Placed → Field → ℕ → Kind → Type 0
KindFits p f word Pointer = (f.width ≡ 8) × (is_none f.target ≡ false) × IsThere p f.target
KindFits p f word Difference = ((f.width ≡ 4) ⊎ (f.width ≡ 8)) × IsInImage p f.target × IsSubtracted p f.subtrahend
KindFits p f word Branch = (f.width ≡ 4) × (is_branch word ≡ true) × IsCallable p f.target
KindFits p f word Page = (f.width ≡ 4) × (is_adrp word ≡ true) × IsInImage p f.target
KindFits p f word Offset = (f.width ≡ 4) × (takes_offset word ≡ true) × IsInImage p f.target
KindFits p f word SlotPage = (f.width ≡ 4) × (is_adrp word ≡ true) × IsLoadable p f.target
KindFits p f word SlotOffset =
    (f.width ≡ 4) × (is_ldr word ≡ true) × (goes_straight f.target ≡ true → is_relaxable word ≡ true) × IsLoadable p f.target
KindFits p f word SlotDistance = (f.width ≡ 4) × (is_none f.target ≡ false) × HasSlot p f.target
KindFits p f word NoKind = ⊥
