-- The fields of a placed link in an image that the loader doesn't write: what a walk over them rests on, and what it tells.
use Rattle.std.specs.Prelude.{◌≡◌, ℕ, false, List, Option, map, All, Contains}
use Rattle.macho_model.specs.declared.placed.PlacedSection.{PlacedSection}
use Rattle.macho_model.specs.Links.{Link, carried_of}
use Rattle.macho_model.specs.Fields.{Field, fields_of}
use Rattle.macho_model.specs.Values.{FieldOf, needs_fixup}
use Rattle.macho_model.specs.Placement.{Placed, id_of}
use Rattle.macho_object.specs.Views.{FileBytes}
use Rattle.macho_promise.specs.Sound.{IsSound}
use Rattle.macho_promise.specs.Views.{views_of}
use Rattle.macho_fields.specs.Looks.{Look, Tells, IsFound}
use Rattle.macho_fields.specs.Laws.{ObjectsAreWhole}
use Rattle.macho_verify_laws.specs.InFile.{PlainFieldSays}
use Rattle.macho_image_rules.specs.declared.plain_fields.WrongField.{WrongField}

-- Views and look-ups are those of a sound link of objects that keep their rules, in a placement of it.
pub record IsLookedAt (l : Link) (p : Placed) (views : List (Option FileBytes)) (look : Look) : Type 0 where
  pub objects : ObjectsAreWhole l
  pub sound : IsSound l
  pub found : IsFound l p
  pub tells : Tells l p look
  pub listed : map id_of p.sections ≡ carried_of l
  pub viewed : views ≡ views_of l

-- Each field of a section that the loader doesn't write says its target and addend.
pub record PlainFieldsSay (l : Link) (b : List ℕ) (p : Placed) (q : PlacedSection) : Type 0 where
  pub each : All (λ f. needs_fixup l (id_of q) f ≡ false → PlainFieldSays l b p q f) (fields_of l (id_of q))

-- The field of a relocation of a section isn't written by the loader, and doesn't say its target and addend.
pub record IsWrongFieldOf (l : Link) (b : List ℕ) (p : Placed) (q : PlacedSection) (relocation : ℕ) : Type 0 where
  pub field : Field
  pub is : FieldOf l (id_of q) relocation field
  pub plain : needs_fixup l (id_of q) field ≡ false
  pub other : PlainFieldSays l b p q field → ⊥

-- What is told of a field is that of a relocation of a placed section.
pub record IsWrongField (l : Link) (b : List ℕ) (p : Placed) (t : WrongField) : Type 0 where
  pub place : PlacedSection
  pub one : Contains p.sections place
  pub file : place.file ≡ t.file
  pub section : place.section ≡ t.section
  pub wrong : IsWrongFieldOf l b p place t.relocation
