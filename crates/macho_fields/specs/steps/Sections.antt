-- A section of a link while it is filled, relocation by relocation.
use Rattle.std.specs.Prelude.{◌≡◌, ℕ, ◌+◌, ◌%◌, ◌^◌, ◌<◌, ◌≤◌, ◌==◌, not, Bool, true, false, List, ◌++◌, length, map, filter, slice_index, Some, is_some, Contains}
use Rattle.std.specs.List.{range_with_len}
use Rattle.std.specs.FinMap.{empty}
use Rattle.macho_model.specs.declared.placed.PlacedSection.{PlacedSection}
use Rattle.macho_model.specs.Objects.{section_bytes}
use Rattle.macho_records.specs.Sections.{type_of}
use Rattle.macho_records.specs.declared.constants.TheConstants.{S_THREAD_LOCAL_VARIABLES}
use Rattle.macho_bytes.specs.Numbers.{le_at}
use Rattle.macho_model.specs.Links.{Link, SectionId, object_of, header_at, carried_of}
use Rattle.macho_model.specs.Needs.{relocation_in}
use Rattle.macho_model.specs.Targets.{is_import}
use Rattle.macho_model.specs.Fields.{Field, field_of, is_prefix_type, content_of}
use Rattle.macho_model.specs.Stands.{IsAt, kind_of}
use Rattle.macho_model.specs.Values.{needs_fixup, IsNotEncodable, DoesNotFit}
use Rattle.macho_model.specs.Faults.{BadPlace}
use Rattle.macho_model.specs.Placement.{Placed, id_of}
use Rattle.macho_fixups.specs.declared.run.Fixup.{Fixup}
use Rattle.macho_promise.specs.Asked.{field_fixup}
use Rattle.macho_promise.specs.Filled.{FieldIsSet}
use Rattle.macho_fields.specs.Looks.{Look, Tells, IsFound}
use Rattle.macho_fields.specs.steps.Fields.{kind_in}
use Rattle.macho_fields.specs.steps.Kinds.{KindFits}
use Rattle.macho_fields.specs.steps.Filled.{place_in}
use Rattle.macho_model.specs.Spans.{IsOutsideField}

-- a relocation is that of a field, and not a part of the one behind it
abbrev pub is_field : Link → SectionId → ℕ → Bool
is_field l s r = not (is_prefix_type (relocation_in l s r).r_type)

-- the fields of the first relocations
unfoldable pub fields_to : Link → SectionId → ℕ → List Field
fields_to l s n = map (field_of l s) (filter (is_field l s) (range_with_len 0 n))

-- Nothing stands against a field.
pub record FieldIsFine (l : Link) (p : Placed) (q : PlacedSection) (f : Field) : Type 0 where
  pub fits : DoesNotFit l p (id_of q) f (q.address + f.offset) (content_of l (id_of q) f.relocation)
      (kind_of f.type (is_some f.subtrahend)) → ⊥
  pub place : needs_fixup l (id_of q) f ≡ true → BadPlace l (id_of q) f (Some p) → ⊥
  pub value : needs_fixup l (id_of q) f ≡ true → is_import f.target ≡ false → (x : ℕ) → IsAt l p 0 empty f.target x
      → IsNotEncodable p ((x + f.addend) % 2 ^ 64) → ⊥

-- The first fields of a section are filled, and what these ask of the loader stands behind what was asked before.
pub record IsFilledTo (l : Link) (p : Placed) (q : PlacedSection) (n : ℕ) (asked : List Fixup) (text : List ℕ)
    (run : List Fixup) : Type 0 where
  pub long : length text ≡ (header_at l (id_of q)).size
  pub rest : (i : ℕ) → i < (header_at l (id_of q)).size
      → ((r : ℕ) → r < n → is_field l (id_of q) r ≡ true → IsOutsideField i (field_of l (id_of q) r))
      → slice_index text i ≡ slice_index (section_bytes (object_of l q.file) q.section) i
  pub set : (r : ℕ) → r < n → is_field l (id_of q) r ≡ true → FieldIsSet l p q text (field_of l (id_of q) r)
  pub fine : (r : ℕ) → r < n → is_field l (id_of q) r ≡ true → FieldIsFine l p q (field_of l (id_of q) r)
  pub asks : run ≡ asked ++ map (field_fixup l p q) (filter (needs_fixup l (id_of q)) (fields_to l (id_of q) n))

-- a section of a link, in its place, as the look-ups tell
pub record IsFillable (l : Link) (p : Placed) (q : PlacedSection) (look : Look) : Type 0 where
  pub found : IsFound l p
  pub tells : Tells l p look
  pub carried : Contains (carried_of l) (id_of q)
  pub here : Contains p.sections q

-- One field is next: what is known of it, and that its bytes are still the input's.
pub record IsNext (l : Link) (p : Placed) (q : PlacedSection) (look : Look) (descriptors : Bool) (r : ℕ) (text : List ℕ) : Type 0 where
  pub fill : IsFillable l p q look
  pub descriptors_are : descriptors ≡ (type_of (header_at l (id_of q)) == S_THREAD_LOCAL_VARIABLES)
  pub among : r < (header_at l (id_of q)).nreloc
  pub field : is_field l (id_of q) r ≡ true
  pub fits : KindFits p (field_of l (id_of q) r) (content_of l (id_of q) r) (kind_in (field_of l (id_of q) r))
  pub still : le_at (field_of l (id_of q) r).width text (field_of l (id_of q) r).offset ≡ content_of l (id_of q) r
  pub inside : (field_of l (id_of q) r).offset + (field_of l (id_of q) r).width ≤ length text
  pub low : place_in q (field_of l (id_of q) r) < 2 ^ 64
