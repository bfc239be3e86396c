-- The pointers of a section while they are told, relocation by relocation.
use Rattle.std.specs.Prelude.{◌≡◌, ℕ, Bool, true, false, List, [], ◌∷◌, ◌++◌, map, filter}
use Rattle.macho_model.specs.declared.placed.PlacedSection.{PlacedSection}
use Rattle.macho_model.specs.Links.{Link}
use Rattle.macho_model.specs.Fields.{Field}
use Rattle.macho_model.specs.Values.{needs_fixup}
use Rattle.macho_model.specs.Placement.{id_of}
use Rattle.macho_fields.specs.declared.pointers.Pointer.{Pointer}
use Rattle.macho_fields.specs.Looks.{Look}
use Rattle.macho_fields.specs.Pointers.{pointer_of}
use Rattle.macho_fields.specs.steps.Fields.{asks}
use Rattle.macho_fields.specs.steps.Sections.{fields_to}

-- A field was told where the loader writes it, and nothing was told else.
pub record IsNoted (look : Look) (descriptors : Bool) (q : PlacedSection) (f : Field) (old new : List Pointer) : Type 0 where
  pub asked : asks descriptors look f ≡ true → new ≡ old ++ pointer_of q f ∷ []
  pub plain : asks descriptors look f ≡ false → new ≡ old

-- The pointers of the first relocations stand behind what was told before.
pub record ArePointersTo (l : Link) (q : PlacedSection) (n : ℕ) (asked run : List Pointer) : Type 0 where
  pub are : run ≡ asked ++ map (pointer_of q) (filter (needs_fixup l (id_of q)) (fields_to l (id_of q) n))
