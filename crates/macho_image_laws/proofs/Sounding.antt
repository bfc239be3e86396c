-- A valid link is sound, and its personality functions fit.
--
-- Each field of a valid link is sure to fit, by its kind. A pointer to an import is one that the loader writes, so its addend fits 32 bits.
use Rattle.macho_model.specs.declared.rules.UnwindRule.TheVariants.{U7}
use Rattle.macho_model.proofs.Unrefused.{valid_relocations, valid_entry}
use Rattle.macho_image_laws.specs.Laws.{ValidIsSound}
pub use Rattle.macho_model.proofs.FixedPointers.{import_needs, pointer_keeps, import_stays}

-- THE valid link is sound.
pub valid_is_sound : ValidIsSound
valid_is_sound l counts valid = (
  record {
    relocations = valid_relocations l counts valid;
    addends = λ s f one field pointer import.
        import_stays l f.target f.addend import (pointer_keeps l s f valid.fields one field (import_needs l s f pointer import)).2;
    places = λ s f one field needs. (pointer_keeps l s f valid.fields one field needs).0;
  },
  record { each = λ s e one within. valid_entry l counts s e U7 valid one within },
)
