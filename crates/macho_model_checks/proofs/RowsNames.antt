-- The names of segments and sections that the linker knows, by computing: the constants are the texts of the public headers.
use Rattle.std.proofs.Common.{◌≡◌, refl}
use Rattle.std.specs.Prelude.{codes}
use Rattle.macho_records.specs.Segments.{text_of}
use Rattle.macho_records.specs.declared.segments.TheConstants.SegmentName as name
use Rattle.macho_model.specs.Segments.{PAGEZERO, TEXT, DATA, DATA_CONST, LINKEDIT}

-- `SEG_PAGEZERO`, `SEG_TEXT`, `SEG_DATA`, `SEG_LINKEDIT` of `mach-o/loader.h`, and two that have no name there
pub segment_names : (text_of name.PAGEZERO ≡ PAGEZERO) × (text_of name.TEXT ≡ TEXT) × (text_of name.DATA ≡ DATA)
    × (text_of name.DATA_CONST ≡ DATA_CONST)
    × (text_of name.LINKEDIT ≡ LINKEDIT) × (text_of name.LLVM ≡ codes "__LLVM")
segment_names = (refl, refl, refl, refl, refl, refl)

-- the words of the definitions, letter by letter
pub names_of_the_model : (PAGEZERO ≡ codes "__PAGEZERO") × (TEXT ≡ codes "__TEXT") × (DATA ≡ codes "__DATA")
    × (DATA_CONST ≡ codes "__DATA_CONST")
    × (LINKEDIT ≡ codes "__LINKEDIT")
names_of_the_model = (refl, refl, refl, refl, refl)
