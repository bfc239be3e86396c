-- The kinds of relocations of arm64 (`mach-o/arm64/reloc.h`), by type, length and pcrel; and their names.
use Rattle.std.specs.Prelude.{ℕ, ◌==◌, ◌&&◌, Bool, true, false, List, [], ◌∷◌, ◌++◌, codes, find, Option, Some, None, slice_get}
use Rattle.std.specs.Option.{option_map}
use Rattle.std.specs.Fmt.{digits}
use Rattle.macho_wire.specs.declared.relocations.RelocationInfo.{RelocationInfo}
use Rattle.macho_records.specs.declared.constants.TheConstants.{ARM64_RELOC_UNSIGNED, ARM64_RELOC_SUBTRACTOR, ARM64_RELOC_BRANCH26, ARM64_RELOC_PAGE21, ARM64_RELOC_PAGEOFF12, ARM64_RELOC_GOT_LOAD_PAGE21, ARM64_RELOC_GOT_LOAD_PAGEOFF12, ARM64_RELOC_POINTER_TO_GOT, ARM64_RELOC_TLVP_LOAD_PAGE21, ARM64_RELOC_TLVP_LOAD_PAGEOFF12, ARM64_RELOC_ADDEND}
use Rattle.macho_arm64.specs.declared.kinds.RelocationKind.{RelocationKind}
use Rattle.macho_arm64.specs.declared.kinds.RelocationKind.TheVariants.{Absolute, Relative, AbsoluteLowPart, GotRelative, Got, MachoAddition, MachoSubtraction}
use Rattle.macho_arm64.specs.declared.kinds.FieldSize.{FieldSize}
use Rattle.macho_arm64.specs.declared.kinds.FieldSize.TheVariants.{Bytes, Adr, JumpCall, Low12}
use Rattle.macho_arm64.specs.declared.kinds.RelocationKindInfo.{RelocationKindInfo}
use Rattle.macho_arm64.specs.declared.kinds.KindRow.{KindRow}

-- a row of the table
abbrev pub row : ℕ → ℕ → Bool → RelocationKind → FieldSize → Bool → Bool → KindRow
row type length pcrel kind size page implicit_addend = record {
  r_type = type;
  r_length = length;
  r_pcrel = pcrel;
  info = record { kind = kind; size = size; page = page; implicit_addend = implicit_addend };
}

-- The relocations that there are: type, length and pcrel; then the kind, the field, whether pages are meant, and
-- whether the field's content is the addend.
abbrev pub kinds : List KindRow
kinds =
    row ARM64_RELOC_UNSIGNED 2 false Absolute (Bytes 4) false true
    ∷ row ARM64_RELOC_UNSIGNED 3 false Absolute (Bytes 8) false true
    ∷ row ARM64_RELOC_SUBTRACTOR 2 false MachoSubtraction (Bytes 0) false false
    ∷ row ARM64_RELOC_SUBTRACTOR 3 false MachoSubtraction (Bytes 0) false false
    ∷ row ARM64_RELOC_BRANCH26 2 true Relative JumpCall false false
    ∷ row ARM64_RELOC_PAGE21 2 true Relative Adr true false
    ∷ row ARM64_RELOC_PAGEOFF12 2 false AbsoluteLowPart Low12 false false
    ∷ row ARM64_RELOC_GOT_LOAD_PAGE21 2 true GotRelative Adr true false
    ∷ row ARM64_RELOC_GOT_LOAD_PAGEOFF12 2 false Got Low12 false false
    ∷ row ARM64_RELOC_POINTER_TO_GOT 2 true GotRelative (Bytes 4) false false
    ∷ row ARM64_RELOC_TLVP_LOAD_PAGE21 2 true Relative Adr true false
    ∷ row ARM64_RELOC_TLVP_LOAD_PAGEOFF12 2 false AbsoluteLowPart Low12 false false
    ∷ row ARM64_RELOC_ADDEND 2 false MachoAddition (Bytes 0) false false
    ∷ []

abbrev pub same_flag : Bool → Bool → Bool
same_flag true b = b
same_flag false true = false
same_flag false false = true

-- a row is that of a type, a length and a pcrel
abbrev pub is_row_of : ℕ → ℕ → Bool → KindRow → Bool
is_row_of type length pcrel k = (k.r_type == type) && (k.r_length == length) && same_flag k.r_pcrel pcrel

-- the kind of a type, a length and a pcrel, None where no row has them
unfoldable pub kind_among : List KindRow → ℕ → ℕ → Bool → Option RelocationKindInfo
kind_among rows type length pcrel = option_map (λ k. k.info) (find (is_row_of type length pcrel) rows)

abbrev pub kind_at : ℕ → ℕ → Bool → Option RelocationKindInfo
kind_at type length pcrel = kind_among kinds type length pcrel

-- what is known of a relocation: its kind
abbrev pub info_of : RelocationInfo → Option RelocationKindInfo
info_of r = kind_at r.r_type r.r_length r.r_pcrel

-- the names of the types from 0 on, without their prefix
abbrev pub type_names : List (List ℕ)
type_names =
    codes "UNSIGNED"
    ∷ codes "SUBTRACTOR"
    ∷ codes "BRANCH26"
    ∷ codes "PAGE21"
    ∷ codes "PAGEOFF12"
    ∷ codes "GOT_LOAD_PAGE21"
    ∷ codes "GOT_LOAD_PAGEOFF12"
    ∷ codes "POINTER_TO_GOT"
    ∷ codes "TLVP_LOAD_PAGE21"
    ∷ codes "TLVP_LOAD_PAGEOFF12"
    ∷ codes "ADDEND"
    ∷ codes "AUTHENTICATED_POINTER"
    ∷ []

-- what a type is printed as: its name, or its number in hexadecimal digits
abbrev pub type_text_of : ℕ → Option (List ℕ) → List ℕ
type_text_of type (Some name) = codes "ARM64_RELOC_" ++ name
type_text_of type None = codes "Unknown arm64 relocation type 0x" ++ digits 16 false type

abbrev pub type_text : ℕ → List ℕ
type_text type = type_text_of type (slice_get type_names type)
