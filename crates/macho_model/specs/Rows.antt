-- Which relocations are supported: each with its length, its flags, its pair, the instruction at its place and the kind
-- of its target (`mach-o/arm64/reloc.h`).
use Rattle.std.specs.Prelude.{ℕ, ◌+◌, ◌^◌, ◌==◌, nat_lt, ◌&&◌, ◌||◌, not, if◌then◌else◌, Bool, true, false}
use Rattle.macho_records.specs.declared.constants.TheConstants.{ARM64_RELOC_ADDEND, ARM64_RELOC_BRANCH26, ARM64_RELOC_GOT_LOAD_PAGE21, ARM64_RELOC_GOT_LOAD_PAGEOFF12, ARM64_RELOC_PAGE21, ARM64_RELOC_PAGEOFF12, ARM64_RELOC_POINTER_TO_GOT, ARM64_RELOC_SUBTRACTOR, ARM64_RELOC_TLVP_LOAD_PAGE21, ARM64_RELOC_TLVP_LOAD_PAGEOFF12, ARM64_RELOC_UNSIGNED}
use Rattle.macho_model.specs.declared.targets.Target.{Target}
use Rattle.macho_model.specs.declared.targets.Target.TheVariants as target
use Rattle.macho_records.specs.RelocationInfo.{RelocationInfo}
use Rattle.macho_model.specs.Links.{Link, SectionId, header_at}
use Rattle.macho_model.specs.Needs.{relocation_in}
use Rattle.macho_model.specs.Targets.{target_of_relocation, is_import, is_defined}
use Rattle.macho_model.specs.Fields.{content_of, has_subtrahend, has_addend, is_pair}
use Rattle.macho_model.specs.Words.{is_adrp, is_branch, is_add, is_ldr, is_load_store, written_register}

-- a relocation's length, whether it is relative to its place, and whether it names a symbol
abbrev pub has_form : RelocationInfo → ℕ → Bool → Bool → Bool
has_form rel length pcrel extern = (rel.r_length == length) && same_flag rel.r_pcrel pcrel && same_flag rel.r_extern extern
  where
    same_flag : Bool → Bool → Bool
    same_flag a b = if a then b else not b

-- the relocation behind one is the other one of its pair
abbrev pub begins_pair : Link → SectionId → ℕ → Bool
begins_pair l s r = nat_lt (r + 1) (header_at l s).nreloc && is_pair (relocation_in l s r) (relocation_in l s (r + 1))

abbrev pub is_none : Target → Bool
is_none target.None = true
is_none t = false

-- a difference of 4 or 8 bytes: both targets move with the image
abbrev pub difference_fits : Link → SectionId → ℕ → Bool
difference_fits l s r =
    (has_form (relocation_in l s r) 2 false true || has_form (relocation_in l s r) 3 false true) && is_defined (target_of_relocation l s r)

-- a pointer of 8 bytes to anything, or what a subtrahend stands in front of
abbrev pub pointer_fits : Link → SectionId → ℕ → Bool
pointer_fits l s r =
    if has_subtrahend l s r then difference_fits l s r
    else ((relocation_in l s r).r_length == 3) && not (relocation_in l s r).r_pcrel && not (is_none (target_of_relocation l s r))

abbrev pub defined_or_import : Target → Bool
defined_or_import t = is_defined t || is_import t

-- A relocation is supported. An import is called without an addend; a load that becomes an ADD does not load into register 31, which is the
-- zero register in a load and the stack pointer in an ADD.
unfoldable pub is_supported : Link → SectionId → ℕ → Bool
is_supported l s r = supported (relocation_in l s r) (target_of_relocation l s r) (content_of l s r)
  where
    supported : RelocationInfo → Target → ℕ → Bool
    supported rel t w =
        if rel.r_type == ARM64_RELOC_UNSIGNED then pointer_fits l s r
        else if rel.r_type == ARM64_RELOC_SUBTRACTOR then difference_fits l s r && begins_pair l s r
        else if rel.r_type == ARM64_RELOC_BRANCH26
        then has_form rel 2 true true && is_branch w && (is_defined t || (is_import t && not (has_addend l s r)))
        else if rel.r_type == ARM64_RELOC_PAGE21 then has_form rel 2 true true && is_adrp w && is_defined t
        else if rel.r_type == ARM64_RELOC_PAGEOFF12 then has_form rel 2 false true && (is_add w || is_load_store w) && is_defined t
        else if (rel.r_type == ARM64_RELOC_GOT_LOAD_PAGE21) || (rel.r_type == ARM64_RELOC_TLVP_LOAD_PAGE21)
        then has_form rel 2 true true && is_adrp w && defined_or_import t
        else if (rel.r_type == ARM64_RELOC_GOT_LOAD_PAGEOFF12) || (rel.r_type == ARM64_RELOC_TLVP_LOAD_PAGEOFF12)
        then has_form rel 2 false true && (is_ldr w && (is_import t || not (written_register w == 31))) && defined_or_import t
        else if rel.r_type == ARM64_RELOC_POINTER_TO_GOT then has_form rel 2 true true && defined_or_import t
        else if rel.r_type == ARM64_RELOC_ADDEND then ((rel.r_length == 2) && not rel.r_pcrel) && begins_pair l s r
        else false

abbrev pub share_byte : Link → SectionId → ℕ → ℕ → Bool
share_byte l s q r =
    nat_lt (relocation_in l s q).r_address ((relocation_in l s r).r_address + 2 ^ (relocation_in l s r).r_length)
    && nat_lt (relocation_in l s r).r_address ((relocation_in l s q).r_address + 2 ^ (relocation_in l s q).r_length)

abbrev pub are_pair : Link → SectionId → ℕ → ℕ → Bool
are_pair l s q r = (r == q + 1) && is_pair (relocation_in l s q) (relocation_in l s r)
