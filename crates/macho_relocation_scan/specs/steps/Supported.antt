-- When a relocation is supported, by itself and its neighbours, its target and the word at its place.
use Rattle.std.specs.Prelude.{ℕ, ◌==◌, ◌&&◌, ◌||◌, not, if◌then◌else◌, Bool, true, false}
use Rattle.macho_records.specs.declared.constants.TheConstants.{ARM64_RELOC_ADDEND, ARM64_RELOC_BRANCH26, ARM64_RELOC_GOT_LOAD_PAGE21, ARM64_RELOC_GOT_LOAD_PAGEOFF12, ARM64_RELOC_PAGE21, ARM64_RELOC_PAGEOFF12, ARM64_RELOC_POINTER_TO_GOT, ARM64_RELOC_SUBTRACTOR, ARM64_RELOC_TLVP_LOAD_PAGE21, ARM64_RELOC_TLVP_LOAD_PAGEOFF12, ARM64_RELOC_UNSIGNED}
use Rattle.macho_wire.specs.declared.relocations.RelocationInfo.{RelocationInfo}
use Rattle.macho_model.specs.declared.targets.Target.{Target}
use Rattle.macho_model.specs.Targets.{is_import, is_defined}
use Rattle.macho_model.specs.Rows.{has_form, is_none, defined_or_import}
use Rattle.macho_model.specs.Supported.{takes_offset, load_fits}
use Rattle.macho_model.specs.Words.{is_adrp, is_branch}
use Rattle.macho_relocation_scan.specs.declared.pairs.Seen.{Seen}
use Rattle.macho_relocation_scan.specs.steps.Windows.{subtracted, with_addend, begins}

abbrev pub difference_in : RelocationInfo → Target → Bool
difference_in rel t = (has_form rel 2 false true || has_form rel 3 false true) && is_defined t

abbrev pub addend_in : RelocationInfo → Bool
addend_in rel = (rel.r_length == 2) && not rel.r_pcrel

abbrev pub pointer_in : Seen → Target → Bool
pointer_in w t = if subtracted w then difference_in w.this t else (w.this.r_length == 3) && not w.this.r_pcrel && not (is_none t)

abbrev pub called_in : Seen → Target → Bool
called_in w t = is_defined t || (is_import t && not (with_addend w))

abbrev pub page_load : ℕ → Bool
page_load type = (type == ARM64_RELOC_GOT_LOAD_PAGE21) || (type == ARM64_RELOC_TLVP_LOAD_PAGE21)

abbrev pub offset_load : ℕ → Bool
offset_load type = (type == ARM64_RELOC_GOT_LOAD_PAGEOFF12) || (type == ARM64_RELOC_TLVP_LOAD_PAGEOFF12)

unfoldable pub slot_reference_in : RelocationInfo → Target → ℕ → Bool
slot_reference_in rel t word =
    if page_load rel.r_type then has_form rel 2 true true && is_adrp word && defined_or_import t
    else if offset_load rel.r_type then has_form rel 2 false true && load_fits word t && defined_or_import t
    else if rel.r_type == ARM64_RELOC_POINTER_TO_GOT then has_form rel 2 true true && defined_or_import t else false

unfoldable pub reference_in : Seen → Target → ℕ → Bool
reference_in w t word =
    if w.this.r_type == ARM64_RELOC_BRANCH26 then has_form w.this 2 true true && is_branch word && called_in w t
    else if w.this.r_type == ARM64_RELOC_PAGE21 then has_form w.this 2 true true && is_adrp word && is_defined t
    else if w.this.r_type == ARM64_RELOC_PAGEOFF12 then has_form w.this 2 false true && takes_offset word && is_defined t
    else slot_reference_in w.this t word

unfoldable pub supported_in : Seen → Target → ℕ → Bool
supported_in w t word =
    if w.this.r_type == ARM64_RELOC_UNSIGNED then pointer_in w t
    else if w.this.r_type == ARM64_RELOC_SUBTRACTOR then difference_in w.this t && begins w
    else if w.this.r_type == ARM64_RELOC_ADDEND then addend_in w.this && begins w
    else reference_in w t word
