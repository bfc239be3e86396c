-- Relaxations: a reference through a slot to a target whose place is known needs no slot. The ADRP gives the target's
-- own page, and the load of the slot becomes an ADD that gives the target's address.
use Rattle.std.specs.Prelude.{◌≡◌, ℕ, ◌==◌, ◌&&◌, not, Bool, true, false, if◌then◌else◌, Option, Some, None, List}
use Rattle.macho_bytes.specs.Numbers.{le_at, le_bytes}
use Rattle.macho_bytes.specs.Texts.{put}
use Rattle.macho_model.specs.Words.{is_add, is_ldr, imm12, base_register, written_register}
use Rattle.macho_records.specs.declared.constants.TheConstants.{ARM64_RELOC_PAGE21, ARM64_RELOC_PAGEOFF12, ARM64_RELOC_GOT_LOAD_PAGE21, ARM64_RELOC_GOT_LOAD_PAGEOFF12, ARM64_RELOC_TLVP_LOAD_PAGEOFF12}
use Rattle.macho_arm64.specs.declared.kinds.RelocationKindInfo.{RelocationKindInfo}
use Rattle.macho_arm64.specs.declared.relaxation.Relaxation.{Relaxation}
use Rattle.macho_arm64.specs.declared.relaxation.Relaxation.TheVariants as relaxation
use Rattle.macho_arm64.specs.Kinds.{kind_at}
use Rattle.macho_model.specs.Supported.{REGISTER_31}

-- the relaxation of a reference to a defined target, by the type of its relocation
abbrev pub relaxation_of : ℕ → Option Relaxation
relaxation_of type =
    if type == ARM64_RELOC_GOT_LOAD_PAGE21 then Some relaxation.Page
    else if type == ARM64_RELOC_GOT_LOAD_PAGEOFF12 then Some relaxation.LoadToAdd
    else if type == ARM64_RELOC_TLVP_LOAD_PAGEOFF12 then Some relaxation.LoadToAdd
    else None

-- the kind of a relaxed reference: that of a plain page, or of a plain offset in one
abbrev pub relaxed_kind : Relaxation → Option RelocationKindInfo
relaxed_kind relaxation.Page = kind_at ARM64_RELOC_PAGE21 2 true
relaxed_kind relaxation.LoadToAdd = kind_at ARM64_RELOC_PAGEOFF12 2 false

-- a load that can be made an ADD: of 64 bits, and not of register 31, which an ADD takes for the stack pointer
abbrev pub is_relaxable : ℕ → Bool
is_relaxable word = is_ldr word && not (written_register word == REGISTER_31)

-- a word that was made the ADD of 0 to the same base, into the same register
pub record IsMadeAdd (input word : ℕ) : Type 0 where
  pub add : is_add word ≡ true
  pub base : base_register word ≡ base_register input
  pub written : written_register word ≡ written_register input
  pub zero_offset : imm12 word ≡ 0

-- whether a relaxation can be made at a word
abbrev pub can_relax : Relaxation → ℕ → Bool
can_relax relaxation.Page word = true
can_relax relaxation.LoadToAdd word = is_relaxable word

-- the load at a place was made an ADD; no other byte changed
pub record MakesAdd (at : ℕ) (old new : List ℕ) : Type 0 where
  pub add : IsMadeAdd (le_at 4 old at) (le_at 4 new at)
  pub outside : new ≡ put at (le_bytes 4 (le_at 4 new at)) old

-- what a relaxation makes of the bytes
abbrev pub Relaxes : Relaxation → ℕ → List ℕ → List ℕ → Type 0
Relaxes relaxation.Page at old new = new ≡ old
Relaxes relaxation.LoadToAdd at old new = MakesAdd at old new
