-- Relocations that are supported, of a whole link; and the tests of single ones by names of their own.
use Rattle.std.specs.Prelude.{◌≡◌, ℕ, ◌<◌, ◌⊎◌, ◌==◌, ◌&&◌, ◌||◌, not, Bool, true, false, Contains}
use Rattle.macho_model.specs.declared.targets.Target.{Target}
use Rattle.macho_model.specs.Links.{Link, SectionId, header_at, carried_of}
use Rattle.macho_model.specs.Needs.{relocation_in}
use Rattle.macho_model.specs.Targets.{is_defined, is_import, target_of_relocation}
use Rattle.macho_model.specs.Fields.{has_addend}
use Rattle.macho_model.specs.Words.{is_add, is_ldr, is_load_store, written_register}
use Rattle.macho_model.specs.Rows.{is_supported, share_byte, are_pair}

-- register 31 is the zero register in a load and the stack pointer in an ADD
abbrev pub REGISTER_31 : ℕ
REGISTER_31 = 31

-- an addend has 4 bytes, and isn't relative to its place
abbrev pub addend_fits : Link → SectionId → ℕ → Bool
addend_fits l s r = ((relocation_in l s r).r_length == 2) && not (relocation_in l s r).r_pcrel

-- a target that may be called: one that moves with the image, or an import without addend
abbrev pub may_be_called : Link → SectionId → ℕ → Bool
may_be_called l s r = is_defined (target_of_relocation l s r) || (is_import (target_of_relocation l s r) && not (has_addend l s r))

-- an instruction that takes an offset in a page
abbrev pub takes_offset : ℕ → Bool
takes_offset w = is_add w || is_load_store w

-- a load of a slot; one that becomes an ADD does not load into the zero register
abbrev pub load_fits : ℕ → Target → Bool
load_fits w t = is_ldr w && (is_import t || not (written_register w == REGISTER_31))

-- Relocations: each is supported, and two of them share a byte only as a pair.
pub record RelocationsAreSupported (l : Link) : Type 0 where
  pub supported : (s : SectionId) (r : ℕ) → Contains (carried_of l) s → r < (header_at l s).nreloc → is_supported l s r ≡ true
  pub apart : (s : SectionId) (q r : ℕ) → Contains (carried_of l) s → q < r → r < (header_at l s).nreloc
      → (share_byte l s q r ≡ false) ⊎ (are_pair l s q r ≡ true)
