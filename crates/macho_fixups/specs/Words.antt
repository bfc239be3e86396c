-- The word of a fixup, by its bit fields (`mach-o/fixup-chains.h`, `dyld_chained_ptr_64_rebase` and `.._bind`).
use Rattle.std.specs.Prelude.{◌≡◌, ℕ, ◌+◌, ◌*◌, ◌/◌, ◌%◌, ◌^◌, ◌<◌, ◌==◌, nat_lt, Bool, true, false}
use Rattle.macho_bytes.specs.Numbers.{bits}
use Rattle.macho_model.specs.Chain.{next_of}
use Rattle.macho_model.specs.Loader.{is_bind, ordinal_of}
use Rattle.macho_model.specs.Memory.{rebase_target, rebase_high, bind_addend}
use Rattle.macho_fixups.specs.declared.words.FixupKind.{FixupKind}
use Rattle.macho_fixups.specs.declared.words.FixupKind.TheVariants.{Rebase, Bind}

-- the steps that a word has room for
abbrev pub STEPS : ℕ
STEPS = 4096

-- a fixup has a word: its target has no bit outside the low 36 and the top 8, its addend is at most 255
abbrev pub has_word : FixupKind → Bool
has_word (Rebase target) = bits 36 20 target == 0
has_word (Bind ordinal addend) = nat_lt addend 256

-- an ordinal fits its field
abbrev pub FitsOrdinal : FixupKind → Type 0
FitsOrdinal (Rebase target) = Unit {0}
FitsOrdinal (Bind ordinal addend) = ordinal < 2 ^ 24

-- what a word says besides its step: the target, or the ordinal and the addend; the bits of no field are 0
abbrev pub Says : FixupKind → ℕ → Type 0
Says (Rebase target) word =
    (is_bind word ≡ false) × (rebase_target word + rebase_high word * 2 ^ 56 ≡ target) × (bits 44 7 word ≡ 0)
Says (Bind ordinal addend) word =
    (is_bind word ≡ true) × (ordinal_of word ≡ ordinal) × (bind_addend word ≡ addend) × (bits 32 19 word ≡ 0)

-- A word is that of a fixup, and leads as many steps on.
pub record IsWordOf (kind : FixupKind) (next word : ℕ) : Type 0 where
  pub fits : word < 2 ^ 64
  pub says : Says kind word
  pub leads : next_of word ≡ next

-- the word of a fixup that leads so many steps on, as a sum of its fields
unfoldable pub word_of : FixupKind → ℕ → ℕ
word_of (Rebase target) next = target % 2 ^ 36 + target / 2 ^ 56 * 2 ^ 36 + next * 2 ^ 51
word_of (Bind ordinal addend) next = ordinal + addend * 2 ^ 24 + next * 2 ^ 51 + 2 ^ 63
