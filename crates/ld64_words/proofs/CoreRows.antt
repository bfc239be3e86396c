-- The core takes each word that is passed on, with its operands.
--
-- The check computes this of all rows. An option that is kept is given to the core with operands: a dash and a digit, which the core would
-- refuse as a word of its own, or what the row's first operand has to be, or a platform and two versions. The core takes them. So it does
-- with each name under which an option is passed on.
use Rattle.std.proofs.Common.{◌≡◌, ℕ, zero, suc, List, [], ◌∷◌, ◌++◌, codes, Bool, true, None, refl}
use Rattle.std.specs.List.{list_all}
use Rattle.std.specs.Result.{is_ok}
use Rattle.macho_args.specs.Effects.{with_value, with_platform, joined}
use Rattle.macho_args.specs.Numbers.{number_up_to}
use Rattle.macho_args.specs.Options.{option_named, joined_option}
use Rattle.macho_args.specs.Version.{version_of}
use Rattle.macho_args.specs.Words.{args_of, read_from}
use Rattle.ld64_words.specs.declared.effects.Effect.{Effect}
use Rattle.ld64_words.specs.declared.effects.Effect.TheVariants.{Kept, Renamed, First, Marked, Lowest}
use Rattle.ld64_words.specs.declared.table.Operands.{Operands}
use Rattle.ld64_words.specs.declared.table.Operands.TheVariants.{Behind, Joined}
use Rattle.ld64_words.specs.Rows.{OptionRow, TAKEN, OTHERS, core_text}

-- the core takes the words
taken : List (List ℕ) → Bool
taken words = is_ok (args_of (λ path. None) words)

-- a first operand
first_text : List ℕ → List ℕ
first_text [] = codes "-1"
first_text (b ∷ bytes) = b ∷ bytes

-- an option with operands
sample : Operands → List ℕ → List ℕ → List (List ℕ)
sample (Behind zero) first name = name ∷ []
sample (Behind (suc zero)) first name = name ∷ first_text first ∷ []
sample (Behind (suc (suc n))) first name = name ∷ first ∷ codes "1" ∷ codes "1" ∷ []
sample Joined first name = (name ++ codes "1") ∷ []

in_core : OptionRow → Effect → Bool
in_core row Kept = taken (sample row.operands row.first row.name)
in_core row (Renamed name) = taken (core_text name ∷ codes "-1" ∷ [])
in_core row (First name) = taken (core_text name ∷ codes "-1" ∷ [])
in_core row (Marked name note) = taken (core_text name ∷ codes "-1" ∷ [])
in_core row Lowest = taken (codes "-platform_version" ∷ codes "macos" ∷ codes "1" ∷ codes "1" ∷ [])
in_core row effect = true

all_in_core : list_all (λ row. in_core row row.effect) (TAKEN ++ OTHERS) ≡ true
unfolding in_core sample first_text taken args_of read_from option_named joined_option with_value with_platform joined version_of
    number_up_to TAKEN OTHERS
all_in_core = refl
