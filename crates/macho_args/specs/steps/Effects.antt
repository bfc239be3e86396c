-- Why a step of the fold over the words was refused.
use Rattle.std.specs.Prelude.{◌≡◌, ◌⊎◌, ℕ, List, [], ◌∷◌, ◌++◌, Option, ◌==◌, if◌then◌else◌, Some, None, option_and_then, Result, Err}
use Rattle.std.specs.List.{list_any}
use Rattle.std.specs.Str.{bytes_eq}
use Rattle.macho_args.specs.declared.fault.ArgsFault.{ArgsFault}
use Rattle.macho_args.specs.declared.fault.ArgsFault.TheVariants.{OutOfMemory}
use Rattle.std.specs.Result.{result_ok}
use Rattle.hex.specs.Hex.{decode_sized}
use Rattle.macho_args.specs.Numbers.{number_up_to}

-- Why a step was refused: it is the fault that its meaning has, or memory ran out.
abbrev pub HasCause : {A : Type 0} → Result A ArgsFault → ArgsFault → Type 0
HasCause meaning fault = (fault ≡ OutOfMemory) ⊎ (meaning ≡ Err fault)

-- 16 bytes in 32 hexadecimal digits
abbrev pub uuid_of : List ℕ → Option (List ℕ)
uuid_of text = result_ok (decode_sized text 16)

-- how many objects are made: 1 to 10,000
abbrev pub count_of : List ℕ → Option ℕ
count_of text = option_and_then (λ n. if n == 0 then None else Some n) (number_up_to 10000 text)

-- a run path is kept once
abbrev pub with_once : List ℕ → List (List ℕ) → List (List ℕ)
with_once path paths = if list_any (λ old. bytes_eq old path) paths then paths else paths ++ path ∷ []
