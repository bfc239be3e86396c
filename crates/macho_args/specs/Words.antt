-- What the words of a command line say: the option table, folded over the words.
use Rattle.std.specs.Prelude.{ℕ, zero, suc, ◌+◌, List, [], ◌∷◌, ◌++◌, codes, drop, nat_eq, if◌then◌else◌, Option, Some, None, Result, Ok, Err}
use Rattle.std.specs.List.{starts_with}
use Rattle.std.specs.Option.{option_map_or}
use Rattle.macho_args.specs.declared.fault.ArgsFault.{ArgsFault}
use Rattle.macho_args.specs.declared.fault.ArgsFault.TheVariants.{MissingValue, Unknown, Unsupported}
use Rattle.macho_args.specs.declared.options.LinkOption.{LinkOption}
use Rattle.macho_args.specs.declared.options.LinkOption.TheVariants.{Sets, Takes, PlatformVersion, Ignored, Refused}
use Rattle.macho_args.specs.Effects.{◌>>=◌, at_root, with_flag, with_value, with_platform}
use Rattle.macho_args.specs.Options.{option_named, joined_option}
use Rattle.macho_args.specs.Settings.{Settings, Input, file, fresh}

-- A word that is no option's name and holds no option with its value: an unknown option, a file of further
-- words, which isn't supported, or an input file.
abbrev pub read_plain : ℕ → List ℕ → Settings → Result Settings ArgsFault
read_plain i word s =
    if starts_with nat_eq word (codes "-") then Err (Unknown i)
    else if starts_with nat_eq word (codes "@") then Err (Unsupported i)
    else Ok (record s { inputs = s.inputs ++ record { kind = file; word = i; name = word } ∷ [] })

-- A meaning, with the number of values that it took: the settings after a word, and how many of the words behind it are its values.
abbrev pub taking : ℕ → Result Settings ArgsFault → Result (Settings × ℕ) ArgsFault
taking values meaning = meaning >>= λ s. Ok (s, values)

-- the words with the meaning of each, where `set_root` is what the path of `-syslibroot` does
module _ (set_root : List ℕ → Settings → Settings) where
  -- The word i, where these words stand behind it. A missing value is told at the option. A word that is no option's name may have
  -- its value behind `-F`, `-L` or `-l`.
  abbrev pub read_option : Option LinkOption → ℕ → List ℕ → List (List ℕ) → Settings → Result (Settings × ℕ) ArgsFault
  read_option (Some (Sets flag)) i word behind s = taking 0 (Ok (with_flag flag s))
  read_option (Some (Takes option)) i word (v ∷ behind) s = taking 1 (with_value set_root option (i + 1) v s)
  read_option (Some (Takes option)) i word [] s = Err (MissingValue i)
  read_option (Some PlatformVersion) i word (p ∷ m ∷ k ∷ behind) s = taking 3 (with_platform i p m k s)
  read_option (Some PlatformVersion) i word _ s = Err (MissingValue i)
  read_option (Some Ignored) i word behind s = taking 0 (Ok s)
  read_option (Some Refused) i word behind s = Err (Unsupported i)
  read_option None i word behind s =
      taking 0 (option_map_or (λ option. with_value set_root option i (drop 2 word) s) (joined_option word) (read_plain i word s))

  -- The words from number i on, of which the first `values` are values of the option before them.
  unfoldable pub read_from : ℕ → ℕ → List (List ℕ) → Settings → Result Settings ArgsFault
  read_from values i [] s = Ok s
  read_from zero i (word ∷ behind) s =
      read_option (option_named word) i word behind s >>= λ read. read_from read.1 (i + 1) behind read.0
  read_from (suc values) i (word ∷ behind) s = read_from values (i + 1) behind s

-- an input beside `-generate` isn't supported: the first one is told
abbrev pub without_inputs : Option ℕ → List Input → Settings → Result Settings ArgsFault
without_inputs (Some count) (input ∷ inputs) s = Err (Unsupported input.word)
without_inputs (Some count) [] s = Ok s
without_inputs None inputs s = Ok s

-- What the words say by the canonical paths of paths, or the fault of the first word that breaks its option's rule, else that of the first
-- input beside `-generate`.
unfoldable pub args_of : (List ℕ → Option (List ℕ)) → List (List ℕ) → Result Settings ArgsFault
args_of canonical words = read_from (at_root canonical) 0 0 words fresh >>= λ s. without_inputs s.generate s.inputs s
