-- Worked rows of the definitions, which the check computes.
use Rattle.std.proofs.Common.{◌≡◌, ℕ, List, [], ◌∷◌, Some, None, Result, Ok, Err, codes, refl}
use Rattle.macho_args.specs.declared.fault.ArgsFault.{ArgsFault}
use Rattle.macho_args.specs.declared.fault.ArgsFault.TheVariants.{MissingValue, Unknown, Unsupported, BadVersion, BadNumber}
use Rattle.macho_args.specs.Effects.{joined, with_value, with_platform, ◌>>=◌}
use Rattle.macho_args.specs.Numbers.{number_up_to}
use Rattle.macho_args.specs.Options.{option_named, joined_option}
use Rattle.macho_args.specs.Settings.{Settings, Input, InputKind, file, library, framework}
use Rattle.macho_args.specs.Version.{version_of}
use Rattle.macho_args.specs.Words.{args_of, read_from}

-- `LC_BUILD_VERSION` packs 14.0 as 0x000e0000
fourteen : version_of (codes "14.0") ≡ Some 0x000e_0000
unfolding version_of number_up_to
fourteen = refl

three_parts : version_of (codes "15.16.17") ≡ Some 0x000f_1011
unfolding version_of number_up_to
three_parts = refl

four_parts : version_of (codes "1.2.3.4") ≡ None
unfolding version_of number_up_to
four_parts = refl

empty_part : version_of (codes "1..3") ≡ None
unfolding version_of number_up_to
empty_part = refl

large_minor : version_of (codes "1.256") ≡ None
unfolding version_of number_up_to
large_minor = refl

-- what the words say where no path has a canonical path
said : List (List ℕ) → Result Settings ArgsFault
said words = args_of (λ path. None) words

-- a part of it
part : {A : Type 0} → (Settings → A) → List (List ℕ) → Result A ArgsFault
part field words = said words >>= λ s. Ok (field s)

output_last : said (codes "-o" ∷ []) ≡ Err (MissingValue 0)
unfolding said args_of read_from option_named
output_last = refl

last_output_stands : part (λ s. s.output) (codes "-o" ∷ codes "-x" ∷ codes "-output" ∷ codes "y" ∷ []) ≡ Ok (codes "y")
unfolding part said args_of read_from option_named with_value
last_output_stands = refl

repeated_rpath : part (λ s. s.rpaths) (codes "-rpath" ∷ codes "x" ∷ codes "-rpath" ∷ codes "x" ∷ []) ≡ Ok (codes "x" ∷ [])
unfolding part said args_of read_from option_named with_value
repeated_rpath = refl

root_drops_paths : part (λ s. s.lib_search_path) (codes "-L/a" ∷ codes "-syslibroot" ∷ codes "/r" ∷ codes "-L" ∷ codes "/b" ∷ [])
    ≡ Ok (codes "/r/usr/lib" ∷ codes "/b" ∷ [])
unfolding part said args_of read_from option_named joined_option with_value joined
root_drops_paths = refl

exact_name_first : part (λ s. s.plugin_path) (codes "-lto_library" ∷ codes "p" ∷ []) ≡ Ok (Some (codes "p"))
unfolding part said args_of read_from option_named with_value
exact_name_first = refl

input : InputKind → ℕ → List ℕ → Input
input kind word name = record { kind = kind; word = word; name = name }

inputs_in_order : part (λ s. s.inputs) (codes "main.o" ∷ codes "-lc++" ∷ codes "-framework" ∷ codes "F" ∷ [])
    ≡ Ok (input file 0 (codes "main.o") ∷ input library 1 (codes "c++") ∷ input framework 3 (codes "F") ∷ [])
unfolding part said args_of read_from option_named joined_option with_value input
inputs_in_order = refl

colon_in_word : said (codes "-l:file" ∷ []) ≡ Err (Unsupported 0)
unfolding said args_of read_from option_named joined_option with_value
colon_in_word = refl

colon_in_next_word : said (codes "-l" ∷ codes ":file" ∷ []) ≡ Err (Unsupported 1)
unfolding said args_of read_from option_named with_value
colon_in_next_word = refl

unknown_option : said (codes "-map" ∷ codes "-maps" ∷ []) ≡ Err (Unknown 1)
unfolding said args_of read_from option_named joined_option
unknown_option = refl

bad_sdk : said (codes "-platform_version" ∷ codes "macos" ∷ codes "1" ∷ codes "1.2.3.4" ∷ []) ≡ Err (BadVersion 3)
unfolding said args_of read_from option_named with_platform version_of number_up_to
bad_sdk = refl

too_many_objects : said (codes "-generate" ∷ codes "10001" ∷ []) ≡ Err (BadNumber 1)
unfolding said args_of read_from option_named with_value number_up_to
too_many_objects = refl

input_beside_generate : said (codes "in.o" ∷ codes "-generate" ∷ codes "1" ∷ []) ≡ Err (Unsupported 0)
unfolding said args_of read_from option_named joined_option with_value number_up_to
input_beside_generate = refl

other_fault_first : said (codes "in.o" ∷ codes "-generate" ∷ codes "1" ∷ codes "-x" ∷ []) ≡ Err (Unknown 3)
unfolding said args_of read_from option_named joined_option with_value number_up_to
other_fault_first = refl
