-- Worked command lines, which the check computes: what compilers and build tools give, and what it becomes.
use Rattle.std.proofs.Common.{◌≡◌, ℕ, List, [], ◌∷◌, codes, Result, Ok, Err, refl}
use Rattle.ld64_words.specs.declared.effects.Note.{Note}
use Rattle.ld64_words.specs.declared.effects.Note.TheVariants.{Version, AllMembersOf, CurrentVersion, MapFile, WeakLibrary, HeaderRoom}
use Rattle.ld64_words.specs.declared.effects.Why.TheVariants.{OtherOutput, OtherTarget, LooksUp, Unknown}
use Rattle.ld64_words.specs.declared.fault.WordFault.{WordFault}
use Rattle.ld64_words.specs.declared.fault.WordFault.TheVariants.{MissingOperand, RefusedWord, UnreadFile}
use Rattle.ld64_words.specs.Rows.{TAKEN, OTHERS, fits, row_for}
use Rattle.ld64_words.specs.Words.{Given, Said, given_by, read_from, read_row, with_effect, input_word}

-- words for the core, and what is noted
becomes : List (List ℕ) → List Said → Result Given WordFault
becomes words notes = Ok (record { words = words; notes = notes })

noted : Note → ℕ → List ℕ → Said
noted note word text = record { note = note; word = word; text = text }

-- clang 19: what the core ignores goes away, and the rest stays
a_program : given_by
    (codes "-demangle" ∷ codes "-lto_library" ∷ codes "../lib/libLTO.dylib" ∷ codes "-no_deduplicate" ∷ codes "-dynamic"
    ∷ codes "-arch" ∷ codes "arm64" ∷ codes "-platform_version" ∷ codes "macos" ∷ codes "14.0.0" ∷ codes "14.0.0"
    ∷ codes "-mllvm" ∷ codes "-enable-linkonceodr-outlining" ∷ codes "-o" ∷ codes "prog" ∷ codes "-L." ∷ codes "main.o"
    ∷ codes "-lSystem" ∷ [])
    ≡ becomes
    (codes "-arch" ∷ codes "arm64" ∷ codes "-platform_version" ∷ codes "macos" ∷ codes "14.0.0" ∷ codes "14.0.0"
    ∷ codes "-o" ∷ codes "prog" ∷ codes "-L." ∷ codes "main.o" ∷ codes "-lSystem" ∷ []) []
unfolding becomes given_by read_from read_row row_for with_effect fits TAKEN OTHERS
a_program = refl

-- clang 14, which is told no version of the linker
lowest_version : given_by (codes "-macosx_version_min" ∷ codes "14.0.0" ∷ codes "-o" ∷ codes "a.out" ∷ codes "main.o" ∷ [])
    ≡ becomes
    (codes "-platform_version" ∷ codes "macos" ∷ codes "14.0.0" ∷ codes "14.0.0" ∷ codes "-o" ∷ codes "a.out" ∷ codes "main.o" ∷ []) []
unfolding becomes given_by read_from read_row row_for with_effect fits TAKEN OTHERS
lowest_version = refl

-- cmake: a library with its versions
a_library : given_by
    (codes "-dylib" ∷ codes "-dylib_current_version" ∷ codes "1.2" ∷ codes "-dylib_install_name" ∷ codes "@rpath/libz.dylib"
    ∷ codes "-search_paths_first" ∷ codes "-headerpad_max_install_names" ∷ codes "z.o" ∷ [])
    ≡ becomes
    (codes "-dylib" ∷ codes "-install_name" ∷ codes "@rpath/libz.dylib" ∷ codes "-headerpad_max_install_names" ∷ codes "z.o" ∷ [])
    (noted CurrentVersion 1 (codes "1.2") ∷ [])
unfolding becomes noted given_by read_from read_row row_for with_effect fits TAKEN OTHERS
a_library = refl

-- the root goes in front of the paths
root_in_front : given_by (codes "-L/a" ∷ codes "a.o" ∷ codes "-syslibroot" ∷ codes "/sdk" ∷ [])
    ≡ becomes (codes "-syslibroot" ∷ codes "/sdk" ∷ codes "-L/a" ∷ codes "a.o" ∷ []) []
unfolding becomes given_by read_from read_row row_for with_effect fits TAKEN OTHERS
root_in_front = refl

-- Go: room in the head; and a map
room_and_map : given_by (codes "-headerpad" ∷ codes "1144" ∷ codes "-pie" ∷ codes "-map" ∷ codes "m.txt" ∷ codes "go.o" ∷ [])
    ≡ becomes (codes "go.o" ∷ []) (noted HeaderRoom 0 (codes "1144") ∷ noted MapFile 3 (codes "m.txt") ∷ [])
unfolding becomes noted given_by read_from read_row row_for with_effect fits TAKEN OTHERS
room_and_map = refl

-- libtool: all members of an archive; a path that looks like an option is still a path
whole_archive : given_by (codes "-force_load" ∷ codes "libz.a" ∷ codes "-force_load" ∷ codes "-z.a" ∷ [])
    ≡ becomes (codes "libz.a" ∷ codes "./-z.a" ∷ []) (noted AllMembersOf 0 (codes "libz.a") ∷ noted AllMembersOf 2 (codes "-z.a") ∷ [])
unfolding becomes noted given_by read_from read_row row_for with_effect fits TAKEN OTHERS input_word
whole_archive = refl

-- a library that may be missing; the word isn't read as a library named `azy..`, nor as `-w`
weak_library : given_by (codes "-weak-lz" ∷ codes "-v" ∷ [])
    ≡ becomes (codes "-l" ∷ codes "z" ∷ []) (noted WeakLibrary 0 (codes "z") ∷ noted Version 1 [] ∷ [])
unfolding becomes noted given_by read_from read_row row_for with_effect fits TAKEN OTHERS
weak_library = refl

-- an operand is never read as an option or as a file of words
operands_stay : given_by (codes "-rpath" ∷ codes "@loader_path" ∷ codes "-o" ∷ codes "-bundle" ∷ [])
    ≡ becomes (codes "-rpath" ∷ codes "@loader_path" ∷ codes "-o" ∷ codes "-bundle" ∷ []) []
unfolding becomes given_by read_from read_row row_for with_effect fits TAKEN OTHERS
operands_stay = refl

a_bundle : given_by (codes "-o" ∷ codes "m.so" ∷ codes "-bundle" ∷ codes "m.o" ∷ []) ≡ Err (RefusedWord 2 OtherOutput)
unfolding given_by read_from read_row row_for with_effect fits TAKEN OTHERS
a_bundle = refl

other_processor : given_by (codes "-arch" ∷ codes "x86_64" ∷ codes "m.o" ∷ []) ≡ Err (RefusedWord 0 OtherTarget)
unfolding given_by read_from read_row row_for with_effect fits TAKEN OTHERS
other_processor = refl

undefined_error : given_by (codes "-undefined" ∷ codes "error" ∷ codes "m.o" ∷ []) ≡ becomes (codes "m.o" ∷ []) []
unfolding becomes given_by read_from read_row row_for with_effect fits TAKEN OTHERS
undefined_error = refl

undefined_later : given_by (codes "-undefined" ∷ codes "dynamic_lookup" ∷ codes "m.o" ∷ []) ≡ Err (RefusedWord 0 LooksUp)
unfolding given_by read_from read_row row_for with_effect fits TAKEN OTHERS
undefined_later = refl

no_such_option : given_by (codes "m.o" ∷ codes "-maps" ∷ []) ≡ Err (RefusedWord 1 Unknown)
unfolding given_by read_from read_row row_for with_effect fits TAKEN OTHERS
no_such_option = refl

operand_missing : given_by (codes "-platform_version" ∷ codes "macos" ∷ codes "14" ∷ []) ≡ Err (MissingOperand 0)
unfolding given_by read_from read_row row_for with_effect fits TAKEN OTHERS
operand_missing = refl

file_of_words : given_by (codes "m.o" ∷ codes "@words" ∷ []) ≡ Err (UnreadFile 1)
unfolding given_by read_from read_row row_for with_effect fits TAKEN OTHERS
file_of_words = refl
