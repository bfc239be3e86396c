-- Worked files, which the check computes: a file of words as LLVM's tools write it, a list of inputs, and what stands in their place.
use Rattle.std.proofs.Common.{◌≡◌, [], ◌∷◌, codes, Some, None, refl}
use Rattle.ld64_words.specs.declared.files.FileKind.TheVariants.{Words, Inputs}
use Rattle.ld64_words.specs.Rows.{TAKEN, OTHERS, fits, row_for}
use Rattle.ld64_words.specs.Files.{texts_in, inputs_in, cut_from, with_next, file_of, words_behind, expanded_of}
use Rattle.ld64_words.specs.Words.{input_word}

-- each word between quotes, with a backslash in front of a quote
quoted : texts_in Words (codes "\"-o\" \"my prog\" \"a\\\"b.o\" ") ≡ codes "-o" ∷ codes "my prog" ∷ codes "a\"b.o" ∷ []
unfolding texts_in cut_from with_next
quoted = refl

-- blanks and line feeds between words, and the other quote
plain : texts_in Words (codes "-lz\n\t'a b'c  d") ≡ codes "-lz" ∷ codes "a bc" ∷ codes "d" ∷ []
unfolding texts_in cut_from with_next
plain = refl

-- a list takes its lines as they are; an empty one is left out
lines : texts_in Inputs (codes "a b.o\n\n\"c\".o") ≡ codes "a b.o" ∷ codes "\"c\".o" ∷ []
unfolding texts_in cut_from with_next
lines = refl

below_folder : inputs_in (codes "obj") (codes "a.o\n-b.o\n") ≡ codes "obj/a.o" ∷ codes "obj/-b.o" ∷ []
unfolding inputs_in texts_in cut_from with_next input_word
below_folder = refl

no_folder : inputs_in [] (codes "-b.o\n") ≡ codes "./-b.o" ∷ []
unfolding inputs_in texts_in cut_from with_next input_word
no_folder = refl

list_named : file_of (codes "-filelist") (codes "l.txt,obj" ∷ codes "-lz" ∷ [])
    ≡ Some (record { kind = Inputs; path = codes "l.txt"; folder = codes "obj" })
unfolding file_of row_for fits TAKEN OTHERS
list_named = refl

words_named : file_of (codes "@w.txt") (codes "-lz" ∷ []) ≡ Some (record { kind = Words; path = codes "w.txt"; folder = [] })
unfolding file_of row_for fits TAKEN OTHERS
words_named = refl

no_file : file_of (codes "a.o") [] ≡ None
unfolding file_of row_for fits TAKEN OTHERS
no_file = refl

in_place : expanded_of (codes "a.o" ∷ codes "-filelist" ∷ codes "l" ∷ codes "-lz" ∷ []) 1 (codes "b.o" ∷ [])
    ≡ codes "a.o" ∷ codes "b.o" ∷ codes "-lz" ∷ []
unfolding expanded_of words_behind row_for fits TAKEN OTHERS
in_place = refl
