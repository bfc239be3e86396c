-- What memory holds of small images, at every slide and for every choice, and then at two slides and for two choices.
--
-- Each chain word of the image of two pages becomes what its fields say, and no other begins inside it; so its eight
-- bytes are those of the new word. Of two words that share bytes, the lower one gives those in front of the upper one.
use Rattle.std.proofs.Common.{◌≡◌, ℕ, ◌+◌, ◌%◌, ◌^◌, ◌≤◌, ◌⊎◌, List, [], ◌∷◌, refl, ap, arith, Some}
use Rattle.std.specs.Prelude.{codes}
use Rattle.std.proofs.lemmas.Bool.Decides.{nat_tests}
use Rattle.std.proofs.Math.Nat.{mod-lt}
use Rattle.std.proofs.lemmas.Cmp.{then_total}
use Rattle.std.specs.Cmp.{IsTotalOrder}
use Rattle.std.specs.Cmp.Lexicographic.{on_texts}
use Rattle.std.specs.FinMap.{empty, insert, get-insert}
use Rattle.macho_bytes.specs.Numbers.{le_at, le_bytes, row_bytes}
use Rattle.macho_bytes.specs.Layouts.{reading}
use Rattle.macho_model.specs.Commands.{header_of, commands_from, commands_of}
use Rattle.macho_model.specs.Images.{segments_of, mapped_segments, base_of, libraries_of, tables_of, fixups_header, import_entry, import_name, import_library_name, Table}
use Rattle.macho_model.specs.Chain.{chain_segments, IsFileWord, OnChainOf}
use Rattle.macho_model.specs.Memory.{Choice, chosen, pair_cmp, IsFixed, HoldsNumber}
use Rattle.macho_model_checks.proofs.Examples.{words8, words, halves, name16}
use Rattle.macho_model_checks.proofs.ExampleImages.{image_with_fixups, two_pages, rebase, bind}
use Rattle.macho_model.proofs.ChainMemory.{fixed_word_is_held}
use Rattle.macho_model_checks.proofs.RowsLoader.{chain_segments_of_two_pages}
use Rattle.macho_model_checks.proofs.RowsChain.{segments_of_two_pages, first_word, second_word, third_word, words_on_the_chain, only_these_on_the_chain}

base : base_of two_pages ≡ 0x100000000
unfolding mapped_segments tables_of base_of segments_of commands_of commands_from header_of libraries_of reading le_at row_bytes le_bytes
    words8 words halves name16 image_with_fixups two_pages
base = refl

-- the words stand where the chain has them
stand : {a word : ℕ} → IsFileWord segments_of_two_pages two_pages a word → IsFileWord (chain_segments two_pages) two_pages a word
stand h = rw chain_segments_of_two_pages h

-- the first word, at any slide
pub first_becomes : (s : ℕ) (choice : Choice) → IsFixed two_pages s choice 0x100004010 ((0x100000138 + s) % 2 ^ 64)
first_becomes s choice = record { on = words_on_the_chain.0; word = rebase 0x138 0 2; stands = stand first_word; becomes = rw base refl }

-- no word begins inside it, nor inside the others
none_inside_first : (other : ℕ) → OnChainOf two_pages other → (other ≤ 0x100004010) ⊎ (0x100004010 + 8 ≤ other)
none_inside_first other on = let among = only_these_on_the_chain other on in grind (arith, nat_tests)

-- the pointer to 0x138 behind the base is held, at every slide
pub first_is_held : (s : ℕ) (choice : Choice) → HoldsNumber two_pages s choice 8 (0x100004010 + s) ((0x100000138 + s) % 2 ^ 64)
first_is_held s choice =
    fixed_word_is_held two_pages s choice 0x100004010 ((0x100000138 + s) % 2 ^ 64) (first_becomes s choice)
    (mod-lt (0x100000138 + s) (omega arith)) none_inside_first

-- at two slides
pub first_at_slide_0 : (choice : Choice) → HoldsNumber two_pages 0 choice 8 0x100004010 0x100000138
first_at_slide_0 choice = first_is_held 0 choice

pub first_at_a_slide : (choice : Choice) → HoldsNumber two_pages 0x4000 choice 8 0x100008010 0x100004138
first_at_a_slide choice = first_is_held 0x4000 choice

-- the pointer with a highest byte
pub third_becomes : (s : ℕ) (choice : Choice) → IsFixed two_pages s choice 0x100008008 ((0x7f00000100004000 + s) % 2 ^ 64)
third_becomes s choice = record {
  on = words_on_the_chain.2;
  word = rebase 0x4000 0x7f 0;
  stands = stand third_word;
  becomes = rw base
      refl;
}

none_inside_third : (other : ℕ) → OnChainOf two_pages other → (other ≤ 0x100008008) ⊎ (0x100008008 + 8 ≤ other)
none_inside_third other on = let among = only_these_on_the_chain other on in grind (arith, nat_tests)

pub third_is_held : (s : ℕ) (choice : Choice) → HoldsNumber two_pages s choice 8 (0x100008008 + s) ((0x7f00000100004000 + s) % 2 ^ 64)
third_is_held s choice =
    fixed_word_is_held two_pages s choice 0x100008008 ((0x7f00000100004000 + s) % 2 ^ 64) (third_becomes s choice)
    (mod-lt (0x7f00000100004000 + s) (omega arith)) none_inside_third

-- The pointer to the import: its address, plus the addend 5 of the word, at whatever slide.
the_table : tables_of two_pages ≡ record { at = 320; size = 83 } ∷ []
unfolding mapped_segments tables_of base_of segments_of commands_of commands_from header_of libraries_of reading le_at row_bytes le_bytes
    words8 words halves name16 image_with_fixups two_pages
the_table = refl

abbrev pub table : Table
table = record { at = 320; size = 83 }

the_import : ((fixups_header two_pages table).imports_count ≡ 1) × (import_library_name two_pages (import_entry two_pages table 0) ≡ codes
    "/usr/lib/libSystem.B.dylib")
    × (import_name two_pages table (import_entry two_pages table 0) ≡ codes "_exit") × ((import_entry two_pages table 0).addend ≡ 0)
unfolding mapped_segments tables_of base_of segments_of commands_of commands_from header_of libraries_of reading le_at row_bytes le_bytes
    words8 words halves name16 image_with_fixups two_pages
the_import = (refl, refl, refl, refl)

pub second_becomes : (s : ℕ) (choice : Choice) (x : ℕ) → chosen choice (codes "/usr/lib/libSystem.B.dylib") (codes "_exit") ≡ Some x
    → IsFixed two_pages s choice 0x100004018 ((x + 5) % 2 ^ 64)
second_becomes s choice x chooses =
    record {
      on = words_on_the_chain.1;
      word = bind 0 5 0;
      stands = stand second_word;
      becomes = record {
        table = table;
        one = rw the_table (0, omega arith, refl);
        import = rw (the_import.0) (omega arith);
        address = x;
        chooses = rw (the_import.1, the_import.2) chooses;
        is = ap (λ (n : ℕ). n % 2 ^ 64) (omega (arith, the_import.3));
      };
    }

none_inside_second : (other : ℕ) → OnChainOf two_pages other → (other ≤ 0x100004018) ⊎ (0x100004018 + 8 ≤ other)
none_inside_second other on = let among = only_these_on_the_chain other on in grind (arith, nat_tests)

pub second_is_held : (s : ℕ) (choice : Choice) (x : ℕ) → chosen choice (codes "/usr/lib/libSystem.B.dylib") (codes "_exit") ≡ Some x
    → HoldsNumber two_pages s choice 8 (0x100004018 + s) ((x + 5) % 2 ^ 64)
second_is_held s choice x chooses =
    fixed_word_is_held two_pages s choice 0x100004018 ((x + 5) % 2 ^ 64) (second_becomes s choice x chooses)
    (mod-lt (x + 5) (omega arith)) none_inside_second

-- two choices: one address, and another
pub choice_of : ℕ → Choice
choice_of x = insert empty (codes "/usr/lib/libSystem.B.dylib", codes "_exit") x

-- the order of pairs of names is total, so a choice has what was put into it
pub pairs_are_ordered : IsTotalOrder pair_cmp
pairs_are_ordered = then_total (on_texts (λ (p : List ℕ × List ℕ). p.0)) (on_texts (λ (p : List ℕ × List ℕ). p.1))

it_chooses : (x : ℕ) → chosen (choice_of x) (codes "/usr/lib/libSystem.B.dylib") (codes "_exit") ≡ Some x
unfolding choice_of
it_chooses x = get-insert pairs_are_ordered empty (codes "/usr/lib/libSystem.B.dylib", codes "_exit") x
    (codes "/usr/lib/libSystem.B.dylib", codes "_exit")

-- at two slides, for two choices: the slide moves the place alone, and the choice the value alone
pub second_at_slide_0 : HoldsNumber two_pages 0 (choice_of 0x180001000) 8 0x100004018 0x180001005
second_at_slide_0 = second_is_held 0 (choice_of 0x180001000) 0x180001000 (it_chooses 0x180001000)

pub second_at_a_slide : HoldsNumber two_pages 0x4000 (choice_of 0x1a0002000) 8 0x100008018 0x1a0002005
second_at_a_slide = second_is_held 0x4000 (choice_of 0x1a0002000) 0x1a0002000 (it_chooses 0x1a0002000)
