-- Two chain words that share four bytes, and words that the last loader rule refuses. By computing from the bytes.
--
-- The word at 0x10 of the data leads one step of four bytes on, to 0x14, so both are on the chain. In memory the upper
-- one stands whole, and the lower one gives its first four bytes alone.
use Rattle.std.proofs.Common.{◌≡◌, ℕ, ◌+◌, ◌%◌, ◌^◌, ◌≤◌, ◌⊎◌, true, false, List, [], ◌∷◌, take, refl, sym, subst, arith}
use Rattle.std.proofs.lemmas.Bool.Decides.{nat_tests}
use Rattle.std.proofs.Math.Nat.{mod-lt}
use Rattle.macho_bytes.specs.Numbers.{le_at, le_bytes, row_bytes}
use Rattle.macho_bytes.specs.Layouts.{reading}
use Rattle.macho_model.specs.Commands.{header_of, commands_from, commands_of, commands_end}
use Rattle.macho_model.specs.Images.{segments_of, mapped_segments, base_of, libraries_of, tables_of}
use Rattle.macho_model.specs.Lists.{IsNumber}
use Rattle.macho_model.specs.Chain.{ChainSegment, chain_segment, chain_segments, IsFileWord, OnChain, OnPageChain, OnChainOf}
use Rattle.macho_model.specs.Chain as chain
use Rattle.macho_model.specs.Loader.{IsAccepted}
use Rattle.macho_model.specs.Memory.{Choice, IsFixed, HoldsText, HoldsNumber}
use Rattle.macho_model_checks.proofs.Examples.{words8, words, halves, name16, changed}
use Rattle.macho_model_checks.proofs.ExampleImages.{image_with_fixups, one_page, two_pages, overlapping, rebase, bind, data_of_size, data_command, text_command}
use Rattle.macho_model_checks.proofs.LoaderTests.{load_verdict, load_all_pass}
use Rattle.macho_image_walks.proofs.ChainSets.{is_closed, is_among, chain_within}
use Rattle.macho_model.proofs.ChainMemory.{fixed_text_is_held, fixed_word_is_held}
use Rattle.macho_image_walks.specs.steps.WordTests.{word_fits_test}
use Rattle.macho_image_walks.proofs.WordFitting.{fits_word}
use Rattle.macho_bytes.proofs.Bools.{true_or_false}

abbrev pub data_of_page : ChainSegment
data_of_page = record { address = 0x100004000; file_offset = 0x4000; file_size = 32; starts = 0x10 ∷ [] }

abbrev pub segments_of_page : List ChainSegment
segments_of_page =
    record { address = 0; file_offset = 0; file_size = 0; starts = [] }
    ∷ record { address = 0x100000000; file_offset = 0; file_size = 0x4000; starts = [] }
    ∷ data_of_page ∷ []

-- what the bytes say
pub chain_segments_of_overlapping : chain_segments overlapping ≡ segments_of_page
unfolding chain_segments mapped_segments tables_of base_of segments_of commands_of commands_from header_of libraries_of reading le_at
    row_bytes le_bytes words8 words halves name16 image_with_fixups overlapping
chain_segments_of_overlapping = refl

lower_word : IsFileWord segments_of_page overlapping 0x100004010 (rebase 0x138 0 1)
unfolding le_at row_bytes le_bytes words8 words halves name16 image_with_fixups overlapping
lower_word = record { segment = data_of_page; one = (2, omega arith, refl); from = omega arith; to = omega arith; is = refl }

upper_word : IsFileWord segments_of_page overlapping 0x100004014 (rebase 0x80000 0 0)
unfolding le_at row_bytes le_bytes words8 words halves name16 image_with_fixups overlapping
upper_word = record { segment = data_of_page; one = (2, omega arith, refl); from = omega arith; to = omega arith; is = refl }

on_lower : OnChain segments_of_page overlapping 0x100004010
on_lower = chain.OnChain.first data_of_page 0 (2, omega arith, refl) (omega arith) (λ same. omega (arith, same))

on_upper : OnChain segments_of_page overlapping 0x100004014
on_upper = chain.OnChain.next 0x100004010 (rebase 0x138 0 1) on_lower lower_word (omega arith)

abbrev pub two_words : List ℕ
two_words = 0x100004010 ∷ 0x100004014 ∷ []

closed : is_closed segments_of_page overlapping two_words ≡ true
unfolding le_at row_bytes le_bytes words8 words halves name16 image_with_fixups overlapping
closed = refl

only_two : (a : ℕ) → OnChainOf overlapping a → is_among two_words a ≡ true
only_two a on = chain_within segments_of_page overlapping two_words closed a (subst (λ segments. OnChain segments overlapping a)
    chain_segments_of_overlapping on)

base : base_of overlapping ≡ 0x100000000
unfolding mapped_segments tables_of base_of segments_of commands_of commands_from header_of libraries_of reading le_at row_bytes le_bytes
    words8 words halves name16 image_with_fixups overlapping
base = refl

-- the upper word stands whole, at every slide
upper_becomes : (s : ℕ) (choice : Choice) → IsFixed overlapping s choice 0x100004014 ((0x100080000 + s) % 2 ^ 64)
upper_becomes s choice =
    record {
      on = rw chain_segments_of_overlapping on_upper;
      word = rebase 0x80000 0 0;
      stands = rw chain_segments_of_overlapping
          upper_word;
      becomes = rw base refl;
    }

above_upper : (other : ℕ) → OnChainOf overlapping other → (other ≤ 0x100004014) ⊎ (0x100004014 + 8 ≤ other)
above_upper other on = let among = only_two other on in grind (arith, nat_tests)

pub upper_is_held : (s : ℕ) (choice : Choice) → HoldsNumber overlapping s choice 8 (0x100004014 + s) ((0x100080000 + s) % 2 ^ 64)
upper_is_held s choice =
    fixed_word_is_held overlapping s choice 0x100004014 ((0x100080000 + s) % 2 ^ 64) (upper_becomes s choice)
    (mod-lt (0x100080000 + s) (omega arith)) above_upper

-- the lower one by its first four bytes
lower_becomes : (s : ℕ) (choice : Choice) → IsFixed overlapping s choice 0x100004010 ((0x100000138 + s) % 2 ^ 64)
lower_becomes s choice =
    record {
      on = rw chain_segments_of_overlapping on_lower;
      word = rebase 0x138 0 1;
      stands = rw chain_segments_of_overlapping
          lower_word;
      becomes = rw base refl;
    }

above_lower : (other : ℕ) → OnChainOf overlapping other → (other ≤ 0x100004010) ⊎ (0x100004010 + 4 ≤ other)
above_lower other on = let among = only_two other on in grind (arith, nat_tests)

pub lower_is_held : (s : ℕ) (choice : Choice) → HoldsText overlapping s choice (0x100004010 + s)
    (take 4 (le_bytes 8 ((0x100000138 + s) % 2 ^ 64)))
lower_is_held s choice = fixed_text_is_held overlapping s choice 0x100004010 ((0x100000138 + s) % 2 ^ 64) 4 (lower_becomes s choice)
    (omega arith) above_lower

-- so at slide 0 memory has `38 01 00 00` of the lower one, and then the upper one
pub both_at_slide_0 : (choice : Choice) → HoldsText overlapping 0 choice 0x100004010 (0x38 ∷ 0x01 ∷ 0 ∷ 0 ∷ [])
    × HoldsNumber overlapping 0 choice 8 0x100004014 0x100080000
unfolding le_bytes
both_at_slide_0 choice = (lower_is_held 0 choice, upper_is_held 0 choice)

-- A word that the rule refuses: a start so near the end of the file part that its word passes it. All other rules are
-- kept.
unfoldable pub passes_the_file_part : List ℕ
passes_the_file_part = changed one_page (320 + 44 + 22) (halves (0x1c ∷ []))

pub other_rules_are_kept : load_verdict passes_the_file_part ≡ load_all_pass
unfolding load_verdict tables_of base_of segments_of commands_of commands_from commands_end header_of libraries_of reading le_at row_bytes
    le_bytes words8 words halves name16 image_with_fixups one_page changed passes_the_file_part
other_rules_are_kept = refl

abbrev pub data_that_passes : ChainSegment
data_that_passes = record { address = 0x100004000; file_offset = 0x4000; file_size = 32; starts = 0x1c ∷ [] }

its_segment : IsNumber (segments_of passes_the_file_part) 2 data_command
    × (chain_segment passes_the_file_part (2, data_command) ≡ data_that_passes)
unfolding chain_segments mapped_segments tables_of base_of segments_of commands_of commands_from header_of libraries_of reading le_at
    row_bytes le_bytes words8 words halves name16 image_with_fixups one_page changed passes_the_file_part
its_segment = ((omega arith, refl), refl)

on_passing : OnPageChain (chain_segments passes_the_file_part) passes_the_file_part data_that_passes 0 0x10000401c
on_passing = chain.OnPageChain.first (omega arith) (λ same. omega (arith, same))

its_test_fails : word_fits_test passes_the_file_part data_command 0 0x10000401c ≡ false
unfolding chain_segments mapped_segments tables_of base_of segments_of commands_of commands_from header_of libraries_of reading le_at
    row_bytes le_bytes words8 words halves name16 image_with_fixups one_page changed passes_the_file_part
its_test_fails = refl

pub passing_is_refused : IsAccepted passes_the_file_part → ⊥
passing_is_refused is =
    let on = subst (λ s. OnPageChain (chain_segments passes_the_file_part) passes_the_file_part s 0 0x10000401c) (sym its_segment.1)
    on_passing in
    true_or_false (word_fits_test passes_the_file_part data_command 0 0x10000401c)
    (fits_word passes_the_file_part data_command 0 0x10000401c (is.l10 2 data_command 0 0x10000401c its_segment.0 on)) its_test_fails

-- the same of a word over the end of a page, and of a word that binds an import that is not there
unfoldable pub passes_the_page : List ℕ
passes_the_page = changed two_pages (320 + 44 + 22) (halves (0x3ffc ∷ []))

pub page_is_refused : (load_verdict passes_the_page ≡ load_all_pass) × (word_fits_test passes_the_page (data_of_size 0x4010) 0 0x100007ffc
    ≡ false)
unfolding load_verdict commands_end chain_segments mapped_segments tables_of base_of segments_of commands_of commands_from header_of
    libraries_of reading le_at row_bytes le_bytes words8 words halves name16 image_with_fixups two_pages changed passes_the_page
page_is_refused = (refl, refl)

unfoldable pub binds_nothing : List ℕ
binds_nothing = changed one_page 0x4018 (words8 (bind 1 5 0 ∷ []))

pub import_is_refused : (load_verdict binds_nothing ≡ load_all_pass) × (word_fits_test binds_nothing data_command 0 0x100004018 ≡ false)
unfolding load_verdict commands_end chain_segments mapped_segments tables_of base_of segments_of commands_of commands_from header_of
    libraries_of reading le_at row_bytes le_bytes words8 words halves name16 image_with_fixups one_page changed binds_nothing
import_is_refused = (refl, refl)

-- A page start of `__TEXT`, of a page behind its end, leads to a word in `__DATA`: that segment may be written to and holds
-- the word, but it is not the segment of the page. All other rules are kept.
unfoldable pub from_another_segment : List ℕ
from_another_segment =
    changed (changed (image_with_fixups 2 (halves (0xffff ∷ 0x10 ∷ [])) (words8 (0x1122 ∷ 0x3344 ∷ rebase 0x138 0 2 ∷ bind 0 5 0 ∷ [])))
    (320 + 36) (words (16 ∷ 0 ∷ []))) (320 + 52) (words8 (0 ∷ []))

abbrev pub text_with_starts : ChainSegment
text_with_starts = record { address = 0x100000000; file_offset = 0; file_size = 0x4000; starts = 0xffff ∷ 0x10 ∷ [] }

another_segment : (load_verdict from_another_segment ≡ load_all_pass) × IsNumber (segments_of from_another_segment) 1 text_command
    × (chain_segment from_another_segment (1, text_command) ≡ text_with_starts)
    × (word_fits_test from_another_segment text_command 1 0x100004010 ≡ false)
unfolding load_verdict commands_end chain_segments mapped_segments tables_of base_of segments_of commands_of commands_from header_of
    libraries_of reading le_at row_bytes le_bytes words8 words halves name16 image_with_fixups changed from_another_segment
another_segment = (refl, (omega arith, refl), refl, refl)

on_another : OnPageChain (chain_segments from_another_segment) from_another_segment text_with_starts 1 0x100004010
on_another = chain.OnPageChain.first (omega arith) (λ same. omega (arith, same))

pub another_segment_is_refused : IsAccepted from_another_segment → ⊥
another_segment_is_refused is =
    let on = subst (λ s. OnPageChain (chain_segments from_another_segment) from_another_segment s 1 0x100004010) (sym another_segment.2)
    on_another in
    true_or_false (word_fits_test from_another_segment text_command 1 0x100004010)
    (fits_word from_another_segment text_command 1 0x100004010 (is.l10 1 text_command 1 0x100004010 another_segment.1 on)) another_segment.3
