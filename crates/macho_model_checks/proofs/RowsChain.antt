-- Chains of small images: which words are on them, that they fit, and one that does not. By computing from the bytes.
--
-- The chain of the image of two pages has three words: the first page's start, the one two steps of four bytes behind
-- it, and the second page's start. Each is on it by its rule; no other is, since these three are closed under both.
use Rattle.std.proofs.Common.{◌≡◌, ℕ, ◌==◌, if◌then◌else◌, true, false, List, [], ◌∷◌, refl, subst, arith}
use Rattle.macho_bytes.specs.Numbers.{le_at, le_bytes, row_bytes}
use Rattle.macho_bytes.specs.Layouts.{reading}
use Rattle.macho_model.specs.Commands.{header_of, commands_from, commands_of}
use Rattle.macho_model.specs.Images.{segments_of, mapped_segments, base_of, libraries_of, tables_of}
use Rattle.macho_model.specs.Chain.{ChainSegment, chain_segments, IsFileWord, next_of, OnChain, OnChainOf}
use Rattle.macho_model.specs.Chain as chain
use Rattle.macho_model.specs.Loader.{is_bind, ordinal_of, IsAccepted}
use Rattle.macho_model.specs.Memory.{rebase_target, rebase_high, bind_addend}
use Rattle.macho_model_checks.proofs.Examples.{words8, words, halves, name16}
use Rattle.macho_model_checks.proofs.ExampleImages.{image_with_fixups, two_pages, rebase, bind}
use Rattle.macho_model_checks.proofs.LoaderTests.{is_accepted}
use Rattle.macho_model_checks.proofs.RowsLoader.{verdict_of_two_pages, chain_segments_of_two_pages}
use Rattle.macho_image_walks.proofs.ChainSets.{is_closed, is_among, chain_within}
use Rattle.macho_image_walks.proofs.WordFitting.{pages_pass, words_fit}

-- the number of eight bytes
abbrev pub word8_of : List ℕ → ℕ
word8_of text = le_at 8 text 0

-- the fields of a word that moves with the image: `00 40 00 00 00 00 10 00` has target 0x4000 and two steps
pub a_rebase_word : (is_bind (word8_of (0x00 ∷ 0x40 ∷ 0 ∷ 0 ∷ 0 ∷ 0 ∷ 0x10 ∷ 0 ∷ [])) ≡ false)
    × (rebase_target (word8_of (0x00 ∷ 0x40 ∷ 0 ∷ 0 ∷ 0 ∷ 0 ∷ 0x10 ∷ 0 ∷ [])) ≡ 0x4000)
    × (next_of (word8_of (0x00 ∷ 0x40 ∷ 0 ∷ 0 ∷ 0 ∷ 0 ∷ 0x10 ∷ 0 ∷ [])) ≡ 2)
    × (rebase_high (word8_of (0x00 ∷ 0x40 ∷ 0 ∷ 0 ∷ 0xf0 ∷ 0x07 ∷ 0 ∷ 0 ∷ [])) ≡ 0x7f)
unfolding le_at
a_rebase_word = (refl, refl, refl, refl)

-- and of one that binds: `03 00 00 05 00 00 00 80` has import 3 and addend 5, and ends its page
pub a_bind_word : (is_bind (word8_of (0x03 ∷ 0 ∷ 0 ∷ 0x05 ∷ 0 ∷ 0 ∷ 0 ∷ 0x80 ∷ [])) ≡ true)
    × (ordinal_of (word8_of (0x03 ∷ 0 ∷ 0 ∷ 0x05 ∷ 0 ∷ 0 ∷ 0 ∷ 0x80 ∷ [])) ≡ 3)
    × (bind_addend (word8_of (0x03 ∷ 0 ∷ 0 ∷ 0x05 ∷ 0 ∷ 0 ∷ 0 ∷ 0x80 ∷ [])) ≡ 5)
    × (next_of (word8_of (0x03 ∷ 0 ∷ 0 ∷ 0x05 ∷ 0 ∷ 0 ∷ 0 ∷ 0x80 ∷ [])) ≡ 0)
unfolding le_at
a_bind_word = (refl, refl, refl, refl)

-- the three words of the chain of two pages
abbrev pub three_words : List ℕ
three_words = 0x100004010 ∷ 0x100004018 ∷ 0x100008008 ∷ []

-- `__DATA` as the chain sees it, and with the two segments before it
abbrev pub data_of_two_pages : ChainSegment
data_of_two_pages = record { address = 0x100004000; file_offset = 0x4000; file_size = 0x4010; starts = 0x10 ∷ 8 ∷ [] }

abbrev pub segments_of_two_pages : List ChainSegment
segments_of_two_pages =
    record { address = 0; file_offset = 0; file_size = 0; starts = [] }
    ∷ record { address = 0x100000000; file_offset = 0; file_size = 0x4000; starts = [] }
    ∷ data_of_two_pages ∷ []

-- what the bytes of a word are
pub first_word : IsFileWord segments_of_two_pages two_pages 0x100004010 (rebase 0x138 0 2)
unfolding le_at row_bytes le_bytes words8 words halves name16 image_with_fixups two_pages
first_word = record { segment = data_of_two_pages; one = (2, omega arith, refl); from = omega arith; to = omega arith; is = refl }

pub second_word : IsFileWord segments_of_two_pages two_pages 0x100004018 (bind 0 5 0)
unfolding le_at row_bytes le_bytes words8 words halves name16 image_with_fixups two_pages
second_word = record { segment = data_of_two_pages; one = (2, omega arith, refl); from = omega arith; to = omega arith; is = refl }

pub third_word : IsFileWord segments_of_two_pages two_pages 0x100008008 (rebase 0x4000 0x7f 0)
unfolding le_at row_bytes le_bytes words8 words halves name16 image_with_fixups two_pages
third_word = record { segment = data_of_two_pages; one = (2, omega arith, refl); from = omega arith; to = omega arith; is = refl }

-- each is on the chain: a page start, the word that the first leads to, and the other page start
on_first : OnChain segments_of_two_pages two_pages 0x100004010
on_first = chain.OnChain.first data_of_two_pages 0 (2, omega arith, refl) (omega arith) (λ same. omega (arith, same))

on_second : OnChain segments_of_two_pages two_pages 0x100004018
on_second = chain.OnChain.next 0x100004010 (rebase 0x138 0 2) on_first first_word (omega arith)

on_third : OnChain segments_of_two_pages two_pages 0x100008008
on_third = chain.OnChain.first data_of_two_pages 1 (2, omega arith, refl) (omega arith) (λ same. omega (arith, same))

pub words_on_the_chain : OnChainOf two_pages 0x100004010 × OnChainOf two_pages 0x100004018 × OnChainOf two_pages 0x100008008
words_on_the_chain = rw chain_segments_of_two_pages (on_first, on_second, on_third)

-- no other word is
closed : is_closed segments_of_two_pages two_pages three_words ≡ true
unfolding le_at row_bytes le_bytes words8 words halves name16 image_with_fixups two_pages
closed = refl

pub only_these_on_the_chain : (a : ℕ) → OnChainOf two_pages a → is_among three_words a ≡ true
only_these_on_the_chain a on = chain_within segments_of_two_pages two_pages three_words closed a
    (subst (λ segments. OnChain segments two_pages a) chain_segments_of_two_pages on)

-- each fits, so the loader accepts the image
abbrev pub words_of_page : ℕ → List ℕ
words_of_page page = if page == 0 then 0x100004010 ∷ 0x100004018 ∷ [] else 0x100008008 ∷ []

all_fit : pages_pass two_pages words_of_page ≡ true
unfolding chain_segments mapped_segments tables_of base_of segments_of commands_of commands_from header_of libraries_of reading le_at
    row_bytes le_bytes words8 words halves name16 image_with_fixups two_pages
all_fit = refl

pub two_pages_is_accepted : IsAccepted two_pages
two_pages_is_accepted =
    is_accepted two_pages verdict_of_two_pages (words_fit two_pages words_of_page all_fit)
