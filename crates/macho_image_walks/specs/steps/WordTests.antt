-- Whether a word of a chain fits, as one test: the last rule of the loader asks that the page's segment holds the word, and
-- that its import exists, in whatever segment it is read.
use Rattle.std.specs.Prelude.{◌≡◌, ℕ, ◌+◌, ◌^◌, ◌<◌, nat_lt, ◌&&◌, ◌||◌, not, Bool, true, List}
use Rattle.std.specs.List.{list_all}
use Rattle.macho_records.specs.declared.header.SegmentCommand.{SegmentCommand}
use Rattle.macho_model.specs.Lists.{IsNumber}
use Rattle.macho_model.specs.Images.{segments_of, tables_of}
use Rattle.macho_model.specs.Chain.{ChainSegment, chain_segment, chain_segments, OnPageChain}
use Rattle.macho_image_walks.specs.declared.walk.Listed.TheVariants as list
use Rattle.macho_image_walks.specs.Readings.{IsNth, segment_there}
use Rattle.macho_image_walks.specs.Tests.{page_holds}
use Rattle.macho_image_walks.specs.steps.Walks.{Leads, chain_segment_at, word_in, stands_in}
use Rattle.macho_model.specs.Loader.{is_bind, ordinal_of, WordFits}
use Rattle.macho_model.specs.steps.Loader.{import_count}

-- the import of a word exists, where a segment has a word there and it binds one
abbrev pub import_exists : List ℕ → ℕ → ChainSegment → Bool
import_exists b a s =
    not (stands_in s a) || not (is_bind (word_in b s a)) || nat_lt (ordinal_of (word_in b s a)) (import_count b (tables_of b))

abbrev pub word_fits_test : List ℕ → SegmentCommand → ℕ → ℕ → Bool
word_fits_test b s page a = page_holds s page a && list_all (import_exists b a) (chain_segments b)

-- the import of a word exists in the segment with a number, if there is one
abbrev pub NthImportExists : List ℕ → ℕ → ℕ → Type 0
NthImportExists b number a = (place : ℕ) → IsNth list.Segments b number place → import_exists b a (chain_segment_at b 0 place) ≡ true

-- the address of an offset in the segment of a command
abbrev pub address_in : List ℕ → ℕ → ℕ → ℕ
address_in b place offset = (segment_there b place).vmaddr + offset

-- a word does not fit that the word at an offset leads to; or each fits
pub record UnfitFrom (b : List ℕ) (number place page offset x : ℕ) : Type 0 where
  pub leads : Leads b (address_in b place offset) (address_in b place x)
  pub unfit : WordFits b (segment_there b place) page (address_in b place x) → ⊥
  pub small : x < 2 ^ 32

abbrev pub FitFrom : List ℕ → ℕ → ℕ → ℕ → ℕ → Type 0
FitFrom b number place page offset = (a : ℕ) → Leads b (address_in b place offset) a → WordFits b (segment_there b place) page a

-- a word of a page's chain does not fit, or each fits
pub record UnfitOnPage (b : List ℕ) (number place page x : ℕ) : Type 0 where
  pub on : OnPageChain (chain_segments b) b (chain_segment_at b number place) page (address_in b place x)
  pub unfit : WordFits b (segment_there b place) page (address_in b place x) → ⊥
  pub small : x < 2 ^ 32

abbrev pub FitOnPage : List ℕ → ℕ → ℕ → ℕ → Type 0
FitOnPage b number place page =
    (a : ℕ) → OnPageChain (chain_segments b) b (chain_segment_at b number place) page a → WordFits b (segment_there b place) page a

-- each word of the segment with a number fits, if there is one, and each word of the file
abbrev pub FitOnNth : List ℕ → ℕ → Type 0
FitOnNth b number = (place : ℕ) → IsNth list.Segments b number place → (page : ℕ) → FitOnPage b number place page

abbrev pub EachWordFits : List ℕ → Type 0
EachWordFits b =
    (number : ℕ) (s : SegmentCommand) (page a : ℕ) → IsNumber (segments_of b) number s
    → OnPageChain (chain_segments b) b (chain_segment b (number, s)) page a → WordFits b s page a
