-- The words of each page's chain fit, where a list of addresses for each page of each segment passes.
--
-- As for an image with one segment of words (`WordFitting` of `macho_image_walks`), with a list for each segment and page.
use Rattle.std.proofs.Common.{◌≡◌, ℕ, Bool, true, List, length, refl}
use Rattle.std.specs.List.{list_all, enumerate_from}
use Rattle.std.proofs.lemmas.List.Elements.{All-contains}
use Rattle.macho_records.specs.declared.header.SegmentCommand.{SegmentCommand}
use Rattle.macho_model.specs.Images.{segments_of}
use Rattle.macho_model.specs.Chain.{chain_segment, chain_segments}
use Rattle.macho_image_walks.specs.steps.WordTests.{word_fits_test, EachWordFits}
use Rattle.macho_model.proofs.EachBelow.{each_below, below_pass}
use Rattle.macho_model.proofs.PageChains.{with_number}
use Rattle.macho_image_walks.proofs.ChainSets.{among_passes, is_page_closed, page_within, page_has_start}
use Rattle.macho_image_walks.proofs.WordFitting.{starts_in_chain, page_passes, word_fits}
use Rattle.macho_bytes.proofs.Bools.{and_left, and_right}
use Rattle.macho_bytes.proofs.Members.{all_pass}

-- the pages of a segment, by its number, pass with the lists of that segment
abbrev pub segment_passes : List ℕ → (ℕ → ℕ → List ℕ) → ℕ × SegmentCommand → Bool
segment_passes b words_in s = each_below (starts_in_chain b s) (page_passes b (words_in s.0) s)

abbrev pub segments_pass : List ℕ → (ℕ → ℕ → List ℕ) → Bool
segments_pass b words_in = list_all (segment_passes b words_in) (enumerate_from 0 (segments_of b))

pub words_fit_in : (b : List ℕ) (words_in : ℕ → ℕ → List ℕ) → segments_pass b words_in ≡ true → EachWordFits b
words_fit_in b words_in pass number s page a is on =
    let one = with_number b number s is in
    let c = chain_segment b (number, s) in
    let here = All-contains (λ x. segment_passes b words_in x ≡ true) (enumerate_from 0 (segments_of b)) (number, s)
    (all_pass (segment_passes b words_in) (enumerate_from 0 (segments_of b)) pass) one in
    let words = words_in number page in
    let both = below_pass (length c.starts) (page_passes b (words_in number) (number, s)) here page
    (page_has_start (chain_segments b) b c page a on) in
    let closed = and_left (is_page_closed (chain_segments b) b words c page) (list_all (word_fits_test b s page) words) both in
    let fit = and_right (is_page_closed (chain_segments b) b words c page) (list_all (word_fits_test b s page) words) both in
    word_fits b s page a (among_passes (word_fits_test b s page) words a fit (page_within (chain_segments b) b words c page closed a on))
