-- The steps of the walks that list the words on the chains.
--
-- A word of a page is listed behind all that stand below it. Then all are listed below the next word of the page, since none stands
-- between; behind the last word, all of the page. A page without a start has no word. Behind the last page that has a start no word of the
-- segment stands, nor one between two segments. Behind the last segment none stands at all.
use Rattle.std.proofs.Common.{◌≡◌, ℕ, ◌+◌, ◌*◌, ◌-◌, ◌<◌, ◌≤◌, List, [], ◌∷◌, ◌++◌, length, slice_index, sym, ap, subst, ◌∙◌, arith}
use Rattle.std.proofs.Common.{inl, inr}
use Rattle.std.proofs.lemmas.Bool.{cases_lt}
use Rattle.macho_bytes.specs.Numbers.{le_at}
use Rattle.macho_model.specs.Images.{NO_START}
use Rattle.macho_model.specs.Chain.{chain_segments, next_of, STRIDE}
use Rattle.macho_model.specs.Loader.{IsAccepted}
use Rattle.macho_image_walks.specs.declared.walk.Listed.TheVariants as list
use Rattle.macho_image_walks.specs.Readings.{IsNth, HasWord, listed, segment_there, table_there, starts_of}
use Rattle.macho_image_walks.specs.steps.Walks.{IsOnPage, chain_segment_at}
use Rattle.macho_image_walks.proofs.ChainSets.{page_has_start}
use Rattle.macho_image_walks.proofs.NumberedWalk.{nth_one, segment_has_word}
use Rattle.macho_image_walks.proofs.WordWalk.{on_chain_of, page_chain_none}
use Rattle.macho_image_walks.specs.steps.WordTests.{address_in}
use Rattle.macho_loader.specs.Lists.{AreFixups, SaysKind}
use Rattle.macho_loader.specs.steps.Listing.{KindOf, IsWalk, ListsTo, IsListing, ListsSegments, page_from, segment_end}
use Rattle.macho_loader.specs.declared.chain_list.FixupLine.{FixupLine}
use Rattle.macho_loader.specs.declared.chain_list.LineKind.{LineKind}
use Rattle.macho_loader.specs.declared.chain_list.Walk.{Walk}
use Rattle.macho_loader.proofs.ChainWalks.{holds_address}
use Rattle.macho_loader.proofs.ChainLookups.{stand_apart, stands_on_page, off_without_table, import_among}
use Rattle.macho_loader.proofs.FixupLists.{lists_none, lists_on, lists_more, lists_all, says_kind}
use Rattle.macho_loader.proofs.ChainOrder.{ends_before, in_segment, on_this_page, page_has_word, stands_inside, next_or_behind}
use Rattle.macho_loader.proofs.ChainOrder.{next_on_page, first_is_least}

-- the word that is read
word_at : (b : List ℕ) (w : Walk) (page offset word : ℕ) → IsAccepted b → IsWalk b w
    → IsOnPage b w.segment.number w.segment.place page (address_in b w.segment.place offset)
    → word ≡ le_at 8 b (w.numbers.file_offset + offset)
    → HasWord b (segment_there b w.segment.place) (address_in b w.segment.place offset) word
word_at b w page offset word accepted walk on read =
    let s = segment_there b w.segment.place in
    let back : offset ≡ s.vmaddr + offset - s.vmaddr = omega arith in
    page_has_word b w.segment.number w.segment.place page (address_in b w.segment.place offset) word accepted walk.chained.nth on
    (read ∙ ap (λ k. le_at 8 b (k + offset)) walk.says.file_offset ∙ ap (λ k. le_at 8 b (s.fileoff + k)) back)

-- it is listed
pub word_listed : (b : List ℕ) (w : Walk) (page offset word : ℕ) (kind : LineKind) (lines new : List FixupLine) → IsAccepted b → IsWalk b w
    → IsListing b w page offset lines → word ≡ le_at 8 b (w.numbers.file_offset + offset)
    → KindOf b (table_there b w.segment.table) w.base word kind
    → new ≡ lines ++ record { address = w.numbers.address + offset; kind = kind } ∷ []
    → ListsTo b new (address_in b w.segment.place offset + 1)
word_listed b w page offset word kind lines new accepted walk listing read is pushed =
    let number = w.segment.number in
    let place = w.segment.place in
    let table = w.segment.table in
    let a = address_in b place offset in
    let nth = walk.chained.nth in
    let first = walk.chained.table in
    let line = λ (x : ℕ). let l : FixupLine = record { address = x; kind = kind } in l in
    let at : a ≡ w.numbers.address + offset = ap (λ k. k + offset) (sym walk.says.address) in
    let has = word_at b w page offset word accepted walk listing.on read in
    let on = on_chain_of b number place page a nth listing.on in
    let says : SaysKind b a kind = says_kind b table a word w.base kind first on (segment_has_word b number place a word nth has) walk.base
    (λ binds. import_among b number place table a word accepted first nth has on binds) is in
    subst (λ xs. ListsTo b xs (a + 1)) (sym pushed)
    (subst (λ x. ListsTo b (lines ++ line x ∷ []) (a + 1)) at (lists_more b lines (line a) listing.lists says))

-- behind the last word of a page all of the page are
pub last_listed : (b : List ℕ) (w : Walk) (page offset word stride : ℕ) (new : List FixupLine) → IsAccepted b → IsWalk b w
    → IsOnPage b w.segment.number w.segment.place page (address_in b w.segment.place offset)
    → word ≡ le_at 8 b (w.numbers.file_offset + offset) → stride ≡ STRIDE * next_of word → stride ≡ 0
    → ListsTo b new (address_in b w.segment.place offset + 1)
    → ListsTo b new (page_from (segment_there b w.segment.place) (page + 1))
last_listed b w page offset word stride new accepted walk on read is none lists =
    let number = w.segment.number in
    let place = w.segment.place in
    let a = address_in b place offset in
    let nth = walk.chained.nth in
    let inside = stands_inside b number place page a accepted nth on in
    let has = word_at b w page offset word accepted walk on read in
    lists_on b new (a + 1) (page_from (segment_there b place) (page + 1)) lists (omega (arith, inside.to, inside.inside))
    (λ x chained from to.
    let here = on_this_page b number place page x accepted nth chained (omega (arith, from, inside.from)) (omega (arith, to))
    (omega (arith, to)) in
    let next = next_or_behind b number place page a x word accepted nth on here has (omega (arith, from)) in
    omega (arith, next.0, is, none))

-- behind another one all below the next word are
pub next_listed : (b : List ℕ) (w : Walk) (page offset word stride : ℕ) (new : List FixupLine) → IsAccepted b → IsWalk b w → page < 65536
    → IsOnPage b w.segment.number w.segment.place page (address_in b w.segment.place offset)
    → word ≡ le_at 8 b (w.numbers.file_offset + offset) → stride ≡ STRIDE * next_of word → 1 ≤ stride
    → ListsTo b new (address_in b w.segment.place offset + 1) → IsListing b w page (offset + stride) new
next_listed b w page offset word stride new accepted walk pages on read is some lists =
    let number = w.segment.number in
    let place = w.segment.place in
    let a = address_in b place offset in
    let c = address_in b place (offset + stride) in
    let nth = walk.chained.nth in
    let first = stands_inside b number place page a accepted nth on in
    let has = word_at b w page offset word accepted walk on read in
    let there : a + STRIDE * next_of word ≡ c = omega (arith, is) in
    let goes = next_on_page b number place page a word nth on has (omega (arith, is, some)) in
    let next : IsOnPage b number place page c = subst (λ x. IsOnPage b number place page x) there goes in
    let inside = stands_inside b number place page c accepted nth next in
    record {
      on = next;
      lists = lists_on b new (a + 1) c lists (omega (arith, some)) (λ x chained from to.
          let here = on_this_page b number place page x accepted nth chained (omega (arith, from, first.from))
          (omega (arith, to, inside.to)) (omega (arith, to, inside.inside)) in
          let up = next_or_behind b number place page a x word accepted nth on here has (omega (arith, from)) in
          omega (arith, up.1, there, to));
      small = omega (arith, inside.to, pages);
    }

-- the walk along a page begins at its first word
pub first_listing : (b : List ℕ) (w : Walk) (page from : ℕ) (lines : List FixupLine) → IsAccepted b → IsWalk b w → page < 65536
    → IsOnPage b w.segment.number w.segment.place page (address_in b w.segment.place from)
    → ListsTo b lines (address_in b w.segment.place from) → IsListing b w page from lines
first_listing b w page from lines accepted walk pages on lists =
    let inside = stands_inside b w.segment.number w.segment.place page (address_in b w.segment.place from) accepted walk.chained.nth on in
    record { on = on; lists = lists; small = omega (arith, inside.to, pages) }

-- all below it are listed
pub start_listed : (b : List ℕ) (number place page start : ℕ) (lines : List FixupLine) → IsAccepted b → IsNth list.Segments b number place
    → start ≡ slice_index (starts_of b number) page → IsOnPage b number place page (address_in b place (16384 * page + start))
    → ListsTo b lines (page_from (segment_there b place) page) → ListsTo b lines (address_in b place (16384 * page + start))
start_listed b number place page start lines accepted nth is on lists =
    let a = address_in b place (16384 * page + start) in
    let inside = stands_inside b number place page a accepted nth on in
    lists_on b lines (page_from (segment_there b place) page) a lists (omega (arith, inside.from))
    (λ x chained from to.
    let here = on_this_page b number place page x accepted nth chained (omega (arith, from, to, inside.inside))
    (omega (arith, to, inside.to)) (omega (arith, to, inside.inside)) in
    let least = first_is_least b number place page start x is here in
    omega (arith, least, to))

-- a page without a start has no word
pub none_listed : (b : List ℕ) (number place page start : ℕ) (lines : List FixupLine) → IsAccepted b → IsNth list.Segments b number place
    → start ≡ slice_index (starts_of b number) page → start ≡ NO_START
    → ListsTo b lines (page_from (segment_there b place) page) → ListsTo b lines (page_from (segment_there b place) (page + 1))
none_listed b number place page start lines accepted nth is none lists =
    let s = segment_there b place in
    lists_on b lines (page_from s page) (page_from s (page + 1)) lists (omega arith)
    (λ x chained from to.
    let here = on_this_page b number place page x accepted nth chained (omega (arith, from, to)) (omega (arith, to))
    (omega (arith, to)) in
    page_chain_none b number place page x start is none here)

-- the first page begins where the segment does
pub pages_begin : (b : List ℕ) (place : ℕ) (lines : List FixupLine) → ListsTo b lines (segment_there b place).vmaddr
    → ListsTo b lines (page_from (segment_there b place) 0)
pages_begin b place lines lists =
    let s = segment_there b place in
    let same : s.vmaddr ≡ page_from s 0 = omega arith in
    subst (λ x. ListsTo b lines x) same lists

-- behind the last page with a start the segment has no word
pub pages_end : (b : List ℕ) (number place count : ℕ) (lines : List FixupLine) → IsAccepted b → IsNth list.Segments b number place
    → length (starts_of b number) ≤ count → ListsTo b lines (page_from (segment_there b place) count)
    → ListsTo b lines (segment_end (segment_there b place))
pages_end b number place count lines accepted nth past lists =
    let s = segment_there b place in
    lists_on b lines (page_from s count) (segment_end s) lists (omega arith)
    (λ x chained from to.
    let here = in_segment b number place x accepted nth chained (omega (arith, from, to)) to in
    let within = page_has_start (chain_segments b) b (chain_segment_at b number place) here.page x here.on in
    let page_to = here.fits.page_to in
    omega (arith, from, to, within, past, page_to))

-- no segment has been passed
pub segments_begin : (b : List ℕ) (count : ℕ) (lines : List FixupLine) → count ≡ 0 → lines ≡ [] → ListsSegments b count lines
segments_begin b count lines none empty =
    record {
      end = 0;
      lists = lists_none b lines empty;
      behind = λ k place below nth. absurd (omega (arith, none, below));
      before = λ k place from nth. omega arith;
    }

-- no word stands between the segments that were passed and the next one
pub segment_next : (b : List ℕ) (number place : ℕ) (lines : List FixupLine) → IsAccepted b → IsNth list.Segments b number place
    → ListsSegments b number lines → ListsTo b lines (segment_there b place).vmaddr
segment_next b number place lines accepted nth passed =
    let up = passed.before number place (omega arith) nth in
    lists_on b lines passed.end (segment_there b place).vmaddr passed.lists up
    (λ x chained from to.
    let s = stands_on_page b x accepted chained in
    let apart = stand_apart b accepted in
    let holds = holds_address b s.number s.place x _ apart s.nth s.has in
    elim (cases_lt s.number number) [
      | inl lt ↦ let below = passed.behind s.number s.place lt s.nth in omega (arith, below, from, holds.1)
      | inr le ↦ elim (cases_lt number s.number) [
        | inl gt ↦ let ends = ends_before b number place s.number s.place apart nth s.nth gt in omega (arith, ends, to, holds.0)
        | inr ge ↦
            let same : s.number ≡ number = omega (arith, le, ge) in
            let one = nth_one list.Segments b number s.place place (subst (λ k. IsNth list.Segments b k s.place) same s.nth) nth in
            let here = subst (λ p. (segment_there b p).vmaddr ≤ x) one holds.0 in
            omega (arith, here, to)
      ]
    ])

-- one more segment has been passed
pub segment_passed : (b : List ℕ) (number next place : ℕ) (lines new : List FixupLine) → IsAccepted b → IsNth list.Segments b number place
    → next ≡ number + 1 → ListsSegments b number lines → ListsTo b new (segment_end (segment_there b place)) → ListsSegments b next new
segment_passed b number next place lines new accepted nth more passed lists =
    let apart = stand_apart b accepted in
    let up = passed.before number place (omega arith) nth in
    record {
      end = segment_end (segment_there b place);
      lists = lists;
      behind = λ k p below at.
          elim (cases_lt k number) [
            | inl lt ↦ let low = passed.behind k p lt at in omega (arith, low, up)
            | inr le ↦
                let same : k ≡ number = omega (arith, le, below, more) in
                let one = nth_one list.Segments b number p place (subst (λ j. IsNth list.Segments b j p) same at) nth in
                subst (λ q. segment_end (segment_there b q) ≤ segment_end (segment_there b place)) (sym one) (omega arith)
          ];
      before = λ k p from at. ends_before b number place k p apart nth at (omega (arith, from, more));
    }

-- all have been passed
pub segments_end : (b : List ℕ) (count : ℕ) (lines : List FixupLine) → IsAccepted b → length (listed list.Segments b) ≤ count
    → ListsSegments b count lines → AreFixups b lines
segments_end b count lines accepted past passed =
    lists_all b lines passed.end passed.lists (λ a on.
    let s = stands_on_page b a accepted on in
    let holds = holds_address b s.number s.place a _ (stand_apart b accepted) s.nth s.has in
    let below = passed.behind s.number s.place (omega (arith, s.nth.within, past)) s.nth in
    omega (arith, below, holds.1))

-- without a fixup table there is no word
pub none_at_all : (b : List ℕ) (lines : List FixupLine) → IsAccepted b → length (listed list.Tables b) ≤ 0 → lines ≡ []
    → AreFixups b lines
none_at_all b lines accepted none empty =
    lists_all b lines 0 (lists_none b lines empty) (λ a on. absurd (off_without_table b a accepted none on))
