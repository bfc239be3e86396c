-- Look-up in the bytes of a plan finds what the plan says.
--
-- Let row (k, j) be the one with the greatest start not above the offset. A page behind k begins behind that start; were its
-- first start not above the offset, its first row would be a greater one. So page k is the last whose first start is not
-- above the offset. In page k the starts rise, so function j is the last not above it. The word names the row's code, and
-- the code's bits name the slot. An LSDA of a function of the page is in the page's range.
-- The other way round: where look-up finds something, the offset is below the end, and some row starts at it or before it.
use Rattle.std.proofs.Common.{◌≡◌, ◌≢◌, ℕ, ◌+◌, ◌-◌, ◌<◌, ◌≤◌, List, length, get_or, Option, Some, None, sym, ap, subst, ◌∙◌, arith, inl, inr}
use Rattle.std.specs.List.{Contains}
use Rattle.std.proofs.lemmas.Bool.{cases_lt}
use Rattle.std.proofs.lemmas.List.{get_or_default}
use Rattle.macho_unwind_pages.specs.declared.plans.Lsda.{Lsda}
use Rattle.macho_unwind_pages.specs.declared.paging.Row.{Row}
use Rattle.macho_unwind_pages.specs.Plans.{PlanList, IsPlan}
use Rattle.macho_unwind_pages.specs.steps.Words.{rows_of}
use Rattle.macho_unwind.specs.declared.records.CompactUnwindInfoHeader.{CompactUnwindInfoHeader}
use Rattle.macho_unwind.specs.declared.records.PageEntry.{PageEntry}
use Rattle.macho_unwind.specs.declared.records.CompressedPage.{CompressedPage}
use Rattle.macho_unwind.specs.declared.records.LsdaEntry.{LsdaEntry}
use Rattle.macho_unwind.specs.declared.lookup.Found.{Found}
use Rattle.macho_unwind.specs.Sections.{last_entry, first_at, page_at, word_at, start_at, encoding_at, personality_in, lsda_count, lsda_at}
use Rattle.macho_unwind.specs.Lookup.{IsGreatestUpTo, IsLsda, HasLsda, UnwindFinds}
use Rattle.macho_unwind.specs.Texts.{HasPlaces, page_of}
use Rattle.macho_unwind.specs.steps.Says.{NamesSlot, IsLsdaOf, PlanSays}
use Rattle.macho_unwind.proofs.Standing.{PlanStands}
use Rattle.macho_unwind.proofs.Readback.{formed_at, header-read, entry-read, last-read, head-read, word-read, encoding-read, personality-read, tables-read}
use Rattle.macho_unwind.proofs.LsdaReadback.{no_lsda, HasRange, range-of, lsda-read, page-whole}
use Rattle.macho_unwind.proofs.PlanRows.{row_for, start_of, word_of, row_there, row_in, at_row, words_rise, pages_rise, first_start, firsts_rise}
use Rattle.macho_unwind.specs.steps.Parts.{IsFunctionOf, NamesPersonality}
use Rattle.macho_unwind.specs.steps.Records.{lsda_for}
use Rattle.macho_unwind.specs.steps.Sections.{index_in, offset_in}

-- A plan whose bytes are given, and what is known of it.
pub record IsGiven (bytes : List ℕ) (plan : PlanList) : Type 0 where
  pub formed : IsPlan plan
  pub places : HasPlaces plan
  pub stands : PlanStands bytes plan

last-is : (bytes : List ℕ) (plan : PlanList) → IsGiven bytes plan → last_entry bytes ≡ length plan.pages
last-is bytes plan g = ap (λ (h : CompactUnwindInfoHeader). h.pages_len - 1) (header-read bytes plan g.places g.stands) ∙ omega arith

first-is : (bytes : List ℕ) (plan : PlanList) (k : ℕ) → IsGiven bytes plan → k < length plan.pages
    → first_at bytes k ≡ (page_of plan k).first
first-is bytes plan k g lt = ap (λ (e : PageEntry). e.first_address) (entry-read bytes plan k g.formed g.places g.stands lt)

end-is : (bytes : List ℕ) (plan : PlanList) → IsGiven bytes plan → first_at bytes (last_entry bytes) ≡ plan.end
end-is bytes plan g =
    ap (λ (k : ℕ). first_at bytes k) (last-is bytes plan g)
    ∙ ap (λ (e : PageEntry). e.first_address) (last-read bytes plan g.formed g.places g.stands)

functions-are : (bytes : List ℕ) (plan : PlanList) (k : ℕ) → IsGiven bytes plan → k < length plan.pages
    → (page_at bytes k).functions_len ≡ length (page_of plan k).words
functions-are bytes plan k g lt = ap (λ (h : CompressedPage). h.functions_len) (head-read bytes plan k g.formed g.places g.stands lt)

start-is : (bytes : List ℕ) (plan : PlanList) (k j : ℕ) → IsGiven bytes plan → k < length plan.pages → j < length (page_of plan k).words
    → start_at bytes k j ≡ start_of plan k j
start-is bytes plan k j g lt there =
    ap (λ (f : ℕ). f + offset_in (word_at bytes k j)) (first-is bytes plan k g lt)
    ∙ ap (λ (w : ℕ). (page_of plan k).first + offset_in w) (word-read bytes plan k j g.formed g.places g.stands lt there)

-- no row that starts at the offset or before it starts later than this one
abbrev pub IsMost : PlanList → ℕ → ℕ → Type 0
IsMost plan offset start =
    (k j : ℕ) → k < length plan.pages → j < length (page_of plan k).words → start_of plan k j ≤ offset → start_of plan k j ≤ start

page-chosen : (bytes : List ℕ) (plan : PlanList) (offset k j : ℕ) → IsGiven bytes plan → k < length plan.pages
    → j < length (page_of plan k).words
    → start_of plan k j ≤ offset → IsMost plan offset (start_of plan k j) → IsGreatestUpTo offset (last_entry bytes) (first_at bytes) k
page-chosen bytes plan offset k j g lt there up_to most =
    record {
      one = omega (arith, last-is bytes plan g);
      up_to = omega (arith, first-is bytes plan k g lt);
      greatest = λ m less below. rises m (omega (arith, last-is bytes plan g)) below;
      last = λ m less same. before m (omega (arith, last-is bytes plan g)) same;
    }
  where
    behind : (m : ℕ) → m < length plan.pages → k < m → (page_of plan m).first ≤ offset → ⊥
    behind m within less below =
        let start = first_start plan m g.formed within in
        let here = most m 0 within (formed_at plan m g.formed within).some (omega (arith, start)) in
        absurd (omega (arith, start, here, pages_rise plan k m j g.formed less within there))

    rises : (m : ℕ) → m < length plan.pages → first_at bytes m ≤ offset → first_at bytes m ≤ first_at bytes k
    rises m within below =
        let at_m = first-is bytes plan m g within in
        let at_k = first-is bytes plan k g lt in
        elim (cases_lt k m) [
          | inl less ↦ absurd (behind m within less (omega (arith, at_m)))
          | inr le ↦ elim (cases_lt m k) [
            | inl less ↦ omega (arith, at_m, at_k, firsts_rise plan m k g.formed less lt)
            | inr other ↦ let same : m ≡ k = omega arith in let e = ap (λ (n : ℕ). first_at bytes n) same in omega (arith, e)
          ]
        ]

    before : (m : ℕ) → m < length plan.pages → first_at bytes m ≡ first_at bytes k → m ≤ k
    before m within same =
        let at_m = first-is bytes plan m g within in
        let at_k = first-is bytes plan k g lt in
        elim (cases_lt k m) [
          | inl less ↦ absurd (omega (arith, at_m, at_k, same, firsts_rise plan k m g.formed less within))
          | inr le ↦ le
        ]

function-chosen : (bytes : List ℕ) (plan : PlanList) (offset k j : ℕ) → IsGiven bytes plan → k < length plan.pages
    → j < length (page_of plan k).words
    → start_of plan k j ≤ offset → IsMost plan offset (start_of plan k j) → IsFunctionOf bytes k offset j
function-chosen bytes plan offset k j g lt there up_to most =
    record {
      one = omega (arith, functions-are bytes plan k g lt);
      up_to = omega (arith, start-is bytes plan k j g lt there);
      greatest = λ m less below. rises m (omega (arith, functions-are bytes plan k g lt)) below;
      last = λ m less same. before m (omega (arith, functions-are bytes plan k g lt)) same;
    }
  where
    rises : (m : ℕ) → m < length (page_of plan k).words → start_at bytes k m ≤ offset → start_at bytes k m ≤ start_at bytes k j
    rises m within below =
        let at_m = start-is bytes plan k m g lt within in
        omega (arith, at_m, start-is bytes plan k j g lt there, most k m lt within (omega (arith, at_m)))

    before : (m : ℕ) → m < length (page_of plan k).words → start_at bytes k m ≡ start_at bytes k j → m ≤ j
    before m within same =
        elim (cases_lt j m) [
          | inl less ↦ absurd (omega (
            arith,
            same,
            start-is bytes plan k m g lt within,
            start-is bytes plan k j g lt there,
            words_rise plan k j m g.formed lt less within,
          ))
          | inr le ↦ le
        ]

slot-named : (bytes : List ℕ) (plan : PlanList) (number : ℕ) (x : Option ℕ) → IsGiven bytes plan → NamesSlot plan.personalities number x
    → NamesPersonality bytes number x
slot-named bytes plan number None g is = is
slot-named bytes plan number (Some slot) g is = record {
  one = is.one;
  there = omega (arith, is.there, ap (λ (h : CompactUnwindInfoHeader). h.personalities_len) (header-read bytes plan g.places g.stands));
  is = is.is ∙ sym (personality-read bytes plan number g.formed g.places g.stands is.one is.there);
}

-- what is known of a start in a page
pub record IsInPage (plan : PlanList) (k start : ℕ) : Type 0 where
  pub from : (page_of plan k).first ≤ start
  pub to : k + 1 < length plan.pages → start < (page_of plan (k + 1)).first

lsda-there : (bytes : List ℕ) (plan : PlanList) (k start lsda : ℕ) → IsGiven bytes plan → k < length plan.pages → IsInPage plan k start
    → Contains plan.lsdas (record { function = start; lsda = lsda }) → (j : ℕ) × IsLsda bytes k start lsda j
lsda-there bytes plan k start lsda g lt inside (i, within, is) = (
  i - range.from,
  record {
    one = omega (arith, held.0, held.1, range.is.count);
    function = ap (λ (e : LsdaEntry). e.function_offset) here ∙ function;
    first = λ m less same. absurd (omega (arith, same, earlier m less, function));
    is = sym (ap (λ (e : LsdaEntry). e.lsda_offset) here ∙ ap (λ (l : Lsda). l.lsda) item);
  },
)
  where
    range : HasRange bytes plan k
    range = range-of bytes plan k g.formed g.places g.stands lt

    item : get_or plan.lsdas i no_lsda ≡ record { function = start; lsda = lsda }
    item = get_or_default plan.lsdas i no_lsda (record { function = start; lsda = lsda }) within ∙ is

    function : (get_or plan.lsdas i no_lsda).function ≡ start
    function = ap (λ (l : Lsda). l.function) item

    held : (range.from ≤ i) × (i < range.to)
    held = range.is.holds i within (omega (arith, function, inside.from)) (λ next. omega (arith, function, inside.to next))

    here : lsda_at bytes k (i - range.from) ≡ lsda_for (get_or plan.lsdas i no_lsda)
    here =
        lsda-read bytes plan k range.from range.to (i - range.from) g.formed g.stands range.is (omega (arith, held.0))
        ∙ ap (λ (n : ℕ). lsda_for (get_or plan.lsdas n no_lsda)) (omega (arith, held.0))

    earlier : (m : ℕ) → m < i - range.from → (lsda_at bytes k m).function_offset < (get_or plan.lsdas i no_lsda).function
    earlier m less =
        let there : range.from + m < length plan.lsdas = omega arith in
        let read = ap (λ (e : LsdaEntry). e.function_offset)
        (lsda-read bytes plan k range.from range.to m g.formed g.stands range.is there) in
        omega (arith, read, g.formed.lsda_order (range.from + m) i no_lsda (omega arith) within)

lsda-absent : (bytes : List ℕ) (plan : PlanList) (k start : ℕ) → IsGiven bytes plan → k < length plan.pages
    → ((i : ℕ) (d : Lsda) → i < length plan.lsdas → (get_or plan.lsdas i d).function ≢ start)
    → (j : ℕ) → j < lsda_count bytes k → (lsda_at bytes k j).function_offset ≢ start
lsda-absent bytes plan k start g lt none j less same =
    let range = range-of bytes plan k g.formed g.places g.stands lt in
    let there : range.from + j < length plan.lsdas = omega (arith, range.is.count, range.is.within) in
    let read = ap (λ (e : LsdaEntry). e.function_offset) (lsda-read bytes plan k range.from range.to j g.formed g.stands range.is there) in
    none (range.from + j) no_lsda there (sym read ∙ same)

lsda-found : (bytes : List ℕ) (plan : PlanList) (k start : ℕ) (x : Option ℕ) → IsGiven bytes plan
    → k < length plan.pages → IsInPage plan k start → IsLsdaOf plan.lsdas start x → HasLsda bytes k start x
lsda-found bytes plan k start None g lt inside is = lsda-absent bytes plan k start g lt is
lsda-found bytes plan k start (Some lsda) g lt inside is = lsda-there bytes plan k start lsda g lt inside is

-- the law, one way: what the plan says of an offset is found in its bytes
pub found-where-said : (bytes : List ℕ) (plan : PlanList) (offset : ℕ) (x : Found) → IsGiven bytes plan → PlanSays plan offset x
    → UnwindFinds bytes offset x
found-where-said bytes plan offset x g says =
    let at = row_there plan says.row says.one in
    let start : start_of plan at.page at.word ≡ says.row.start = ap (λ (r : Row). r.start) at.is in
    let most : IsMost plan offset (start_of plan at.page at.word) =
    λ k j one there below.
    let not_greater = at_row plan (λ (r : Row). r.start ≤ offset → r.start ≤ says.row.start) says.greatest k j one there below in
    omega (arith, start, not_greater) in
    let up_to : start_of plan at.page at.word ≤ offset = omega (arith, start, says.up_to) in
    let word = word-read bytes plan at.page at.word g.formed g.places g.stands at.one at.there in
    let told = encoding-read bytes plan at.page (index_in (word_of plan at.page at.word)) g.formed g.places g.stands at.one
    ((formed_at plan at.page g.formed at.one).named at.word 0 at.there) in
    let inside : IsInPage plan at.page says.row.start = record {
      from = omega (arith, start);
      to = λ next. omega (arith, start, pages_rise plan at.page (at.page + 1) at.word g.formed (omega arith) next at.there);
    } in
    let read = start-is bytes plan at.page at.word g at.one at.there in record {
      page = at.page;
      function = at.word;
      encoding = says.row.code;
      tables = tables-read bytes plan g.places g.stands;
      page_of = record {
        chosen = page-chosen bytes plan offset at.page at.word g at.one at.there up_to most;
        before_end = omega (arith, end-is bytes plan g, says.before_end);
      };
      whole = page-whole bytes plan at.page g.formed g.places g.stands at.one;
      function_of = function-chosen bytes plan offset at.page at.word g at.one at.there up_to most;
      start = omega (arith, says.start, read, start);
      encoded = ap (λ (w : ℕ). encoding_at bytes at.page (index_in w)) word ∙ told ∙ ap (λ (r : Row). Some r.code) at.is;
      cleared = says.cleared;
      personality = slot-named bytes plan (personality_in says.row.code) x.personality g says.personality;
      lsda = subst (λ (s : ℕ). HasLsda bytes at.page s x.lsda) (sym says.start)
          (lsda-found bytes plan at.page says.row.start x.lsda g at.one inside says.lsda);
    }

-- What is known where look-up finds something: the offset is below the end, and a row starts at it or before it.
pub record IsCovered (plan : PlanList) (offset : ℕ) : Type 0 where
  pub before_end : offset < plan.end
  pub row : Row
  pub one : Contains (rows_of plan) row
  pub up_to : row.start ≤ offset

-- where look-up finds something, the plan covers the offset
pub covered-where-found : (bytes : List ℕ) (plan : PlanList) (offset : ℕ) (x : Found) → IsGiven bytes plan → UnwindFinds bytes offset x
    → IsCovered plan offset
covered-where-found bytes plan offset x g finds =
    let lt : finds.page < length plan.pages = omega (arith, last-is bytes plan g, finds.page_of.chosen.one) in
    record {
      before_end = omega (arith, end-is bytes plan g, finds.page_of.before_end);
      row = row_for plan finds.page 0;
      one = row_in plan finds.page 0 lt (formed_at plan finds.page g.formed lt).some;
      up_to = omega (arith, first_start plan finds.page g.formed lt, first-is bytes plan finds.page g lt, finds.page_of.chosen.up_to);
    }
