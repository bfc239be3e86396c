-- The LSDA entries of a page.
--
-- They are those from the first LSDA of a function at the page's start or later, up to the first one of a function of the
-- next page; the last page has all that are left. LSDAs stand by rising function. So an LSDA of a function that starts in
-- the page is among the page's entries, and each of these entries is the plan's LSDA of its place.
use Rattle.std.proofs.Common.{◌≡◌, ℕ, ◌+◌, ◌-◌, ◌*◌, ◌<◌, ◌≤◌, nat_lt, List, length, get_or, count_by, sym, ap, subst, ◌∙◌, refl, arith, inl, inr}
use Rattle.std.proofs.lemmas.Bool.{cases_lt}
use Rattle.std.proofs.lemmas.List.Sums.{count_by-le-length}
use Rattle.macho_bytes.specs.Layouts.{reading}
use Rattle.macho_bytes.proofs.Tables.{table-stands}
use Rattle.macho_bytes.proofs.Layouts.{reading-stands_little}
use Rattle.macho_unwind_pages.specs.declared.plans.Lsda.{Lsda}
use Rattle.macho_unwind_pages.specs.Plans.{PlanList, IsPlan}
use Rattle.macho_unwind.specs.declared.records.PageEntry.{PageEntry}
use Rattle.macho_unwind.specs.declared.records.CompressedPage.{CompressedPage}
use Rattle.macho_unwind.specs.Layouts.{lsda_entry}
use Rattle.macho_unwind.specs.Sections.{entry_at, page_at, lsda_count, lsda_at, IsWholePage}
use Rattle.macho_unwind.specs.Texts.{HasPlaces, lsdas_place, page_of}
use Rattle.macho_unwind.specs.steps.Tables.{lsda_place, lsda_text}
use Rattle.macho_unwind.proofs.Lengths.{length-lsda_text}
use Rattle.macho_unwind.proofs.Counting.{count-rising}
use Rattle.macho_unwind.proofs.Standing.{PlanStands}
use Rattle.macho_unwind.proofs.Readback.{lsda_place-within, entry-read, last-read, head-read, page-here}
use Rattle.macho_unwind.specs.steps.Parts.{HasPage}
use Rattle.macho_unwind.specs.Spellings.{lsda_entry_rows}
use Rattle.macho_unwind.specs.steps.Records.{entry_for, lsda_for, head_for}

-- an item that isn't there
abbrev pub no_lsda : Lsda
no_lsda = record { function = 0; lsda = 0 }

-- how many LSDAs are of functions that start before a page's first one
abbrev pub before : PlanList → ℕ → ℕ
before plan k = count_by (λ l. nat_lt l.function (page_of plan k).first) plan.lsdas

-- The LSDA entries of page k are those of the plan in a range: all of functions that start in the page are in it.
pub record IsRange (bytes : List ℕ) (plan : PlanList) (k from to : ℕ) : Type 0 where
  pub begins : (entry_at bytes k).lsda_index_offset ≡ lsdas_place plan + 8 * from
  pub count : lsda_count bytes k ≡ to - from
  pub within : to ≤ length plan.lsdas
  pub holds : (i : ℕ) → i < length plan.lsdas → (page_of plan k).first ≤ (get_or plan.lsdas i no_lsda).function
      → (k + 1 < length plan.pages → (get_or plan.lsdas i no_lsda).function < (page_of plan (k + 1)).first)
      → (from ≤ i) × (i < to)

count-between : (bytes : List ℕ) (plan : PlanList) (k from to : ℕ) → (entry_at bytes k).lsda_index_offset ≡ lsdas_place plan + 8 * from
    → (entry_at bytes (k + 1)).lsda_index_offset ≡ lsdas_place plan + 8 * to
    → lsda_count bytes k ≡ to - from
count-between bytes plan k from to begins ends = omega arith

range-inner : (bytes : List ℕ) (plan : PlanList) (k : ℕ) → IsPlan plan → HasPlaces plan → PlanStands bytes plan → k + 1 < length plan.pages
    → IsRange bytes plan k (before plan k) (before plan (k + 1))
range-inner bytes plan k formed places s lt =
    let begins = ap (λ (e : PageEntry). e.lsda_index_offset) (entry-read bytes plan k formed places s (omega arith)) in
    let ends = ap (λ (e : PageEntry). e.lsda_index_offset) (entry-read bytes plan (k + 1) formed places s lt) in record {
      begins = begins;
      count = count-between bytes plan k (before plan k) (before plan (k + 1)) begins ends;
      within = count_by-le-length (λ (l : Lsda). nat_lt l.function (page_of plan (k + 1)).first) plan.lsdas;
      holds = λ i h above below. (
        from_here i h above,
        to_here i h (below lt),
      );
    }
  where
    from_here : (i : ℕ) → i < length plan.lsdas → (page_of plan k).first ≤ (get_or plan.lsdas i no_lsda).function → before plan k ≤ i
    from_here i h above =
        let counted = count-rising (λ (l : Lsda). l.function) (page_of plan k).first plan.lsdas formed.lsda_order i no_lsda h in
        elim (cases_lt i (before plan k)) [ inl lt ↦ absurd (omega (arith, counted.below lt)) | inr le ↦ le ]

    to_here : (i : ℕ) → i < length plan.lsdas → (get_or plan.lsdas i no_lsda).function < (page_of plan (k + 1)).first
        → i < before plan (k + 1)
    to_here i h below =
        let counted = count-rising (λ (l : Lsda). l.function) (page_of plan (k + 1)).first plan.lsdas formed.lsda_order i no_lsda h in
        elim (cases_lt i (before plan (k + 1))) [ inl lt ↦ lt | inr le ↦ absurd (omega (arith, counted.above le)) ]

range-last : (bytes : List ℕ) (plan : PlanList) (k : ℕ) → IsPlan plan → HasPlaces plan → PlanStands bytes plan → k + 1 ≡ length plan.pages
    → IsRange bytes plan k (before plan k) (length plan.lsdas)
range-last bytes plan k formed places s is =
    let begins = ap (λ (e : PageEntry). e.lsda_index_offset) (entry-read bytes plan k formed places s (omega arith)) in
    let ends = ap (λ (m : ℕ). (entry_at bytes m).lsda_index_offset) is
    ∙ ap (λ (e : PageEntry). e.lsda_index_offset) (last-read bytes plan formed places s) in record {
      begins = begins;
      count = count-between bytes plan k (before plan k) (length plan.lsdas) begins ends;
      within = omega arith;
      holds = λ i h above below. (from_here i h above, h);
    }
  where
    from_here : (i : ℕ) → i < length plan.lsdas → (page_of plan k).first ≤ (get_or plan.lsdas i no_lsda).function → before plan k ≤ i
    from_here i h above =
        let counted = count-rising (λ (l : Lsda). l.function) (page_of plan k).first plan.lsdas formed.lsda_order i no_lsda h in
        elim (cases_lt i (before plan k)) [ inl lt ↦ absurd (omega (arith, counted.below lt)) | inr le ↦ le ]

-- the range of a page
pub record HasRange (bytes : List ℕ) (plan : PlanList) (k : ℕ) : Type 0 where
  pub from : ℕ
  pub to : ℕ
  pub is : IsRange bytes plan k from to

-- each page has a range: up to the next page, or to the last LSDA where there is none
pub range-of : (bytes : List ℕ) (plan : PlanList) (k : ℕ) → IsPlan plan → HasPlaces plan → PlanStands bytes plan → k < length plan.pages
    → HasRange bytes plan k
range-of bytes plan k formed places s lt =
    elim (cases_lt (k + 1) (length plan.pages)) [
      | inl inner ↦ record { from = before plan k; to = before plan (k + 1); is = range-inner bytes plan k formed places s inner }
      | inr last ↦ record { from = before plan k; to = length plan.lsdas; is = range-last bytes plan k formed places s (omega arith) }
    ]

-- an entry of the range
pub lsda-read : (bytes : List ℕ) (plan : PlanList) (k from to j : ℕ) → IsPlan plan → PlanStands bytes plan → IsRange bytes plan k from to
    → from + j < length plan.lsdas
    → lsda_at bytes k j ≡ lsda_for (get_or plan.lsdas (from + j) no_lsda)
unfolding lsda_at
lsda-read bytes plan k from to j formed s range lt =
    let fits = formed.lsdas (from + j) no_lsda lt in
    let place : (entry_at bytes k).lsda_index_offset + 8 * j ≡ lsdas_place plan + 8 * (from + j) = omega (arith, range.begins) in
    ap (λ (at : ℕ). reading lsda_entry bytes at) place
    ∙ reading-stands_little lsda_entry_rows (lsda_for (get_or plan.lsdas (from + j) no_lsda)) bytes (lsdas_place plan + 8 * (from + j)) refl
    (((fits.0, (fits.1, tt)), refl), tt) refl
    (table-stands lsda_text 8 plan.lsdas (lsdas_place plan) (from + j) no_lsda bytes
    (record { long = λ i d h. length-lsda_text (get_or plan.lsdas i d) }) lt s.lsdas)

-- a page is whole, since all of the section is inside the bytes
pub page-whole : (bytes : List ℕ) (plan : PlanList) (k : ℕ) → IsPlan plan → HasPlaces plan → PlanStands bytes plan → k < length plan.pages
    → HasPage bytes k
page-whole bytes plan k formed places s lt =
    let range = range-of bytes plan k formed places s lt in
    let whole = (page-here bytes plan k s lt).whole in
    let lsdas = range.is.within in
    let all = s.whole in
    let place : lsda_place plan (page_of plan k).first ≡ lsdas_place plan + 8 * range.from =
    sym (ap (λ (e : PageEntry). e.lsda_index_offset) (entry-read bytes plan k formed places s lt)) ∙ range.is.begins in
    let within = lsda_place-within plan (page_of plan k).first in
    let given : IsWholePage bytes (entry_for plan k) (head_for (page_of plan k)) (lsda_count bytes k) = record {
      head = omega arith;
      kind = refl;
      functions = omega arith;
      encodings = omega arith;
      entries = omega (arith, place, range.is.count, within);
    } in
    subst (λ (e : PageEntry). IsWholePage bytes e (page_at bytes k) (lsda_count bytes k)) (sym (entry-read bytes plan k formed places s lt))
    (subst (λ (h : CompressedPage). IsWholePage bytes (entry_for plan k) h (lsda_count bytes k))
    (sym (head-read bytes plan k formed places s lt)) given)
