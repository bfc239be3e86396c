-- Where codes first stand in a list.
--
-- A code that stands in a list has its first place inside it, and keeps it when the list grows at its end. A code that doesn't
-- stand in it and is put at the end has its first place there, behind all others. A page names the code of each of its
-- functions, since each word tells a number below the count of the codes that the page may name.
use Rattle.std.proofs.Common.{◌≡◌, ℕ, ◌+◌, ◌-◌, ◌/◌, ◌<◌, ◌==◌, List, [], ◌∷◌, ◌++◌, length, get_or, Contains, refl, sym, ap, ◌∙◌, arith, inl, inr, length-append}
use Rattle.std.specs.List.{All}
use Rattle.std.proofs.lemmas.Bool.{cases_lt, eq-eqb, ne_eqb}
use Rattle.std.proofs.lemmas.List.{get_or_append_left, get_or-append_right}
use Rattle.std.proofs.lemmas.List.Elements.{All-map, Contains-get_or}
use Rattle.std.proofs.lemmas.List.Sums.{fails_before_first, passes_at_first, position_or_len_is}
use Rattle.macho_unwind_pages.specs.Bounds.{PAGE_SPAN}
use Rattle.macho_unwind_pages.specs.Plans.{PageList, Row}
use Rattle.macho_unwind_pages.specs.steps.Words.{IsNamed, row_of, page_rows, codes_on, first_place}

-- the first place of a code that stands in a list
pub first_inside : (codes : List ℕ) (code : ℕ) → Contains codes code → first_place codes code < length codes
first_inside codes code (k, within, is) = elim (cases_lt k (first_place codes code)) [
  | inl before ↦
      let no = fails_before_first (λ other. code == other) codes k code before in
      let yes = eq-eqb code (get_or codes k code) (sym is) in
      absurd (cc)
  | inr at ↦ omega arith
]

-- it stays when the list grows
pub first_stays : (codes more : List ℕ) (code : ℕ) → Contains codes code → first_place (codes ++ more) code ≡ first_place codes code
first_stays codes more code there =
    let inside = first_inside codes code there in
    position_or_len_is (λ other. code == other) (codes ++ more) (first_place codes code) code (omega (arith, length-append codes more))
    (λ k low. ap (λ c. code == c) (get_or_append_left codes more code k (omega arith))
    ∙ fails_before_first (λ other. code == other) codes k code low)
    (λ h. ap (λ c. code == c) (get_or_append_left codes more code (first_place codes code) inside)
    ∙ passes_at_first (λ other. code == other) codes code inside)

-- the first place of a new code at the end
pub first_at_end : (codes : List ℕ) (code : ℕ) → ¬ Contains codes code → first_place (codes ++ code ∷ []) code ≡ length codes
first_at_end codes code absent =
    let last : length codes - length codes ≡ 0 = omega arith in
    position_or_len_is (λ other. code == other) (codes ++ code ∷ []) (length codes) code (omega (arith, length-append codes (code ∷ [])))
    (λ k low. ap (λ c. code == c) (get_or_append_left codes (code ∷ []) code k low)
    ∙ ne_eqb code (get_or codes k code) (λ e. absent (k, low, sym e)))
    (λ h. ap (λ c. code == c) (get_or-append_right codes (code ∷ []) (length codes) (length codes) code refl (omega arith)
    ∙ ap (λ i. get_or (code ∷ []) i code) last) ∙ eq-eqb code code refl)

-- a page names the code of each of its functions
pub names_all : (globals : List ℕ) (page : PageList) → All (λ word. word / PAGE_SPAN < length globals + length page.locals) page.words
    → All (λ row. IsNamed globals page row.code) (page_rows globals page)
names_all globals page named =
    All-map (λ row. IsNamed globals page row.code) (row_of globals page) page.words
    (λ k d within. Contains-get_or (globals ++ page.locals) _ 0 (omega (arith, named k d within, length-append globals page.locals)))

-- a page whose words name encodings names the codes of all its functions
pub names_codes : (globals : List ℕ) (page : PageList) → All (λ word. word / PAGE_SPAN < length globals + length page.locals) page.words
    → All (IsNamed globals page) (codes_on globals page)
names_codes globals page named =
    All-map (IsNamed globals page) (λ (row : Row). row.code) (page_rows globals page) (names_all globals page named)
