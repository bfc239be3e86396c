-- The line of an address, found by a binary search.
--
-- The search compares the addresses of lines, so what it answers it answers on the list of addresses. Lines rise. Where it answers a place,
-- the line there has the address, and a line of the list says what its word says. Where it answers none, all lines in front of its answer
-- are below the address, and all behind it above. Then no line has the address, and the list leaves no word out, so the chains have none
-- there.
use Rattle.std.proofs.Common.{◌≡◌, ℕ, ◌<◌, ◌≤◌, List, length, get_or, Result, Ok, Err, sym, subst, ap, ◌∙◌, inl, inr, arith, nat_cmp, Less, Greater}
use Rattle.std.specs.List.{AllPairs}
use Rattle.std.specs.Ordering.{ordering_index}
use Rattle.std.specs.List.Sorted.{IsBinarySearchResult, IsSearchInRange}
use Rattle.std.proofs.lemmas.Bool.{cases_lt}
use Rattle.std.proofs.lemmas.List.{length-map, get_or_default}
use Rattle.std.proofs.lemmas.List.Sorted.{searched}
use Rattle.macho_model.specs.Chain.{OnChainOf}
use Rattle.macho_model.specs.Loader.{IsAccepted}
use Rattle.macho_loader.specs.Lists.{AreFixups}
use Rattle.macho_loader.specs.declared.chain_list.FixupLine.{FixupLine}
use Rattle.macho_loader.specs.declared.chain_list.LineKind.TheVariants.{Rebase}
use Rattle.macho_image_rules.specs.Words.{IsLineOf}
use Rattle.macho_image_rules.proofs.Merged.{Rises, Climbs, place_of}
use Rattle.macho_image_rules.proofs.Chained.{listed, line_at, lines_rise}

-- a line that stands for those outside of lists
abbrev pub no_line : FixupLine
no_line = record { address = 0; kind = Rebase 0 }

-- what rises doesn't fall
rises_climb : (xs : List ℕ) → Rises xs → Climbs xs
rises_climb xs rises j k le low = elim (cases_lt j k) [
  | inl less ↦ omega (arith, rises j k less low)
  | inr same ↦ let is : j ≡ k = omega arith in omega (arith, ap (λ i. get_or xs i 0) is)
]

-- what a search by addresses answers, it answers on the list of addresses
search_listed : (lines : List FixupLine) (a : ℕ) (r : Result ℕ ℕ) → IsBinarySearchResult (λ (y : FixupLine). nat_cmp y.address a) lines r
    → IsSearchInRange r (length lines) → IsBinarySearchResult (λ y. nat_cmp y a) (listed lines) r
search_listed lines a (Ok i) h low = λ d.
    let within : i < length (listed lines) = omega (arith, low, length-map lines (λ (x : FixupLine). x.address)) in
    let at = get_or_default (listed lines) i d 0 within ∙ line_at lines i no_line low in
    ap (λ n. nat_cmp n a) at ∙ h no_line
search_listed lines a (Err i) h low = λ up.
    let long = length-map lines (λ (x : FixupLine). x.address) in
    let here : (k : ℕ) (d : ℕ) (e : FixupLine) → k < length lines → get_or (listed lines) k d ≡ (get_or lines k e).address
    = λ k d e l. get_or_default (listed lines) k d 0 (omega (arith, l, long)) ∙ line_at lines k e l in
    let rank : ℕ → ℕ = λ n. ordering_index (nat_cmp n a) in
    let parted = h (λ j k e le l.
    subst (λ n. rank n ≤ rank (get_or lines k e).address) (here j 0 e (omega arith))
    (subst (λ n. rank (get_or (listed lines) j 0) ≤ rank n) (here k 0 e l) (up j k 0 le (omega (arith, l, long))))) in (
      λ k d from below. subst (λ n. nat_cmp n a ≡ Less) (sym (here k d no_line (omega (arith, low)))) (parted.0 k no_line from below),
      λ k d from below.
          subst (λ n. nat_cmp n a ≡ Greater) (sym (here k d no_line (omega (arith, long)))) (parted.1 k no_line from (omega (arith, long))),
    )

-- What a search by addresses over the fixups of an image answers: the line of the address, or that the chains have no word there.
pub found_line : (b : List ℕ) (lines : List FixupLine) (a i : ℕ) → AllPairs (λ x y. x.address < y.address) lines
    → IsBinarySearchResult (λ (y : FixupLine). nat_cmp y.address a) lines (Ok i) → i < length lines → IsAccepted b → AreFixups b lines
    → ((get_or lines i no_line).address ≡ a) × IsLineOf b (get_or lines i no_line)
found_line b lines a i rising h low accepted fixups =
    let climbs : Climbs (listed lines) = rises_climb (listed lines) (lines_rise lines rising) in
    let at = searched (listed lines) a (Ok i) (search_listed lines a (Ok i) h low) climbs in
    (sym (line_at lines i no_line low) ∙ at.1, record { accepted = accepted; says = fixups.each i no_line low })

pub no_line_there : (b : List ℕ) (lines : List FixupLine) (a i : ℕ) → AllPairs (λ x y. x.address < y.address) lines
    → IsBinarySearchResult (λ (y : FixupLine). nat_cmp y.address a) lines (Err i) → i ≤ length lines → AreFixups b lines
    → OnChainOf b a → ⊥
no_line_there b lines a i rising h low fixups on =
    let climbs : Climbs (listed lines) = rises_climb (listed lines) (lines_rise lines rising) in
    let out = searched (listed lines) a (Err i) (search_listed lines a (Err i) h low) climbs in
    let has = place_of (listed lines) a (fixups.whole a on) in
    elim (cases_lt has.0 i) [
      | inl below ↦ omega (arith, out.1 has.0 below, has.2)
      | inr above ↦ omega (arith, out.2 has.0 above has.1, has.2)
    ]
