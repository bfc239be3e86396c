-- A chain is no more than a list of addresses that is closed under its two rules.
--
-- A list is closed where it has the word of each page start, and with each of its addresses whose word leads on, the
-- address that it leads to. The chain is the least set with these rules, so it lies within any such list: by the rule
-- that put an address on the chain, the first finds it among the starts, and the second next to one found before.
use Rattle.std.proofs.Common.{◌≡◌, ℕ, ◌+◌, ◌*◌, ◌<◌, ◌≤◌, nat_le, ◌==◌, Bool, true, false, not, ◌&&◌, ◌||◌, List, [], ◌∷◌, length, slice_index, refl, sym, subst}
use Rattle.std.specs.List.{list_all, list_any}
use Rattle.std.proofs.lemmas.Bool.{le-leb}
use Rattle.std.proofs.lemmas.List.Elements.{All-contains}
use Rattle.macho_model.specs.Images.{NO_START}
use Rattle.macho_model.specs.Segments.{SEGMENT_PAGE}
use Rattle.macho_model.specs.Chain.{ChainSegment, STRIDE, IsFileWord, next_of, OnChain, OnPageChain}
use Rattle.macho_model.specs.Needs.{POINTER_SIZE}
use Rattle.macho_model.specs.Chain as chain
use Rattle.macho_image_walks.specs.steps.Walks.{word_in, stands_in}
use Rattle.macho_model.proofs.EachBelow.{each_below, below_pass}
use Rattle.macho_bytes.proofs.Bools.{true_or_false, and_left, and_right, and_both, or_right, neither, not_true, is_equal, unequal_is}
use Rattle.macho_bytes.proofs.Members.{all_pass}

-- an address is among some
abbrev pub is_among : List ℕ → ℕ → Bool
is_among addresses a = list_any (λ y. y == a) addresses

-- the list has the first word of each page
abbrev pub has_start : List ℕ → ChainSegment → ℕ → Bool
has_start addresses s page =
    (slice_index s.starts page == NO_START) || is_among addresses (s.address + SEGMENT_PAGE * page + slice_index s.starts page)

abbrev pub has_starts : List ℕ → ChainSegment → Bool
has_starts addresses s = each_below (length s.starts) (has_start addresses s)

-- and the address that a word of a segment leads to
abbrev pub leads_on : List ℕ → List ℕ → ℕ → ChainSegment → Bool
leads_on b addresses a s =
    not (stands_in s a) || not (nat_le 1 (next_of (word_in b s a))) || is_among addresses (a + STRIDE * next_of (word_in b s a))

abbrev pub is_closed : List ChainSegment → List ℕ → List ℕ → Bool
is_closed segments b addresses =
    list_all (has_starts addresses) segments && list_all (λ a. list_all (leads_on b addresses a) segments) addresses

-- what holds of all of a list holds of what is among it
pub among_passes : (p : ℕ → Bool) (xs : List ℕ) (a : ℕ) → list_all p xs ≡ true → is_among xs a ≡ true → p a ≡ true
among_passes p [] a h one = absurd (true_or_false false one refl)
among_passes p (x ∷ xs) a h one =
    elim (x == a) as (λ t. (x == a) ≡ t → (t || is_among xs a) ≡ true → p a ≡ true) [
      | true ↦ λ same _. subst (λ y. p y ≡ true) (is_equal x a same) (and_left (p x) (list_all p xs) h)
      | false ↦ λ _ rest. among_passes p xs a (and_right (p x) (list_all p xs) h) rest
    ] refl one

-- where a list is closed under the second rule, it has the address that a word among it leads to
led_on : (segments : List ChainSegment) (b addresses : List ℕ)
    → list_all (λ x. list_all (leads_on b addresses x) segments) addresses ≡ true → (a word : ℕ)
    → is_among addresses a ≡ true → IsFileWord segments b a word → 1 ≤ next_of word → is_among addresses (a + STRIDE * next_of word) ≡ true
led_on segments b addresses all a word among stands goes =
    let at_a = among_passes (λ x. list_all (leads_on b addresses x) segments) addresses a all among in
    let here : leads_on b addresses a stands.segment ≡ true =
    All-contains (λ x. leads_on b addresses a x ≡ true) segments stands.segment (all_pass (leads_on b addresses a) segments at_a)
    stands.one in
    led stands.segment stands.from stands.to stands.is here
  where
    led : (s : ChainSegment) → s.address ≤ a → a + POINTER_SIZE ≤ s.address + s.file_size → word ≡ word_in b s a
        → leads_on b addresses a s ≡ true → is_among addresses (a + STRIDE * next_of word) ≡ true
    led s from to is here =
        let whole : stands_in s a ≡ true = and_both (nat_le s.address a) (nat_le (a + POINTER_SIZE) (s.address + s.file_size))
        (le-leb s.address a from) (le-leb (a + POINTER_SIZE) (s.address + s.file_size) to) in
        let on : nat_le 1 (next_of (word_in b s a)) ≡ true = le-leb 1 (next_of (word_in b s a)) (subst (λ w. 1 ≤ next_of w) is goes) in
        subst (λ w. is_among addresses (a + STRIDE * next_of w) ≡ true) (sym is)
        (or_right (not (stands_in s a) || not (nat_le 1 (next_of (word_in b s a))))
        (is_among addresses (a + STRIDE * next_of (word_in b s a))) here
        (neither (not (stands_in s a)) (not (nat_le 1 (next_of (word_in b s a)))) (not_true (stands_in s a) whole)
        (not_true (nat_le 1 (next_of (word_in b s a))) on)))

-- The chain lies within a closed list.
pub chain_within : (segments : List ChainSegment) (b addresses : List ℕ) → is_closed segments b addresses ≡ true → (a : ℕ)
    → OnChain segments b a → is_among addresses a ≡ true
chain_within segments b addresses closed _ (chain.OnChain.first s page one within starts) =
    let all = and_left (list_all (has_starts addresses) segments) (list_all (λ x. list_all (leads_on b addresses x) segments) addresses)
    closed in
    let here = All-contains (λ x. has_starts addresses x ≡ true) segments s (all_pass (has_starts addresses) segments all) one in
    or_right (slice_index s.starts page == NO_START) (is_among addresses (s.address + SEGMENT_PAGE * page + slice_index s.starts page))
    (below_pass (length s.starts) (has_start addresses s) here page within) (unequal_is (slice_index s.starts page) NO_START starts)
chain_within segments b addresses closed _ (chain.OnChain.next a word on stands goes) =
    let all = and_right (list_all (has_starts addresses) segments) (list_all (λ x. list_all (leads_on b addresses x) segments) addresses)
    closed in
    led_on segments b addresses all a word (chain_within segments b addresses closed a on) stands goes

-- a list has a page's first word, and is closed under the second rule
abbrev pub is_page_closed : List ChainSegment → List ℕ → List ℕ → ChainSegment → ℕ → Bool
is_page_closed segments b addresses s page =
    has_start addresses s page && list_all (λ a. list_all (leads_on b addresses a) segments) addresses

-- The chain of a page lies within such a list.
pub page_within : (segments : List ChainSegment) (b addresses : List ℕ) (s : ChainSegment) (page : ℕ)
    → is_page_closed segments b addresses s page ≡ true
    → (a : ℕ) → OnPageChain segments b s page a → is_among addresses a ≡ true
page_within segments b addresses s page closed _ (chain.OnPageChain.first within starts) =
    or_right (slice_index s.starts page == NO_START) (is_among addresses (s.address + SEGMENT_PAGE * page + slice_index s.starts page))
    (and_left (has_start addresses s page) (list_all (λ x. list_all (leads_on b addresses x) segments) addresses) closed)
    (unequal_is (slice_index s.starts page) NO_START starts)
page_within segments b addresses s page closed _ (chain.OnPageChain.next a word on stands goes) =
    let all = and_right (has_start addresses s page) (list_all (λ x. list_all (leads_on b addresses x) segments) addresses) closed in
    led_on segments b addresses all a word (page_within segments b addresses s page closed a on) stands goes

-- a page's chain is of a page that has a start
pub page_has_start : (segments : List ChainSegment) (b : List ℕ) (s : ChainSegment) (page a : ℕ) → OnPageChain segments b s page a
    → page < length s.starts
page_has_start segments b s page _ (chain.OnPageChain.first within starts) = within
page_has_start segments b s page _ (chain.OnPageChain.next a word on stands goes) = page_has_start segments b s page a on
