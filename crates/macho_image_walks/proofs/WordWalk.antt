-- What a walk along a chain finds is what the definitions say of the chain.
--
-- A word of the file is one that a numbered segment has (`NumberedWalk`), and it leads on by as many bytes. A chain leads
-- upwards only. The words of a page's chain are those that its start leads to, and the chain is made of the pages' chains.
use Rattle.std.proofs.Common.{◌≡◌, ◌≢◌, ℕ, ◌+◌, ◌*◌, ◌<◌, ◌≤◌, ◌==◌, nat_lt, Bool, true, false, if◌then◌else◌, List, [], ◌∷◌, length, get_or, map, slice_index, refl, sym, ap, subst, ◌∙◌, arith, Some, inl, inr}
use Rattle.std.proofs.lemmas.Bool.{cases_lt}
use Rattle.std.specs.Prelude.{Contains, unwrap_or}
use Rattle.std.specs.List.{range_with_len}
use Rattle.std.proofs.lemmas.List.{get_or-map, length-map}
use Rattle.std.proofs.lemmas.List.FromFn.{get_or-range_with_len, length-range_with_len}
use Rattle.macho_image_walks.specs.declared.walk.Listed.TheVariants as list
use Rattle.macho_model.specs.Commands.{Command, command_at, header_of}
use Rattle.macho_model.specs.Images.{Table, table_of_command, starts_count, starts_offset, segment_starts, page_start, NO_START}
use Rattle.macho_model.specs.Segments.{SEGMENT_PAGE}
use Rattle.macho_model.specs.Loader.{segment_in}
use Rattle.macho_model.specs.Chain.{ChainSegment, chain_segments, starts_in_tables, IsFileWord, next_of, STRIDE, OnChain, OnPageChain}
use Rattle.macho_model.specs.Chain as chain
use Rattle.macho_image_walks.specs.Readings.{listed, IsNth, HasWord, table_there, starts_in, StepOf, StepIn, starts_of}
use Rattle.macho_image_walks.specs.steps.Walks.{Leads, chain_segment_at}
use Rattle.macho_image_walks.specs.steps.Walks as walks
use Rattle.macho_model.proofs.PageChains.{page_on_chain}
use Rattle.macho_image_walks.proofs.ListedLaws.{tables_are}
use Rattle.macho_image_walks.proofs.NumberedWalk.{few_listed_of, nth_one, chain_contains, numbered_segment, word_in_segment, segment_has_word}

-- a step is one that a segment has, and back
pub step_of_word : (b : List ℕ) (a word : ℕ) → IsFileWord (chain_segments b) b a word → 1 ≤ next_of word
    → (number : ℕ) × (number < (header_of b).ncmds) × StepIn b number a (STRIDE * next_of word)
step_of_word b a word stands goes =
    let w = word_in_segment b a word stands in (
      w.number,
      omega (arith, w.nth.within, few_listed_of list.Segments b),
      record
          { place = w.place; nth = w.nth; step = record { word = word; has = w.has; goes = goes; is = refl } },
    )

pub step_leads : (b : List ℕ) (number a n c : ℕ) → StepIn b number a n → Leads b (a + n) c → Leads b a c
step_leads b number a n c step leads =
    let s = step.step in
    walks.Leads.on a s.word c (segment_has_word b number step.place a s.word step.nth s.has) s.goes
    (subst (λ m. Leads b (a + m) c) s.is leads)

-- the step that a word makes, and no other
pub some_is : {X : Type 0} (x y : X) → Some x ≡ Some y → x ≡ y
some_is x y h = ap (λ o. unwrap_or o y) h

pub step_at : (b : List ℕ) (number place a n : ℕ) → IsNth list.Segments b number place → StepIn b number a n → StepOf b place a n
step_at b number place a n nth step = subst (λ p. StepOf b p a n) (nth_one list.Segments b number step.place place step.nth nth) step.step

-- a chain leads upwards
pub leads_up : (b : List ℕ) (a c : ℕ) → Leads b a c → a ≤ c
leads_up b _ _ (walks.Leads.here a) = omega arith
leads_up b _ _ (walks.Leads.on a word c stands goes rest) = let up = leads_up b (a + STRIDE * next_of word) c rest in omega (arith, up)

-- where no segment leads on, a chain leads to no other address
pub leads_nowhere : (b : List ℕ) (a c : ℕ) → a < c
    → ((number n : ℕ) → number < (header_of b).ncmds → StepIn b number a n → Leads b (a + n) c → ⊥) → Leads b a c → ⊥
leads_nowhere b _ _ before none (walks.Leads.here a) = absurd (omega (arith, before))
leads_nowhere b _ _ before none (walks.Leads.on a word c stands goes rest) =
    let step = step_of_word b a word stands goes in none step.0 (STRIDE * next_of word) step.1 step.2 rest

-- one word more at the end
pub leads_more : (b : List ℕ) (a c word : ℕ) → Leads b a c → IsFileWord (chain_segments b) b c word → 1 ≤ next_of word
    → Leads b a (c + STRIDE * next_of word)
leads_more b _ _ word (walks.Leads.here a) stands goes =
    walks.Leads.on a word (a + STRIDE * next_of word) stands goes (walks.Leads.here (a + STRIDE * next_of word))
leads_more b _ _ word (walks.Leads.on a first c at_a goes_a rest) stands goes =
    walks.Leads.on a first (c + STRIDE * next_of word) at_a goes_a (leads_more b (a + STRIDE * next_of first) c word rest stands goes)

-- the first word of a page
abbrev pub page_first : ChainSegment → ℕ → ℕ
page_first s page = s.address + SEGMENT_PAGE * page + slice_index s.starts page

-- a page's chain is what its start leads to
pub record FromStart (b : List ℕ) (s : ChainSegment) (page a : ℕ) : Type 0 where
  pub within : page < length s.starts
  pub starts : slice_index s.starts page ≢ NO_START
  pub leads : Leads b (page_first s page) a

pub from_start : (b : List ℕ) (s : ChainSegment) (page a : ℕ) → OnPageChain (chain_segments b) b s page a → FromStart b s page a
from_start b s page _ (chain.OnPageChain.first within starts) =
    record { within = within; starts = starts; leads = walks.Leads.here (page_first s page) }
from_start b s page _ (chain.OnPageChain.next a word on stands goes) =
    let before = from_start b s page a on in
    record { within = before.within; starts = before.starts; leads = leads_more b (page_first s page) a word before.leads stands goes }

pub leads_on_page : (b : List ℕ) (s : ChainSegment) (page a c : ℕ) → OnPageChain (chain_segments b) b s page a → Leads b a c
    → OnPageChain (chain_segments b) b s page c
leads_on_page b s page _ _ on (walks.Leads.here a) = on
leads_on_page b s page _ _ on (walks.Leads.on a word c stands goes rest) =
    leads_on_page b s page (a + STRIDE * next_of word) c (chain.OnPageChain.next a word on stands goes) rest

pub on_page : (b : List ℕ) (s : ChainSegment) (page a : ℕ) → FromStart b s page a → OnPageChain (chain_segments b) b s page a
on_page b s page a f = leads_on_page b s page (page_first s page) a (chain.OnPageChain.first f.within f.starts) f.leads

-- the chain is made of the pages' chains
pub record OnSomePage (b : List ℕ) (a : ℕ) : Type 0 where
  pub segment : ChainSegment
  pub page : ℕ
  pub one : Contains (chain_segments b) segment
  pub on : OnPageChain (chain_segments b) b segment page a

pub on_some_page : (b : List ℕ) (a : ℕ) → OnChain (chain_segments b) b a → OnSomePage b a
on_some_page b _ (chain.OnChain.first s page one within starts) =
    record { segment = s; page = page; one = one; on = chain.OnPageChain.first within starts }
on_some_page b _ (chain.OnChain.next a word on stands goes) =
    let before = on_some_page b a on in
    record { segment = before.segment; page = before.page; one = before.one; on = chain.OnPageChain.next a word before.on stands goes }

-- a chain leads from an address to itself, and where it is another one, upwards
pub leads_here : (b : List ℕ) (a c : ℕ) → a ≡ c → Leads b a c
leads_here b a c same = subst (λ x. Leads b a x) same (walks.Leads.here a)

pub leads_no_lower : (b : List ℕ) (a c : ℕ) → c < a → Leads b a c → ⊥
leads_no_lower b a c lower leads = let up = leads_up b a c leads in omega (arith, up, lower)

-- the steps of one segment more do not lead to the end
pub one_leads_nowhere : (b : List ℕ) (i from to : ℕ) → ((k n : ℕ) → k < i → StepIn b k from n → Leads b (from + n) to → ⊥)
    → ((n : ℕ) → StepIn b i from n → Leads b (from + n) to → ⊥) → (k n : ℕ) → k < i + 1 → StepIn b k from n → Leads b (from + n) to → ⊥
one_leads_nowhere b i from to before here k n within step leads =
    elim (cases_lt k i) [
      | inl lt ↦ before k n lt step leads
      | inr le ↦ let same : k ≡ i = omega (arith, le, within) in here n (subst (λ j. StepIn b j from n) same step) leads
    ]

-- the starts of a page are those of the first table
first_starts : (b : List ℕ) (k : ℕ) (cs : List Command) (c : Command) → 0 < length cs → get_or cs 0 c ≡ c
    → starts_in_tables b (map (table_of_command b) cs) k ≡ starts_in b (table_of_command b c) k
first_starts b k [] c some is = absurd (omega (arith, some))
first_starts b k (x ∷ cs) c some is = ap (λ y. starts_in b (table_of_command b y) k) is

pub starts_found : (b : List ℕ) (k place : ℕ) → IsNth list.Tables b 0 place → starts_of b k ≡ starts_in b (table_there b place) k
starts_found b k place nth =
    ap (λ ts. starts_in_tables b ts k) (tables_are b) ∙ first_starts b k (listed list.Tables b) (command_at b place) nth.within nth.is

no_starts : (b : List ℕ) (k : ℕ) (cs : List Command) → length cs ≤ 0 → starts_in_tables b (map (table_of_command b) cs) k ≡ []
no_starts b k [] none = refl
no_starts b k (x ∷ cs) none = absurd (omega (arith, none))

pub starts_missing : (b : List ℕ) (k : ℕ) → length (listed list.Tables b) ≤ 0 → starts_of b k ≡ []
starts_missing b k none = ap (λ ts. starts_in_tables b ts k) (tables_are b) ∙ no_starts b k (listed list.Tables b) none

-- how many there are, and each
pub length_starts : (b : List ℕ) (t : Table) (k : ℕ) → nat_lt k (starts_count b t) ≡ true → (starts_offset b t k == 0) ≡ false
    → length (starts_in b t k) ≡ (segment_starts b t k).page_count
length_starts b t k within some =
    rw (within, some) (length-map (range_with_len 0 (segment_starts b t k).page_count) (page_start b t k) ∙ length-range_with_len 0
    (segment_starts b t k).page_count)

pub start_is : (b : List ℕ) (t : Table) (k page : ℕ) → page < length (starts_in b t k)
    → page_start b t k page ≡ slice_index (starts_in b t k) page
start_is b t k page within =
    cases (nat_lt k (starts_count b t)) (starts_offset b t k == 0) within
  where
    ones : List ℕ
    ones = map (page_start b t k) (range_with_len 0 (segment_starts b t k).page_count)

    cases : (x y : Bool) → page < length (if x then (if y then [] else ones) else [])
        → page_start b t k page ≡ slice_index (if x then (if y then [] else ones) else []) page
    cases true true lt = absurd (omega (arith, lt))
    cases false y lt = absurd (omega (arith, lt))
    cases true false lt =
        let long = length-range_with_len 0 (segment_starts b t k).page_count in
        let within_range : page < (segment_starts b t k).page_count =
        omega (arith, lt, length-map (range_with_len 0 (segment_starts b t k).page_count) (page_start b t k), long) in
        sym (get_or-map (page_start b t k) (range_with_len 0 (segment_starts b t k).page_count) page 0 0 (omega (arith, within_range, long))
        ∙ ap (page_start b t k) (get_or-range_with_len 0 (segment_starts b t k).page_count page 0 within_range ∙ omega arith))

-- an address is on no chain where it is on no segment's
pub on_no_segment : (b : List ℕ) (a : ℕ) → ((number place : ℕ) → number < (header_of b).ncmds → IsNth list.Segments b number place
    → (page : ℕ) → OnPageChain (chain_segments b) b (chain_segment_at b number place) page a → ⊥) → OnChain (chain_segments b) b a → ⊥
on_no_segment b a none on =
    let some = on_some_page b a on in
    let n = numbered_segment b some.segment some.one in
    none n.number n.place (omega (arith, n.nth.within, few_listed_of list.Segments b)) n.nth some.page
    (subst (λ s. OnPageChain (chain_segments b) b s some.page a) n.is some.on)

pub on_chain_of : (b : List ℕ) (number place page a : ℕ) → IsNth list.Segments b number place
    → OnPageChain (chain_segments b) b (chain_segment_at b number place) page a → OnChain (chain_segments b) b a
on_chain_of b number place page a nth on =
    page_on_chain (chain_segments b) b (chain_segment_at b number place) page a (chain_contains b number place nth) on

-- one more of what has passed
pub one_more_below : {P : ℕ → Type 0} (i : ℕ) → ((k : ℕ) → k < i → P k) → P i → (k : ℕ) → k < i + 1 → P k
one_more_below {P = P} i before here k within =
    elim (cases_lt k i) [ inl lt ↦ before k lt | inr le ↦ let same : i ≡ k = omega (arith, le, within) in subst P same here ]

-- a page's chain, by the words that are read
pub page_chain_found : (b : List ℕ) (number place page a address start : ℕ) → page < length (starts_of b number)
    → start ≡ slice_index (starts_of b number) page
    → (start ≡ NO_START → ⊥) → address ≡ (segment_in b (command_at b place)).vmaddr → Leads b (address + SEGMENT_PAGE * page + start) a
    → OnPageChain (chain_segments b) b (chain_segment_at b number place) page a
page_chain_found b number place page a address start within is some at leads =
    on_page b (chain_segment_at b number place) page a (record {
      within = within;
      starts = λ none. some (is ∙ none);
      leads = subst (λ n. Leads b ((segment_in b (command_at b place)).vmaddr + SEGMENT_PAGE * page + n) a) is
          (subst (λ n. Leads b (n + SEGMENT_PAGE * page + start) a) at leads);
    })

pub page_chain_only : (b : List ℕ) (number place page a address start : ℕ) → start ≡ slice_index (starts_of b number) page
    → address ≡ (segment_in b (command_at b place)).vmaddr → (Leads b (address + SEGMENT_PAGE * page + start) a → ⊥)
    → OnPageChain (chain_segments b) b (chain_segment_at b number place) page a → ⊥
page_chain_only b number place page a address start is at none on =
    let f = from_start b (chain_segment_at b number place) page a on in
    none (subst (λ n. Leads b (n + SEGMENT_PAGE * page + start) a) (sym at)
    (subst (λ n. Leads b ((segment_in b (command_at b place)).vmaddr + SEGMENT_PAGE * page + n) a) (sym is) f.leads))

pub page_chain_none : (b : List ℕ) (number place page a start : ℕ) → start ≡ slice_index (starts_of b number) page → start ≡ NO_START
    → OnPageChain (chain_segments b) b (chain_segment_at b number place) page a → ⊥
page_chain_none b number place page a start is none on =
    let f = from_start b (chain_segment_at b number place) page a on in f.starts (sym is ∙ none)
