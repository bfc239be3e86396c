-- The words on the chains of an image, as the list of its fixups has them.
--
-- An address is on the chains exactly where the list has it: each line is of a word on the chains, and no word is left out. So what is said
-- of the list's addresses is said of the chains. The walk keeps which lines and which needed words were met; as numbers they are those of
-- `Merged`. Of a line and a new word at different addresses the lower one stands alone, and below it list and needed words agree. If there
-- is no next word, the next line stands alone; if there is no next line, the next word does; and if there is neither, both have the same
-- addresses. The hard step is a word that is needed twice: it is no new one, and its line was met before.
use Rattle.std.proofs.Common.{◌≡◌, ℕ, ◌+◌, ◌-◌, ◌<◌, ◌≤◌, min, ◌⊎◌, List, [], ◌∷◌, map, length, get_or, sym, subst, ◌∙◌, inl, inr, arith}
use Rattle.std.specs.List.{Contains, AllPairs}
use Rattle.std.specs.List.Sorted.{IsNonDecreasingBy}
use Rattle.std.proofs.lemmas.Bool.{cases_lt}
use Rattle.std.proofs.lemmas.List.{length-map, get_or-map}
use Rattle.macho_bytes.proofs.Members.{map_contains, all_contains}
use Rattle.macho_bytes.proofs.Pairs.{pairs_map}
use Rattle.macho_model.specs.Chain.{OnChainOf}
use Rattle.macho_loader.specs.Lists.{AreFixups, SaysKind}
use Rattle.macho_loader.specs.declared.chain_list.FixupLine.{FixupLine}
use Rattle.macho_loader.specs.declared.chain_list.LineKind.{LineKind}
use Rattle.macho_loader.specs.declared.chain_list.LineKind.TheVariants.{Rebase, Bind}
use Rattle.macho_image_rules.specs.declared.chain.Needed.{Needed}
use Rattle.macho_image_rules.specs.Chain.{IsAsNeeded, DiffersFirst}
use Rattle.macho_image_rules.specs.steps.Merged.{IsMerged}
use Rattle.macho_image_rules.proofs.Merged.{Agree, Rises, Climbs, at_place, met_below, agree_below, not_first, not_second, merged_again, merged_next}

-- the addresses of the words that are listed, and of those that are needed
abbrev pub listed : List FixupLine → List ℕ
listed lines = map (λ (x : FixupLine). x.address) lines

abbrev pub wanted : List Needed → List ℕ
wanted needed = map (λ (n : Needed). n.address) needed

pub lines_rise : (lines : List FixupLine) → AllPairs (λ x y. x.address < y.address) lines → Rises (listed lines)
lines_rise lines rising k m before within =
    pairs_map (λ (a b : ℕ). a < b) (λ (x : FixupLine). x.address) lines rising k m 0 before within

pub needed_climb : (needed : List Needed) → IsNonDecreasingBy (λ n. n.address) needed → Climbs (wanted needed)
needed_climb [] sorted k m before within = absurd (omega arith)
needed_climb (n ∷ ns) sorted k m before within =
    let low : m < length (n ∷ ns) = omega (arith, length-map (n ∷ ns) (λ (x : Needed). x.address)) in
    let first = get_or-map (λ (x : Needed). x.address) (n ∷ ns) k n 0 (omega arith) in
    let second = get_or-map (λ (x : Needed). x.address) (n ∷ ns) m n 0 low in
    omega (arith, first, second, sorted k m n before low)

-- a word that says something is on the chains
says_on : (b : List ℕ) (a : ℕ) (kind : LineKind) → SaysKind b a kind → OnChainOf b a
says_on b a (Rebase value) says = says.on
says_on b a (Bind import addend) says = says.on

pub listed_on : (b : List ℕ) (lines : List FixupLine) (a : ℕ) → AreFixups b lines → Contains (listed lines) a → OnChainOf b a
listed_on b lines a fixups has =
    let line = map_contains (λ (x : FixupLine). x.address) lines a has in
    subst (OnChainOf b) line.2 (says_on b line.0.address line.0.kind
    (all_contains (λ x. SaysKind b x.address x.kind) lines line.0 fixups.each line.1))

-- where the list and the needed words agree on an address, the chains do
pub as_needed : (b : List ℕ) (lines : List FixupLine) (needed : List Needed) (a : ℕ) → AreFixups b lines
    → Agree (listed lines) (wanted needed) a → IsAsNeeded b needed a
as_needed b lines needed a fixups agree =
    (λ on. agree.0 (fixups.whole a on), λ need. listed_on b lines a fixups (agree.1 need))

-- an address that the list has and that isn't needed, above those on which both agree
pub listed_alone : (b : List ℕ) (lines : List FixupLine) (needed : List Needed) (a : ℕ) → AreFixups b lines
    → Contains (listed lines) a → (Contains (wanted needed) a → ⊥) → ((c : ℕ) → c < a → Agree (listed lines) (wanted needed) c)
    → DiffersFirst b needed a
listed_alone b lines needed a fixups has not below = record {
  one = inl (listed_on b lines a fixups has, not);
  before = λ c low. as_needed b lines needed c fixups (below c low);
}

-- one that is needed and that the list doesn't have
pub needed_alone : (b : List ℕ) (lines : List FixupLine) (needed : List Needed) (a : ℕ) → AreFixups b lines
    → Contains (wanted needed) a → (Contains (listed lines) a → ⊥) → ((c : ℕ) → c < a → Agree (listed lines) (wanted needed) c)
    → DiffersFirst b needed a
needed_alone b lines needed a fixups need not below = record {
  one = inr (need, λ on. not (fixups.whole a on));
  before = λ c low. as_needed b lines needed c fixups (below c low);
}

-- the address of a line, and of a needed word
pub line_at : (lines : List FixupLine) (k : ℕ) (d : FixupLine) → k < length lines → get_or (listed lines) k 0 ≡ (get_or lines k d).address
line_at lines k d low = get_or-map (λ (x : FixupLine). x.address) lines k d 0 low

pub need_at : (needed : List Needed) (k : ℕ) (d : Needed) → k < length needed → get_or (wanted needed) k 0 ≡ (get_or needed k d).address
need_at needed k d low = get_or-map (λ (x : Needed). x.address) needed k d 0 low

-- the next needed word isn't at the address of the last line that was met
abbrev pub IsNew : List FixupLine → List Needed → ℕ → ℕ → FixupLine → Needed → Type 0
IsNew lines needed i n e d = (i ≡ 0) ⊎ ((get_or lines (i - 1) e).address ≡ (get_or needed n d).address → ⊥)

-- what two walks keep: the lists, and how much of each was met
pub record Walked (lines : List FixupLine) (needed : List Needed) (i n : ℕ) : Type 0 where
  pub rising : AllPairs (λ x y. x.address < y.address) lines
  pub sorted : IsNonDecreasingBy (λ n. n.address) needed
  pub merged : IsMerged (listed lines) (wanted needed) i n
  pub within : n ≤ length needed

-- a new word that is lower than the next line is on no chain
pub word_alone : (b : List ℕ) (lines : List FixupLine) (needed : List Needed) (i n : ℕ) (e : FixupLine) (d : Needed)
    → Walked lines needed i n → n < length needed → IsNew lines needed i n e d
    → (i < length lines → (get_or needed n d).address < (get_or lines i e).address) → AreFixups b lines
    → DiffersFirst b needed (get_or needed n d).address
word_alone b lines needed i n e d walked more new lower fixups =
    let xs = listed lines in let ys = wanted needed in
    let rises = lines_rise lines walked.rising in let climbs = needed_climb needed walked.sorted in
    let long = length-map lines (λ (x : FixupLine). x.address) in let wide = length-map needed (λ (x : Needed). x.address) in
    let here = need_at needed n d more in
    let a = (get_or needed n d).address in
    let met : (i ≡ 0) ⊎ (get_or xs (i - 1) 0 ≡ get_or ys n 0 → ⊥)
    = elim new [
      | inl none ↦ inl none
      | inr other ↦ elim (cases_lt 0 i) [
        | inl some ↦ inr (λ same. other (sym (line_at lines (i - 1) e (omega (arith, long, walked.merged.within))) ∙ same ∙ here))
        | inr none ↦ inl (omega arith)
      ]
    ] in
    let next : i < length xs → a < get_or xs i 0
    = λ low. let at = line_at lines i e (omega (arith, long)) in omega (arith, at, lower (omega (arith, long))) in
    let below = met_below xs ys i n walked.merged rises climbs (omega (arith, wide)) met in
    needed_alone b lines needed a fixups (at_place ys n a (omega (arith, wide)) here)
    (not_first xs ys i n a rises (λ k low. omega (arith, below k low, here)) next)
    (agree_below xs ys i n a walked.merged rises climbs (omega (arith, wide, walked.within)) (λ low. omega (arith, next low))
    (λ low. omega (arith, here)))

-- a line that is lower than the next word isn't needed
pub line_alone : (b : List ℕ) (lines : List FixupLine) (needed : List Needed) (i n : ℕ) (e : FixupLine) (d : Needed)
    → Walked lines needed i n → i < length lines
    → (n < length needed → (get_or lines i e).address < (get_or needed n d).address) → AreFixups b lines
    → DiffersFirst b needed (get_or lines i e).address
line_alone b lines needed i n e d walked more lower fixups =
    let xs = listed lines in let ys = wanted needed in
    let rises = lines_rise lines walked.rising in let climbs = needed_climb needed walked.sorted in
    let long = length-map lines (λ (x : FixupLine). x.address) in let wide = length-map needed (λ (x : Needed). x.address) in
    let here = line_at lines i e more in
    let a = (get_or lines i e).address in
    let next : n < length ys → get_or xs i 0 < get_or ys n 0
    = λ low. let at = need_at needed n d (omega (arith, wide)) in omega (arith, at, here, lower (omega (arith, wide))) in
    listed_alone b lines needed a fixups (at_place xs i a (omega (arith, long)) here)
    (λ has. not_second xs ys i n walked.merged rises climbs (omega (arith, long)) next (subst (Contains ys) (sym here) has))
    (agree_below xs ys i n a walked.merged rises climbs (omega (arith, wide, walked.within)) (λ low. omega (arith, here))
    (λ low. omega (arith, here, next low)))

-- where both lists end, the chains have the words that are needed
pub all_met : (b : List ℕ) (lines : List FixupLine) (needed : List Needed) (i n : ℕ) → Walked lines needed i n → length lines ≤ i
    → length needed ≤ n → AreFixups b lines → (a : ℕ) → IsAsNeeded b needed a
all_met b lines needed i n walked first second fixups a =
    let long = length-map lines (λ (x : FixupLine). x.address) in let wide = length-map needed (λ (x : Needed). x.address) in
    as_needed b lines needed a fixups (agree_below (listed lines) (wanted needed) i n (a + 1) walked.merged (lines_rise lines walked.rising)
    (needed_climb needed walked.sorted) (omega (arith, wide, walked.within)) (λ low. absurd (omega (arith, long)))
    (λ low. absurd (omega (arith, wide))) a (omega arith))

-- a line is left, where not all were met
pub line_left : (lines : List FixupLine) (i : ℕ) → i ≤ length (listed lines) → (i ≡ length lines → ⊥) → i < length lines
line_left lines i within not =
    elim (cases_lt i (length lines)) [
      | inl less ↦ less
      | inr over ↦ absurd (not (omega (arith, length-map lines (λ (x : FixupLine). x.address))))
    ]

-- of a line and a new word at different addresses the lower one stands alone
pub lower_alone : (b : List ℕ) (lines : List FixupLine) (needed : List Needed) (i n a : ℕ) (e : FixupLine) (d : Needed)
    → Walked lines needed i n → i < length lines → n < length needed → IsNew lines needed i n e d
    → ((get_or lines i e).address ≡ (get_or needed n d).address → ⊥)
    → a ≡ min (get_or lines i e).address (get_or needed n d).address → AreFixups b lines → DiffersFirst b needed a
lower_alone b lines needed i n a e d walked some more new differ is fixups =
    elim (cases_lt (get_or lines i e).address (get_or needed n d).address) [
      | inl less ↦
          let here : (get_or lines i e).address ≡ a = omega arith in
          subst (DiffersFirst b needed) here (line_alone b lines needed i n e d walked some (λ low. less) fixups)
      | inr over ↦
          let less : (get_or needed n d).address < (get_or lines i e).address
          = elim (cases_lt (get_or needed n d).address (get_or lines i e).address) [
            | inl below ↦ below
            | inr above ↦ absurd (differ (omega arith))
          ] in
          let here : (get_or needed n d).address ≡ a = omega arith in
          subst (DiffersFirst b needed) here (word_alone b lines needed i n e d walked more new (λ low. less) fixups)
    ]

-- one word more: it is the last line again, or the next one
pub walked_again : (lines : List FixupLine) (needed : List Needed) (i n : ℕ) (e : FixupLine) (d : Needed)
    → IsMerged (listed lines) (wanted needed) i n → n < length needed → (i ≡ 0 → ⊥)
    → (get_or lines (i - 1) e).address ≡ (get_or needed n d).address → IsMerged (listed lines) (wanted needed) i (n + 1)
walked_again lines needed i n e d merged more some same =
    let positive : 0 < i = elim (cases_lt 0 i) [ inl above ↦ above | inr none ↦ absurd (some (omega arith)) ] in
    let low : i - 1 < length lines = omega (arith, merged.within, length-map lines (λ (x : FixupLine). x.address)) in
    merged_again (listed lines) (wanted needed) i n merged positive
    (line_at lines (i - 1) e low ∙ same ∙ sym (need_at needed n d more))

pub walked_on : (lines : List FixupLine) (needed : List Needed) (i n : ℕ) (e : FixupLine) (d : Needed)
    → IsMerged (listed lines) (wanted needed) i n → i < length lines → n < length needed
    → (get_or lines i e).address ≡ (get_or needed n d).address → IsMerged (listed lines) (wanted needed) (i + 1) (n + 1)
walked_on lines needed i n e d merged some more same =
    merged_next (listed lines) (wanted needed) i n merged (omega (arith, length-map lines (λ (x : FixupLine). x.address)))
    (line_at lines i e some ∙ same ∙ sym (need_at needed n d more))
