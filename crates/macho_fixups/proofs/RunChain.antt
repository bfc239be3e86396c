-- The chain of a file that holds the words of a run, and whose page starts are those of the run, is the run.
--
-- A page start is the offset of the page's first fixup, so the first rule gives the address of a fixup. The word of a
-- fixup leads to the next fixup of its page or nowhere, so the second rule does too. The other way, by the number of
-- a fixup: the first of its page is at the page's start, and another one is where the word before it leads to.
use Rattle.std.proofs.Common.{◌≡◌, ◌≢◌, ℕ, zero, suc, ◌+◌, ◌*◌, ◌-◌, ◌/◌, ◌%◌, ◌<◌, ◌≤◌, ◌==◌, nat_lt, true, false, List, [], ◌∷◌, length, map, get_or, slice_index, arith, refl, sym, ap, subst, ◌∙◌, inl, inr, if◌then◌else◌}
use Rattle.std.specs.Prelude.{Contains}
use Rattle.std.specs.List.{range_with_len}
use Rattle.std.proofs.lemmas.Bool.{cases_lt}
use Rattle.std.proofs.lemmas.Bool.Decides.{nat_tests}
use Rattle.std.proofs.lemmas.List.{get_or_default, get_or-map, length-map}
use Rattle.std.proofs.lemmas.List.Elements.{All-contains, All-contains_itself}
use Rattle.std.proofs.lemmas.List.FromFn.{length-range_with_len, get_or-range_with_len}
use Rattle.macho_bytes.proofs.Numbers.{little_is_sound, number-stands}
use Rattle.macho_bytes.specs.Numbers.{little, le_at}
use Rattle.macho_model.specs.Images.{NO_START}
use Rattle.macho_model.specs.Segments.{SEGMENT_PAGE}
use Rattle.macho_model.specs.Chain.{ChainSegment, OnChain, IsFileWord, STRIDE, next_of}
use Rattle.macho_model.specs.Needs.{POINTER_SIZE}
use Rattle.macho_model.specs.Chain as chain
use Rattle.macho_fixups.specs.declared.run.Fixup.{Fixup}
use Rattle.macho_fixups.specs.declared.run.FixupSegment.{FixupSegment}
use Rattle.macho_fixups.specs.Words.{IsWordOf, word_of}
use Rattle.macho_fixups.specs.Runs.{AreFixups, AreSegments, Holds, pages_of, start_of}
use Rattle.macho_fixups.specs.Chains.{place_of, step_of, step_between, starts_in, chain_seen, AllStand, IsStepOf}
use Rattle.macho_fixups.proofs.Cuts.{pages_of-above, pages_with-in, start_of-here}
use Rattle.macho_fixups.proofs.SegmentWrites.{no_segment}
use Rattle.macho_fixups.proofs.Places.{place_of-at, numbered, number_of}

-- the words of the run have the fields that are asked
abbrev pub AreWords : List Fixup → Type 0
AreWords fixups =
    (k : ℕ) (d : Fixup) → k < length fixups → IsWordOf (get_or fixups k d).kind (step_of fixups k)
    (word_of (get_or fixups k d).kind (step_of fixups k))

-- the steps of a fixup that isn't the last one
step_of-next : (fixups : List Fixup) (k : ℕ) (d : Fixup) → k + 1 < length fixups
    → step_of fixups k ≡ step_between (get_or fixups k d).address (get_or fixups (k + 1) d).address
unfolding step_of
step_of-next fixups k d lt =
    let yes : nat_lt (k + 1) (length fixups) ≡ true = grind (arith, nat_tests) in
    let here = get_or-map (λ (f : Fixup). f.address) fixups k d 0 (omega arith) in
    let next = get_or-map (λ (f : Fixup). f.address) fixups (k + 1) d 0 lt in rw (yes, here, next) refl

step_of-last : (fixups : List Fixup) (k : ℕ) → length fixups ≤ k + 1 → step_of fixups k ≡ 0
unfolding step_of
step_of-last fixups k end = let no_more : nat_lt (k + 1) (length fixups) ≡ false = grind (arith, nat_tests) in rw no_more refl

-- a page start is that of a fixup
pub record HasFirst (fixups : List Fixup) (number : ℕ) (d : Fixup) : Type 0 where
  pub k : ℕ
  pub within : k < length fixups
  pub on : (get_or fixups k d).address / SEGMENT_PAGE ≡ number
  pub at : (get_or fixups k d).address % SEGMENT_PAGE ≡ start_of fixups number

pub start_of-found : (fixups : List Fixup) (number : ℕ) (d : Fixup) → start_of fixups number ≢ NO_START → HasFirst fixups number d
unfolding start_of
start_of-found [] number d some = absurd (some refl)
start_of-found (f ∷ fixups) number d some =
    elim (f.address / SEGMENT_PAGE == number)
    as (λ b. (f.address / SEGMENT_PAGE == number) ≡ b
    → (if b then f.address % SEGMENT_PAGE else start_of fixups number) ≢ NO_START → HasFirst (f ∷ fixups) number d) [
      | true ↦ λ yes _. record { k = 0; within = omega arith; on = grind (arith, nat_tests); at = rw yes refl }
      | false ↦ λ other there.
          let rest = start_of-found fixups number d there in
          record { k = suc rest.k; within = omega (arith, rest.within); on = rest.on; at = rw other rest.at }
    ] refl some

-- a segment as chains see it is that of a segment
abbrev pub IsSeen : List FixupSegment → List Fixup → ChainSegment → Type 0
IsSeen segments fixups g = (s : FixupSegment) × Contains segments s × (g ≡ chain_seen fixups s)

pub seen_of : (segments : List FixupSegment) (fixups : List Fixup) (g : ChainSegment) → Contains (map (chain_seen fixups) segments) g
    → IsSeen segments fixups g
seen_of segments fixups g one =
    All-contains (IsSeen segments fixups) (map (chain_seen fixups) segments) g
    (λ k d lt.
    let within : k < length segments = omega (arith, length-map segments (chain_seen fixups)) in (
      get_or segments k no_segment,
      All-contains_itself segments k no_segment within,
      get_or-map (chain_seen fixups) segments k no_segment d within,
    )) one

pub is_seen : (segments : List FixupSegment) (fixups : List Fixup) (s : FixupSegment) → Contains segments s
    → Contains (map (chain_seen fixups) segments) (chain_seen fixups s)
is_seen segments fixups s one =
    let n = number_of segments s one in
    let within : n.number < length (map (chain_seen fixups) segments) = omega (arith, n.within, length-map segments (chain_seen fixups)) in
    subst (λ (g : ChainSegment). Contains (map (chain_seen fixups) segments) g)
    (get_or-map (chain_seen fixups) segments n.number no_segment (chain_seen fixups s) n.within ∙ ap (chain_seen fixups) (n.is no_segment))
    (All-contains_itself (map (chain_seen fixups) segments) n.number (chain_seen fixups s) within)

-- the place of an address that a segment holds
pub place_in : (segments : List FixupSegment) (s : FixupSegment) (a : ℕ) → AreSegments segments → Contains segments s → Holds s a
    → place_of segments a ≡ s.file_offset + (a - s.address)
place_in segments s a order one holds =
    let n = number_of segments s one in
    place_of-at segments a n.number no_segment (numbered segments s a order n holds)
    ∙ ap (λ (t : FixupSegment). t.file_offset + (a - t.address)) (n.is no_segment)

-- the word that stands at a fixup
standing : (segments : List FixupSegment) (fixups : List Fixup) (b : List ℕ) (k : ℕ) (d : Fixup) → AreWords fixups
    → AllStand segments fixups b
    → k < length fixups
    → le_at POINTER_SIZE b (place_of segments (get_or fixups k d).address) ≡ word_of (get_or fixups k d).kind (step_of fixups k)
standing segments fixups b k d words stand lt =
    number-stands little little_is_sound POINTER_SIZE (word_of (get_or fixups k d).kind (step_of fixups k)) b
    (place_of segments (get_or fixups k d).address) (words k d lt).fits (stand.each k d lt)

-- a file's word at a fixup is that of the run
pub word_is : (segments : List FixupSegment) (fixups : List Fixup) (b : List ℕ) (k word : ℕ) (d : Fixup) → AreSegments segments
    → AreWords fixups
    → AllStand segments fixups b → k < length fixups → IsFileWord (map (chain_seen fixups) segments) b (get_or fixups k d).address word
    → word ≡ word_of (get_or fixups k d).kind (step_of fixups k)
word_is segments fixups b k word d order words stand lt w =
    let seen = seen_of segments fixups w.segment w.one in
    let address : w.segment.address ≡ seen.0.address = ap (λ (g : ChainSegment). g.address) seen.2 in
    let size : w.segment.file_size ≡ seen.0.file_size = ap (λ (g : ChainSegment). g.file_size) seen.2 in
    let place : w.segment.file_offset + ((get_or fixups k d).address - w.segment.address) ≡ place_of segments (get_or fixups k d).address =
    ap (λ (g : ChainSegment). g.file_offset + ((get_or fixups k d).address - g.address)) seen.2
    ∙ sym (place_in segments seen.0 (get_or fixups k d).address order seen.1 (
      omega (arith, w.from, address),
      omega
          (arith, w.to, address, size),
    )) in
    w.is ∙ ap (λ (p : ℕ). le_at POINTER_SIZE b p) place ∙ standing segments fixups b k d words stand lt

-- and it stands there
word_there : (segments : List FixupSegment) (fixups : List Fixup) (b : List ℕ) (k : ℕ) (d : Fixup) → AreFixups segments fixups
    → AreSegments segments
    → AreWords fixups → AllStand segments fixups b → k < length fixups
    → IsFileWord (map (chain_seen fixups) segments) b (get_or fixups k d).address (word_of (get_or fixups k d).kind (step_of fixups k))
word_there segments fixups b k d run order words stand lt =
    let one = run.in_segment k d lt in
    record {
      segment = chain_seen fixups one.0;
      one = is_seen segments fixups one.0 one.1;
      from = one.2.0;
      to = one.2.1;
      is = sym (ap (λ (p : ℕ). le_at POINTER_SIZE b p) (sym (place_in segments one.0 (get_or fixups k d).address order one.1 one.2))
          ∙ standing segments fixups b k d words stand lt);
    }

-- steps on one page lead exactly to the next address
exact : (a b steps : ℕ) → a ≤ b → a % STRIDE ≡ 0 → b % STRIDE ≡ 0 → 1 ≤ steps → steps ≡ step_between a b → a + STRIDE * steps ≡ b
exact a b steps le four_a four_b some is =
    elim (a / SEGMENT_PAGE == b / SEGMENT_PAGE) as (λ t. steps ≡ (if t then (b - a) / STRIDE else 0) → a + STRIDE * steps ≡ b) [
      | true ↦ λ e. omega (arith, e, le, four_a, four_b)
      | false ↦ λ e. absurd (omega (arith, e, some))
    ] is

-- where a word leads on, the next fixup is there
pub leads : (fixups : List Fixup) (k : ℕ) (d : Fixup) (segments : List FixupSegment) → AreFixups segments fixups → k < length fixups
    → 1 ≤ step_of fixups k
    → (k + 1 < length fixups) × ((get_or fixups k d).address + STRIDE * step_of fixups k ≡ (get_or fixups (k + 1) d).address)
leads fixups k d segments run lt some =
    elim (cases_lt (k + 1) (length fixups)) [
      | inr last ↦ absurd (omega (arith, some, step_of-last fixups k last))
      | inl more ↦ (
        more,
        exact (get_or fixups k d).address (get_or fixups (k + 1) d).address (step_of fixups k)
            (omega (arith, run.sorted k (k + 1) d (omega arith) more)) (run.steps k d lt) (run.steps (k + 1) d more) some
            (step_of-next fixups k d more),
      )
    ]

-- an address with the number of its fixup
pub record IsNumbered (fixups : List Fixup) (a : ℕ) (d : Fixup) : Type 0 where
  pub k : ℕ
  pub within : k < length fixups
  pub is : (get_or fixups k d).address ≡ a

-- page number by the segment's
pub page_address : (s start number page a : ℕ) → s % SEGMENT_PAGE ≡ 0 → number ≡ s / SEGMENT_PAGE + page → a / SEGMENT_PAGE ≡ number
    → a % SEGMENT_PAGE ≡ start
    → a ≡ s + SEGMENT_PAGE * page + start
page_address s start number page a whole is on at = omega (arith, whole, is, on, at)

-- a page's start among the starts of its segment
pub start_in : (fixups : List Fixup) (s : FixupSegment) (page : ℕ) → page < pages_of s fixups
    → slice_index (starts_in fixups s) page ≡ start_of fixups (s.address / SEGMENT_PAGE + page)
start_in fixups s page lt =
    get_or-map (λ (p : ℕ). start_of fixups (s.address / SEGMENT_PAGE + p)) (range_with_len 0 (pages_of s fixups)) page 0 0
    (omega (arith, length-range_with_len 0 (pages_of s fixups)))
    ∙ ap (λ (p : ℕ). start_of fixups (s.address / SEGMENT_PAGE + p)) (get_or-range_with_len 0 (pages_of s fixups) page 0 lt ∙ omega arith)

pub starts_long : (fixups : List Fixup) (s : FixupSegment) → length (starts_in fixups s) ≡ pages_of s fixups
starts_long fixups s =
    length-map (range_with_len 0 (pages_of s fixups)) (λ (p : ℕ). start_of fixups (s.address / SEGMENT_PAGE + p))
    ∙ length-range_with_len 0 (pages_of s fixups)

-- all of the chain are fixups
pub only : (segments : List FixupSegment) (fixups : List Fixup) (b : List ℕ) (d : Fixup) → AreFixups segments fixups → AreSegments segments
    → AreWords fixups → AllStand segments fixups b → (a : ℕ) → OnChain (map (chain_seen fixups) segments) b a → IsNumbered fixups a d
only segments fixups b d run order words stand _ (chain.OnChain.first g page one within some) =
    let seen = seen_of segments fixups g one in
    subst (λ (h : ChainSegment). page < length h.starts → slice_index h.starts page ≢ NO_START
    → IsNumbered fixups (h.address + SEGMENT_PAGE * page + slice_index h.starts page) d) (sym seen.2) (at_start seen.0 seen.1) within some
  where
    at_start : (s : FixupSegment) → Contains segments s → page < length (starts_in fixups s)
        → slice_index (starts_in fixups s) page ≢ NO_START
        → IsNumbered fixups (s.address + SEGMENT_PAGE * page + slice_index (starts_in fixups s) page) d
    at_start s one lt start =
        let here = start_in fixups s page (omega (arith, lt, starts_long fixups s)) in
        let found = start_of-found fixups (s.address / SEGMENT_PAGE + page) d (λ e. start (here ∙ e)) in
        record {
          k = found.k;
          within = found.within;
          is = page_address s.address (slice_index (starts_in fixups s) page) (s.address / SEGMENT_PAGE + page) page
              (get_or fixups found.k d).address
              (All-contains (λ (t : FixupSegment). t.address % SEGMENT_PAGE ≡ 0) segments s order.paged one) refl found.on
              (found.at ∙ sym here);
        }
only segments fixups b d run order words stand _ (chain.OnChain.next a word on stands goes) =
    let before = only segments fixups b d run order words stand a on in
    let same = word_is segments fixups b before.k word d order words stand before.within
    (subst (λ (x : ℕ). IsFileWord (map (chain_seen fixups) segments) b x word) (sym before.is) stands) in
    let steps : next_of word ≡ step_of fixups before.k = ap (λ (w : ℕ). next_of w) same ∙ (words before.k d before.within).leads in
    let next = leads fixups before.k d segments run before.within (omega (arith, goes, steps)) in
    record { k = before.k + 1; within = next.0; is = omega (arith, next.1, before.is, steps) }

-- the first fixup of a page is at the page's start
first_on : (segments : List FixupSegment) (fixups : List Fixup) (b : List ℕ) (k : ℕ) (d : Fixup) → AreFixups segments fixups
    → AreSegments segments
    → k < length fixups → ((j : ℕ) (e : Fixup) → j < k → (get_or fixups j e).address / SEGMENT_PAGE < (get_or fixups k d).address /
    SEGMENT_PAGE)
    → OnChain (map (chain_seen fixups) segments) b (get_or fixups k d).address
first_on segments fixups b k d run order lt before =
    let one = run.in_segment k d lt in at_page one.0 one.1 one.2
  where
    a : ℕ
    a = (get_or fixups k d).address

    at_page : (s : FixupSegment) → Contains segments s → Holds s a → OnChain (map (chain_seen fixups) segments) b a
    at_page s one holds =
        let page : ℕ = a / SEGMENT_PAGE - s.address / SEGMENT_PAGE in
        let whole : s.address % SEGMENT_PAGE ≡ 0 = All-contains (λ (t : FixupSegment). t.address % SEGMENT_PAGE ≡ 0) segments s order.paged
        one in
        let counted = pages_with-in s (get_or fixups k d) holds.0 (omega (arith, holds.1)) in
        let few : page < pages_of s fixups = omega (arith, counted, pages_of-above s fixups k d lt) in
        let number : s.address / SEGMENT_PAGE + page ≡ a / SEGMENT_PAGE = omega (arith, holds.0) in
        let start : slice_index (starts_in fixups s) page ≡ a % SEGMENT_PAGE =
        start_in fixups s page few ∙ ap (start_of fixups) number ∙ start_of-here fixups (a / SEGMENT_PAGE) k d lt before refl in
        let some : slice_index (starts_in fixups s) page ≢ NO_START = λ e. absurd (omega (arith, e, start)) in
        let place : s.address + SEGMENT_PAGE * page + slice_index (starts_in fixups s) page ≡ a = omega (arith, start, whole, number) in
        subst (λ (x : ℕ). OnChain (map (chain_seen fixups) segments) b x) place
        (chain.OnChain.first (chain_seen fixups s) page (is_seen segments fixups s one) (omega (arith, few, starts_long fixups s)) some)

-- all fixups are on the chain
pub found : (segments : List FixupSegment) (fixups : List Fixup) (b : List ℕ) (d : Fixup) → AreFixups segments fixups → AreSegments segments
    → AreWords fixups → AllStand segments fixups b → (k : ℕ) → k < length fixups
    → OnChain (map (chain_seen fixups) segments) b (get_or fixups k d).address
found segments fixups b d run order words stand zero lt =
    first_on segments fixups b 0 d run order lt (λ j e none. absurd (omega arith))
found segments fixups b d run order words stand (suc k) lt =
    elim (cases_lt ((get_or fixups k d).address / SEGMENT_PAGE) ((get_or fixups (suc k) d).address / SEGMENT_PAGE)) [
      | inl lower ↦ first_on segments fixups b (suc k) d run order lt (λ j e early. earlier j e early lower)
      | inr same ↦ led (found segments fixups b d run order words stand k (omega arith)) (omega (arith, same, ordered))
    ]
  where
    ordered : (get_or fixups k d).address + POINTER_SIZE ≤ (get_or fixups (suc k) d).address
    ordered = run.sorted k (suc k) d (omega arith) lt

    earlier : (j : ℕ) (e : Fixup) → j < suc k → (get_or fixups k d).address / SEGMENT_PAGE <
        (get_or fixups (suc k) d).address / SEGMENT_PAGE
        → (get_or fixups j e).address / SEGMENT_PAGE < (get_or fixups (suc k) d).address / SEGMENT_PAGE
    earlier j e early lower = elim (cases_lt j k) [
      | inl less ↦
          let own : (get_or fixups k e).address ≡ (get_or fixups k d).address =
          ap (λ (f : Fixup). f.address) (get_or_default fixups k e d (omega arith)) in
          omega (arith, run.sorted j k e less (omega arith), own, lower)
      | inr at ↦
          let own : (get_or fixups j e).address ≡ (get_or fixups k d).address =
          ap (λ (n : ℕ). (get_or fixups n e).address) (omega arith) ∙ ap (λ (f : Fixup). f.address)
          (get_or_default fixups k e d (omega arith)) in
          omega (arith, own, lower)
    ]

    led : OnChain (map (chain_seen fixups) segments) b (get_or fixups k d).address
        → (get_or fixups k d).address / SEGMENT_PAGE ≡ (get_or fixups (suc k) d).address / SEGMENT_PAGE
        → OnChain (map (chain_seen fixups) segments) b (get_or fixups (suc k) d).address
    led on same =
        let within : k < length fixups = omega arith in
        let next : k + 1 ≡ suc k = omega arith in
        let more : k + 1 < length fixups = omega arith in
        let yes : ((get_or fixups k d).address / SEGMENT_PAGE == (get_or fixups (suc k) d).address / SEGMENT_PAGE) ≡ true = grind
        (arith, nat_tests) in
        let steps : step_of fixups k ≡ ((get_or fixups (suc k) d).address - (get_or fixups k d).address) / STRIDE =
        step_of-next fixups k d more ∙ ap (λ (n : ℕ). step_between (get_or fixups k d).address (get_or fixups n d).address) next
        ∙ rw yes refl in
        let word : ℕ = word_of (get_or fixups k d).kind (step_of fixups k) in
        let goes : next_of word ≡ step_of fixups k = (words k d within).leads in
        let some : 1 ≤ step_of fixups k = omega (arith, steps, ordered) in
        let there = leads fixups k d segments run within some in
        let last : (get_or fixups (k + 1) d).address ≡ (get_or fixups (suc k) d).address = ap (λ (n : ℕ). (get_or fixups n d).address)
        next in
        let place : (get_or fixups k d).address + STRIDE * next_of word ≡ (get_or fixups (suc k) d).address = omega
        (arith, there.1, goes, last) in
        subst (λ (x : ℕ). OnChain (map (chain_seen fixups) segments) b x) place
        (chain.OnChain.next (get_or fixups k d).address word on
        (word_there segments fixups b k d run order words stand within) (omega (arith, goes, some)))

-- the steps of a fixup are those to the next one of its page
pub steps_lead : (segments : List FixupSegment) (fixups : List Fixup) (k : ℕ) (d : Fixup) → AreFixups segments fixups → k < length fixups
    → IsStepOf fixups k d (step_of fixups k)
steps_lead segments fixups k d run lt = record {
  next = λ some. leads fixups k d segments run lt some;
  page = λ some. same_page (leads fixups k d segments run lt some).0 some;
  last = λ none more. other_page more none;
}
  where
    between : k + 1 < length fixups → step_of fixups k ≡ step_between (get_or fixups k d).address (get_or fixups (k + 1) d).address
    between more = step_of-next fixups k d more

    other : k + 1 < length fixups → ((get_or fixups k d).address / SEGMENT_PAGE ≡ (get_or fixups (k + 1) d).address / SEGMENT_PAGE → ⊥)
        → step_of fixups k ≡ 0
    other more apart =
        let no : ((get_or fixups k d).address / SEGMENT_PAGE == (get_or fixups (k + 1) d).address / SEGMENT_PAGE) ≡ false = grind
        (arith, nat_tests) in
        between more ∙ rw no refl

    same_page : k + 1 < length fixups → 1 ≤ step_of fixups k → (get_or fixups (k + 1) d).address / SEGMENT_PAGE ≡
        (get_or fixups k d).address / SEGMENT_PAGE
    same_page more some = elim (cases_lt ((get_or fixups k d).address / SEGMENT_PAGE) ((get_or fixups (k + 1) d).address / SEGMENT_PAGE)) [
      | inl less ↦ absurd (omega (arith, some, other more (λ e. omega (arith, e, less))))
      | inr high ↦ omega (arith, high, run.sorted k (k + 1) d (omega arith) more)
    ]

    other_page : k + 1 < length fixups → step_of fixups k ≡ 0 → (get_or fixups k d).address / SEGMENT_PAGE <
        (get_or fixups (k + 1) d).address / SEGMENT_PAGE
    other_page more none = elim (cases_lt ((get_or fixups k d).address / SEGMENT_PAGE) ((get_or fixups (k + 1) d).address / SEGMENT_PAGE)) [
      | inl less ↦ less
      | inr high ↦
          let ordered = run.sorted k (k + 1) d (omega arith) more in
          let yes : ((get_or fixups k d).address / SEGMENT_PAGE == (get_or fixups (k + 1) d).address / SEGMENT_PAGE) ≡ true =
          (let same : (get_or fixups k d).address / SEGMENT_PAGE ≡ (get_or fixups (k + 1) d).address / SEGMENT_PAGE = omega
          (arith, high, ordered) in
          grind (arith, nat_tests)) in
          let steps : step_of fixups k ≡ ((get_or fixups (k + 1) d).address - (get_or fixups k d).address) / STRIDE = between more
          ∙ rw yes refl in
          absurd (omega (arith, steps, none, ordered))
    ]
