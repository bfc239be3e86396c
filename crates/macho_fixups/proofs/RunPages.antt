-- The chain of a page is in that page, and in the segment whose page start leads to it; and the chain of all is the run.
--
-- A page start is that of the page's first fixup, and a word leads to the next fixup of its page: so each word of a
-- page's chain is that of a fixup of the page. Some fixup of the segment stands on that page or behind it, so a segment
-- behind this one begins at a later page, and one in front of it ends in front of the page. So the fixup, which some
-- segment holds, is held by this one.
use Rattle.std.proofs.Common.{◌≡◌, ℕ, ◌+◌, ◌/◌, ◌%◌, ◌<◌, ◌≤◌, List, [], ◌∷◌, length, map, get_or, slice_index, arith, refl, sym, ap, subst, ◌∙◌, inl, inr}
use Rattle.std.specs.Prelude.{Contains}
use Rattle.std.proofs.lemmas.Bool.{cases_lt}
use Rattle.std.proofs.lemmas.List.Elements.{All-contains, All-contains_itself}
use Rattle.macho_model.specs.Segments.{SEGMENT_PAGE}
use Rattle.macho_model.specs.Chain.{ChainSegment, OnChain, OnPageChain, IsFileWord, next_of}
use Rattle.macho_model.specs.Needs.{POINTER_SIZE}
use Rattle.macho_model.specs.Chain as chain
use Rattle.macho_fixups.specs.declared.words.FixupKind.TheVariants.{Rebase}
use Rattle.macho_fixups.specs.declared.run.Fixup.{Fixup}
use Rattle.macho_fixups.specs.declared.run.FixupSegment.{FixupSegment}
use Rattle.macho_fixups.specs.Words.{IsWordOf}
use Rattle.macho_fixups.specs.Runs.{AreFixups, AreSegments, Holds, pages_of}
use Rattle.macho_fixups.specs.steps.Runs.{pages_with}
use Rattle.macho_fixups.specs.Chains.{starts_in, chain_seen, step_of, AllStand, IsPageWord, IsStepOf, ChainIsRun}
use Rattle.macho_fixups.proofs.Cuts.{pages_with-in, pages_with-out}
use Rattle.macho_fixups.proofs.SegmentWrites.{no_segment}
use Rattle.macho_fixups.proofs.Places.{HasNumber, number_of}
use Rattle.macho_fixups.proofs.RunChain.{AreWords, seen_of, start_in, starts_long, start_of-found, word_is, leads, steps_lead, page_address, only, found}

-- a fixup of a segment on a page or behind it
record IsFarOn (s : FixupSegment) (fixups : List Fixup) (page : ℕ) : Type 0 where
  pub f : Fixup
  pub low : s.address ≤ f.address
  pub high : f.address < s.address + s.file_size
  pub far : s.address / SEGMENT_PAGE + page ≤ f.address / SEGMENT_PAGE

-- one that counts more pages
counts : (s : FixupSegment) (fixups : List Fixup) (f : Fixup) (page : ℕ) → page < pages_with s f → IsFarOn s fixups page
counts s fixups f page lt =
    elim (cases_lt f.address s.address) [
      | inl low ↦ absurd (omega (arith, lt, pages_with-out s f (inl low)))
      | inr from ↦ elim (cases_lt f.address (s.address + s.file_size)) [
        | inr past ↦ absurd (omega (arith, lt, pages_with-out s f (inr past)))
        | inl below ↦ record { f = f; low = from; high = below; far = omega (arith, lt, pages_with-in s f from below, from) }
      ]
    ]

far_on : (s : FixupSegment) (fixups : List Fixup) (page : ℕ) → page < pages_of s fixups → IsFarOn s fixups page
unfolding pages_of
far_on s [] page lt = absurd (omega arith)
far_on s (f ∷ fixups) page lt =
    elim (cases_lt page (pages_with s f)) [
      | inl here ↦ counts s (f ∷ fixups) f page here
      | inr past ↦
          let rest = far_on s fixups page (omega (arith, lt, past)) in
          record { f = rest.f; low = rest.low; high = rest.high; far = rest.far }
    ]

-- a fixup on a page that counts is held by the segment of the page
held_by : (segments : List FixupSegment) (fixups : List Fixup) (s : FixupSegment) (page : ℕ) (f : Fixup) → AreSegments segments
    → Contains segments s → ((t : FixupSegment) × Contains segments t × Holds t f.address) → page < pages_of s fixups
    → f.address / SEGMENT_PAGE ≡ s.address / SEGMENT_PAGE + page → f.address + POINTER_SIZE ≤ s.address + s.file_size
held_by segments fixups s page f order one held few on =
    elim (cases_lt m.number n.number) [
      | inl before ↦ absurd (omega (
        arith,
        order.in_order m.number n.number no_segment before n.within,
        order.sizes m.number no_segment m.within,
        address_m,
        size_m,
        file_m,
        address_n,
        held.2.1,
        held.2.0,
        on,
        All-contains (λ (t : FixupSegment). t.address % SEGMENT_PAGE ≡ 0) segments s order.paged one,
      ))
      | inr from ↦ elim (cases_lt n.number m.number) [
        | inl after ↦ absurd (omega (
          arith,
          order.in_order n.number m.number no_segment after m.within,
          order.sizes n.number no_segment n.within,
          address_n,
          size_n,
          file_n,
          address_m,
          far.far,
          far.high,
          held.2.0,
          on,
          All-contains (λ (t : FixupSegment). t.address % SEGMENT_PAGE ≡ 0) segments held.0 order.paged held.1,
        ))
        | inr same ↦
            let at : m.number ≡ n.number = omega arith in
            let is : held.0 ≡ s = sym (m.is no_segment) ∙ ap (λ (k : ℕ). get_or segments k no_segment) at ∙ n.is no_segment in
            subst (λ (t : FixupSegment). f.address + POINTER_SIZE ≤ t.address + t.file_size) is held.2.1
      ]
    ]
  where
    n : HasNumber segments s
    n = number_of segments s one

    m : HasNumber segments held.0
    m = number_of segments held.0 held.1

    far : IsFarOn s fixups page
    far = far_on s fixups page few

    address_n : (get_or segments n.number no_segment).address ≡ s.address
    address_n = ap (λ (t : FixupSegment). t.address) (n.is no_segment)

    size_n : (get_or segments n.number no_segment).size ≡ s.size
    size_n = ap (λ (t : FixupSegment). t.size) (n.is no_segment)

    file_n : (get_or segments n.number no_segment).file_size ≡ s.file_size
    file_n = ap (λ (t : FixupSegment). t.file_size) (n.is no_segment)

    address_m : (get_or segments m.number no_segment).address ≡ held.0.address
    address_m = ap (λ (t : FixupSegment). t.address) (m.is no_segment)

    size_m : (get_or segments m.number no_segment).size ≡ held.0.size
    size_m = ap (λ (t : FixupSegment). t.size) (m.is no_segment)

    file_m : (get_or segments m.number no_segment).file_size ≡ held.0.file_size
    file_m = ap (λ (t : FixupSegment). t.file_size) (m.is no_segment)

-- an address with the number of its fixup, which stands on a page that counts
record IsOnPage (s : FixupSegment) (fixups : List Fixup) (page a : ℕ) (d : Fixup) : Type 0 where
  pub k : ℕ
  pub within : k < length fixups
  pub is : (get_or fixups k d).address ≡ a
  pub on : (get_or fixups k d).address / SEGMENT_PAGE ≡ s.address / SEGMENT_PAGE + page
  pub few : page < pages_of s fixups

-- all of a page's chain are fixups of the page
only_page : (segments : List FixupSegment) (fixups : List Fixup) (b : List ℕ) (d : Fixup) → AreFixups segments fixups → AreSegments segments
    → AreWords fixups → AllStand segments fixups b → (s : FixupSegment) (page : ℕ) → Contains segments s
    → (a : ℕ) → OnPageChain (map (chain_seen fixups) segments) b (chain_seen fixups s) page a → IsOnPage s fixups page a d
only_page segments fixups b d run order words stand s page one _ (chain.OnPageChain.first within some) =
    let few : page < pages_of s fixups = omega (arith, within, starts_long fixups s) in
    let here = start_in fixups s page few in
    let first = start_of-found fixups (s.address / SEGMENT_PAGE + page) d (λ e. some (here ∙ e)) in
    record {
      k = first.k;
      within = first.within;
      is = page_address s.address (slice_index (starts_in fixups s) page) (s.address / SEGMENT_PAGE + page) page
          (get_or fixups first.k d).address
          (All-contains (λ (t : FixupSegment). t.address % SEGMENT_PAGE ≡ 0) segments s order.paged one) refl first.on
          (first.at ∙ sym here);
      on = first.on;
      few = few;
    }
only_page segments fixups b d run order words stand s page one _ (chain.OnPageChain.next a word on stands goes) =
    let before = only_page segments fixups b d run order words stand s page one a on in
    let same = word_is segments fixups b before.k word d order words stand before.within
    (subst (λ (x : ℕ). IsFileWord (map (chain_seen fixups) segments) b x word) (sym before.is) stands) in
    let steps : next_of word ≡ step_of fixups before.k = ap (λ (w : ℕ). next_of w) same ∙ (words before.k d before.within).leads in
    let next = leads fixups before.k d segments run before.within (omega (arith, goes, steps)) in
    record {
      k = before.k + 1;
      within = next.0;
      is = omega (arith, next.1, before.is, steps);
      on = (steps_lead segments fixups before.k d run before.within).page (omega (arith, goes, steps)) ∙ before.on;
      few = before.few;
    }

-- a word of a page's chain
page_word : (segments : List FixupSegment) (fixups : List Fixup) (b : List ℕ) (g : ChainSegment) (page a : ℕ) (d : Fixup)
    → AreFixups segments fixups
    → AreSegments segments → AreWords fixups → AllStand segments fixups b → Contains (map (chain_seen fixups) segments) g
    → OnPageChain (map (chain_seen fixups) segments) b g page a → IsPageWord fixups g page a
page_word segments fixups b g page a d run order words stand one on =
    let seen = seen_of segments fixups g one in
    subst (λ (h : ChainSegment). IsPageWord fixups h page a) (sym seen.2)
    (of_segment seen.0 seen.1 (subst (λ (h : ChainSegment). OnPageChain (map (chain_seen fixups) segments) b h page a) seen.2 on))
  where
    of_segment : (s : FixupSegment) → Contains segments s → OnPageChain (map (chain_seen fixups) segments) b (chain_seen fixups s) page a
        → IsPageWord fixups (chain_seen fixups s) page a
    of_segment s one on =
        let here = only_page segments fixups b d run order words stand s page one a on in
        let whole : s.address % SEGMENT_PAGE ≡ 0 = All-contains (λ (t : FixupSegment). t.address % SEGMENT_PAGE ≡ 0) segments s order.paged
        one in
        let in_page = run.in_page here.k d here.within in
        record {
          one = (get_or fixups here.k d, All-contains_itself fixups here.k d here.within, here.is);
          page_from = omega (arith, here.is, here.on, whole);
          page_to = omega (arith, here.is, here.on, whole, in_page);
          inside = omega (
            arith,
            here.is,
            held_by segments fixups s page (get_or fixups here.k d) order one (run.in_segment here.k d here.within) here.few here.on,
          );
        }

-- THE chain is the run.
pub chain_is_run : (segments : List FixupSegment) (fixups : List Fixup) → AreFixups segments fixups → AreSegments segments → AreWords fixups
    → ChainIsRun segments fixups
chain_is_run segments fixups run order words =
    record {
      set = λ b a stand. (
        λ on. let k = only segments fixups b no_fixup run order words stand a on in
            (get_or fixups k.k no_fixup, All-contains_itself fixups k.k no_fixup k.within, k.is),
        λ one. back b a stand one.0 one.1 one.2,
      );
      says = λ b k word d stand lt w.
          subst (λ (v : ℕ). IsWordOf (get_or fixups k d).kind (step_of fixups k) v)
          (sym (word_is segments fixups b k word d order words stand lt w))
          (words k d lt);
      onward = λ b k word d stand lt w.
          let goes : step_of fixups k ≡ next_of word =
          sym (ap (λ (v : ℕ). next_of v) (word_is segments fixups b k word d order words stand lt w) ∙ (words k d lt).leads) in
          subst (λ (n : ℕ). IsStepOf fixups k d n) goes (steps_lead segments fixups k d run lt);
      pages = λ b g page a stand one on. page_word segments fixups b g page a no_fixup run order words stand one on;
    }
  where
    no_fixup : Fixup
    no_fixup = record { address = 0; kind = Rebase 0 }

    back : (b : List ℕ) (a : ℕ) → AllStand segments fixups b → (f : Fixup) → Contains fixups f → f.address ≡ a
        → OnChain (map (chain_seen fixups) segments) b a
    back b a stand f one is =
        subst (λ (x : ℕ). OnChain (map (chain_seen fixups) segments) b x) is
        (All-contains (λ (g : Fixup). OnChain (map (chain_seen fixups) segments) b g.address) fixups f
        (λ k d lt. found segments fixups b d run order words stand k lt) one)
