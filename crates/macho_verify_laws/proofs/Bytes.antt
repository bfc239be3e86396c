-- A byte that no chain word has is decided by the segments.
--
-- If the segments have it, memory holds it at every slide and for all addresses of imports. If they don't, one load shows it: slide 0, by
-- which no segment passes 2 ^ 64, since none ends behind it; and any choice, as that of 0 for all imports. A byte that memory held there
-- would be that of a chain word, and none is there, or the segments' own.
use Rattle.std.proofs.Common.{◌≡◌, ℕ, ◌+◌, ◌^◌, ◌<◌, ◌≤◌, nat_le, not, true, List, refl, subst, arith, inl, inr, All}
use Rattle.std.specs.Prelude.{filter}
use Rattle.std.proofs.lemmas.Bool.{leb-true}
use Rattle.macho_bytes.proofs.Members.{all_contains, contains_all, filter_contains}
use Rattle.macho_records.specs.declared.header.SegmentCommand.{SegmentCommand}
use Rattle.macho_model.specs.Links.{Link}
use Rattle.macho_model.specs.Segments.{PAGEZERO}
use Rattle.macho_model.specs.Images.{segments_of, mapped_segments, is_named}
use Rattle.macho_model.specs.Loader.{IsAccepted}
use Rattle.macho_model.specs.Memory.{Choice, Covers, IsSegmentByte, Holds}
use Rattle.macho_model.specs.HeldLaws.{IsFree}
use Rattle.macho_model.proofs.ChainMemory.{unfixed_byte_is_held}
use Rattle.macho_verify_laws.specs.Loads.{IsLoad}
use Rattle.macho_verify_laws.specs.Laws.{BytesDecide}
use Rattle.macho_verify_laws.proofs.Choices.{choices_exist}

-- no mapped segment passes the end of the address space at slide 0
pub fits_unmoved : (b : List ℕ) → IsAccepted b → All (λ (t : SegmentCommand). t.vmaddr + t.vmsize + 0 ≤ 2 ^ 64) (mapped_segments b)
unfolding mapped_segments
fits_unmoved b accepted =
    contains_all (λ (t : SegmentCommand). t.vmaddr + t.vmsize + 0 ≤ 2 ^ 64) (filter (λ s. not (is_named PAGEZERO s)) (segments_of b))
    (λ t there.
    let one = filter_contains (λ s. not (is_named PAGEZERO s)) (segments_of b) t there in
    let ends = leb-true (t.vmaddr + t.vmsize) (2 ^ 64)
    (all_contains (λ (s : SegmentCommand). nat_le (s.vmaddr + s.vmsize) (2 ^ 64) ≡ true) (segments_of b) t accepted.l6.0 one.0) in
    omega (arith, ends))

-- a load at slide 0, for the addresses of a choice
pub unmoved : (l : Link) (b : List ℕ) (f : List ℕ → List ℕ → ℕ) → ((library name : List ℕ) → f library name < 2 ^ 64) → IsAccepted b
    → (choice : Choice) × IsLoad l b 0 choice
unmoved l b f small accepted =
    let c = choices_exist l b f small in
    (c.0, record { pages = refl; fits = fits_unmoved b accepted; image = c.1; link = c.2 })

no_word : (b : List ℕ) (a : ℕ) → IsFree b a 1 → (word_at : ℕ) → Covers b word_at a → ⊥
no_word b a free word_at covers =
    let here : a ≡ a + 0 = omega arith in
    free 0 (omega arith) word_at (subst (λ (x : ℕ). Covers b word_at x) here covers)

-- what is held there is the segments' own
pub held_by_segment : (b : List ℕ) (s : ℕ) (choice : Choice) (a v : ℕ) → ((word_at : ℕ) → Covers b word_at a → ⊥)
    → Holds b s choice (a + s) v
    → IsSegmentByte b a v
held_by_segment b s choice a v none held =
    let slid = held.slid in
    let here : held.a ≡ a = omega (arith, slid) in
    elim held.byte [
      | inl chained ↦ absurd (none chained.word_at (subst (λ (x : ℕ). Covers b chained.word_at x) here chained.covers))
      | inr plain ↦ subst (λ (x : ℕ). IsSegmentByte b x v) here plain.1
    ]

-- THE decision.
pub bytes_decide : BytesDecide
bytes_decide l b a v accepted free =
    let none = no_word b a free in (
      λ byte s choice load. unfixed_byte_is_held b s choice a v none byte,
      λ other.
          let load = unmoved l b (λ library name. 0) (λ library name. omega arith) accepted in
          record {
            s = 0;
            choice = load.0;
            load = load.1;
            not_so = λ held. other (held_by_segment b 0 load.0 a v none held);
          },
    )
