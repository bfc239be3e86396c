-- The pass over the run: the words so far are written.
--
-- The next word is put at its place. Words before it stand apart from it, so they stand as before; the word itself
-- stands since it was put; and a byte outside all of them is outside the one just put, so it is as before too. The
-- segments that were passed end in front of this address, and so in front of every later one.
use Rattle.std.proofs.Common.{◌≡◌, ℕ, ◌+◌, ◌<◌, ◌≤◌, ◌⊎◌, nat_le, true, false, List, length, get_or, arith, refl, sym, ap, subst, ◌∙◌, inl, inr}
use Rattle.std.specs.Prelude.{slice_index}
use Rattle.std.proofs.lemmas.Bool.{cases_lt}
use Rattle.std.proofs.lemmas.Bool.Decides.{nat_tests}
use Rattle.std.proofs.lemmas.List.{get_or_default}
use Rattle.std.proofs.lemmas.List.Elements.{All-contains_itself}
use Rattle.macho_bytes.specs.Numbers.{le_bytes}
use Rattle.macho_bytes.specs.Texts.{put, Part, end_of, Stands, IsOutside}
use Rattle.macho_bytes.proofs.Numbers.{little_is_sound}
use Rattle.macho_bytes.proofs.Puts.{length-put, put_stands, stands_beside, get_or-put_below, get_or-put_above}
use Rattle.macho_model.specs.Needs.{POINTER_SIZE}
use Rattle.macho_fixups.specs.declared.run.Fixup.{Fixup}
use Rattle.macho_fixups.specs.declared.run.FixupSegment.{FixupSegment}
use Rattle.macho_fixups.specs.Words.{has_word, word_of, IsWordOf}
use Rattle.macho_fixups.specs.Runs.{AreFixups, AreSegments}
use Rattle.macho_fixups.specs.Chains.{place_of, step_of, word_part, AreWritten, HaveWords, HaveRoom}
use Rattle.macho_fixups.specs.steps.Chains.{IsSegmentOf, ArePassed}
use Rattle.macho_fixups.proofs.SegmentWrites.{no_segment}
use Rattle.macho_fixups.proofs.Places.{place_of-at, places_apart}

-- an address in front of a segment's end
pub ahead_of : (n a : ℕ) → nat_le n a ≡ false → a < n
ahead_of n a behind = grind (arith, nat_tests)

-- The words so far.
pub record WordsSoFar (segments : List FixupSegment) (fixups : List Fixup) (m i : ℕ) (before now : List ℕ) : Type 0 where
  pub written : AreWritten segments fixups i before now
  pub words : HaveWords fixups i
  pub passed : (k : ℕ) (d : Fixup) → i ≤ k → k < length fixups → ArePassed segments m (get_or fixups k d).address

-- there is room for the next word
pub word_room : (segments : List FixupSegment) (fixups : List Fixup) (d : Fixup) (i m n : ℕ) → i < length fixups
    → HaveRoom segments fixups n
    → IsSegmentOf segments (get_or fixups i d).address m → place_of segments (get_or fixups i d).address + POINTER_SIZE ≤ n
word_room segments fixups d i m n lt room one =
    let holds = one.holds no_segment in
    let inside = room m no_segment one.within (get_or fixups i d) (All-contains_itself fixups i d lt) holds in
    omega (arith, place_of-at segments (get_or fixups i d).address m no_segment one, holds.0, holds.1, inside)

-- one word more
pub word_goes_on : (segments : List FixupSegment) (fixups : List Fixup) (d : Fixup) (i old m place steps word : ℕ) (before out now : List ℕ)
    → i < length fixups → AreFixups segments fixups → AreSegments segments → HaveRoom segments fixups (length before)
    → WordsSoFar segments fixups old i before out → IsSegmentOf segments (get_or fixups i d).address m
    → place ≡ place_of segments (get_or fixups i d).address → has_word (get_or fixups i d).kind ≡ true
    → steps ≡ step_of fixups i → word ≡ word_of (get_or fixups i d).kind steps → IsWordOf (get_or fixups i d).kind steps word
    → now ≡ put place (le_bytes POINTER_SIZE word) out
    → WordsSoFar segments fixups m (i + 1) before now
word_goes_on segments fixups d i old m place steps word before out now lt run order room so_far one at has stepped as_steps as_said
    put_now =
    record {
      written = record { size = omega (arith, size, so_far.written.size); words = fields; each = each; outside = outside };
      words = record { each = words };
      passed = λ k e le within. record { each = λ j s below. omega (arith, one.passed j s below, later k e le within) };
    }
  where
    is : word ≡ word_of (get_or fixups i d).kind (step_of fixups i)
    is = as_steps ∙ ap (λ (n : ℕ). word_of (get_or fixups i d).kind n) stepped

    says : IsWordOf (get_or fixups i d).kind (step_of fixups i) word
    says = subst (λ (n : ℕ). IsWordOf (get_or fixups i d).kind n word) stepped as_said

    part : Part
    part = word_part segments fixups i (get_or fixups i d)

    long : length part.text ≡ POINTER_SIZE
    long = little_is_sound.long POINTER_SIZE (word_of (get_or fixups i d).kind (step_of fixups i))

    written : now ≡ put part.at part.text out
    written = put_now ∙ ap (λ (p : ℕ). put p (le_bytes POINTER_SIZE word) out) at
        ∙ ap (λ (w : ℕ). put part.at (le_bytes POINTER_SIZE w) out) is

    fits : part.at + length part.text ≤ length out
    fits = omega (arith, long, so_far.written.size, word_room segments fixups d i m (length before) lt room one)

    size : length now ≡ length out
    size = ap length written ∙ length-put part.at part.text out fits

    own : (e : Fixup) → (get_or fixups i e) ≡ (get_or fixups i d)
    own e = get_or_default fixups i e d lt

    later : (k : ℕ) (e : Fixup) → i + 1 ≤ k → k < length fixups → (get_or fixups i d).address ≤ (get_or fixups k e).address
    later k e le within = omega (arith, run.sorted i k e (omega arith) within, ap (λ (f : Fixup). f.address) (own e))

    words : (k : ℕ) (e : Fixup) → k < i + 1 → has_word (get_or fixups k e).kind ≡ true
    words k e less = elim (cases_lt k i) [
      | inl early ↦ so_far.words.each k e early
      | inr here ↦
          let same : k ≡ i = omega arith in
          ap (λ (j : ℕ). has_word (get_or fixups j e).kind) same ∙ ap (λ (f : Fixup). has_word f.kind) (own e) ∙ has
    ]

    fields : (k : ℕ) (e : Fixup) → k < i + 1
        → IsWordOf (get_or fixups k e).kind (step_of fixups k) (word_of (get_or fixups k e).kind (step_of fixups k))
    fields k e less = elim (cases_lt k i) [
      | inl early ↦ so_far.written.words k e early
      | inr here ↦
          let same : i ≡ k = omega arith in
          subst (λ (j : ℕ). IsWordOf (get_or fixups j e).kind (step_of fixups j) (word_of (get_or fixups j e).kind (step_of fixups j))) same
          (subst (λ (f : Fixup). IsWordOf f.kind (step_of fixups i) (word_of f.kind (step_of fixups i))) (sym (own e))
          (subst (λ (w : ℕ). IsWordOf (get_or fixups i d).kind (step_of fixups i) w) is says))
    ]

    apart : (k : ℕ) (e : Fixup) → k < i → (end_of (word_part segments fixups k (get_or fixups k e)) ≤ part.at)
        ⊎ (end_of part ≤ place_of segments (get_or fixups k e).address)
    apart k e early =
        let far : (get_or fixups k e).address + POINTER_SIZE ≤ (get_or fixups i d).address =
        omega (arith, run.sorted k i e early lt, ap (λ (f : Fixup). f.address) (own e)) in
        let size = little_is_sound.long POINTER_SIZE (word_of (get_or fixups k e).kind (step_of fixups k)) in
        elim (places_apart segments (get_or fixups k e).address (get_or fixups i d).address order (run.in_segment k e (omega arith))
        (run.in_segment i d lt) far) [
          | inl before ↦ inl (omega (arith, size, before))
          | inr after ↦ inr (omega (arith, long, after))
        ]

    each : (k : ℕ) (e : Fixup) → k < i + 1 → Stands now (word_part segments fixups k (get_or fixups k e))
    each k e less = elim (cases_lt k i) [
      | inl early ↦
          subst (λ (t : List ℕ). Stands t (word_part segments fixups k (get_or fixups k e))) (sym written)
          (stands_beside part.at part.text out (word_part segments fixups k (get_or fixups k e)) fits (so_far.written.each k e early)
          (apart k e early))
      | inr here ↦
          let same : i ≡ k = omega arith in
          subst (λ (j : ℕ). Stands now (word_part segments fixups j (get_or fixups j e))) same
          (subst (λ (f : Fixup). Stands now (word_part segments fixups i f)) (sym (own e))
          (subst (λ (t : List ℕ). Stands t part) (sym written) (put_stands part.at part.text out fits)))
    ]

    outside : (x : ℕ) → ((k : ℕ) (e : Fixup) → k < i + 1 → IsOutside x (word_part segments fixups k (get_or fixups k e)))
        → slice_index now x ≡ slice_index before x
    outside x all =
        let kept = so_far.written.outside x (λ k e less. all k e (omega arith)) in
        ap (λ (t : List ℕ). get_or t x 0) written ∙ (elim (all i d (omega arith)) [
          | inl below ↦ get_or-put_below part.at part.text out x fits (omega (arith, below))
          | inr above ↦ get_or-put_above part.at part.text out x fits (omega (arith, above))
        ]) ∙ kept
