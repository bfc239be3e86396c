-- What no word of a run covers stays when the words are written, told by addresses.
--
-- A word stands in the file part of one segment. If that is the segment of the byte, the byte's place lies beside the
-- word's as its address lies beside the fixup's. If it is another one, the two file parts share no byte. So the byte's
-- place is outside every word that is written, and those bytes are as before. A text is its bytes.
use Rattle.std.proofs.Common.{◌≡◌, ℕ, ◌+◌, ◌-◌, ◌<◌, ◌≤◌, ◌⊎◌, List, length, get_or, arith, sym, ap, ◌∙◌, inl, inr}
use Rattle.std.specs.Prelude.{Contains}
use Rattle.std.proofs.lemmas.Bool.{cases_lt}
use Rattle.macho_bytes.specs.Texts.{Part, IsOutside}
use Rattle.macho_bytes.proofs.Numbers.{little_is_sound}
use Rattle.macho_bytes.proofs.Puts.{stands_by_bytes, get_or-part}
use Rattle.macho_model.specs.Needs.{POINTER_SIZE}
use Rattle.macho_fixups.specs.declared.run.Fixup.{Fixup}
use Rattle.macho_fixups.specs.declared.run.FixupSegment.{FixupSegment}
use Rattle.macho_fixups.specs.Words.{word_of}
use Rattle.macho_fixups.specs.Runs.{AreSegments, Holds}
use Rattle.macho_fixups.specs.Chains.{step_of, word_part}
use Rattle.macho_fixups.specs.Laws.{BytesStay, TextsStay}
use Rattle.macho_fixups.proofs.SegmentWrites.{no_segment}
use Rattle.macho_fixups.proofs.Places.{HasNumber, number_of}
use Rattle.macho_fixups.proofs.RunChain.{place_in}

-- a place in one segment is beside a word of another, or beside it as the addresses are
beside : (segments : List FixupSegment) (s t : FixupSegment) (a f : ℕ) → AreSegments segments → Contains segments s → Contains segments t
    → s.address ≤ a → a < s.address + s.file_size → Holds t f → (a < f) ⊎ (f + POINTER_SIZE ≤ a)
    → (s.file_offset + (a - s.address) + 1 ≤ t.file_offset + (f - t.address))
    ⊎ (t.file_offset + (f - t.address) + POINTER_SIZE ≤ s.file_offset + (a - s.address))
beside segments s t a f order of_s of_t low high held apart =
    elim (cases_lt n.number m.number) [
      | inl before ↦ parts (order.apart n.number m.number no_segment before m.within)
      | inr from ↦ elim (cases_lt m.number n.number) [
        | inl after ↦ parts (swap (order.apart m.number n.number no_segment after n.within))
        | inr same ↦
            let at : n.number ≡ m.number = omega arith in
            let is : s ≡ t = sym (n.is no_segment) ∙ ap (λ (k : ℕ). get_or segments k no_segment) at ∙ m.is no_segment in
            let address : s.address ≡ t.address = ap (λ (x : FixupSegment). x.address) is in
            let offset : s.file_offset ≡ t.file_offset = ap (λ (x : FixupSegment). x.file_offset) is in
            elim apart [
              | inl less ↦ inl (omega (arith, less, address, offset, low))
              | inr more ↦ inr (omega (arith, more, address, offset, held.0))
            ]
      ]
    ]
  where
    n : HasNumber segments s
    n = number_of segments s of_s

    m : HasNumber segments t
    m = number_of segments t of_t

    swap : {A B : Type 0} → A ⊎ B → B ⊎ A
    swap (inl x) = inr x
    swap (inr y) = inl y

    parts : ((get_or segments n.number no_segment).file_offset + (get_or segments n.number no_segment).file_size
        ≤ (get_or segments m.number no_segment).file_offset)
        ⊎ ((get_or segments m.number no_segment).file_offset + (get_or segments m.number no_segment).file_size
        ≤ (get_or segments n.number no_segment).file_offset)
        → (s.file_offset + (a - s.address) + 1 ≤ t.file_offset + (f - t.address))
        ⊎ (t.file_offset + (f - t.address) + POINTER_SIZE ≤ s.file_offset + (a - s.address))
    parts which =
        let from_s : (get_or segments n.number no_segment).file_offset ≡ s.file_offset = ap (λ (x : FixupSegment). x.file_offset)
        (n.is no_segment) in
        let long_s : (get_or segments n.number no_segment).file_size ≡ s.file_size = ap (λ (x : FixupSegment). x.file_size)
        (n.is no_segment) in
        let from_t : (get_or segments m.number no_segment).file_offset ≡ t.file_offset = ap (λ (x : FixupSegment). x.file_offset)
        (m.is no_segment) in
        let long_t : (get_or segments m.number no_segment).file_size ≡ t.file_size = ap (λ (x : FixupSegment). x.file_size)
        (m.is no_segment) in
        elim which [
          | inl before ↦ inl (omega (arith, before, from_s, long_s, from_t, low, high))
          | inr after ↦ inr (omega (arith, after, from_s, from_t, long_t, held.0, held.1))
        ]

pub bytes_stay : BytesStay
bytes_stay segments fixups before now s a over one low high apart =
    over.written.outside (s.file_offset + (a - s.address)) out
  where
    out : (k : ℕ) (d : Fixup) → k < length fixups → IsOutside (s.file_offset + (a - s.address))
        (word_part segments fixups k (get_or fixups k d))
    out k d lt =
        let held = over.run.in_segment k d lt in
        let place = place_in segments held.0 (get_or fixups k d).address over.order held.1 held.2 in
        let long = little_is_sound.long POINTER_SIZE (word_of (get_or fixups k d).kind (step_of fixups k)) in
        elim (beside segments s held.0 a (get_or fixups k d).address over.order one held.1 low high held.2 (apart k d lt)) [
          | inl below ↦ inl (omega (arith, below, place))
          | inr above ↦ inr (omega (arith, above, place, long))
        ]

pub texts_stay : TextsStay
texts_stay segments fixups before now s a text over one low high apart stands =
    stands_by_bytes now part (omega (arith, stands.within, over.written.size)) each
  where
    part : Part
    part = record { at = s.file_offset + (a - s.address); text = text }

    each : (i : ℕ) → i < length text → get_or now (part.at + i) 0 ≡ get_or text i 0
    each i lt =
        let there : part.at + i ≡ s.file_offset + (a + i - s.address) = omega (arith, low) in
        ap (λ (p : ℕ). get_or now p 0) there
        ∙ bytes_stay segments fixups before now s (a + i) over one (omega arith) (omega arith) (λ k d within. elim (apart k d within) [
          | inl below ↦ inl (omega arith)
          | inr above ↦ inr (omega arith)
        ])
        ∙ ap (λ (p : ℕ). get_or before p 0) (sym there) ∙ sym (get_or-part before part stands i lt)
