-- An address in the file part of a segment, beside other parts.
--
-- Segments share no byte of the file, so the byte of an address is outside of a part of another segment; and outside of one of the
-- same segment that does not have the address.
use Rattle.std.proofs.Common.{◌≡◌, ℕ, ◌+◌, ◌-◌, ◌<◌, ◌≤◌, ◌⊎◌, ap, arith, inl, inr}
use Rattle.std.specs.Prelude.{Contains}
use Rattle.std.proofs.lemmas.Bool.{cases_lt}
use Rattle.macho_model.specs.declared.placed.PlacedSegment.{PlacedSegment}
use Rattle.macho_model.specs.Placement.{Placed}
use Rattle.macho_model.specs.Zeros.{Span}
use Rattle.macho_model.specs.Spans.{AreApart, IsOutsideSpan, in_file}
use Rattle.macho_model.specs.Addresses.{offset_in_file}
use Rattle.macho_fixups.specs.declared.run.FixupSegment.{FixupSegment}
use Rattle.macho_fixups.specs.Runs.{AreSegments}
use Rattle.macho_promise.specs.FixupsSay.{fixup_segments}
use Rattle.macho_promise.specs.steps.Segments.{fixup_segment}
use Rattle.macho_image_laws.proofs.Members.{one_or_pair}
use Rattle.macho_image_laws.proofs.Held.{place_in_file}
use Rattle.macho_bytes.proofs.Pairs.{pairs_unmap}

-- two segments are one, or share no byte of the file
pub files_apart : (p : Placed) (s t : PlacedSegment) → AreSegments (fixup_segments p) → Contains p.segments s → Contains p.segments t
    → (s ≡ t) ⊎ ((s.file_offset + s.file_size ≤ t.file_offset) ⊎ (t.file_offset + t.file_size ≤ s.file_offset))
files_apart p s t order in_s in_t =
    elim (one_or_pair (λ (x y : PlacedSegment). (x.file_offset + x.file_size ≤ y.file_offset)
    ⊎ (y.file_offset + y.file_size ≤ x.file_offset)) p.segments s t
    (pairs_unmap (λ (x y : FixupSegment). (x.file_offset + x.file_size ≤ y.file_offset) ⊎ (y.file_offset + y.file_size ≤ x.file_offset))
    fixup_segment p.segments order.apart)
    in_s in_t) [
      | inl same ↦ inl same
      | inr pair ↦ elim pair [ inl a ↦ inr a | inr a ↦ inr (elim a [ inl x ↦ inr x | inr x ↦ inl x ]) ]
    ]

-- an address of the file part of a segment, with its place in the file
pub record IsByteOf (p : Placed) (s : PlacedSegment) (a : ℕ) : Type 0 where
  pub one : Contains p.segments s
  pub from : s.address ≤ a
  pub to : a < s.address + s.file_size

-- it is in no part that lies in a file part and does not have the address
pub outside_of : (p : Placed) (s t : PlacedSegment) (a : ℕ) (span : Span) → AreSegments (fixup_segments p) → IsByteOf p s a
    → Contains p.segments t
    → t.address ≤ span.start → span.start + span.size ≤ t.address + t.file_size
    → (span.size ≡ 0) ⊎ ((a < span.start) ⊎ (span.start + span.size ≤ a))
    → IsOutsideSpan (s.file_offset + (a - s.address)) (in_file p span)
outside_of p s t a span order byte one from to (inl none) =
    elim (cases_lt (s.file_offset + (a - s.address)) (offset_in_file p span.start))
    [ inl before ↦ inl (omega (arith, before)) | inr behind ↦ inr (omega (arith, behind, none)) ]
outside_of p s t a span order byte one from to (inr beside) =
    elim (cases_lt 0 span.size) [
      | inr none ↦ elim (cases_lt (s.file_offset + (a - s.address)) (offset_in_file p span.start)) [
        | inl before ↦ inl (omega (arith, before))
        | inr behind ↦ inr (omega (arith, behind, none))
      ]
      | inl some ↦
          let place = place_in_file p t span.start order one from (omega (arith, to, some)) in
          elim (files_apart p s t order byte.one one) [
            | inl same ↦
                let address : s.address ≡ t.address = ap (λ (x : PlacedSegment). x.address) same in
                let offset : s.file_offset ≡ t.file_offset = ap (λ (x : PlacedSegment). x.file_offset) same in
                elim beside [
                  | inl before ↦ inl (omega (arith, before, place, address, offset, byte.from))
                  | inr behind ↦ inr (omega (arith, behind, place, address, offset, byte.from, from))
                ]
            | inr apart ↦ elim apart [
              | inl before ↦ inl (omega (arith, before, place, byte.from, byte.to))
              | inr behind ↦ inr (omega (arith, behind, place, from, to))
            ]
          ]
    ]

-- an address of a part, beside one that is apart from it
pub beside : (a b : Span) (x : ℕ) → AreApart a b → a.start ≤ x → x < a.start + a.size
    → (b.size ≡ 0) ⊎ ((x < b.start) ⊎ (b.start + b.size ≤ x))
beside a b x (inl none) from to = absurd (omega (arith, none))
beside a b x (inr (inl none)) from to = inl none
beside a b x (inr (inr (inl before))) from to = inr (inl (omega arith))
beside a b x (inr (inr (inr behind))) from to = inr (inr (omega arith))
