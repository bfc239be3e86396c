-- Sections and stubs in a file in which their parts stand.
--
-- What stands at a part is its text, and the part stands at the place in the file and is as long as its section or stub. An empty
-- text stands anywhere.
use Rattle.std.proofs.Common.{◌≡◌, ℕ, ◌+◌, ◌-◌, List, [], ◌∷◌, length, take, drop, slice_range, refl, sym, ap, subst, ◌∙◌, arith, inl, inr, All}
use Rattle.std.proofs.lemmas.Bool.{cases_lt}
use Rattle.std.proofs.lemmas.List.Elements.{All-nil, All-cons, All-tail}
use Rattle.macho_bytes.specs.Texts.{Part, Stands}
use Rattle.macho_model.specs.declared.placed.PlacedSection.{PlacedSection}
use Rattle.macho_model.specs.declared.placed.Stub.{Stub}
use Rattle.macho_model.specs.Links.{Link, header_at}
use Rattle.macho_model.specs.WrittenSum.{STUB_SIZE}
use Rattle.macho_model.specs.Placement.{Placed, id_of}
use Rattle.macho_model.specs.Addresses.{offset_in_file}
use Rattle.macho_promise.specs.Filled.{IsFilled, StubIsSet, bytes_in_file}
use Rattle.macho_contents.specs.Filled.{ArePartsOf, IsSectionPart, IsStubPart}
use Rattle.macho_contents.specs.FillingLaws.{SectionPartsFill, StubPartsSet}
use Rattle.macho_model.specs.Spans.{filled_sections}
use Rattle.macho_bytes.proofs.Comparing.{no_elements}

-- one by one
all_stand : {X : Type 0} (IsPart : X → Part → Type 0) (Is : X → Type 0) (xs : List X) (parts : List Part) (b : List ℕ)
    → ((x : X) (part : Part) → IsPart x part → Stands b part → Is x) → ArePartsOf IsPart xs parts → All (Stands b) parts → All Is xs
all_stand IsPart Is [] [] b one are stand = All-nil Is
all_stand IsPart Is [] (part ∷ parts) b one are stand = absurd are
all_stand IsPart Is (x ∷ xs) [] b one are stand = absurd are
all_stand IsPart Is (x ∷ xs) (part ∷ parts) b one are stand =
    All-cons Is x xs (one x part are.0 (stand 0 part (omega arith)))
    (all_stand IsPart Is xs parts b one are.1 (All-tail (Stands b) part parts stand))

-- what stands in a range of the file is the text of a part there
text_stands : (b : List ℕ) (part : Part) (offset size : ℕ) → part.at ≡ offset → length part.text ≡ size → Stands b part
    → slice_range b offset (offset + size) ≡ part.text
text_stands b part offset size at long stands =
    ap (λ (n : ℕ). slice_range b n (n + size)) (sym at) ∙ ap (λ (n : ℕ). slice_range b part.at (part.at + n)) (sym long) ∙ stands.same

empty_stands : (b : List ℕ) (part : Part) (offset size : ℕ) → length part.text ≡ 0 → size ≡ 0
    → slice_range b offset (offset + size) ≡ part.text
empty_stands b part offset size empty none =
    let nothing : offset + size - offset ≡ 0 = omega (arith, none) in
    ap (λ (n : ℕ). take n (drop offset b)) nothing ∙ sym (no_elements part.text empty)

section_stands : (l : Link) (p : Placed) (n : ℕ) (b : List ℕ) (q : PlacedSection) (part : Part) → IsSectionPart l p n q part
    → Stands b part
    → IsFilled l p q (bytes_in_file b p q.address (header_at l (id_of q)).size)
section_stands l p n b q part is stands = elim (cases_lt 0 (length part.text)) [
  | inl some ↦
      subst (IsFilled l p q)
      (sym (text_stands b part (offset_in_file p q.address) (header_at l (id_of q)).size (is.place (omega
      (arith, some))) is.filled.long stands))
      is.filled
  | inr empty ↦
      let none : length part.text ≡ 0 = omega (arith, empty) in
      subst (IsFilled l p q)
      (sym (empty_stands b part (offset_in_file p q.address) (header_at l (id_of q)).size none (omega
      (arith, none, is.filled.long)))) is.filled
]

stub_stands : (p : Placed) (n : ℕ) (b : List ℕ) (s : Stub) (part : Part) → IsStubPart p n s part → Stands b part
    → StubIsSet p s (bytes_in_file b p s.address STUB_SIZE)
stub_stands p n b s part is stands =
    subst (StubIsSet p s) (sym (text_stands b part (offset_in_file p s.address) STUB_SIZE is.place is.set.long stands)) is.set

pub section_parts_fill : SectionPartsFill
section_parts_fill l p n parts b are stand =
    all_stand (IsSectionPart l p n) (λ q. IsFilled l p q (bytes_in_file b p q.address (header_at l (id_of q)).size))
    (filled_sections l p) parts b
    (section_stands l p n b) are stand

pub stub_parts_set : StubPartsSet
stub_parts_set p n parts b are stand =
    all_stand (IsStubPart p n) (λ s. StubIsSet p s (bytes_in_file b p s.address STUB_SIZE)) p.stubs parts b (stub_stands p n b) are stand
