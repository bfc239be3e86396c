-- Parts that sections and stubs are filled as lie in the ranges of the file that these have.
--
-- A part that isn't empty stands where its section does in the file, and is as long. One by one, so do all.
use Rattle.std.proofs.Common.{ℕ, ◌≤◌, List, [], ◌∷◌, map, length, arith, inl, inr}
use Rattle.std.proofs.lemmas.Bool.{cases_lt}
use Rattle.std.proofs.lemmas.List.Elements.{All-nil, All-cons}
use Rattle.macho_bytes.specs.Texts.{Part, end_of}
use Rattle.macho_model.specs.declared.placed.PlacedSection.{PlacedSection}
use Rattle.macho_model.specs.declared.placed.Stub.{Stub}
use Rattle.macho_model.specs.Links.{Link}
use Rattle.macho_model.specs.Placement.{Placed}
use Rattle.macho_model.specs.Zeros.{Span}
use Rattle.macho_model.specs.Spans.{section_span, stub_span, filled_sections, in_file}
use Rattle.macho_placed_laws.specs.Parts.{LiesInRange, LieInRanges}
use Rattle.macho_contents.specs.Filled.{ArePartsOf, IsSectionPart, IsStubPart}
use Rattle.macho_contents.specs.FillingLaws.{LieInside, SectionPartsLie, StubPartsLie}

-- one by one
all_lie : {X : Type 0} (IsPart : X → Part → Type 0) (range : X → Span) (n : ℕ) (xs : List X) (parts : List Part)
    → ((x : X) (part : Part) → IsPart x part → LiesInRange part (range x)) → ((x : X) (part : Part) → IsPart x part → end_of part ≤ n)
    → ArePartsOf IsPart xs parts → LieInRanges parts (map range xs) × LieInside parts n
all_lie IsPart range n [] [] lies ends all = (tt, All-nil (λ part. end_of part ≤ n))
all_lie IsPart range n [] (part ∷ parts) lies ends all = absurd all
all_lie IsPart range n (x ∷ xs) [] lies ends all = absurd all
all_lie IsPart range n (x ∷ xs) (part ∷ parts) lies ends all =
    let rest = all_lie IsPart range n xs parts lies ends all.1 in
    ((lies x part all.0, rest.0), All-cons (λ q. end_of q ≤ n) part parts (ends x part all.0) rest.1)

section_lies : (l : Link) (p : Placed) (n : ℕ) (q : PlacedSection) (part : Part) → IsSectionPart l p n q part
    → LiesInRange part (in_file p (section_span l q))
section_lies l p n q part is = elim (cases_lt 0 (length part.text)) [
  | inl some ↦
      let place = is.place (omega (arith, some)) in
      inr (omega (arith, place), omega (arith, place, is.filled.long))
  | inr empty ↦ inl (omega (arith, empty))
]

stub_lies : (p : Placed) (n : ℕ) (s : Stub) (part : Part) → IsStubPart p n s part → LiesInRange part (in_file p (stub_span s))
stub_lies p n s part is = inr (omega (arith, is.place), omega (arith, is.place, is.set.long))

pub section_parts_lie : SectionPartsLie
section_parts_lie l p n parts all =
    all_lie (IsSectionPart l p n) (λ q. in_file p (section_span l q)) n (filled_sections l p) parts (section_lies l p n)
    (λ q part is. is.ends) all

pub stub_parts_lie : StubPartsLie
stub_parts_lie p n parts all =
    all_lie (IsStubPart p n) (λ s. in_file p (stub_span s)) n p.stubs parts (stub_lies p n) (λ s part is. is.ends) all
