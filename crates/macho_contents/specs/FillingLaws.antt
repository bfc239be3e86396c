-- What filling rests on, of a placed link, and where its parts lie: the contracts of functions of `src/laws.rt`.
use Rattle.std.specs.Prelude.{◌≡◌, ℕ, ◌+◌, ◌*◌, ◌^◌, ◌<◌, ◌≤◌, List, length, map, get_or, All}
use Rattle.macho_bytes.specs.Texts.{Part, end_of, Stands}
use Rattle.macho_model.specs.declared.placed.Counts.{Counts}
use Rattle.macho_model.specs.declared.placed.Stub.{Stub}
use Rattle.macho_model.specs.Links.{Link, header_at, carried_of}
use Rattle.macho_model.specs.WrittenSum.{STUB_SIZE}
use Rattle.macho_model.specs.Placement.{Placed, IsPlaced, id_of}
use Rattle.macho_model.specs.Spans.{section_span, stub_span, filled_sections, in_file}
use Rattle.macho_model.specs.Addresses.{offset_in_file}
use Rattle.macho_promise.specs.Views.{views_of}
use Rattle.macho_promise.specs.Filled.{IsFilled, StubIsSet, bytes_in_file}
use Rattle.macho_symbols.specs.Kept.{ResolvedRows, IsResolved, HasSymbol}
use Rattle.macho_placed_laws.specs.Parts.{LieInRanges}
use Rattle.macho_contents.specs.Fitting.{SectionsFit, StubsFit, AreKnown}
use Rattle.macho_contents.specs.Filled.{ArePartsOf, IsSectionPart, IsStubPart}

-- parts lie in ranges, one by one, and end in a file of n bytes
abbrev pub LieInside : List Part → ℕ → Type 0
LieInside parts n = All (λ part. end_of part ≤ n) parts

-- the parts of sections lie in the ranges of the file that these have
abbrev pub SectionPartsLie : Type 0
SectionPartsLie =
    (l : Link) (p : Placed) (n : ℕ) (parts : List Part) → ArePartsOf (IsSectionPart l p n) (filled_sections l p) parts
    → LieInRanges parts (map (λ q. in_file p (section_span l q)) (filled_sections l p)) × LieInside parts n

-- and those of stubs
abbrev pub StubPartsLie : Type 0
StubPartsLie =
    (p : Placed) (n : ℕ) (parts : List Part) → ArePartsOf (IsStubPart p n) p.stubs parts
    → LieInRanges parts (map (λ s. in_file p (stub_span s)) p.stubs) × LieInside parts n

-- in a file in which such parts stand, each section that has bytes is filled, and each stub set, where it is mapped
abbrev pub SectionPartsFill : Type 0
SectionPartsFill =
    (l : Link) (p : Placed) (n : ℕ) (parts : List Part) (b : List ℕ) → ArePartsOf (IsSectionPart l p n) (filled_sections l p) parts
    → All (Stands b) parts → All (λ q. IsFilled l p q (bytes_in_file b p q.address (header_at l (id_of q)).size)) (filled_sections l p)

abbrev pub StubPartsSet : Type 0
StubPartsSet =
    (p : Placed) (n : ℕ) (parts : List Part) (b : List ℕ) → ArePartsOf (IsStubPart p n) p.stubs parts → All (Stands b) parts
    → All (λ s. StubIsSet p s (bytes_in_file b p s.address STUB_SIZE)) p.stubs

-- placed sections fit, where segments end below 2 ^ 64 and the ranges of sections in the file
abbrev pub SectionsHaveRoom : Type 0
SectionsHaveRoom =
    (l : Link) (counts : Counts) (p : Placed) (n : ℕ) → IsPlaced l counts p → map id_of p.sections ≡ carried_of l
    → All (λ s. s.address + s.size ≤ 2 ^ 64) p.segments
    → All (λ q. 1 ≤ (header_at l (id_of q)).size → offset_in_file p q.address + (header_at l (id_of q)).size ≤ n) (filled_sections l p)
    → SectionsFit (views_of l) p n

-- stubs fit, where their addresses and the bytes of the file follow one another
abbrev pub StubsHaveRoom : Type 0
StubsHaveRoom =
    (p : Placed) (n : ℕ)
    → ((k : ℕ) (d : Stub) → k < length p.stubs → (get_or p.stubs k d).address ≡ (get_or p.stubs 0 d).address + STUB_SIZE * k)
    → ((d : Stub) (i : ℕ) → i < STUB_SIZE * length p.stubs
    → offset_in_file p ((get_or p.stubs 0 d).address + i) ≡ offset_in_file p (get_or p.stubs 0 d).address + i)
    → ((d : Stub) → 1 ≤ STUB_SIZE * length p.stubs → offset_in_file p (get_or p.stubs 0 d).address + STUB_SIZE * length p.stubs ≤ n)
    → StubsFit p n

-- the symbols of a link's objects have rows
abbrev pub SymbolsAreKnown : Type 0
SymbolsAreKnown = (l : Link) (noted : List (List ℕ)) (rows : ResolvedRows) → IsResolved l noted rows
    → AreKnown (views_of l) (HasSymbol rows)
