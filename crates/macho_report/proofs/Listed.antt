-- The carried sections of a link are sections that it has.
--
-- The list goes file by file: those of an object are numbered below its count, and no other file has one. So each section of the
-- list is a section of an object among the inputs; and a part of the list has the same.
use Rattle.std.proofs.Common.{◌≡◌, ℕ, suc, ◌+◌, ◌<◌, arith, refl, sym, subst, List, [], ◌∷◌, length, get_or, map, All, ap, ◌∙◌}
use Rattle.std.specs.List.{flat_map, enumerate_from, range_with_len}
use Rattle.std.proofs.lemmas.List.{get_or-map, length-map}
use Rattle.std.proofs.lemmas.List.Elements.{All-nil, All-append, All-filter, All-map, All-weaker}
use Rattle.std.proofs.lemmas.List.FromFn.{length-range_with_len, get_or-range_with_len}
use Rattle.macho_records.specs.declared.header.SectionHeader.{SectionHeader}
use Rattle.macho_model.specs.declared.placed.PlacedSection.{PlacedSection}
use Rattle.macho_model.specs.Links.{Link, SectionId, Input, Object, Dylib, Stub, no_input, is_carried, header_at, sections_of_file, sections_of, carried_of, object_bytes}
use Rattle.macho_model.specs.Objects.{num_sections, section_at}
use Rattle.macho_model.specs.Placement.{id_of}
use Rattle.macho_object.specs.Views.{FileBytes}
use Rattle.macho_report.specs.steps.Sections.{HasSection, IsViewed}

-- a section of one of these inputs, whose first has this number
record IsAmong (inputs : List Input) (base : ℕ) (s : SectionId) : Type 0 where
  bytes : List ℕ
  place : ℕ
  number : s.file ≡ base + place
  there : place < length inputs
  object : get_or inputs place no_input ≡ Object bytes
  within : s.section < num_sections bytes

next-among : (input : Input) (inputs : List Input) (base : ℕ) (s : SectionId) → IsAmong inputs (base + 1) s
    → IsAmong (input ∷ inputs) base s
next-among input inputs base s among = record {
  bytes = among.bytes;
  place = suc among.place;
  number = omega (arith, among.number);
  there = omega (arith, among.there);
  object = among.object;
  within = among.within;
}

of-file : (input : Input) (inputs : List Input) (base : ℕ) → All (IsAmong (input ∷ inputs) base) (sections_of_file base input)
of-file (Dylib bytes) inputs base = All-nil (IsAmong (Dylib bytes ∷ inputs) base)
of-file (Stub text says) inputs base = All-nil (IsAmong (Stub text says ∷ inputs) base)
of-file (Object bytes) inputs base =
    All-map (IsAmong (Object bytes ∷ inputs) base) (λ k. record { file = base; section = k }) (range_with_len 0 (num_sections bytes)) each
  where
    numbered : (k : ℕ) → k < num_sections bytes → IsAmong (Object bytes ∷ inputs) base (record { file = base; section = k })
    numbered k below = record { bytes = bytes; place = 0; number = omega arith; there = omega arith; object = refl; within = below }

    each : All (λ k. IsAmong (Object bytes ∷ inputs) base (record { file = base; section = k })) (range_with_len 0 (num_sections bytes))
    each k d below =
        let lt : k < num_sections bytes = omega (arith, below, length-range_with_len 0 (num_sections bytes)) in
        let at : get_or (range_with_len 0 (num_sections bytes)) k d ≡ 0 + k = get_or-range_with_len 0 (num_sections bytes) k d lt in
        subst (λ (j : ℕ). IsAmong (Object bytes ∷ inputs) base (record { file = base; section = j })) (sym at)
        (numbered (0 + k) (omega (arith, lt)))

all-among : (inputs : List Input) (base : ℕ) → All (IsAmong inputs base)
    (flat_map (λ i. sections_of_file i.0 i.1) (enumerate_from base inputs))
all-among [] base = All-nil (IsAmong [] base)
all-among (input ∷ inputs) base =
    All-append (IsAmong (input ∷ inputs) base) (sections_of_file base input)
    (flat_map (λ i. sections_of_file i.0 i.1) (enumerate_from (base + 1) inputs))
    (of-file input inputs base)
    (All-weaker (IsAmong inputs (base + 1)) (IsAmong (input ∷ inputs) base) (next-among input inputs base) _ (all-among inputs (base + 1)))

is-section : (l : Link) (s : SectionId) → IsAmong l.inputs 0 s → HasSection l s
is-section l s among =
    let same : among.place ≡ s.file = omega (arith, among.number) in
    record {
      bytes = among.bytes;
      there = omega (arith, among.there, among.number);
      object = subst (λ (n : ℕ). get_or l.inputs n no_input ≡ Object among.bytes) same among.object;
      within = among.within;
    }

-- each carried section is a section that the link has
pub carried-there : (l : Link) → All (HasSection l) (carried_of l)
unfolding carried_of sections_of
carried-there l =
    All-filter (λ s. is_carried (header_at l s)) (HasSection l) (sections_of l)
    (All-weaker (IsAmong l.inputs 0) (HasSection l) (is-section l) (sections_of l) (all-among l.inputs 0))

-- so is each of the placed ones, which stand in that order
pub placed-there : (l : Link) (sections : List PlacedSection) (k : ℕ) (q : PlacedSection) → map id_of sections ≡ carried_of l
    → k < length sections
    → HasSection l (id_of (get_or sections k q))
placed-there l sections k q is within =
    let all : All (HasSection l) (map id_of sections) = subst (All (HasSection l)) (sym is) (carried-there l) in
    subst (HasSection l) (get_or-map id_of sections k q (id_of q) within)
    (all k (id_of q) (omega (arith, within, length-map sections id_of)))

-- the view of its object has it, and its header
viewed-bytes : (l : Link) (s : SectionId) (file : ℕ) (object : FileBytes) → file ≡ s.file → IsViewed l file object
    → get_or l.inputs s.file no_input ≡ Object object.bytes
viewed-bytes l s file object same viewed = subst (λ (n : ℕ). get_or l.inputs n no_input ≡ Object object.bytes) same viewed.is

pub viewed-there : (l : Link) (s : SectionId) (file : ℕ) (object : FileBytes) → file ≡ s.file → IsViewed l file object → HasSection l s
    → s.section < num_sections object.bytes
viewed-there l s file object same viewed has =
    let bytes : has.bytes ≡ object.bytes = ap object_bytes (sym has.object ∙ viewed-bytes l s file object same viewed) in
    subst (λ (b : List ℕ). s.section < num_sections b) bytes has.within

pub viewed-header : (l : Link) (s : SectionId) (file : ℕ) (object : FileBytes) (header : SectionHeader) → file ≡ s.file
    → IsViewed l file object → header ≡ section_at object.bytes s.section → header ≡ header_at l s
viewed-header l s file object header same viewed is =
    is ∙ ap (λ (b : List ℕ). section_at b s.section) (sym (ap object_bytes (viewed-bytes l s file object same viewed)))
