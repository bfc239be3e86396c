-- Where what has a place in a link is, in a placement of it; and the words that lead there.
--
-- Each thing of the link is placed, so look-up by its number finds one that is: a target that moves is at the address that it is
-- looked up at, which is at most 2 ^ 64, since the thing lies in a segment. A word that was asked to move says this address less the
-- base; it is not below the base, as the word's value is one that has a word.
use Rattle.std.proofs.Common.{◌≡◌, ℕ, ◌+◌, ◌-◌, ◌*◌, ◌%◌, ◌^◌, ◌<◌, ◌≤◌, ◌==◌, ◌&&◌, Bool, true, false, if◌then◌else◌, List, [], ◌∷◌, length, map, filter, refl, ap, subst, ◌∙◌, arith, inl, inr, All}
use Rattle.std.specs.Prelude.{Contains}
use Rattle.std.specs.List.{range_with_len}
use Rattle.std.proofs.lemmas.Bool.{cases_lt, cases_Bool, and_parts, and_from, eqb-true, eq-eqb}
use Rattle.std.proofs.lemmas.List.Elements.{All-contains}
use Rattle.std.proofs.lemmas.List.FromFn.{length-range_with_len, get_or-range_with_len}
use Rattle.std.proofs.lemmas.List.Sorted.{IsPermutation-sym, Contains-permutation}
use Rattle.macho_bytes.specs.Numbers.{bits}
use Rattle.macho_model.specs.declared.placed.Counts.{Counts}
use Rattle.macho_model.specs.declared.placed.PlacedSegment.{PlacedSegment}
use Rattle.macho_model.specs.declared.placed.PlacedSection.{PlacedSection}
use Rattle.macho_model.specs.declared.placed.PlacedCommon.{PlacedCommon}
use Rattle.macho_model.specs.declared.targets.Target.{Target}
use Rattle.macho_model.specs.declared.targets.Target.TheVariants as target
use Rattle.macho_model.specs.Links.{Link, SectionId, section_id, header_at, carried_of}
use Rattle.macho_model.specs.Resolution.{chosen_commons}
use Rattle.macho_model.specs.Targets.{is_defined, is_import}
use Rattle.macho_model.specs.Segments.{base_of_link, DATA}
use Rattle.macho_model.specs.Placement.{Placed, id_of, IsPaged, IsWholeList, IsPlaced}
use Rattle.macho_model.specs.Zeros.{Span}
use Rattle.macho_model.specs.Spans.{section_span, common_span}
use Rattle.macho_model.specs.steps.Parts.{LiesIn, SectionLies, LiesInNamed}
use Rattle.macho_model.specs.Lists.{of_first}
use Rattle.macho_model.specs.Addresses.{section_address, common_address, address_of}
use Rattle.macho_model.specs.Images.{base_of}
use Rattle.macho_model.specs.Meaning.{Same}
use Rattle.macho_model.specs.Memory.{Choice, rebase_target, rebase_high}
use Rattle.macho_model.specs.SlideLaws.{MovesAt}
use Rattle.macho_model.specs.Stands.{IsAt}
use Rattle.macho_model.specs.Values.{IsNotEncodable}
use Rattle.macho_fixups.specs.declared.run.Fixup.{Fixup}
use Rattle.macho_fixups.specs.declared.words.FixupKind.{FixupKind}
use Rattle.macho_fixups.specs.declared.words.FixupKind.TheVariants.{Rebase}
use Rattle.macho_fixups.specs.Words.{Says}
use Rattle.macho_promise.specs.FixupsSay.{kind_for}
use Rattle.macho_image_laws.specs.Leads.{HasPlace}
use Rattle.macho_image_laws.proofs.Run.{HasWord}
use Rattle.macho_model.proofs.Parts.{in_segment_of, same_order}
use Rattle.macho_bytes.proofs.Members.{map_contains}
use Rattle.macho_model.proofs.Sections.{first_passes}

-- a carried section is placed, and looked up
pub record IsFoundSection (p : Placed) (file section : ℕ) : Type 0 where
  pub one : PlacedSection
  pub placed : Contains p.sections one
  pub file_is : one.file ≡ file
  pub section_is : one.section ≡ section
  pub address : section_address p file section ≡ one.address

pub section_found : (l : Link) (p : Placed) (file section : ℕ) → IsWholeList l p → Contains (carried_of l) (section_id file section)
    → IsFoundSection p file section
unfolding section_address
section_found l p file section whole one =
    let there = Contains-permutation (carried_of l) (map id_of p.sections) (section_id file section)
    (IsPermutation-sym (map id_of p.sections) (carried_of l) (same_order whole.sections)) one in
    let m = map_contains id_of p.sections (section_id file section) there in
    let r = first_passes (λ (q : PlacedSection). (q.file == file) && (q.section == section))
    (λ (q : PlacedSection). q.address) p.sections m.0 m.1
    (and_from (m.0.file == file) (m.0.section == section) (eq-eqb m.0.file file (ap (λ (s : SectionId). s.file) m.2))
    (eq-eqb m.0.section section (ap (λ (s : SectionId). s.section) m.2))) in
    let both = and_parts (r.0.file == file) (r.0.section == section) r.2 in
    record {
      one = r.0;
      placed = r.1;
      file_is = eqb-true r.0.file file both.0;
      section_is = eqb-true r.0.section section both.1;
      address = r.3;
    }

-- so is a chosen common
pub record IsFoundCommon (p : Placed) (id : ℕ) : Type 0 where
  pub one : PlacedCommon
  pub placed : Contains p.commons one
  pub id_is : one.id ≡ id
  pub address : common_address p id ≡ one.address

pub common_found : (l : Link) (p : Placed) (id : ℕ) → IsWholeList l p → id < length (chosen_commons l) → IsFoundCommon p id
unfolding common_address
common_found l p id whole lt =
    let n = length (chosen_commons l) in
    let in_range : Contains (range_with_len 0 n) id =
    (id, omega (arith, lt, length-range_with_len 0 n), get_or-range_with_len 0 n id id lt ∙ omega arith) in
    let there = Contains-permutation (range_with_len 0 n) (map (λ (c : PlacedCommon). c.id) p.commons) id
    (IsPermutation-sym (map (λ (c : PlacedCommon). c.id) p.commons) (range_with_len 0 n) (same_order whole.commons)) in_range in
    let m = map_contains (λ (c : PlacedCommon). c.id) p.commons id there in
    let r = first_passes (λ (c : PlacedCommon). c.id == id) (λ (c : PlacedCommon). c.address) p.commons m.0 m.1 (eq-eqb m.0.id id m.2) in
    record { one = r.0; placed = r.1; id_is = eqb-true r.0.id id r.2; address = r.3 }

-- a target that moves is at its address
pub is_at : (l : Link) (p : Placed) (c : Choice) (t : Target) → IsWholeList l p → HasPlace l t → is_import t ≡ false
    → IsAt l p 0 c t (address_of p t)
is_at l p c (target.Section file section offset) whole has moves =
    let q = section_found l p file section whole has.0 in
    (q.one.address, (q.one, q.placed, q.file_is, q.section_is, refl), omega (arith, q.address))
is_at l p c (target.Common id) whole has moves =
    let q = common_found l p id whole has in (q.one, q.placed, q.id_is, omega (arith, q.address))
is_at l p c (target.Import id) whole has moves = let no : true ≡ false = moves in absurd (cc)
is_at l p c target.Base whole has moves = omega arith
is_at l p c (target.Absolute value) whole has moves = absurd has
is_at l p c target.None whole has moves = absurd has

pub defined_place : (l : Link) (t : Target) → HasPlace l t → is_import t ≡ false → is_defined t ≡ true
defined_place l (target.Section file section offset) has moves = refl
defined_place l (target.Common id) has moves = refl
defined_place l (target.Import id) has moves = let no : true ≡ false = moves in absurd (cc)
defined_place l target.Base has moves = refl
defined_place l (target.Absolute value) has moves = absurd has
defined_place l target.None has moves = absurd has

-- what lies in a segment ends where the segment does, or before
pub lies_within : (in_file : Bool) (span : Span) (s : PlacedSegment) → LiesIn in_file span s → IsPaged s
    → span.start + span.size ≤ s.address + s.size
lies_within true span s lies paged = omega (arith, lies.to, paged.file_size)
lies_within false span s lies paged = lies.to

-- memory ends at 2 ^ 64
pub address_fits : (l : Link) (counts : Counts) (p : Placed) (t : Target) → IsPlaced l counts p
    → All (λ (s : PlacedSegment). s.address + s.size ≤ 2 ^ 64) p.segments
    → HasPlace l t → address_of p t ≤ 2 ^ 64
address_fits l counts p (target.Section file section offset) placed ends has =
    let q = section_found l p file section placed.whole_list has.0 in
    let lies = All-contains (SectionLies l p) p.sections q.one (in_segment_of placed).sections q.placed in
    let there : Contains p.segments lies.0 = (q.one.segment, lies.1.0, lies.1.1) in
    let within = lies_within _ (section_span l q.one) lies.0 lies.3 (All-contains IsPaged p.segments lies.0 placed.paged there) in
    let end = All-contains (λ (s : PlacedSegment). s.address + s.size ≤ 2 ^ 64) p.segments lies.0 ends there in
    let same : (header_at l (id_of q.one)).size ≡ (header_at l (section_id file section)).size =
    ap (λ (n : ℕ). (header_at l (section_id n q.one.section)).size) q.file_is
    ∙ ap (λ (n : ℕ). (header_at l (section_id file n)).size) q.section_is in
    omega (arith, q.address, within, end, same, has.1)
address_fits l counts p (target.Common id) placed ends has =
    let q = common_found l p id placed.whole_list has in
    let lies =
    All-contains (λ (c : PlacedCommon). LiesInNamed p DATA false (common_span l c)) p.commons q.one (in_segment_of placed).commons
    q.placed in
    let end = All-contains (λ (s : PlacedSegment). s.address + s.size ≤ 2 ^ 64) p.segments lies.0 ends lies.1 in
    omega (arith, q.address, lies.3.to, end)
address_fits l counts p (target.Import id) placed ends has = omega arith
address_fits l counts p target.Base placed ends has =
    elim (cases_Bool l.executable) [
      | inl runs ↦ let at : p.base ≡ 0x100000000 = placed.base ∙ ap (λ (b : Bool). if b then 0x100000000 else 0) runs in omega (arith, at)
      | inr lib ↦ let at : p.base ≡ 0 = placed.base ∙ ap (λ (b : Bool). if b then 0x100000000 else 0) lib in omega (arith, at)
    ]
address_fits l counts p (target.Absolute value) placed ends has = absurd has
address_fits l counts p target.None placed ends has = absurd has

-- what has a word is not below the base
pub not_below : (p : Placed) (v : ℕ) → (IsNotEncodable p v → ⊥) → p.base ≤ v
not_below p v encoded = elim (cases_lt v p.base) [ inl low ↦ absurd (encoded (inl low)) | inr high ↦ high ]

-- an address that has a word, as a number modulo 2 ^ 64
pub address_above : (l : Link) (p : Placed) (v : ℕ) → p.base ≡ base_of_link l → v ≤ 2 ^ 64 → (IsNotEncodable p v → ⊥) → p.base ≤ v % 2 ^ 64
address_above l p v is fits encoded =
    let low = not_below p v encoded in
    elim (cases_lt v (2 ^ 64)) [
      | inl below ↦ omega (arith, low, below)
      | inr end ↦ elim (cases_Bool l.executable) [
        | inl runs ↦
            let at : p.base ≡ 0x100000000 = is ∙ ap (λ (b : Bool). if b then 0x100000000 else 0) runs in
            let top : v ≡ 2 ^ 64 = omega (arith, fits, end) in
            let far : 1 ≤ bits 36 20 (v - p.base) = omega (arith, at, top) in
            absurd (encoded (inr far))
        | inr lib ↦ let at : p.base ≡ 0 = is ∙ ap (λ (b : Bool). if b then 0x100000000 else 0) lib in omega (arith, at)
      ]
    ]

-- a target that is no import is asked for by its distance from the base
pub kind_moves : (l : Link) (p : Placed) (t : Target) (addend : ℕ) → is_import t ≡ false
    → kind_for l p t addend ≡ Rebase ((address_of p t + addend) % 2 ^ 64 - p.base)
kind_moves l p (target.Section file section offset) addend moves = refl
kind_moves l p (target.Common id) addend moves = refl
kind_moves l p (target.Import id) addend moves = let no : true ≡ false = moves in absurd (cc)
kind_moves l p target.Base addend moves = refl
kind_moves l p (target.Absolute value) addend moves = refl
kind_moves l p target.None addend moves = refl

-- THE word of such a target says it at slide 0
pub moves_at : (b : List ℕ) (f : Fixup) (h : HasWord b f) (v base : ℕ) → f.kind ≡ Rebase (v % 2 ^ 64 - base) → base ≤ v % 2 ^ 64
    → base_of b ≡ base
    → MovesAt b f.address h.word × Same (rebase_target h.word + rebase_high h.word * 2 ^ 56 + base_of b) v
moves_at b f h v base kind above is =
    let says : Says (Rebase (v % 2 ^ 64 - base)) h.word = subst (λ (t : FixupKind). Says t h.word) kind h.says in
    let sum : rebase_target h.word + rebase_high h.word * 2 ^ 56 + base_of b ≡ v % 2 ^ 64 = omega (arith, says.1, is, above) in
    let same : v % 2 ^ 64 % 2 ^ 64 ≡ v % 2 ^ 64 = omega arith in
    (record { on = h.on; stands = h.stands; rebases = says.0; alone = h.alone }, ap (λ (n : ℕ). n % 2 ^ 64) sum ∙ same)
