-- The targets and the addends of a valid link's fields.
--
-- A target that moves or is imported has a place, and so has what a difference subtracts. An addend that stands in front of a field has
-- 24 bits, and that of a difference of four bytes has 32, so both are below 2 ^ 64; a branch to an import has none.
use Rattle.std.proofs.Common.{◌≡◌, ℕ, ◌+◌, ◌-◌, ◌*◌, ◌%◌, ◌^◌, ◌<◌, ◌==◌, ◌&&◌, ◌||◌, not, nat_lt, nat_le, if◌then◌else◌, Bool, true, false, List, [], length, drop, slice_range, slice_index, refl, sym, ap, subst, ◌∙◌, arith, inl, inr, Some, None, All}
use Rattle.std.specs.Prelude.{Contains, is_some}
use Rattle.std.proofs.lemmas.Bool.{cases_lt, cases_Bool, and_parts, or_cases, or_left, eqb-true, eq-eqb, not-true, true≢false}
use Rattle.std.proofs.lemmas.List.{get_or_past, get_or_default}
use Rattle.std.proofs.lemmas.List.Elements.{All-take, All-drop}
use Rattle.macho_bytes.specs.Numbers.{le_at, signed}
use Rattle.macho_bytes.specs.Layouts.{reading}
use Rattle.macho_records.specs.Sections.{is_zerofill}
use Rattle.macho_records.specs.declared.constants.TheConstants.{ARM64_RELOC_ADDEND, ARM64_RELOC_BRANCH26, ARM64_RELOC_SUBTRACTOR, ARM64_RELOC_UNSIGNED, ARM64_RELOC_PAGE21, ARM64_RELOC_PAGEOFF12, ARM64_RELOC_GOT_LOAD_PAGE21, ARM64_RELOC_TLVP_LOAD_PAGE21, ARM64_RELOC_GOT_LOAD_PAGEOFF12, ARM64_RELOC_TLVP_LOAD_PAGEOFF12, ARM64_RELOC_POINTER_TO_GOT}
use Rattle.macho_model.specs.declared.targets.Target.{Target}
use Rattle.macho_model.specs.declared.targets.Target.TheVariants as target
use Rattle.macho_model.specs.Objects.{section_at, section_bytes, relocation_at}
use Rattle.macho_model.specs.Links.{Link, SectionId, Object, no_input, object_bytes, object_of, header_at, carried_of}
use Rattle.macho_model.specs.Needs.{relocation_in, section_named}
use Rattle.macho_model.specs.Uses.{ByRelocation}
use Rattle.macho_model.specs.Targets.{is_defined, is_import, target_of_relocation}
use Rattle.macho_model.specs.Fields.{Field, field_of, fields_of, has_subtrahend, has_addend, is_difference, width_of, content_of, pointer_addend}
use Rattle.macho_model.specs.Words.{is_branch}
use Rattle.macho_model.specs.Rows.{is_supported, defined_or_import, difference_fits, begins_pair, pointer_fits, has_form}
use Rattle.macho_model.specs.Supported.{may_be_called, RelocationsAreSupported}
use Rattle.macho_model.specs.Stands.{Kind, Pointer, Difference, Branch, Page, Offset, SlotPage, SlotOffset, SlotDistance, NoKind, kind_of}
use Rattle.macho_image_laws.specs.Leads.{HasPlace}
use Rattle.macho_model.specs.Grammar.{ObjectsAreRead}
use Rattle.macho_image_laws.proofs.Fits.{field_number}
use Rattle.macho_image_laws.proofs.Targets.{relocation_has}
use Rattle.macho_image_laws.proofs.Leading.{carried_section, plain_type, somewhere}
use Rattle.macho_writing_laws.specs.Valid.{ObjectsAreBytes}
use Rattle.macho_bytes.proofs.Bools.{pick, skip}
use Rattle.macho_model.proofs.Sections.{carried_use}

-- a field's target that moves or is imported has a place
pub field_has : (l : Link) (s : SectionId) (f : Field) → ObjectsAreRead l → Contains (carried_of l) s → Contains (fields_of l s) f
    → defined_or_import f.target ≡ true → HasPlace l f.target
field_has l s f objects one field leads =
    let n = field_number l s f field in
    let same : (field_of l s n.number).target ≡ f.target = ap (λ (g : Field). g.target) n.is in
    let lead = somewhere (target_of_relocation l s n.number) (ap defined_or_import same ∙ leads) in
    subst (HasPlace l) same
    (relocation_has l s n.number (ByRelocation s n.number) objects (carried_section l s objects one) n.within
    (carried_use l s n.number one n.within) refl
    (plain_type (relocation_in l s n.number).r_type n.whole) lead.0 lead.1)

-- so has what a difference subtracts
subtractor_type : (l : Link) (s : SectionId) (r : ℕ) → has_subtrahend l s r ≡ true
    → (relocation_in l s (r - 1)).r_type ≡ ARM64_RELOC_SUBTRACTOR
subtractor_type l s r h =
    let q = relocation_in l s (r - 1) in
    let t = relocation_in l s r in
    let d = (and_parts (nat_le 1 r) (is_difference (relocation_in l s (r - 1)) (relocation_in l s r)) h).1 in
    eqb-true (relocation_in l s (r - 1)).r_type ARM64_RELOC_SUBTRACTOR
    (and_parts (q.r_type == ARM64_RELOC_SUBTRACTOR) _
    (and_parts ((q.r_type == ARM64_RELOC_SUBTRACTOR) && (t.r_type == ARM64_RELOC_UNSIGNED)) _
    (and_parts ((q.r_type == ARM64_RELOC_SUBTRACTOR) && (t.r_type == ARM64_RELOC_UNSIGNED) && (q.r_address == t.r_address)) _ d).0).0).0

pub subtrahend_has : (l : Link) (s : SectionId) (f : Field) (t : Target) → ObjectsAreRead l → Contains (carried_of l) s
    → Contains (fields_of l s) f
    → f.subtrahend ≡ Some t → is_defined t ≡ true → HasPlace l t
subtrahend_has l s f t objects one field is moves =
    let n = field_number l s f field in
    let same : (field_of l s n.number).subtrahend ≡ Some t = ap (λ (g : Field). g.subtrahend) n.is ∙ is in
    elim (cases_Bool (has_subtrahend l s n.number)) [
      | inl behind ↦
          let there : Some (target_of_relocation l s (n.number - 1)) ≡ Some t =
          sym (ap (λ (b : Bool). if b then Some (target_of_relocation l s (n.number - 1)) else None) behind) ∙ same in
          let target_is : target_of_relocation l s (n.number - 1) ≡ t = cc in
          let type = subtractor_type l s n.number behind in
          let within = before_it n.number n.within in
          let lead = somewhere (target_of_relocation l s (n.number - 1))
          (or_left (is_defined (target_of_relocation l s (n.number - 1))) (is_import (target_of_relocation l s (n.number - 1)))
          (ap is_defined target_is ∙ moves)) in
          subst (HasPlace l) target_is
          (relocation_has l s (n.number - 1) (ByRelocation s (n.number - 1)) objects (carried_section l s objects one) within
          (carried_use l s (n.number - 1) one within) refl (ap (λ (k : ℕ). k == ARM64_RELOC_ADDEND) type) lead.0 lead.1)
      | inr alone ↦
          let none : None ≡ Some t = sym (ap (λ (b : Bool). if b then Some (target_of_relocation l s (n.number - 1)) else None) alone)
          ∙ same in
          absurd (cc)
    ]
  where
    before_it : (n : ℕ) → n < (header_at l s).nreloc → n - 1 < (header_at l s).nreloc
    before_it n lt = omega (arith, lt)

-- the symbol number of a relocation has 24 bits
symbol_fits : (b : List ℕ) (k r : ℕ) → (relocation_at b k r).r_symbolnum < 2 ^ 24
unfolding relocation_at reading
symbol_fits b k r = omega arith

signed_24 : (x : ℕ) → x < 2 ^ 24 → signed 24 x < 2 ^ 64
signed_24 x fits = elim (nat_lt x (2 ^ 23)) as
    (λ t. (if t then x else x + (2 ^ 64 - 2 ^ 24)) < 2 ^ 64) [ true ↦ omega (arith, fits) | false ↦ omega (arith, fits) ]

signed_32 : (x : ℕ) → x < 2 ^ 32 → signed 32 x < 2 ^ 64
signed_32 x fits = elim (nat_lt x (2 ^ 31)) as
    (λ t. (if t then x else x + (2 ^ 64 - 2 ^ 32)) < 2 ^ 64) [ true ↦ omega (arith, fits) | false ↦ omega (arith, fits) ]

-- the kind of a type
chain_branch : (a x b c d e f g : Bool)
    → (if a then (if x then Difference else Pointer) else if b then Branch else if c then Page else if d then Offset else if e then SlotPage
    else if f then SlotOffset else if g then SlotDistance else NoKind) ≡ Branch → b ≡ true
chain_branch true true b c d e f g h = absurd (cc)
chain_branch true false b c d e f g h = absurd (cc)
chain_branch false x true c d e f g h = refl
chain_branch false x false true d e f g h = absurd (cc)
chain_branch false x false false true e f g h = absurd (cc)
chain_branch false x false false false true f g h = absurd (cc)
chain_branch false x false false false false true g h = absurd (cc)
chain_branch false x false false false false false true h = absurd (cc)
chain_branch false x false false false false false false h = absurd (cc)

pub branch_type : (t : ℕ) (b : Bool) → kind_of t b ≡ Branch → t ≡ ARM64_RELOC_BRANCH26
branch_type t b h =
    eqb-true t ARM64_RELOC_BRANCH26
    (chain_branch (t == ARM64_RELOC_UNSIGNED) b (t == ARM64_RELOC_BRANCH26) (t == ARM64_RELOC_PAGE21) (t == ARM64_RELOC_PAGEOFF12)
    ((t == ARM64_RELOC_GOT_LOAD_PAGE21) || (t == ARM64_RELOC_TLVP_LOAD_PAGE21))
    ((t == ARM64_RELOC_GOT_LOAD_PAGEOFF12) || (t == ARM64_RELOC_TLVP_LOAD_PAGEOFF12))
    (t == ARM64_RELOC_POINTER_TO_GOT) h)

-- an addend in front of a field is below 2 ^ 64
abbrev pub is_plain_kind : Kind → Bool
is_plain_kind Pointer = false
is_plain_kind Difference = false
is_plain_kind k = true

not_unsigned : (t : ℕ) (b : Bool) → is_plain_kind (kind_of t b) ≡ true → (t == ARM64_RELOC_UNSIGNED) ≡ false
not_unsigned t b h = elim (cases_Bool (t == ARM64_RELOC_UNSIGNED)) [
  | inl is ↦ absurd (by b (rw is at h))
  | inr other ↦ other
]
  where
    by : (x : Bool) → is_plain_kind (if x then Difference else Pointer) ≡ true → ⊥
    by true h = true≢false (sym h)
    by false h = true≢false (sym h)

pub plain_addend : (l : Link) (s : SectionId) (f : Field) → Contains (fields_of l s) f
    → is_plain_kind (kind_of f.type (is_some f.subtrahend)) ≡ true
    → f.addend < 2 ^ 64
plain_addend l s f field kind =
    let n = field_number l s f field in
    let type : (relocation_in l s n.number).r_type ≡ f.type = ap (λ (g : Field). g.type) n.is in
    let other = not_unsigned f.type (is_some f.subtrahend) kind in
    subst (λ (g : Field). g.addend < 2 ^ 64) n.is
    (by ((relocation_in l s n.number).r_type == ARM64_RELOC_UNSIGNED) (has_addend l s n.number) n.number
    (ap (λ (t : ℕ). t == ARM64_RELOC_UNSIGNED) type ∙ other))
  where
    by : (a b : Bool) (r : ℕ) → a ≡ false
        → (if a then pointer_addend l s r else if b then signed 24 (relocation_in l s (r - 1)).r_symbolnum else 0) < 2 ^ 64
    by true b r is = absurd (true≢false is)
    by false true r is = signed_24 (relocation_in l s (r - 1)).r_symbolnum (symbol_fits (object_of l s.file) s.section (r - 1))
    by false false r is = omega arith

-- a branch to an import has no addend
branch_called : (l : Link) (s : SectionId) (r : ℕ) → (relocation_in l s r).r_type ≡ ARM64_RELOC_BRANCH26 → is_supported l s r ≡ true
    → may_be_called l s r ≡ true
unfolding is_supported
branch_called l s r is h =
    let fits : (has_form (relocation_in l s r) 2 true true && is_branch (content_of l s r) && may_be_called l s r) ≡ true =
    pick ((relocation_in l s r).r_type == ARM64_RELOC_BRANCH26)
    (has_form (relocation_in l s r) 2 true true && is_branch (content_of l s r) && may_be_called l s r) _
    (eq-eqb (relocation_in l s r).r_type ARM64_RELOC_BRANCH26 is)
    (skip ((relocation_in l s r).r_type == ARM64_RELOC_SUBTRACTOR) (difference_fits l s r && begins_pair l s r) _
    (ap (λ (t : ℕ). t == ARM64_RELOC_SUBTRACTOR) is)
    (skip ((relocation_in l s r).r_type == ARM64_RELOC_UNSIGNED) (pointer_fits l s r) _ (ap (λ (t : ℕ). t == ARM64_RELOC_UNSIGNED) is) h))
    in
    (and_parts (has_form (relocation_in l s r) 2 true true && is_branch (content_of l s r)) (may_be_called l s r) fits).1

import_defined : (t : Target) → is_import t ≡ true → is_defined t ≡ false
import_defined (target.Section file section offset) h = absurd (true≢false (sym h))
import_defined (target.Common id) h = absurd (true≢false (sym h))
import_defined (target.Import id) h = refl
import_defined target.Base h = absurd (true≢false (sym h))
import_defined (target.Absolute value) h = refl
import_defined target.None h = refl

pub import_addend : (l : Link) (s : SectionId) (f : Field) → RelocationsAreSupported l → Contains (carried_of l) s
    → Contains (fields_of l s) f
    → kind_of f.type (is_some f.subtrahend) ≡ Branch → is_import f.target ≡ true → f.addend ≡ 0
import_addend l s f sound one field kind import =
    let n = field_number l s f field in
    let type : (relocation_in l s n.number).r_type ≡ ARM64_RELOC_BRANCH26 =
    ap (λ (g : Field). g.type) n.is ∙ branch_type f.type (is_some f.subtrahend) kind in
    let target_is : target_of_relocation l s n.number ≡ f.target = ap (λ (g : Field). g.target) n.is in
    let called = branch_called l s n.number type (sound.supported s n.number one n.within) in
    let here : is_import (target_of_relocation l s n.number) ≡ true = ap is_import target_is ∙ import in
    let none : has_addend l s n.number ≡ false = elim (or_cases (is_defined (target_of_relocation l s n.number)) _ called) [
      | inl d ↦ absurd (true≢false (sym d ∙ import_defined (target_of_relocation l s n.number) here))
      | inr i ↦ not-true (has_addend l s n.number)
          (and_parts (is_import (target_of_relocation l s n.number)) (not (has_addend l s n.number)) i).1
    ] in
    sym (ap (λ (g : Field). g.addend) n.is)
    ∙ by ((relocation_in l s n.number).r_type == ARM64_RELOC_UNSIGNED) (has_addend l s n.number) n.number
    (ap (λ (t : ℕ). t == ARM64_RELOC_UNSIGNED) type) none
  where
    by : (a b : Bool) (r : ℕ) → a ≡ false → b ≡ false
        → (if a then pointer_addend l s r else if b then signed 24 (relocation_in l s (r - 1)).r_symbolnum else 0) ≡ 0
    by true b r is none = absurd (true≢false is)
    by false true r is none = absurd (true≢false none)
    by false false r is none = refl

-- the content of four bytes of an object has 32 bits
bytes_below : (xs : List ℕ) (k : ℕ) → All (λ (x : ℕ). x < 256) xs → slice_index xs k < 256
bytes_below xs k all = elim (cases_lt k (length xs)) [
  | inl lt ↦ all k 0 lt
  | inr past ↦ omega (arith, get_or_past xs k 0 past)
]

four_below : (xs : List ℕ) (at : ℕ) → All (λ (x : ℕ). x < 256) xs → le_at 4 xs at < 2 ^ 32
unfolding le_at
four_below xs at all =
    let rest = All-drop (λ (x : ℕ). x < 256) at xs all in
    omega (
      arith,
      bytes_below (drop at xs) 0 rest,
      bytes_below (drop at xs) 1 rest,
      bytes_below (drop at xs) 2 rest,
      bytes_below
          (drop at xs) 3 rest,
    )

section_below : (b : List ℕ) (k : ℕ) → All (λ (x : ℕ). x < 256) b → All (λ (x : ℕ). x < 256) (section_bytes b k)
unfolding section_bytes
section_below b k all = by (is_zerofill (section_at b k))
  where
    by : (t : Bool)
        → All (λ (x : ℕ). x < 256)
        (if t then [] else slice_range b (section_at b k).offset ((section_at b k).offset + (section_at b k).size))
    by true = λ i d lt. absurd (omega (arith, lt))
    by false = All-take (λ (x : ℕ). x < 256) _ (drop (section_at b k).offset b)
        (All-drop (λ (x : ℕ). x < 256) (section_at b k).offset b all)

chain_difference : (a x b c d e f g : Bool)
    → (if a then (if x then Difference else Pointer) else if b then Branch else if c then Page else if d then Offset else if e then SlotPage
    else if f then SlotOffset else if g then SlotDistance else NoKind) ≡ Difference → (a ≡ true) × (x ≡ true)
chain_difference true true b c d e f g h = (refl, refl)
chain_difference true false b c d e f g h = absurd (cc)
chain_difference false x true c d e f g h = absurd (cc)
chain_difference false x false true d e f g h = absurd (cc)
chain_difference false x false false true e f g h = absurd (cc)
chain_difference false x false false false true f g h = absurd (cc)
chain_difference false x false false false false true g h = absurd (cc)
chain_difference false x false false false false false true h = absurd (cc)
chain_difference false x false false false false false false h = absurd (cc)

difference_kind : (t : ℕ) (b : Bool) → kind_of t b ≡ Difference → ((t == ARM64_RELOC_UNSIGNED) ≡ true) × (b ≡ true)
difference_kind t b h =
    chain_difference (t == ARM64_RELOC_UNSIGNED) b (t == ARM64_RELOC_BRANCH26) (t == ARM64_RELOC_PAGE21) (t == ARM64_RELOC_PAGEOFF12)
    ((t == ARM64_RELOC_GOT_LOAD_PAGE21) || (t == ARM64_RELOC_TLVP_LOAD_PAGE21))
    ((t == ARM64_RELOC_GOT_LOAD_PAGEOFF12) || (t == ARM64_RELOC_TLVP_LOAD_PAGEOFF12))
    (t == ARM64_RELOC_POINTER_TO_GOT) h

some_behind : (b : Bool) (t : Target) → is_some (if b then Some t else None) ≡ true → b ≡ true
some_behind true t h = refl
some_behind false t h = absurd (true≢false (sym h))

pub difference_addend : (l : Link) (s : SectionId) (f : Field) → ObjectsAreRead l → ObjectsAreBytes l → Contains (carried_of l) s
    → Contains (fields_of l s) f
    → kind_of f.type (is_some f.subtrahend) ≡ Difference → f.width ≡ 4 → f.addend < 2 ^ 64
difference_addend l s f objects bytes one field kind wide =
    let n = field_number l s f field in
    let h = carried_section l s objects one in
    let width : width_of l s n.number ≡ 4 = ap (λ (g : Field). g.width) n.is ∙ wide in
    let read = bytes s.file h.file.bytes (
      h.file.within,
      get_or_default l.inputs s.file (Object h.file.bytes) no_input h.file.within
          ∙ h.file.is,
    ) in
    let own : All (λ (x : ℕ). x < 256) (object_of l s.file) = subst (λ (b : List ℕ). All (λ (x : ℕ). x < 256) b)
    (sym (ap object_bytes h.file.is)) read in
    let all = section_below (object_of l s.file) s.section own in
    let content : content_of l s n.number < 2 ^ 32 =
    subst (λ (w : ℕ). le_at w (section_bytes (object_of l s.file) s.section) (relocation_in l s n.number).r_address < 2 ^ 32) (sym width)
    (four_below (section_bytes (object_of l s.file) s.section) (relocation_in l s n.number).r_address all) in
    let k = difference_kind f.type (is_some f.subtrahend) kind in
    let type : ((relocation_in l s n.number).r_type == ARM64_RELOC_UNSIGNED) ≡ true = ap
    (λ (g : Field). g.type == ARM64_RELOC_UNSIGNED) n.is ∙ k.0 in
    let behind = some_behind (has_subtrahend l s n.number) (target_of_relocation l s (n.number - 1))
    (ap (λ (g : Field). is_some g.subtrahend) n.is ∙ k.1) in
    let eight : 8 * width_of l s n.number ≡ 32 = omega (arith, width) in
    subst (λ (g : Field). g.addend < 2 ^ 64) n.is
    (by ((relocation_in l s n.number).r_type == ARM64_RELOC_UNSIGNED) (has_subtrahend l s n.number) n.number type behind
    (subst (λ (m : ℕ). signed m (content_of l s n.number) < 2 ^ 64) (sym eight) (signed_32 (content_of l s n.number) content)))
  where
    by : (a b : Bool) (r : ℕ) → a ≡ true → b ≡ true → signed (8 * width_of l s r) (content_of l s r) < 2 ^ 64
        → (if a then (if b then signed (8 * width_of l s r) (content_of l s r) else if (relocation_in l s r).r_extern then content_of l s r
        else (content_of l s r + (2 ^ 64 - (header_at l (section_named l s r)).addr)) % 2 ^ 64)
        else if has_addend l s r then signed 24 (relocation_in l s (r - 1)).r_symbolnum else 0) < 2 ^ 64
    by true true r is behind fits = fits
    by true false r is behind fits = absurd (true≢false (sym behind))
    by false b r is behind fits = absurd (true≢false (sym is))
