-- Fields of supported relocations are apart.
--
-- A field is that of a relocation that is no part of another one's. Such relocations share no byte, since the first of a pair is such a
-- part; so two fields are one or apart.
use Rattle.std.proofs.Common.{◌≡◌, ℕ, ◌+◌, ◌-◌, ◌<◌, ◌≤◌, ◌⊎◌, ◌==◌, ◌&&◌, ◌||◌, not, true, false, filter, sym, ap, subst, ◌∙◌, arith, inl, inr, nat_lt}
use Rattle.std.specs.Prelude.{Contains}
use Rattle.std.proofs.lemmas.Bool.{cases_lt, and_parts, and_cases, or_cases, or_left, or_right, ltb-false, not-true, true≢false}
use Rattle.std.proofs.lemmas.List.FromFn.{length-range_with_len, get_or-range_with_len}
use Rattle.macho_records.specs.declared.constants.TheConstants.{ARM64_RELOC_ADDEND, ARM64_RELOC_SUBTRACTOR, ARM64_RELOC_UNSIGNED}
use Rattle.macho_wire.specs.declared.relocations.RelocationInfo.{RelocationInfo}
use Rattle.macho_model.specs.Links.{Link, SectionId, header_at, carried_of}
use Rattle.macho_model.specs.Needs.{relocation_in, relocations_of}
use Rattle.macho_model.specs.Fields.{Field, field_of, fields_of, is_prefix_type, is_difference, is_with_addend, takes_addend, width_of}
use Rattle.macho_model.specs.Supported.{RelocationsAreSupported}
use Rattle.macho_bytes.proofs.Members.{map_contains, filter_contains}

-- a field is that of a relocation
pub record IsFieldOf (l : Link) (s : SectionId) (f : Field) : Type 0 where
  pub number : ℕ
  pub within : number < (header_at l s).nreloc
  pub is : field_of l s number ≡ f
  pub whole : is_prefix_type (relocation_in l s number).r_type ≡ false

pub field_number : (l : Link) (s : SectionId) (f : Field) → Contains (fields_of l s) f → IsFieldOf l s f
unfolding fields_of
field_number l s f one =
    let m = map_contains (field_of l s) (filter (λ r. not (is_prefix_type (relocation_in l s r).r_type)) (relocations_of l s)) f one in
    let r = filter_contains (λ r. not (is_prefix_type (relocation_in l s r).r_type)) (relocations_of l s) m.0 m.1 in
    let n = (header_at l s).nreloc in
    let lt : r.0.0 < n = omega (arith, r.0.1, length-range_with_len 0 n) in
    let at : 0 + r.0.0 ≡ m.0 = sym (get_or-range_with_len 0 n r.0.0 m.0 lt) ∙ r.0.2 in
    record { number = m.0; within = omega (arith, lt, at); is = m.2; whole = not-true (is_prefix_type (relocation_in l s m.0).r_type) r.1 }

-- a part of another one's field is of a prefix type
no_pair : (q r : RelocationInfo) → is_prefix_type q.r_type ≡ false → (is_difference q r || is_with_addend q r) ≡ true → ⊥
no_pair q r whole pair = elim (or_cases (is_difference q r) (is_with_addend q r) pair) [
  | inl d ↦
      let sub = (and_parts (q.r_type == ARM64_RELOC_SUBTRACTOR) _ (and_parts
      ((q.r_type == ARM64_RELOC_SUBTRACTOR) && (r.r_type == ARM64_RELOC_UNSIGNED)) _
      (and_parts ((q.r_type == ARM64_RELOC_SUBTRACTOR) && (r.r_type == ARM64_RELOC_UNSIGNED) && (q.r_address == r.r_address)) _
      d).0).0).0 in
      true≢false (sym (or_left (q.r_type == ARM64_RELOC_SUBTRACTOR) (q.r_type == ARM64_RELOC_ADDEND) sub) ∙ whole)
  | inr a ↦
      let add = (and_parts (q.r_type == ARM64_RELOC_ADDEND) _ (and_parts
      ((q.r_type == ARM64_RELOC_ADDEND) && takes_addend r.r_type) _ a).0).0 in
      true≢false (sym (or_right (q.r_type == ARM64_RELOC_SUBTRACTOR) (q.r_type == ARM64_RELOC_ADDEND) add) ∙ whole)
]

-- two fields are apart
pub AreDisjoint : Field → Field → Type 0
AreDisjoint f g = (f.offset + f.width ≤ g.offset) ⊎ (g.offset + g.width ≤ f.offset)

numbers_apart : (l : Link) (s : SectionId) (q r : ℕ) → RelocationsAreSupported l → Contains (carried_of l) s → q < r
    → r < (header_at l s).nreloc
    → is_prefix_type (relocation_in l s q).r_type ≡ false
    → ((relocation_in l s q).r_address + width_of l s q ≤ (relocation_in l s r).r_address)
    ⊎ ((relocation_in l s r).r_address + width_of l s r ≤ (relocation_in l s q).r_address)
numbers_apart l s q r sound one before within whole =
    elim (sound.apart s q r one before within) [
      | inl none ↦ elim (and_cases (nat_lt (relocation_in l s q).r_address ((relocation_in l s r).r_address + width_of l s r))
          (nat_lt (relocation_in l s r).r_address ((relocation_in l s q).r_address + width_of l s q)) none) [
            | inl a ↦ inr (ltb-false (relocation_in l s q).r_address ((relocation_in l s r).r_address + width_of l s r) a)
            | inr a ↦ inl (ltb-false (relocation_in l s r).r_address ((relocation_in l s q).r_address + width_of l s q) a)
          ]
      | inr pair ↦ absurd (no_pair (relocation_in l s q) (relocation_in l s r) whole (and_parts (r == q + 1) _ pair).1)
    ]

pub fields_apart : (l : Link) (s : SectionId) (f g : Field) → RelocationsAreSupported l → Contains (carried_of l) s
    → Contains (fields_of l s) f
    → Contains (fields_of l s) g → (f ≡ g) ⊎ ((f.offset + f.width ≤ g.offset) ⊎ (g.offset + g.width ≤ f.offset))
fields_apart l s f g sound one in_f in_g =
    let m = field_number l s f in_f in
    let n = field_number l s g in_g in
    subst (λ (y : Field). (f ≡ y) ⊎ ((f.offset + f.width ≤ y.offset) ⊎ (y.offset + y.width ≤ f.offset))) n.is
    (subst (λ (x : Field). (x ≡ field_of l s n.number) ⊎ ((x.offset + x.width ≤ (field_of l s n.number).offset)
    ⊎ ((field_of l s n.number).offset + (field_of l s n.number).width ≤ x.offset))) m.is
    (elim (cases_lt m.number n.number) [
      | inl before ↦ inr (numbers_apart l s m.number n.number sound one before n.within m.whole)
      | inr le ↦ elim (cases_lt n.number m.number) [
        | inl behind ↦ inr (elim (numbers_apart l s n.number m.number sound one behind m.within n.whole) [ inl a ↦ inr a | inr a ↦ inl a ])
        | inr ge ↦ let same : m.number ≡ n.number = omega (arith, le, ge) in inl (ap (field_of l s) same)
      ]
    ]))
