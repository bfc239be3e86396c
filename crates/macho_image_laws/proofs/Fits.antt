-- The fields of supported relocations.
--
-- By its type's row a field is a pointer of 8 bytes, or its targets move with the image: the types are taken one by one, and of a
-- difference both relocations are supported. That two fields are one or apart stands beside, in `FieldsApart`.
use Rattle.std.proofs.Common.{◌≡◌, ℕ, ◌-◌, ◌^◌, ◌⊎◌, ◌==◌, ◌&&◌, ◌||◌, not, Bool, true, false, if◌then◌else◌, refl, sym, ap, subst, ◌∙◌, arith, inl, inr, nat_le}
use Rattle.std.specs.Prelude.{Contains, is_some}
use Rattle.std.proofs.lemmas.Bool.{cases_eq, cases_Bool, and_parts, and_from, or_cases, or_left, or_right, eqb-true, eq-eqb, ne_eqb, not-true, true≢false}
use Rattle.macho_records.specs.declared.constants.TheConstants.{ARM64_RELOC_ADDEND, ARM64_RELOC_BRANCH26, ARM64_RELOC_GOT_LOAD_PAGE21, ARM64_RELOC_GOT_LOAD_PAGEOFF12, ARM64_RELOC_PAGE21, ARM64_RELOC_PAGEOFF12, ARM64_RELOC_POINTER_TO_GOT, ARM64_RELOC_SUBTRACTOR, ARM64_RELOC_TLVP_LOAD_PAGE21, ARM64_RELOC_TLVP_LOAD_PAGEOFF12, ARM64_RELOC_UNSIGNED}
use Rattle.macho_model.specs.Links.{Link, SectionId, carried_of}
use Rattle.macho_model.specs.Needs.{relocation_in}
use Rattle.macho_model.specs.Targets.{target_of_relocation, is_defined, is_import}
use Rattle.macho_model.specs.Fields.{Field, field_of, fields_of, is_prefix_type, has_subtrahend, is_difference, content_of}
use Rattle.macho_model.specs.Words.{is_adrp, is_branch}
use Rattle.macho_model.specs.Rows.{has_form, begins_pair, is_none, difference_fits, pointer_fits, defined_or_import, is_supported}
use Rattle.macho_model.specs.Supported.{may_be_called, takes_offset, load_fits, RelocationsAreSupported}
use Rattle.macho_model.specs.SlideLaws.{targets_move, subtrahend_moves}
use Rattle.macho_model.specs.Stands.{Kind, Pointer, Difference, Branch, Page, Offset, SlotPage, SlotOffset, SlotDistance, kind_of, is_template_offset}
use Rattle.macho_model.specs.Values.{is_pointer, is_absolute_target, needs_fixup}
pub use Rattle.macho_model.proofs.FixedPointers.{fixed_pointer}
pub use Rattle.macho_image_laws.proofs.FieldsApart.{IsFieldOf, field_number, AreDisjoint, fields_apart}
use Rattle.macho_bytes.proofs.Bools.{pick, skip}

-- what a field is, of a kind: a pointer of 8 bytes to something, or one whose targets move
pub record IsWholePointer (f : Field) : Type 0 where
  pub kind : kind_of f.type (is_some f.subtrahend) ≡ Pointer
  pub wide : f.width ≡ 8
  pub leads : is_none f.target ≡ false

abbrev pub FieldFits : Field → Type 0
FieldFits f = IsWholePointer f ⊎ (targets_move f (kind_of f.type (is_some f.subtrahend)) ≡ true)

unsigned_behind : (t : ℕ) (b : Bool) → t ≡ ARM64_RELOC_UNSIGNED → b ≡ true → kind_of t b ≡ Difference
unsigned_behind t b is behind = rw (is, behind) refl

unsigned_alone : (t : ℕ) (b : Bool) → t ≡ ARM64_RELOC_UNSIGNED → b ≡ false → kind_of t b ≡ Pointer
unsigned_alone t b is alone = rw (is, alone) refl

-- a difference: of a pair, whose targets move
some_behind : (l : Link) (s : SectionId) (r : ℕ) → has_subtrahend l s r ≡ true → is_some (field_of l s r).subtrahend ≡ true
some_behind l s r h = rw h refl

none_behind : (l : Link) (s : SectionId) (r : ℕ) → has_subtrahend l s r ≡ false → is_some (field_of l s r).subtrahend ≡ false
none_behind l s r h = rw h refl

subtracted_moves : (l : Link) (s : SectionId) (r : ℕ) → has_subtrahend l s r ≡ true → is_supported l s (r - 1) ≡ true
    → subtrahend_moves (field_of l s r).subtrahend ≡ true
unfolding is_supported
subtracted_moves l s r h supported =
    let d = (and_parts (nat_le 1 r) (is_difference (relocation_in l s (r - 1)) (relocation_in l s r)) h).1 in
    let q = relocation_in l s (r - 1) in
    let t = relocation_in l s r in
    let sub = (and_parts (q.r_type == ARM64_RELOC_SUBTRACTOR) _ (and_parts
    ((q.r_type == ARM64_RELOC_SUBTRACTOR) && (t.r_type == ARM64_RELOC_UNSIGNED)) _
    (and_parts ((q.r_type == ARM64_RELOC_SUBTRACTOR) && (t.r_type == ARM64_RELOC_UNSIGNED) && (q.r_address == t.r_address)) _ d).0).0).0 in
    let type : (relocation_in l s (r - 1)).r_type ≡ ARM64_RELOC_SUBTRACTOR = eqb-true
    (relocation_in l s (r - 1)).r_type ARM64_RELOC_SUBTRACTOR sub in
    let fits : (difference_fits l s (r - 1) && begins_pair l s (r - 1)) ≡ true =
    pick ((relocation_in l s (r - 1)).r_type == ARM64_RELOC_SUBTRACTOR) (difference_fits l s (r - 1) && begins_pair l s (r - 1)) _ sub
    (skip ((relocation_in l s (r - 1)).r_type == ARM64_RELOC_UNSIGNED) (pointer_fits l s (r - 1)) _
    (ap (λ (n : ℕ). n == ARM64_RELOC_UNSIGNED) type) supported) in
    let difference = (and_parts (difference_fits l s (r - 1)) (begins_pair l s (r - 1)) fits).0 in
    let moves : is_defined (target_of_relocation l s (r - 1)) ≡ true = (and_parts _
    (is_defined (target_of_relocation l s (r - 1))) difference).1 in
    rw h moves

of_unsigned : (l : Link) (s : SectionId) (r : ℕ) → (relocation_in l s r).r_type ≡ ARM64_RELOC_UNSIGNED → pointer_fits l s r ≡ true
    → (has_subtrahend l s r ≡ true → is_supported l s (r - 1) ≡ true) → FieldFits (field_of l s r)
of_unsigned l s r type h before =
    elim (cases_Bool (has_subtrahend l s r)) [
      | inl behind ↦
          let fits : difference_fits l s r ≡ true = rw behind at h in
          let moves = (and_parts (has_form (relocation_in l s r) 2 false true || has_form (relocation_in l s r) 3 false true)
          (is_defined (target_of_relocation l s r)) fits).1 in
          let kind : kind_of (relocation_in l s r).r_type (is_some (field_of l s r).subtrahend) ≡ Difference =
          unsigned_behind (relocation_in l s r).r_type (is_some (field_of l s r).subtrahend) type (some_behind l s r behind) in
          inr (ap (targets_move (field_of l s r)) kind ∙ and_from (is_defined (target_of_relocation l s r)) _ moves
          (subtracted_moves l s r behind (before behind)))
      | inr alone ↦
          let fits : (((relocation_in l s r).r_length == 3) && not (relocation_in l s r).r_pcrel && not
          (is_none (target_of_relocation l s r))) ≡ true = rw alone at h in
          let both = and_parts (((relocation_in l s r).r_length == 3) && not (relocation_in l s r).r_pcrel) _ fits in
          let three = eqb-true (relocation_in l s r).r_length 3 (and_parts ((relocation_in l s r).r_length == 3) _ both.0).0 in
          inl (record {
            kind = unsigned_alone (relocation_in l s r).r_type (is_some (field_of l s r).subtrahend) type (none_behind l s r alone);
            wide = ap (λ (n : ℕ). 2 ^ n) three;
            leads = not-true (is_none (target_of_relocation l s r)) both.1;
          })
    ]

-- the other types
moves_by : (l : Link) (s : SectionId) (r : ℕ) (kind : Kind) → ((b : Bool) → kind_of (relocation_in l s r).r_type b ≡ kind)
    → targets_move (field_of l s r) kind ≡ true
    → FieldFits (field_of l s r)
moves_by l s r kind is moves = inr (ap (targets_move (field_of l s r)) (is (is_some (field_of l s r).subtrahend)) ∙ moves)

called : (l : Link) (s : SectionId) (r : ℕ) → may_be_called l s r ≡ true
    → (is_defined (target_of_relocation l s r) || is_import (target_of_relocation l s r)) ≡ true
called l s r h = elim (or_cases (is_defined (target_of_relocation l s r)) _ h) [
  | inl d ↦ or_left (is_defined (target_of_relocation l s r)) (is_import (target_of_relocation l s r)) d
  | inr i ↦ or_right (is_defined (target_of_relocation l s r)) (is_import (target_of_relocation l s r))
      (and_parts (is_import (target_of_relocation l s r)) _ i).0
]

-- THE field of a supported relocation
pub supported_fits : (l : Link) (s : SectionId) (r : ℕ) → is_supported l s r ≡ true → is_prefix_type (relocation_in l s r).r_type ≡ false
    → (has_subtrahend l s r ≡ true → is_supported l s (r - 1) ≡ true) → FieldFits (field_of l s r)
unfolding is_supported
supported_fits l s r h whole before =
    elim (cases_eq (relocation_in l s r).r_type ARM64_RELOC_UNSIGNED) [
      | inl is ↦
          let fits : pointer_fits l s r ≡ true =
          pick ((relocation_in l s r).r_type == ARM64_RELOC_UNSIGNED) (pointer_fits l s r) _
          (eq-eqb (relocation_in l s r).r_type ARM64_RELOC_UNSIGNED is) h in
          of_unsigned l s r is fits before
      | inr n0 ↦ elim (cases_eq (relocation_in l s r).r_type ARM64_RELOC_SUBTRACTOR) [
        | inl is ↦ let no : true ≡ false = rw is at whole in absurd (true≢false no)
        | inr n1 ↦ elim (cases_eq (relocation_in l s r).r_type ARM64_RELOC_BRANCH26) [
          | inl is ↦
              let fits : (has_form (relocation_in l s r) 2 true true && is_branch (content_of l s r) && may_be_called l s r) ≡ true =
              pick ((relocation_in l s r).r_type == ARM64_RELOC_BRANCH26)
              (has_form (relocation_in l s r) 2 true true && is_branch (content_of l s r) && may_be_called l s r) _
              (eq-eqb (relocation_in l s r).r_type ARM64_RELOC_BRANCH26 is)
              (skip ((relocation_in l s r).r_type == ARM64_RELOC_SUBTRACTOR) (difference_fits l s r && begins_pair l s r) _
              (ne_eqb (relocation_in l s r).r_type ARM64_RELOC_SUBTRACTOR n1)
              (skip ((relocation_in l s r).r_type == ARM64_RELOC_UNSIGNED) (pointer_fits l s r) _
              (ne_eqb (relocation_in l s r).r_type ARM64_RELOC_UNSIGNED n0) h)) in
              moves_by l s r Branch (λ b. rw is refl) (called l s r (and_parts
              (has_form (relocation_in l s r) 2 true true && is_branch (content_of l s r)) _ fits).1)
          | inr n2 ↦ elim (cases_eq (relocation_in l s r).r_type ARM64_RELOC_PAGE21) [
            | inl is ↦
                let fits : (has_form (relocation_in l s r) 2 true true && is_adrp (content_of l s r) && is_defined
                (target_of_relocation l s r)) ≡ true = rw is at h in
                moves_by l s r Page (λ b. rw is refl) (and_parts (has_form (relocation_in l s r) 2 true true && is_adrp (content_of l s r))
                _ fits).1
            | inr n3 ↦ elim (cases_eq (relocation_in l s r).r_type ARM64_RELOC_PAGEOFF12) [
              | inl is ↦
                  let fits : (has_form (relocation_in l s r) 2 false true && takes_offset (content_of l s r) && is_defined
                  (target_of_relocation l s r)) ≡ true = rw is at h in
                  moves_by l s r Offset (λ b. rw is refl) (and_parts (has_form (relocation_in l s r) 2 false true && takes_offset
                  (content_of l s r)) _ fits).1
              | inr n4 ↦ elim (cases_eq (relocation_in l s r).r_type ARM64_RELOC_GOT_LOAD_PAGE21) [
                | inl is ↦
                    let fits : (has_form (relocation_in l s r) 2 true true && is_adrp (content_of l s r) && defined_or_import
                    (target_of_relocation l s r)) ≡ true = rw is at h in
                    moves_by l s r SlotPage (λ b. rw is refl) (and_parts
                    (has_form (relocation_in l s r) 2 true true && is_adrp (content_of l s r)) _ fits).1
                | inr n5 ↦ elim (cases_eq (relocation_in l s r).r_type ARM64_RELOC_TLVP_LOAD_PAGE21) [
                  | inl is ↦
                      let fits : (has_form (relocation_in l s r) 2 true true && is_adrp (content_of l s r) && defined_or_import
                      (target_of_relocation l s r)) ≡ true = rw is at h in
                      moves_by l s r SlotPage (λ b. rw is refl) (and_parts
                      (has_form (relocation_in l s r) 2 true true && is_adrp (content_of l s r)) _ fits).1
                  | inr n6 ↦ from_load n0 n1 n2 n3 n4 n5 n6
                ]
              ]
            ]
          ]
        ]
      ]
    ]
  where
    t : ℕ
    t = (relocation_in l s r).r_type

    from_load : ((relocation_in l s r).r_type ≡ ARM64_RELOC_UNSIGNED → ⊥) → ((relocation_in l s r).r_type ≡ ARM64_RELOC_SUBTRACTOR → ⊥)
        → ((relocation_in l s r).r_type ≡ ARM64_RELOC_BRANCH26 → ⊥) → ((relocation_in l s r).r_type ≡ ARM64_RELOC_PAGE21 → ⊥)
        → ((relocation_in l s r).r_type ≡ ARM64_RELOC_PAGEOFF12 → ⊥) → ((relocation_in l s r).r_type ≡ ARM64_RELOC_GOT_LOAD_PAGE21 → ⊥)
        → ((relocation_in l s r).r_type ≡ ARM64_RELOC_TLVP_LOAD_PAGE21 → ⊥) → FieldFits (field_of l s r)
    from_load n0 n1 n2 n3 n4 n5 n6 =
        elim (cases_eq (relocation_in l s r).r_type ARM64_RELOC_GOT_LOAD_PAGEOFF12) [
          | inl is ↦
              let fits : (has_form (relocation_in l s r) 2 false true && load_fits (content_of l s r)
              (target_of_relocation l s r) && defined_or_import (target_of_relocation l s r)) ≡ true = rw is at h in
              moves_by l s r SlotOffset (λ b. rw is refl)
              (and_parts (has_form (relocation_in l s r) 2 false true && load_fits (content_of l s r) (target_of_relocation l s r)) _
              fits).1
          | inr n7 ↦ elim (cases_eq (relocation_in l s r).r_type ARM64_RELOC_TLVP_LOAD_PAGEOFF12) [
            | inl is ↦
                let fits : (has_form (relocation_in l s r) 2 false true && load_fits (content_of l s r)
                (target_of_relocation l s r) && defined_or_import (target_of_relocation l s r)) ≡ true = rw is at h in
                moves_by l s r SlotOffset (λ b. rw is refl)
                (and_parts (has_form (relocation_in l s r) 2 false true && load_fits (content_of l s r) (target_of_relocation l s r)) _
                fits).1
            | inr n8 ↦ elim (cases_eq (relocation_in l s r).r_type ARM64_RELOC_POINTER_TO_GOT) [
              | inl is ↦ moves_by l s r SlotDistance (λ b. rw is refl) refl
              | inr n9 ↦ elim (cases_eq (relocation_in l s r).r_type ARM64_RELOC_ADDEND) [
                | inl is ↦ let no : true ≡ false = rw is at whole in absurd (true≢false no)
                | inr n10 ↦
                    let c0 = ne_eqb (relocation_in l s r).r_type ARM64_RELOC_UNSIGNED n0 in
                    let c1 = ne_eqb (relocation_in l s r).r_type ARM64_RELOC_SUBTRACTOR n1 in
                    let c2 = ne_eqb (relocation_in l s r).r_type ARM64_RELOC_BRANCH26 n2 in
                    let c3 = ne_eqb (relocation_in l s r).r_type ARM64_RELOC_PAGE21 n3 in
                    let c4 = ne_eqb (relocation_in l s r).r_type ARM64_RELOC_PAGEOFF12 n4 in
                    let c5 = ne_eqb (relocation_in l s r).r_type ARM64_RELOC_GOT_LOAD_PAGE21 n5 in
                    let c6 = ne_eqb (relocation_in l s r).r_type ARM64_RELOC_TLVP_LOAD_PAGE21 n6 in
                    let c7 = ne_eqb (relocation_in l s r).r_type ARM64_RELOC_GOT_LOAD_PAGEOFF12 n7 in
                    let c8 = ne_eqb (relocation_in l s r).r_type ARM64_RELOC_TLVP_LOAD_PAGEOFF12 n8 in
                    let c9 = ne_eqb (relocation_in l s r).r_type ARM64_RELOC_POINTER_TO_GOT n9 in
                    let c10 = ne_eqb (relocation_in l s r).r_type ARM64_RELOC_ADDEND n10 in
                    let no : false ≡ true = rw (c0, c1, c2, c3, c4, c5, c6, c7, c8, c9, c10) at h in
                    absurd (true≢false (sym no))
              ]
            ]
          ]
        ]

pub field_fits_in : (l : Link) (s : SectionId) (f : Field) → RelocationsAreSupported l → Contains (carried_of l) s
    → Contains (fields_of l s) f → FieldFits f
field_fits_in l s f sound one in_f =
    let n = field_number l s f in_f in
    subst FieldFits n.is
    (supported_fits l s n.number (sound.supported s n.number one n.within) n.whole
    (λ h. sound.supported s (n.number - 1) one (omega (arith, n.within))))

-- a pointer that the loader does not write is an offset from the template, or an absolute value
pub plain_pointer : (l : Link) (s : SectionId) (f : Field) → IsWholePointer f → needs_fixup l s f ≡ false
    → (is_template_offset l s f || is_absolute_target f.target) ≡ true
plain_pointer l s f h plain =
    elim (cases_Bool (is_template_offset l s f)) [
      | inl template ↦ or_left (is_template_offset l s f) (is_absolute_target f.target) template
      | inr other ↦ elim (cases_Bool (is_absolute_target f.target)) [
        | inl absolute ↦ or_right (is_template_offset l s f) (is_absolute_target f.target) absolute
        | inr moves ↦
            let pointer : is_pointer f ≡ true = rw (h.wide, h.kind) refl in
            let needs : needs_fixup l s f ≡ true =
            and_from (is_pointer f && not (is_absolute_target f.target)) (not (is_template_offset l s f))
            (and_from (is_pointer f) (not (is_absolute_target f.target)) pointer (ap not moves)) (ap not other) in
            absurd (true≢false (sym needs ∙ plain))
      ]
    ]
