-- A relocation is a pointer of 8 bytes where it is of the plain type, has the length of 8 bytes and no subtrahend. Its addend is
-- then its content, or that less the address of the section that it names by number.
use Rattle.std.proofs.Common.{◌≡◌, ℕ, ◌-◌, ◌*◌, ◌^◌, ◌<◌, ◌≤◌, ◌⊎◌, inl, inr, Bool, true, false, ◌&&◌, ◌||◌, not, ◌==◌, Some, None, is_some, refl, sym, ap, ◌∙◌, subst, arith, if◌then◌else◌}
use Rattle.std.proofs.lemmas.Bool.{eqb-true, cases_lt}
use Rattle.macho_bytes.specs.Numbers.{le_at, signed}
use Rattle.macho_records.specs.declared.constants.TheConstants.{ARM64_RELOC_BRANCH26, ARM64_RELOC_GOT_LOAD_PAGE21, ARM64_RELOC_GOT_LOAD_PAGEOFF12, ARM64_RELOC_PAGE21, ARM64_RELOC_PAGEOFF12, ARM64_RELOC_POINTER_TO_GOT, ARM64_RELOC_TLVP_LOAD_PAGE21, ARM64_RELOC_TLVP_LOAD_PAGEOFF12, ARM64_RELOC_UNSIGNED}
use Rattle.macho_model.specs.Objects.{section_bytes}
use Rattle.macho_model.specs.Links.{Link, SectionId, object_of}
use Rattle.macho_model.specs.Needs.{relocation_in}
use Rattle.macho_model.specs.Targets.{target_of_relocation}
use Rattle.macho_model.specs.Fields.{Field, field_of, width_of, content_of, has_subtrahend, has_addend, addend_of, pointer_addend}
use Rattle.macho_model.specs.Stands.{Kind, Pointer, Difference, Branch, Page, Offset, SlotPage, SlotOffset, SlotDistance, NoKind, kind_of}
use Rattle.macho_model.specs.Values.{is_pointer}
use Rattle.macho_model.proofs.Words.{subtrahend_of}
use Rattle.macho_needs.specs.Noted.{pointer_of, referent}
use Rattle.macho_relocation_scan.specs.steps.Windows.{subtracted}
use Rattle.macho_relocation_scan.specs.steps.Sections.{is_plain, pointer_at, addend_by}
use Rattle.macho_relocation_scan.proofs.Supporting.{window_of, subtracted_is}

is_ptr : Kind → Bool
is_ptr Pointer = true
is_ptr kind = false

pointer_by : (f : Field) (k : Kind) → kind_of f.type (is_some f.subtrahend) ≡ k → is_pointer f ≡ ((f.width == 8) && is_ptr k)
unfolding is_ptr
pointer_by f Pointer e = rw e refl
pointer_by f Difference e = rw e refl
pointer_by f Branch e = rw e refl
pointer_by f Page e = rw e refl
pointer_by f Offset e = rw e refl
pointer_by f SlotPage e = rw e refl
pointer_by f SlotOffset e = rw e refl
pointer_by f SlotDistance e = rw e refl
pointer_by f NoKind e = rw e refl

-- no other type has the kind of a pointer
rest_kind : (b p o pl ol g : Bool)
    → is_ptr (if b then Branch else if p then Page else if o then Offset else if pl then SlotPage else if ol then SlotOffset else if g
    then SlotDistance else NoKind) ≡ false
unfolding is_ptr
rest_kind true p o pl ol g = refl
rest_kind false true o pl ol g = refl
rest_kind false false true pl ol g = refl
rest_kind false false false true ol g = refl
rest_kind false false false false true g = refl
rest_kind false false false false false true = refl
rest_kind false false false false false false = refl

kind_is : (type : ℕ) (b : Bool) → is_ptr (kind_of type b) ≡ ((type == ARM64_RELOC_UNSIGNED) && not b)
unfolding is_ptr
kind_is type b = by (type == ARM64_RELOC_UNSIGNED) refl b
  where
    by : (x : Bool) → (type == ARM64_RELOC_UNSIGNED) ≡ x → (c : Bool) → is_ptr (kind_of type c) ≡ ((type == ARM64_RELOC_UNSIGNED) && not c)
    by true e true = rw e refl
    by true e false = rw e refl
    by false e c = rw e (rest_kind (type == ARM64_RELOC_BRANCH26) (type == ARM64_RELOC_PAGE21) (type == ARM64_RELOC_PAGEOFF12)
        ((type == ARM64_RELOC_GOT_LOAD_PAGE21) || (type == ARM64_RELOC_TLVP_LOAD_PAGE21))
        ((type == ARM64_RELOC_GOT_LOAD_PAGEOFF12) || (type == ARM64_RELOC_TLVP_LOAD_PAGEOFF12))
        (type == ARM64_RELOC_POINTER_TO_GOT))

-- a length of 8 bytes
eight : (n : ℕ) → n < 4 → (2 ^ n == 8) ≡ (n == 3)
eight n small = by (cases_lt n 1) (cases_lt n 2) (cases_lt n 3)
  where
    at : (m : ℕ) → n ≡ m → (2 ^ m == 8) ≡ (m == 3) → (2 ^ n == 8) ≡ (n == 3)
    at m e h = subst (λ k. (2 ^ k == 8) ≡ (k == 3)) (sym e) h

    by : (n < 1) ⊎ (1 ≤ n) → (n < 2) ⊎ (2 ≤ n) → (n < 3) ⊎ (3 ≤ n) → (2 ^ n == 8) ≡ (n == 3)
    by (inl h) x y = at 0 (omega (arith, h)) refl
    by (inr h) (inl g) y = at 1 (omega (arith, h, g)) refl
    by (inr h) (inr g) (inl f) = at 2 (omega (arith, g, f)) refl
    by (inr h) (inr g) (inr f) = at 3 (omega (arith, f, small)) refl

some_if : (l : Link) (s : SectionId) (r : ℕ) → is_some (subtrahend_of l s r) ≡ has_subtrahend l s r
some_if l s r = by (has_subtrahend l s r)
  where
    by : (b : Bool) → is_some (if b then Some (target_of_relocation l s (r - 1)) else None) ≡ b
    by true = refl
    by false = refl

-- a relocation is a pointer
pub plain_is : (l : Link) (s : SectionId) (r : ℕ) → (relocation_in l s r).r_length < 4
    → is_plain (window_of l s r) ≡ is_pointer (field_of l s r)
unfolding is_ptr
plain_is l s r small =
    regroup ((relocation_in l s r).r_type == ARM64_RELOC_UNSIGNED) ((relocation_in l s r).r_length == 3)
    (not (subtracted (window_of l s r)))
    ∙ ap (λ b. b && (((relocation_in l s r).r_type == ARM64_RELOC_UNSIGNED) && not (subtracted (window_of l s r))))
    (sym (eight (relocation_in l s r).r_length small))
    ∙ ap (λ b. (width_of l s r == 8) && (((relocation_in l s r).r_type == ARM64_RELOC_UNSIGNED) && not b))
    (subtracted_is l s r ∙ sym (some_if l s r))
    ∙ ap (λ b. (width_of l s r == 8) && b) (sym (kind_is (relocation_in l s r).r_type (is_some (subtrahend_of l s r))))
    ∙ sym (pointer_by (field_of l s r) (kind_of (relocation_in l s r).r_type (is_some (subtrahend_of l s r))) refl)
  where
    regroup : (t n b : Bool) → (t && n && b) ≡ (n && (t && b))
    regroup true true b = refl
    regroup true false b = refl
    regroup false true b = refl
    regroup false false b = refl

-- What a pointer is.
pub record IsPlain (l : Link) (s : SectionId) (r : ℕ) : Type 0 where
  pub type : (relocation_in l s r).r_type ≡ ARM64_RELOC_UNSIGNED
  pub long : (relocation_in l s r).r_length ≡ 3
  pub alone : has_subtrahend l s r ≡ false

pub plain_says : (l : Link) (s : SectionId) (r : ℕ) → is_plain (window_of l s r) ≡ true → IsPlain l s r
plain_says l s r e = record {
  type = eqb-true (relocation_in l s r).r_type ARM64_RELOC_UNSIGNED
      (one ((relocation_in l s r).r_type == ARM64_RELOC_UNSIGNED) ((relocation_in l s r).r_length == 3) (subtracted (window_of l s r)) e);
  long = eqb-true (relocation_in l s r).r_length 3
      (two ((relocation_in l s r).r_type == ARM64_RELOC_UNSIGNED) ((relocation_in l s r).r_length == 3) (subtracted (window_of l s r)) e);
  alone = sym (subtracted_is l s r) ∙ three ((relocation_in l s r).r_type == ARM64_RELOC_UNSIGNED) ((relocation_in l s r).r_length == 3)
      (subtracted (window_of l s r)) e;
}
  where
    one : (a b c : Bool) → (a && b && not c) ≡ true → a ≡ true
    one true b c t = refl
    one false b c t = t

    two : (a b c : Bool) → (a && b && not c) ≡ true → b ≡ true
    two true true c t = refl
    two true false c t = t
    two false b c t = cc

    three : (a b c : Bool) → (a && b && not c) ≡ true → c ≡ false
    three true true true t = cc
    three true true false t = refl
    three true false c t = cc
    three false b c t = cc

-- the addend of a pointer
addend_is : (l : Link) (s : SectionId) (r : ℕ) → IsPlain l s r
    → addend_by (object_of l s.file) (relocation_in l s r)
    (le_at 8 (section_bytes (object_of l s.file) s.section) (relocation_in l s r).r_address) ≡ addend_of l s r
addend_is l s r is =
    let content : content_of l s r ≡ le_at 8 (section_bytes (object_of l s.file) s.section) (relocation_in l s r).r_address
    = ap (λ n. le_at (2 ^ n) (section_bytes (object_of l s.file) s.section) (relocation_in l s r).r_address) is.long in
    let pointer : pointer_addend l s r ≡ addend_by (object_of l s.file) (relocation_in l s r) (content_of l s r)
    = ap (λ b. if b then signed (8 * width_of l s r) (content_of l s r) else addend_by (object_of l s.file) (relocation_in l s r)
    (content_of l s r)) is.alone in
    let addend : addend_of l s r ≡ pointer_addend l s r
    = ap (λ n. if n == ARM64_RELOC_UNSIGNED then pointer_addend l s r else if has_addend l s r then signed 24
    (relocation_in l s (r - 1)).r_symbolnum else 0) is.type in
    ap (addend_by (object_of l s.file) (relocation_in l s r)) (sym content) ∙ sym (addend ∙ pointer)

pub pointer_is : (l : Link) (s : SectionId) (r : ℕ) → (relocation_in l s r).r_length < 4
    → pointer_at (object_of l s.file) s.section r ≡ pointer_of l s r
pointer_is l s r small = by (is_plain (window_of l s r)) refl
  where
    by : (x : Bool) → is_plain (window_of l s r) ≡ x → pointer_at (object_of l s.file) s.section r ≡ pointer_of l s r
    by true e =
        let is = plain_says l s r e in
        ap (λ b. if b then Some (addend_by (object_of l s.file) (relocation_in l s r)
        (le_at 8 (section_bytes (object_of l s.file) s.section) (relocation_in l s r).r_address)) else None) e
        ∙ ap Some (addend_is l s r is) ∙ sym (ap (λ b. if b then Some (addend_of l s r) else None) (sym (plain_is l s r small) ∙ e))
    by false e =
        ap (λ b. if b then Some (addend_by (object_of l s.file) (relocation_in l s r)
        (le_at 8 (section_bytes (object_of l s.file) s.section) (relocation_in l s r).r_address)) else None) e
        ∙ sym (ap (λ b. if b then Some (addend_of l s r) else None) (sym (plain_is l s r small) ∙ e))

-- a pointer leads where its relocation does
pub plain_leads : (l : Link) (s : SectionId) (r : ℕ) → IsPlain l s r → referent l s r ≡ target_of_relocation l s r
plain_leads l s r is = rw is.type refl
