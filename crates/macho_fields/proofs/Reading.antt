-- A field that was read is the field of the definitions, where its relocation is supported.
--
-- Both are made of the relocation and the one in front of it, case by case: whether there is one in front, whether the two are
-- a pair, whether a symbol or a section is named. A supported field's target is not nothing, so where a section is named it is
-- carried. And its relocation has 4 or 8 bytes, so that its content is read as the definitions read it.
use Rattle.std.proofs.Common.{◌≡◌, ℕ, ◌+◌, ◌-◌, ◌*◌, ◌%◌, ◌^◌, ◌<◌, ◌==◌, ◌&&◌, if◌then◌else◌, true, false, Bool, List, Option, Some, None, refl, sym, ap, subst, ◌∙◌, inl, inr, ◌⊎◌}
use Rattle.std.specs.Prelude.{nat_le}
use Rattle.std.proofs.lemmas.Bool.{cases_Bool}
use Rattle.macho_bytes.specs.Numbers.{le_at, signed}
use Rattle.macho_records.specs.declared.constants.TheConstants.{ARM64_RELOC_UNSIGNED, ARM64_RELOC_ADDEND}
use Rattle.macho_wire.specs.declared.relocations.RelocationInfo.{RelocationInfo}
use Rattle.macho_model.specs.declared.targets.Target.{Target}
use Rattle.macho_model.specs.declared.targets.Target.TheVariants as target
use Rattle.macho_model.specs.Objects.{num_sections, num_symbols, section_at, section_bytes}
use Rattle.macho_model.specs.Links.{Link, SectionId, object_of, header_at, is_carried}
use Rattle.macho_model.specs.Needs.{relocation_in, section_named, symbol_of_relocation}
use Rattle.macho_model.specs.Targets.{target_of_relocation}
use Rattle.macho_model.specs.Fields as model
use Rattle.macho_model.proofs.Words as words
use Rattle.macho_model.specs.Fields.{has_subtrahend, has_addend, field_of, content_of, addend_of, is_difference, is_with_addend, pointer_addend}
use Rattle.macho_model.specs.Rows.{is_none}
use Rattle.macho_model.specs.Placement.{Placed}
use Rattle.macho_model.proofs.Words.{target_of_symbol, target_of_section}
use Rattle.macho_fields.specs.declared.field.Field.{Field}
use Rattle.macho_fields.specs.declared.field.Near.{Near}
use Rattle.macho_fields.specs.Looks.{Look, Tells}
use Rattle.macho_fields.specs.steps.Fields.{seen, before, subtractor_in, addend_before, target_in, subtrahend_in, pointer_addend_in, small_addend_in, addend_in, IsNear, IsRead}
use Rattle.macho_bytes.proofs.Bools.{true_or_false}

-- what a relocation leads to
pub target_read : (l : Link) (p : Placed) (look : Look) (s : SectionId) (r : ℕ) → Tells l p look
    → ((relocation_in l s r).r_type == ARM64_RELOC_ADDEND) ≡ false
    → ((relocation_in l s r).r_extern ≡ true → (relocation_in l s r).r_symbolnum < num_symbols (object_of l s.file))
    → is_none (target_of_relocation l s r) ≡ false → target_in look s.file (relocation_in l s r) ≡ target_of_relocation l s r
unfolding target_of_relocation
target_read l p look s r tells other exists some = elim (cases_Bool rel.r_extern)
    [ inl symbol ↦ by_symbol symbol | inr section ↦ by_section section ]
  where
    rel : RelocationInfo
    rel = relocation_in l s r

    by_symbol : rel.r_extern ≡ true → target_in look s.file rel ≡ target_of_relocation l s r
    by_symbol extern =
        let named : symbol_of_relocation l s r ≡ Some (record { file = s.file; symbol = rel.r_symbolnum }) = rw (extern, other) refl in
        let left : target_in look s.file rel ≡ look.target s.file rel.r_symbolnum = rw extern refl in
        let right : target_of_relocation l s r ≡ target_of_symbol l (symbol_of_relocation l s r) = rw extern refl in
        left ∙ tells.targets s.file rel.r_symbolnum (exists extern) ∙ sym (right ∙ ap (target_of_symbol l) named)

    by_section : rel.r_extern ≡ false → target_in look s.file rel ≡ target_of_relocation l s r
    by_section plain =
        let left : target_in look s.file rel ≡ target.Section s.file (rel.r_symbolnum - 1) 0 = rw plain refl in
        let right : target_of_relocation l s r ≡ target_of_section l (section_named l s r) = rw plain refl in
        left ∙ sym (right ∙ carried (ap is_none (sym right) ∙ some))
      where
        carried : is_none (target_of_section l (section_named l s r)) ≡ false
            → target_of_section l (section_named l s r) ≡ target.Section s.file (rel.r_symbolnum - 1) 0
        carried there = elim (cases_Bool (is_carried (header_at l (section_named l s r)))) [
          | inl is ↦ rw is refl
          | inr none ↦ absurd (true_or_false true refl (rw none at there))
        ]

-- the pairs
chosen_subtractor : (t : Bool) (q r : RelocationInfo) → subtractor_in (if t then Some q else None) r ≡
    (if t && is_difference q r then Some q else None)
chosen_subtractor true q r = refl
chosen_subtractor false q r = refl

chosen_addend : (t : Bool) (q r : RelocationInfo) → addend_before (if t then Some q else None) r ≡
    (if t && is_with_addend q r then Some q else None)
chosen_addend true q r = refl
chosen_addend false q r = refl

pub subtractor_is : (l : Link) (s : SectionId) (r : ℕ)
    → subtractor_in (before (object_of l s.file) s.section r) (relocation_in l s r) ≡
    (if has_subtrahend l s r then Some (relocation_in l s (r - 1)) else None)
subtractor_is l s r = chosen_subtractor (nat_le 1 r) (relocation_in l s (r - 1)) (relocation_in l s r)

addend_is : (l : Link) (s : SectionId) (r : ℕ)
    → addend_before (before (object_of l s.file) s.section r) (relocation_in l s r) ≡
    (if has_addend l s r then Some (relocation_in l s (r - 1)) else None)
addend_is l s r = chosen_addend (nat_le 1 r) (relocation_in l s (r - 1)) (relocation_in l s r)

-- the addend
pointer_addend_by : (d : Bool) (q r : RelocationInfo) (content from : ℕ) → pointer_addend_in content from r (if d then Some q else None)
    ≡ (if d then signed (8 * 2 ^ r.r_length) content else if r.r_extern then content else (content + (2 ^ 64 - from)) % 2 ^ 64)
pointer_addend_by true q r content from = refl
pointer_addend_by false q r content from = refl

small_addend_by : (d : Bool) (q : RelocationInfo) → small_addend_in (if d then Some q else None) ≡
    (if d then signed 24 q.r_symbolnum else 0)
small_addend_by true q = refl
small_addend_by false q = refl

addend_same : (l : Link) (s : SectionId) (r : ℕ) → addend_in (content_of l s r) (header_at l (section_named l s r)).addr
    (relocation_in l s r) (before (object_of l s.file) s.section r) ≡ addend_of l s r
addend_same l s r =
    let rel = relocation_in l s r in
    let prev = before (object_of l s.file) s.section r in
    let content = content_of l s r in
    let from = (header_at l (section_named l s r)).addr in
    let pointer : pointer_addend_in content from rel (subtractor_in prev rel) ≡ pointer_addend l s r =
    ap (pointer_addend_in content from rel) (subtractor_is l s r)
    ∙ pointer_addend_by (has_subtrahend l s r) (relocation_in l s (r - 1)) rel content from in
    let small : small_addend_in (addend_before prev rel) ≡ (if has_addend l s r then signed 24
    (relocation_in l s (r - 1)).r_symbolnum else 0) =
    ap small_addend_in (addend_is l s r) ∙ small_addend_by (has_addend l s r) (relocation_in l s (r - 1)) in
    ap (λ (n : ℕ). if rel.r_type == ARM64_RELOC_UNSIGNED then n else small_addend_in (addend_before prev rel)) pointer
    ∙ ap (λ (n : ℕ). if rel.r_type == ARM64_RELOC_UNSIGNED then pointer_addend l s r else n) small

-- fields with equal parts are equal
same_field : (f g : model.Field) → f.relocation ≡ g.relocation → f.offset ≡ g.offset → f.width ≡ g.width → f.type ≡ g.type
    → f.target ≡ g.target
    → f.subtrahend ≡ g.subtrahend → f.addend ≡ g.addend → f ≡ g
same_field f g a b c d e h i =
    ap (λ (x : ℕ). record f { relocation = x }) a ∙ ap (λ (x : ℕ). record f { relocation = g.relocation; offset = x }) b
    ∙ ap (λ (x : ℕ). record f { relocation = g.relocation; offset = g.offset; width = x }) c
    ∙ ap (λ (x : ℕ). record f { relocation = g.relocation; offset = g.offset; width = g.width; type = x }) d
    ∙ ap (λ (x : Target). record f { relocation = g.relocation; offset = g.offset; width = g.width; type = g.type; target = x }) e
    ∙ ap (λ (x : Option Target). record g { subtrahend = x; addend = f.addend }) h ∙ ap (λ (x : ℕ). record g { addend = x }) i

-- a subtrahend is what the relocation in front leads to
subtrahend_same : (l : Link) (p : Placed) (look : Look) (s : SectionId) (r : ℕ)
    → (has_subtrahend l s r ≡ true → target_in look s.file (relocation_in l s (r - 1)) ≡ target_of_relocation l s (r - 1))
    → subtrahend_in look s.file (subtractor_in (before (object_of l s.file) s.section r) (relocation_in l s r)) ≡ words.subtrahend_of l s r
subtrahend_same l p look s r same = ap (subtrahend_in look s.file) (subtractor_is l s r) ∙ by (has_subtrahend l s r) same
  where
    q : RelocationInfo
    q = relocation_in l s (r - 1)

    by : (d : Bool) → (d ≡ true → target_in look s.file q ≡ target_of_relocation l s (r - 1))
        → subtrahend_in look s.file (if d then Some q else None) ≡ (if d then Some (target_of_relocation l s (r - 1)) else None)
    by true same = ap (λ (t : Target). Some t) (same refl)
    by false same = refl

-- THE field that was read is that of the definitions.
pub read_is : (l : Link) (p : Placed) (look : Look) (s : SectionId) (r : ℕ) (text : List ℕ) (n : Near) (f : Field) → Tells l p look
    → IsNear (object_of l s.file) s.section r n → IsRead look s.file (object_of l s.file) text n f
    → text ≡ section_bytes (object_of l s.file) s.section
    → ((relocation_in l s r).r_length ≡ 2) ⊎ ((relocation_in l s r).r_length ≡ 3)
    → ((relocation_in l s r).r_extern ≡ false → (relocation_in l s r).r_symbolnum - 1 < num_sections (object_of l s.file))
    → target_in look s.file (relocation_in l s r) ≡ target_of_relocation l s r
    → (has_subtrahend l s r ≡ true → target_in look s.file (relocation_in l s (r - 1)) ≡ target_of_relocation l s (r - 1))
    → seen f ≡ field_of l s r
read_is l p look s r text n f tells near is bytes long exists leads minus =
    same_field (seen f) (field_of l s r) (is.relocation ∙ near.index) (is.offset ∙ ap (λ (q : RelocationInfo). q.r_address) near.relocation)
    (is.width ∙ ap (λ (q : RelocationInfo). 2 ^ q.r_length) near.relocation)
    (is.type ∙ ap (λ (q : RelocationInfo). q.r_type) near.relocation)
    (is.target ∙ ap (target_in look s.file) near.relocation ∙ leads)
    (is.subtrahend ∙ ap (λ (q : RelocationInfo). subtrahend_in look s.file (subtractor_in n.previous q)) near.relocation
    ∙ ap (λ (o : Option RelocationInfo). subtrahend_in look s.file (subtractor_in o rel)) near.previous
    ∙ subtrahend_same l p look s r minus)
    (is.addend (subst (λ (q : RelocationInfo). (q.r_length ≡ 2) ⊎ (q.r_length ≡ 3)) (sym near.relocation) long)
    (subst (λ (q : RelocationInfo). q.r_extern ≡ false → q.r_symbolnum - 1 < num_sections (object_of l s.file))
    (sym near.relocation) exists)
    ∙ ap (λ (q : RelocationInfo). addend_in (le_at (2 ^ q.r_length) text q.r_address)
    (section_at (object_of l s.file) (q.r_symbolnum - 1)).addr q n.previous) near.relocation
    ∙ ap (λ (t : List ℕ). addend_in (le_at (2 ^ rel.r_length) t rel.r_address)
    (header_at l (section_named l s r)).addr rel n.previous) bytes
    ∙ ap (addend_in (content_of l s r) (header_at l (section_named l s r)).addr rel) near.previous ∙ addend_same l s r)
  where
    rel : RelocationInfo
    rel = relocation_in l s r
