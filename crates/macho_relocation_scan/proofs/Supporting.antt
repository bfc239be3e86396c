-- A relocation is supported in a link exactly where it is, seen with its neighbours in the table, its target and the 4 bytes at
-- its place. The tests are the same ones, type by type; a word is looked at only where the length is that of 4 bytes.
use Rattle.std.proofs.Common.{◌≡◌, ℕ, ◌+◌, ◌-◌, ◌==◌, ◌&&◌, ◌||◌, not, if◌then◌else◌, nat_le, nat_lt, Bool, true, false, Some, None, refl, sym, ap, ◌∙◌}
use Rattle.std.proofs.lemmas.Bool.{eqb-true}
use Rattle.macho_wire.specs.declared.relocations.RelocationInfo.{RelocationInfo}
use Rattle.macho_records.specs.declared.constants.TheConstants.{ARM64_RELOC_ADDEND, ARM64_RELOC_BRANCH26, ARM64_RELOC_PAGE21, ARM64_RELOC_PAGEOFF12, ARM64_RELOC_POINTER_TO_GOT, ARM64_RELOC_SUBTRACTOR, ARM64_RELOC_UNSIGNED}
use Rattle.macho_model.specs.declared.targets.Target.{Target}
use Rattle.macho_model.specs.Links.{Link, SectionId, object_of, header_at}
use Rattle.macho_model.specs.Needs.{relocation_in}
use Rattle.macho_model.specs.Targets.{target_of_relocation, is_defined, is_import}
use Rattle.macho_model.specs.Fields.{content_of, has_subtrahend, has_addend, is_difference, is_with_addend, is_pair}
use Rattle.macho_model.specs.Words.{is_adrp, is_branch}
use Rattle.macho_model.specs.Rows.{has_form, begins_pair, is_none, difference_fits, pointer_fits, defined_or_import, is_supported}
use Rattle.macho_model.specs.Supported.{addend_fits, may_be_called, takes_offset, load_fits}
use Rattle.macho_needs.specs.Noted.{referent}
use Rattle.macho_relocation_scan.specs.declared.pairs.Seen.{Seen}
use Rattle.macho_relocation_scan.specs.steps.Windows.{window_in, tests_before, tests_next, subtracted, with_addend, begins}
use Rattle.macho_relocation_scan.specs.steps.Supported.{difference_in, addend_in, pointer_in, called_in, page_load, offset_load, slot_reference_in, reference_in, supported_in}

-- a relocation of a link, with its neighbours
abbrev pub window_of : Link → SectionId → ℕ → Seen
window_of l s r = window_in (object_of l s.file) s.section r

before_is : (test : RelocationInfo → RelocationInfo → Bool) (b : Bool) (q this : RelocationInfo)
    → tests_before test (if b then Some q else None) this ≡ (b && test q this)
before_is test true q this = refl
before_is test false q this = refl

next_is : (test : RelocationInfo → RelocationInfo → Bool) (b : Bool) (q this : RelocationInfo)
    → tests_next test this (if b then Some q else None) ≡ (b && test this q)
next_is test true q this = refl
next_is test false q this = refl

pub subtracted_is : (l : Link) (s : SectionId) (r : ℕ) → subtracted (window_of l s r) ≡ has_subtrahend l s r
subtracted_is l s r = before_is is_difference (nat_le 1 r) (relocation_in l s (r - 1)) (relocation_in l s r)

pub with_addend_is : (l : Link) (s : SectionId) (r : ℕ) → with_addend (window_of l s r) ≡ has_addend l s r
with_addend_is l s r = before_is is_with_addend (nat_le 1 r) (relocation_in l s (r - 1)) (relocation_in l s r)

begins_is : (l : Link) (s : SectionId) (r : ℕ) → begins (window_of l s r) ≡ begins_pair l s r
begins_is l s r = next_is is_pair (nat_lt (r + 1) (header_at l s).nreloc) (relocation_in l s (r + 1)) (relocation_in l s r)

-- a word is looked at only where 4 bytes stand
form_word : (rel : RelocationInfo) (pcrel : Bool) (f : ℕ → Bool) (w v : ℕ) (rest : Bool) → (rel.r_length ≡ 2 → w ≡ v)
    → (has_form rel 2 pcrel true && f w && rest) ≡ (has_form rel 2 pcrel true && f v && rest)
form_word rel pcrel f w v rest same = by (rel.r_length == 2) refl
  where
    by : (x : Bool) → (rel.r_length == 2) ≡ x → (has_form rel 2 pcrel true && f w && rest) ≡ (has_form rel 2 pcrel true && f v && rest)
    by true e = ap (λ n. has_form rel 2 pcrel true && f n && rest) (same (eqb-true rel.r_length 2 e))
    by false e = rw e refl

-- the tests of all types but that of an addend
chain : (u s b p o pl ol g : Bool) (U S B P O PL OL G : Bool) → Bool
chain u s b p o pl ol g U S B P O PL OL G =
    if u then U else if s then S else if b then B else if p then P else if o then O else if pl then PL else if ol then OL else if g then G
    else false

seen_chain : (w : Seen) (t : Target) (word : ℕ) → (w.this.r_type == ARM64_RELOC_ADDEND) ≡ false
    → supported_in w t word ≡ chain (w.this.r_type == ARM64_RELOC_UNSIGNED) (w.this.r_type == ARM64_RELOC_SUBTRACTOR)
    (w.this.r_type == ARM64_RELOC_BRANCH26) (w.this.r_type == ARM64_RELOC_PAGE21)
    (w.this.r_type == ARM64_RELOC_PAGEOFF12) (page_load w.this.r_type) (offset_load w.this.r_type)
    (w.this.r_type == ARM64_RELOC_POINTER_TO_GOT)
    (pointer_in w t) (difference_in w.this t && begins w) (has_form w.this 2 true true && is_branch word && called_in w t)
    (has_form w.this 2 true true && is_adrp word && is_defined t)
    (has_form w.this 2 false true && takes_offset word && is_defined t) (has_form w.this 2 true true && is_adrp word && defined_or_import t)
    (has_form w.this 2 false true && load_fits word t && defined_or_import t) (has_form w.this 2 true true && defined_or_import t)
unfolding chain supported_in reference_in slot_reference_in
seen_chain w t word e = rw e refl

link_chain : (l : Link) (s : SectionId) (r : ℕ) → ((relocation_in l s r).r_type == ARM64_RELOC_ADDEND) ≡ false
    → is_supported l s r ≡ chain ((relocation_in l s r).r_type == ARM64_RELOC_UNSIGNED)
    ((relocation_in l s r).r_type == ARM64_RELOC_SUBTRACTOR) ((relocation_in l s r).r_type == ARM64_RELOC_BRANCH26)
    ((relocation_in l s r).r_type == ARM64_RELOC_PAGE21) ((relocation_in l s r).r_type == ARM64_RELOC_PAGEOFF12)
    (page_load (relocation_in l s r).r_type) (offset_load (relocation_in l s r).r_type)
    ((relocation_in l s r).r_type == ARM64_RELOC_POINTER_TO_GOT)
    (pointer_fits l s r) (difference_fits l s r && begins_pair l s r)
    (has_form (relocation_in l s r) 2 true true && is_branch (content_of l s r) && may_be_called l s r)
    (has_form (relocation_in l s r) 2 true true && is_adrp (content_of l s r) && is_defined (target_of_relocation l s r))
    (has_form (relocation_in l s r) 2 false true && takes_offset (content_of l s r) && is_defined (target_of_relocation l s r))
    (has_form (relocation_in l s r) 2 true true && is_adrp (content_of l s r) && defined_or_import (target_of_relocation l s r))
    (has_form (relocation_in l s r) 2 false true && load_fits (content_of l s r) (target_of_relocation l s r) && defined_or_import
    (target_of_relocation l s r))
    (has_form (relocation_in l s r) 2 true true && defined_or_import (target_of_relocation l s r))
unfolding chain is_supported
link_chain l s r e = rw e refl

-- an addend
seen_addend : (w : Seen) (t : Target) (word : ℕ) → w.this.r_type ≡ ARM64_RELOC_ADDEND
    → supported_in w t word ≡ (addend_in w.this && begins w)
unfolding supported_in
seen_addend w t word e = rw e refl

link_addend : (l : Link) (s : SectionId) (r : ℕ) → (relocation_in l s r).r_type ≡ ARM64_RELOC_ADDEND
    → is_supported l s r ≡ (addend_fits l s r && begins_pair l s r)
unfolding is_supported
link_addend l s r e = rw e refl

addend : (l : Link) (s : SectionId) (r : ℕ) (t : Target) (word : ℕ) → (relocation_in l s r).r_type ≡ ARM64_RELOC_ADDEND
    → supported_in (window_of l s r) t word ≡ is_supported l s r
addend l s r t word e = seen_addend (window_of l s r) t word e ∙ ap (λ b. addend_in (relocation_in l s r) && b) (begins_is l s r)
    ∙ sym (link_addend l s r e)

pub supported_is : (l : Link) (s : SectionId) (r word : ℕ) → ((relocation_in l s r).r_length ≡ 2 → word ≡ content_of l s r)
    → supported_in (window_of l s r) (referent l s r) word ≡ is_supported l s r
supported_is l s r word same = by ((relocation_in l s r).r_type == ARM64_RELOC_ADDEND) refl
  where
    by : (x : Bool) → ((relocation_in l s r).r_type == ARM64_RELOC_ADDEND) ≡ x
        → supported_in (window_of l s r) (referent l s r) word ≡ is_supported l s r
    by true e = addend l s r (referent l s r) word (eqb-true (relocation_in l s r).r_type ARM64_RELOC_ADDEND e)
    by false e =
        let leads : referent l s r ≡ target_of_relocation l s r = rw e refl in
        let pointers : pointer_in (window_of l s r) (target_of_relocation l s r) ≡ pointer_fits l s r
        = ap (λ b. if b then difference_fits l s r else ((relocation_in l s r).r_length == 3) && not (relocation_in l s r).r_pcrel &&
        not (is_none (target_of_relocation l s r))) (subtracted_is l s r) in
        let differences : (difference_in (relocation_in l s r) (target_of_relocation l s r) && begins
        (window_of l s r)) ≡ (difference_fits l s r && begins_pair l s r)
        = ap (λ b. difference_fits l s r && b) (begins_is l s r) in
        let called : called_in (window_of l s r) (target_of_relocation l s r) ≡ may_be_called l s r
        = ap (λ b. is_defined (target_of_relocation l s r) || (is_import (target_of_relocation l s r) && not b)) (with_addend_is l s r) in
        let branches = ap (λ b. has_form (relocation_in l s r) 2 true true && is_branch word && b) called
        ∙ form_word (relocation_in l s r) true is_branch word (content_of l s r) (may_be_called l s r) same in
        let pages = form_word (relocation_in l s r) true is_adrp word (content_of l s r) (is_defined (target_of_relocation l s r)) same in
        let offsets = form_word (relocation_in l s r) false takes_offset word (content_of l s r) (is_defined (target_of_relocation l s r))
        same in
        let slot_pages = form_word (relocation_in l s r) true is_adrp word (content_of l s r)
        (defined_or_import (target_of_relocation l s r)) same in
        let loads = form_word (relocation_in l s r) false (λ w. load_fits w (target_of_relocation l s r)) word (content_of l s r)
        (defined_or_import (target_of_relocation l s r)) same in
        ap (λ u. supported_in (window_of l s r) u word) leads ∙ seen_chain (window_of l s r) (target_of_relocation l s r) word e
        ∙ (λ i. chain ((relocation_in l s r).r_type == ARM64_RELOC_UNSIGNED) ((relocation_in l s r).r_type == ARM64_RELOC_SUBTRACTOR)
        ((relocation_in l s r).r_type == ARM64_RELOC_BRANCH26)
        ((relocation_in l s r).r_type == ARM64_RELOC_PAGE21) ((relocation_in l s r).r_type == ARM64_RELOC_PAGEOFF12)
        (page_load (relocation_in l s r).r_type) (offset_load (relocation_in l s r).r_type)
        ((relocation_in l s r).r_type == ARM64_RELOC_POINTER_TO_GOT) (pointers i) (differences i) (branches i) (pages i) (offsets i)
        (slot_pages i) (loads i)
        (has_form (relocation_in l s r) 2 true true && defined_or_import (target_of_relocation l s r)))
        ∙ sym (link_chain l s r e)
