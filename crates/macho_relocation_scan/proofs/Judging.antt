-- One relocation more. Its use is noted; what stands against it by itself is found, unless another of its kind was before; and
-- where nothing is found, it is fine.
use Rattle.std.proofs.Common.{◌≡◌, ℕ, ◌<◌, Bool, true, false, ◌&&◌, ◌||◌, not, ◌==◌, List, [], ◌∷◌, ◌++◌, Option, Some, None, IfSome, Contains, filter, refl, sym, ap, ◌∙◌, if◌then◌else◌}
use Rattle.std.specs.Str.{bytes_eq}
use Rattle.std.proofs.lemmas.List.Elements.{All-push}
use Rattle.macho_bytes.specs.Texts.{name_of}
use Rattle.macho_records.specs.declared.header.SectionHeader.{SectionHeader}
use Rattle.macho_records.specs.declared.constants.TheConstants.{S_THREAD_LOCAL_REGULAR, S_THREAD_LOCAL_VARIABLES, S_THREAD_LOCAL_ZEROFILL}
use Rattle.macho_records.specs.Sections.{type_of, segment_name_of}
use Rattle.macho_model.specs.declared.targets.Target.{Target}
use Rattle.macho_model.specs.ObjectRules.{is_thread_local}
use Rattle.macho_model.specs.Objects.{num_sections}
use Rattle.macho_model.specs.Grammar.{IsObject}
use Rattle.macho_model.proofs.ObjectLaws.{object_keeps}
use Rattle.macho_model.specs.Links.{Link, SectionId, object_of, header_at, carried_of}
use Rattle.macho_model.specs.Needs.{relocation_in, relocations_of}
use Rattle.macho_model.specs.Uses.{Use, ByRelocation}
use Rattle.macho_model.specs.Targets.{target_of_relocation, is_import}
use Rattle.macho_model.specs.Fields.{field_of, content_of, fields_of, is_prefix_type, addend_of}
use Rattle.macho_model.specs.Segments.{may_hold_pointers, DATA, DATA_CONST}
use Rattle.macho_model.specs.Stands.{is_template_offset}
use Rattle.macho_model.specs.Rows.{is_supported}
use Rattle.macho_model.specs.Values.{FieldOf, fits_signed, is_pointer, is_absolute_target, needs_fixup}
use Rattle.macho_needs.specs.declared.needs.Needs.{Needs}
use Rattle.macho_needs.specs.Noted.{IsNoted, referent, pointer_of}
use Rattle.macho_relocation_scan.specs.declared.findings.Place.{Place}
use Rattle.macho_relocation_scan.specs.declared.findings.Addend.{Addend}
use Rattle.macho_relocation_scan.specs.declared.findings.Findings.{Findings}
use Rattle.macho_relocation_scan.specs.Surveys.{IsFine, IsFineRelocation}
use Rattle.macho_relocation_scan.specs.steps.Found.{first_if, first_of, IsUnsupported, IsBadAddend, IsBadPlace, IsClean, IsSurveyed}
use Rattle.macho_relocation_scan.specs.steps.Supported.{supported_in}
use Rattle.macho_relocation_scan.specs.steps.Sections.{bad_addend, misplaced, judged}
use Rattle.macho_relocation_scan.proofs.Listed.{in_filter}
use Rattle.macho_relocation_scan.proofs.Supporting.{window_of, supported_is}
use Rattle.macho_relocation_scan.proofs.Pointed.{IsPlain, plain_is, plain_says, plain_leads}
use Rattle.macho_bytes.proofs.Bools.{false_of_not, both_parts}
use Rattle.macho_bytes.proofs.Members.{contains_map, contains_range}

-- the first of a kind stands, with one more
if_first : {X : Type 0} (P : X → Type 0) (b : Bool) (o : Option X) (x : X) → IfSome o P → (b ≡ true → P x) → IfSome (first_if b o x) P
if_first P false o x h f = h
if_first P true None x h f = f refl
if_first P true (Some y) x h f = h

pub if_first_of : {X : Type 0} (P : X → Type 0) (o p : Option X) → IfSome o P → IfSome p P → IfSome (first_of o p) P
if_first_of P None p h k = k
if_first_of P (Some y) p h k = h

-- the first of a kind is the first, with none behind it
pub first_of_none : {X : Type 0} (o : Option X) → first_of o None ≡ o
first_of_none None = refl
first_of_none (Some y) = refl

-- where none is found, there was none before and the last is none
none_first : {X : Type 0} (b : Bool) (o : Option X) (x : X) → first_if b o x ≡ None → (o ≡ None) × (b ≡ false)
none_first false o x e = (e, refl)
none_first true None x e = cc
none_first true (Some y) x e = cc

pub none_first_of : {X : Type 0} (o p : Option X) → first_of o p ≡ None → (o ≡ None) × (p ≡ None)
none_first_of None p e = (refl, e)
none_first_of (Some y) p e = cc

true_of_not : (b : Bool) → not b ≡ false → b ≡ true
true_of_not true e = refl
true_of_not false e = cc

-- What is known of a relocation when it is judged.
pub record IsJudged (l : Link) (s : SectionId) (r word : ℕ) : Type 0 where
  pub object : IsObject (object_of l s.file)
  pub among : s.section < num_sections (object_of l s.file)
  pub carried : Contains (carried_of l) s
  pub there : r < (header_at l s).nreloc
  pub small : (relocation_in l s r).r_length < 4
  pub word_is : (relocation_in l s r).r_length ≡ 2 → word ≡ content_of l s r

-- a pointer's field is one of the section's
pub field_there : (l : Link) (s : SectionId) (r : ℕ) → r < (header_at l s).nreloc → is_prefix_type (relocation_in l s r).r_type ≡ false
    → Contains (fields_of l s) (field_of l s r)
unfolding fields_of
field_there l s r there plain =
    contains_map (field_of l s) (filter (λ q. not (is_prefix_type (relocation_in l s q).r_type)) (relocations_of l s)) r
    (in_filter (λ q. not (is_prefix_type (relocation_in l s q).r_type)) (relocations_of l s) r (ap not plain)
    (contains_range (header_at l s).nreloc r there))

plain_prefix : (l : Link) (s : SectionId) (r : ℕ) → IsPlain l s r → is_prefix_type (relocation_in l s r).r_type ≡ false
plain_prefix l s r is = ap is_prefix_type is.type

plain_field : (l : Link) (s : SectionId) (r word : ℕ) → IsJudged l s r word → is_pointer (field_of l s r) ≡ true → IsPlain l s r
plain_field l s r word is e = plain_says l s r (plain_is l s r is.small ∙ e)

field_is : (l : Link) (s : SectionId) (r word : ℕ) → IsJudged l s r word → is_pointer (field_of l s r) ≡ true
    → FieldOf l s r (field_of l s r)
field_is l s r word is e = (is.carried, field_there l s r is.there (plain_prefix l s r (plain_field l s r word is e)), refl)

-- a descriptor of a thread-local variable is in a segment that may hold pointers
descriptors : (h : SectionHeader) → (not (is_thread_local (type_of h)) || bytes_eq (segment_name_of h) DATA) ≡ true
    → (type_of h == S_THREAD_LOCAL_VARIABLES) ≡ true → may_hold_pointers (name_of h.segname) ≡ true
descriptors h rule e = by (bytes_eq (segment_name_of h) DATA) refl
  where
    local : is_thread_local (type_of h) ≡ true
    local = ap (λ b. (type_of h == S_THREAD_LOCAL_REGULAR) || (type_of h == S_THREAD_LOCAL_ZEROFILL) || b) e
        ∙ last ((type_of h == S_THREAD_LOCAL_REGULAR) || (type_of h == S_THREAD_LOCAL_ZEROFILL))
      where
        last : (b : Bool) → (b || true) ≡ true
        last true = refl
        last false = refl

    by : (x : Bool) → bytes_eq (segment_name_of h) DATA ≡ x → may_hold_pointers (name_of h.segname) ≡ true
    by true t = ap (λ b. b || bytes_eq (name_of h.segname) DATA_CONST) t
    by false t = let u : false ≡ true = sym (ap (λ b. not b || bytes_eq (segment_name_of h) DATA) local ∙ t) ∙ rule in cc

-- the addend that is told
bad_stands : (l : Link) (s : SectionId) (r word : ℕ) (t : Target) → IsJudged l s r word → t ≡ referent l s r
    → IfSome (bad_addend (record { file = s.file; section = s.section; relocation = r }) (pointer_of l s r) t) (IsBadAddend l)
bad_stands l s r word t is leads = by (is_pointer (field_of l s r)) refl
  where
    told : is_pointer (field_of l s r) ≡ true → (b c : Bool) → is_import t ≡ b → fits_signed 32 (addend_of l s r) ≡ c
        → IfSome (if b && not c then Some (record {
          place = record {
            file = s.file;
            section = s.section;
            relocation = r;
          };
          addend = addend_of l s r;
        }) else None) (IsBadAddend l)
    told e true false i f =
        let import : is_import (target_of_relocation l s r) ≡ true
        = ap is_import (sym (leads ∙ plain_leads l s r (plain_field l s r word is e))) ∙ i in
        (field_of l s r, field_is l s r word is e, e, import, refl, f)
    told e true true i f = tt
    told e false c i f = tt

    by : (x : Bool) → is_pointer (field_of l s r) ≡ x
        → IfSome (bad_addend (record { file = s.file; section = s.section; relocation = r }) (if x then Some (addend_of l s r) else None)
        t) (IsBadAddend l)
    by true e = told e (is_import t) (fits_signed 32 (addend_of l s r)) refl refl
    by false e = tt

-- the place that is told
misplaced_is : (l : Link) (s : SectionId) (r word : ℕ) (t : Target) (holds : Bool) → IsJudged l s r word → t ≡ referent l s r
    → holds ≡ may_hold_pointers (segment_name_of (header_at l s))
    → misplaced holds (pointer_of l s r) t ≡ (needs_fixup l s (field_of l s r) && not (may_hold_pointers (segment_name_of (header_at l s))))
misplaced_is l s r word t holds is leads held = by (is_pointer (field_of l s r)) refl
  where
    fixup : is_pointer (field_of l s r) ≡ true → (a d m : Bool) → is_absolute_target (target_of_relocation l s r) ≡ a
        → is_template_offset l s (field_of l s r) ≡ d → may_hold_pointers (segment_name_of (header_at l s)) ≡ m
        → (not a && not m) ≡ (not a && not d && not m)
    fixup e a d true x y z = both_false (not a) (not a && not d)
      where
        both_false : (p q : Bool) → (p && false) ≡ (q && false)
        both_false true true = refl
        both_false true false = refl
        both_false false true = refl
        both_false false false = refl
    fixup e a false false x y z = ap (λ b. b && true) (sym (and_true (not a)))
      where
        and_true : (p : Bool) → (p && true) ≡ p
        and_true true = refl
        and_true false = refl
    fixup e a true false x y z =
        let type : (type_of (header_at l s) == S_THREAD_LOCAL_VARIABLES) ≡ true = first
        (type_of (header_at l s) == S_THREAD_LOCAL_VARIABLES) _ y in
        let may : may_hold_pointers (segment_name_of (header_at l s)) ≡ true =
        descriptors (header_at l s) ((object_keeps is.object).o11 s.section is.among) type in
        let no : true ≡ false = sym may ∙ z in cc
      where
        first : (p q : Bool) → (p && q) ≡ true → p ≡ true
        first true q e = refl
        first false q e = e

    target_is : is_pointer (field_of l s r) ≡ true → t ≡ target_of_relocation l s r
    target_is e = leads ∙ plain_leads l s r (plain_field l s r word is e)

    by : (x : Bool) → is_pointer (field_of l s r) ≡ x
        → misplaced holds (if is_pointer (field_of l s r) then Some (addend_of l s r) else None) t ≡ (needs_fixup l s (field_of l s r) &&
        not (may_hold_pointers (segment_name_of (header_at l s))))
    by true e =
        ap (λ b. misplaced holds (if b then Some (addend_of l s r) else None) t) e
        ∙ ap (λ u. not (is_absolute_target u) && not holds) (target_is e)
        ∙ ap (λ b. not (is_absolute_target (target_of_relocation l s r)) && not b) held
        ∙ fixup e (is_absolute_target (target_of_relocation l s r)) (is_template_offset l s (field_of l s r))
        (may_hold_pointers (segment_name_of (header_at l s))) refl refl refl
        ∙ ap (λ b. b && not (is_absolute_target (target_of_relocation l s r)) && not (is_template_offset l s (field_of l s r)) &&
        not (may_hold_pointers (segment_name_of (header_at l s)))) (sym e)
    by false e =
        ap (λ b. misplaced holds (if b then Some (addend_of l s r) else None) t) e
        ∙ ap (λ b. b && not (is_absolute_target (target_of_relocation l s r)) && not (is_template_offset l s (field_of l s r)) &&
        not (may_hold_pointers (segment_name_of (header_at l s)))) (sym e)

-- one relocation more is judged
pub judged_more : (l : Link) (ss : List SectionId) (us : List Use) (old new : Needs) (f : Findings) (s : SectionId) (r word : ℕ)
    (t : Target) (holds : Bool) → IsJudged l s r word
    → IsSurveyed l ss us old f → IsNoted l (us ++ ByRelocation s r ∷ []) new → t ≡ referent l s r
    → holds ≡ may_hold_pointers (segment_name_of (header_at l s))
    → IsSurveyed l ss (us ++ ByRelocation s r ∷ []) new
    (judged f holds (record { file = s.file; section = s.section; relocation = r }) (window_of l s r) t word (pointer_of l s r))
judged_more l ss us old new f s r word t holds is before noted leads held = record {
  noted = noted;
  standing = record {
    unsupported = if_first (IsUnsupported l) (not (supported_in (window_of l s r) t word)) f.unsupported at before.standing.unsupported
        (λ e. (is.carried, is.there, sym supported ∙ false_of_not (supported_in (window_of l s r) t word) e));
    overlap = before.standing.overlap;
    addend = if_first_of (IsBadAddend l) f.addend (bad_addend at (pointer_of l s r) t) before.standing.addend
        (bad_stands l s r word t is leads);
    place = if_first (IsBadPlace l) (misplaced holds (pointer_of l s r) t) f.place at before.standing.place
        (λ e. let may = may_hold_pointers (segment_name_of (header_at l s)) in
        let h = both_parts (needs_fixup l s (field_of l s r)) (not may) (sym place ∙ e) in
        (field_of l s r, field_is l s r word is (pointed h.0), h.0, false_of_not may h.1));
  };
  fine = λ c. All-push (IsFine l) us (ByRelocation s r) (before.fine (clean c)) (fine c);
  apart = λ c. before.apart (clean c);
}
  where
    at : Place
    at = record { file = s.file; section = s.section; relocation = r }

    after : Findings
    after = judged f holds (record { file = s.file; section = s.section; relocation = r }) (window_of l s r) t word (pointer_of l s r)

    supported : supported_in (window_of l s r) t word ≡ is_supported l s r
    supported = ap (λ u. supported_in (window_of l s r) u word) leads ∙ supported_is l s r word is.word_is

    place : misplaced holds (pointer_of l s r) t
        ≡ (needs_fixup l s (field_of l s r) && not (may_hold_pointers (segment_name_of (header_at l s))))
    place = misplaced_is l s r word t holds is leads held

    pointed : needs_fixup l s (field_of l s r) ≡ true → is_pointer (field_of l s r) ≡ true
    pointed e = (both_parts (is_pointer (field_of l s r)) _
        (both_parts (is_pointer (field_of l s r) && not (is_absolute_target (target_of_relocation l s r))) _ e).0).0

    clean : IsClean after → IsClean f
    clean c = record {
      unsupported = (none_first (not (supported_in (window_of l s r) t word)) f.unsupported at c.unsupported).0;
      overlap = c.overlap;
      addend = (none_first_of f.addend (bad_addend at (pointer_of l s r) t) c.addend).0;
      place = (none_first (misplaced holds (pointer_of l s r) t) f.place at c.place).0;
    }

    told : Option Addend
    told = Some (record { place = at; addend = addend_of l s r })

    if_told : Bool → Option Addend
    if_told b = if b then told else None

    fits : (x : Bool) → is_pointer (field_of l s r) ≡ x → bad_addend at (if x then Some (addend_of l s r) else None) t ≡ None
        → is_pointer (field_of l s r) ≡ true → is_import (target_of_relocation l s r) ≡ true
        → fits_signed 32 (addend_of l s r) ≡ true
    fits false e none p i = let no : false ≡ true = sym e ∙ p in cc
    fits true e none p i =
        let import : is_import t ≡ true = ap is_import (leads ∙ plain_leads l s r (plain_field l s r word is p)) ∙ i in
        good (fits_signed 32 (addend_of l s r)) refl (sym (ap (λ b. if_told (b && not (fits_signed 32 (addend_of l s r)))) import) ∙ none)
      where
        good : (b : Bool) → fits_signed 32 (addend_of l s r) ≡ b → if_told (true && not (fits_signed 32 (addend_of l s r))) ≡ None
            → fits_signed 32 (addend_of l s r) ≡ true
        good true g h = g
        good false g h = let no : told ≡ None = sym (ap (λ b. if_told (true && not b)) g) ∙ h in cc

    holds_it : needs_fixup l s (field_of l s r) ≡ true
        → (needs_fixup l s (field_of l s r) && not (may_hold_pointers (segment_name_of (header_at l s)))) ≡ false
        → may_hold_pointers (segment_name_of (header_at l s)) ≡ true
    holds_it e none = true_of_not (may_hold_pointers (segment_name_of (header_at l s)))
        (sym (ap (λ b. b && not (may_hold_pointers (segment_name_of (header_at l s)))) e) ∙ none)

    fine : IsClean after → IsFineRelocation l s r
    fine c = record {
      supported = sym supported ∙ true_of_not (supported_in (window_of l s r) t word)
          (none_first (not (supported_in (window_of l s r) t word)) f.unsupported at c.unsupported).1;
      addend = fits (is_pointer (field_of l s r)) refl (none_first_of f.addend (bad_addend at (pointer_of l s r) t) c.addend).1;
      place = λ e. holds_it e (sym place ∙ (none_first (misplaced holds (pointer_of l s r) t) f.place at c.place).1);
    }
