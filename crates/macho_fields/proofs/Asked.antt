-- What is asked of the loader, and when it can't be asked.
--
-- A field is asked for exactly where the definitions say that it needs a fixup: it is a pointer, its target moves, and it is no
-- offset in the template. What its word is to become is what the definitions ask, since the look-ups tell the placement's
-- addresses. A word has no room for a value below the base or with a bit too high, and may not cross a page.
use Rattle.std.proofs.Common.{◌≡◌, ℕ, ◌+◌, ◌-◌, ◌%◌, ◌^◌, ◌<◌, ◌≤◌, ◌==◌, ◌&&◌, not, if◌then◌else◌, true, false, Bool, Option, Some, None, refl, sym, ap, subst, ◌∙◌, arith, inl, inr, ◌⊎◌}
use Rattle.std.specs.Prelude.{nat_le, is_some}
use Rattle.std.proofs.lemmas.Bool.{cases_Bool, cases_lt, cases_eq, eqb-true}
use Rattle.std.proofs.lemmas.Bool.Decides.{nat_tests}
use Rattle.macho_bytes.specs.Numbers.{bits}
use Rattle.macho_records.specs.Sections.{type_of}
use Rattle.macho_records.specs.declared.constants.TheConstants.{S_THREAD_LOCAL_VARIABLES}
use Rattle.macho_model.specs.declared.placed.Range64.{Range64}
use Rattle.macho_model.specs.declared.targets.Target.{Target}
use Rattle.macho_model.specs.declared.targets.Target.TheVariants as target
use Rattle.macho_model.specs.Links.{Link, SectionId, section_id, header_at, is_template}
use Rattle.macho_model.specs.Targets.{is_import}
use Rattle.macho_model.specs.Fields.{Field}
use Rattle.macho_model.specs.Segments.{SEGMENT_PAGE}
use Rattle.macho_model.specs.Placement.{Placed}
use Rattle.macho_model.specs.Addresses.{address_of}
use Rattle.macho_model.specs.Stands.{Kind, Pointer, Difference, Branch, Page, Offset, SlotPage, SlotOffset, SlotDistance, NoKind, is_template_offset, is_in_template}
use Rattle.macho_model.specs.Values.{is_pointer, is_absolute_target, needs_fixup, IsNotEncodable}
use Rattle.macho_model.specs.Fixups.{has_room}
use Rattle.macho_fixups.specs.declared.words.FixupKind.TheVariants.{Rebase, Bind}
use Rattle.macho_promise.specs.FixupsSay.{kind_for}
use Rattle.macho_fields.specs.Looks.{Look, TellsAddresses, Tells, IsThere, IsFound}
use Rattle.macho_fields.specs.steps.Fields.{kind_in, in_template, is_pointer_kind, asks, fixup_value, is_encodable, kind_asked, may_stand, start_of}
use Rattle.macho_fields.proofs.Placing.{address_told}
use Rattle.macho_fields.proofs.Saying.{IsStart}
use Rattle.macho_bytes.proofs.Bools.{true_or_false, and_left, and_right}

-- a field is asked for where it needs a fixup
pointer_same : (f : Field) (k : Kind) → kind_in f ≡ k → is_pointer f ≡ ((f.width == 8) && is_pointer_kind k)
pointer_same f Pointer e = rw e refl
pointer_same f Difference e = rw e refl
pointer_same f Branch e = rw e refl
pointer_same f Page e = rw e refl
pointer_same f Offset e = rw e refl
pointer_same f SlotPage e = rw e refl
pointer_same f SlotOffset e = rw e refl
pointer_same f SlotDistance e = rw e refl
pointer_same f NoKind e = rw e refl

-- a target that is placed lies in the template as it is told
template_same : (l : Link) (p : Placed) (look : Look) (t : Target) → Tells l p look → IsThere p t → is_in_template l t ≡ in_template look t
template_same l p look (target.Section file section offset) tells there =
    ap (λ (n : ℕ). is_template (header_at l (section_id n section))) (sym there.2)
    ∙ ap (λ (n : ℕ). is_template (header_at l (section_id there.0.file n))) (sym there.3)
    ∙ sym (tells.in_template there.0 there.1)
    ∙ ap (λ (n : ℕ). look.in_template n there.0.section) there.2
    ∙ ap (look.in_template file) there.3
template_same l p look (target.Common id) tells there = refl
template_same l p look (target.Import id) tells there = refl
template_same l p look target.Base tells there = refl
template_same l p look (target.Absolute value) tells there = refl
template_same l p look target.None tells there = refl

pub offset_same : (l : Link) (p : Placed) (look : Look) (descriptors : Bool) (s : SectionId) (f : Field) → Tells l p look
    → IsThere p f.target
    → descriptors ≡ (type_of (header_at l s) == S_THREAD_LOCAL_VARIABLES)
    → is_template_offset l s f ≡ (descriptors && in_template look f.target)
offset_same l p look descriptors s f tells there is =
    ap (λ (b : Bool). (type_of (header_at l s) == S_THREAD_LOCAL_VARIABLES) && b) (template_same l p look f.target tells there)
    ∙ ap (λ (b : Bool). b && in_template look f.target) (sym is)

-- only pointers are asked for
pointer_only : (k : Kind) → is_pointer_kind k ≡ true → k ≡ Pointer
pointer_only Pointer h = refl
pointer_only Difference h = absurd (true_or_false false h refl)
pointer_only Branch h = absurd (true_or_false false h refl)
pointer_only Page h = absurd (true_or_false false h refl)
pointer_only Offset h = absurd (true_or_false false h refl)
pointer_only SlotPage h = absurd (true_or_false false h refl)
pointer_only SlotOffset h = absurd (true_or_false false h refl)
pointer_only SlotDistance h = absurd (true_or_false false h refl)
pointer_only NoKind h = absurd (true_or_false false h refl)

-- and nothing else
none_other : (wide moves plain : Bool) → (wide && false && moves && plain) ≡ false
none_other true moves plain = refl
none_other false moves plain = refl

pub asks_same : (l : Link) (p : Placed) (look : Look) (descriptors : Bool) (s : SectionId) (f : Field) → Tells l p look
    → (kind_in f ≡ Pointer → IsThere p f.target)
    → descriptors ≡ (type_of (header_at l s) == S_THREAD_LOCAL_VARIABLES) → needs_fixup l s f ≡ asks descriptors look f
asks_same l p look descriptors s f tells there is = by (is_pointer_kind (kind_in f)) refl
  where
    by : (b : Bool) → is_pointer_kind (kind_in f) ≡ b → needs_fixup l s f ≡ asks descriptors look f
    by true pointer =
        ap (λ (b : Bool). b && not (is_absolute_target f.target) && not (is_template_offset l s f)) (pointer_same f (kind_in f) refl)
        ∙ ap (λ (b : Bool). (f.width == 8) && is_pointer_kind (kind_in f) && not (is_absolute_target f.target) && not b)
        (offset_same l p look descriptors s f tells (there (pointer_only (kind_in f) pointer)) is)
    by false other =
        ap (λ (b : Bool). b && not (is_absolute_target f.target) && not (is_template_offset l s f))
        (pointer_same f (kind_in f) refl ∙ ap (λ (b : Bool). (f.width == 8) && b) other)
        ∙ none_other (f.width == 8) (not (is_absolute_target f.target)) (not (is_template_offset l s f))
        ∙ sym (none_other (f.width == 8) (not (is_absolute_target f.target)) (not (descriptors && in_template look f.target)))
        ∙ ap (λ (b : Bool). (f.width == 8) && b && not (is_absolute_target f.target) && not (descriptors && in_template look f.target))
        (sym other)

pub asked_kind : (look : Look) (descriptors : Bool) (f : Field) → asks descriptors look f ≡ true → kind_in f ≡ Pointer
asked_kind look descriptors f h =
    let pointer = (f.width == 8) && is_pointer_kind (kind_in f) in
    let moves = not (is_absolute_target f.target) in
    pointer_only (kind_in f)
    (and_right (f.width == 8) (is_pointer_kind (kind_in f)) (and_left pointer moves
    (and_left (pointer && moves) (not (descriptors && in_template look f.target)) h)))

-- a pointer that isn't asked for is to no import, and counts from where it should
plain_target : (look : Look) (descriptors : Bool) (w : ℕ) (t : Target) → w ≡ 8
    → ((w == 8) && true && not (is_absolute_target t) && not (descriptors && in_template look t)) ≡ false → is_import t ≡ false
plain_target look descriptors w (target.Section file section offset) eight h = refl
plain_target look descriptors w (target.Common id) eight h = refl
plain_target look descriptors w target.Base eight h = refl
plain_target look descriptors w (target.Absolute value) eight h = refl
plain_target look descriptors w target.None eight h = refl
plain_target look descriptors w (target.Import id) eight h = elim (cases_Bool descriptors) [
  | inl is ↦ absurd (true_or_false true refl (rw (eight, is) at h))
  | inr is ↦ absurd (true_or_false true refl (rw (eight, is) at h))
]

pub unasked_target : (look : Look) (descriptors : Bool) (f : Field) → f.width ≡ 8 → kind_in f ≡ Pointer → asks descriptors look f ≡ false
    → is_import f.target ≡ false
unasked_target look descriptors f eight pointer h =
    plain_target look descriptors f.width f.target eight (sym
    (ap (λ (k : Kind). (f.width == 8) && is_pointer_kind k && not (is_absolute_target f.target) && not
    (descriptors && in_template look f.target)) pointer)
    ∙ h)

has_start : (template : Option Range64) → is_some template ≡ true → IsStart true template (start_of true template)
has_start None some = absurd (true_or_false false some refl)
has_start (Some r) some = refl

starts_at : (b : Bool) (template : Option Range64) → (b ≡ true → is_some template ≡ true) → IsStart b template (start_of b template)
starts_at false template some = refl
starts_at true template some = has_start template (some refl)

template_there : (l : Link) (p : Placed) (look : Look) (t : Target) → Tells l p look → IsFound l p → IsThere p t
    → in_template look t ≡ true → is_some p.template ≡ true
template_there l p look (target.Section file section offset) tells found there h =
    found.template there.0 there.1
    (sym (tells.in_template there.0 there.1)
    ∙ ap (λ (n : ℕ). look.in_template n there.0.section) there.2
    ∙ ap (look.in_template file) there.3 ∙ h)
template_there l p look (target.Common id) tells found there h = absurd (true_or_false false h refl)
template_there l p look (target.Import id) tells found there h = absurd (true_or_false false h refl)
template_there l p look target.Base tells found there h = absurd (true_or_false false h refl)
template_there l p look (target.Absolute value) tells found there h = absurd (true_or_false false h refl)
template_there l p look target.None tells found there h = absurd (true_or_false false h refl)

pub start_is : (l : Link) (p : Placed) (look : Look) (descriptors : Bool) (s : SectionId) (f : Field) → Tells l p look → IsFound l p
    → IsThere p f.target
    → descriptors ≡ (type_of (header_at l s) == S_THREAD_LOCAL_VARIABLES)
    → IsStart (is_template_offset l s f) p.template (start_of (descriptors && in_template look f.target) look.template)
start_is l p look descriptors s f tells found there is =
    let b = descriptors && in_template look f.target in
    subst (λ (c : Bool). IsStart c p.template (start_of b look.template)) (sym (offset_same l p look descriptors s f tells there is))
    (subst (λ (t : Option Range64). IsStart b p.template (start_of b t)) (sym tells.addresses.template)
    (starts_at b p.template (λ h. template_there l p look f.target tells found there
    (and_right descriptors (in_template look f.target) h))))

-- the value of a word
pub value_told : (p : Placed) (look : Look) (t : Target) (addend : ℕ) → TellsAddresses p look
    → fixup_value look t addend ≡ (address_of p t + addend) % 2 ^ 64
value_told p look t addend tells = ap (λ (n : ℕ). (n + addend) % 2 ^ 64) (address_told p look t tells)

-- what a word is asked to become
rebase_same : (l : Link) (p : Placed) (look : Look) (t : Target) (addend : ℕ) → Tells l p look
    → Rebase (fixup_value look t addend - look.base) ≡ Rebase ((address_of p t + addend) % 2 ^ 64 - p.base)
rebase_same l p look t addend tells =
    ap (λ (n : ℕ). Rebase (n - look.base)) (value_told p look t addend tells.addresses)
    ∙ ap (λ (n : ℕ). Rebase ((address_of p t + addend) % 2 ^ 64 - n)) tells.addresses.base

pub kind_same : (l : Link) (p : Placed) (look : Look) (t : Target) (addend : ℕ) → Tells l p look
    → kind_asked look t addend ≡ kind_for l p t addend
kind_same l p look (target.Import id) addend tells =
    ap (λ (n : ℕ). if has_room addend then Bind id addend else Bind n 0) (tells.own id addend)
kind_same l p look (target.Section file section offset) addend tells = rebase_same l p look
    (target.Section file section offset) addend tells
kind_same l p look (target.Common id) addend tells = rebase_same l p look (target.Common id) addend tells
kind_same l p look target.Base addend tells = rebase_same l p look target.Base addend tells
kind_same l p look (target.Absolute value) addend tells = rebase_same l p look (target.Absolute value) addend tells
kind_same l p look target.None addend tells = rebase_same l p look target.None addend tells

fits_word : (p : Placed) (v : ℕ) (b : Bool) → (nat_le p.base v && (bits 36 20 (v - p.base) == 0)) ≡ b
    → (b ≡ true → IsNotEncodable p v → ⊥) × (b ≡ false → IsNotEncodable p v)
fits_word p v b is = (room, none)
  where
    room : b ≡ true → IsNotEncodable p v → ⊥
    room yes_ (inl below) = absurd (grind (arith, nat_tests, and_left (nat_le p.base v) (bits 36 20 (v - p.base) == 0) (is ∙ yes_)))
    room yes_ (inr high) =
        let zero_bits = eqb-true (bits 36 20 (v - p.base)) 0 (and_right (nat_le p.base v) (bits 36 20 (v - p.base) == 0) (is ∙ yes_)) in
        absurd (omega (arith, zero_bits, high))

    none : b ≡ false → IsNotEncodable p v
    none not_ = elim (cases_lt v p.base) [
      | inl below ↦ inl below
      | inr above ↦ elim (cases_eq (bits 36 20 (v - p.base)) 0) [
        | inl zero_bits ↦
            let test : nat_le p.base v ≡ true = grind (arith, nat_tests) in
            absurd (true_or_false true refl (rw (test, zero_bits) at (is ∙ not_)))
        | inr some ↦ inr (omega arith)
      ]
    ]

plain_encodable : (look : Look) (t : Target) (addend : ℕ) → is_import t ≡ false
    → is_encodable look t addend ≡ (nat_le look.base (fixup_value look t addend) &&
    (bits 36 20 (fixup_value look t addend - look.base) == 0))
plain_encodable look (target.Section file section offset) addend own = refl
plain_encodable look (target.Common id) addend own = refl
plain_encodable look (target.Import id) addend own = absurd (true_or_false true refl own)
plain_encodable look target.Base addend own = refl
plain_encodable look (target.Absolute value) addend own = refl
plain_encodable look target.None addend own = refl

import_encodable : (look : Look) (t : Target) (addend : ℕ) → is_encodable look t addend ≡ false → is_import t ≡ false
import_encodable look (target.Section file section offset) addend h = refl
import_encodable look (target.Common id) addend h = refl
import_encodable look (target.Import id) addend h = absurd (true_or_false true refl h)
import_encodable look target.Base addend h = refl
import_encodable look (target.Absolute value) addend h = refl
import_encodable look target.None addend h = refl

-- the test, by the placement's addresses
encodable_told : (p : Placed) (look : Look) (t : Target) (addend : ℕ) (b : Bool) → TellsAddresses p look → is_import t ≡ false
    → is_encodable look t addend ≡ b
    → (nat_le p.base ((address_of p t + addend) % 2 ^ 64) && (bits 36 20 ((address_of p t + addend) % 2 ^ 64 - p.base) == 0)) ≡ b
encodable_told p look t addend b tells own h =
    ap (λ (v : ℕ). nat_le p.base v && (bits 36 20 (v - p.base) == 0)) (sym (value_told p look t addend tells))
    ∙ ap (λ (n : ℕ). nat_le n (fixup_value look t addend) && (bits 36 20 (fixup_value look t addend - n) == 0)) (sym tells.base)
    ∙ sym (plain_encodable look t addend own) ∙ h

pub encodable_is : (p : Placed) (look : Look) (t : Target) (addend : ℕ) → TellsAddresses p look → is_import t ≡ false
    → is_encodable look t addend ≡ true
    → IsNotEncodable p ((address_of p t + addend) % 2 ^ 64) → ⊥
encodable_is p look t addend tells own h = (fits_word p ((address_of p t + addend) % 2 ^ 64) true
    (encodable_told p look t addend true tells own h)).0 refl

pub not_encodable : (p : Placed) (look : Look) (t : Target) (addend : ℕ) → TellsAddresses p look → is_encodable look t addend ≡ false
    → (is_import t ≡ false) × IsNotEncodable p ((address_of p t + addend) % 2 ^ 64)
not_encodable p look t addend tells h =
    let own = import_encodable look t addend h in
    (own, (fits_word p ((address_of p t + addend) % 2 ^ 64) false (encodable_told p look t addend false tells own h)).1 refl)

-- places of words
pub stands_well : (a : ℕ) → may_stand a ≡ true → ((SEGMENT_PAGE < a % SEGMENT_PAGE + 8) ⊎ (1 ≤ a % 4)) → ⊥
stands_well a h (inl crosses) = absurd (grind (arith, nat_tests, and_left (nat_le (a % SEGMENT_PAGE + 8) SEGMENT_PAGE) (a % 4 == 0) h))
stands_well a h (inr odd) =
    let even = eqb-true (a % 4) 0 (and_right (nat_le (a % SEGMENT_PAGE + 8) SEGMENT_PAGE) (a % 4 == 0) h) in absurd
    (omega (arith, even, odd))

pub stands_badly : (a : ℕ) → may_stand a ≡ false → (SEGMENT_PAGE < a % SEGMENT_PAGE + 8) ⊎ (1 ≤ a % 4)
stands_badly a h = elim (cases_lt SEGMENT_PAGE (a % SEGMENT_PAGE + 8)) [
  | inl crosses ↦ inl crosses
  | inr inside ↦ elim (cases_eq (a % 4) 0) [
    | inl even ↦
        let test : nat_le (a % SEGMENT_PAGE + 8) SEGMENT_PAGE ≡ true = grind (arith, nat_tests) in
        absurd (true_or_false true refl (rw (test, even) at h))
    | inr odd ↦ inr (omega arith)
  ]
]
