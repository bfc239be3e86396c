-- The next field of a section: what was read of it is the field of the definitions, and it can be taken care of.
--
-- Its relocation is supported, so the table tells its width, its word and its target. The rules of objects tell that its symbol
-- or section exists, and that its bytes stand inside the section.
use Rattle.std.proofs.Common.{◌≡◌, ℕ, zero, suc, ◌+◌, ◌-◌, ◌^◌, ◌<◌, ◌≤◌, ◌==◌, ◌&&◌, ◌||◌, not, true, false, Bool, List, refl, sym, ap, subst, ◌∙◌, arith, inl, inr, ◌⊎◌, length}
use Rattle.std.specs.Prelude.{nat_le}
use Rattle.std.proofs.lemmas.Bool.{leb-true}
use Rattle.macho_model.specs.steps.RecordTests.{relocation_number_exists}
use Rattle.macho_records.specs.Sections.{type_of}
use Rattle.macho_records.specs.declared.constants.TheConstants.{S_THREAD_LOCAL_VARIABLES}
use Rattle.macho_wire.specs.declared.relocations.RelocationInfo.{RelocationInfo}
use Rattle.macho_model.specs.declared.placed.PlacedSection.{PlacedSection}
use Rattle.macho_model.specs.declared.targets.Target.{Target}
use Rattle.macho_model.specs.declared.targets.Target.TheVariants as target
use Rattle.macho_model.specs.Objects.{num_sections, section_at, section_bytes, relocation_at}
use Rattle.macho_model.specs.ObjectLaws.{KeepsObjectRules}
use Rattle.macho_model.proofs.ObjectLaws.{symbol_exists}
use Rattle.macho_model.specs.Links.{Link, SectionId, object_of, header_at}
use Rattle.macho_model.specs.Needs.{relocation_in}
use Rattle.macho_model.specs.Targets.{target_of_relocation, is_defined, is_import}
use Rattle.macho_model.specs.Fields.{Field, field_of, content_of, has_subtrahend, is_difference, is_prefix_type}
use Rattle.macho_model.specs.Rows.{is_none, is_supported, difference_fits, has_form, begins_pair}
use Rattle.macho_model.specs.Supported.{addend_fits, RelocationsAreSupported}
use Rattle.macho_model.specs.Stands.{Kind, Pointer, Difference, Branch, Page, Offset, SlotPage, SlotOffset, SlotDistance, NoKind}
use Rattle.macho_model.specs.Placement.{Placed, id_of}
use Rattle.macho_fixups.specs.declared.run.Fixup.{Fixup}
use Rattle.macho_fields.specs.declared.field.Field as read
use Rattle.macho_fields.specs.declared.field.Near.{Near}
use Rattle.macho_fields.specs.declared.fault.FillFault.{FillFault}
use Rattle.macho_fields.specs.declared.source.Source.{Source}
use Rattle.macho_object.specs.Views.{RelocationBytes}
use Rattle.macho_fields.specs.Looks.{Look}
use Rattle.macho_fields.specs.Faults.{FillStands}
use Rattle.macho_fields.specs.Filling.{IsToFill}
use Rattle.macho_fields.specs.steps.Filled.{IsSource, IsDone, IsStopped}
use Rattle.macho_fields.specs.steps.Fields.{seen, kind_in, target_in, IsNear, IsRead}
use Rattle.macho_fields.specs.steps.Kinds.{KindFits, IsCallable, IsLoadable, direct, by_stub, by_slot}
use Rattle.macho_fields.specs.steps.Sections.{is_field, IsFillable, IsFilledTo, IsNext}
use Rattle.macho_fields.proofs.Placing.{defined_is}
use Rattle.macho_fields.proofs.RowTests.{row_test}
use Rattle.macho_fields.proofs.Supporting.{no_addend, supported_fits}
use Rattle.macho_fields.proofs.Reading.{target_read, read_is}
use Rattle.macho_fields.proofs.One.{one_stands}
use Rattle.macho_fields.proofs.Steps.{filled_none, filled_prefix, filled_field}
use Rattle.macho_fields.proofs.Still.{IsStill, still_behind, still_alone}
use Rattle.macho_fields.proofs.Ends.{Behind}
use Rattle.macho_bytes.proofs.Bools.{true_or_false, and_left, and_right, is_equal}

-- a field that fits its kind leads somewhere
import_some : (t : Target) → is_import t ≡ true → is_none t ≡ false
import_some (target.Import id) moves = refl
import_some (target.Section file section offset) moves = refl
import_some (target.Common id) moves = refl
import_some target.Base moves = refl
import_some (target.Absolute value) moves = refl
import_some target.None moves = absurd (true_or_false false moves refl)

called_some : (p : Placed) (t : Target) → IsCallable p t → is_none t ≡ false
called_some p t (direct h) = (defined_is t h.defined).1
called_some p t (by_stub moves h) = import_some t moves

loaded_some : (p : Placed) (t : Target) → IsLoadable p t → is_none t ≡ false
loaded_some p t (direct h) = (defined_is t h.defined).1
loaded_some p t (by_slot moves h) = import_some t moves

leads_somewhere : (p : Placed) (f : Field) (w : ℕ) (kind : Kind) → KindFits p f w kind → is_none f.target ≡ false
leads_somewhere p f w Pointer fits = fits.1
leads_somewhere p f w Difference fits = (defined_is f.target fits.1.defined).1
leads_somewhere p f w Branch fits = called_some p f.target fits.2
leads_somewhere p f w Page fits = (defined_is f.target fits.2.defined).1
leads_somewhere p f w Offset fits = (defined_is f.target fits.2.defined).1
leads_somewhere p f w SlotPage fits = loaded_some p f.target fits.2
leads_somewhere p f w SlotOffset fits = loaded_some p f.target fits.3
leads_somewhere p f w SlotDistance fits = fits.1
leads_somewhere p f w NoKind fits = absurd fits

-- and has 4 or 8 bytes
wide_kind : (p : Placed) (f : Field) (w : ℕ) (kind : Kind) → KindFits p f w kind → (f.width ≡ 4) ⊎ (f.width ≡ 8)
wide_kind p f w Pointer fits = inr fits.0
wide_kind p f w Difference fits = fits.0
wide_kind p f w Branch fits = inl fits.0
wide_kind p f w Page fits = inl fits.0
wide_kind p f w Offset fits = inl fits.0
wide_kind p f w SlotPage fits = inl fits.0
wide_kind p f w SlotOffset fits = inl fits.0
wide_kind p f w SlotDistance fits = inl fits.0
wide_kind p f w NoKind fits = absurd fits

exponent_of : (n : ℕ) → n < 4 → (2 ^ n ≡ 4) ⊎ (2 ^ n ≡ 8) → (n ≡ 2) ⊎ (n ≡ 3)
exponent_of zero lt (inl is) = absurd (omega (arith, is))
exponent_of zero lt (inr is) = absurd (omega (arith, is))
exponent_of (suc zero) lt (inl is) = absurd (omega (arith, is))
exponent_of (suc zero) lt (inr is) = absurd (omega (arith, is))
exponent_of (suc (suc zero)) lt is = inl refl
exponent_of (suc (suc (suc zero))) lt is = inr refl
exponent_of (suc (suc (suc (suc n)))) lt is = absurd (omega (arith, lt))

-- a subtrahend that is supported leads to what moves
second_row : (type : ℕ) (pointer subtractor branch page offset slot_page slot_offset distance addend : Bool) → type ≡ 1
    → row_test type pointer subtractor branch page offset slot_page slot_offset distance addend ≡ true → subtractor ≡ true
second_row type pointer subtractor branch page offset slot_page slot_offset distance addend is h = rw is at h

subtrahend_fits : (l : Link) (s : SectionId) (r : ℕ) → (relocation_in l s r).r_type ≡ 1 → is_supported l s r ≡ true
    → is_defined (target_of_relocation l s r) ≡ true
unfolding is_supported
subtrahend_fits l s r is h =
    let row = second_row (relocation_in l s r).r_type _ (difference_fits l s r && begins_pair l s r) _ _ _ _ _ _
    (addend_fits l s r && begins_pair l s r) is h in
    and_right (has_form (relocation_in l s r) 2 false true || has_form (relocation_in l s r) 3 false true)
    (is_defined (target_of_relocation l s r))
    (and_left (difference_fits l s r) (begins_pair l s r) row)

-- the relocation in front of a difference is a subtrahend
subtractor_type : (l : Link) (s : SectionId) (r : ℕ) → has_subtrahend l s r ≡ true → (relocation_in l s (r - 1)).r_type ≡ 1
subtractor_type l s r h =
    let q = relocation_in l s (r - 1) in
    let rel = relocation_in l s r in
    let both = and_right (nat_le 1 r) (is_difference q rel) h in
    let front = and_left ((q.r_type == 1) && (rel.r_type == 0) && (q.r_address == rel.r_address)) (q.r_length == rel.r_length) both in
    is_equal q.r_type 1 (and_left (q.r_type == 1) (rel.r_type == 0)
    (and_left ((q.r_type == 1) && (rel.r_type == 0)) (q.r_address == rel.r_address) front))

pub section_exists : (b : List ℕ) (k r : ℕ) → relocation_number_exists b k r ≡ true → ((relocation_at b k r).r_type == 10) ≡ false
    → (relocation_at b k r).r_extern ≡ false
    → (relocation_at b k r).r_symbolnum - 1 < num_sections b
section_exists b k r h other plain =
    let test : (nat_le 1 (relocation_at b k r).r_symbolnum && nat_le (relocation_at b k r).r_symbolnum (num_sections b)) ≡ true = rw
    (plain, other) at h in
    let low = leb-true _ _ (and_left (nat_le 1 (relocation_at b k r).r_symbolnum) _ test) in
    let high = leb-true _ _ (and_right (nat_le 1 (relocation_at b k r).r_symbolnum) _ test) in
    omega (arith, low, high)

-- THE next field, of the bytes of its object.
next_in : (l : Link) (p : Placed) (q : PlacedSection) (look : Look) (descriptors : Bool) (r : ℕ) (text old : List ℕ) (n : Near)
    (f : read.Field)
    → RelocationsAreSupported l → IsFillable l p q look → KeepsObjectRules (object_of l q.file)
    → q.section < num_sections (object_of l q.file)
    → text ≡ section_bytes (object_of l q.file) q.section → length text ≡ (header_at l (id_of q)).size → q.address + length text ≤ 2 ^ 64
    → descriptors ≡ (type_of (header_at l (id_of q)) == S_THREAD_LOCAL_VARIABLES) → r < (header_at l (id_of q)).nreloc
    → IsNear (object_of l q.file) q.section r n → IsRead look q.file (object_of l q.file) text n f
    → is_prefix_type n.relocation.r_type ≡ false
    → IsStill l q r old → IsNext l p q look descriptors r old × (seen f ≡ field_of l (id_of q) r)
next_in l p q look descriptors r text old n f sound fill object section bytes long low are among near is own kept = (
  record {
    fill = fill;
    descriptors_are = are;
    among = among;
    field = ap not plain;
    fits = fits;
    still = kept.input inside;
    inside = omega (arith, inside, kept.long);
    low = omega (arith, inside, long, low, positive);
  },
  read_is l p look s r text n f fill.tells near is bytes exponent (section_exists b q.section r (exists r among) other)
      (target_read l p look s r fill.tells other (symbol_exists b q.section r (exists r among)) some) minus,
)
  where
    s : SectionId
    s = id_of q

    b : List ℕ
    b = object_of l q.file

    rel : RelocationInfo
    rel = relocation_in l s r

    plain : is_prefix_type rel.r_type ≡ false
    plain = ap (λ (m : RelocationInfo). is_prefix_type m.r_type) (sym near.relocation) ∙ own

    other : (rel.r_type == 10) ≡ false
    other = no_addend rel.r_type plain

    exists : (k : ℕ) → k < (header_at l s).nreloc → relocation_number_exists b q.section k ≡ true
    exists k lt = object.o5.1 q.section k section lt

    subtracted : has_subtrahend l s r ≡ true → (is_defined (target_of_relocation l s (r - 1)) ≡ true)
        × (((relocation_in l s (r - 1)).r_type == 10) ≡ false)
    subtracted h = (
      subtrahend_fits l s (r - 1) (subtractor_type l s r h) (sound.supported s (r - 1) fill.carried (omega (arith, among))),
      ap (λ (m : ℕ). m == 10) (subtractor_type l s r h),
    )

    fits : KindFits p (field_of l s r) (content_of l s r) (kind_in (field_of l s r))
    fits = supported_fits l p s r fill.found fill.carried among plain (sound.supported s r fill.carried among) subtracted

    some : is_none (target_of_relocation l s r) ≡ false
    some = leads_somewhere p (field_of l s r) (content_of l s r) (kind_in (field_of l s r)) fits

    wide : (2 ^ rel.r_length ≡ 4) ⊎ (2 ^ rel.r_length ≡ 8)
    wide = wide_kind p (field_of l s r) (content_of l s r) (kind_in (field_of l s r)) fits

    exponent : (rel.r_length ≡ 2) ⊎ (rel.r_length ≡ 3)
    exponent = exponent_of rel.r_length (subst (λ (m : RelocationInfo). m.r_length < 4) near.relocation near.bits.length) wide

    positive : 0 < 2 ^ rel.r_length
    positive = elim wide [ inl four ↦ omega (arith, four) | inr eight ↦ omega (arith, eight) ]

    inside : (field_of l s r).offset + (field_of l s r).width ≤ (header_at l s).size
    inside = leb-true _ _ (object.o10.1 q.section r section among)

    minus : has_subtrahend l s r ≡ true → target_in look q.file (relocation_in l s (r - 1)) ≡ target_of_relocation l s (r - 1)
    minus h =
        let type = subtractor_type l s r h in
        let lt : r - 1 < (header_at l s).nreloc = omega (arith, among) in
        target_read l p look s (r - 1) fill.tells (ap (λ (m : ℕ). m == 10) type) (symbol_exists b q.section (r - 1) (exists (r - 1) lt))
        (defined_is (target_of_relocation l s (r - 1)) (subtracted h).0).1

-- The same of bytes that are those of the object.
pub next_is : (l : Link) (p : Placed) (q : PlacedSection) (look : Look) (descriptors : Bool) (r : ℕ) (b text old : List ℕ) (n : Near)
    (f : read.Field)
    → object_of l q.file ≡ b → RelocationsAreSupported l → IsFillable l p q look → KeepsObjectRules b → q.section < num_sections b
    → text ≡ section_bytes b q.section → length text ≡ (section_at b q.section).size → q.address + length text ≤ 2 ^ 64
    → descriptors ≡ (type_of (section_at b q.section) == S_THREAD_LOCAL_VARIABLES) → r < (section_at b q.section).nreloc
    → IsNear b q.section r n → IsRead look q.file b text n f → is_prefix_type n.relocation.r_type ≡ false
    → IsStill l q r old → IsNext l p q look descriptors r old × (seen f ≡ field_of l (id_of q) r)
next_is l p q look descriptors r b text old n f same sound fill =
    subst (λ (m : List ℕ). KeepsObjectRules m → q.section < num_sections m → text ≡ section_bytes m q.section
    → length text ≡ (section_at m q.section).size
    → q.address + length text ≤ 2 ^ 64 → descriptors ≡ (type_of (section_at m q.section) == S_THREAD_LOCAL_VARIABLES)
    → r < (section_at m q.section).nreloc → IsNear m q.section r n → IsRead look q.file m text n f
    → is_prefix_type n.relocation.r_type ≡ false
    → IsStill l q r old → IsNext l p q look descriptors r old × (seen f ≡ field_of l (id_of q) r))
    same (next_in l p q look descriptors r text old n f sound fill)

-- each field of a section stands inside it
inside_all : (l : Link) (q : PlacedSection) (b : List ℕ) → object_of l q.file ≡ b → KeepsObjectRules b → q.section < num_sections b
    → (r : ℕ)
    → r < (header_at l (id_of q)).nreloc
    → (field_of l (id_of q) r).offset + (field_of l (id_of q) r).width ≤ (header_at l (id_of q)).size
inside_all l q b same =
    subst (λ (m : List ℕ). KeepsObjectRules m → q.section < num_sections m → (r : ℕ) → r < (header_at l (id_of q)).nreloc
    → (field_of l (id_of q) r).offset + (field_of l (id_of q) r).width ≤ (header_at l (id_of q)).size) same
    (λ object section r lt. leb-true _ _ (object.o10.1 q.section r section lt))

fillable : (l : Link) (p : Placed) (q : PlacedSection) (look : Look) (b : List ℕ) → IsToFill l p q look b → IsFillable l p q look
fillable l p q look b fill = record { found = fill.found; tells = fill.tells; carried = fill.carried; here = fill.here }

-- The next field by where the section comes from.
pub next_of : (l : Link) (p : Placed) (look : Look) (s : Source) (r : ℕ) (old : List ℕ) (n : Near) (f : read.Field)
    → IsSource s → IsToFill l p s.place look s.file.now.bytes → r < (section_at s.file.now.bytes s.place.section).nreloc
    → IsNear s.list.bytes s.list.section r n → IsRead look s.place.file s.file.now.bytes s.bytes.now n f
    → is_prefix_type n.relocation.r_type ≡ false
    → IsStill l s.place r old → IsNext l p s.place look s.descriptors r old × (seen f ≡ field_of l (id_of s.place) r)
next_of l p look s r old n f source fill among near is own still =
    next_is l p s.place look s.descriptors r s.file.now.bytes s.bytes.now old n f fill.object fill.sound.relocations
    (fillable l p s.place look s.file.now.bytes fill)
    source.object source.among source.bytes source.long source.low source.descriptors among
    (subst (λ (v : RelocationBytes). IsNear v.bytes v.section r n) source.list near) is own still

-- one field more
pub one_more : (l : Link) (p : Placed) (look : Look) (s : Source) (r : ℕ) (old new : List ℕ) (n : Near) (f : read.Field)
    (asked run more : List Fixup)
    → IsSource s → IsToFill l p s.place look s.file.now.bytes → r < (section_at s.file.now.bytes s.place.section).nreloc
    → IsNear s.list.bytes s.list.section r n → IsRead look s.place.file s.file.now.bytes s.bytes.now n f
    → is_prefix_type n.relocation.r_type ≡ false
    → IsFilledTo l p s.place r asked old run → IsDone look s.descriptors s.place (seen f) old new run more
    → IsFilledTo l p s.place (r + 1) asked new more
one_more l p look s r old new n f asked run more source fill among near is own filled done =
    let next = next_of l p look s r old n f source fill among near is own
    (still_behind l p look s r old asked run source fill among filled) in
    filled_field l p s.place look s.descriptors r asked old new run more fill.sound.relocations
    (inside_all l s.place s.file.now.bytes fill.object source.object source.among) filled next.0
    (subst (λ (g : Field). IsDone look s.descriptors s.place g old new run more) next.1 done)

-- or the refusal stands
pub one_stopped : (l : Link) (p : Placed) (look : Look) (s : Source) (r : ℕ) (old : List ℕ) (n : Near) (f : read.Field)
    (asked run : List Fixup) (fault : FillFault)
    → IsSource s → IsToFill l p s.place look s.file.now.bytes → r < (section_at s.file.now.bytes s.place.section).nreloc
    → IsNear s.list.bytes s.list.section r n → IsRead look s.place.file s.file.now.bytes s.bytes.now n f
    → is_prefix_type n.relocation.r_type ≡ false
    → IsFilledTo l p s.place r asked old run → IsStopped look s.descriptors s.place (seen f) old fault → FillStands l p fault
one_stopped l p look s r old n f asked run fault source fill among near is own filled stopped =
    let next = next_of l p look s r old n f source fill among near is own
    (still_behind l p look s r old asked run source fill among filled) in
    one_stands l p s.place look s.descriptors r old fault next.0
    (subst (λ (g : Field). IsStopped look s.descriptors s.place g old fault) next.1 stopped)

-- also where the field is looked at alone, in the bytes of the object
pub one_alone : (l : Link) (p : Placed) (look : Look) (s : Source) (r : ℕ) (n : Near) (f : read.Field) (fault : FillFault)
    → IsSource s → IsToFill l p s.place look s.file.now.bytes → r < (section_at s.file.now.bytes s.place.section).nreloc
    → IsNear s.list.bytes s.list.section r n → IsRead look s.place.file s.file.now.bytes s.bytes.now n f
    → is_prefix_type n.relocation.r_type ≡ false
    → IsStopped look s.descriptors s.place (seen f) s.bytes.now fault → FillStands l p fault
one_alone l p look s r n f fault source fill among near is own stopped =
    let next = next_of l p look s r s.bytes.now n f source fill among near is own (still_alone l p look s r source fill) in
    one_stands l p s.place look s.descriptors r s.bytes.now fault next.0
    (subst (λ (g : Field). IsStopped look s.descriptors s.place g s.bytes.now fault) next.1 stopped)

-- a relocation that is a part of the next one's field
pub prefix_is : (l : Link) (p : Placed) (look : Look) (s : Source) (r : ℕ) (n : Near) → IsSource s
    → IsToFill l p s.place look s.file.now.bytes → IsNear s.list.bytes s.list.section r n
    → is_prefix_type n.relocation.r_type ≡ true → is_field l (id_of s.place) r ≡ false
prefix_is l p look s r n source fill near prefix =
    let here = subst (λ (v : RelocationBytes). IsNear v.bytes v.section r n) source.list near in
    let in_link : n.relocation ≡ relocation_in l (id_of s.place) r =
    subst (λ (m : List ℕ). n.relocation ≡ relocation_at m s.place.section r) (sym fill.object) here.relocation in
    ap (λ (m : RelocationInfo). not (is_prefix_type m.r_type)) (sym in_link) ∙ ap not prefix

pub one_prefix : (l : Link) (p : Placed) (look : Look) (s : Source) (r : ℕ) (old : List ℕ) (n : Near) (asked run : List Fixup) → IsSource s
    → IsToFill l p s.place look s.file.now.bytes → IsNear s.list.bytes s.list.section r n
    → is_prefix_type n.relocation.r_type ≡ true
    → IsFilledTo l p s.place r asked old run → IsFilledTo l p s.place (r + 1) asked old run
one_prefix l p look s r old n asked run source fill near prefix filled =
    filled_prefix l p s.place r asked old run filled (prefix_is l p look s r n source fill near prefix)

-- the section as it was copied
pub copied : (l : Link) (p : Placed) (look : Look) (s : Source) (text : List ℕ) (run : List Fixup) → IsSource s
    → IsToFill l p s.place look s.file.now.bytes
    → text ≡ s.bytes.now → IsFilledTo l p s.place 0 run text run
copied l p look s text run source fill is =
    filled_none l p s.place text run
    (subst (λ (m : List ℕ). text ≡ section_bytes m s.place.section) (sym fill.object) (is ∙ source.bytes))
    (subst (λ (m : List ℕ). length text ≡ (section_at m s.place.section).size) (sym fill.object) (ap length is ∙ source.long))

-- how many relocations there are
pub count_is : (s : Source) (n i : ℕ) → IsSource s → n ≡ (section_at s.list.bytes s.list.section).nreloc → n ≤ i → i ≤ n
    → i ≡ (section_at s.file.now.bytes s.place.section).nreloc
count_is s n i source is low high =
    let same : i ≡ n = omega arith in
    same ∙ is ∙ ap (λ (v : RelocationBytes). (section_at v.bytes v.section).nreloc) source.list

-- and behind its last relocation
pub behind_last : (l : Link) (p : Placed) (q : PlacedSection) (b : List ℕ) (asked : List Fixup) (text : List ℕ) (run : List Fixup)
    → object_of l q.file ≡ b
    → IsFilledTo l p q (section_at b q.section).nreloc asked text run → Behind l p q asked text run
behind_last l p q b asked text run same filled =
    subst (λ (m : List ℕ). IsFilledTo l p q (section_at m q.section).nreloc asked text run) (sym same) filled
