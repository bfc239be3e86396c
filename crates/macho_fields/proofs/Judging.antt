-- The fields of a section, judged by their bytes, relocation by relocation.
--
-- A field that isn't asked for fits its kind, so it has such bytes and the test is made of them. It passes exactly where they
-- say what the field is asked to: that is the law by kind. So where the test passes the field reads as it is to, and where it
-- fails it doesn't. A field that is asked for is passed over, and needs a fixup. Behind the last relocation all fields read so;
-- and the first that doesn't has only such ones in front.
use Rattle.std.proofs.Common.{◌≡◌, ℕ, ◌+◌, ◌<◌, not, true, false, Bool, List, length, refl, sym, ap, subst, ◌∙◌, arith, inl, inr}
use Rattle.std.specs.FinMap.{empty}
use Rattle.std.proofs.lemmas.Bool.{cases_Bool}
use Rattle.macho_bytes.specs.Numbers.{le_at}
use Rattle.macho_bytes.proofs.Bools.{not_false, true_or_false}
use Rattle.macho_bytes.proofs.Comparing.{below_more}
use Rattle.macho_model.specs.declared.placed.PlacedSection.{PlacedSection}
use Rattle.macho_model.specs.Objects.{section_at}
use Rattle.macho_model.specs.Links.{Link, object_of, header_at}
use Rattle.macho_model.specs.Fields.{Field, field_of, fields_of, content_of, is_prefix_type}
use Rattle.macho_model.specs.Values.{needs_fixup}
use Rattle.macho_model.specs.Placement.{Placed, id_of}
use Rattle.macho_model.specs.steps.Stands.{SaysOf}
use Rattle.macho_arm64.specs.Fields.{width_of}
use Rattle.macho_arm64.specs.Laws.{size_for}
use Rattle.macho_fields.specs.declared.field.Field as read
use Rattle.macho_fields.specs.declared.field.Near.{Near}
use Rattle.macho_fields.specs.declared.source.Source.{Source}
use Rattle.macho_fields.specs.declared.write.FieldWrite.{FieldWrite}
use Rattle.macho_fields.specs.Looks.{Look}
use Rattle.macho_fields.specs.Filling.{IsToFill}
use Rattle.macho_fields.specs.Reads.{PlainFieldReads, PlainFieldsRead, IsFirstWrong}
use Rattle.macho_fields.specs.steps.Fields.{seen, kind_in, asks, IsNear, IsRead}
use Rattle.macho_fields.specs.steps.Filled.{IsSource, place_in, start_in, written_in}
use Rattle.macho_fields.specs.steps.Reads.{tells, IsJudged, ReadTo, IsWrong}
use Rattle.macho_fields.specs.steps.Sections.{is_field, IsNext}
use Rattle.macho_fields.specs.steps.Writes.{HasField}
use Rattle.macho_fields.proofs.Numbered.{chosen_all, chosen_member}
use Rattle.macho_fields.proofs.Saying.{wide, held_says}
use Rattle.macho_fields.proofs.Telling.{told_held, says_told}
use Rattle.macho_fields.proofs.Reaching.{has_field_by_kind}
use Rattle.macho_fields.proofs.One.{needs_by, begins_here}
use Rattle.macho_fields.proofs.Nexts.{next_of, prefix_is}
use Rattle.macho_fields.proofs.Still.{still_alone}
use Rattle.macho_fields.proofs.Ends.{field_number}

-- the test that a field which isn't asked for was judged by
tested : (l : Link) (p : Placed) (q : PlacedSection) (look : Look) (descriptors : Bool) (r : ℕ) (input bytes : List ℕ) (wrong : Bool)
    → IsNext l p q look descriptors r input → length bytes ≡ length input
    → IsJudged look descriptors q (field_of l (id_of q) r) input bytes wrong → asks descriptors look (field_of l (id_of q) r) ≡ false
    → wrong ≡ not (tells (written_in look descriptors q (field_of l (id_of q) r)) (content_of l (id_of q) r)
    (le_at (field_of l (id_of q) r).width bytes (field_of l (id_of q) r).offset))
tested l p q look descriptors r input bytes wrong next long judged unasked =
    judged.plain unasked has.field (omega (arith, is, next.inside, long))
    ∙ ap (λ (n : ℕ). not (tells w (le_at n input f.offset) (le_at n bytes f.offset))) is
    ∙ ap (λ (k : ℕ). not (tells w k (le_at f.width bytes f.offset))) next.still
  where
    f : Field
    f = field_of l (id_of q) r

    w : FieldWrite
    w = written_in look descriptors q f

    has : HasField w input
    has = has_field_by_kind look p q f (start_in look descriptors f) (content_of l (id_of q) r) input (kind_in f) next.fits next.inside
        next.still

    is : width_of (size_for (kind_in f) f.width) ≡ f.width
    is = wide p f (content_of l (id_of q) r) (kind_in f) next.fits

-- a field that isn't wrong reads as it is to
right_field : (l : Link) (p : Placed) (q : PlacedSection) (look : Look) (descriptors : Bool) (r : ℕ) (input bytes : List ℕ) (wrong : Bool)
    → IsNext l p q look descriptors r input → length bytes ≡ length input
    → IsJudged look descriptors q (field_of l (id_of q) r) input bytes wrong → wrong ≡ false
    → PlainFieldReads l p q bytes (field_of l (id_of q) r)
right_field l p q look descriptors r input bytes wrong next long judged right plain = elim (cases_Bool (asks descriptors look f)) [
  | inl asked ↦
      absurd (true_or_false (needs_fixup l (id_of q) f) (needs_by l p q look descriptors r input true next asked) plain)
  | inr unasked ↦
      let test : tells (written_in look descriptors q f) content word ≡ true =
      not_false (tells (written_in look descriptors q f) content word)
      (λ no. true_or_false (not (tells (written_in look descriptors q f) content word)) (ap not no)
      (sym (tested l p q look descriptors r input bytes wrong next long judged unasked) ∙ right)) in
      let says = held_says l p look q f (start_in look descriptors f) content word (kind_in f)
      next.fill.tells.addresses next.fill.found.once next.low next.fits (begins_here l p q look descriptors r input next unasked)
      (told_held look (place_in q f) (start_in look descriptors f) f content word (kind_in f) test) in
      let here : q.address + f.offset + 0 ≡ q.address + f.offset = omega arith in
      subst (λ (place : ℕ). SaysOf l p 0 empty (id_of q) f place word content (kind_in f)) here says
]
  where
    f : Field
    f = field_of l (id_of q) r

    content : ℕ
    content = content_of l (id_of q) r

    word : ℕ
    word = le_at f.width bytes f.offset

-- a field that is wrong doesn't, and needs no fixup
wrong_field : (l : Link) (p : Placed) (q : PlacedSection) (look : Look) (descriptors : Bool) (r : ℕ) (input bytes : List ℕ) (wrong : Bool)
    → IsNext l p q look descriptors r input → length bytes ≡ length input
    → IsJudged look descriptors q (field_of l (id_of q) r) input bytes wrong → wrong ≡ true → IsWrong l p q r bytes
wrong_field l p q look descriptors r input bytes wrong next long judged is = elim (cases_Bool (asks descriptors look f)) [
  | inl asked ↦ absurd (true_or_false wrong is (judged.asked asked))
  | inr unasked ↦ record {
    field = next.field;
    plain = needs_by l p q look descriptors r input false next unasked;
    wrong = λ reads.
        let test = says_told l p look q f (start_in look descriptors f) content word (kind_in f)
        next.fill.tells.addresses next.fill.found.once next.low next.fits (begins_here l p q look descriptors r input next unasked) reads in
        true_or_false wrong is (tested l p q look descriptors r input bytes wrong next long judged unasked ∙ ap not test);
  }
]
  where
    f : Field
    f = field_of l (id_of q) r

    content : ℕ
    content = content_of l (id_of q) r

    word : ℕ
    word = le_at f.width bytes f.offset

-- nothing is read yet
pub read_none : (l : Link) (p : Placed) (q : PlacedSection) (bytes : List ℕ) → ReadTo l p q 0 bytes
read_none l p q bytes = record { each = λ r lt field. absurd (omega arith) }

-- a relocation more
read_more : (l : Link) (p : Placed) (q : PlacedSection) (n : ℕ) (bytes : List ℕ)
    → (is_field l (id_of q) n ≡ true → PlainFieldReads l p q bytes (field_of l (id_of q) n))
    → ReadTo l p q n bytes → ReadTo l p q (n + 1) bytes
read_more l p q n bytes last front = record {
  each = λ r lt field. elim (below_more r n lt) [
    | inl less ↦ front.each r less field
    | inr same ↦
        subst (λ (k : ℕ). PlainFieldReads l p q bytes (field_of l (id_of q) k)) (sym same)
        (last (sym (ap (is_field l (id_of q)) same) ∙ field))
  ];
}

pub read_prefix : (l : Link) (p : Placed) (look : Look) (s : Source) (r : ℕ) (n : Near) (bytes : List ℕ) → IsSource s
    → IsToFill l p s.place look s.file.now.bytes → IsNear s.list.bytes s.list.section r n
    → is_prefix_type n.relocation.r_type ≡ true → ReadTo l p s.place r bytes → ReadTo l p s.place (r + 1) bytes
read_prefix l p look s r n bytes source fill near prefix =
    read_more l p s.place r bytes
    (λ field. absurd (true_or_false (is_field l (id_of s.place) r) field (prefix_is l p look s r n source fill near prefix)))

pub read_field : (l : Link) (p : Placed) (look : Look) (s : Source) (r : ℕ) (n : Near) (f : read.Field) (bytes : List ℕ) (wrong : Bool)
    → IsSource s → IsToFill l p s.place look s.file.now.bytes → r < (section_at s.file.now.bytes s.place.section).nreloc
    → IsNear s.list.bytes s.list.section r n → IsRead look s.place.file s.file.now.bytes s.bytes.now n f
    → is_prefix_type n.relocation.r_type ≡ false → length bytes ≡ length s.bytes.now
    → IsJudged look s.descriptors s.place (seen f) s.bytes.now bytes wrong → wrong ≡ false
    → ReadTo l p s.place r bytes → ReadTo l p s.place (r + 1) bytes
read_field l p look s r n f bytes wrong source fill among near is own long judged right =
    let next = next_of l p look s r s.bytes.now n f source fill among near is own (still_alone l p look s r source fill) in
    read_more l p s.place r bytes
    (λ field. right_field l p s.place look s.descriptors r s.bytes.now bytes wrong next.0 long
    (subst (λ (g : Field). IsJudged look s.descriptors s.place g s.bytes.now bytes wrong) next.1 judged) right)

-- or the field is wrong
pub is_wrong : (l : Link) (p : Placed) (look : Look) (s : Source) (r : ℕ) (n : Near) (f : read.Field) (bytes : List ℕ) (wrong : Bool)
    → IsSource s → IsToFill l p s.place look s.file.now.bytes → r < (section_at s.file.now.bytes s.place.section).nreloc
    → IsNear s.list.bytes s.list.section r n → IsRead look s.place.file s.file.now.bytes s.bytes.now n f
    → is_prefix_type n.relocation.r_type ≡ false → length bytes ≡ length s.bytes.now
    → IsJudged look s.descriptors s.place (seen f) s.bytes.now bytes wrong → wrong ≡ true
    → IsWrong l p s.place r bytes
is_wrong l p look s r n f bytes wrong source fill among near is own long judged =
    let next = next_of l p look s r s.bytes.now n f source fill among near is own (still_alone l p look s r source fill) in
    wrong_field l p s.place look s.descriptors r s.bytes.now bytes wrong next.0 long
    (subst (λ (g : Field). IsJudged look s.descriptors s.place g s.bytes.now bytes wrong) next.1 judged)

-- behind the last relocation
pub read_all : (l : Link) (p : Placed) (q : PlacedSection) (b bytes : List ℕ) → object_of l q.file ≡ b
    → ReadTo l p q (section_at b q.section).nreloc bytes → PlainFieldsRead l p q bytes
unfolding fields_of
read_all l p q b bytes same to =
    let all = subst (λ (m : List ℕ). ReadTo l p q (section_at m q.section).nreloc bytes) (sym same) to in
    record {
      each = chosen_all (PlainFieldReads l p q bytes) (field_of l (id_of q)) (is_field l (id_of q)) (header_at l (id_of q)).nreloc all.each;
    }

-- the first that is wrong
pub first_of : (l : Link) (p : Placed) (q : PlacedSection) (look : Look) (b : List ℕ) (r : ℕ) (bytes : List ℕ)
    → IsToFill l p q look b → r < (section_at b q.section).nreloc
    → ReadTo l p q r bytes → IsWrong l p q r bytes → IsFirstWrong l p q bytes r
unfolding fields_of
first_of l p q look b r bytes fill among to wrong =
    let s = id_of q in
    let here : r < (header_at l s).nreloc = subst (λ (m : List ℕ). r < (section_at m q.section).nreloc) (sym fill.object) among in
    record {
      field = field_of l s r;
      is = (fill.carried, chosen_member (field_of l s) (is_field l s) (header_at l s).nreloc r here wrong.field, refl);
      plain = wrong.plain;
      wrong = wrong.wrong;
      front = λ k f lt of.
          let n = field_number l s k f of in
          subst (PlainFieldReads l p q bytes) (sym n.2) (to.each k lt n.1);
    }
