-- What the fields of a section say in an image.
--
-- The section's bytes in the file are those of the segments at its addresses, and there are no others. A field lies whole in its section,
-- so its number is read from the section's bytes as from the segments'. Hence what a field says in the section's bytes, it says in the
-- image, and the other way. A section without bytes in the file has no fields.
use Rattle.std.proofs.Common.{◌≡◌, ℕ, ◌+◌, ◌<◌, ◌≤◌, true, false, List, length, get_or, slice_range, slice_index, nat_le, sym, ap, subst, ◌∙◌, arith, inl, inr, Option, Some, None}
use Rattle.std.specs.Prelude.{Contains, is_some}
use Rattle.std.specs.FinMap.{empty}
use Rattle.std.proofs.lemmas.List.Edits.{get_or-between, length-between}
use Rattle.std.proofs.lemmas.Bool.{cases_lt, leb-true}
use Rattle.macho_bytes.specs.Numbers.{le_at}
use Rattle.macho_bytes.proofs.Members.{all_contains, contains_all, contains_map}
use Rattle.macho_bytes.proofs.Reading.{little_is_local, le_at-between}
use Rattle.macho_records.specs.Sections.{is_zerofill}
use Rattle.macho_records.specs.declared.header.SectionHeader.{SectionHeader}
use Rattle.macho_records.specs.declared.header.SegmentCommand.{SegmentCommand}
use Rattle.macho_model.specs.declared.placed.PlacedSection.{PlacedSection}
use Rattle.macho_model.specs.declared.placed.PlacedSegment.{PlacedSegment}
use Rattle.macho_model.specs.Links.{Link, SectionId, header_at}
use Rattle.macho_model.specs.Objects.{num_sections, section_at}
use Rattle.macho_model.specs.ObjectLaws.{KeepsObjectRules}
use Rattle.macho_object.specs.Views.{FileBytes}
use Rattle.macho_fields.specs.Filling.{IsToFill}
use Rattle.macho_fields.specs.Looks.{Look}
use Rattle.macho_model.specs.Fields.{Field, fields_of, content_of}
use Rattle.macho_model.specs.Loader.{IsAccepted}
use Rattle.macho_model.specs.Memory.{IsSegmentByte}
use Rattle.macho_model.specs.Placement.{Placed, id_of}
use Rattle.macho_model.specs.Stands.{Says, kind_of}
use Rattle.macho_model.specs.Values.{needs_fixup}
use Rattle.macho_fields.specs.Reads.{PlainFieldReads, PlainFieldsRead, IsFirstWrong}
use Rattle.macho_image_laws.proofs.Leading.{field_inside_section}
use Rattle.macho_verify_laws.specs.InFile.{IsSegmentNumber, PlainFieldSays}
use Rattle.macho_image_rules.specs.Bytes.{IsMapped}
use Rattle.macho_image_rules.specs.PlainFields.{IsLookedAt, PlainFieldsSay, IsWrongFieldOf}
use Rattle.macho_image_rules.proofs.Mapped.{mapped_listed}
use Rattle.macho_image_rules.proofs.Marking.{field_source}
use Rattle.macho_contents.proofs.Viewing.{view_is}
use Rattle.macho_image_rules.proofs.Standing.{HeldIn}
use Rattle.macho_image_rules.proofs.Zerofill.{unrelocated}

-- the bytes of a section in the file are those of the segments, all of them
pub record AreBytesAt (b : List ℕ) (a : ℕ) (bytes : List ℕ) : Type 0 where
  pub each : (i : ℕ) → i < length bytes → IsSegmentByte b (a + i) (slice_index bytes i)
  pub only : (i v : ℕ) → i < length bytes → IsSegmentByte b (a + i) v → v ≡ slice_index bytes i

-- a number in them is the segments'
pub number_there : (b : List ℕ) (a : ℕ) (bytes : List ℕ) (w i : ℕ) → AreBytesAt b a bytes → i + w ≤ length bytes
    → IsSegmentNumber b w (a + i) (le_at w bytes i)
number_there b a bytes w i are inside = record {
  text = slice_range bytes i (i + w);
  long = omega (arith, length-between bytes i (i + w), inside);
  bytes = λ k lt.
      subst (λ (v : ℕ). IsSegmentByte b (a + i + k) v) (sym (get_or-between bytes i (i + w) k 0 (omega (arith, lt))))
      (subst (λ (x : ℕ). IsSegmentByte b x (slice_index bytes (i + k))) (omega arith) (are.each (i + k) (omega (arith, lt, inside))));
  is = sym (le_at-between w i (i + w) 0 bytes (omega arith) ∙ ap (λ (j : ℕ). le_at w bytes j) (omega arith));
}

-- and there is no other number there
pub number_alone : (b : List ℕ) (a : ℕ) (bytes : List ℕ) (w i n : ℕ) → AreBytesAt b a bytes → i + w ≤ length bytes
    → IsSegmentNumber b w (a + i) n → n ≡ le_at w bytes i
number_alone b a bytes w i n are inside number =
    number.is
    ∙ little_is_local.alike w number.text bytes 0 i (λ k lt.
    ap (λ (j : ℕ). slice_index number.text j) (omega arith)
    ∙ are.only (i + k) (slice_index number.text k) (omega (arith, lt, inside))
    (subst (λ (x : ℕ). IsSegmentByte b x (slice_index number.text k)) (omega arith) (number.bytes k lt)))

-- what the fields of a section say in its bytes, they say in the image
pub plain_say : (l : Link) (b : List ℕ) (p : Placed) (q : PlacedSection) (bytes : List ℕ) → AreBytesAt b q.address bytes
    → ((f : Field) → Contains (fields_of l (id_of q)) f → f.offset + f.width ≤ length bytes) → PlainFieldsRead l p q bytes
    → PlainFieldsSay l b p q
plain_say l b p q bytes are inside read = record {
  each = contains_all (λ (f : Field). needs_fixup l (id_of q) f ≡ false → PlainFieldSays l b p q f) (fields_of l (id_of q)) (λ f one plain.
      record {
        word = le_at f.width bytes f.offset;
        stands = number_there b q.address bytes f.width f.offset are (inside f one);
        says = all_contains (PlainFieldReads l p q bytes) (fields_of l (id_of q)) f read.each one plain;
      });
}

-- and one that doesn't say it there is wrong in the image
pub plain_wrong : (l : Link) (b : List ℕ) (p : Placed) (q : PlacedSection) (bytes : List ℕ) (r : ℕ) → AreBytesAt b q.address bytes
    → ((f : Field) → Contains (fields_of l (id_of q)) f → f.offset + f.width ≤ length bytes) → IsFirstWrong l p q bytes r
    → IsWrongFieldOf l b p q r
plain_wrong l b p q bytes r are inside wrong =
    let f : Field = wrong.field in
    record {
      field = f;
      is = wrong.is;
      plain = wrong.plain;
      other = λ says.
          wrong.wrong (subst
          (λ (n : ℕ). Says l p 0 empty (id_of q) f
          (record { place = q.address + f.offset; word = n; input = content_of l (id_of q) f.relocation })
          (kind_of f.type (is_some f.subtrahend)))
          (number_alone b q.address bytes f.width f.offset says.word are (inside f wrong.is.1) says.stands) says.says);
    }

-- a mapped segment ends in the address space
pub mapped_ends : (b : List ℕ) (t : PlacedSegment) → IsAccepted b → IsMapped b t → t.address + t.size ≤ 18446744073709551616
mapped_ends b t accepted mapped =
    let s : SegmentCommand = mapped.command in
    let ends = leb-true (s.vmaddr + s.vmsize) 18446744073709551616
    (all_contains (λ (x : SegmentCommand). nat_le (x.vmaddr + x.vmsize) 18446744073709551616 ≡ true) _ s accepted.l6.0
    (mapped_listed b s mapped.one)) in
    omega (arith, ends, mapped.is.address, mapped.is.size)

-- what first wrong fields rest on, by views and look-ups of a link
pub to_fill : (l : Link) (p : Placed) (q : PlacedSection) (views : List (Option FileBytes)) (look : Look) (f : FileBytes)
    → IsLookedAt l p views look → Contains p.sections q → get_or views q.file None ≡ Some f → IsToFill l p q look f.bytes
to_fill l p q views look f at here seen = record {
  sound = at.sound;
  found = at.found;
  tells = at.tells;
  carried = subst (λ (ss : List SectionId). Contains ss (id_of q)) at.listed (contains_map id_of p.sections q here);
  here = here;
  object = view_is l views q.file f at.viewed seen;
}

-- fields lie whole in the section's bytes
pub fields_inside : (l : Link) (p : Placed) (q : PlacedSection) (views : List (Option FileBytes)) (look : Look) (f : FileBytes) (size : ℕ)
    → IsLookedAt l p views look → Contains p.sections q → get_or views q.file None ≡ Some f
    → size ≡ (section_at f.bytes q.section).size
    → (g : Field) → Contains (fields_of l (id_of q)) g → g.offset + g.width ≤ size
fields_inside l p q views look f size at here seen long g one =
    let fill = to_fill l p q views look f at here seen in
    let inside = field_inside_section l (id_of q) g at.objects.each fill.carried one in
    let sized : (header_at l (id_of q)).size ≡ (section_at f.bytes q.section).size =
    ap (λ (o : List ℕ). (section_at o q.section).size) fill.object in
    omega (arith, inside, sized, long)

-- zerofill has no fields
pub zeros_say : (l : Link) (b : List ℕ) (p : Placed) (q : PlacedSection) (views : List (Option FileBytes)) (look : Look) (f : FileBytes)
    → IsLookedAt l p views look → Contains p.sections q → get_or views q.file None ≡ Some f → KeepsObjectRules f.bytes
    → q.section < num_sections f.bytes → is_zerofill (section_at f.bytes q.section) ≡ true → PlainFieldsSay l b p q
zeros_say l b p q views look f at here seen object among zeros =
    let none : (header_at l (id_of q)).nreloc ≡ 0 =
    ap (λ (o : List ℕ). (section_at o q.section).nreloc) (view_is l views q.file f at.viewed seen)
    ∙ unrelocated f.bytes q.section object among zeros in
    record {
      each = contains_all (λ (g : Field). needs_fixup l (id_of q) g ≡ false → PlainFieldSays l b p q g) (fields_of l (id_of q))
          (λ g there plain. let from = field_source l q g there in absurd (omega (arith, from.1, none)));
    }

-- a section with bytes in the file has all of them there
pub all_filed : (b : List ℕ) (q : PlacedSection) (f : FileBytes) (s : PlacedSegment) (h : SectionHeader) (n : ℕ) → HeldIn b q f s
    → h ≡ section_at f.bytes q.section → is_zerofill h ≡ false → n ≤ h.size
    → (q.address + h.size ≤ s.address + s.file_size → n ≡ h.size) → n ≡ (section_at f.bytes q.section).size
all_filed b q f s h n held is filed short whole = elim (cases_lt 0 h.size) [
  | inl some ↦
      let fits = held.filed (ap is_zerofill (sym is) ∙ filed) (omega (arith, some, ap (λ (x : SectionHeader). x.size) is)) in
      whole (omega (arith, fits, ap (λ (x : SectionHeader). x.size) is)) ∙ ap (λ (x : SectionHeader). x.size) is
  | inr empty ↦ omega (arith, empty, short, ap (λ (x : SectionHeader). x.size) is)
]

-- and ends in the address space
pub low_end : (b : List ℕ) (q : PlacedSection) (f : FileBytes) (s : PlacedSegment) (n : ℕ) → IsAccepted b → HeldIn b q f s
    → n ≡ (section_at f.bytes q.section).size → q.address < 18446744073709551616 → q.address + n ≤ 18446744073709551616
low_end b q f s n accepted held long low = elim (cases_lt 0 n) [
  | inl some ↦
      let ends = mapped_ends b s accepted (held.mapped (omega (arith, some, long))) in
      omega (arith, ends, held.to, long)
  | inr empty ↦ omega (arith, empty, low)
]
