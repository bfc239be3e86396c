-- An image that is right by its bytes stands at every load.
--
-- What stands is four lists: sections, commons, slots and stubs. For each of them the bytes of the file say the same of each element, and
-- each element has its own law: the bytes of a section outside its fields, its fields, the bytes of a common, slots and stubs. The laws are
-- asked with a load in hand, and what each says at that load is put together.
use Rattle.std.proofs.Common.{ℕ, ◌+◌, ◌<◌, List}
use Rattle.std.specs.Prelude.{Contains, All}
use Rattle.macho_bytes.proofs.Members.{all_contains, contains_all}
use Rattle.macho_records.specs.Symbols.{common_size_of}
use Rattle.macho_model.specs.declared.placed.Counts.{Counts}
use Rattle.macho_model.specs.declared.placed.PlacedSection.{PlacedSection}
use Rattle.macho_model.specs.declared.placed.PlacedCommon.{PlacedCommon}
use Rattle.macho_model.specs.declared.placed.Slot.{Slot}
use Rattle.macho_model.specs.Links.{Link, header_at}
use Rattle.macho_model.specs.Resolution.{entry_at}
use Rattle.macho_model.specs.Fields.{fields_of}
use Rattle.macho_model.specs.Placement.{Placed, id_of, common_of}
use Rattle.macho_model.specs.Memory.{Choice, Holds}
use Rattle.macho_model.specs.Stands.{Denotes, SectionStands, SlotStands, StubStands}
use Rattle.macho_verify_laws.specs.Loads.{IsLoad}
use Rattle.macho_verify_laws.specs.InFile.{IsInNoField, SectionByteIs, CommonByteIs, FieldSays, WordLeads, StubSays, IsRightInFile}
use Rattle.macho_verify_laws.specs.Laws.{IsAsked, SectionBytesDecide, CommonBytesDecide, FieldsDecide, SlotsDecide, StubsDecide, FileDecides}

-- one section stands at a load
section_stands : SectionBytesDecide → FieldsDecide → (l : Link) (counts : Counts) (b : List ℕ) (p : Placed) → IsAsked l counts b p
    → IsRightInFile l b p → (s : ℕ) (choice : Choice) → IsLoad l b s choice → (q : PlacedSection) → Contains p.sections q
    → SectionStands l b p s choice q
section_stands sections fields l counts b p asked right s choice load q one =
    record {
      bytes = λ i lt none. (sections l counts b p q i asked one lt none).0
          (all_contains Bytes p.sections q right.bytes one i lt none) s choice load;
      fields = let say = all_contains Fields p.sections q right.fields one in
          contains_all (Denotes l b p s choice q) (fields_of l (id_of q)) (λ f has. (fields l counts b p q f asked one has).0
          (all_contains (FieldSays l b p q) (fields_of l (id_of q)) f say has) s choice load);
    }
  where
    Bytes : PlacedSection → Type 0
    Bytes r = (i : ℕ) → i < (header_at l (id_of r)).size → IsInNoField l r i → SectionByteIs l b r i

    Fields : PlacedSection → Type 0
    Fields r = All (FieldSays l b p r) (fields_of l (id_of r))

-- THE image stands at every load, by the laws of its parts.
pub file_decides : SectionBytesDecide → CommonBytesDecide → FieldsDecide → SlotsDecide → StubsDecide → FileDecides
file_decides sections commons fields slots stubs l counts b p asked right s choice load =
    record {
      sections = contains_all (SectionStands l b p s choice) p.sections
          (section_stands sections fields l counts b p asked right s choice load);
      commons = contains_all Zeros p.commons (λ c one i lt. (commons l counts b p c i asked one lt).0
          (all_contains InFile p.commons c right.commons one i lt) s choice load);
      slots = contains_all (SlotStands l b p s choice) p.slots (λ slot one. (slots l counts b p slot asked one).0
          (all_contains Leads p.slots slot right.slots one) s choice load);
      stubs = contains_all (StubStands b p s choice) p.stubs (λ stub one. (stubs l counts b p stub asked one).0
          (all_contains (StubSays b p) p.stubs stub right.stubs one) s choice load);
    }
  where
    Zeros : PlacedCommon → Type 0
    Zeros c = (i : ℕ) → i < common_size_of (entry_at l (common_of l c.id)) → Holds b s choice (c.address + i + s) 0

    InFile : PlacedCommon → Type 0
    InFile c = (i : ℕ) → i < common_size_of (entry_at l (common_of l c.id)) → CommonByteIs b c i

    Leads : Slot → Type 0
    Leads slot = WordLeads l b p slot.address slot.target 0
