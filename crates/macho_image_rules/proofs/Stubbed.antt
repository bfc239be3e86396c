-- Stubs in an image.
--
-- By the placement a `__TEXT` holds a stub in its file part, and segments of one name are one; that name isn't `__PAGEZERO`. So the file
-- has the stub's 12 bytes, each the one that the segments have at its address, and its three words are read there. A slot of its import
-- is looked up at the one address that such slots have.
use Rattle.macho_image_rules.specs.declared.stubs.StubWords.{StubWords}
use Rattle.std.proofs.Common.{◌≡◌, ℕ, ◌+◌, ◌≤◌, true, List, length, refl, sym, ap, subst, ◌∙◌, arith}
use Rattle.std.specs.Prelude.{Contains}
use Rattle.macho_model.specs.declared.placed.Counts.{Counts}
use Rattle.macho_model.specs.declared.placed.PlacedSegment.{PlacedSegment}
use Rattle.macho_model.specs.declared.placed.Slot.{Slot}
use Rattle.macho_model.specs.declared.placed.Stub.{Stub}
use Rattle.macho_model.specs.declared.targets.Target.{Target}
use Rattle.macho_model.specs.declared.targets.Target.TheVariants as target
use Rattle.macho_model.specs.Links.{Link}
use Rattle.macho_model.specs.Addresses.{slot_address}
use Rattle.macho_model.specs.Meaning.{GoesThrough}
use Rattle.macho_model.specs.Segments.{TEXT}
use Rattle.macho_model.specs.Placement.{Placed, IsPlaced, IsPaged, IsInNamed, LiesIn, stub_piece, is_segment_named}
use Rattle.macho_model.proofs.Sections.{one_named}
use Rattle.macho_bytes.proofs.Members.{all_contains, contains_all}
use Rattle.macho_fields.specs.Looks.{Look, TellsAddresses}
use Rattle.macho_fields.specs.Through.{StubsAreFound}
use Rattle.macho_verify_laws.specs.InFile.{IsSegmentNumber, StubSays}
use Rattle.macho_image_rules.specs.Segments.{SegmentsAre}
use Rattle.macho_image_rules.specs.StubWalk.{words_in, StubLies, PlacedStubsLie}
use Rattle.macho_image_rules.proofs.Mapped.{placed_is_mapped}
use Rattle.macho_image_rules.proofs.Unfilled.{named_elsewhere}
use Rattle.macho_image_rules.proofs.Plainly.{AreBytesAt, number_there, number_alone}

stub_lies : (l : Link) (counts : Counts) (b : List ℕ) (p : Placed) (stub : Stub) → IsPlaced l counts p → SegmentsAre b p
    → Contains p.stubs stub → StubLies b p stub
stub_lies l counts b p stub placed are here =
    let held = all_contains (λ (x : Stub). IsInNamed p TEXT (LiesIn true (stub_piece x))) p.stubs stub placed.in_segment.stubs here in
    let lies : (s : PlacedSegment) → Contains p.segments s → is_segment_named TEXT s ≡ true → LiesIn true (stub_piece stub) s
    = λ s there named.
    subst (LiesIn true (stub_piece stub)) (one_named l p.segments TEXT held.0 s placed.follow held.1 there held.2 named) held.3 in
    record {
      some = (held.0, held.1, held.2);
      each = λ s there named.
          let paged = all_contains IsPaged p.segments s placed.paged there in
          let to : stub.address + 12 ≤ s.address + s.size = omega (arith, (lies s there named).1, paged.file_size) in
          record {
            mapped = λ some. placed_is_mapped b p s are there (omega (arith, to, (lies s there named).0))
                (named_elsewhere TEXT s refl named);
            from = (lies s there named).0;
            to = to;
          };
      filed = λ s there named. (lies s there named).1;
    }

-- THE stubs of a placed link.
pub placed_lie : PlacedStubsLie
placed_lie l counts b p placed are =
    contains_all (StubLies b p) p.stubs (λ stub here. stub_lies l counts b p stub placed are here)

-- slots of an import are looked up at their address
slot_told : (p : Placed) (look : Look) (t : Target) (s : Slot) → TellsAddresses p look → StubsAreFound p → Contains p.slots s
    → s.target ≡ t → look.slot t ≡ s.address
slot_told p look t s tells found there is =
    tells.slots t ∙ ap (slot_address p) (sym is) ∙ found.once.slots s there

-- a stub says what its words do
pub stub_is_right : (b : List ℕ) (p : Placed) (look : Look) (stub : Stub) (bytes : List ℕ) → TellsAddresses p look → StubsAreFound p
    → Contains p.stubs stub → AreBytesAt b stub.address bytes → length bytes ≡ 12
    → GoesThrough stub.address (look.slot (target.Import stub.import)) (words_in bytes).adrp (words_in bytes).ldr (words_in bytes).br
    → StubSays b p stub
stub_is_right b p look stub bytes tells found here are long way =
    let has = found.slots stub here in
    record {
      adrp = (words_in bytes).adrp;
      ldr = (words_in bytes).ldr;
      br = (words_in bytes).br;
      has_adrp = subst (λ (a : ℕ). IsSegmentNumber b 4 a (words_in bytes).adrp) (omega arith)
          (number_there b stub.address bytes 4 0 are (omega (arith, long)));
      has_ldr = number_there b stub.address bytes 4 4 are (omega (arith, long));
      has_br = number_there b stub.address bytes 4 8 are (omega (arith, long));
      slot = look.slot (target.Import stub.import);
      at = (has.0, has.1, has.2, slot_told p look (target.Import stub.import) has.0 tells found has.1 has.2 ∙ omega arith);
      through = way;
    }

-- and where it says so, its words do
pub stub_goes : (b : List ℕ) (p : Placed) (look : Look) (stub : Stub) (bytes : List ℕ) → TellsAddresses p look → StubsAreFound p
    → AreBytesAt b stub.address bytes → length bytes ≡ 12 → StubSays b p stub
    → GoesThrough stub.address (look.slot (target.Import stub.import)) (words_in bytes).adrp (words_in bytes).ldr (words_in bytes).br
stub_goes b p look stub bytes tells found are long says =
    let slot : says.slot ≡ look.slot (target.Import stub.import) =
    says.at.3 ∙ omega arith ∙ sym (slot_told p look (target.Import stub.import) says.at.0 tells found says.at.1 says.at.2) in
    let adrp : says.adrp ≡ (words_in bytes).adrp =
    number_alone b stub.address bytes 4 0 says.adrp are (omega (arith, long))
    (subst (λ (a : ℕ). IsSegmentNumber b 4 a says.adrp) (omega arith) says.has_adrp) in
    let ldr = number_alone b stub.address bytes 4 4 says.ldr are (omega (arith, long)) says.has_ldr in
    let br = number_alone b stub.address bytes 4 8 says.br are (omega (arith, long)) says.has_br in
    subst (λ (w : ℕ). GoesThrough stub.address (look.slot (target.Import stub.import)) (words_in bytes).adrp (words_in bytes).ldr w) br
    (subst (λ (w : ℕ). GoesThrough stub.address (look.slot (target.Import stub.import)) (words_in bytes).adrp w says.br) ldr
    (subst (λ (w : ℕ). GoesThrough stub.address (look.slot (target.Import stub.import)) w says.ldr says.br) adrp
    (subst (λ (x : ℕ). GoesThrough stub.address x says.adrp says.ldr says.br) slot says.through)))

-- equal words go through equal slots
pub goes_alike : (at x y : ℕ) (v w : StubWords) → x ≡ y → v ≡ w → GoesThrough at x v.adrp v.ldr v.br → GoesThrough at y w.adrp w.ldr w.br
goes_alike at x y v w slots words way =
    subst (λ (u : StubWords). GoesThrough at y u.adrp u.ldr u.br) words
    (subst (λ (z : ℕ). GoesThrough at z v.adrp v.ldr v.br) slots way)
