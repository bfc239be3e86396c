-- A stub is decided by what the file says of it.
--
-- Words on the chain stand in slots and in sections, and the 12 bytes of a stub are apart from both. So no chain word has a byte of the
-- stub, and each of its three words is in memory the segments' own, at every slide. Stub and slot move by the same whole pages: the
-- distance of their pages stays, and so does the slot's offset in its page; so a stub that goes through its slot in the file does so at
-- every load. The other way, a stub that stands at slide 0 has the file's words at the file's addresses, and goes through the same slot.
use Rattle.std.proofs.Common.{◌≡◌, ℕ, ◌+◌, ◌%◌, ◌≤◌, ◌⊎◌, List, arith, subst}
use Rattle.std.specs.Prelude.{Contains}
use Rattle.macho_model.specs.declared.placed.Counts.{Counts}
use Rattle.macho_model.specs.declared.placed.Stub.{Stub}
use Rattle.macho_model.specs.declared.targets.Target.TheVariants as target
use Rattle.macho_model.specs.Links.{Link}
use Rattle.macho_model.specs.Needs.{POINTER_SIZE}
use Rattle.macho_model.specs.WrittenSum.{STUB_SIZE}
use Rattle.macho_model.specs.Segments.{SEGMENT_PAGE}
use Rattle.macho_model.specs.Meaning.{GoesThrough}
use Rattle.macho_model.specs.Placement.{Placed}
use Rattle.macho_model.specs.Spans.{section_span, slot_span, stub_span}
use Rattle.macho_model.specs.Fixups.{IsFixupPlace}
use Rattle.macho_model.specs.Fixups as place
use Rattle.macho_model.specs.HeldLaws.{IsFree}
use Rattle.macho_model.specs.Memory.{Choice}
use Rattle.macho_model.specs.Stands.{StubStands}
use Rattle.macho_model.proofs.FieldSlides.{slot_moves}
use Rattle.macho_model.proofs.Sections.{apart_back}
use Rattle.macho_model.proofs.Slides.{page_of_slides, loads_slides}
use Rattle.macho_image_laws.proofs.Apart.{inside_apart}
use Rattle.macho_image_laws.proofs.Run.{free_apart}
use Rattle.macho_verify_laws.specs.InFile.{StubSays}
use Rattle.macho_verify_laws.specs.Laws.{IsAsked, StubsDecide}
use Rattle.macho_verify_laws.proofs.Bytes.{unmoved}
use Rattle.macho_verify_laws.proofs.Free.{parts, pointer_inside}
use Rattle.macho_verify_laws.proofs.Numbers.{number_held, number_stands}

-- bytes of a stub are apart from all words
stub_apart : (l : Link) (counts : Counts) (b : List ℕ) (p : Placed) (stub : Stub) (i n : ℕ) → IsAsked l counts b p
    → Contains p.stubs stub → i + n ≤ STUB_SIZE → 1 ≤ n → (word_at : ℕ) → IsFixupPlace l p word_at
    → (stub.address + i + n ≤ word_at) ⊎ (word_at + POINTER_SIZE ≤ stub.address + i)
stub_apart l counts b p stub i n asked one within some _ (place.IsFixupPlace.slot s slot) =
    inside_apart (stub_span stub) (slot_span s) (stub.address + i) n s.address POINTER_SIZE
    (apart_back (slot_span s) (stub_span stub) ((parts l counts b p asked).slot_stub s stub slot one)) (omega arith)
    (omega (arith, within)) some (omega arith) (omega arith) (omega arith)
stub_apart l counts b p stub i n asked one within some _ (place.IsFixupPlace.pointer r f other field needs) =
    let inside = pointer_inside l counts b p r f asked other field needs in
    inside_apart (stub_span stub) (section_span l r) (stub.address + i) n (r.address + f.offset) POINTER_SIZE
    (apart_back (section_span l r) (stub_span stub) ((parts l counts b p asked).section_stub r stub other one)) (omega arith)
    (omega (arith, within)) some (omega arith) (omega (arith, inside)) (omega arith)

-- so no word covers them
pub stub_free : (l : Link) (counts : Counts) (b : List ℕ) (p : Placed) (stub : Stub) (i n : ℕ) → IsAsked l counts b p
    → Contains p.stubs stub → i + n ≤ STUB_SIZE → 1 ≤ n → IsFree b (stub.address + i) n
stub_free l counts b p stub i n asked one within some =
    free_apart l b p (stub.address + i) n asked.whole (stub_apart l counts b p stub i n asked one within some)

-- a way through a slot moves by whole pages
way_moves : (at slot adrp ldr br s : ℕ) → s % SEGMENT_PAGE ≡ 0 → GoesThrough at slot adrp ldr br
    → GoesThrough (at + s) (slot + s) adrp ldr br
way_moves at slot adrp ldr br s pages way =
    let whole : s % 4096 ≡ 0 = omega (arith, pages) in
    record {
      pages = page_of_slides at adrp 0x90000010 slot s whole way.pages;
      loads = loads_slides ldr 0xf9400210 slot s whole way.loads;
      leaves = way.leaves;
    }

-- THE stub stands at every slide of whole pages.
pub stub_stands : (b : List ℕ) (p : Placed) (stub : Stub) → IsFree b stub.address 4 → IsFree b (stub.address + 4) 4
    → IsFree b (stub.address + 8) 4 → StubSays b p stub → (s : ℕ) (choice : Choice) → s % SEGMENT_PAGE ≡ 0
    → StubStands b p s choice stub
stub_stands b p stub first second third says s choice pages =
    record {
      adrp = says.adrp;
      ldr = says.ldr;
      br = says.br;
      held_adrp = number_held b 4 stub.address says.adrp first says.has_adrp s choice;
      held_ldr = number_held b 4 (stub.address + 4) says.ldr second says.has_ldr s choice;
      held_br = number_held b 4 (stub.address + 8) says.br third says.has_br s choice;
      slot = says.slot + s;
      at = slot_moves p (target.Import stub.import) says.slot s says.at;
      through = way_moves stub.address says.slot says.adrp says.ldr says.br s pages says.through;
    }

-- THE stub that stands at slide 0 says where it goes.
pub stub_says : (b : List ℕ) (p : Placed) (choice : Choice) (stub : Stub) → IsFree b stub.address 4 → IsFree b (stub.address + 4) 4
    → IsFree b (stub.address + 8) 4 → StubStands b p 0 choice stub → StubSays b p stub
stub_says b p choice stub first second third stands =
    record {
      adrp = stands.adrp;
      ldr = stands.ldr;
      br = stands.br;
      has_adrp = number_stands b choice 4 stub.address stands.adrp first stands.held_adrp;
      has_ldr = number_stands b choice 4 (stub.address + 4) stands.ldr second stands.held_ldr;
      has_br = number_stands b choice 4 (stub.address + 8) stands.br third stands.held_br;
      slot = stands.slot;
      at = stands.at;
      through = subst (λ x. GoesThrough x stands.slot stands.adrp stands.ldr stands.br) (omega arith) stands.through;
    }

-- THE decision.
pub stubs_decide : StubsDecide
stubs_decide l counts b p stub asked one =
    let start : stub.address + 0 ≡ stub.address = omega arith in
    let first : IsFree b stub.address 4 =
    subst (λ x. IsFree b x 4) start (stub_free l counts b p stub 0 4 asked one (omega arith) (omega arith)) in
    let second = stub_free l counts b p stub 4 4 asked one (omega arith) (omega arith) in
    let third = stub_free l counts b p stub 8 4 asked one (omega arith) (omega arith) in (
      λ says s choice load. stub_stands b p stub first second third says s choice load.pages,
      λ other.
          let load = unmoved l b (λ library name. 0) (λ library name. omega arith) asked.accepted in
          record {
            s = 0;
            choice = load.0;
            load = load.1;
            not_so = λ stands. other (stub_says b p load.0 stub first second third stands);
          },
    )
