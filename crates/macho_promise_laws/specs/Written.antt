-- What is written into the file of a placed link: the contents that come from its inputs, and the words of the loader over them;
-- then a text for each other range.
use Rattle.std.specs.Prelude.{◌≡◌, ℕ, ◌-◌, ◌≤◌, List, [], ◌∷◌, ◌++◌, map, length, slice_index, All}
use Rattle.macho_bytes.specs.Texts.{Part, Stands, IsOutside}
use Rattle.macho_bytes.specs.Images.{zeros}
use Rattle.macho_model.specs.declared.placed.Counts.{Counts}
use Rattle.macho_model.specs.Links.{Link}
use Rattle.macho_model.specs.Placement.{Placed, head_size}
use Rattle.macho_model.specs.Zeros.{Span}
use Rattle.macho_model.specs.Spans.{stub_span, slot_span, section_span, IsOutsideSpan, filled_sections, in_file}
use Rattle.macho_model.specs.Addresses.{offset_in_file}
use Rattle.macho_fixups.specs.declared.run.Fixup.{Fixup}
use Rattle.macho_fixups.specs.Chains.{AllStand}
use Rattle.macho_promise.specs.FixupsSay.{fixup_segments}
use Rattle.macho_contents.specs.Chaining.{IsChained}
use Rattle.macho_contents.specs.Filled.{ContentsAreFilled}
use Rattle.macho_image_laws.specs.Composed.{SectionIsWritten, StubIsWritten}

-- Sections that have bytes are filled and stubs are set, in a file of n zeros; and then the words of the run are written.
pub record AreContents (l : Link) (p : Placed) (run : List Fixup) (n : ℕ) (now : List ℕ) : Type 0 where
  pub before : List ℕ
  pub filled : ContentsAreFilled l p (zeros n) before
  pub chained : IsChained l p run before now

-- The texts of the other ranges: what the linker makes of consumed sections, the tables of `__LINKEDIT`, the head, the signature.
pub record Texts : Type 0 where
  pub initializers : List ℕ
  pub unwind : List ℕ
  pub fixups : List ℕ
  pub trie : List ℕ
  pub symbols : List ℕ
  pub strings : List ℕ
  pub head : List ℕ
  pub signature : List ℕ

-- each at the front of its range, in the order in which they are written
abbrev pub text_parts : Placed → Texts → List Part
text_parts p t =
    record { at = offset_in_file p p.init_offsets.start; text = t.initializers }
    ∷ record { at = offset_in_file p p.unwind.start; text = t.unwind }
    ∷ record { at = p.linkedit.fixups.start; text = t.fixups }
    ∷ record { at = p.linkedit.trie.start; text = t.trie }
    ∷ record { at = p.linkedit.symtab.start; text = t.symbols }
    ∷ record { at = p.linkedit.strtab.start; text = t.strings }
    ∷ record { at = 0; text = t.head }
    ∷ record { at = p.linkedit.signature.start; text = t.signature } ∷ []

-- No text is longer than its range.
pub record MadeFit (p : Placed) (t : Texts) : Type 0 where
  pub initializers : length t.initializers ≤ p.init_offsets.end - p.init_offsets.start
  pub unwind : length t.unwind ≤ p.unwind.end - p.unwind.start

pub record TextsFit (counts : Counts) (p : Placed) (t : Texts) : Type 0 where
  pub made : MadeFit p t
  pub fixups : length t.fixups ≤ p.linkedit.fixups.end - p.linkedit.fixups.start
  pub trie : length t.trie ≤ p.linkedit.trie.end - p.linkedit.trie.start
  pub symbols : (length t.symbols ≤ p.linkedit.symtab.end - p.linkedit.symtab.start)
      × (length t.strings ≤ p.linkedit.strtab.end - p.linkedit.strtab.start)
  pub head : length t.head ≤ head_size counts p
  pub signature : length t.signature ≤ p.linkedit.signature.end - p.linkedit.signature.start

-- the ranges of the file that hold sections, slots and stubs
unfoldable pub content_ranges : Link → Placed → List Span
content_ranges l p =
    map (λ q. in_file p (section_span l q)) (filled_sections l p) ++ map (λ s. in_file p (slot_span s)) p.slots
    ++ map (λ s. in_file p (stub_span s)) p.stubs

-- What stands in the file then: sections and stubs, all words, each text; and what is in none of their ranges is 0.
pub record AreStanding (l : Link) (p : Placed) (run : List Fixup) (t : Texts) (n : ℕ) (b : List ℕ) : Type 0 where
  pub size : length b ≡ n
  pub sections : All (SectionIsWritten l b p) p.sections
  pub stubs : All (StubIsWritten b p) p.stubs
  pub words : AllStand (fixup_segments p) run b
  pub texts : All (Stands b) (text_parts p t)
  pub rest : (i : ℕ) → All (IsOutsideSpan i) (content_ranges l p) → All (IsOutside i) (text_parts p t) → slice_index b i ≡ 0
