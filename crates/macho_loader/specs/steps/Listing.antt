-- What the walks say that list the words on the chains.
use Rattle.std.specs.Prelude.{◌≡◌, ℕ, ◌+◌, ◌*◌, ◌%◌, ◌^◌, ◌<◌, ◌≤◌, true, false, List, map, min, Contains, All, AllPairs}
use Rattle.std.specs.List.{range_with_len}
use Rattle.std.specs.Int.{w64, cast_unsigned}
use Rattle.macho_records.specs.declared.header.SegmentCommand.{SegmentCommand}
use Rattle.macho_model.specs.Images.{Table, base_of, fixups_header, import_entry}
use Rattle.macho_model.specs.Chain.{OnChainOf}
use Rattle.macho_model.specs.Loader.{is_bind, ordinal_of}
use Rattle.macho_model.specs.Memory.{rebase_target, rebase_high, bind_addend}
use Rattle.macho_model.specs.Segments.{SEGMENT_PAGE}
use Rattle.macho_image_walks.specs.declared.walk.Listed.TheVariants as list
use Rattle.macho_image_walks.specs.Readings.{IsNth, SaysSegment, segment_there}
use Rattle.macho_image_walks.specs.steps.Walks.{IsOnPage}
use Rattle.macho_image_walks.specs.steps.WordTests.{address_in}
use Rattle.macho_loader.specs.Lists.{Import, import_at, SaysKind}
use Rattle.macho_loader.specs.steps.Words.{IsChained}
use Rattle.macho_loader.specs.declared.chain_list.FixupLine.{FixupLine}
use Rattle.macho_loader.specs.declared.chain_list.LineKind.{LineKind}
use Rattle.macho_loader.specs.declared.chain_list.LineKind.TheVariants.{Rebase, Bind}
use Rattle.macho_loader.specs.declared.chain_list.Walk.{Walk}

-- the entries of a table as imports
abbrev pub imports_in : List ℕ → Table → List Import
imports_in b t = map (import_at b t) (range_with_len 0 (fixups_header b t).imports_count)

-- what a word alone says, by a table and a base
abbrev pub KindOf : List ℕ → Table → ℕ → ℕ → LineKind → Type 0
KindOf b t base word (Rebase value) =
    (is_bind word ≡ false) × (value ≡ (rebase_target word + rebase_high word * 2 ^ 56 + base) % 2 ^ 64)
KindOf b t base word (Bind import addend) =
    (is_bind word ≡ true) × (import ≡ ordinal_of word)
    × (cast_unsigned w64 addend ≡ ((import_entry b t import).addend + bind_addend word) % 2 ^ 64)

-- what a walk over pages keeps at hand is what the image says
pub record IsWalk (b : List ℕ) (w : Walk) : Type 0 where
  pub chained : IsChained b w.segment
  pub says : SaysSegment w.numbers (segment_there b w.segment.place)
  pub base : w.base ≡ base_of b

-- the lines so far are those of all words below an address, and of no others
pub record ListsTo (b : List ℕ) (lines : List FixupLine) (end : ℕ) : Type 0 where
  pub rising : AllPairs (λ x y. x.address < y.address) lines
  pub each : All (λ x. SaysKind b x.address x.kind) lines
  pub below : All (λ x. x.address < end) lines
  pub whole : (a : ℕ) → OnChainOf b a → a < end → Contains (map (λ x. x.address) lines) a

-- where a segment ends in memory, and where a page of it begins; behind the last page that is the segment's end
abbrev pub segment_end : SegmentCommand → ℕ
segment_end s = s.vmaddr + s.vmsize

abbrev pub page_from : SegmentCommand → ℕ → ℕ
page_from s page = min (s.vmaddr + SEGMENT_PAGE * page) (segment_end s)

-- the walk along a page's chain stands at one of its words, and all those below it are listed
pub record IsListing (b : List ℕ) (w : Walk) (page offset : ℕ) (lines : List FixupLine) : Type 0 where
  pub on : IsOnPage b w.segment.number w.segment.place page (address_in b w.segment.place offset)
  pub lists : ListsTo b lines (address_in b w.segment.place offset)
  pub small : offset < 2 ^ 31

-- the words of so many segments are listed: they are those below an address that parts these segments from the later ones
pub record ListsSegments (b : List ℕ) (count : ℕ) (lines : List FixupLine) : Type 0 where
  pub end : ℕ
  pub lists : ListsTo b lines end
  pub behind : (k place : ℕ) → k < count → IsNth list.Segments b k place → segment_end (segment_there b place) ≤ end
  pub before : (k place : ℕ) → count ≤ k → IsNth list.Segments b k place → end ≤ (segment_there b place).vmaddr
