-- THE promise of an image, whole: what is true of the bytes and the placement that a link is answered with.
use Rattle.std.specs.Prelude.{◌≡◌, ℕ, ◌^◌, ◌↔◌, List, [], length, map, min, Contains, MatchOption}
use Rattle.macho_model.specs.declared.placed.Counts.{Counts}
use Rattle.macho_model.specs.SegmentNames.{text_of, name_field}
use Rattle.macho_model.specs.Links.{Link}
use Rattle.macho_model.specs.Segments.{segment_names_of}
use Rattle.macho_model.specs.Placement.{Placed, IsPlaced}
use Rattle.macho_model.specs.OutputSections.{output_sections_for}
use Rattle.macho_model.specs.Order.{AreLeast}
use Rattle.macho_model.specs.Stands.{IsLoadable}
use Rattle.macho_model.specs.Chain.{OnChainOf}
use Rattle.macho_model.specs.Agreement.{CommandsAgree, TablesAgree}
use Rattle.macho_model.specs.Signature.{IsSigned}
use Rattle.macho_model.specs.Head.{HeadSays}
use Rattle.macho_model.specs.SymbolEntries.{SymbolsSay}
use Rattle.macho_model.specs.Images.{libraries_of}
use Rattle.macho_model.specs.Needs.{libraries_needed}
use Rattle.macho_model.specs.Zeros.{IsZeroElsewhere}
use Rattle.macho_model.specs.Made.{InitOffsetsSay, template_headers, FillTemplate}
use Rattle.macho_model.specs.Told.{ToldImport, ToldExport, IsTold, ExportsAreTold}
use Rattle.macho_model.specs.Faults.{NoneStands}
use Rattle.macho_fixups.specs.declared.run.Fixup.{Fixup}
use Rattle.macho_promise.specs.Sizes.{AreCounts}
use Rattle.macho_promise.specs.TrieSays.{TrieSays}
use Rattle.macho_promise.specs.UnwindSays.{UnwindSays}
use Rattle.macho_promise.specs.FixupsSay.{FixupsSay}
use Rattle.macho_model.specs.ImportTable.{ImportTableSays}

-- Where things are, beside `IsPlaced`: of the link and the placement alone.
pub record IsLaidOut (l : Link) (counts : Counts) (p : Placed) : Type 0 where
  -- the segments are those of the link, in order
  pub segments : map (λ s. text_of s.name) p.segments ≡ segment_names_of l
  -- their names are filled with zeros
  pub names : map (λ s. s.name.0) p.segments ≡ map name_field (segment_names_of l)
  -- parts stand in the stated order, each as low as it may, and each segment ends with the page of what it holds
  pub least : AreLeast l counts p
  -- the output sections are those of the link, with all that their headers say
  pub sections : p.output_sections ≡ output_sections_for l counts p

-- What the load commands say is what the placement says.
pub record Agrees (l : Link) (counts : Counts) (b : List ℕ) (p : Placed) : Type 0 where
  -- segments, section headers, the end of the commands and the entry
  pub commands : CommandsAgree l counts b p
  -- the tables of `__LINKEDIT`
  pub tables : TablesAgree b p

-- What the dynamic linker reads beside the bytes of sections.
pub record Tells (l : Link) (b : List ℕ) (p : Placed) : Type 0 where
  -- the import table has the entries of the link, in order, each with its library, name and addend
  pub imports : ImportTableSays l b
  -- the file names the libraries that the link needs, in order
  pub libraries : libraries_of b ≡ libraries_needed l
  -- look-up of a name in the exports trie finds exactly what it is exported as
  pub exports : TrieSays l b p
  -- there is one offset for each initializer, in order, which leads to it
  pub initializers : InitOffsetsSay l b p
  -- the headers of sections with initial values of thread-local variables fill the template, which the first begins and the last
  -- ends; without a template there are none
  pub template : MatchOption p.template (template_headers b ≡ []) (FillTemplate (template_headers b))
  -- look-up of an offset in the unwind information finds exactly what its entry says
  pub unwind : UnwindSays l b p

-- What the file says of itself, byte for byte, and which words the loader writes. Its unwind information has so many bytes.
pub record IsWritten (l : Link) (counts : Counts) (uuid : List ℕ) (b : List ℕ) (p : Placed) (unwind : ℕ) : Type 0 where
  -- header and load commands, with every field
  pub head : HeadSays l counts uuid b p
  -- the fixup table with the import table in it, and the words of its chains
  pub fixups : FixupsSay l b p
  -- the loader writes the words of these fixups (the slots, and the pointers that need one), and no other
  pub chain : (a : ℕ) → OnChainOf b a ↔ ((f : Fixup) × Contains fixups.fixups f × (f.address ≡ a))
  -- the entries of the symbol table and the names of the string table, to the last byte
  pub symbols : SymbolsSay l counts b p
  -- the digests are those of the final bytes
  pub signed : IsSigned l b
  -- a byte that nothing stands in is 0
  pub zeros : IsZeroElsewhere l b p unwind

-- THE promise of an image.
pub record IsLinked (l : Link) (counts : Counts) (uuid : List ℕ) (b : List ℕ) (p : Placed) : Type 0 where
  -- each part has its place, the loader accepts the bytes, and at every slide the image stands in memory
  pub loadable : IsLoadable l counts b p
  -- the sizes are those of the link
  pub counted : AreCounts l counts
  -- the names of segments, the order and least places of parts, section headers
  pub laid_out : IsLaidOut l counts p
  -- the load commands say what the placement does
  pub agrees : Agrees l counts b p
  -- imports, libraries, exports, initializers, the thread-local template, unwind information
  pub tells : Tells l b p
  -- header, commands, fixup table and the words that the loader writes, symbols, signature, zeros
  pub written : IsWritten l counts uuid b p (length tells.unwind.content)

-- THE answer of a link: an image with its placement, and what is told beside its bytes.
pub record IsAnswer (l : Link) (counts : Counts) (uuid : List ℕ) (b : List ℕ) (p : Placed) (libraries : List (List ℕ))
    (imports : List ToldImport) (fixups : ℕ) (exports : List ToldExport) : Type 0 where
  -- the image is as promised
  pub linked : IsLinked l counts uuid b p
  -- libraries, imports and the number of fixups are those of the link
  pub told : IsTold l libraries imports fixups
  -- and so are the exported names
  pub exports_told : ExportsAreTold l exports
  -- nothing stands that a link is refused for
  pub unrefused : NoneStands l counts p

-- The sizes that a placement kept by a refusal has: those of the link, but 2 ^ 32 for unwind information where its bound is more.
pub record AreKeptCounts (l : Link) (counts : Counts) : Type 0 where
  -- the sizes of the link
  pub whole : Counts
  pub are : AreCounts l whole
  -- those that are kept
  pub capped : counts ≡ record whole { unwind = min whole.unwind (2 ^ 32) }

-- A placement that is kept by a refusal is placed as that of an answer is.
pub record IsKept (l : Link) (p : Placed) : Type 0 where
  -- the sizes by which it was placed
  pub counts : Counts
  pub counted : AreKeptCounts l counts
  -- each part has its place
  pub placed : IsPlaced l counts p
  -- the names of segments, the order and least places of parts, section headers
  pub laid_out : IsLaidOut l counts p
