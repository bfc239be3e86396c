-- What links have in common whose libraries are alike, in the words of each definition of a link that looks at its inputs; and the laws
-- that say so, which are the contracts of functions of `src/laws.rt`.
use Rattle.std.specs.Prelude.{◌≡◌, ◌↔◌, ℕ, Bool, List, Result, IfOk, IfErr}
use Rattle.macho_model.specs.declared.placed.Counts.{Counts}
use Rattle.macho_model.specs.Links.{Link, Input, Dylib, Stub, StubReading, SectionId}
use Rattle.macho_model.specs.LinkLaws.{with_input}
use Rattle.macho_model.specs.Resolution.{SymbolId, definition_of, chosen_commons}
use Rattle.macho_model.specs.Needs.{imports_of, import_library, libraries_needed}
use Rattle.macho_model.specs.Targets.{target_of_name, target_of, target_of_relocation, slots_of, stubs_of}
use Rattle.macho_model.specs.Fixups.{import_entries_of}
use Rattle.macho_model.specs.Told.{ToldImport, ToldExport, IsToldExport, ExportsAreTold}
use Rattle.macho_model.specs.WrittenSum.{written_sum_of}
use Rattle.macho_model.specs.Memory.{Choice}
use Rattle.macho_model.specs.Placement.{Placed, IsPlaced}
use Rattle.macho_model.specs.Stands.{ImageStands}
use Rattle.macho_model.specs.Faults.{LinkFault, FaultStands}
use Rattle.macho_model.specs.Valid.{IsValid}
use Rattle.macho_trie.specs.Exports.{Exported}
use Rattle.macho_promise.specs.Sizes.{AreCounts}
use Rattle.macho_promise.specs.TrieSays.{ExportedAs}
use Rattle.macho_promise.specs.Promise.{IsLaidOut, IsLinked, IsAnswer}
use Rattle.macho_answer.specs.declared.fault.LinkError.{LinkError}
use Rattle.macho_answer.specs.declared.fault.LinkError.TheVariants.{OutOfMemory}
use Rattle.macho_answer.specs.declared.image.LinkedImage.{LinkedImage}
use Rattle.macho_answer.specs.Standing.{Stands}
use Rattle.macho_answer.specs.Linked.{IsImageOf, RefusalStands}
use Rattle.macho_promise.specs.Inputs.{IsStubInput}
use Rattle.macho_tbd.specs.Answer.{IsStubOf}
use Rattle.macho_alike_laws.specs.Links.{AreAlikeLinks, HoldsStubs}

-- Each name has the same definition, each symbol and each relocation the same target, and the same commons are chosen.
pub record ResolveAlike (l m : Link) : Type 0 where
  pub definitions : (name : List ℕ) → definition_of l name ≡ definition_of m name
  pub commons : chosen_commons l ≡ chosen_commons m
  pub names : (name : List ℕ) → target_of_name l name ≡ target_of_name m name
  pub symbols : (s : SymbolId) → target_of l s ≡ target_of m s
  pub relocations : (s : SectionId) (r : ℕ) → target_of_relocation l s r ≡ target_of_relocation m s r

-- The same imports, each of the same library, slots, stubs, entries of the import table and libraries are needed, in the same order.
pub record NeedAlike (l m : Link) : Type 0 where
  pub imports : imports_of l ≡ imports_of m
  pub import_libraries : (name : List ℕ) → import_library l name ≡ import_library m name
  pub slots : slots_of l ≡ slots_of m
  pub stubs : stubs_of l ≡ stubs_of m
  pub import_entries : import_entries_of l ≡ import_entries_of m
  pub libraries : libraries_needed l ≡ libraries_needed m

-- The same names are exported, as the same by each placement, and a list of them all is one of both.
pub record ExportAlike (l m : Link) : Type 0 where
  pub names : (name : List ℕ) (weak : Bool) → IsToldExport l name weak ↔ IsToldExport m name weak
  pub exported : (p : Placed) (name : List ℕ) (x : Exported) → ExportedAs l p name x ↔ ExportedAs m p name x
  pub lists : (exports : List ToldExport) → ExportsAreTold l exports ↔ ExportsAreTold m exports

-- Sizes and the written sum are the same, the one link is placed and laid out as the other is, and its image stands in memory as the
-- other's does, at each slide and choice of import addresses.
pub record PlacedAlike (l m : Link) : Type 0 where
  pub sizes : (counts : Counts) → AreCounts l counts ↔ AreCounts m counts
  pub sums : (counts : Counts) → written_sum_of l counts ≡ written_sum_of m counts
  pub placed : (counts : Counts) (p : Placed) → IsPlaced l counts p ↔ IsPlaced m counts p
  pub laid_out : (counts : Counts) (p : Placed) → IsLaidOut l counts p ↔ IsLaidOut m counts p
  pub stand : (b : List ℕ) (p : Placed) (s : ℕ) (choice : Choice) → ImageStands l b p s choice ↔ ImageStands m b p s choice

-- The same faults stand, without a placement and with each; so do the same refusals, with the placements that they keep; and the one link
-- is valid where the other is.
pub record FailAlike (l m : Link) : Type 0 where
  pub faults : (counts : Counts) (f : LinkFault) → FaultStands l counts f ↔ FaultStands m counts f
  pub stands : (counts : Counts) (e : LinkError) → Stands l counts e ↔ Stands m counts e
  pub valid : (counts : Counts) → IsValid l counts ↔ IsValid m counts

-- An answer to a link, with a UUID, is one that it may have: an image as it is promised, or a refusal that stands; of a valid link want
-- of memory alone.
pub record MayAnswer (l : Link) (uuid : List ℕ) (answer : Result LinkedImage LinkError) : Type 0 where
  pub done : IfOk answer (IsImageOf l uuid)
  pub why : IfErr answer (RefusalStands l)
  pub complete : (counts : Counts) → AreCounts l counts → IsValid l counts → IfErr answer (λ e. e ≡ OutOfMemory)

-- THE answers are the same: the images of both, with the UUID given, and the refusals.
pub record AnswerAlike (l m : Link) : Type 0 where
  pub linked : (counts : Counts) (uuid b : List ℕ) (p : Placed) → IsLinked l counts uuid b p ↔ IsLinked m counts uuid b p
  pub told : (counts : Counts) (uuid b : List ℕ) (p : Placed) (libraries : List (List ℕ)) (imports : List ToldImport) (fixups : ℕ)
      (exports : List ToldExport)
      → IsAnswer l counts uuid b p libraries imports fixups exports ↔ IsAnswer m counts uuid b p libraries imports fixups exports
  pub images : (uuid : List ℕ) (image : LinkedImage) → IsImageOf l uuid image ↔ IsImageOf m uuid image
  pub refusals : (e : LinkError) → RefusalStands l e ↔ RefusalStands m e
  pub answers : (uuid : List ℕ) (answer : Result LinkedImage LinkError) → MayAnswer l uuid answer ↔ MayAnswer m uuid answer

-- THE likeness: what each definition says of the one link it says of the other.
pub record LinkAlike (l m : Link) : Type 0 where
  pub resolve : ResolveAlike l m
  pub need : NeedAlike l m
  pub export : ExportAlike l m
  pub place : PlacedAlike l m
  pub fail : FailAlike l m
  pub answer : AnswerAlike l m

-- links that differ in libraries alone that are alike are linked alike; being alike goes both ways
abbrev pub AlikeLinksLinkAlike : Type 0
AlikeLinksLinkAlike = (l m : Link) → AreAlikeLinks l m → LinkAlike l m

abbrev pub AlikeLinksTurn : Type 0
AlikeLinksTurn = (l m : Link) → AreAlikeLinks l m → AreAlikeLinks m l

-- a link that holds the stubs of libraries is like the one that holds the libraries, and linked alike
abbrev pub StubsAreAlike : Type 0
StubsAreAlike = (l m : Link) → HoldsStubs l m → AreAlikeLinks l m

abbrev pub StubsLinkAlike : Type 0
StubsLinkAlike = (l m : Link) → HoldsStubs l m → LinkAlike l m

-- a link holds the stubs of itself, none; so do two that take the same input more, and two of which the one takes a library and the other
-- its stub
abbrev pub LinksHoldStubs : Type 0
LinksHoldStubs = (l : Link) → HoldsStubs l l

abbrev pub InputsAreTaken : Type 0
InputsAreTaken = (l m : Link) (x : Input) → HoldsStubs l m → HoldsStubs (with_input l x) (with_input m x)

abbrev pub StubsAreTaken : Type 0
StubsAreTaken =
    (l m : Link) (b text : List ℕ) (says : StubReading) → HoldsStubs l m → IsStubOf b text → IsStubInput text says
    → HoldsStubs (with_input l (Dylib b)) (with_input m (Stub text says))
