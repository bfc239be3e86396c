-- An answer of one of two links that agree is one of the other: an image as it is promised, or a refusal that stands.
use Rattle.std.proofs.Common.{ℕ, List, Option, Some, None, ◌∙◌}
use Rattle.std.specs.Prelude.{IfSome}
use Rattle.macho_model.specs.declared.placed.Counts.{Counts}
use Rattle.macho_model.specs.Links.{Link}
use Rattle.macho_model.specs.Placement.{Placed}
use Rattle.macho_model.specs.Faults.{LinkFault, kept_placement}
use Rattle.macho_model.specs.Told.{ToldImport, ToldExport, IsTold}
use Rattle.macho_promise.specs.Promise.{IsAnswer, IsKept}
use Rattle.macho_answer.specs.declared.fault.LinkError.{LinkError}
use Rattle.macho_answer.specs.declared.fault.LinkError.TheVariants.{DuplicateSymbol, UndefinedSymbol, EntryNotDefined, ExportListMissing, BadInitializer, BadUnwind, UnsupportedRelocation, OverlappingFields, BindAddend, FixupPlace, TooMany, ImageTooLarge, RebaseTarget, RelocationRange, BadName, BadInput, OutOfMemory}
use Rattle.macho_answer.specs.declared.image.LinkedImage.{LinkedImage}
use Rattle.macho_answer.specs.Standing.{IsStanding, Stands}
use Rattle.macho_answer.specs.Linked.{IsImageOf, IsRefused, RefusalStands}
use Rattle.macho_alike_laws.proofs.Inputs.{Agree}
use Rattle.macho_alike_laws.proofs.Views as views
use Rattle.macho_alike_laws.proofs.Tables as tables
use Rattle.macho_alike_laws.proofs.Exports as exports
use Rattle.macho_alike_laws.proofs.Faults as faults
use Rattle.macho_alike_laws.proofs.Written as written

module _ (l m : Link) (same : Agree l m) (back : Agree m l) where
  told : (libraries : List (List ℕ)) (imports : List ToldImport) (fixups : ℕ) → IsTold l libraries imports fixups
      → IsTold m libraries imports fixups
  told libraries imports fixups h = record {
    libraries_are = h.libraries_are ∙ views.libraries l m same;
    imports_are = h.imports_are ∙ tables.told l m same;
    fixups_are = h.fixups_are ∙ tables.fixups_counted l m same;
  }

  -- THE answer
  pub answer : (counts : Counts) (uuid b : List ℕ) (p : Placed) (libraries : List (List ℕ)) (imports : List ToldImport) (fixups : ℕ)
      (exported : List ToldExport) → IsAnswer l counts uuid b p libraries imports fixups exported
      → IsAnswer m counts uuid b p libraries imports fixups exported
  answer counts uuid b p libraries imports fixups exported h = record {
    linked = written.linked l m same back counts uuid b p h.linked;
    told = told libraries imports fixups h.told;
    exports_told = exports.exports_told l m same back exported h.exports_told;
    unrefused = faults.none_stands l m same back counts p h.unrefused;
  }

  -- THE image
  pub image_of : (uuid : List ℕ) (image : LinkedImage) → IsImageOf l uuid image → IsImageOf m uuid image
  image_of uuid image h = record { counts = h.counts; answer = answer h.counts uuid _ _ _ _ _ _ h.answer }

  -- ---- refusals

  kept : (placement : Option Placed) → IfSome placement (IsKept l) → IfSome placement (IsKept m)
  kept None h = h
  kept (Some p) h = exports.kept_placement l m same back p h

  standing_fault : (counts : Counts) (f : LinkFault) → IsStanding l counts f → IsStanding m counts f
  standing_fault counts f h = record { stands = faults.stands l m same counts f h.stands; kept = kept (kept_placement f) h.kept }

  -- a refusal stands for the sizes of the link
  pub stands : (counts : Counts) (e : LinkError) → Stands l counts e → Stands m counts e
  stands counts (DuplicateSymbol name first second) h = standing_fault counts _ h
  stands counts (UndefinedSymbol name file) h = standing_fault counts _ h
  stands counts (EntryNotDefined name) h = standing_fault counts _ h
  stands counts (ExportListMissing name) h = standing_fault counts _ h
  stands counts (BadInitializer file section offset) h = standing_fault counts _ h
  stands counts (BadUnwind file section entry rule) h = standing_fault counts _ h
  stands counts (UnsupportedRelocation file section relocation) h = standing_fault counts _ h
  stands counts (OverlappingFields file section first second) h = standing_fault counts _ h
  stands counts (BindAddend file section relocation addend) h = standing_fault counts _ h
  stands counts (FixupPlace file section relocation placement) h = standing_fault counts _ h
  stands counts (TooMany what number placement) h = standing_fault counts _ h
  stands counts (ImageTooLarge placement) h = standing_fault counts _ h
  stands counts (RebaseTarget at placement) h = standing_fault counts _ h
  stands counts (RelocationRange at placement) h = standing_fault counts _ h
  stands counts BadName h = standing_fault counts _ h
  stands counts (BadInput fault) h = h
  stands counts OutOfMemory h = h

-- a refusal of the one is one of the other: the sizes of the other are its sizes
module _ (l m : Link) (same : Agree l m) (back : Agree m l) where
  refused : (e : LinkError) → IsRefused l e → IsRefused m e
  refused e h = record {
    stands = λ counts are. stands l m same back counts e (h.stands counts (exports.counted m l back same counts are));
    spared = λ counts are valid. h.spared counts (exports.counted m l back same counts are) (faults.valid m l back same counts valid);
  }

  -- THE refusal
  pub refusal_stands : (e : LinkError) → RefusalStands l e → RefusalStands m e
  refusal_stands (DuplicateSymbol name first second) h = refused _ h
  refusal_stands (UndefinedSymbol name file) h = refused _ h
  refusal_stands (EntryNotDefined name) h = refused _ h
  refusal_stands (ExportListMissing name) h = refused _ h
  refusal_stands (BadInitializer file section offset) h = refused _ h
  refusal_stands (BadUnwind file section entry rule) h = refused _ h
  refusal_stands (UnsupportedRelocation file section relocation) h = refused _ h
  refusal_stands (OverlappingFields file section first second) h = refused _ h
  refusal_stands (BindAddend file section relocation addend) h = refused _ h
  refusal_stands (FixupPlace file section relocation placement) h = refused _ h
  refusal_stands (TooMany what number placement) h = refused _ h
  refusal_stands (ImageTooLarge placement) h = refused _ h
  refusal_stands (RebaseTarget at placement) h = refused _ h
  refusal_stands (RelocationRange at placement) h = refused _ h
  refusal_stands BadName h = h
  refusal_stands (BadInput fault) h = h
  refusal_stands OutOfMemory h = refused _ h
