-- What is handed on to be sized is what was read of the link.
use Rattle.std.proofs.Common.{◌≡◌, ℕ, ◌<◌, ◌^◌, false, List, map, length, sym, subst, ◌∙◌, All}
use Rattle.std.specs.Prelude.{Option, Result, Ok, Err, IfOk}
use Rattle.macho_model.specs.Links.{Link}
use Rattle.macho_object.specs.Views.{FileBytes}
use Rattle.macho_export_lists.specs.Entries.{ListEntries}
use Rattle.macho_promise.specs.Views.{ViewsObject}
use Rattle.macho_linkedit.specs.declared.exports.NamedExport.{NamedExport}
use Rattle.macho_linkedit.specs.declared.listing.LinkedObject.{LinkedObject}
use Rattle.macho_linkedit.specs.Counting.{AreArguments}
use Rattle.macho_linkedit.specs.Listing.{AreObjects}
use Rattle.macho_linkedit.specs.Tries.{AreKept}
use Rattle.macho_symbol_tables.specs.Exports.{exports_told, CanBeTrie}
use Rattle.macho_refusal_laws.specs.ReadLink.{ReadLink}
use Rattle.macho_sizing.specs.declared.asked.SizesOf.{SizesOf}
use Rattle.macho_sizing.specs.declared.asked.SizedLink.{SizedLink}
use Rattle.macho_sizing.specs.declared.asked.PlannedLink.{PlannedLink}
use Rattle.macho_sizing.specs.Sized.{IsPlannedOf, IsSizedOf}
use Rattle.macho_promise_laws.specs.Symbols.{HasPersonality}
use Rattle.macho_sizing.specs.Asked.{AreOf, CanBeSized}
use Rattle.macho_linking.specs.Planning.{IsToSize, HasPlan}
use Rattle.macho_linking.specs.steps.Imaged.{HasSizes}

-- The parts that are handed on are those that were read.
pub record Handed (l : Link) (a : SizesOf) (views : List (Option FileBytes)) (objects : List LinkedObject) (read : ReadLink)
    (libraries : List (List ℕ)) : Type 0 where
  pub arguments : AreArguments l a.arguments
  pub given : (a.views.now ≡ views) × (a.objects.now ≡ objects) × (map (λ n. n.items) a.libraries.now ≡ libraries)
  pub needs : a.needs.now ≡ read.needs
  pub rows : (a.initializers.now ≡ read.initializers.items) × (a.entries.now ≡ read.entries.items)
  pub exports : AreKept l (exports_told read.exports.items) a.exports.now
  pub trie : CanBeTrie a.exports.now

pub are_of : (l : Link) (a : SizesOf) (views : List (Option FileBytes)) (objects : List LinkedObject) (lists : Option ListEntries)
    (read : ReadLink)
    (libraries : List (List ℕ)) → IsToSize l views objects lists read libraries → Handed l a views objects read libraries → AreOf l a
are_of l a views objects lists read libraries h handed = record {
  arguments = handed.arguments;
  inputs = record {
    views = handed.given.0 ∙ h.views_are.0;
    objects = subst (AreObjects l) (sym handed.given.1) h.objects_are.0;
    libraries = handed.given.2 ∙ h.libraries_are;
  };
  read = record {
    needs = rw handed.needs h.read_is.0.needs;
    resolved = rw handed.needs h.read_is.0.resolved;
    initializers = handed.rows.0 ∙ h.read_is.0.initializers;
    entries = (handed.rows.1 ∙ h.read_is.0.entries, h.read_is.0.fit.entries);
    told = exports_told read.exports.items;
    exports = handed.exports;
  };
}

pub can_be_sized : (l : Link) (a : SizesOf) (views : List (Option FileBytes)) (objects : List LinkedObject) (lists : Option ListEntries)
    (read : ReadLink) (libraries : List (List ℕ)) → IsToSize l views objects lists read libraries → Handed l a views objects read libraries
    → CanBeSized a
can_be_sized l a views objects lists read libraries h handed = record {
  few = subst (λ (vs : List (Option FileBytes)). length vs < 2 ^ 32) (sym handed.given.0) h.views_are.2;
  rules = subst (All ViewsObject) (sym handed.given.0) h.views_are.1;
  kinds = subst (All (λ (o : LinkedObject). o.file.is_dynamic ≡ false)) (sym handed.given.1) h.objects_are.1;
  known = rw handed.needs (subst (All (HasPersonality read.needs.resolved)) (sym handed.rows.1) h.read_is.1.entries);
  names = (handed.trie.distinct, handed.trie.plain);
  link = l;
  of_link = are_of l a views objects lists read libraries h handed;
}

pub has_plan : {E : Type 0} (l : Link) (read : ReadLink) (kept : List NamedExport) (r : Result PlannedLink E)
    → AreKept l (exports_told read.exports.items) kept
    → IfOk r (IsPlannedOf l kept) → IfOk r (HasPlan l read)
has_plan l read kept (Ok planned) exports plan = record { kept = kept; exports = exports; plan = plan }
has_plan l read kept (Err e) exports plan = tt

pub has_sizes : {E : Type 0} (l : Link) (read : ReadLink) (kept : List NamedExport) (r : Result SizedLink E)
    → AreKept l (exports_told read.exports.items) kept
    → IfOk r (IsSizedOf l kept) → IfOk r (λ sized. HasSizes l read sized)
has_sizes l read kept (Ok sized) exports sizes = record { kept = kept; exports = exports; sizes = sizes }
has_sizes l read kept (Err e) exports sizes = tt
