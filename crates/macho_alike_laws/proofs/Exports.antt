-- The exported names of two links that agree, the sizes of their tables, and what is told of them are the same.
--
-- A name is exported from an object or re-exported from a library, by its definition and the lists, and both are the same. So a list of
-- all exported names of one is that of the other, and its trie has the size that is counted.
use Rattle.std.proofs.Common.{◌≡◌, ℕ, Bool, List, [], map, if◌then◌else◌, refl, sym, ap, subst, ◌∙◌}
use Rattle.std.proofs.lemmas.List.Elements.{All-weaker}
use Rattle.macho_model.specs.declared.targets.Target.{Target}
use Rattle.macho_model.specs.declared.targets.Target.TheVariants as target
use Rattle.macho_model.specs.declared.placed.Counts.{Counts}
use Rattle.macho_model.specs.Links.{Link}
use Rattle.macho_model.specs.Resolution.{SymbolId, entry_at}
use Rattle.macho_model.specs.Needs.{import_library}
use Rattle.macho_records.specs.Symbols.{is_weak_of}
use Rattle.macho_model.specs.Targets.{target_of_name}
use Rattle.macho_model.specs.Exports.{FLAG_WEAK, IsExported, section_flag, library_number}
use Rattle.macho_model.specs.Placement.{Placed}
use Rattle.macho_model.specs.Told.{ToldExport, IsReexported, IsToldExport, from_object, from_library, ExportsAreTold}
use Rattle.macho_promise.specs.Sizes.{kept_for, IsTrieSize, AreCounts}
use Rattle.macho_promise.specs.TrieSays as trie
use Rattle.macho_promise.specs.TrieSays.{IsTrieText, ValueOf, ExportedAs, TrieSays}
use Rattle.macho_promise.specs.Promise.{AreKeptCounts, IsKept}
use Rattle.macho_trie.specs.Exports.{Exported, as_reexport, REEXPORT}
use Rattle.macho_alike_laws.proofs.Inputs.{Agree}
use Rattle.macho_alike_laws.proofs.Views as views
use Rattle.macho_alike_laws.proofs.Parts as parts
use Rattle.macho_alike_laws.proofs.Tables as tables
use Rattle.macho_alike_laws.proofs.Places as places
use Rattle.macho_alike_laws.proofs.Views.{each_same}

module _ (l m : Link) (same : Agree l m) where
  exported : (name : List ℕ) (s : SymbolId) → IsExported l name s → IsExported m name s
  exported name s h = simp (same.object, same.lists, views.definition l m same) at h

  reexported : (name : List ℕ) → IsReexported l name → IsReexported m name
  reexported name h = simp (same.lists, views.imports l m same) at h

  weak : (s : SymbolId) → is_weak_of (entry_at l s) ≡ is_weak_of (entry_at m s)
  weak s = simp same.object

  -- an exported name that is told
  pub told : (name : List ℕ) (w : Bool) → IsToldExport l name w → IsToldExport m name w
  told name _ (from_object s e) = subst (λ (w : Bool). IsToldExport m name w) (sym (weak s)) (from_object s (exported name s e))
  told name _ (from_library e) = from_library (reexported name e)

  -- ---- the trie

  flag : (file section : ℕ) → section_flag l file section ≡ section_flag m file section
  flag file section = simp same.object

  value_of : (p : Placed) (w : ℕ) (t : Target) (x : Exported) → ValueOf l p w t x → ValueOf m p w t x
  value_of p w (target.Section file section offset) x h = simp same.object at h
  value_of p w (target.Common id) x h = h
  value_of p w (target.Import id) x h = h
  value_of p w target.Base x h = h
  value_of p w (target.Absolute value) x h = h
  value_of p w target.None x h = h

  place_of : (name : List ℕ) → library_number l (import_library l name) ≡ library_number m (import_library m name)
  place_of name = λ i. tables.numbered l m same i (tables.library_of l m same i name)

  -- what a name is exported as
  pub exported_as : (p : Placed) (name : List ℕ) (x : Exported) → ExportedAs l p name x → ExportedAs m p name x
  exported_as p name _ (trie.from_object s x e v) =
      trie.from_object s x (exported name s e)
      (subst (λ (w : Bool). ValueOf m p (if w then FLAG_WEAK else 0) (target_of_name m name) x) (weak s)
      (subst (λ (t : Target). ValueOf m p (if is_weak_of (entry_at l s) then FLAG_WEAK else 0) t x) (views.named l m same name)
      (value_of p _ (target_of_name l name) x v)))
  exported_as p name _ (trie.from_library e) =
      subst (λ (k : ℕ). ExportedAs m p name (as_reexport REEXPORT k [])) (sym (place_of name)) (trie.from_library (reexported name e))

  -- ---- sizes

  kept : (name : List ℕ) (t : Target) → kept_for l name t ≡ kept_for m name t
  kept name (target.Section file section offset) = refl
  kept name (target.Common id) = refl
  kept name (target.Import id) = λ i. as_reexport REEXPORT (place_of name i) []
  kept name target.Base = refl
  kept name (target.Absolute value) = refl
  kept name target.None = refl

-- an exported name that is told is one
abbrev IsOne : Link → ToldExport → Type 0
IsOne n e = IsToldExport n e.name e.weak × (e.target ≡ target_of_name n e.name)

-- The exported names of both links are told by one list, and the names of the other's by this one.
module _ (l m : Link) (same : Agree l m) (back : Agree m l) where
  -- THE exported names: all of them and no other
  pub exports_told : (exports : List ToldExport) → ExportsAreTold l exports → ExportsAreTold m exports
  exports_told exports h = record {
    rising = h.rising;
    each = All-weaker (IsOne l) (IsOne m) (λ e is. (told l m same e.name e.weak is.0, is.1 ∙ views.named l m same e.name)) exports h.each;
    all = λ name w is. h.all name w (told m l back name w is);
  }

  trie_size : (size : ℕ) → IsTrieSize l size → IsTrieSize m size
  trie_size size h = record {
    exports = h.exports;
    told = exports_told h.exports h.told;
    bytes = h.bytes;
    trie = subst (λ (f : ToldExport → List ℕ × Exported). IsTrieText (map f h.exports) h.bytes) keeps h.trie;
    long = h.long;
  }
    where
      place : Link → ToldExport → List ℕ × Exported
      place n e = (e.name, kept_for n e.name e.target)

      keeps : place l ≡ place m
      keeps = each_same (λ e. ap (λ (k : Exported). (e.name, k)) (kept l m same e.name e.target))

  -- THE sizes
  pub counted : (counts : Counts) → AreCounts l counts → AreCounts m counts
  counted counts h = record { trie = trie_size counts.trie h.trie; are = h.are ∙ parts.counts l m same counts.trie }

  -- what the trie says
  pub trie_says : (b : List ℕ) (p : Placed) → TrieSays l b p → TrieSays m b p
  trie_says b p h = record {
    table = h.table;
    one = h.one;
    finds = λ name x. (
      λ is. exported_as l m same p name x ((h.finds name x).0 is),
      λ is. (h.finds name x).1 (exported_as m l back p name x is),
    );
    symbols = h.symbols;
    sound = All-weaker (λ e. ExportedAs l p e.0 e.1) (λ e. ExportedAs m p e.0 e.1) (λ e is. exported_as l m same p e.0 e.1 is) h.symbols
        h.sound;
    exact = h.exact;
  }

  kept_counts : (counts : Counts) → AreKeptCounts l counts → AreKeptCounts m counts
  kept_counts counts h = record { whole = h.whole; are = counted h.whole h.are; capped = h.capped }

  -- a placement that a refusal keeps
  pub kept_placement : (p : Placed) → IsKept l p → IsKept m p
  kept_placement p h = record {
    counts = h.counts;
    counted = kept_counts h.counts h.counted;
    placed = places.placed l m same h.counts p h.placed;
    laid_out = places.laid_out l m same h.counts p h.laid_out;
  }
