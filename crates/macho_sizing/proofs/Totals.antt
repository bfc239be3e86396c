-- The numbers that are counted are those of the link.
--
-- Symbols are those of the listed objects, entries without a star those of the lists. Entries of the import table are imports and own
-- entries, and the bytes of names are summed up over imports.
use Rattle.std.proofs.Common.{◌≡◌, ℕ, ◌==◌, not, false, List, [], ◌∷◌, map, length, refl, sym, ap, ◌∙◌, arith, Some, None}
use Rattle.std.specs.Prelude.{Option, sum_by}
use Rattle.std.proofs.lemmas.Bool.{true≢false, ne_eqb}
use Rattle.std.proofs.lemmas.List.Concat.{length-flat_map}
use Rattle.std.proofs.lemmas.List.FromFn.{length-map-range_with_len}
use Rattle.std.proofs.lemmas.List.Sums.{sum_by-cons}
use Rattle.macho_model.specs.ExportLists.{plain_entries, all_entries}
use Rattle.macho_model.specs.Links.{Link}
use Rattle.macho_model.specs.Objects.{num_symbols}
use Rattle.macho_model.specs.Resolution.{symbols_of}
use Rattle.macho_export_lists.specs.Entries.{ListEntries}
use Rattle.macho_symbols.specs.Kept.{symbol_id}
use Rattle.macho_symbols.specs.Exported.{AreLists}
use Rattle.macho_symbols.specs.declared.solved.Import.{Import}
use Rattle.macho_promise.specs.Sizes.{text_size}
use Rattle.macho_linkedit.specs.declared.listing.LinkedObject.{LinkedObject}
use Rattle.macho_linkedit.specs.Imports.{name_bytes}
use Rattle.macho_linkedit.specs.Listing.{AreObjects}
use Rattle.macho_linkedit.proofs.Listed.{symbols_in_object, symbols_are}
use Rattle.macho_sizing.specs.steps.Passing.{plain_of}
use Rattle.macho_linkedit.proofs.Counted.{sum_names}

pub symbols_counted : (l : Link) (objects : List LinkedObject) → AreObjects l objects
    → sum_by (λ o. num_symbols o.file.bytes) objects ≡ length (symbols_of l)
symbols_counted l objects are = each objects ∙ sym (length-flat_map symbols_in_object objects) ∙ ap length (symbols_are l objects are)
  where
    each : (os : List LinkedObject) → sum_by (λ o. num_symbols o.file.bytes) os ≡ sum_by (λ o. length (symbols_in_object o)) os
    each [] = refl
    each (o ∷ os) = omega (
      arith,
      sum_by-cons (λ (x : LinkedObject). num_symbols x.file.bytes) o os,
      sum_by-cons (λ (x : LinkedObject). length (symbols_in_object x)) o os,
      length-map-range_with_len (λ k. symbol_id o.number k) 0 (num_symbols o.file.bytes),
      each os,
    )

pub plain_counted : (l : Link) (o : Option ListEntries) → AreLists l o → plain_of o ≡ length (plain_entries l.export_lists)
unfolding plain_entries all_entries
plain_counted l None none = by l.export_lists none
  where
    by : (texts : List (List ℕ)) → not (length texts == 0) ≡ false → 0 ≡ length (plain_entries texts)
    by [] e = refl
    by (t ∷ ts) e =
        let some : (length (t ∷ ts) == 0) ≡ false = ne_eqb (length (t ∷ ts)) 0 (λ h. omega (arith, h)) in
        absurd (true≢false (sym (ap not some) ∙ e))
plain_counted l (Some e) are = ap length are.1.plain

pub names_counted : (xs : List Import) (names : List (List ℕ)) → map (λ i. i.name.items) xs ≡ names → name_bytes xs ≡ sum_by text_size names
names_counted xs names are = sum_names xs ∙ ap (sum_by text_size) are
