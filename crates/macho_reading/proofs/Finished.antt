-- A link that is read: all its uses are noted, so its needs are whole and its names are found; and what its rows name is kept.
use Rattle.std.proofs.Common.{◌≡◌, ℕ, List, Option, Some, None, IfSome, sym, ap, ◌∙◌, subst}
use Rattle.std.proofs.lemmas.List.Elements.{All-weaker}
use Rattle.macho_object.specs.Views.{FileBytes}
use Rattle.macho_model.specs.ExportLists.{plain_entries}
use Rattle.macho_model.specs.Links.{Link}
use Rattle.macho_model.specs.Needs.{imports_of}
use Rattle.macho_model.specs.Uses.{uses_of}
use Rattle.macho_export_lists.specs.Entries.{ListEntries}
use Rattle.macho_symbols.specs.Exported.{AreExports}
use Rattle.macho_symbol_names.specs.Kept.{FileRows}
use Rattle.macho_symbols.specs.Kept.{ResolvedRows, IsResolved, HasSymbol}
use Rattle.macho_symbols.specs.Told.{AreDefined}
use Rattle.macho_promise.specs.Noted.{imports_in, uses_of_carried}
use Rattle.macho_promise.specs.Sound.{IsSound}
use Rattle.macho_needs.specs.declared.needs.Needs.{Needs}
use Rattle.macho_needs.specs.Noted.{IsNoted}
use Rattle.macho_needs.proofs.Whole.{needs_are, names_are_found}
use Rattle.macho_relocation_scan.specs.Surveys.{AreOfInputs}
use Rattle.macho_consumed.specs.declared.rows.Initializer.{Initializer}
use Rattle.macho_consumed.specs.declared.rows.PersonalityUse.{PersonalityUse}
use Rattle.macho_consumed.specs.Symbols.{HasPointer, HasPersonality}
use Rattle.macho_reading.specs.declared.link.ReadLink.{ReadLink}
use Rattle.macho_reading.specs.declared.rows.Rows.{Rows}
use Rattle.macho_reading.specs.Read.{IsLinkOf, IsReadOf, AreKnown}
use Rattle.macho_reading.specs.steps.Rows.{IsUsable, IsUsableIf, IsUsableEntry, AreUsable, AreRows, KeepRules, AreOfSome}
use Rattle.macho_reading.specs.steps.Steps.{IsSurveyed, IsHalfRead, IsNotedWith}
use Rattle.macho_model.proofs.Uses.{imports_are}

-- the imports that are noted are all
pub all_imports : (l : Link) (n : Needs) → IsNoted l (uses_of l) n → IsResolved l (imports_of l) n.resolved
unfolding imports_in
all_imports l n noted = subst (λ (ns : List (List ℕ)). IsResolved l ns n.resolved) (sym (imports_are l)) noted.imports

-- THE link that is read
pub is_read : (l : Link) (r : ReadLink) (rows : Rows) → rows ≡ record { initializers = r.initializers; entries = r.entries }
    → IsNotedWith l r.needs rows
    → IsSound l → AreDefined l (plain_entries l.export_lists) → AreExports l (imports_of l) r.exports.items → IsReadOf l r
is_read l r rows same with_rows sound listed exports = record {
  needs = needs_are l r.needs with_rows.noted;
  resolved = all_imports l r.needs with_rows.noted;
  initializers = ap (λ (x : Rows). x.initializers.items) (sym same) ∙ with_rows.are.initializers;
  entries = ap (λ (x : Rows). x.entries.items) (sym same) ∙ with_rows.are.entries;
  exports = exports;
  fit = record {
    names = names_are_found l r.needs with_rows.noted;
    entry = with_rows.entry;
    listed = listed;
    initializers = with_rows.keep.initializers;
    entries = with_rows.keep.entries;
    sound = sound;
  };
}

-- what is usable is known
has_personality : (symbols : ResolvedRows) (file : ℕ) (o : Option PersonalityUse) → IsUsableIf symbols file o
    → IfSome o (λ p. HasSymbol symbols file p.relocation.r_symbolnum)
has_personality symbols file None usable = tt
has_personality symbols file (Some p) usable = usable.symbol

pub are_known : (views : List (Option FileBytes)) (r : ReadLink) (rows : Rows)
    → rows ≡ record { initializers = r.initializers; entries = r.entries }
    → AreOfInputs views r.needs.resolved.files → AreUsable r.needs.resolved rows → AreKnown views r
are_known views r rows same of usable =
    let symbols = r.needs.resolved in
    let here = subst (AreUsable symbols) same usable in
    record {
      same = of;
      initializers = All-weaker (IsUsable symbols) (HasPointer symbols) (λ row it. it.symbol) r.initializers.items here.initializers;
      entries = All-weaker (IsUsableEntry symbols) (HasPersonality symbols)
          (λ e it. has_personality symbols e.file e.personality it) r.entries.items here.entries;
    }

-- a link on the way
pub surveyed : (l : Link) (views : List (Option FileBytes)) (symbols : ResolvedRows) (entry : Option (List ℕ)) (list : Option ListEntries)
    (n : Needs)
    → IsLinkOf l views symbols entry list → IsNoted l (uses_of_carried l) n → IsSurveyed l views n entry list
surveyed l views symbols entry list n of noted =
    record { views_are = of.views_are; noted = noted; entry_is = of.entry_is; lists = of.lists }

pub half_read : (l : Link) (views : List (Option FileBytes)) (entry : Option (List ℕ)) (list : Option ListEntries) (n : Needs) (rows : Rows)
    → IsSurveyed l views n entry list → AreRows l rows → KeepRules l → IsHalfRead l n rows entry list
half_read l views entry list n rows at are keep =
    record { noted = at.noted; are = are; keep = keep.entries; entry_is = at.entry_is; lists = at.lists }
