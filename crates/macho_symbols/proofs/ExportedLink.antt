-- Exports by the rows and by the link. What defines a name by the link is what its best row says. So a name that is exported
-- by the rows is the name of an object's symbol that is shown, or a noted import where there are lists; and the other way
-- round, since each noted import is a library's.
use Rattle.std.proofs.Common.{◌≡◌, ℕ, ◌⊎◌, inl, inr, Bool, true, false, ◌&&◌, not, ◌==◌, ◌<◌, if◌then◌else◌, suc, Option, Some, None, is_some, List, [], ◌∷◌, length, map, get_or, All, Contains, refl, ap, subst, sym, ◌∙◌, arith}
use Rattle.std.proofs.lemmas.Bool.{and_parts, and_from, not-true, false≢true}
use Rattle.std.proofs.lemmas.List.{get_or-map, length-map}
use Rattle.std.proofs.lemmas.Map.Views.{Contains-from_any, list_any-from_Contains}
use Rattle.std.proofs.lemmas.Cmp.{nat_list_eq_equiv}
use Rattle.std.proofs.lemmas.Slice.Eq.{bytes_eq-Decides}
use Rattle.std.proofs.lemmas.Bool.Decides.{nat_tests}
use Rattle.std.specs.List.{list_any, position_or_len}
use Rattle.std.specs.Str.{bytes_eq}
use Rattle.macho_records.specs.Symbols.{is_weak_of, is_hidden_of}
use Rattle.macho_model.specs.declared.targets.Target.TheVariants as target
use Rattle.macho_model.specs.ExportLists.{plain_entries, all_entries}
use Rattle.macho_model.specs.Exports.{has_lists, is_listed}
use Rattle.macho_model.specs.Links.{Link}
use Rattle.macho_model.specs.Resolution.{SymbolId, Symbol, Library, ImageBase, definition_of, entry_at}
use Rattle.macho_model.specs.steps.Resolved.{DSO_HANDLE}
use Rattle.macho_export_lists.specs.Entries.{ListEntries}
use Rattle.macho_export_lists.proofs.Listed.{listed_is}
use Rattle.macho_symbols.specs.declared.exports.ExportName.{ExportName}
use Rattle.macho_symbol_names.specs.declared.notes.Sort.{Sort}
use Rattle.macho_symbol_names.specs.declared.notes.Sort.TheVariants.{Section, Absolute, Common, Offered, Nowhere}
use Rattle.macho_symbols.specs.declared.solved.Import.{Import}
use Rattle.macho_symbols.specs.Exported.{AreLists, IsFromObject, IsReexport, AreExports, export_names}
use Rattle.macho_symbol_names.specs.Kept.{FileRows, kept_of, row_of_symbol}
use Rattle.macho_symbols.specs.Kept.{ResolvedRows, IsResolved, noted_of}
use Rattle.macho_symbol_names.specs.Events.{Event, events, best_of}
use Rattle.macho_symbols.specs.steps.Exporting.{open_by, open_of, is_open_in, is_exported_in, is_listed_in, weak_of, weak_in, IsToldIn, AreInOrder, required_in}
use Rattle.macho_symbols.specs.steps.Solved.{IsImportIn}
use Rattle.macho_symbols.specs.steps.Targets.{event_of, is_of_object}
use Rattle.macho_symbols.specs.Targets.{id_of, image_base, defined_as, definition_by, named_in, led_in, lead_in}
use Rattle.macho_symbol_names.proofs.Best.{best_is}
use Rattle.macho_symbols.proofs.Defined.{definition_is}
use Rattle.macho_symbols.proofs.Targeted.{best_symbol, named_is}

-- lists, by the link and as they are given
lists_are : (l : Link) (list : Option ListEntries) → AreLists l list → is_some list ≡ has_lists l
lists_are l None none = sym none
lists_are l (Some e) some = sym some.0

listed_so : (l : Link) (list : Option ListEntries) (name : List ℕ) → AreLists l list → is_listed_in list name ≡ is_listed l name
listed_so l None name none = rw none refl
listed_so l (Some e) name some = rw some.0 (listed_is l.export_lists e name some.1)

some_length : (n : ℕ) → not (suc n == 0) ≡ false → ⊥
some_length n e = grind (arith, nat_tests)

no_lists : (texts : List (List ℕ)) → not (length texts == 0) ≡ false → [] ≡ plain_entries texts
unfolding plain_entries all_entries
no_lists [] is = refl
no_lists (t ∷ texts) is = absurd (some_length (length texts) is)

pub plain_so : (l : Link) (list : Option ListEntries) → AreLists l list → required_in list ≡ plain_entries l.export_lists
plain_so l None none = no_lists l.export_lists none
plain_so l (Some e) some = some.1.plain

-- what an event of a symbol shows
hidden_here : (l : Link) (s : SymbolId) → (event_of l s).row.hidden ≡ is_hidden_of (entry_at l s)
unfolding row_of_symbol
hidden_here l s = refl

weak_here : (l : Link) (s : SymbolId) → (event_of l s).row.weak ≡ is_weak_of (entry_at l s)
unfolding row_of_symbol
weak_here l s = refl

-- an object's name that the rows export
record IsShown (l : Link) (name : List ℕ) (b : Event) : Type 0 where
  defined : definition_of l name ≡ Some (Symbol (id_of b))
  hidden : is_hidden_of (entry_at l (id_of b)) ≡ false
  weak : b.row.weak ≡ is_weak_of (entry_at l (id_of b))

shown : (l : Link) (name : List ℕ) (b : Event) (sort : Sort) → best_of name (events (map kept_of l.inputs)) ≡ Some b → b.row.sort ≡ sort
    → is_of_object sort ≡ true
    → defined_as name sort b ≡ Some (Symbol (id_of b)) → not b.row.hidden ≡ true → IsShown l name b
shown l name b sort best same object defined visible =
    let symbol = best_symbol l name b (best_is name (events (map kept_of l.inputs)) b best) (ap is_of_object same ∙ object) in
    record {
      defined = definition_is l name ∙ ap (definition_by name) best ∙ ap (λ x. defined_as name x b) same ∙ defined;
      hidden = sym (hidden_here l (id_of b)) ∙ ap (λ e. e.row.hidden) (sym symbol) ∙ not-true b.row.hidden visible;
      weak = ap (λ e. e.row.weak) symbol ∙ weak_here l (id_of b);
    }

-- an export by its best row
record OfObject (l : Link) (name : List ℕ) (weak : Bool) : Type 0 where
  symbol : SymbolId
  defined : definition_of l name ≡ Some (Symbol symbol)
  hidden : is_hidden_of (entry_at l symbol) ≡ false
  weak_is : weak ≡ is_weak_of (entry_at l symbol)

record OfLibrary (l : Link) (noted : List (List ℕ)) (lists : Bool) (name : List ℕ) (weak : Bool) : Type 0 where
  noted_is : Contains noted name
  some : lists ≡ true
  plain : weak ≡ false
  leads : named_in (map kept_of l.inputs) noted name ≡ target.Import (position_or_len (bytes_eq name) noted)

of_shown : (l : Link) (name : List ℕ) (b : Event) → IsShown l name b → OfObject l name b.row.weak
of_shown l name b is = record { symbol = id_of b; defined = is.defined; hidden = is.hidden; weak_is = is.weak }

opened : (l : Link) (noted : List (List ℕ)) (lists : Bool) (name : List ℕ) → is_open_in (map kept_of l.inputs) noted lists name ≡ true
    → OfObject l name (weak_in (map kept_of l.inputs) name) ⊎ OfLibrary l noted lists name (weak_in (map kept_of l.inputs) name)
unfolding is_open_in weak_in named_in
opened l noted lists name is_open = of (best_of name (events (map kept_of l.inputs))) refl is_open
  where
    files : List FileRows
    files = map kept_of l.inputs

    sorts : (b : Event) (sort : Sort) → best_of name (events files) ≡ Some b → b.row.sort ≡ sort → open_by noted lists name b sort ≡ true
        → OfObject l name (is_of_object sort && b.row.weak) ⊎ OfLibrary l noted lists name (is_of_object sort && b.row.weak)
    sorts b Section best same visible = inl (of_shown l name b (shown l name b Section best same refl refl visible))
    sorts b Absolute best same visible = inl (of_shown l name b (shown l name b Absolute best same refl refl visible))
    sorts b Common best same visible = inl (of_shown l name b (shown l name b Common best same refl refl visible))
    sorts b Offered best same visible =
        let both = and_parts lists (list_any (bytes_eq name) noted) visible in
        inr (record {
          noted_is = Contains-from_any (λ x y is. (bytes_eq-Decides x y).0 is) name noted both.1;
          some = both.0;
          plain = refl;
          leads = ap (led_in files noted name) best ∙ ap (lead_in files noted name b) same;
        })
    sorts b Nowhere best same visible = absurd (false≢true visible)

    of : (o : Option Event) → best_of name (events files) ≡ o → open_of noted lists name o ≡ true
        → OfObject l name (weak_of (best_of name (events files))) ⊎ OfLibrary l noted lists name (weak_of (best_of name (events files)))
    of None none visible = absurd (false≢true visible)
    of (Some b) best visible =
        subst (λ o. OfObject l name (weak_of o) ⊎ OfLibrary l noted lists name (weak_of o)) (sym best)
        (sorts b b.row.sort best refl visible)

-- the other way round
no_symbol : (name : List ℕ) (s : SymbolId) → image_base name ≡ Some (Symbol s) → ⊥
no_symbol name s e = of (bytes_eq name DSO_HANDLE) e
  where
    of : (t : Bool) → (if t then Some ImageBase else None) ≡ Some (Symbol s) → ⊥
    of true e = cc
    of false e = cc

no_library : (name : List ℕ) (file : ℕ) → image_base name ≡ Some (Library file) → ⊥
no_library name file e = of (bytes_eq name DSO_HANDLE) e
  where
    of : (t : Bool) → (if t then Some ImageBase else None) ≡ Some (Library file) → ⊥
    of true e = cc
    of false e = cc

same_id : (b : Event) (s : SymbolId) → Some (Symbol (id_of b)) ≡ Some (Symbol s) → id_of b ≡ s
same_id b s e = cc

symbol_open : (l : Link) (noted : List (List ℕ)) (lists : Bool) (name : List ℕ) (s : SymbolId) → definition_of l name ≡ Some (Symbol s)
    → is_hidden_of (entry_at l s) ≡ false → is_open_in (map kept_of l.inputs) noted lists name ≡ true
unfolding is_open_in
symbol_open l noted lists name s defined hidden = of (best_of name (events (map kept_of l.inputs))) refl
  where
    files : List FileRows
    files = map kept_of l.inputs

    visible : (b : Event) (sort : Sort) → best_of name (events files) ≡ Some b → b.row.sort ≡ sort → is_of_object sort ≡ true
        → id_of b ≡ s → not b.row.hidden ≡ true
    visible b sort best same object id =
        let symbol = best_symbol l name b (best_is name (events files) b best) (ap is_of_object same ∙ object) in
        ap not (ap (λ e. e.row.hidden) (symbol ∙ ap (event_of l) id) ∙ hidden_here l s ∙ hidden)

    sorts : (b : Event) (sort : Sort) → best_of name (events files) ≡ Some b → b.row.sort ≡ sort
        → defined_as name sort b ≡ Some (Symbol s) → open_by noted lists name b sort ≡ true
    sorts b Section best same is = visible b Section best same refl (same_id b s is)
    sorts b Absolute best same is = visible b Absolute best same refl (same_id b s is)
    sorts b Common best same is = visible b Common best same refl (same_id b s is)
    sorts b Offered best same is = absurd cc
    sorts b Nowhere best same is = absurd (no_symbol name s is)

    of : (o : Option Event) → best_of name (events files) ≡ o → open_of noted lists name (best_of name (events files)) ≡ true
    of None none = absurd (no_symbol name s (ap (definition_by name) (sym none) ∙ sym (definition_is l name) ∙ defined))
    of (Some b) best =
        ap (open_of noted lists name) best
        ∙ sorts b b.row.sort best refl (ap (definition_by name) (sym best) ∙ sym (definition_is l name) ∙ defined)

import_open : (files : List FileRows) (noted : List (List ℕ)) (name : List ℕ) (file : ℕ)
    → definition_by name (best_of name (events files)) ≡ Some (Library file)
    → Contains noted name → is_open_in files noted true name ≡ true
unfolding is_open_in
import_open files noted name file defined there = of (best_of name (events files)) refl
  where
    sorts : (b : Event) (sort : Sort) → defined_as name sort b ≡ Some (Library file) → open_by noted true name b sort ≡ true
    sorts b Section is = absurd cc
    sorts b Absolute is = absurd cc
    sorts b Common is = absurd cc
    sorts b Offered is = list_any-from_Contains nat_list_eq_equiv name noted there
    sorts b Nowhere is = absurd (no_library name file is)

    of : (o : Option Event) → best_of name (events files) ≡ o → open_of noted true name (best_of name (events files)) ≡ true
    of None none = absurd (no_library name file (ap (definition_by name) (sym none) ∙ defined))
    of (Some b) best = ap (open_of noted true name) best ∙ sorts b b.row.sort (ap (definition_by name) (sym best) ∙ defined)

-- all exports
split_exported : (files : List FileRows) (noted : List (List ℕ)) (list : Option ListEntries) (name : List ℕ)
    → is_exported_in files noted list name ≡ true
    → (is_open_in files noted (is_some list) name ≡ true) × (is_listed_in list name ≡ true)
unfolding is_exported_in
split_exported files noted list name is = and_parts _ _ is

join_exported : (files : List FileRows) (noted : List (List ℕ)) (list : Option ListEntries) (name : List ℕ)
    → is_open_in files noted (is_some list) name ≡ true
    → is_listed_in list name ≡ true → is_exported_in files noted list name ≡ true
unfolding is_exported_in
join_exported files noted list name is_open is_in = and_from _ _ is_open is_in

told_so : (l : Link) (noted : List (List ℕ)) (list : Option ListEntries) (e : ExportName) → AreLists l list
    → IsToldIn (map kept_of l.inputs) noted e
    → is_exported_in (map kept_of l.inputs) noted list e.name.items ≡ true → IsFromObject l noted e ⊎ IsReexport l noted e
told_so l noted list e lists told exported =
    let name = e.name.items in
    let parts = split_exported (map kept_of l.inputs) noted list name exported in
    let is_in : is_listed l name ≡ true = sym (listed_so l list name lists) ∙ parts.1 in
    elim (opened l noted (is_some list) name parts.0) [
      | inl object ↦ inl (
        object.symbol,
        (object.defined, object.hidden, is_in),
        told.1 ∙ object.weak_is,
        told.0 ∙ named_is l noted name,
      )
      | inr library ↦ inr (
        library.noted_is,
        sym (lists_are l list lists) ∙ library.some,
        is_in,
        told.1 ∙ library.plain,
        told.0 ∙ library.leads,
      )
    ]

-- a noted name is a library's
noted_library : (files : List FileRows) (imports : List Import) (name : List ℕ) → All (IsImportIn files) imports
    → Contains (noted_of imports) name
    → (file : ℕ) × (definition_by name (best_of name (events files)) ≡ Some (Library file))
noted_library files imports name all there = of imports all there.0 there.1 there.2
  where
    of : (xs : List Import) → All (IsImportIn files) xs → (k : ℕ) → k < length (noted_of xs) → get_or (noted_of xs) k name ≡ name
        → (file : ℕ) × (definition_by name (best_of name (events files)) ≡ Some (Library file))
    of [] every k within is = absurd (omega (arith, within))
    of (i ∷ xs) every k within is =
        let x = get_or (i ∷ xs) k i in
        let inside : k < length (i ∷ xs) = omega (arith, within, length-map (i ∷ xs) (λ (y : Import). y.name.items)) in
        let same : x.name.items ≡ name = sym (get_or-map (λ (y : Import). y.name.items) (i ∷ xs) k i name inside) ∙ is in
        (x.file, subst (λ n. definition_by n (best_of n (events files)) ≡ Some (Library x.file)) same (every k i inside).0)

pub exports_here : (l : Link) (noted : List (List ℕ)) (r : ResolvedRows) (list : Option ListEntries) (imports : List Import)
    (es : List ExportName)
    → IsResolved l noted r → AreLists l list → noted_of imports ≡ r.noted → All (IsImportIn r.files) imports
    → All (IsToldIn r.files r.noted) es → AreInOrder (is_exported_in r.files r.noted list) (export_names es) → AreExports l noted es
exports_here l noted r list imports es is lists names all told order = record {
  each = λ k d h. told_so l noted list (get_or es k d) lists (told_here k d h) (exported_here (get_or es k d) (order_at k d h));
  objects = λ name s exported. order.whole name
      (here name (join_exported files noted list name (symbol_open l noted (is_some list) name s exported.0 exported.1)
      (listed_so l list name lists ∙ exported.2)));
  libraries = λ name there some is_in.
      let library = noted_library r.files imports name all (subst (λ ns. Contains ns name) (sym (names ∙ is.notes)) there) in
      let defined = ap (λ fs. definition_by name (best_of name (events fs))) (sym is.keeps) ∙ library.1 in
      order.whole name (here name (join_exported files noted list name
      (ap (λ t. is_open_in files noted t name) (lists_are l list lists ∙ some) ∙ import_open files noted name library.0 defined there)
      (listed_so l list name lists ∙ is_in)));
  rising = order.rising;
}
  where
    files : List FileRows
    files = map kept_of l.inputs

    here : (name : List ℕ) → is_exported_in files noted list name ≡ true → is_exported_in r.files r.noted list name ≡ true
    here name e = ap (λ fs. is_exported_in fs r.noted list name) is.keeps ∙ ap (λ ns. is_exported_in files ns list name) is.notes ∙ e

    exported_here : (e : ExportName) → is_exported_in r.files r.noted list e.name.items ≡ true
        → is_exported_in files noted list e.name.items ≡ true
    exported_here e x =
        ap (λ fs. is_exported_in fs noted list e.name.items) (sym is.keeps)
        ∙ ap (λ ns. is_exported_in r.files ns list e.name.items) (sym is.notes) ∙ x

    told_here : (k : ℕ) (d : ExportName) → k < length es → IsToldIn files noted (get_or es k d)
    told_here k d h = subst (λ ns. IsToldIn files ns (get_or es k d)) is.notes
        (subst (λ fs. IsToldIn fs r.noted (get_or es k d)) is.keeps (told k d h))

    order_at : (k : ℕ) (d : ExportName) → k < length es → is_exported_in r.files r.noted list (get_or es k d).name.items ≡ true
    order_at k d h =
        subst (λ n. is_exported_in r.files r.noted list n ≡ true) (get_or-map (λ (e : ExportName). e.name.items) es k d [] h)
        (order.each k [] (omega (arith, h, length-map es (λ (e : ExportName). e.name.items))))
