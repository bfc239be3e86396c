-- The exports trie that stands in a file says the exports of its link.
--
-- A name is exported as one thing: its definition is one, a section and a common have one place each, and what objects export
-- isn't imported. Every exported name is told, so it is among the names of the trie, with the one thing that it is exported
-- as; and look-up finds exactly what the trie has.
use Rattle.std.proofs.Common.{◌≡◌, ℕ, ◌+◌, Bool, true, false, List, map, slice_range, refl, sym, ap, subst, ◌∙◌, arith, Some}
use Rattle.std.specs.Prelude.{Contains}
use Rattle.std.specs.List.{filter, filter_map}
use Rattle.std.specs.Str.{bytes_eq}
use Rattle.std.proofs.lemmas.List.Elements.{All-contains, All-map}
use Rattle.macho_records.specs.Symbols.{is_weak_of}
use Rattle.macho_model.specs.declared.targets.Target.{Target}
use Rattle.macho_model.specs.declared.targets.Target.TheVariants as target
use Rattle.macho_model.specs.declared.placed.PlacedSection.{PlacedSection}
use Rattle.macho_model.specs.declared.placed.PlacedCommon.{PlacedCommon}
use Rattle.macho_model.specs.Links.{Link, SectionId}
use Rattle.macho_model.specs.Resolution.{SymbolId, Symbol, entry_at, definition_of}
use Rattle.macho_model.specs.Needs.{imports_of, is_imported}
use Rattle.macho_model.specs.steps.Resolved.{is_library}
use Rattle.macho_model.specs.Uses.{name_used, uses_of}
use Rattle.macho_model.specs.Targets.{target_of_name}
use Rattle.macho_model.specs.Placement.{Placed, id_of, IsWholeList}
use Rattle.macho_model.specs.Exports.{section_flag}
use Rattle.macho_model.specs.Told as told
use Rattle.macho_model.specs.Told.{IsToldExport}
use Rattle.macho_trie.specs.Exports.{Exported, as_value}
use Rattle.macho_trie.specs.Lookup.{trie_finds}
use Rattle.macho_promise.specs.TrieSays.{ExportedAs, from_object, from_library, ValueOf, IsTrieText, table_bytes}
use Rattle.macho_linkedit.specs.declared.exports.NamedExport.{NamedExport}
use Rattle.macho_linkedit.specs.Tries.{said_of, said, names_in}
use Rattle.macho_linkedit.specs.Laws.{TrieSizeIsKept, TrieIsSaid}
use Rattle.macho_linkedit.proofs.Unique.{one_section, one_common}
use Rattle.macho_model.specs.steps.Exports.{weak_flag}
use Rattle.macho_bytes.proofs.Members.{contains_map, map_contains}
use Rattle.macho_model.proofs.Distinct.{imported}

-- a target has one value
one_value : (l : Link) (p : Placed) (weak : ℕ) (t : Target) (e f : Exported) → IsWholeList l p → ValueOf l p weak t e → ValueOf l p weak t f
    → e ≡ f
one_value l p weak (target.Section file section offset) e f whole x y =
    let q = x.2 in
    let r = y.2 in
    let ids : id_of q.0 ≡ id_of r.0
    = ap (λ (n : ℕ). let s : SectionId = record { file = n; section = q.0.section } in s) (q.2 ∙ sym r.2)
    ∙ ap (λ (n : ℕ). let s : SectionId = record { file = r.0.file; section = n } in s) (q.3 ∙ sym r.3) in
    let same : q.0 ≡ r.0 = one_section l p q.0 r.0 whole q.1 r.1 ids in
    let addresses : x.0 ≡ y.0 = sym q.4 ∙ ap (λ (s : PlacedSection). s.address) same ∙ r.4 in
    let values : x.1 ≡ y.1 = omega (arith, x.3, y.3) in
    x.4 ∙ ap (λ (n : ℕ). as_value (section_flag l file section + weak) n) values ∙ sym y.4
one_value l p weak (target.Common id) e f whole x y =
    let same : x.0 ≡ y.0 = one_common l p x.0 y.0 whole x.2 y.2 (x.3 ∙ sym y.3) in
    let addresses : x.0.address ≡ y.0.address = ap (λ (c : PlacedCommon). c.address) same in
    let values : x.1 ≡ y.1 = omega (arith, x.4, y.4) in
    x.5 ∙ ap (λ (n : ℕ). as_value weak n) values ∙ sym y.5
one_value l p weak (target.Absolute value) e f whole x y = x ∙ sym y
one_value l p weak (target.Import id) e f whole x y = absurd x
one_value l p weak target.Base e f whole x y = absurd x
one_value l p weak target.None e f whole x y = absurd x

-- a name is exported as one thing
one_export : (l : Link) (p : Placed) (name : List ℕ) (e f : Exported) → IsWholeList l p → ExportedAs l p name e → ExportedAs l p name f
    → e ≡ f
one_export l p name _ _ whole (from_object s e is v) (from_object t f also w) =
    let same : s ≡ t = (let both : Some (Symbol s) ≡ Some (Symbol t) = sym is.0 ∙ also.0 in cc) in
    one_value l p (weak_flag l s) (target_of_name l name) e f whole v
    (subst (λ (u : SymbolId). ValueOf l p (weak_flag l u) (target_of_name l name) f) (sym same) w)
one_export l p name _ _ whole (from_object s e is v) (from_library c) = absurd (no_library l name s is.0 (imported l name c.0))
  where
    no_library : (l : Link) (name : List ℕ) (s : SymbolId) → definition_of l name ≡ Some (Symbol s) → is_imported l name ≡ true → ⊥
    no_library l name s is yes_library = (let e : false ≡ true = sym (ap is_library is) ∙ yes_library in absurd cc)
one_export l p name _ _ whole (from_library c) (from_object s e is v) = absurd (no_library l name s is.0 (imported l name c.0))
  where
    no_library : (l : Link) (name : List ℕ) (s : SymbolId) → definition_of l name ≡ Some (Symbol s) → is_imported l name ≡ true → ⊥
    no_library l name s is yes_library = (let e : false ≡ true = sym (ap is_library is) ∙ yes_library in absurd cc)
one_export l p name _ _ whole (from_library c) (from_library d) = refl

-- what is exported is told
is_told : (l : Link) (p : Placed) (name : List ℕ) (e : Exported) → ExportedAs l p name e → (weak : Bool) × IsToldExport l name weak
is_told l p name _ (from_object s e is v) = (is_weak_of (entry_at l s), told.from_object s is)
is_told l p name _ (from_library c) = (false, told.from_library c)

-- THE exports.
pub trie_is_said : TrieIsSaid
trie_is_said l b p t tells exports bytes whole are stands = record {
  table = t;
  one = stands.one;
  finds = λ name x. (
    λ is. only name x (subst (λ (y : List ℕ). trie_finds y name x) range is),
    λ is. subst (λ (y : List ℕ). trie_finds y name x) (sym range) (found name x is),
  );
  symbols = map said exports;
  sound = All-map (λ s. ExportedAs l p s.0 s.1) said exports are.each;
  exact = subst (λ (x : List ℕ). IsTrieText (map said exports) x) (sym range) stands.exact;
}
  where
    range : table_bytes b t ≡ bytes
    range = ap (λ (n : ℕ). slice_range b t.at (t.at + n)) stands.size ∙ stands.text.same

    found : (name : List ℕ) (x : Exported) → ExportedAs l p name x → trie_finds bytes name x
    found name x is =
        let w = is_told l p name x is in
        let named : Contains (names_in exports) name
        = subst (λ (ns : List (List ℕ)). Contains ns name) (sym are.names) (are.told_are.all name w.0 w.1) in
        let y = map_contains (λ (e : NamedExport). e.name.now) exports name named in
        let says : ExportedAs l p name (said_of y.0.says)
        = subst (λ (n : List ℕ). ExportedAs l p n (said_of y.0.says)) y.2
        (All-contains (λ e. ExportedAs l p e.name.now (said_of e.says)) exports y.0 are.each y.1) in
        let pair : said y.0 ≡ (name, x)
        = ap (λ (n : List ℕ). let z : List ℕ × Exported = (n, said_of y.0.says) in z) y.2
        ∙ ap (λ (v : Exported). let z : List ℕ × Exported = (name, v) in z)
        (one_export l p name (said_of y.0.says) x whole says is) in
        stands.all name x (subst (λ (z : List ℕ × Exported). Contains (map said exports) z) pair (contains_map said exports y.0 y.1))

    only : (name : List ℕ) (x : Exported) → trie_finds bytes name x → ExportedAs l p name x
    only name x is =
        let y = map_contains said exports (name, x) (stands.only name x is) in
        let says = All-contains (λ y. ExportedAs l p y.name.now (said_of y.says)) exports y.0 are.each y.1 in
        let names : y.0.name.now ≡ name = ap (λ (z : List ℕ × Exported). z.0) y.2 in
        let values : said_of y.0.says ≡ x = ap (λ (z : List ℕ × Exported). z.1) y.2 in
        subst (λ (n : List ℕ). ExportedAs l p n x) names (subst (λ (v : Exported). ExportedAs l p y.0.name.now v) values says)

-- THE size.
pub trie_size_is_kept : TrieSizeIsKept
trie_size_is_kept l tells exports bytes size kept_are exact long = record {
  exports = tells;
  told = kept_are.told_are;
  bytes = bytes;
  trie = subst (λ (xs : List (List ℕ × Exported)). IsTrieText xs bytes) kept_are.are exact;
  long = long;
}
