-- Each link has a list of its exported names.
--
-- Whether a name is exported can be decided: its definition is computed, a flag of it and the lists are tests, and whether the name
-- is imported is too. A name that is exported is that of a symbol of some object, or an import. So the names of all symbols and all
-- imports are gone through, and those that are exported are put into a list that rises.
use Rattle.std.proofs.Common.{◌≡◌, ◌⊎◌, ℕ, Bool, true, false, List, [], ◌∷◌, ◌++◌, map, Option, Some, None, refl, sym, ◌∙◌, subst, inl, inr}
use Rattle.std.specs.Prelude.{Contains}
use Rattle.std.specs.Str.{bytes_eq}
use Rattle.std.proofs.lemmas.Slice.Eq.{bytes_eq-Decides}
use Rattle.std.proofs.lemmas.List.Elements.{Contains-append_left, Contains-append_right}
use Rattle.macho_bytes.proofs.Members.{contains_first, contains_later, contains_cases, contains_map, nil_contains}
use Rattle.macho_records.specs.Symbols.{is_hidden_of, is_weak_of}
use Rattle.macho_model.specs.Links.{Link}
use Rattle.macho_model.specs.Resolution.{SymbolId, Definition, Symbol, Library, ImageBase, symbols_of, entry_at, name_at, definition_of}
use Rattle.macho_model.specs.Needs.{imports_of}
use Rattle.macho_model.specs.Targets.{target_of_name}
use Rattle.macho_model.specs.Exports.{has_lists, is_listed, IsExported}
use Rattle.macho_model.specs.Told.{ToldExport, IsReexported, IsToldExport, from_object, from_library, ExportsAreTold}
use Rattle.macho_sizes_exist_laws.proofs.Rising.{Names, Rises, Each, With, with, contains_name, pairs_rise, all_keep}
use Rattle.macho_model.proofs.Definitions.{defined_by}

-- a test has a value or the other
tested : (b wanted : Bool) → (b ≡ wanted) ⊎ (b ≡ wanted → ⊥)
tested true true = inl refl
tested true false = inr (λ e. absurd cc)
tested false true = inr (λ e. absurd cc)
tested false false = inl refl

contained : (xs : List (List ℕ)) (z : List ℕ) → Contains xs z ⊎ (Contains xs z → ⊥)
contained [] z = inr (λ there. nil_contains z there)
contained (x ∷ xs) z = by (tested (bytes_eq x z) true) (contained xs z)
  where
    by : (bytes_eq x z ≡ true) ⊎ (bytes_eq x z ≡ true → ⊥) → Contains xs z ⊎ (Contains xs z → ⊥)
        → Contains (x ∷ xs) z ⊎ (Contains (x ∷ xs) z → ⊥)
    by (inl same) rest =
        inl (subst (λ (w : List ℕ). Contains (x ∷ xs) w) ((bytes_eq-Decides x z).0 same) (contains_first x xs))
    by (inr other) (inl later) = inl (contains_later x xs z later)
    by (inr other) (inr none) = inr (λ there. elim (contains_cases x xs z there) [
      | inl is ↦ other ((bytes_eq-Decides x z).1 is)
      | inr later ↦ none later
    ])

-- a symbol is no other definition
one : (t s : SymbolId) → (let o : Option Definition = Some (Symbol t) in o ≡ Some (Symbol s)) → t ≡ s
one t s e = cc

no_library : (t : SymbolId) (file : ℕ) → (let o : Option Definition = Some (Symbol t) in o ≡ Some (Library file)) → ⊥
no_library t file e = cc

no_image : (t : SymbolId) → (let o : Option Definition = Some (Symbol t) in o ≡ Some ImageBase) → ⊥
no_image t e = cc

no_none : (t : SymbolId) → (let o : Option Definition = Some (Symbol t) in o ≡ None) → ⊥
no_none t e = cc

-- a name is exported from an object, or not
from_symbol : (l : Link) (name : List ℕ) → ((s : SymbolId) × IsExported l name s) ⊎ ((s : SymbolId) → IsExported l name s → ⊥)
from_symbol l name = by (definition_of l name) refl
  where
    symbol : (s : SymbolId) → definition_of l name ≡ Some (Symbol s) → (is_hidden_of (entry_at l s) ≡ false)
        ⊎ (is_hidden_of (entry_at l s) ≡ false → ⊥) → (is_listed l name ≡ true) ⊎ (is_listed l name ≡ true → ⊥)
        → ((s : SymbolId) × IsExported l name s) ⊎ ((s : SymbolId) → IsExported l name s → ⊥)
    symbol s e (inl seen) (inl listed) = inl (s, (e, seen, listed))
    symbol s e (inl seen) (inr other) = inr (λ t exported. other exported.2)
    symbol s e (inr hidden) listed = inr (λ t exported.
        hidden (subst (λ (u : SymbolId). is_hidden_of (entry_at l u) ≡ false) (one t s (sym exported.0 ∙ e)) exported.1))

    by : (d : Option Definition) → definition_of l name ≡ d
        → ((s : SymbolId) × IsExported l name s) ⊎ ((s : SymbolId) → IsExported l name s → ⊥)
    by (Some (Symbol s)) e = symbol s e (tested (is_hidden_of (entry_at l s)) false) (tested (is_listed l name) true)
    by (Some (Library file)) e = inr (λ t exported. no_library t file (sym exported.0 ∙ e))
    by (Some ImageBase) e = inr (λ t exported. no_image t (sym exported.0 ∙ e))
    by None e = inr (λ t exported. no_none t (sym exported.0 ∙ e))

-- or on from a library, or not
from_import : (l : Link) (name : List ℕ) → IsReexported l name ⊎ (IsReexported l name → ⊥)
from_import l name = by (contained (imports_of l) name) (tested (has_lists l) true) (tested (is_listed l name) true)
  where
    by : Contains (imports_of l) name ⊎ (Contains (imports_of l) name → ⊥) → (has_lists l ≡ true) ⊎ (has_lists l ≡ true → ⊥)
        → (is_listed l name ≡ true) ⊎ (is_listed l name ≡ true → ⊥) → IsReexported l name ⊎ (IsReexported l name → ⊥)
    by (inl there) (inl lists) (inl listed) = inl (there, lists, listed)
    by (inr none) lists listed = inr (λ r. none r.0)
    by (inl there) (inr none) listed = inr (λ r. none r.1)
    by (inl there) (inl lists) (inr none) = inr (λ r. none r.2)

abbrev IsNot : Link → List ℕ → Type 0
IsNot l name = (weak : Bool) → IsToldExport l name weak → ⊥

decided : (l : Link) (name : List ℕ) → ((weak : Bool) × IsToldExport l name weak) ⊎ IsNot l name
decided l name = by (from_symbol l name) (from_import l name)
  where
    neither : ((s : SymbolId) → IsExported l name s → ⊥) → (IsReexported l name → ⊥) → IsNot l name
    neither none other weak (from_object s exported) = none s exported
    neither none other weak (from_library r) = other r

    by : ((s : SymbolId) × IsExported l name s) ⊎ ((s : SymbolId) → IsExported l name s → ⊥)
        → IsReexported l name ⊎ (IsReexported l name → ⊥) → ((weak : Bool) × IsToldExport l name weak) ⊎ IsNot l name
    by (inl (s, exported)) other = inl (is_weak_of (entry_at l s), from_object s exported)
    by (inr none) (inl r) = inl (false, from_library r)
    by (inr none) (inr other) = inr (neither none other)

-- an export is told as it is
abbrev pub IsRight : Link → ToldExport → Type 0
IsRight l e = IsToldExport l e.name e.weak × (e.target ≡ target_of_name l e.name)

-- The exported ones of some names.
record Picked (l : Link) (names : List (List ℕ)) : Type 0 where
  exports : List ToldExport
  rises : Rises exports
  each : Each (IsRight l) exports
  all : (name : List ℕ) (weak : Bool) → Contains names name → IsToldExport l name weak → Names exports name

pick : (l : Link) (names : List (List ℕ)) → Picked l names
pick l [] = record {
  exports = [];
  rises = tt;
  each = tt;
  all = λ name weak there told. nil_contains name there;
}
pick l (x ∷ names) = by (pick l names) (decided l x)
  where
    by : Picked l names → ((weak : Bool) × IsToldExport l x weak) ⊎ IsNot l x → Picked l (x ∷ names)
    by p (inr none) = record { exports = p.exports; rises = p.rises; each = p.each; all = all }
      where
        all : (name : List ℕ) (weak : Bool) → Contains (x ∷ names) name → IsToldExport l name weak → Names p.exports name
        all name weak there told = elim (contains_cases x names name there) [
          | inl is ↦ absurd (none weak (subst (λ (w : List ℕ). IsToldExport l w weak) (sym is) told))
          | inr later ↦ p.all name weak later told
        ]
    by p (inl (weak, told)) =
        more (with (IsRight l) (record { name = x; target = target_of_name l x; weak = weak }) p.exports p.rises p.each (told, refl))
      where
        more : With (IsRight l) (record { name = x; target = target_of_name l x; weak = weak }) p.exports → Picked l (x ∷ names)
        more w = record { exports = w.out; rises = w.rises; each = w.each; all = all }
          where
            all : (name : List ℕ) (other : Bool) → Contains (x ∷ names) name → IsToldExport l name other → Names w.out name
            all name other there is_told = elim (contains_cases x names name there) [
              | inl is ↦ subst (λ (z : List ℕ). Names w.out z) is w.has
              | inr later ↦ w.old name (p.all name other later is_told)
            ]

-- the names of all symbols of objects, and all imports
candidates : Link → List (List ℕ)
candidates l = map (name_at l) (symbols_of l) ++ imports_of l

among : (l : Link) (name : List ℕ) (weak : Bool) → IsToldExport l name weak → Contains (candidates l) name
unfolding candidates
among l name weak (from_object s exported) =
    let d = defined_by l name s exported.0 in
    let C : List ℕ → Type 0 = λ w. Contains (map (name_at l) (symbols_of l) ++ imports_of l) w in
    subst C d.named (Contains-append_left (map (name_at l) (symbols_of l)) (imports_of l) (name_at l s)
    (contains_map (name_at l) (symbols_of l) s d.there))
among l name weak (from_library r) = Contains-append_right (map (name_at l) (symbols_of l)) (imports_of l) name r.0

-- The list, with what it keeps step by step.
pub record Listed (l : Link) : Type 0 where
  pub exports : List ToldExport
  pub rises : Rises exports
  pub each : Each (IsRight l) exports
  pub told : ExportsAreTold l exports

pub listed : (l : Link) → Listed l
listed l = by (pick l (candidates l))
  where
    by : Picked l (candidates l) → Listed l
    by p = record {
      exports = p.exports;
      rises = p.rises;
      each = p.each;
      told = record {
        rising = pairs_rise p.exports p.rises;
        each = all_keep (IsRight l) p.exports p.each;
        all = λ name weak told. contains_name p.exports name (p.all name weak (among l name weak told) told);
      };
    }
