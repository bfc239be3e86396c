-- The symbol that defines a name leads somewhere: it stands in a carried section, has a value of its own, or is a common.
use Rattle.std.proofs.Common.{◌≡◌, ℕ, ◌⊎◌, inl, inr, ◌&&◌, ◌||◌, not, Bool, true, false, List, [], ◌∷◌, map, refl, sym, subst, Contains, ◌∙◌}
use Rattle.std.specs.Prelude.{Option, Some, None, if◌then◌else◌}
use Rattle.std.specs.List.{position_or_len}
use Rattle.std.specs.Str.{bytes_eq}
use Rattle.std.proofs.lemmas.Bool.{true≢false}
use Rattle.macho_records.specs.Symbols.{is_common_of, is_weak_of, has_type}
use Rattle.macho_records.specs.declared.constants.TheConstants.{N_ABS}
use Rattle.macho_model.specs.declared.targets.Target.TheVariants as target
use Rattle.macho_model.specs.Links.{Link}
use Rattle.macho_model.specs.Resolution.{SymbolId, Definition, Symbol, Library, ImageBase, entry_at, symbols_of, stands_in_carried, same_symbol, is_definition, has_name, strong_of, commons_of, greatest_of, libraries_with, definition_of, chosen_commons}
use Rattle.macho_model.specs.steps.Resolved.{is_strong, is_weak, weak_of, first_or, DSO_HANDLE, first_definition}
use Rattle.macho_model.specs.Targets.{own_target}
use Rattle.macho_model.specs.Rows.{is_none}
use Rattle.macho_model.proofs.Words.{place_of_symbol}
use Rattle.macho_bytes.proofs.Members.{filter_contains}
use Rattle.macho_model.proofs.Resolved.{definition_is_first}
use Rattle.macho_bytes.proofs.Bools.{and_left, and_right}
use Rattle.macho_model.proofs.Definitions.{symbol_found, no_symbol_behind}

-- a symbol leads somewhere
abbrev pub leads : Link → SymbolId → Bool
leads l s = stands_in_carried l s || has_type N_ABS (entry_at l s) || is_common_of (entry_at l s)

-- a definition stands in a carried section or has a value
definition_leads : (l : Link) (t : SymbolId) → is_definition l t ≡ true → leads l t ≡ true
definition_leads l t is = by (stands_in_carried l t || has_type N_ABS (entry_at l t)) (is_common_of (entry_at l t)) (and_right _ _ is)
  where
    by : (a b : Bool) → a ≡ true → (a || b) ≡ true
    by a b e = rw e refl

common_leads : (l : Link) (t : SymbolId) → is_common_of (entry_at l t) ≡ true → leads l t ≡ true
common_leads l t is = by (stands_in_carried l t || has_type N_ABS (entry_at l t)) (is_common_of (entry_at l t)) is
  where
    by : (a b : Bool) → b ≡ true → (a || b) ≡ true
    by true b e = refl
    by false b e = e

pub defined_leads : (l : Link) (name : List ℕ) (t : SymbolId) → definition_of l name ≡ Some (Symbol t) → leads l t ≡ true
unfolding first_definition strong_of weak_of greatest_of commons_of
defined_leads l name t h =
    elim (symbol_found (strong_of l name) _ t (sym (definition_is_first l name) ∙ h)) [
      | inl strong ↦
          let f = filter_contains (λ (s : SymbolId). is_strong l s && has_name l name s) (symbols_of l) t strong in
          definition_leads l t (and_left (is_definition l t) (not (is_weak_of (entry_at l t)))
          (and_left (is_strong l t) (has_name l name t) f.1))
      | inr h2 ↦ elim (symbol_found (weak_of l name) _ t h2) [
        | inl weak ↦
            let f = filter_contains (λ (s : SymbolId). is_weak l s && has_name l name s) (symbols_of l) t weak in
            definition_leads l t (and_left (is_definition l t) (is_weak_of (entry_at l t)) (and_left (is_weak l t) (has_name l name t) f.1))
        | inr h3 ↦ elim (symbol_found (greatest_of l name) _ t h3) [
          | inl greatest ↦
              let g = filter_contains _ (commons_of l name) t greatest in
              let f = filter_contains (λ (s : SymbolId). is_common_of (entry_at l s) && has_name l name s) (symbols_of l) t g.0 in
              common_leads l t (and_left (is_common_of (entry_at l t)) (has_name l name t) f.1)
          | inr h4 ↦ absurd (no_symbol_behind (libraries_with l name) (bytes_eq name DSO_HANDLE) t h4)
        ]
      ]
    ]

-- what leads somewhere has a target
pub own_is_some : (l : Link) (t : SymbolId) → leads l t ≡ true → is_none (own_target l t) ≡ false
own_is_some l t is = by (stands_in_carried l t) (has_type N_ABS (entry_at l t)) (is_common_of (entry_at l t)) is
  where
    by : (a b c : Bool) → (a || b || c) ≡ true
        → is_none (if a then place_of_symbol l t
        else if b then target.Absolute (entry_at l t).n_value
        else if c then target.Common (position_or_len (same_symbol t) (chosen_commons l)) else target.None) ≡ false
    by true b c e = refl
    by false true c e = refl
    by false false true e = refl
    by false false false e = absurd (true≢false (sym e))
