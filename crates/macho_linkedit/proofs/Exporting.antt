-- What is said of an exported name.
--
-- A name that an object defines leads to a section, a common or an absolute value, and to nothing else. By each it is exported
-- as the address less the base, or as the value, with the flags of what it is.
use Rattle.std.proofs.Common.{◌≡◌, ℕ, ◌-◌, ◌≤◌, Bool, true, false, if◌then◌else◌, refl, sym, ap, arith}
use Rattle.std.specs.List.{position_or_len}
use Rattle.std.specs.FinMap.{empty}
use Rattle.macho_records.specs.Symbols.{is_weak_of, is_common_of, has_type}
use Rattle.macho_records.specs.declared.constants.TheConstants.{N_ABS}
use Rattle.macho_model.specs.declared.targets.Target.{Target}
use Rattle.macho_model.specs.declared.targets.Target.TheVariants as target
use Rattle.macho_model.specs.Links.{Link}
use Rattle.macho_model.specs.Resolution.{SymbolId, entry_at, same_symbol, stands_in_carried, chosen_commons}
use Rattle.macho_model.specs.Needs.{imports_of}
use Rattle.macho_model.specs.Targets.{own_target, definition_target, target_of_name}
use Rattle.macho_model.specs.Placement.{Placed}
use Rattle.macho_model.specs.Values.{is_absolute_target}
use Rattle.macho_model.specs.Stands.{IsAt}
use Rattle.macho_model.proofs.Words.{place_of_symbol}
use Rattle.macho_promise.specs.TrieSays.{from_object, from_library, ValueOf}
use Rattle.macho_linkedit.specs.Tries.{said_of, value_said, is_thread_local}
use Rattle.macho_linkedit.specs.Laws.{ValuesAreFound, ReexportsAreFound}
use Rattle.macho_linkedit.proofs.Numbering.{not_own}
use Rattle.macho_model.specs.steps.Exports.{weak_flag}

-- a symbol that defines itself isn't the image's base
not_base : (l : Link) (s : SymbolId) → own_target l s ≡ target.Base → ⊥
not_base l s is = by (stands_in_carried l s) (has_type N_ABS (entry_at l s)) (is_common_of (entry_at l s)) is
  where
    by : (a b c : Bool)
        → (if a then place_of_symbol l s
        else if b then target.Absolute (entry_at l s).n_value
        else if c then target.Common (position_or_len (same_symbol s) (chosen_commons l)) else target.None)
        ≡ target.Base → ⊥
    by true b c is = cc
    by false true c is = cc
    by false false true is = cc
    by false false false is = cc

-- what a target is exported as
by_target : (l : Link) (p : Placed) (s : SymbolId) (t : Target) (address : ℕ) → own_target l s ≡ t → IsAt l p 0 empty t address
    → (is_absolute_target t ≡ false → p.base ≤ address)
    → ValueOf l p (weak_flag l s) t (said_of (value_said t (is_weak_of (entry_at l s)) (is_thread_local l t) address p.base))
by_target l p s (target.Section file section offset) address is at above =
    let low : p.base ≤ address = above refl in (at.0, address - p.base, at.1, omega (arith, at.2, low), refl)
by_target l p s (target.Common id) address is at above =
    let low : p.base ≤ address = above refl in (at.0, address - p.base, at.1, at.2, omega (arith, at.3, low), refl)
by_target l p s (target.Absolute value) address is at above = refl
by_target l p s (target.Import id) address is at above = absurd (not_own l s id is)
by_target l p s target.Base address is at above = absurd (not_base l s is)
by_target l p s target.None address is at above = absurd at

pub values_are_found : ValuesAreFound
values_are_found l p name s address exported at above =
    let own : own_target l s ≡ target_of_name l name = sym (ap (definition_target l (imports_of l) name) exported.0) in
    from_object s _ exported (by_target l p s (target_of_name l name) address own at above)

pub reexports_are_found : ReexportsAreFound
reexports_are_found l p name is = from_library is
