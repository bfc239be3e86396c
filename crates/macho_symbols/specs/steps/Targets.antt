-- Uses of symbols and names, by the rows of all files: the imports that are noted after them.
use Rattle.std.specs.Prelude.{ℕ, ◌==◌, ◌&&◌, if◌then◌else◌, Bool, true, false, List, [], ◌∷◌, ◌++◌, length, None, is_none}
use Rattle.std.specs.List.{fold}
use Rattle.macho_model.specs.declared.targets.Target.{Target}
use Rattle.macho_model.specs.declared.targets.Target.TheVariants as target
use Rattle.macho_model.specs.Links.{Link, object_of}
use Rattle.macho_model.specs.Resolution.{SymbolId}
use Rattle.macho_symbol_names.specs.declared.notes.Sort.{Sort}
use Rattle.macho_symbol_names.specs.declared.notes.Sort.TheVariants.{Section, Absolute, Common, Offered, Nowhere}
use Rattle.macho_symbol_names.specs.Kept.{Row, FileRows, row_of_symbol}
use Rattle.macho_symbol_names.specs.Events.{Event, events, best_of, strength}
use Rattle.macho_symbols.specs.Targets.{definition_by, defines_in, named_in}

-- the row of a symbol of a link, and its event
abbrev pub row_of : Link → SymbolId → Row
row_of l s = row_of_symbol (object_of l s.file) s.symbol

abbrev pub event_of : Link → SymbolId → Event
event_of l s = record { file = s.file; at = s.symbol; row = row_of l s }

abbrev pub is_of_object : Sort → Bool
is_of_object Section = true
is_of_object Absolute = true
is_of_object Common = true
is_of_object Offered = false
is_of_object Nowhere = false

-- an event is a common that defines its name
abbrev pub is_chosen_in : List FileRows → Event → Bool
is_chosen_in files e = (strength e.row == 2) && defines_in files e

-- a target is the import of a number; it is nothing
abbrev pub is_next : ℕ → Target → Bool
is_next n (target.Import id) = id == n
is_next n (target.Section file section offset) = false
is_next n (target.Common id) = false
is_next n target.Base = false
is_next n (target.Absolute value) = false
is_next n target.None = false

abbrev pub is_nothing : Target → Bool
is_nothing target.None = true
is_nothing (target.Section file section offset) = false
is_nothing (target.Common id) = false
is_nothing (target.Import id) = false
is_nothing target.Base = false
is_nothing (target.Absolute value) = false

-- the imports that are noted after a use
abbrev pub noting_in : List FileRows → List (List ℕ) → Event → List (List ℕ)
noting_in files noted e =
    if e.row.global && is_next (length noted) (named_in files noted e.row.name) then noted ++ e.row.name ∷ [] else noted

-- a name has no definition
abbrev pub is_missing_in : List FileRows → List ℕ → Bool
is_missing_in files name = is_none (definition_by name (best_of name (events files)))

-- the imports that are noted after a name is asked for, and after several are
abbrev pub noting_name_in : List FileRows → List (List ℕ) → List ℕ → List (List ℕ)
noting_name_in files noted name = if is_next (length noted) (named_in files noted name) then noted ++ name ∷ [] else noted

unfoldable pub noting_names_in : List FileRows → List (List ℕ) → List (List ℕ) → List (List ℕ)
noting_names_in files noted names = fold (noting_name_in files) noted names
