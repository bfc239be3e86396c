-- What the rows of all files say of names and symbols: the definition of a name, and where it leads. The definition is that of the best
-- row with the name; a name that has none leads nowhere, but for that of the image's first byte.
use Rattle.std.specs.Prelude.{ℕ, ◌==◌, ◌&&◌, if◌then◌else◌, Bool, List, filter, map, Option, Some, None, codes}
use Rattle.std.specs.List.{position_or_len}
use Rattle.std.specs.Str.{bytes_eq}
use Rattle.macho_model.specs.declared.targets.Target.{Target}
use Rattle.macho_model.specs.declared.targets.Target.TheVariants as target
use Rattle.macho_model.specs.Resolution.{SymbolId, Definition, Symbol, Library, ImageBase, same_symbol, is_symbol}
use Rattle.macho_symbol_names.specs.declared.notes.Sort.{Sort}
use Rattle.macho_symbol_names.specs.declared.notes.Sort.TheVariants.{Section, Absolute, Common, Offered, Nowhere}
use Rattle.macho_symbol_names.specs.Kept.{FileRows}
use Rattle.macho_symbol_names.specs.Events.{Event, events, best_of, strength}

abbrev pub id_of : Event → SymbolId
id_of e = record { file = e.file; symbol = e.at }

-- what a name is that nothing but the image may define
abbrev pub image_base : List ℕ → Option Definition
image_base name = if bytes_eq name (codes "___dso_handle") then Some ImageBase else None

-- the definition that the best event of a name gives it
abbrev pub defined_as : List ℕ → Sort → Event → Option Definition
defined_as name Section e = Some (Symbol (id_of e))
defined_as name Absolute e = Some (Symbol (id_of e))
defined_as name Common e = Some (Symbol (id_of e))
defined_as name Offered e = Some (Library e.file)
defined_as name Nowhere e = image_base name

abbrev pub definition_by : List ℕ → Option Event → Option Definition
definition_by name None = image_base name
definition_by name (Some e) = defined_as name e.row.sort e

-- a symbol of an object is the definition of its name
abbrev pub defines_in : List FileRows → Event → Bool
defines_in files e = e.row.global && is_symbol (id_of e) (definition_by e.row.name (best_of e.row.name (events files)))

-- the commons that define their names, in order
unfoldable pub chosen_in : List FileRows → List Event
chosen_in files = filter (λ e. (strength e.row == 2) && defines_in files e) (events files)

-- where a row leads by itself
abbrev pub own_in : List FileRows → Event → Sort → Target
own_in files e Section = target.Section e.file e.row.number e.row.value
own_in files e Absolute = target.Absolute e.row.value
own_in files e Common = target.Common (position_or_len (same_symbol (id_of e)) (map id_of (chosen_in files)))
own_in files e Offered = target.None
own_in files e Nowhere = target.None

abbrev pub base_target : List ℕ → Target
base_target name = if bytes_eq name (codes "___dso_handle") then target.Base else target.None

-- where the best event of a name leads
abbrev pub lead_in : List FileRows → List (List ℕ) → List ℕ → Event → Sort → Target
lead_in files noted name e Offered = target.Import (position_or_len (bytes_eq name) noted)
lead_in files noted name e Nowhere = base_target name
lead_in files noted name e Section = own_in files e Section
lead_in files noted name e Absolute = own_in files e Absolute
lead_in files noted name e Common = own_in files e Common

abbrev pub led_in : List FileRows → List (List ℕ) → List ℕ → Option Event → Target
led_in files noted name None = base_target name
led_in files noted name (Some e) = lead_in files noted name e e.row.sort

-- the target of a name, and of a symbol of an object
unfoldable pub named_in : List FileRows → List (List ℕ) → List ℕ → Target
named_in files noted name = led_in files noted name (best_of name (events files))

abbrev pub target_in : List FileRows → List (List ℕ) → Event → Target
target_in files noted e = if e.row.global then named_in files noted e.row.name else own_in files e e.row.sort
