-- Numbers that the format limits, and which of them passes its limit.
use Rattle.std.specs.Prelude.{◌≡◌, ℕ, ◌+◌, ◌<◌, ◌≤◌, List, length, sum_by, Option, Some, None, ◌^◌, ◌-◌}
use Rattle.macho_model.specs.declared.placed.Counts.{Counts}
use Rattle.macho_model.specs.declared.targets.Limit.{Limit}
use Rattle.macho_model.specs.declared.targets.Limit.TheVariants as limit
use Rattle.macho_model.specs.ExportLists.{plain_entries}
use Rattle.macho_model.specs.Links.{Link}
use Rattle.macho_model.specs.Objects.{num_symbols}
use Rattle.macho_model.specs.Resolution.{symbols_of}
use Rattle.macho_model.specs.Needs.{imports_of, libraries_needed}
use Rattle.macho_model.specs.Consumed.{personality_targets}
use Rattle.macho_model.specs.Fixups.{import_entries_of}
use Rattle.macho_export_lists.specs.Entries.{ListEntries}
use Rattle.macho_symbols.specs.declared.solved.Import.{Import}
use Rattle.macho_promise.specs.Sizes.{text_size}
use Rattle.macho_linkedit.specs.Imports.{name_bytes}
use Rattle.macho_sizing.specs.declared.asked.SizesOf.{SizesOf}
use Rattle.macho_sizing.specs.declared.numbers.Numbers.{Numbers}
use Rattle.macho_sizing.specs.declared.numbers.Passed.{Passed}

-- the entries without a star, none without lists
abbrev pub plain_of : Option ListEntries → ℕ
plain_of None = 0
plain_of (Some e) = length e.plain

-- what is counted of the arguments themselves
pub record AreCounted (a : SizesOf) (imports : List Import) (n : Numbers) : Type 0 where
  pub libraries : n.libraries ≡ length a.libraries.now
  pub entries : n.imports ≡ length a.needs.now.tables.own + length imports
  pub names : n.name_bytes ≡ name_bytes imports
  pub symbols : sum_by (λ o. num_symbols o.file.bytes) a.objects.now ≤ n.symbols

-- THE numbers of a link.
pub record AreNumbers (l : Link) (n : Numbers) : Type 0 where
  pub libraries : n.libraries ≡ length (libraries_needed l)
  pub personalities : n.personalities ≡ length (personality_targets l)
  pub imports : n.imports ≡ length (import_entries_of l)
  pub names : n.name_bytes ≡ sum_by text_size (imports_of l)

-- the symbols of its objects, with the plain entries of its export lists
pub record AreSymbols (l : Link) (n : Numbers) : Type 0 where
  pub are : n.symbols ≡ length (symbols_of l) + length (plain_entries l.export_lists)

-- no number passes its limit
pub record AreWithin (n : Numbers) : Type 0 where
  pub libraries : n.libraries ≤ 240
  pub personalities : n.personalities ≤ 3
  pub imports : n.imports ≤ 2 ^ 24
  pub names : n.name_bytes ≤ 2 ^ 23
  pub symbols : n.symbols ≤ 2 ^ 32 - 2

-- a number passes its limit, and is told
abbrev pub Passes : Numbers → Limit → ℕ → Type 0
Passes n limit.Libraries number = (number ≡ n.libraries) × (240 < number)
Passes n limit.Personalities number = (number ≡ n.personalities) × (3 < number)
Passes n limit.Imports number = (number ≡ n.imports) × (2 ^ 24 < number)
Passes n limit.NameBytes number = (number ≡ n.name_bytes) × (2 ^ 23 < number)
Passes n limit.Symbols number = (number ≡ n.symbols) × (2 ^ 32 - 2 < number)
Passes n what number = ⊥

abbrev pub IsPassed : Numbers → Passed → Type 0
IsPassed n p = Passes n p.what p.number

-- the sizes of a plan of which nothing is known but whether there are initializers and unwind entries
abbrev pub counts_before : ℕ → ℕ → Counts
counts_before initializers entries = record {
  commands = 0;
  padding = 0;
  initializers = initializers;
  unwind = entries;
  imports = 0;
  import_size = 4;
  name_bytes = 0;
  trie = 0;
  symbols = 0;
  strings = 0;
  identifier = 0;
}
