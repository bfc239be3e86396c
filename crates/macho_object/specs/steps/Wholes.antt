-- What is known of a file whose bytes keep every rule.
use Rattle.std.specs.Prelude.{◌≡◌, ℕ, ◌<◌, true, false}
use Rattle.macho_model.specs.steps.RecordTests.{name_ends}
use Rattle.macho_model.specs.Commands.{command_at}
use Rattle.macho_model.specs.Objects.{num_symbols}
use Rattle.macho_model.specs.ObjectRules.{path_ends}
use Rattle.macho_model.specs.Grammar.{IsFile}
use Rattle.macho_object.specs.declared.outline.Outline.{Outline}
use Rattle.macho_object.specs.steps.Outlines.{IsOutlined}
use Rattle.macho_object.specs.steps.Checks.{SectionFits, AddressFits}

-- The bytes keep every rule of their kind, and their tables stand where the outline says. The last four are what the
-- rules say of names, sections, addresses and the path, as the accessors need it.
pub record IsWhole (o : Outline) : Type 0 where
  pub outlined : IsOutlined o
  pub kept : IsFile o.is_dynamic o.input.now
  pub names : (k : ℕ) → k < num_symbols o.input.now → name_ends o.input.now k ≡ true
  pub sections : (k : ℕ) → k < o.num_sections → SectionFits o.input.now k
  pub addresses : o.is_dynamic ≡ false → (k : ℕ) → k < num_symbols o.input.now → AddressFits o.input.now k
  pub path : o.is_dynamic ≡ true → path_ends o.input.now (command_at o.input.now o.places.main) ≡ true
