-- A string table, with the ends of its names.
use Rattle.std.specs.Prelude.{◌≡◌, ℕ, List, IfSome, IsSome}
use Rattle.macho_symbol_names.specs.Notes.{AreEnds}
use Rattle.macho_linkedit.specs.declared.names.Names.{Names}

-- The names of a string table, with the ends of its blocks where it was read.
pub record AreNames (strings : List ℕ) (n : Names) : Type 0 where
  pub strings_are : n.strings.now ≡ strings
  pub ends_are : IfSome n.ends (λ ends. AreEnds strings ends.items)

-- It was read.
pub record AreRead (strings : List ℕ) (n : Names) : Type 0 where
  pub names : AreNames strings n
  pub some : IsSome n.ends
