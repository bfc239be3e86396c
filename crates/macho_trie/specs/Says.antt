-- What stands for a name in the register, and what is kept of it.
use Rattle.std.specs.Prelude.{ℕ, List}
use Rattle.macho_trie.specs.Exports.{Exported, REEXPORT, as_value, as_reexport}
use Rattle.macho_trie.specs.declared.symbols.Symbol.{Symbol}
use Rattle.macho_trie.specs.declared.symbols.Says.{Says}
use Rattle.macho_trie.specs.declared.symbols.Says.TheVariants.{Value, Reexport}

abbrev pub said_of : Says → Exported
said_of (Value flags address) = as_value flags address
said_of (Reexport ordinal name) = as_reexport REEXPORT ordinal name.now

abbrev pub symbol_of : Symbol → List ℕ × Exported
symbol_of s = (s.name.now, said_of s.says)
