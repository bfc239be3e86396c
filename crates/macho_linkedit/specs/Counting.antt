-- What the sizes of a link depend on, as they are counted before addresses are known.
use Rattle.std.specs.Prelude.{◌≡◌, ℕ, ◌+◌, ◌<◌, ◌^◌, length, sum_by, All, is_some}
use Rattle.std.specs.declared.vec.Vec.{Vec}
use Rattle.std.specs.declared.alloc.Global.{Global}
use Rattle.macho_model.specs.Links.{Link}
use Rattle.macho_model.specs.Needs.{imports_of, libraries_needed}
use Rattle.macho_model.specs.Faults.{last_part}
use Rattle.macho_model.specs.Made.{initializers_of}
use Rattle.macho_model.specs.Resolution.{name_at}
use Rattle.macho_model.specs.SymbolTable.{table_symbols}
use Rattle.macho_model.specs.Fixups.{own_entries}
use Rattle.macho_symbols.specs.Told.{ImportsAre}
use Rattle.macho_promise.specs.Sizes.{unwind_size, text_size}
use Rattle.macho_linkedit.specs.Imports.{texts, name_bytes}
use Rattle.macho_linkedit.specs.declared.counting.SizeArguments.{SizeArguments}
use Rattle.macho_linkedit.specs.declared.counting.SizesAsked.{SizesAsked}

-- a path that a command can tell
abbrev pub IsPath : Vec ℕ Global → Type 0
IsPath path = length path.items < 2 ^ 32

-- The numbers can be summed up in 64 bits. With more or longer paths the load commands alone pass 2 ^ 32 bytes.
pub record FitCounts (a : SizesAsked) : Type 0 where
  pub own_name : length a.arguments.install_name.now < 2 ^ 32
  pub libraries : All IsPath a.libraries.now
  pub rpaths : All IsPath a.arguments.rpaths.now
  pub libraries_few : length a.libraries.now < 2 ^ 28
  pub rpaths_few : length a.arguments.rpaths.now < 2 ^ 28
  pub numbers : (name_bytes a.imports.now < 2 ^ 64) × (length a.imports.now + a.own_entries < 2 ^ 64)
      × (length a.arguments.name.now < 2 ^ 63)

-- The arguments are those of a link.
pub record AreArguments (l : Link) (a : SizeArguments) : Type 0 where
  pub executable : a.executable ≡ l.executable
  pub install_name : a.install_name.now ≡ l.install_name
  pub versions : a.has_versions ≡ is_some l.versions
  pub rpaths : texts a.rpaths.now ≡ l.rpaths
  pub headerpad : a.headerpad ≡ l.headerpad
  pub name : a.name.now ≡ last_part l.output

-- THE parts of a link's sizes.
pub record AreAsked (l : Link) (a : SizesAsked) : Type 0 where
  pub arguments : AreArguments l a.arguments
  pub libraries : texts a.libraries.now ≡ libraries_needed l
  pub imports : ImportsAre l (imports_of l) a.imports.now
  pub own : a.own_entries ≡ length (own_entries l)
  pub consumed : (a.initializers ≡ length (initializers_of l)) × (a.unwind ≡ unwind_size l)
  pub symbols : (a.symbols ≡ length (table_symbols l)) × (a.strings ≡ 1 + sum_by (λ s. text_size (name_at l s)) (table_symbols l))
