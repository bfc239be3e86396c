-- What the tables of a placed link look up: where its names and symbols are.
use Rattle.std.specs.Prelude.{◌≡◌, ℕ, ◌^◌, ◌<◌, true, List, Contains}
use Rattle.macho_model.specs.declared.placed.Counts.{Counts}
use Rattle.macho_model.specs.Links.{Link}
use Rattle.macho_model.specs.Resolution.{SymbolId, symbols_of}
use Rattle.macho_model.specs.Targets.{target_of, target_of_name, is_defined}
use Rattle.macho_model.specs.Placement.{Placed}
use Rattle.macho_model.specs.Addresses.{address_of}
use Rattle.macho_layout_laws.specs.Laws.{IsWhollyPlaced}
use Rattle.macho_model.specs.Grammar.{ObjectsAreRead}
use Rattle.macho_fields.specs.Looks.{Look, Tells}

-- What names and symbols lead to has an address of 64 bits, where it moves with the image.
pub record AddressesFit (l : Link) (p : Placed) : Type 0 where
  pub names : (name : List ℕ) → is_defined (target_of_name l name) ≡ true → address_of p (target_of_name l name) < 2 ^ 64
  pub symbols : (s : SymbolId) → Contains (symbols_of l) s → is_defined (target_of l s) ≡ true → address_of p (target_of l s) < 2 ^ 64

-- A link is placed, and the look-ups tell of it.
pub record IsToTable (l : Link) (counts : Counts) (p : Placed) (look : Look) : Type 0 where
  pub objects : ObjectsAreRead l
  pub placed : IsWhollyPlaced l counts p
  pub tells : Tells l p look
  pub fit : AddressesFit l p
