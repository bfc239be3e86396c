-- What the look-ups keep: tables of the placement, and numbers that fit.
use Rattle.std.specs.Prelude.{ℕ, ◌+◌, ◌^◌, ◌<◌, length}
use Rattle.macho_model.specs.Placement.{Placed}
use Rattle.macho_needs.specs.Tables.{Numbered}
use Rattle.macho_places.specs.declared.addresses.Addresses.{Addresses}
use Rattle.macho_places.specs.Lookups.{AreAddresses}

-- The tables are those of the placement, and entries have numbers of 32 bits.
pub record IsSetUp (a : Addresses) (p : Placed) (imports : ℕ) (tables : Numbered) : Type 0 where
  pub held : AreAddresses a p
  pub few : imports + length tables.own < 2 ^ 32
