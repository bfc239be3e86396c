-- What is told of the room for unwind information before addresses.
use Rattle.std.specs.Prelude.{◌≡◌, ◌^◌, ◌≤◌, map}
use Rattle.macho_model.specs.Links.{Link}
use Rattle.macho_model.specs.Needs.{imports_of}
use Rattle.macho_model.specs.Targets.{slots_of}
use Rattle.macho_model.specs.Consumed.{entries_of_link}
use Rattle.macho_symbols.specs.Kept.{IsResolved}
use Rattle.macho_needs.specs.declared.needs.Needs.{Needs}
use Rattle.macho_unwind_pages.specs.Calls.{HasTooMany}
use Rattle.macho_promise.specs.Sizes.{unwind_input, unwind_size}
use Rattle.macho_consumed.specs.declared.room.RoomFault.{RoomFault}
use Rattle.macho_consumed.specs.declared.room.RoomFault.TheVariants.{TooManyPersonalities, TooLarge, OutOfMemory}

-- The needs of a link, whole: its imports and its slots are noted.
pub record AreNoted (l : Link) (n : Needs) : Type 0 where
  pub imports : IsResolved l (imports_of l) n.resolved
  pub slots : n.tables.slots ≡ slots_of l

-- Why the room isn't told: entries name more than three slots of personality functions, or the bound is 2 ^ 64 or more. Nothing is
-- claimed of want of memory.
abbrev pub IsNoRoom : Link → RoomFault → Type 0
IsNoRoom l TooManyPersonalities = HasTooMany (map (unwind_input l) (entries_of_link l))
IsNoRoom l TooLarge = 2 ^ 64 ≤ unwind_size l
IsNoRoom l OutOfMemory = Unit {0}
