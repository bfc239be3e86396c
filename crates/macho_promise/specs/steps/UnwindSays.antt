-- Parts of the definitions of `UnwindSays`, by names that proofs use.
use Rattle.std.specs.Prelude.{ℕ}
use Rattle.macho_model.specs.Links.{Link}
use Rattle.macho_model.specs.Targets.{slot_number, target_of_relocation}
use Rattle.macho_model.specs.Consumed.{EntryId}
use Rattle.macho_model.specs.Placement.{Placed}
use Rattle.macho_model.specs.Addresses.{slot_address}
use Rattle.macho_unwind.specs.Personality.{Personality}

-- a personality function is named by the number of its slot, and found through the slot
abbrev pub personality_of : Link → Placed → EntryId → ℕ → Personality
personality_of l p d r
    = record { id = slot_number l (target_of_relocation l d.of_section r); slot = slot_address p (target_of_relocation l d.of_section r) }
