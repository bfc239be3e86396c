-- Addresses by number.
use Rattle.macho_layout_laws.proofs.ByNumber.{commons_by_number, slots_by_number}
use Rattle.macho_layout_laws.proofs.addresses_by_number.Goals as goal

pub returns : goal.returns
returns c = record { commons = commons_by_number; slots = slots_by_number }
