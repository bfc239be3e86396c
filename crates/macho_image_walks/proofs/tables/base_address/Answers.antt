-- The first segment named `__TEXT` is the one whose command was found.
use Rattle.std.proofs.Common.{refl}
use Rattle.macho_image_walks.proofs.ListedLaws.{base_found, base_missing}
use Rattle.macho_image_walks.proofs.tables.base_address.Goals as goal

pub returns-in-Some : goal.returns-in-Some
returns-in-Some c =
    base_found c.args.bytes.now c.in-Some.place c.segment_at.result.address (c.in-Some.ensures.found c.in-Some.place refl)
    c.segment_at.ensures.address

pub returns-in-None : goal.returns-in-None
returns-in-None c = base_missing c.args.bytes.now (c.in-None.ensures.only refl)
