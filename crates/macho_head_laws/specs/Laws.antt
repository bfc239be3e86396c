-- What a reader of a finished image finds of its head. The law is the contract of a function of `src/laws.rt`.
use Rattle.std.specs.Prelude.{ℕ, List}
use Rattle.macho_model.specs.declared.placed.Counts.{Counts}
use Rattle.macho_model.specs.Links.{Link}
use Rattle.macho_model.specs.Placement.{Placed}
use Rattle.macho_model.specs.HeadCommands.{CommandsSay}
use Rattle.macho_model.specs.Signature.{UuidSays}
use Rattle.macho_promise.specs.Promise.{IsLinked}

-- THE head of an image: a reader of its bytes finds exactly the link's header and load commands, with every field. The promise of an
-- image is all that this asks for: no number of the head is too large for its field.
abbrev pub LinkedHeadIsRead : Type 0
LinkedHeadIsRead = (l : Link) (counts : Counts) (uuid b : List ℕ) (p : Placed) → IsLinked l counts uuid b p → CommandsSay l counts uuid b p

-- so the file has one UUID, which is this one with its version and variant set
abbrev pub LinkedUuidIsRead : Type 0
LinkedUuidIsRead = (l : Link) (counts : Counts) (uuid b : List ℕ) (p : Placed) → IsLinked l counts uuid b p → UuidSays uuid b
