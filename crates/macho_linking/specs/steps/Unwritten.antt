-- Why the image of a placed link isn't written, and which refusal that is.
use Rattle.std.specs.Prelude.{Some}
use Rattle.macho_layout.specs.declared.placement.Placement.{Placement}
use Rattle.macho_model.specs.Links.{Link}
use Rattle.macho_model.specs.Placement.{Placed}
use Rattle.macho_answer.specs.declared.fault.LinkError.{LinkError}
use Rattle.macho_answer.specs.declared.fault.LinkError.TheVariants as error
use Rattle.macho_fields.specs.declared.fault.FillFault.TheVariants as fill
use Rattle.macho_fields.specs.Faults.{FillStands}
use Rattle.macho_promise_laws.specs.MadeFault.TheVariants as made
use Rattle.macho_promise_laws.specs.Made.{IsRefused}
use Rattle.macho_linking.specs.declared.fault.Unwritten.{Unwritten}
use Rattle.macho_linking.specs.declared.fault.Unwritten.TheVariants.{Unfilled, Unmade, OutOfMemory}

-- the fault stands; nothing is said of want of memory
abbrev pub UnwrittenStands : Link → Placed → Unwritten → Type 0
UnwrittenStands l p (Unfilled fault) = FillStands l p fault
UnwrittenStands l p (Unmade fault) = IsRefused l p fault
UnwrittenStands l p OutOfMemory = Unit {0}

-- as a refusal of the link
abbrev pub refusal_of : Unwritten → Placement → LinkError
refusal_of (Unfilled (fill.Range at)) placement = error.RelocationRange at placement
refusal_of (Unfilled (fill.Rebase at)) placement = error.RebaseTarget at placement
refusal_of (Unfilled (fill.Place file section relocation)) placement = error.FixupPlace file section relocation (Some placement)
refusal_of (Unfilled fill.Unsupported) placement = error.OutOfMemory
refusal_of (Unfilled fill.OutOfMemory) placement = error.OutOfMemory
refusal_of (Unmade made.TooLarge) placement = error.ImageTooLarge (Some placement)
refusal_of (Unmade made.OutOfMemory) placement = error.OutOfMemory
refusal_of OutOfMemory placement = error.OutOfMemory
