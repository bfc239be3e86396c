-- A pointer's relocation is no part of another one's field.
use Rattle.std.proofs.Common.{ℕ, ap}
use Rattle.std.proofs.lemmas.Option.{IfSome_then}
use Rattle.macho_model.specs.Fields.{is_prefix_type}
use Rattle.macho_fields.proofs.Nexts.{one_alone}
use Rattle.macho_fields.proofs.least.relocation_fault.Goals as goal

pub returns : goal.returns
returns g c =
    λ l p fill. IfSome_then c.field_fault.result c.field_fault.ensures
    (λ fault stopped. one_alone l p (g.P.Places.look c.args.places.now) c.args.source.now c.args.near.now.index c.args.near.now
    c.read_field-field.result fault c.requires.source fill c.requires.index c.requires.near c.read_field-field.ensures
    (ap (λ (type : ℕ). is_prefix_type type) c.if-near-ne-ARM64_RELOC_UNSIGNED.false) stopped)
