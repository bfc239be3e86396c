-- No record begins at place 0.
use Rattle.std.proofs.Common.{arith}
use Rattle.std.proofs.lemmas.List.Elements.{All-replicate}
use Rattle.macho_loader.specs.steps.Blank.{IsBlank}
use Rattle.macho_loader.proofs.BlankRecords.{none_at_zero}
use Rattle.macho_loader.proofs.blank.no_records.Goals as goal

pub returns : goal.returns
returns c =
    let b = c.args.bytes.now in
    record {
      each = All-replicate (IsBlank b c.args.table) 64 0 (none_at_zero b c.args.table c.requires);
      among = omega arith;
    }
