use Rattle.std.proofs.lemmas.Str.{IsUtf8-from_ascii}
use Rattle.macho_records.proofs.Prints.{if_ascii}
use Rattle.macho_records.proofs.names.write_bytes.Goals as goal

pub returns-in-Err : goal.returns-in-Err
returns-in-Err g c =
    if_ascii _ c.args.bytes.now (λ is. absurd (c.in-Err.ensures.cases.0 (IsUtf8-from_ascii c.args.bytes.now is)))
