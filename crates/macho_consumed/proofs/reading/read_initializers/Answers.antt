use Rattle.std.proofs.Common.{◌∙◌}
use Rattle.std.proofs.lemmas.Result.{IfErr-weaker, IfOk-weaker, on_ok_weaker}
use Rattle.macho_consumed.proofs.ReadInitializers.{rows_read, bad_stands, rules_kept}
use Rattle.macho_consumed.proofs.reading.read_initializers.Goals as goal

pub returns-clause-rows : goal.returns-clause-rows
returns-clause-rows c
    = λ l views. IfOk-weaker c.gather_initializers.result _ _ (λ v rows. rows ∙ rows_read l _ views) c.gather_initializers.ensures.rows

pub returns-clause-keeps : goal.returns-clause-keeps
returns-clause-keeps c = λ l noted views resolved.
    on_ok_weaker c.gather_initializers.result (rules_kept l noted c.args.files.now c.args.symbols.now views resolved)
    c.gather_initializers.ensures.found

pub returns-clause-why : goal.returns-clause-why
returns-clause-why c = λ l noted views resolved.
    IfErr-weaker c.gather_initializers.result _ _ (λ fault. bad_stands l noted _ _ fault views resolved) c.gather_initializers.ensures.why
