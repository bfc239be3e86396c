use Rattle.macho_tests.proofs.model_laws.definition_of_a_name.Goals as goal

pub returns : goal.returns
returns c l m = c.equal_inputs_have_equal_definitions.ensures.definitions l m c.args.name.now
