-- What is told of a word: of the input that stands in it, else of the list.
use Rattle.macho_report.proofs.Words.{input-told, list-told, none-told}
use Rattle.macho_report.proofs.report.word_name.Goals as goal

pub returns-in-Some : goal.returns-in-Some
returns-in-Some c = input-told c.args.inputs.now c.args.lists.now c.args.word c.input_of_word.result c.in-Some.spec
    c.name_of_input.result.now
    c.input_of_word.ensures c.in-Some.is c.name_of_input.ensures

pub returns-in-Some-list_of_word : goal.returns-in-Some-list_of_word
returns-in-Some-list_of_word c = list-told c.args.inputs.now c.args.lists.now c.args.word c.input_of_word.result c.list_of_word.result
    c.in-Some-list_of_word.list c.as_bytes.result.now
    c.input_of_word.ensures c.in-None.is c.list_of_word.ensures c.in-Some-list_of_word.is c.as_bytes.ensures.value

pub returns-in-None-list_of_word : goal.returns-in-None-list_of_word
returns-in-None-list_of_word c = none-told c.args.inputs.now c.args.lists.now c.args.word c.input_of_word.result c.list_of_word.result
    c.input_of_word.ensures c.in-None.is c.list_of_word.ensures c.in-None-list_of_word.is
