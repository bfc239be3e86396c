use Rattle.macho_stub.specs.Library.{library_fields}
use Rattle.macho_stub.proofs.Answered.{found, only, fault, told}
use Rattle.macho_stub.proofs.NoNuls.{plain_answer}
use Rattle.macho_stub.proofs.Trees.{in_places, in_grammar}
use Rattle.macho_stub.proofs.TreesStand.{text_stands}
use Rattle.macho_stub.proofs.parse_defined_library.Goals as goal

pub returns-clause-found : goal.returns-clause-found
returns-clause-found c = found library_fields c.args.input.now c.answer.result c.answer.ensures

pub returns-clause-slices : goal.returns-clause-slices
returns-clause-slices c = record {
  has = in_places c.args.input.now;
  in_grammar = in_grammar c.args.input.now;
  stand = text_stands c.args.input.now;
}

pub returns-clause-only : goal.returns-clause-only
returns-clause-only c = λ says is. only library_fields c.args.input.now c.answer.result says c.answer.ensures is

pub returns-clause-fault : goal.returns-clause-fault
returns-clause-fault c = fault library_fields c.args.input.now c.answer.result c.answer.ensures

pub returns-clause-told : goal.returns-clause-told
returns-clause-told c = λ line rule is. told library_fields c.args.input.now c.answer.result line rule c.answer.ensures is

pub returns-clause-plain : goal.returns-clause-plain
returns-clause-plain c = plain_answer library_fields c.args.input.now c.answer.result (returns-clause-found c)
