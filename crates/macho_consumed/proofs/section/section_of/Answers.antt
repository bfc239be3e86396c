-- The file keeps the rules of objects.
use Rattle.macho_object.proofs.Options.{some_if}
use Rattle.macho_consumed.proofs.InSlots.{is_read, externs_exist, are_inside}
use Rattle.macho_consumed.proofs.section.section_of.Goals as goal

pub invariant_of-result : goal.invariant_of-result
invariant_of-result c =
    is_read c.args.file.now c.args.index _ _ _ c.requires.kind c.is_dynamic-whole.ensures.kept c.requires.among
    (some_if _ _ _ c.in-Some.ensures).1 (some_if _ _ _ c.in-Some-section_bytes.ensures).1 (some_if _ _ _ c.in-Some-relocations.ensures).1

pub returns-clause-symbols : goal.returns-clause-symbols
returns-clause-symbols c =
    externs_exist c.args.file.now c.args.index c.requires.kind c.is_dynamic-whole.ensures.kept c.requires.among

pub returns-clause-inside : goal.returns-clause-inside
returns-clause-inside c = are_inside c.args.file.now c.args.index c.requires.kind c.is_dynamic-whole.ensures.kept c.requires.among
