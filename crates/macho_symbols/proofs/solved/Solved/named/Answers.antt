use Rattle.std.proofs.Common.{ap, sym, ◌∙◌}
use Rattle.macho_symbols.specs.Kept.{noted_of}
use Rattle.macho_symbols.specs.Targets.{named_in}
use Rattle.macho_symbols.proofs.Leading.{leads_nowhere}
use Rattle.macho_symbols.proofs.solved.Solved.named.Goals as goal

pub returns-in-Some : goal.returns-in-Some
returns-in-Some c =
    let s = c.args.self.now in
    let found = rw c.deref.ensures.value at c.in-Some.ensures.found in
    c.lead.ensures ∙ ap (named_in s.files.items (noted_of s.imports.items)) found.1

pub returns-in-None : goal.returns-in-None
returns-in-None c =
    let nowhere = rw c.deref.ensures.value at c.in-None.ensures.none in
    c.base_target.ensures ∙ sym (leads_nowhere c.args.self.now c.args.name.now c.requires nowhere)
