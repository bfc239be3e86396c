-- Whether a code has a number on a page.
--
-- The numbers are those of two lists joined: the codes that every page may name, and the page's own. The first list was
-- asked, and has none. So the two joined have the code exactly where the second one has it.
use Rattle.std.proofs.Common.{◌==◌, ap, sym, ◌∙◌, is_some}
use Rattle.std.specs.List.{list_any}
use Rattle.macho_unwind_pages.specs.steps.Paging.{globals_in}
use Rattle.macho_unwind_pages.proofs.Naming.{found_in_second}
use Rattle.macho_unwind_pages.proofs.plans.Page.number_of.Goals as goal

pub returns-in-Some-number_in-clause-found : goal.returns-in-Some-number_in-clause-found
returns-in-Some-number_in-clause-found c =
    sym (found_in_second (globals_in c.args.ranks.now) c.args.self.now.locals.items c.args.code
    (sym c.global_number.ensures.found ∙ ap is_some c.in_default.is)
    ∙ ap (list_any (λ other. c.args.code == other)) (sym c.as_slice.ensures.value)
    ∙ sym c.number_in.ensures.found ∙ ap is_some c.in-Some-number_in.is)

pub returns-in-None-clause-found : goal.returns-in-None-clause-found
returns-in-None-clause-found c =
    sym (found_in_second (globals_in c.args.ranks.now) c.args.self.now.locals.items c.args.code
    (sym c.global_number.ensures.found ∙ ap is_some c.in_default.is)
    ∙ ap (list_any (λ other. c.args.code == other)) (sym c.as_slice.ensures.value)
    ∙ sym c.number_in.ensures.found ∙ ap is_some c.in-None.is)
