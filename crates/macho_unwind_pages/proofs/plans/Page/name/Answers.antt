-- A code that has no number yet gets that of one code more.
--
-- The code is one of the ranks, but not one of those that every page may name. So these are as many as there may be, 224,
-- and the page's own codes are numbered behind them. The code is put behind the own ones, so its number is 224 and how many
-- they were.
use Rattle.std.proofs.Common.{ap, sym, refl, ◌∙◌, arith, is_some}
use Rattle.macho_unwind_pages.specs.Plans.{page_list}
use Rattle.macho_unwind_pages.proofs.Naming.{new_name}
use Rattle.macho_unwind_pages.proofs.plans.Page.name.Goals as goal

pub returns : goal.returns
returns c =
    new_name c.args.ranks.now (page_list c.args.self.now) _ c.args.code _ refl refl c.in_ok-push.ensures.items c.requires.ranked
    (sym c.number_of.ensures.found ∙ ap is_some c.in_default.is) (omega (arith, c.len-place.ensures))
