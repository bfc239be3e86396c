-- What follows of a plan.
--
-- A word's number is one of the codes that its page may name, of which there are at most 256; so the word has 32 bits. A code that a page
-- names alone is that of an entry, so it is ranked; were there no more ranked codes than every page may name, it would be one of those.
use Rattle.std.proofs.Common.{◌≡◌, ℕ, zero, suc, ◌+◌, ◌^◌, ◌<◌, ◌==◌, true, List, [], ◌∷◌, length, get_or, sym, ap, subst, ◌∙◌, arith, inl, inr, length-append}
use Rattle.std.specs.List.{All, list_any}
use Rattle.macho_unwind_pages.specs.declared.entries.ResolvedUnwindInfo.{ResolvedUnwindInfo}
use Rattle.macho_unwind_pages.specs.declared.paging.Row.{Row}
use Rattle.macho_unwind_pages.specs.Entries.{input_of, inputs_of, ids_of, code_in, codes_of}
use Rattle.macho_unwind_pages.specs.steps.Ranks.{ranked}
use Rattle.macho_unwind_pages.specs.Bounds.{MOST_GLOBALS}
use Rattle.macho_unwind_pages.specs.Plans.{PageList, PlanList, IsPage, IsPlan, IsPlanOf, own_codes}
use Rattle.macho_unwind_pages.specs.steps.Plans.{row_from}

-- words of a plan have 32 bits
pub word_fits : (plan : PlanList) (k j : ℕ) (d : PageList) (e : ℕ) → IsPlan plan → k < length plan.pages
    → j < length (get_or plan.pages k d).words
    → get_or (get_or plan.pages k d).words j e < 2 ^ 32
word_fits plan k j d e formed lt within =
    let page : IsPage plan.globals (get_or plan.pages k d) = formed.pages k d lt in
    omega (arith, page.named j e within, page.locals, formed.globals)
