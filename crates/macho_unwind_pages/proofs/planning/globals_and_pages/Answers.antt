-- The pages of functions stand beside the first ranks of codes.
--
-- The keys of the ranks are the codes by rank. So the code of each function is one of them, and they have 32 bits as all codes
-- do. The first 224 of them are what every page may name.
use Rattle.std.proofs.Common.{◌≡◌, ◌==◌, ◌<◌, ◌^◌, ℕ, List, map, take, true, sym, ap, subst, ◌∙◌}
use Rattle.std.specs.List.{All, list_any}
use Rattle.macho_unwind_pages.specs.Plans.{Row, page_list}
use Rattle.macho_unwind_pages.specs.steps.Paging.{ArePages}
use Rattle.macho_unwind_pages.proofs.Gathered.{short_ranks}
use Rattle.macho_unwind_pages.proofs.planning.globals_and_pages.Goals as goal

pub globals-requires : goal.globals-requires
globals-requires c =
    subst (All (λ (code : ℕ). code < 2 ^ 32)) (sym c.in_ok-ranks.ensures) (short_ranks c.args.codes.now c.requires.fit)

pub paged-requires-clause-ranked : goal.paged-requires-clause-ranked
paged-requires-clause-ranked c =
    subst (λ (ks : List ℕ). All (λ (r : Row). list_any (λ other. r.code == other) ks ≡ true) c.args.rows.now)
    (sym c.in_ok-ranks.ensures) c.requires.ranked

pub returns-clause-globals : goal.returns-clause-globals
returns-clause-globals c = c.in_ok-globals.ensures ∙ ap (take 224) c.in_ok-ranks.ensures

pub returns-clause-pages : goal.returns-clause-pages
returns-clause-pages c =
    subst (λ (ks : List ℕ). ArePages (take 224 ks) c.args.rows.now (map page_list c.in_ok-pages.pages.items))
    c.in_ok-ranks.ensures c.in_ok-pages.ensures
