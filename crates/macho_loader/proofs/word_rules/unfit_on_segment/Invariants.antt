-- The words of the pages so far fit.
use Rattle.std.proofs.Common.{ℕ, ◌<◌}
use Rattle.macho_image_walks.specs.steps.WordTests.{FitOnPage}
use Rattle.macho_loader.proofs.word_rules.unfit_on_segment.Given as goal

abbrev pub invariant-loop-page : goal.invariant-loop-page
invariant-loop-page l = (k : ℕ) → k < l.page → FitOnPage l.bytes l.segment.number l.segment.place k
