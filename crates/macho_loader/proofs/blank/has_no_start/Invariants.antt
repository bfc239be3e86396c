-- The pages so far have no start.
use Rattle.std.proofs.Common.{ℕ, ◌≡◌, ◌<◌, slice_index}
use Rattle.macho_model.specs.Images.{NO_START}
use Rattle.macho_image_walks.specs.Readings.{starts_of}
use Rattle.macho_loader.proofs.blank.has_no_start.Given as goal

abbrev pub invariant-loop-page : goal.invariant-loop-page
invariant-loop-page l = (k : ℕ) → k < l.page → slice_index (starts_of l.bytes l.fn.segment.number) k ≡ NO_START
