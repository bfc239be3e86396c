use Rattle.std.proofs.Common.{◌≡◌, ◌≤◌, length, take}
use Rattle.std.specs.Prelude.{filter}
use Rattle.macho_head.specs.steps.Headers.{is_header_of}
use Rattle.macho_head.proofs.segments.count_headers.Given as goal

abbrev pub invariant-loop-header : goal.invariant-loop-header
invariant-loop-header l =
    (l.count ≡ length (filter (is_header_of l.name) (take l.header-index l.headers))) × (l.count ≤ l.header-index)
