-- What holds of the placement of a link's plan.
use Rattle.std.specs.Prelude.{◌≡◌, ◌+◌, ◌≤◌, map, length, All}
use Rattle.std.specs.List.{range_with_len}
use Rattle.macho_model.specs.declared.placed.Counts.{Counts}
use Rattle.macho_model.specs.Links.{Link, carried_of}
use Rattle.macho_model.specs.Resolution.{chosen_commons}
use Rattle.macho_model.specs.Segments.{base_of_link, segment_names_of, output_count}
use Rattle.macho_model.specs.WrittenSum.{written_sum_of}
use Rattle.macho_layout.specs.Names.{segment_count}
use Rattle.macho_layout.specs.Sums.{written_sum, output_count as planned_outputs, FitsLimits}
use Rattle.macho_model.specs.Placement.{Placed, IsWholeList, id_of}
use Rattle.macho_model.specs.Spans.{TextBegins}
use Rattle.macho_layout.specs.Plans.{Planning, IsPlanOf}
use Rattle.macho_layout.specs.Laid.{IsLaidOut}

-- the base is the link's
abbrev pub BaseIsLinks : Type 0
BaseIsLinks = (l : Link) (p : Planning) (counts : Counts) (q : Placed) → IsPlanOf l p → IsLaidOut p counts q → q.base ≡ base_of_link l

-- each thing of the link has a place, once, and nothing else has one
abbrev pub ListsAreWhole : Type 0
ListsAreWhole = (l : Link) (p : Planning) (counts : Counts) (q : Placed) → IsPlanOf l p → IsLaidOut p counts q → IsWholeList l q

-- sections are listed by file, then section, and commons by number
abbrev pub SectionsAreListed : Type 0
SectionsAreListed = (l : Link) (p : Planning) (counts : Counts) (q : Placed) → IsPlanOf l p → IsLaidOut p counts q
    → map id_of q.sections ≡ carried_of l

abbrev pub CommonsAreListed : Type 0
CommonsAreListed =
    (l : Link) (p : Planning) (counts : Counts) (q : Placed) → IsPlanOf l p → IsLaidOut p counts q
    → map (λ c. c.id) q.commons ≡ range_with_len 0 (length (chosen_commons l))

-- a link's plan has as many segments and output sections as the link, and the link's sum
abbrev pub SegmentsAreCounted : Type 0
SegmentsAreCounted = (l : Link) (p : Planning) → IsPlanOf l p → segment_count p ≡ length (segment_names_of l)

abbrev pub OutputsAreCounted : Type 0
OutputsAreCounted = (l : Link) (p : Planning) (counts : Counts) → IsPlanOf l p → planned_outputs p counts ≡ output_count l counts

abbrev pub SumIsLinks : Type 0
SumIsLinks = (l : Link) (p : Planning) (counts : Counts) → IsPlanOf l p → written_sum p counts ≡ written_sum_of l counts

-- each segment ends at most that sum behind the base
abbrev pub EndsWithinSum : Type 0
EndsWithinSum =
    (l : Link) (p : Planning) (counts : Counts) (q : Placed) → IsPlanOf l p → FitsLimits p counts → IsLaidOut p counts q
    → All (λ s. s.address + s.size ≤ q.base + written_sum_of l counts) q.segments

-- `__TEXT` begins at the base, and the first segment stands at the front of the file
abbrev pub TextIsFirst : Type 0
TextIsFirst = (l : Link) (p : Planning) (counts : Counts) (q : Placed) → IsPlanOf l p → IsLaidOut p counts q → TextBegins l q.segments
