-- What a plan counts is the link's.
use Rattle.macho_layout.proofs.SumLaw.{segments_same}
use Rattle.macho_layout.proofs.CostLaw.{outputs_same, written_same}
use Rattle.macho_layout.proofs.laws.what_a_plan_counts_is_the_links.Goals as goal

pub returns : goal.returns
returns c = record { segments = segments_same; outputs = outputs_same; sum = written_same }
