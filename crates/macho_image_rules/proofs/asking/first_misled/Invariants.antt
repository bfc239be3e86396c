-- The words so far lead as they are to.
use Rattle.std.proofs.Common.{ℕ, List, map}
use Rattle.macho_model.specs.Links.{Link}
use Rattle.macho_model.specs.Placement.{Placed}
use Rattle.macho_model.specs.Loader.{IsAccepted}
use Rattle.macho_loader.specs.Lists.{AreFixups, import_of}
use Rattle.macho_image_rules.specs.Needing.{AreNeededBy}
use Rattle.macho_image_rules.specs.Asking.{IsCompared}
use Rattle.macho_image_rules.proofs.Compared.{FirstLead}
use Rattle.macho_image_rules.proofs.asking.first_misled.Given as goal

abbrev pub invariant-loop-index : goal.invariant-loop-index
invariant-loop-index g l =
    (link : Link) (b : List ℕ) (p : Placed) → IsAccepted b → AreFixups b l.lines
    → IsCompared link b p (g.P.Places.look l.places) (map import_of l.imports) (map (λ n. n.now) l.libraries) l.names
    → AreNeededBy link p l.needed → FirstLead link b p l.needed l.index
