-- A linked member comes last; one that isn't linked is left out.
use Rattle.std.proofs.Common.{◌+◌, ◌≡◌, false, true, sym, subst, ap, ◌∙◌}
use Rattle.std.proofs.lemmas.List.{map-append}
use Rattle.macho_members.specs.Views.{place_of, places_of}
use Rattle.macho_members.specs.steps.Taken.{AreListed}
use Rattle.macho_members.proofs.Listing.{add_listed, skip_listed}
use Rattle.macho_members.proofs.needed.list_member.Goals as goal

not_both : false ≡ true → ⊥
not_both e = cc

pub returns-in_ok-push : goal.returns-in_ok-push
returns-in_ok-push c = λ inputs was linked.
    let place = c.args.place in
    let is = ap places_of c.in_ok-push.ensures.items ∙ map-append place_of c.args.places.now.items _ in
    subst (AreListed inputs place.archive (place.member + 1)) (sym is)
    (add_listed inputs place.archive place.member (places_of c.args.places.now.items)
    (linked.1 (c.is_linked.ensures.0 c.if-is_linked.true)) was)

pub returns-else-is_linked : goal.returns-else-is_linked
returns-else-is_linked c = λ inputs was linked.
    let place = c.args.place in
    skip_listed inputs place.archive place.member (places_of c.args.places.now.items)
    (λ needed. absurd (not_both (sym c.if-is_linked.false ∙ c.is_linked.ensures.1 (linked.0 needed)))) was
