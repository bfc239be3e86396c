-- The size that is told by a common's number is its own.
use Rattle.std.proofs.Common.{◌<◌, subst, sym, ℕ}
use Rattle.std.proofs.lemmas.Option.{IfSome_then}
use Rattle.macho_image_rules.proofs.Unfilled.{size_told}
use Rattle.macho_image_rules.proofs.commons.nonzero_of.Goals as goal

pub returns-clause-found : goal.returns-clause-found
returns-clause-found c = λ l same none i low.
    c.first_nonzero.ensures.found none i
    (subst (λ (n : ℕ). i < n) (sym (size_told l c.args.sizes.now c.args.common.id _ same c.requires.stands.number.0)) low)

pub returns-clause-why : goal.returns-clause-why
returns-clause-why c = λ l same.
    IfSome_then c.first_nonzero.result c.first_nonzero.ensures.why
    (λ i wrong. record {
      inside = subst (λ (n : ℕ). i < n) (size_told l c.args.sizes.now c.args.common.id _ same c.requires.stands.number.0) wrong.0;
      other = wrong.1;
    })
