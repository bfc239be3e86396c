-- Whether all were apart before or not, all are where the one more stands outside, too.
use Rattle.std.proofs.Common.{◌&&◌, ap, ◌∙◌, sym, refl}
use Rattle.macho_relocation_scan.proofs.Hulls.{order_more}
use Rattle.macho_relocation_scan.proofs.overlap.Order.followed_by.Goals as goal

pub returns-then-self : goal.returns-then-self
returns-then-self c b k i is known =
    order_more b k i c.args.self _ c.args.seen c.excludes-stands_outside.result is c.excludes-stands_outside.ensures refl c.with.ensures
    (ap (λ t. t && c.excludes-stands_outside.result) (sym c.if-self.true)) known

pub returns-else-self : goal.returns-else-self
returns-else-self c b k i is known =
    order_more b k i c.args.self _ c.args.seen c.excludes-stands_outside.result is c.excludes-stands_outside.ensures refl c.with.ensures
    (c.if-self.false ∙ ap (λ t. t && c.excludes-stands_outside.result) (sym c.if-self.false)) known
