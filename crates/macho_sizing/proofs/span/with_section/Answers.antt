-- A section adds what it costs where it holds text, and nothing else.
use Rattle.std.proofs.Common.{ℕ, ◌+◌, sym, ap, ◌∙◌, arith}
use Rattle.macho_layout.specs.Sums.{fitting}
use Rattle.macho_layout.proofs.Costs.{fitting-is}
use Rattle.macho_sizing.proofs.Spans.{span_held, span_other}
use Rattle.macho_sizing.proofs.span.with_section.Goals as goal

pub returns-then-holds_text : goal.returns-then-holds_text
returns-then-holds_text c =
    c.plus.ensures ∙ ap (λ (n : ℕ). fitting (c.args.span + n)) (sym (span_held c.args.header.now (sym c.holds_text.ensures
    ∙ c.if-holds_text.true)))

pub returns-else-holds_text : goal.returns-else-holds_text
returns-else-holds_text c =
    fitting-is _ _ (omega (
      arith,
      span_other c.args.header.now (sym c.holds_text.ensures
          ∙ c.if-holds_text.false),
    )) (omega (arith, c.ranges.span.fits))
