-- The first difference between the words on the chains and those that are needed.
--
-- Where a needed word isn't the last one that was met, it is new: then it, or the next line, stands alone, or both are the same. What is
-- left at the end is a line that nothing needs.
use Rattle.std.proofs.Common.{◌+◌, sym, subst, inl, inr, arith}
use Rattle.macho_loader.specs.declared.chain_list.FixupLine.{FixupLine}
use Rattle.macho_loader.specs.declared.chain_list.LineKind.TheVariants.{Rebase}
use Rattle.macho_model.specs.declared.targets.Site.TheVariants as site
use Rattle.macho_model.specs.declared.targets.Target.TheVariants as target
use Rattle.macho_image_rules.specs.declared.chain.Needed.{Needed}
use Rattle.macho_image_rules.specs.steps.Merged.{IsMerged}
use Rattle.macho_image_rules.proofs.Chained.{listed, wanted, word_alone, line_alone, lower_alone, line_left, walked_on, walked_again, all_met}
use Rattle.macho_image_rules.proofs.chain.first_difference.Goals.{then-met-eq0-via-then-met-eq0, then-met-eq0-via-else-met-eq0+then-lines-met, then-met-eq0+else-met-lines+else-address-word, else-met-eq0+else-lines-met}
use Rattle.macho_image_rules.proofs.chain.first_difference.Goals as goal

-- a line and a needed word that stand for those outside of lists
abbrev no_line : FixupLine
no_line = record { address = 0; kind = Rebase 0 }

abbrev no_word : Needed
no_word = record { address = 0; site = site.Field 0 0 0; target = target.Section 0 0 0; addend = 0 }

pub returns-then-met-lines : goal.returns-then-met-lines
returns-then-met-lines c = λ b fixups.
    word_alone b c.args.lines.now c.args.needed.now c.loop-word.met c.loop-word.word-index no_line no_word
    (record { rising = c.requires.rising; sorted = c.requires.sorted; merged = c.loop-word.invariant; within = omega arith })
    c.loop-word-test.true
    (elim c.then-met-eq0.branch [
      | then-met-eq0-via-then-met-eq0 w ↦ inl w.if-met-eq0.true
      | then-met-eq0-via-else-met-eq0+then-lines-met w ↦ inr w.if-lines-met.true
    ]) (λ low. absurd (omega arith)) fixups

pub returns-then-address-word : goal.returns-then-address-word
returns-then-address-word c = λ b fixups.
    lower_alone b c.args.lines.now c.args.needed.now c.loop-word.met c.loop-word.word-index c.min.result no_line no_word
    (record { rising = c.requires.rising; sorted = c.requires.sorted; merged = c.loop-word.invariant; within = omega arith })
    (line_left c.args.lines.now c.loop-word.met c.loop-word.invariant.within c.if-met-lines.false) c.loop-word-test.true
    (elim c.then-met-eq0.branch [
      | then-met-eq0-via-then-met-eq0 w ↦ inl w.if-met-eq0.true
      | then-met-eq0-via-else-met-eq0+then-lines-met w ↦ inr w.if-lines-met.true
    ]) c.if-address-word.true c.min.ensures fixups

pub loop-word-preserved : goal.loop-word-preserved
loop-word-preserved c =
    elim c.if-met-eq0.branch [
      | then-met-eq0+else-met-lines+else-address-word w ↦
          subst (λ i. IsMerged (listed c.args.lines.now) (wanted c.args.needed.now) i (c.loop-word.word-index + 1)) (sym w.met-is)
          (walked_on c.args.lines.now c.args.needed.now c.loop-word.met c.loop-word.word-index no_line no_word c.loop-word.invariant
          (line_left c.args.lines.now c.loop-word.met c.loop-word.invariant.within w.if-met-lines.false) c.loop-word-test.true
          w.if-address-word.false)
      | else-met-eq0+else-lines-met w ↦
          subst (λ i. IsMerged (listed c.args.lines.now) (wanted c.args.needed.now) i (c.loop-word.word-index + 1)) (sym w.met-is)
          (walked_again c.args.lines.now c.args.needed.now c.loop-word.met c.loop-word.word-index no_line no_word c.loop-word.invariant
          c.loop-word-test.true w.if-met-eq0.false w.if-lines-met.false)
    ]

pub returns-then-met-lines-2 : goal.returns-then-met-lines-2
returns-then-met-lines-2 c = λ b fixups a.
    all_met b c.args.lines.now c.args.needed.now c.loop-word.met c.loop-word.word-index
    (record { rising = c.requires.rising; sorted = c.requires.sorted; merged = c.loop-word.invariant; within = omega arith })
    (omega arith) (omega arith) fixups a

pub returns : goal.returns
returns c = λ b fixups.
    line_alone b c.args.lines.now c.args.needed.now c.loop-word.met c.loop-word.word-index no_line no_word
    (record { rising = c.requires.rising; sorted = c.requires.sorted; merged = c.loop-word.invariant; within = omega arith })
    (line_left c.args.lines.now c.loop-word.met c.loop-word.invariant.within c.if-met-lines-2.false) (λ low. absurd (omega arith)) fixups
