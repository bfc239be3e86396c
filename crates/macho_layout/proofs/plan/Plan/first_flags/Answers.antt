-- The types of the output sections.
--
-- One number more adds its type at the end; at the last number the list has all types.
use Rattle.std.proofs.Common.{◌≡◌, ℕ, List, ◌∷◌, [], ◌++◌, map, sym, ap, ◌∙◌, arith}
use Rattle.std.specs.List.{range_with_len}
use Rattle.std.proofs.lemmas.List.FromFn.{map-range_with_len_more}
use Rattle.macho_layout.specs.declared.spec.OutputName.{OutputName}
use Rattle.macho_layout.specs.Names.{output_at, merged_count}
use Rattle.macho_layout.specs.Members.{first_flags}
use Rattle.macho_layout.proofs.plan.Plan.first_flags.Goals as goal

pub loop-number-preserved : goal.loop-number-preserved
loop-number-preserved c =
    c.in_ok-push.ensures.items
    ∙ ap (λ (k : ℕ). c.loop-number.flags.items ++ k ∷ []) (ap (λ (n : OutputName). n.kind) c.output_at.ensures)
    ∙ ap (λ (ks : List ℕ). ks ++ (output_at c.args.self.now c.loop-number.number).kind ∷ []) c.loop-number.invariant
    ∙ sym (map-range_with_len_more (λ (number : ℕ). (output_at c.args.self.now number).kind) 0 c.loop-number.number c.loop-number.number
    (omega arith))

pub returns : goal.returns
unfolding first_flags
returns c =
    let all : c.loop-number.number ≡ merged_count c.args.self.now = omega arith in
    c.loop-number.invariant ∙ ap (λ (n : ℕ). map (λ (number : ℕ). (output_at c.args.self.now number).kind) (range_with_len 0 n)) all
