use Rattle.std.proofs.Common.{◌≡◌, ℕ, ◌*◌, ◌+◌, ◌-◌, ◌<◌, ◌≤◌, ◌++◌, ◌∷◌, [], ◌⊎◌, inl, inr, List, length, get_or, ap, sym, ◌∙◌, arith, length-append}
use Rattle.std.proofs.lemmas.List.{get_or_append_left, get_or_push}
use Rattle.std.proofs.lemmas.Bool.{cases_lt}
use Rattle.macho_symbol_names.specs.Notes.{end_at}
use Rattle.macho_symbol_names.proofs.Strings.{later}
use Rattle.macho_symbol_names.proofs.ends.block_ends.Goals as goal
use Rattle.macho_symbol_names.proofs.ends.block_ends.Goals.{then-end-start, else-end-start}

-- one end more
ends_more : (strings ends : List ℕ) (n end : ℕ) → length ends ≡ n
    → ((k : ℕ) → k < length ends → get_or ends k 0 ≡ end_at strings (k * 256))
    → end ≡ end_at strings (n * 256) → (k : ℕ) → k < length (ends ++ end ∷ [])
    → get_or (ends ++ end ∷ []) k 0 ≡ end_at strings (k * 256)
ends_more strings ends n end long each is k h = by (cases_lt k (length ends))
  where
    by : (k < length ends) ⊎ (length ends ≤ k) → get_or (ends ++ end ∷ []) k 0 ≡ end_at strings (k * 256)
    by (inl before) = get_or_append_left ends (end ∷ []) 0 k before ∙ each k before
    by (inr last) =
        let here : k ≡ length ends = omega (arith, h, last, length-append ends (end ∷ [])) in
        get_or_push ends end 0 k (sym here) ∙ is ∙ ap (λ j. end_at strings (j * 256)) (sym (here ∙ long))

pub loop-block-init : goal.loop-block-init
loop-block-init c = record {
  long = ap length c.in_ok-ends.ensures.items;
  each = λ k h. absurd (omega (arith, h, ap length c.in_ok-ends.ensures.items));
  within = c.end_of-end.ensures.to;
  last = c.end_of-end.ensures.is;
}

pub overflow_cast-end : goal.overflow_cast-end
overflow_cast-end c = elim c.if-end-start.branch [
  | then-end-start w ↦ omega (arith, w.end-is, w.end_of-end-then-end-start.ensures.to, c.requires)
  | else-end-start w ↦ omega (arith, w.end-is, c.loop-block.invariant.within, c.requires)
]

pub loop-block-preserved : goal.loop-block-preserved
loop-block-preserved c =
    let start : c.loop-block.block * 256 ≤ length c.args.strings.now = omega (arith, c.loop-block-test.true) in
    let is : c.if-end-start.end ≡ end_at c.args.strings.now (c.loop-block.block * 256) =
    elim c.if-end-start.branch [
      | then-end-start w ↦ w.end-is ∙ w.end_of-end-then-end-start.ensures.is
      | else-end-start w ↦ w.end-is ∙ c.loop-block.invariant.last
          ∙ sym (later c.args.strings.now ((c.loop-block.block - 1) * 256) (c.loop-block.block * 256) (omega arith)
          (omega (arith, w.if-end-start.false, c.loop-block.invariant.last)) start)
    ] in
    let here : c.loop-block.block ≡ c.loop-block.block + 1 - 1 = omega arith in
    record {
      long = ap length c.in_ok-push.ensures.items ∙ length-append c.loop-block.ends.items _ ∙ ap (λ n. n + 1) c.loop-block.invariant.long;
      each = rw c.in_ok-push.ensures.items (ends_more c.args.strings.now c.loop-block.ends.items c.loop-block.block _
          c.loop-block.invariant.long c.loop-block.invariant.each is);
      last = is ∙ ap (λ j. end_at c.args.strings.now (j * 256)) here;
      within = elim c.if-end-start.branch [
        | then-end-start w ↦ omega (arith, w.end-is, w.end_of-end-then-end-start.ensures.to)
        | else-end-start w ↦ omega (arith, w.end-is, c.loop-block.invariant.within)
      ];
    }
