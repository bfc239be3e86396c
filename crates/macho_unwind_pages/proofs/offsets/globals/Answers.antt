-- The codes that every page may name are the first 224 of the ranks, or all where they are fewer.
--
-- The table of ranks has at each place a code and its count; the codes are its keys. So after k steps the list is the first
-- k keys, and the next step adds key k, which has 32 bits as all keys do. The steps are as many as there are keys, and 224
-- at most, so the list is the first 224 keys in the end.
use Rattle.std.proofs.Common.{◌^◌, ◌<◌, ◌++◌, ◌∷◌, [], ℕ, take, sym, subst, ap, ◌∙◌, arith, rules}
use Rattle.std.proofs.lemmas.List.{length-map, take_more}
use Rattle.indexmap.specs.IndexMap.{keys}
use Rattle.macho_unwind_pages.proofs.Told.{code_at, first_ones}
use Rattle.macho_unwind_pages.proofs.offsets.globals.Goals as goal

pub overflow_cast-code : goal.overflow_cast-code
overflow_cast-code c =
    let at = code_at c.args.ranks.now.entries c.loop-index.index c.in-Some.code.now c.in-Some.field-0-1.now c.in-Some.ensures.entry in
    let small : c.in-Some.code.now < 2 ^ 32 = subst (λ (n : ℕ). n < 2 ^ 32) (sym at.1) (c.requires c.loop-index.index 0 at.0) in
    search rules

pub loop-index-preserved : goal.loop-index-preserved
loop-index-preserved c =
    let at = code_at c.args.ranks.now.entries c.loop-index.index c.in-Some.code.now c.in-Some.field-0-1.now c.in-Some.ensures.entry in
    c.in_ok-push-in-Some.ensures.items ∙ ap (λ l. l ++ c.in-Some.code.now ∷ []) c.loop-index.invariant
    ∙ ap (λ code. take c.loop-index.index (keys c.args.ranks.now) ++ code ∷ []) at.1
    ∙ sym (take_more (keys c.args.ranks.now) c.loop-index.index 0 at.0)

pub returns : goal.returns
returns c =
    first_ones (keys c.args.ranks.now) c.loop-index.globals.items c.loop-index.index 224
    (omega (
      arith,
      c.min-index-end.ensures,
      c.loop-index.auto.index-end,
      c.loop-index-test.false,
      c.len.ensures.len,
      length-map c.args.ranks.now.entries (λ (e : ℕ × ℕ). e.0),
    )) c.loop-index.invariant
