-- Each pass writes its part, and all of them are the image.
use Rattle.std.proofs.Common.{sym, subst, ◌∙◌, List}
use Rattle.std.proofs.lemmas.Result.{err_from_is_err_and}
use Rattle.macho_fixups.specs.declared.run.Fixup.{Fixup}
use Rattle.macho_linkedit.specs.Runs.{IsRunOf}
use Rattle.macho_promise_laws.specs.Written.{AreContents}
use Rattle.macho_linking.specs.steps.Planned.{placement_of}
use Rattle.macho_linking.proofs.Parts.{parts_written, trie_small}
use Rattle.macho_linking.proofs.write.write_parts.Goals as goal

pub returns-in_err-run-clause-why : goal.returns-in_err-run-clause-why
returns-in_err-run-clause-why g c l h =
    let e = err_from_is_err_and c.from_residual.result c.from_residual.ensures.1 in
    rw (e.1, e.2)
    (c.in_err-run.ensures.why l h)

pub returns-in_err-write_offsets-clause-why : goal.returns-in_err-write_offsets-clause-why
returns-in_err-write_offsets-clause-why g c l h =
    let e = err_from_is_err_and c.from_residual-in_err-write_offsets.result c.from_residual-in_err-write_offsets.ensures.1 in
    rw (e.1, e.2)
    (c.in_err-write_offsets.ensures.why l h)

pub returns-in_err-write_unwind-clause-why : goal.returns-in_err-write_unwind-clause-why
returns-in_err-write_unwind-clause-why g c l h =
    let e = err_from_is_err_and c.from_residual-in_err-write_unwind.result c.from_residual-in_err-write_unwind.ensures.1 in
    rw (e.1, e.2)
    (c.in_err-write_unwind.ensures.why l h)

pub write_imports-requires-clause-link : goal.write_imports-requires-clause-link
write_imports-requires-clause-link g c =
    let l = c.requires.link.0 in (
      l,
      c.requires.link.1.planned,
      subst (IsRunOf l (placement_of c.args.b.now)) (sym c.deref.ensures.value)
          (c.in_ok-run.ensures.done l c.requires.link.1).chained.run_is,
    )

pub write_head-requires-clause-trie : goal.write_head-requires-clause-trie
write_head-requires-clause-trie g c =
    trie_small c.requires.link.0 c.args.b.now c.in_ok-trie.trie _ _ c.requires.link.1.planned
    (c.in_ok-trie.ensures.done c.requires.link.0 c.requires.link.1)

pub returns-clause-done : goal.returns-clause-done
returns-clause-done g c l h =
    let p = placement_of c.args.b.now in
    let contents = subst (λ (run : List Fixup). AreContents l p run p.linkedit.signature.end c.try_contents.new.out)
    (sym c.deref.ensures.value)
    (c.in_ok-run.ensures.done l h) in
    parts_written c.written_files_are_linked.ensures l c.args.b.now c.args.uuid c.sign.new.out c.deref.result.now c.len.result h.planned
    (c.in_ok-run.ensures.good l h)
    (record {
      contents = c.try_contents.new.out;
      filled = contents;
      offset_bytes = c.write_offsets.new.out;
      offsets = c.in_ok-write_offsets.ensures.done l h;
      unwind_bytes = c.write_unwind.new.out;
      unwind = c.in_ok-write_unwind.ensures.done l h;
      fixup_bytes = c.write_imports.new.out;
      fixups = c.in_ok-write_imports.ensures.done l h.planned contents.chained.run_is;
      trie_size = c.in_ok-trie.trie;
      trie_bytes = c.write_trie.new.out;
      trie = c.in_ok-trie.ensures.done l h;
      symbol_bytes = c.write_symbols.new.out;
      symbols = c.in_ok-write_symbols.ensures.done l h;
      head_bytes = c.write_head.new.out;
      head = c.in_ok-write_head.ensures.done l h;
      signature = c.sign.ensures l h.planned;
    })
    (c.len.ensures ∙ sym c.deref.ensures.len)
