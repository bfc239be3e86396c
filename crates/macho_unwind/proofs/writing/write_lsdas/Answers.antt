-- The LSDA entries of a plan are written one behind the other.
--
-- Before the first one nothing is put, which changes nothing. An entry has 8 bytes, so after k of them the next place is at
-- + 8k, just behind what is put, and the next entry goes on with it. The room for all was asked for.
use Rattle.std.proofs.Common.{◌+◌, get_or, arith}
use Rattle.macho_bytes.proofs.Sequences.{texts_begin, texts_go_on}
use Rattle.macho_unwind_pages.specs.declared.plans.Lsda.{Lsda}
use Rattle.macho_unwind.specs.steps.Tables.{lsda_text}
use Rattle.macho_unwind.proofs.Lengths.{length-lsda_text}
use Rattle.macho_unwind.proofs.writing.write_lsdas.Goals as goal
use Rattle.macho_bytes.proofs.Comparing.{read_alike}

pub loop-lsda-init : goal.loop-lsda-init
loop-lsda-init c = (omega arith, record { written = texts_begin lsda_text c.args.at c.args.out.now (omega arith); ends = omega arith })

pub loop-lsda-preserved : goal.loop-lsda-preserved
loop-lsda-preserved c =
    let blank : Lsda = record { function = 0; lsda = 0 } in
    let lsda : Lsda = get_or c.args.lsdas.now c.loop-lsda.lsda-index blank in (
      omega arith,
      texts_go_on lsda_text c.args.at c.loop-lsda.place (c.loop-lsda.place + 8) c.loop-lsda.lsda-index c.args.lsdas.now lsda
          c.args.out.now c.loop-lsda.out c.write.new.out c.loop-lsda-test.true
          (read_alike c.args.lsdas.now c.loop-lsda.lsda-index blank lsda c.loop-lsda-test.true) c.loop-lsda.invariant.1
          (omega (arith, length-lsda_text lsda)) (omega arith) c.write.ensures.written,
    )
