use Rattle.std.proofs.Common.{arith}
use Rattle.macho_commands.proofs.Texts.{headers_begin, headers_go_on, headers_end}
use Rattle.macho_commands.proofs.segment.write_headers.Goals as goal

pub loop-header-init : goal.loop-header-init
loop-header-init c = headers_begin c.args.at c.args.headers.now c.args.out.now (omega arith)

pub loop-header-preserved : goal.loop-header-preserved
loop-header-preserved c =
    headers_go_on c.args.at c.loop-header.place c.loop-header.header-index c.args.headers.now _ c.args.out.now c.loop-header.out
    c.write.new.out
    c.loop-header-test.true c.requires c.loop-header.invariant c.write.ensures.back c.write.ensures.written

pub returns-clause-written : goal.returns-clause-written
returns-clause-written c =
    (headers_end c.args.at c.loop-header.place c.loop-header.header-index c.args.headers.now c.args.out.now c.loop-header.out
    c.loop-header-test.false
    c.loop-header.invariant).0

pub returns-clause-long : goal.returns-clause-long
returns-clause-long c =
    (headers_end c.args.at c.loop-header.place c.loop-header.header-index c.args.headers.now c.args.out.now c.loop-header.out
    c.loop-header-test.false
    c.loop-header.invariant).1

pub returns-clause-back : goal.returns-clause-back
returns-clause-back c =
    (headers_end c.args.at c.loop-header.place c.loop-header.header-index c.args.headers.now c.args.out.now c.loop-header.out
    c.loop-header-test.false
    c.loop-header.invariant).2
