use Rattle.std.proofs.Common.{arith, ◌+◌, ◌*◌, ◌-◌}
use Rattle.macho_signature.proofs.Pages.{pages_begin, pages_go_on}
use Rattle.macho_signature.proofs.digests.sign_pages.Goals as goal

pub loop-page-init : goal.loop-page-init
loop-page-init c = pages_begin c.args.signed.now (c.args.hashes_offset + 32 * c.args.first) c.args.first _ c.args.signature.now
    (omega arith) (omega arith)

pub loop-page-preserved : goal.loop-page-preserved
loop-page-preserved c =
    pages_go_on c.args.signed.now (c.args.hashes_offset + 32 * c.args.first) (c.args.hashes_offset + 32 * c.loop-page.page) c.args.first
    c.loop-page.page
    (c.loop-page.page - c.args.first) _ c.args.signature.now c.loop-page.signature c.sign_page.new.signature (omega arith) (omega arith)
    (omega arith)
    (omega arith) c.loop-page.invariant c.sign_page.ensures
