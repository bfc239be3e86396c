-- The walk stands at a word of the page, and all words below it are listed. It lists this one, too. Behind it no word stands below the next
-- one; and behind the last one none stands in the page.
use Rattle.std.proofs.Common.{arith}
use Rattle.macho_image_walks.specs.steps.WordTests.{address_in}
use Rattle.macho_loader.proofs.ChainOrder.{stands_inside}
use Rattle.macho_loader.proofs.ListingWalks.{word_listed, last_listed, next_listed, first_listing}
use Rattle.macho_loader.proofs.chain_list.list_from.Goals as goal

pub words-init : goal.words-init
words-init c =
    let pages = c.ranges.page.fits in
    first_listing c.args.bytes.now c.args.walk c.args.page c.args.from c.args.lines.now.items c.requires.accepted c.requires.walk
    (omega (arith, pages)) c.requires.on c.requires.so_far

pub overflow_add-walk : goal.overflow_add-walk
overflow_add-walk c =
    let s = c.args.walk.segment in
    let inside = stands_inside c.args.bytes.now s.number s.place c.args.page (address_in c.args.bytes.now s.place c.words.offset)
    c.requires.accepted c.requires.walk.chained.nth c.words.invariant.on in
    let at = c.requires.walk.says.address in
    let to = inside.inside in
    let below = inside.below in
    omega (arith, at, to, below)

pub returns-then-stride-eq0 : goal.returns-then-stride-eq0
returns-then-stride-eq0 c =
    let b = c.args.bytes.now in
    last_listed b c.args.walk c.args.page c.words.offset c.u64_from-word.result c.stride_of-stride.result c.push.new.self.items
    c.requires.accepted c.requires.walk c.words.invariant.on c.u64_from-word.ensures c.stride_of-stride.ensures.is c.if-stride-eq0.true
    (word_listed b c.args.walk c.args.page c.words.offset c.u64_from-word.result c.kind_of.result c.words.lines.items c.push.new.self.items
    c.requires.accepted c.requires.walk c.words.invariant c.u64_from-word.ensures c.kind_of.ensures c.in_ok-push.ensures.items)

pub words-preserved : goal.words-preserved
words-preserved c =
    let b = c.args.bytes.now in
    let pages = c.ranges.page.fits in
    let some = c.if-stride-eq0.false in
    next_listed b c.args.walk c.args.page c.words.offset c.u64_from-word.result c.stride_of-stride.result c.push.new.self.items
    c.requires.accepted c.requires.walk (omega (arith, pages)) c.words.invariant.on c.u64_from-word.ensures c.stride_of-stride.ensures.is
    (grind (arith, some))
    (word_listed b c.args.walk c.args.page c.words.offset c.u64_from-word.result c.kind_of.result c.words.lines.items c.push.new.self.items
    c.requires.accepted c.requires.walk c.words.invariant c.u64_from-word.ensures c.kind_of.ensures c.in_ok-push.ensures.items)
