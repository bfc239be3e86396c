-- A page takes a function.
--
-- The code gets a number: below 224 it is among the codes of all pages, and from there on it is that of one of the page's
-- own, at most 32 of them. So the number is at most 255. The start is less than 2^24 behind the page's first one. So number
-- * 2^24 and that distance make a word of 32 bits, which has the number from bit 24 on and the distance below.
use Rattle.std.proofs.Common.{ℕ, ◌+◌, ◌-◌, ◌*◌, ap, refl, rules}
use Rattle.macho_unwind_pages.specs.Plans.{page_list}
use Rattle.macho_unwind_pages.proofs.Naming.{small_number, adds}
use Rattle.macho_unwind_pages.proofs.plans.Page.add.Goals as goal

pub overflow_cast-number : goal.overflow_cast-number
overflow_cast-number c =
    let small = small_number c.args.ranks.now (page_list c.args.self.now) (page_list c.name.new.self) c.args.row
    c.in_ok-number.number c.requires.locals c.requires.open c.in_ok-number.ensures in
    search rules

pub overflow_mul-number : goal.overflow_mul-number
overflow_mul-number c =
    let small = small_number c.args.ranks.now (page_list c.args.self.now) (page_list c.name.new.self) c.args.row
    c.in_ok-number.number c.requires.locals c.requires.open c.in_ok-number.ensures in
    search rules

pub overflow_add-number : goal.overflow_add-number
overflow_add-number c =
    let small = small_number c.args.ranks.now (page_list c.args.self.now) (page_list c.name.new.self) c.args.row
    c.in_ok-number.number c.requires.locals c.requires.open c.in_ok-number.ensures in
    let first = c.in_ok-number.ensures.first in
    let near = c.requires.open.near in
    search rules

pub returns : goal.returns
returns c =
    let small = small_number c.args.ranks.now (page_list c.args.self.now) (page_list c.name.new.self) c.args.row
    c.in_ok-number.number c.requires.locals c.requires.open c.in_ok-number.ensures in
    adds _ (page_list c.args.self.now) (page_list c.name.new.self) _ c.args.row c.in_ok-number.number _
    c.requires.open c.in_ok-number.ensures small
    (ap (λ (first : ℕ). c.in_ok-number.number * 16777216 + (c.args.row.start - first)) c.in_ok-number.ensures.first) refl
    c.in_ok-push.ensures.items refl (search rules) (search rules)
