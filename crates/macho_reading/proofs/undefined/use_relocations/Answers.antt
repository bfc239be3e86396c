-- Each relocation that is at such a place is a use of the walk, and its symbol is kept.
use Rattle.std.proofs.Common.{◌<◌, nat_lt, arith, refl, sym, ◌∙◌}
use Rattle.std.proofs.lemmas.Result.{err_from_is_err_and}
use Rattle.macho_model.specs.Links.{section_id}
use Rattle.macho_model.specs.Objects.{section_at}
use Rattle.macho_relocation_scan.proofs.Walking.{some_section}
use Rattle.macho_reading.proofs.Placed.{pointer_got, walk_got, relocation_got, section_kept}
use Rattle.macho_reading.proofs.undefined.use_relocations.Goals as goal

pub loop-index-init : goal.loop-index-init
loop-index-init c inputs keeps = keeps

pub use_symbol-requires : goal.use_symbol-requires
use_symbol-requires c =
    let list = c.args.list.now in
    let below : c.loop-index.index < (section_at list.bytes list.section).nreloc = omega arith in
    let got = some_section (nat_lt c.loop-index.index (section_at list.bytes list.section).nreloc) _ _ c.in-Some.ensures.done in
    let of = section_kept c.args.needs.now.resolved.files c.loop-index.needs.resolved.files c.args.file list c.args.kind c.args.size
    c.requires.section c.loop-index.invariant in
    pointer_got c.loop-index.needs.resolved c.args.file list c.args.kind c.args.size c.loop-index.index c.in-Some.relocation of below got
    (sym c.is_use.ensures ∙ c.if-not-is_use.false)

pub returns-in_err-use_symbol-clause-why : goal.returns-in_err-use_symbol-clause-why
returns-in_err-use_symbol-clause-why c l counts has keeps =
    let list = c.args.list.now in
    let below : c.loop-index.index < (section_at list.bytes list.section).nreloc = omega arith in
    let got = some_section (nat_lt c.loop-index.index (section_at list.bytes list.section).nreloc) _ _ c.in-Some.ensures.done in
    let e = err_from_is_err_and c.from_residual.result c.from_residual.ensures.1 in
    rw (e.1, e.2)
    (c.in_err-use_symbol.ensures.why l counts (section_id c.args.file list.section) c.loop-index.index
    (c.loop-index.invariant l.inputs keeps)
    (walk_got l c.args.needs.now.resolved.files c.args.file list c.args.kind c.args.size c.loop-index.index c.in-Some.relocation
    c.requires.section has below got (sym c.is_use.ensures ∙ c.if-not-is_use.false))
    (relocation_got l c.args.file list c.loop-index.index c.in-Some.relocation has got) refl)
