-- The next entry is listed.
use Rattle.std.proofs.Common.{map, sym, ap, ◌∙◌, arith}
use Rattle.std.proofs.lemmas.List.FromFn.{map-range_with_len_more}
use Rattle.macho_image_walks.specs.Readings.{table_there}
use Rattle.macho_loader.specs.Lists.{import_at, import_of}
use Rattle.macho_loader.proofs.CommandLists.{names_more}
use Rattle.macho_loader.proofs.imports.list_imports.Goals as goal

pub loop-number-preserved : goal.loop-number-preserved
loop-number-preserved c =
    let t = table_there c.args.bytes.now c.args.table in
    let n = c.loop-number.number in
    ap (λ xs. map import_of xs) c.in_ok-push.ensures.items
    ∙ names_more import_of c.loop-number.imports.items _ _ c.import_in-import.result (import_at c.args.bytes.now t n)
    c.import_in-import.ensures c.loop-number.invariant (sym (map-range_with_len_more (import_at c.args.bytes.now t) 0 n n (omega arith)))
