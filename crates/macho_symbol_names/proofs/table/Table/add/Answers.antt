use Rattle.std.proofs.Common.{◌≡◌, ◌∙◌, ◌-◌, ◌/◌, ◌^◌, bit_and, ap, length, arith}
use Rattle.std.proofs.lemmas.List.{get_or_default}
use Rattle.macho_symbol_names.specs.Tables.{heads_of}
use Rattle.macho_symbol_names.proofs.ChainsMore.{table_more}
use Rattle.macho_symbol_names.proofs.table.Table.add.Goals as goal

pub returns-clause-table : goal.returns-clause-table
returns-clause-table c =
    let long : c.len-number.result ≡ length c.args.self.now.entries.items = c.len-number.ensures ∙ omega arith in
    rw (long, c.in_ok-push.ensures.items)
    (table_more c.args.files.now (heads_of c.args.self.now) _ _ (record { next = _; row = _; file = _; tag = _ }) c.requires.table
    (c.bucket-bucket.ensures.bucket ∙ ap (λ h. bit_and h (length c.args.self.now.heads.items - 1)) c.requires.hash)
    c.bucket-bucket.ensures.within (c.index-next.ensures ∙ get_or_default _ _ _ _ c.bucket-bucket.ensures.within)
    (c.requires.file, c.requires.row) (c.tag.ensures ∙ ap (λ h. h / 2 ^ 32) c.requires.hash) c.requires.new)
