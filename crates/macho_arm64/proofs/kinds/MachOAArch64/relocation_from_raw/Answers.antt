use Rattle.std.proofs.Common.{◌≡◌, ap, ◌∙◌, List}
use Rattle.macho_arm64.specs.declared.kinds.KindRow.{KindRow}
use Rattle.macho_arm64.specs.Kinds.{kind_among, info_of}
use Rattle.macho_arm64.proofs.KindTable.{one_table, found-ok_or, none-ok_or}
use Rattle.macho_arm64.proofs.kinds.MachOAArch64.relocation_from_raw.Goals as goal

pub returns-clause-found : goal.returns-clause-found
returns-clause-found c =
    let same : c.kind_in.result ≡ info_of c.args.rel =
    c.kind_in.ensures ∙ ap (λ (t : List KindRow). kind_among t c.args.rel.r_type c.args.rel.r_length c.args.rel.r_pcrel) one_table in
    rw (← same, c.ok_or.ensures.value) (found-ok_or c.kind_in.result _)

pub returns-clause-why : goal.returns-clause-why
returns-clause-why c =
    let same : c.kind_in.result ≡ info_of c.args.rel =
    c.kind_in.ensures ∙ ap (λ (t : List KindRow). kind_among t c.args.rel.r_type c.args.rel.r_length c.args.rel.r_pcrel) one_table in
    rw (← same, c.ok_or.ensures.value) (none-ok_or c.kind_in.result _)
