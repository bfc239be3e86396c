use Rattle.std.proofs.Common.{◌≡◌, append-nil, arith, ◌∙◌, length, refl}
use Rattle.std.proofs.Math.Seq.{take-length}
use Rattle.macho_symbol_names.proofs.Noting.{name_more, texts_more}
use Rattle.macho_symbol_names.proofs.files.offer_names.Goals as goal

pub loop-name-init : goal.loop-name-init
loop-name-init c rows noted = rw (append-nil rows) noted

pub loop-name-preserved : goal.loop-name-preserved
loop-name-preserved c rows noted =
    let first : c.len-at.result ≡ length c.loop-name.text.items = c.len-at.ensures ∙ omega arith in
    let next = name_more _ _ _ _ c.offered.result _ _ (c.loop-name.invariant rows noted) first refl c.offered.ensures.name
    c.offered.ensures.sort c.offered.ensures.row in
    rw (
      c.in_ok-push.ensures.items,
      c.in_ok-extend_from_slice.ensures.items,
      texts_more rows _ _ _ _ c.loop-name-test.true
          c.as_bytes-bytes.ensures.value,
    ) next

pub returns : goal.returns
returns c rows noted =
    let e : c.loop-name.name-index ≡ length c.args.names.now = omega arith in
    let last = rw (e, take-length c.args.names.now) at (c.loop-name.invariant rows noted) in last
