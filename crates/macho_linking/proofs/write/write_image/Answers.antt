-- The look-ups tell of the link, so the parts are written, and the buffer is what they were written into.
use Rattle.std.proofs.Common.{subst, sym, refl, arith}
use Rattle.std.proofs.lemmas.Result.{err_from_is_err_and}
use Rattle.macho_linking.specs.steps.Planned.{placement_of, counts_of}
use Rattle.macho_linking.specs.steps.Imaged.{IsImaged}
use Rattle.macho_linking.proofs.Ready.{planned_of_link}
use Rattle.macho_linking.proofs.Answering.{whole_buffer}
use Rattle.macho_linking.proofs.write.write_image.Goals as goal

pub returns-in_err-places-clause-why : goal.returns-in_err-places-clause-why
returns-in_err-places-clause-why c l h =
    let e = err_from_is_err_and c.from_residual.result c.from_residual.ensures.1 in
    rw (e.1, e.2) tt

pub returns-in_err-bytes-clause-why : goal.returns-in_err-bytes-clause-why
returns-in_err-bytes-clause-why c l h =
    let e = err_from_is_err_and c.from_residual-in_err-bytes.result c.from_residual-in_err-bytes.ensures.1 in
    rw (e.1, e.2) tt

pub write_parts-requires-clause-known : goal.write_parts-requires-clause-known
write_parts-requires-clause-known c =
    c.in_ok-places.ensures.known c.requires.0 (record { keeps = c.requires.1.read.resolved.keeps; notes = refl })

pub write_parts-requires-clause-link : goal.write_parts-requires-clause-link
write_parts-requires-clause-link c = (
  c.requires.0,
  record {
    planned = c.requires.1;
    tells = c.in_ok-places.ensures.tells c.requires.0 (counts_of c.args.b.now) (planned_of_link c.requires.0 c.args.b.now c.requires.1);
  },
)

pub returns-in_err-fixups-clause-why : goal.returns-in_err-fixups-clause-why
returns-in_err-fixups-clause-why c l h =
    let e = err_from_is_err_and c.from_residual-in_err-fixups.result c.from_residual-in_err-fixups.ensures.1 in
    rw (e.1, e.2)
    (c.in_err-fixups.ensures.why l (record {
      planned = h;
      tells = c.in_ok-places.ensures.tells l (counts_of c.args.b.now)
          (planned_of_link l c.args.b.now h);
    }))

pub returns-clause-done : goal.returns-clause-done
returns-clause-done c l h =
    let image = c.in_ok-fixups.ensures.done l
    (record { planned = h; tells = c.in_ok-places.ensures.tells l (counts_of c.args.b.now) (planned_of_link l c.args.b.now h) }) in
    subst (λ bytes. IsImaged l (counts_of c.args.b.now) (placement_of c.args.b.now) c.args.uuid bytes c.in_ok-fixups.fixups)
    (sym (whole_buffer c.write_parts.new.out c.in_ok-bytes.bytes.items c.in_ok-bytes.bytes.len
    (omega (arith, c.write_parts.ensures.length, c.deref_mut.ensures.len)))) image
