-- What was viewed and read, with its sizes, is what an image is written from.
use Rattle.std.proofs.Common.{◌≡◌, refl, sym, subst, ap, map, length, arith}
use Rattle.std.proofs.lemmas.List.{length-map}
use Rattle.std.proofs.lemmas.Result.{err_from_is_err_and}
use Rattle.macho_model.specs.Needs.{libraries_needed}
use Rattle.macho_linking.specs.Planning.{StandsAlways}
use Rattle.macho_linking.proofs.Closing.{to_planned, unwritten_stands, libraries_few}
use Rattle.macho_linking.proofs.passes.make_image.Goals as goal

pub write_image-requires : goal.write_image-requires
write_image-requires c =
    let l = c.args.viewed.now.linker.now in
    (l, to_planned l _ refl c.requires c.in_ok-sized.ensures.done)

pub told_imports-requires : goal.told_imports-requires
told_imports-requires c =
    let l = c.args.viewed.now.linker.now in
    let few = libraries_few l c.args.read.now c.in_ok-sized.sized c.in_ok-sized.ensures.done in
    let long : length (map (λ n. n.items) c.args.libraries.now) ≡ length (libraries_needed l) = ap length c.requires.libraries_are in
    omega (arith, few, long, length-map c.args.libraries.now (λ n. n.items))

pub returns-in_err-imports-clause-why : goal.returns-in_err-imports-clause-why
returns-in_err-imports-clause-why c =
    let e = err_from_is_err_and c.from_residual-in_err-imports.result c.from_residual-in_err-imports.ensures.1 in
    rw (e.1, e.2) (λ counts are. tt)

pub returns-in-Ok-clause-told : goal.returns-in-Ok-clause-told
returns-in-Ok-clause-told c =
    let l = c.args.viewed.now.linker.now in
    c.in_ok-imports.ensures l (c.imports.ensures l _ c.requires.read_is.0.resolved) c.requires.libraries_are

pub returns-in-Ok-clause-done : goal.returns-in-Ok-clause-done
returns-in-Ok-clause-done c =
    let l = c.args.viewed.now.linker.now in
    record {
      image = c.in-Ok.ensures.done l (to_planned l _ refl c.requires c.in_ok-sized.ensures.done);
      sizes = c.in_ok-sized.ensures.done;
    }

pub returns-in-Err-clause-why : goal.returns-in-Err-clause-why
returns-in-Err-clause-why c =
    let l = c.args.viewed.now.linker.now in
    subst (StandsAlways l) (sym c.refusal.ensures) (unwritten_stands l c.args.read.now c.in_ok-sized.sized c.in-Err.fault
    c.in_ok-sized.ensures.done (c.in-Err.ensures.why l (to_planned l _ refl c.requires c.in_ok-sized.ensures.done)))
