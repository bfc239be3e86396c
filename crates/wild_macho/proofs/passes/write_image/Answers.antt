-- A write that failed left what it says.
use Rattle.std.proofs.Common.{refl}
use Rattle.wild_macho.proofs.passes.write_image.Goals as goal

pub returns-in-Err-Failed-clause-done : goal.returns-in-Err-Failed-clause-done
returns-in-Err-Failed-clause-done g c =
    let left = rw c.in-Err-Failed.field-0-is at c.in-Err-Failed.ensures.left in
    record {
      status = refl;
      image = record {
        same = refl;
        left = rw (← c.as_slice.ensures.value, ← c.as_str.ensures.value)
            left;
        lines = refl;
      };
      why = rw c.in-Err-Failed.field-0-is at c.in-Err-Failed.ensures.why;
    }
