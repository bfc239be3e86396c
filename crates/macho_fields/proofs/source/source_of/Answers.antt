-- The section's header, bytes and relocations are those of its object, which keeps the rules of objects.
use Rattle.std.proofs.Common.{ℕ, ◌==◌, length, ap, ◌∙◌, arith}
use Rattle.macho_records.specs.Sections.{type_of}
use Rattle.macho_object.proofs.Options.{some_if}
use Rattle.macho_fields.proofs.source.source_of.Goals as goal
use Rattle.macho_model.proofs.ObjectLaws.{section_long, keeps_of}

pub returns-clause-source : goal.returns-clause-source
returns-clause-source c =
    let b = c.args.file.now.bytes in
    let k = c.args.place.section in
    let object = keeps_of c.args.file.now.is_dynamic b c.requires.object c.is_dynamic-object.ensures.kept in
    let header = (some_if _ _ _ c.in-Some-Some-Some.ensures).1 in
    let bytes = (some_if _ _ _ c.in-Some-Some-Some.ensures').1 in
    let list = (some_if _ _ _ c.in-Some-Some-Some.ensures'').1 in
    let long = ap length bytes ∙ section_long b k object c.requires.among c.requires.filled in
    record {
      object = object;
      static = c.requires.object;
      among = c.requires.among;
      list = list;
      bytes = bytes;
      long = long;
      low = omega (arith, c.requires.low, long);
      descriptors = ap (λ (n : ℕ). n == 19) (c.typ.ensures ∙ ap type_of header);
    }
