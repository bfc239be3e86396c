use Rattle.std.proofs.Common.{ℕ}
use Rattle.macho_object.proofs.Places.{sections_stand}
use Rattle.macho_object.proofs.outline.read_outline.Goals as goal

pub returns-clause-found : goal.returns-clause-found
returns-clause-found c =
    record {
      commands = c.in_ok-places.ensures.found;
      tables = c.in_ok-symtab.ensures.tables;
      symtab_is = c.in_ok-symtab.ensures.found;
      sections = λ (k : ℕ) lt.
          sections_stand c.args.is_dynamic c.args.input.now c.in_ok-places.places _ k c.in_ok-places.ensures.found c.count_sections.ensures
          lt;
      sections_is = c.count_sections.ensures;
    }
