-- Each number is one of the link.
use Rattle.std.proofs.Common.{◌≡◌, ℕ, ◌+◌, List, length, ap, ◌∙◌, arith}
use Rattle.std.specs.List.{filter_map}
use Rattle.std.proofs.lemmas.List.{length-map}
use Rattle.macho_model.specs.Needs.{imports_of, distinct}
use Rattle.macho_model.specs.Fixups.{EntryOfImport}
use Rattle.macho_model.specs.Targets.{same_target}
use Rattle.macho_layout.proofs.Costs.{fitting-some}
use Rattle.macho_linkedit.proofs.LinkEntries.{named, entries_long}
use Rattle.macho_consumed.specs.declared.rows.UnwindEntry.{UnwindEntry}
use Rattle.macho_sizing.specs.steps.Personalities.{personality_of}
use Rattle.macho_sizing.proofs.PersonalityRows.{personalities_are}
use Rattle.macho_sizing.proofs.Totals.{symbols_counted, plain_counted, names_counted}
use Rattle.macho_sizing.proofs.numbers.count_numbers.Goals as goal

pub returns-clause-done : goal.returns-clause-done
returns-clause-done c l of_link imports =
    let entries : c.in-Some-Some-Some.entries ≡ length c.args.asked.now.needs.now.tables.own + length c.args.imports.now
    = c.in-Some-Some-Some.ensures.1 ∙ ap (λ (n : ℕ). n + length c.args.imports.now) c.num_own-own.ensures in
    record {
      libraries = omega (arith, length-map c.args.asked.now.libraries.now (λ n. n.items), ap length of_link.inputs.libraries);
      personalities = c.in_ok-personalities.ensures l of_link.read.resolved
          ∙ ap (λ (es : List UnwindEntry). length (distinct same_target (filter_map (personality_of l) es))) of_link.read.entries.0
          ∙ ap length (personalities_are l of_link.read.entries.1);
      imports = omega (
        arith,
        entries,
        ap (λ (es : List EntryOfImport). length es) of_link.read.needs.own,
        imports.long,
        entries_long l,
      );
      names = fitting-some _ _ c.in-Some-Some-Some.ensures'
          ∙ names_counted c.args.imports.now (imports_of l) (named l c.args.imports.now imports);
    }

pub returns-clause-symbols : goal.returns-clause-symbols
returns-clause-symbols c l of_link lists = record {
  are = omega (
    arith,
    c.in-Some.ensures.1,
    fitting-some _ _ c.in-Some-Some-Some.ensures'',
    symbols_counted l c.args.asked.now.objects.now of_link.inputs.objects,
    c.plain_entries.ensures,
    plain_counted l _ lists,
  );
}
