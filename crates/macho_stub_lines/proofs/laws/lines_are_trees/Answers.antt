use Rattle.std.proofs.Common.{ℕ, List, ap, ◌∙◌}
use Rattle.macho_stub_lines.specs.Keys.{Entry}
use Rattle.macho_stub_lines.proofs.ScalarTrees.{scalar_found, scalar_reads}
use Rattle.macho_stub_lines.proofs.NumberTrees.{number_found, number_reads}
use Rattle.macho_stub_lines.proofs.EntryTrees.{entry_found, entry_reads}
use Rattle.macho_stub_lines.proofs.ListTrees.{list_found, list_reads}
use Rattle.macho_stub_lines.proofs.laws.lines_are_trees.Goals as goal

pub returns-clause-scalars : goal.returns-clause-scalars
returns-clause-scalars c = record { found = scalar_found; only = scalar_reads }

pub returns-clause-numbers : goal.returns-clause-numbers
returns-clause-numbers c = record { found = number_found; only = number_reads }

pub returns-clause-entries : goal.returns-clause-entries
returns-clause-entries c = record {
  found = λ line head said e.
      let f = entry_found line head said e in
      let E : List ℕ → List ℕ → Entry = λ key value. record { key = key; value = value } in
      (f.0, f.1, f.2, ap (λ key. E key said.value) f.3 ∙ ap (E f.0.key) f.4);
  only = entry_reads;
}

pub returns-clause-lists : goal.returns-clause-lists
returns-clause-lists c = record { found = list_found; only = list_reads }
