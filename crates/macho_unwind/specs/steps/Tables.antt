-- The entries of a section's tables, one by one.
use Rattle.std.specs.Prelude.{ℕ, ◌+◌, ◌*◌, nat_lt, List, count_by}
use Rattle.macho_bytes.specs.Layouts.{size_of}
use Rattle.macho_unwind.specs.Layouts.{lsda_entry}
use Rattle.macho_unwind.specs.Texts.{lsdas_place}
use Rattle.macho_unwind_pages.specs.declared.plans.Lsda.{Lsda}
use Rattle.macho_unwind_pages.specs.Plans.{PlanList}
use Rattle.macho_bytes.specs.Spellings.{spelling}
use Rattle.macho_unwind.specs.Spellings.{page_entry_rows, lsda_entry_rows}
use Rattle.macho_unwind.specs.steps.Records.{entry_for, lsda_for}

-- the place of the first LSDA entry of a function that starts no earlier than this
abbrev pub lsda_place : PlanList → ℕ → ℕ
lsda_place plan start = lsdas_place plan + size_of lsda_entry * count_by (λ l. nat_lt l.function start) plan.lsdas

abbrev pub entry_text : PlanList → ℕ → List ℕ
entry_text plan k = spelling page_entry_rows (entry_for plan k)

abbrev pub lsda_text : Lsda → List ℕ
lsda_text l = spelling lsda_entry_rows (lsda_for l)
