-- How many of each thing entries have, and the bytes of a section with so many.
use Rattle.std.specs.Prelude.{ℕ, ◌+◌, ◌-◌, ◌*◌, ◌/◌, ◌==◌, if◌then◌else◌, not, List, length, count_by}
use Rattle.macho_unwind_pages.specs.declared.entries.UnwindInput.{UnwindInput}
use Rattle.macho_unwind_pages.specs.declared.bound.Tallies.{Tallies}
use Rattle.macho_unwind_pages.specs.Entries.{ids_of, codes_of}
use Rattle.macho_unwind_pages.specs.Bounds.{PAGE_SPAN, MOST_LOCALS, MOST_WORDS, globals_of, is_one_of}

-- the number of codes that aren't among some
abbrev pub locals_in : List ℕ → List ℕ → ℕ
locals_in globals codes = count_by (λ code. not (is_one_of globals code)) codes

abbrev pub tallies_of : List UnwindInput → Tallies
tallies_of entries = record {
  entries = length entries;
  local = locals_in (globals_of (codes_of entries)) (codes_of entries);
  globals = length (globals_of (codes_of entries));
  personalities = length (ids_of entries);
  lsdas = count_by (λ e. e.lsda) entries;
}

abbrev pub pages_of : Tallies → ℕ → ℕ
pages_of t span =
    if t.entries == 0 then 0
    else 1 + span / PAGE_SPAN + t.local / MOST_LOCALS + (t.entries + t.local) / (MOST_WORDS - 1)

abbrev pub bytes_of : Tallies → ℕ → ℕ
bytes_of t pages = 28 + 4 * t.globals + 4 * t.personalities + 8 * t.lsdas + 12 * (pages + 1) + 12 * pages + 4 * t.entries + 4 * t.local
