-- Rows, computed: the section of one function, byte by byte, what look-up finds in it and where it finds nothing; and the
-- length and the page entries of a section of two pages.
use Rattle.std.proofs.Common.{◌≡◌, ℕ, zero, suc, ◌<◌, ◌≤◌, List, [], ◌∷◌, length, replicate, None, refl, arith}
use Rattle.macho_bytes.specs.Numbers.{le_at, le_bytes, row_bytes}
use Rattle.macho_bytes.specs.Layouts.{reading}
use Rattle.macho_unwind_pages.specs.Plans.{PlanList}
use Rattle.macho_unwind.specs.declared.lookup.Found.{Found}
use Rattle.macho_unwind.specs.Sections.{last_entry, entry_at, first_at, page_at, word_at, start_at, encoding_at, HasTables, IsWholePage}
use Rattle.macho_unwind.specs.Lookup.{IsGreatestUpTo, UnwindFinds}
use Rattle.macho_unwind.specs.Texts.{page_text, section_text, page_place}
use Rattle.macho_unwind.specs.steps.Tables.{lsda_place}
use Rattle.macho_bytes.specs.Spellings.{spelling}
use Rattle.macho_unwind.specs.steps.Texts.{last_place}

-- a function at 0x1000 of 0x20 bytes with encoding 0x02000000 (no frame)
abbrev one_plan : PlanList
one_plan = record {
  globals = 0x02000000 ∷ [];
  personalities = [];
  lsdas = [];
  pages = record { first = 0x1000; words = 0 ∷ []; locals = [] } ∷ [];
  end = 0x1020;
}

abbrev one_section : List ℕ
one_section =
    1 ∷ 0 ∷ 0 ∷ 0 ∷ 28 ∷ 0 ∷ 0 ∷ 0 ∷ 1 ∷ 0 ∷ 0 ∷ 0 ∷ 32 ∷ 0 ∷ 0 ∷ 0 ∷ 0 ∷ 0 ∷ 0 ∷ 0 ∷ 32 ∷ 0 ∷ 0 ∷ 0 ∷ 2 ∷ 0 ∷ 0 ∷ 0
    ∷ 0 ∷ 0 ∷ 0 ∷ 2
    ∷ 0 ∷ 0x10 ∷ 0 ∷ 0 ∷ 56 ∷ 0 ∷ 0 ∷ 0 ∷ 56 ∷ 0 ∷ 0 ∷ 0
    ∷ 0x20 ∷ 0x10 ∷ 0 ∷ 0 ∷ 0 ∷ 0 ∷ 0 ∷ 0 ∷ 56 ∷ 0 ∷ 0 ∷ 0
    ∷ 3 ∷ 0 ∷ 0 ∷ 0 ∷ 12 ∷ 0 ∷ 1 ∷ 0 ∷ 16 ∷ 0 ∷ 0 ∷ 0
    ∷ 0 ∷ 0 ∷ 0 ∷ 0 ∷ []

one_bytes : section_text one_plan ≡ one_section
unfolding section_text page_text spelling row_bytes le_bytes
one_bytes = refl

one_length : length one_section ≡ 72
one_length = refl

-- one number is the greatest where it is not above the limit
greatest_of_one : (limit : ℕ) (f : ℕ → ℕ) → f 0 ≤ limit → IsGreatestUpTo limit 1 f 0
greatest_of_one limit f up = record { one = omega arith; up_to = up; greatest = greatest; last = last }
  where
    greatest : (j : ℕ) → j < 1 → f j ≤ limit → f j ≤ f 0
    greatest zero lt le = omega arith
    greatest (suc j) lt le = absurd (omega arith)

    last : (j : ℕ) → j < 1 → f j ≡ f 0 → j ≤ 0
    last zero lt same = omega arith
    last (suc j) lt same = absurd (omega arith)

abbrev one_found : Found
one_found = record { start = 0x1000; encoding = 0x02000000; personality = None; lsda = None }

one_tables : HasTables one_section
unfolding reading le_at
one_tables = record { header = omega arith; encodings = omega arith; personalities = omega arith; pages = omega arith }

one_page : IsWholePage one_section (entry_at one_section 0) (page_at one_section 0) 0
unfolding reading le_at entry_at page_at
one_page = record { head = omega arith; kind = refl; functions = omega arith; encodings = omega arith; entries = omega arith }

one_is_found : (offset : ℕ) → 0x1000 ≤ offset → offset < 0x1020 → UnwindFinds one_section offset one_found
unfolding reading le_at entry_at page_at word_at encoding_at
one_is_found offset from to = record {
  page = 0;
  function = 0;
  encoding = 0x02000000;
  tables = one_tables;
  page_of = record { chosen = greatest_of_one offset (first_at one_section) from; before_end = to };
  whole = one_page;
  function_of = greatest_of_one offset (start_at one_section 0) from;
  start = refl;
  encoded = refl;
  cleared = refl;
  personality = refl;
  lsda = λ j lt same. absurd (omega arith);
}

-- at its start and at its last byte
at_the_start : UnwindFinds one_section 0x1000 one_found
at_the_start = one_is_found 0x1000 (omega arith) (omega arith)

at_the_last_byte : UnwindFinds one_section 0x101f one_found
at_the_last_byte = one_is_found 0x101f (omega arith) (omega arith)

-- there is nothing before the start, nor from the end on
before_the_start : (x : Found) → UnwindFinds one_section 0x0fff x → ⊥
unfolding reading le_at entry_at
before_the_start x finds = none finds.page finds.page_of.chosen.one finds.page_of.chosen.up_to
  where
    none : (k : ℕ) → k < last_entry one_section → first_at one_section k ≤ 0x0fff → ⊥
    none zero lt le = absurd (omega arith)
    none (suc k) lt le = absurd (omega arith)

at_the_end : (x : Found) → UnwindFinds one_section 0x1020 x → ⊥
unfolding reading le_at entry_at
at_the_end x finds = let below = finds.page_of.before_end in absurd (omega arith)

-- 27 bytes have no header, and 72 bytes 0xff tell of tables that are not whole
no_header : (x : Found) → UnwindFinds (replicate 27 0) 0 x → ⊥
no_header x finds = let header = finds.tables.header in absurd (omega arith)

no_tables : (x : Found) → UnwindFinds (replicate 72 0xff) 0 x → ⊥
unfolding reading le_at
no_tables x finds = let encodings = finds.tables.encodings in absurd (omega arith)

-- two functions of 0x20 bytes, 0x1000000 apart: two pages, 100 bytes
abbrev two_plan : PlanList
two_plan = record {
  globals = 0x02000000 ∷ [];
  personalities = [];
  lsdas = [];
  pages = record { first = 0x1000; words = 0 ∷ []; locals = [] } ∷ record { first = 0x1001000; words = 0 ∷ []; locals = [] } ∷ [];
  end = 0x1001020;
}

two_length : length (section_text two_plan) ≡ 100
unfolding section_text page_text spelling row_bytes le_bytes
two_length = refl

two_places : (page_place two_plan 0 ∷ page_place two_plan 1 ∷ []) ≡ 68 ∷ 84 ∷ []
two_places = refl

-- an LSDA of each page: the second page's entries begin at the second LSDA
abbrev lsda_plan : PlanList
lsda_plan = record two_plan {
  lsdas = record { function = 0x1000; lsda = 0x3000 } ∷ record { function = 0x1001000; lsda = 0x3010 } ∷ [];
}

lsda_places : (lsda_place lsda_plan 0x1000 ∷ lsda_place lsda_plan 0x1001000 ∷ last_place lsda_plan ∷ []) ≡ 68 ∷ 76 ∷ 100 ∷ []
lsda_places = refl
