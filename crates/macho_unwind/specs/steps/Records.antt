-- The records that a section is spelled by: its header, the entries of its pages, language-specific data, and the heads of pages.
use Rattle.std.specs.Prelude.{ℕ, ◌+◌, ◌*◌, nat_lt, length, count_by}
use Rattle.macho_bytes.specs.Layouts.{size_of}
use Rattle.macho_unwind.specs.Layouts.{compact_unwind_info_header, compressed_page, lsda_entry}
use Rattle.macho_unwind.specs.Sections.{WORD, COMPRESSED}
use Rattle.macho_unwind.specs.declared.records.CompactUnwindInfoHeader.{CompactUnwindInfoHeader}
use Rattle.macho_unwind.specs.declared.records.PageEntry.{PageEntry}
use Rattle.macho_unwind.specs.declared.records.CompressedPage.{CompressedPage}
use Rattle.macho_unwind.specs.declared.records.LsdaEntry.{LsdaEntry}
use Rattle.macho_unwind_pages.specs.declared.plans.Lsda.{Lsda}
use Rattle.macho_unwind_pages.specs.Plans.{PageList, PlanList}
use Rattle.macho_unwind.specs.Texts.{lsdas_place, page_of, entries_place, personalities_place, pages_place, page_place}

-- the header of the section
abbrev pub header_for : PlanList → CompactUnwindInfoHeader
header_for plan = record {
  -- `UNWIND_SECTION_VERSION`
  version = 1;
  global_opcodes_offset = size_of compact_unwind_info_header;
  global_opcodes_len = length plan.globals;
  personalities_offset = personalities_place plan;
  personalities_len = length plan.personalities;
  pages_offset = entries_place plan;
  pages_len = length plan.pages + 1;
}

-- the entry of page k, with the place of the first LSDA entry of a function that starts no earlier than the first one of the page
abbrev pub entry_for : PlanList → ℕ → PageEntry
entry_for plan k = record {
  first_address = (page_of plan k).first;
  page_offset = page_place plan k;
  lsda_index_offset = lsdas_place plan + size_of lsda_entry * count_by (λ l. nat_lt l.function (page_of plan k).first) plan.lsdas;
}

-- the last entry: the end of the last function, no page, and the end of the LSDA entries
abbrev pub last_entry_for : PlanList → PageEntry
last_entry_for plan = record { first_address = plan.end; page_offset = 0; lsda_index_offset = pages_place plan }

abbrev pub lsda_for : Lsda → LsdaEntry
lsda_for l = record { function_offset = l.function; lsda_offset = l.lsda }

abbrev pub head_for : PageList → CompressedPage
head_for page = record {
  kind = COMPRESSED;
  functions_offset = size_of compressed_page;
  functions_len = length page.words;
  local_opcodes_offset = size_of compressed_page + WORD * length page.words;
  local_opcodes_len = length page.locals;
}
