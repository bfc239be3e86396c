-- The rows by which the records of `__unwind_info` are spelled.
use Rattle.std.specs.Prelude.{[], ◌∷◌}
use Rattle.std.proofs.Common.{refl}
use Rattle.macho_bytes.specs.Spellings.{Spelled, numbers}
use Rattle.macho_unwind.specs.declared.records.CompactUnwindInfoHeader.{CompactUnwindInfoHeader}
use Rattle.macho_unwind.specs.declared.records.PageEntry.{PageEntry}
use Rattle.macho_unwind.specs.declared.records.CompressedPage.{CompressedPage}
use Rattle.macho_unwind.specs.declared.records.LsdaEntry.{LsdaEntry}
use Rattle.macho_unwind.specs.Layouts.{compact_unwind_info_header, page_entry, compressed_page, lsda_entry}

abbrev pub compact_unwind_info_header_rows : Spelled CompactUnwindInfoHeader
compact_unwind_info_header_rows = record {
  layout = compact_unwind_info_header;
  blank = record {
    version = 0;
    global_opcodes_offset = 0;
    global_opcodes_len = 0;
    personalities_offset = 0;
    personalities_len = 0;
    pages_offset = 0;
    pages_len = 0;
  };
  rows =
      numbers 4 (λ r. r.version ∷ r.global_opcodes_offset ∷ r.global_opcodes_len
      ∷ r.personalities_offset ∷ r.personalities_len ∷ r.pages_offset ∷ r.pages_len ∷ [])
      (λ n r. record r {
        version = n 0;
        global_opcodes_offset = n 1;
        global_opcodes_len = n 2;
        personalities_offset = n 3;
        personalities_len = n 4;
        pages_offset = n 5;
        pages_len = n 6;
      }) ∷ [];
  sized = refl;
  same = λ bytes at. refl;
}

abbrev pub page_entry_rows : Spelled PageEntry
page_entry_rows = record {
  layout = page_entry;
  blank = record { first_address = 0; page_offset = 0; lsda_index_offset = 0 };
  rows =
      numbers 4 (λ r. r.first_address ∷ r.page_offset ∷ r.lsda_index_offset ∷ [])
      (λ n r. record r { first_address = n 0; page_offset = n 1; lsda_index_offset = n 2 }) ∷ [];
  sized = refl;
  same = λ bytes at. refl;
}

abbrev pub compressed_page_rows : Spelled CompressedPage
compressed_page_rows = record {
  layout = compressed_page;
  blank = record { kind = 0; functions_offset = 0; functions_len = 0; local_opcodes_offset = 0; local_opcodes_len = 0 };
  rows =
      numbers 4 (λ r. r.kind ∷ []) (λ n r. record r { kind = n 0 })
      ∷ numbers 2 (λ r. r.functions_offset ∷ r.functions_len ∷ r.local_opcodes_offset ∷ r.local_opcodes_len ∷ [])
      (λ n r. record r { functions_offset = n 0; functions_len = n 1; local_opcodes_offset = n 2; local_opcodes_len = n 3 }) ∷ [];
  sized = refl;
  same = λ bytes at. refl;
}

abbrev pub lsda_entry_rows : Spelled LsdaEntry
lsda_entry_rows = record {
  layout = lsda_entry;
  blank = record { function_offset = 0; lsda_offset = 0 };
  rows =
      numbers 4 (λ r. r.function_offset ∷ r.lsda_offset ∷ []) (λ n r. record r { function_offset = n 0; lsda_offset = n 1 }) ∷ [];
  sized = refl;
  same = λ bytes at. refl;
}
