-- What a reader finds at the two words that the loader writes in the image of a link with a call and a pointer, and that it finds nothing
-- at the first instruction.
--
-- The slot's word has its highest bit set, so it is bound: to entry 0 of the imports, `_exit` of library 1, with no addend. The pointer's
-- word is 0x398, which is how far the code stands behind the base.
use Rattle.std.proofs.Common.{◌≡◌, ℕ, ◌+◌, ◌*◌, ◌%◌, ◌^◌, ◌⊎◌, List, [], ◌∷◌, Some, None, inl, inr, refl, sym, ap, arith}
use Rattle.std.specs.Prelude.{codes}
use Rattle.macho_bytes.specs.Numbers.{le_at, le_bytes, be_at, be_bytes, row_bytes}
use Rattle.macho_bytes.specs.Layouts.{reading}
use Rattle.macho_model.specs.Commands.{header_of, commands_from, commands_of, commands_end}
use Rattle.macho_model.specs.Images.{segments_of, mapped_segments, base_of, libraries_of, tables_of, tries_of, signatures_of, symbol_tables_of, string_tables_of, entries_of_file, Table, fixups_header, import_entry, import_name}
use Rattle.macho_model.specs.ReadBack.{Rebase, Bind, IsLoadedFixup}
use Rattle.macho_model_checks.proofs.Examples.{words8, words, halves, name16}
use Rattle.macho_model_checks.proofs.ExampleLinks.{entry}
use Rattle.macho_model_checks.proofs.ExampleCall.{calls_exit, head_of_call, fixups_of_call, tables_of_call, big_words, signature_of_call, call_image}
use Rattle.macho_model_checks.proofs.RowsCallChain.{constants_in_chain, data_in_chain, call_segments, slot_on, pointer_on, only_two_on}

-- the two words,
words_found : (le_at 8 call_image 0x4000 ≡ 0x8000000000000000) × (le_at 8 call_image 0x8000 ≡ 0x398)
unfolding commands_end commands_of commands_from header_of reading le_at row_bytes le_bytes words8 words halves name16 entry calls_exit
    head_of_call fixups_of_call tables_of_call be_at be_bytes big_words signature_of_call call_image
words_found = (refl, refl)

-- and the table's entry
abbrev table_of_call : Table
table_of_call = record { at = 0xc000; size = 0xd0 }

entry_found : (tables_of call_image ≡ table_of_call ∷ []) × ((fixups_header call_image table_of_call).imports_count ≡ 1)
    × ((import_entry call_image table_of_call 0).library ≡ 1)
    × (import_name call_image table_of_call (import_entry call_image table_of_call 0) ≡ codes "_exit")
    × ((import_entry call_image table_of_call 0).addend ≡ 0) × (base_of call_image ≡ 0x100000000)
unfolding commands_end commands_of commands_from header_of reading le_at row_bytes le_bytes words8 words halves name16 entry calls_exit
    head_of_call fixups_of_call tables_of_call be_at be_bytes big_words signature_of_call call_image segments_of mapped_segments base_of
    libraries_of tables_of tries_of signatures_of symbol_tables_of string_tables_of entries_of_file
entry_found = (refl, refl, refl, refl, refl, refl)

pub slot_found : IsLoadedFixup call_image 0x100004000 (Some (Bind 1 (codes "_exit") 0))
slot_found = record {
  on = slot_on;
  word = 0x8000000000000000;
  stands = rw call_segments (record {
    segment = constants_in_chain;
    one = (2, omega arith, refl);
    from = omega arith;
    to = omega arith;
    is = sym words_found.0;
  });
  binds = refl;
  table = table_of_call;
  one = rw entry_found.0 (0, omega arith, refl);
  import = rw entry_found.1 (omega arith);
  library_is = sym entry_found.2;
  name_is = sym entry_found.3;
  addend_is = ap (λ n. (n + 0) % 2 ^ 64) (sym entry_found.4);
}

pub pointer_found : IsLoadedFixup call_image 0x100008000 (Some (Rebase 0x100000398))
pointer_found = record {
  on = pointer_on;
  word = 0x398;
  stands = rw call_segments (record {
    segment = data_in_chain;
    one = (3, omega arith, refl);
    from = omega arith;
    to = omega arith;
    is = sym words_found.1;
  });
  rebases = refl;
  is = ap (λ n. (0x398 + 0 * 2 ^ 56 + n) % 2 ^ 64) (sym entry_found.5);
}

pub code_is_not_found : IsLoadedFixup call_image 0x100000398 None
code_is_not_found on = neither 0x100000398 refl (only_two_on 0x100000398 on)
  where
    neither : (a : ℕ) → a ≡ 0x100000398 → (a ≡ 0x100004000) ⊎ (a ≡ 0x100008000) → ⊥
    neither a is (inl slot) = omega (arith, is, slot)
    neither a is (inr pointer) = omega (arith, is, pointer)
