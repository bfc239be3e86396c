-- What the reading of a text computes with, opened in one word, so that rows on texts can compute the whole of it. A proof
-- that names `documents_opened` or `answer_opened` under its signature sees the documents, or the answer, of a text that is
-- written out.
use Rattle.std.proofs.Common.{ℕ, List}
use Rattle.macho_stub_lines.specs.Bytes.{is_key_byte, is_mark, is_plain_byte, has_late_control_after, indent, unspaced, is_blank_or_comment, is_passed, is_tail, has_barred, belongs_to_top, has_dash}
use Rattle.macho_stub_lines.specs.Scalars.{scalar_front, quoted_front, plain_front}
use Rattle.macho_stub_lines.specs.Lists.{list_part, token_front, behind}
use Rattle.macho_stub_lines.specs.Keys.{entry_at, scalar_value, version_value, number_of, top_key, item_key}
use Rattle.macho_stub_lines.specs.Faults.{Reading}
use Rattle.macho_stub.specs.Documents.{DocumentFields}
use Rattle.macho_stub.specs.steps.Whole.{whole_item, whole_document}
use Rattle.macho_stub.specs.steps.Reader.{documents_of, lines_from, line_step, item_line, items_with_last, top_line, with_whole, first_line, key_column, item_key_line, skipped_value, names_value, names_line}
use Rattle.macho_stub.specs.Library.{LibraryFields, has_target}
use Rattle.macho_stub.specs.steps.Checks.{library_of, checked_documents, checked_document, checked_main, is_listed, same_document, same_items, same_item, same_names, all_same, gathered_texts}
use Rattle.macho_stub.specs.steps.Answer.{answer_of}

-- the documents that are read of a text
unfoldable pub documents_opened : List ℕ → Reading (List DocumentFields)
unfolding documents_of lines_from line_step item_line items_with_last top_line with_whole first_line key_column
    item_key_line skipped_value names_value names_line belongs_to_top has_dash whole_item whole_document entry_at
    scalar_value version_value number_of top_key item_key list_part token_front behind scalar_front quoted_front
    plain_front is_key_byte is_mark is_plain_byte has_late_control_after indent unspaced is_blank_or_comment is_passed
    is_tail has_barred
documents_opened text = documents_of text

-- and the answer
unfoldable pub answer_opened : List ℕ → Reading LibraryFields
unfolding documents_opened answer_of library_of checked_documents checked_document checked_main is_listed
    same_document same_items same_item same_names all_same gathered_texts has_target
answer_opened text = answer_of text
