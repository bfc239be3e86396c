-- Two links that agree in what they see of inputs agree in segments, output sections and their pieces, in fields and import entries, and
-- in all sizes.
use Rattle.std.proofs.Common.{◌≡◌, ℕ, ◌+◌, ◌&&◌, not, Bool, List, length, refl, ap, ◌∙◌}
use Rattle.std.specs.Prelude.{sum_by}
use Rattle.std.specs.List.{flat_map}
use Rattle.macho_model.specs.declared.placed.Counts.{Counts}
use Rattle.macho_model.specs.declared.placed.PlacedSection.{PlacedSection}
use Rattle.macho_model.specs.declared.placed.PlacedSegment.{PlacedSegment}
use Rattle.macho_model.specs.Links.{Link, SectionId}
use Rattle.macho_model.specs.Consumed.{entries_of_link, personality_targets}
use Rattle.macho_model.specs.Made.{initializers_of}
use Rattle.macho_model.specs.Segments.{TEXT, OutputKey, other_segments, segment_rank, segment_names_of, output_keys_of, output_count}
use Rattle.macho_model.specs.OutputSections.{OutputSection, is_zeros, is_code, flags_of_key, merged, merged_in, output_sections_in, output_sections_of, output_sections_for}
use Rattle.macho_model.specs.Placement.{Placed, section_piece, common_piece, pieces_with}
use Rattle.macho_model.specs.Order.{row_of}
use Rattle.macho_model.specs.WrittenSum.{content_sum, command_sum, unsigned_sum, written_sum_of}
use Rattle.macho_model.specs.Fields.{field_of, fields_of}
use Rattle.macho_model.specs.Fixups.{own_entries, import_entries_of, entries_have_addends, import_format}
use Rattle.macho_model.specs.Faults.{last_part}
use Rattle.macho_model.specs.Images.{import_entry_size}
use Rattle.macho_model.specs.Signature.{identifier_text}
use Rattle.macho_model.specs.SymbolTable.{table_symbols}
use Rattle.macho_model.specs.Head.{link_commands}
use Rattle.macho_promise.specs.Sizes.{commands_size, padding_size, unwind_input, text_span, unwind_size, counts_with}
use Rattle.macho_alike_laws.proofs.Inputs.{Agree}
use Rattle.macho_alike_laws.proofs.Views as views
use Rattle.macho_alike_laws.proofs.Views.{each_same}

module _ (l m : Link) (same : Agree l m) where
  -- ---- segments and output sections

  others : other_segments l ≡ other_segments m
  unfolding other_segments
  others = simp (same.object, views.carried l m same)

  -- the place of a segment in the order of names
  pub rank : (name : List ℕ) → segment_rank l name ≡ segment_rank m name
  unfolding segment_rank
  rank name = simp others

  -- the names of the segments
  pub segments : segment_names_of l ≡ segment_names_of m
  unfolding segment_names_of
  segments =
      simp (same.object, same.executable, views.carried l m same, views.slots l m same, views.commons l m same, others)

  keys : output_keys_of l ≡ output_keys_of m
  unfolding output_keys_of
  keys = simp (same.object, views.carried l m same, views.commons l m same)

  -- how many output sections there are
  pub sections_count : (counts : Counts) → output_count l counts ≡ output_count m counts
  unfolding output_count
  sections_count counts = simp (keys, views.stubs l m same, views.slots l m same)

  piece : section_piece l ≡ section_piece m
  piece = each_same (λ q. simp (same.object, views.exponent l m same))

  common : common_piece l ≡ common_piece m
  common = each_same (λ c. simp (same.object, views.commons l m same))

  flags : (key : OutputKey) → flags_of_key l key ≡ flags_of_key m key
  flags key = simp (same.object, views.carried l m same)

  code : is_code l ≡ is_code m
  code = each_same (λ key. simp flags)

  one_merged : merged l ≡ merged m
  one_merged = each_same (λ key. simp (same.object, views.carried l m same, piece, common))

  all_merged : (segment : List ℕ) (test : OutputKey → Bool) → merged_in l segment test ≡ merged_in m segment test
  all_merged segment test = simp (one_merged, keys)

  code_merged : merged_in l TEXT (is_code l) ≡ merged_in m TEXT (is_code m)
  code_merged = all_merged TEXT (is_code l) ∙ ap (λ (test : OutputKey → Bool). merged_in m TEXT test) code

  other_merged : merged_in l TEXT (λ key. not (is_zeros key) && not (is_code l key))
      ≡ merged_in m TEXT (λ key. not (is_zeros key) && not (is_code m key))
  other_merged =
      all_merged TEXT (λ key. not (is_zeros key) && not (is_code l key))
      ∙ ap (λ (test : OutputKey → Bool). merged_in m TEXT (λ key. not (is_zeros key) && not (test key))) code

  -- the output sections of a segment, and of the image
  pub sections_in : (counts : Counts) → output_sections_in l counts ≡ output_sections_in m counts
  sections_in counts = each_same (λ segment. simp (code_merged, other_merged, all_merged, views.stubs l m same, views.slots l m same))

  pub output_sections : (counts : Counts) → output_sections_of l counts ≡ output_sections_of m counts
  unfolding output_sections_of
  output_sections counts = λ i. flat_map (sections_in counts i) (segments i)

  -- their headers
  pub headers : (counts : Counts) (p : Placed) → output_sections_for l counts p ≡ output_sections_for m counts p
  unfolding output_sections_for
  headers counts p = simp output_sections

  -- the row of a segment speaks of its placement alone
  pub row : (counts : Counts) (p : Placed) (s : PlacedSegment) (sections : List OutputSection)
      → row_of l counts p s sections ≡ row_of m counts p s sections
  unfolding row_of
  row counts p s sections = refl

  -- the parts of a placement
  pub pieces : (counts : Counts) (p : Placed) (sections : List PlacedSection)
      → pieces_with l counts p sections ≡ pieces_with m counts p sections
  unfolding pieces_with
  pieces counts p sections = simp (piece, common)

  -- ---- the written sum

  contents : (counts : Counts) → content_sum l counts ≡ content_sum m counts
  unfolding content_sum
  contents counts =
      simp (
        same.object,
        views.exponent l m same,
        views.carried l m same,
        views.commons l m same,
        views.slots l m same,
        views.stubs l m same,
      )

  commands : (counts : Counts) → command_sum l counts ≡ command_sum m counts
  unfolding command_sum
  commands counts = simp (segments, sections_count)

  unsigned : (counts : Counts) → unsigned_sum l counts ≡ unsigned_sum m counts
  unfolding unsigned_sum
  unsigned counts =
      simp (contents, commands, segments, same.executable, views.carried l m same, views.commons l m same)

  -- THE written sum
  pub sum : (counts : Counts) → written_sum_of l counts ≡ written_sum_of m counts
  unfolding written_sum_of
  sum counts = simp unsigned

  -- ---- fields and import entries

  one_field : (s : SectionId) → field_of l s ≡ field_of m s
  one_field s = each_same (λ r. simp (same.object, views.relocated l m same))

  -- the fields of a section
  pub fields : (s : SectionId) → fields_of l s ≡ fields_of m s
  unfolding fields_of
  fields s = simp (same.object, one_field)

  own_imports : own_entries l ≡ own_entries m
  unfolding own_entries
  own_imports = simp (fields, views.carried l m same)

  -- the entries of the import table, and whether they have addends
  pub import_entries : import_entries_of l ≡ import_entries_of m
  unfolding import_entries_of
  import_entries = simp (own_imports, views.imports l m same)

  pub have_addends : entries_have_addends l ≡ entries_have_addends m
  unfolding entries_have_addends
  have_addends = simp own_imports

  -- ---- sizes

  -- the initializers
  pub initializers : initializers_of l ≡ initializers_of m
  unfolding initializers_of
  initializers = simp (views.initializer_uses l m same, views.relocated l m same)

  -- the personality functions
  pub personalities : personality_targets l ≡ personality_targets m
  unfolding personality_targets
  personalities = simp (views.personality_uses l m same, views.relocated l m same)

  -- the unwind entries
  pub entries : entries_of_link l ≡ entries_of_link m
  unfolding entries_of_link
  entries = simp (same.object, views.unwind_parts l m same)

  -- the symbols of the symbol table
  pub table : table_symbols l ≡ table_symbols m
  unfolding table_symbols
  table = simp (same.object, same.symbols, views.definition l m same)

  own_commands : (uuid : List ℕ) (entry : ℕ) → link_commands l uuid entry ≡ link_commands m uuid entry
  own_commands uuid entry =
      simp (same.executable, same.versions, same.install_name, same.rpaths, views.libraries l m same)

  commands_long : commands_size l ≡ commands_size m
  unfolding commands_size
  commands_long = simp own_commands

  one_entry : unwind_input l ≡ unwind_input m
  one_entry = each_same (λ d. simp (same.object, views.slots l m same, views.relocated l m same))

  span : text_span l ≡ text_span m
  span = simp (same.object, views.exponent l m same, views.carried l m same)

  unwind_long : unwind_size l ≡ unwind_size m
  unwind_long = simp (entries, one_entry, span)

  padding : padding_size l ≡ padding_size m
  padding = simp (same.headerpad, same.executable, same.rpaths, views.libraries l m same)

  -- the format of the import table
  pub format : import_format l ≡ import_format m
  format = simp have_addends

  -- THE sizes, where the trie has one: each number is one of both links
  pub counts : (trie : ℕ) → counts_with l trie ≡ counts_with m trie
  unfolding counts_with
  counts trie = λ i. record {
    commands = commands_long i;
    padding = padding i;
    initializers = length (initializers i);
    unwind = unwind_long i;
    imports = length (import_entries i);
    import_size = import_entry_size (format i);
    name_bytes = sum_by (λ name. length name + 1) (views.imports l m same i);
    trie = trie;
    symbols = length (table i);
    strings = 1 + sum_by (λ s. length (views.names l m same i s) + 1) (table i);
    identifier = length (identifier_text (last_part (same.output i)));
  }
