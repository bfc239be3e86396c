-- The sizes of a link that are known before addresses are: of load commands, of the parts that the linker makes, of the
-- tables of `__LINKEDIT`. Each is what the link asks for, so that the room that is kept is never passed.
use Rattle.std.specs.Prelude.{◌≡◌, ℕ, ◌+◌, ◌*◌, ◌-◌, ◌^◌, ◌==◌, ◌&&◌, not, if◌then◌else◌, List, [], length, map, filter, sum_by, option_map}
use Rattle.std.specs.List.{concat}
use Rattle.std.specs.Str.{bytes_eq}
use Rattle.macho_model.specs.Sections.{is_zerofill, segment_name_of}
use Rattle.macho_model.specs.declared.placed.Counts.{Counts}
use Rattle.macho_model.specs.declared.targets.Target.{Target}
use Rattle.macho_model.specs.declared.targets.Target.TheVariants as target
use Rattle.macho_model.specs.Links.{Link, header_at, carried_of}
use Rattle.macho_model.specs.Resolution.{name_at}
use Rattle.macho_model.specs.Needs.{imports_of, import_library, libraries_needed, PERSONALITY_PLACE}
use Rattle.macho_model.specs.Targets.{slot_number, target_of_relocation}
use Rattle.macho_model.specs.Consumed.{EntryId, entries_of_link, relocations_in_entry, unwind_entry, LSDA_PLACE}
use Rattle.macho_model.specs.Segments.{TEXT, one_if}
use Rattle.macho_model.specs.WrittenSum.{section_cost}
use Rattle.macho_model.specs.Exports.{library_number}
use Rattle.macho_model.specs.Images.{import_entry_size}
use Rattle.macho_model.specs.Fixups.{import_entries_of, import_format}
use Rattle.macho_model.specs.Faults.{last_part}
use Rattle.macho_model.specs.Made.{initializers_of}
use Rattle.macho_model.specs.Signature.{identifier_text}
use Rattle.macho_model.specs.Head.{link_commands}
use Rattle.macho_model.specs.SymbolTable.{table_symbols}
use Rattle.macho_model.specs.Told.{ToldExport, ExportsAreTold}
use Rattle.macho_unwind.specs.UnwindInput.{UnwindInput}
use Rattle.macho_unwind.specs.Bounds.{unwind_bound_of}
use Rattle.macho_trie.specs.Exports.{Exported, as_value, as_reexport, REEXPORT}
use Rattle.macho_promise.specs.TrieSays.{IsTrieText}
use Rattle.macho_promise.specs.UnwindSays.{relocation_of}

-- the load commands but the segments', whatever UUID and entry they say: those of a link, and four of tables, of 16, 16, 24 and 16 bytes
unfoldable pub commands_size : Link → ℕ
commands_size l = length (concat (link_commands l [] 0)) + 72

-- the room for longer names that is asked for: 1024 bytes for each path that names a library or is searched
abbrev pub padding_size : Link → ℕ
padding_size l = if l.headerpad then 1024 * (length (libraries_needed l) + length l.rpaths + one_if (not l.executable)) else 0

-- an unwind entry before it has addresses; a personality is named by the number of its slot
abbrev pub unwind_input : Link → EntryId → UnwindInput
unwind_input l d = record {
  encoding = (unwind_entry l d.of_section d.entry).encoding;
  personality = option_map (λ r. slot_number l (target_of_relocation l d.of_section r)) (relocation_of l d PERSONALITY_PLACE);
  lsda = not (length (relocations_in_entry l d.of_section d.entry LSDA_PLACE) == 0);
}

-- the starts of functions are at most so far apart: they stand in sections of `__TEXT` with bytes in the file
abbrev pub text_span : Link → ℕ
text_span l =
    sum_by (section_cost l)
    (filter (λ s. bytes_eq (segment_name_of (header_at l s)) TEXT && not (is_zerofill (header_at l s))) (carried_of l))

abbrev pub unwind_size : Link → ℕ
unwind_size l = if length (entries_of_link l) == 0 then 0 else unwind_bound_of (map (unwind_input l) (entries_of_link l)) (text_span l)

-- The sizes of a link whose exports trie has a size. Each name has a NUL behind it, and the strings of the symbol table begin with one.
unfoldable pub counts_with : Link → ℕ → Counts
counts_with l trie = record {
  commands = commands_size l;
  padding = padding_size l;
  initializers = length (initializers_of l);
  unwind = unwind_size l;
  imports = length (import_entries_of l);
  import_size = import_entry_size (import_format l);
  name_bytes = sum_by (λ name. length name + 1) (imports_of l);
  trie = trie;
  symbols = length (table_symbols l);
  strings = 1 + sum_by (λ s. length (name_at l s) + 1) (table_symbols l);
  identifier = length (identifier_text (last_part l.output));
}

-- the bytes of a name with its NUL; no definition above says it by this name, but proofs do
abbrev pub text_size : List ℕ → ℕ
text_size text = length text + 1

-- what keeps the place of an exported name in the trie: the greatest address, or the number of its library
abbrev pub kept_for : Link → List ℕ → Target → Exported
kept_for l name (target.Import id) = as_reexport REEXPORT (library_number l (import_library l name)) []
kept_for l name t = as_value 0 (2 ^ 64 - 1)

-- The size of the exports trie, before addresses are known.
pub record IsTrieSize (l : Link) (size : ℕ) : Type 0 where
  pub exports : List ToldExport
  pub told : ExportsAreTold l exports
  pub bytes : List ℕ
  pub trie : IsTrieText (map (λ e. (e.name, kept_for l e.name e.target)) exports) bytes
  pub long : length bytes ≡ size

-- THE sizes of a link.
pub record AreCounts (l : Link) (counts : Counts) : Type 0 where
  pub trie : IsTrieSize l counts.trie
  pub are : counts ≡ counts_with l counts.trie
