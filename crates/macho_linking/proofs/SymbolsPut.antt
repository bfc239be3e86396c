-- The symbol table of a planned link fills its two ranges, which stand one behind the other: so one text is put over both.
use Rattle.std.proofs.Common.{◌≡◌, ℕ, ◌+◌, ◌-◌, ◌*◌, ◌^◌, ◌<◌, ◌≤◌, List, ◌++◌, length, take, drop, refl, sym, ap, ◌∙◌, arith, All}
use borrow.Rule.Slice.PartMut.{put_mid}
use Rattle.std.specs.List.{flat_map}
use Rattle.std.proofs.lemmas.List.{length-append, length-drop, length-map, length-take}
use Rattle.macho_bytes.specs.Layouts.{size_of}
use Rattle.macho_bytes.specs.Texts.{put}
use Rattle.macho_bytes.proofs.Puts.{put-put, put_all}
use Rattle.macho_bytes.proofs.Writes.{put_mid-whole}
use Rattle.macho_records.specs.Layouts.{symtab_entry}
use Rattle.macho_model.specs.Links.{Link}
use Rattle.macho_model.specs.Needs.{imports_of}
use Rattle.macho_model.specs.Objects.{num_symbols}
use Rattle.macho_model.specs.Resolution.{SymbolId}
use Rattle.macho_model.specs.SymbolTable.{table_symbols}
use Rattle.macho_linkedit.specs.Listing.{id_of_symbol}
use Rattle.macho_linkedit.specs.TableRows.{symbol_rows}
use Rattle.std.specs.Option.{option_copied}
use Rattle.macho_fields.specs.Looks.{Look}
use Rattle.macho_linkedit.specs.Symbols.{SymbolTable, HasRows, table_text, IsTableWritten}
use Rattle.macho_linkedit.proofs.CanList.{symbol_is_kept}
use Rattle.macho_bytes.proofs.Members.{contains_all}
use Rattle.macho_symbol_tables.specs.Rows.{AreToList}
use Rattle.macho_symbol_tables.proofs.Short.{sections_are_few, strings_are_short}
use Rattle.macho_promise_laws.specs.FoundSizes.{FillsTables}
use Rattle.macho_promise_laws.proofs.Heads.{tables_follow}
use Rattle.macho_promise_laws.proofs.FoundSizes.{ranges_suffice, symbols_fill}
use Rattle.macho_commands.proofs.Texts.{length-flat_map_same}
use Rattle.macho_linking.specs.declared.planned.Planned.{Planned}
use Rattle.macho_linking.specs.steps.Planned.{IsPlanned, IsLooked, KnowsAll, placement_of, counts_of}
use Rattle.macho_linking.specs.steps.Written.{SymbolsArePut}
use Rattle.macho_linking.proofs.Ready.{planned_within, planned_to_table}
use Rattle.macho_bytes.specs.Spellings.{spelling}
use Rattle.macho_records.specs.Spellings.{symtab_entry_rows}

pub outputs_few : (l : Link) (b : Planned) → IsPlanned l b → length (placement_of b).output_sections ≤ 255
outputs_few l b h =
    sections_are_few l h.sized.planned.plan (counts_of b) (placement_of b) h.sized.planned.of_link h.sized.planned.fits h.sized.planned.laid

pub strings_short : (l : Link) (b : Planned) → IsPlanned l b → b.sized.now.symbols.strings < 2 ^ 32
strings_short l b h =
    strings_are_short l (counts_of b) (placement_of b) b.sized.now.symbols h.sized.placed (planned_within l b h) h.sized.counted
    h.sized.listed

-- the symbols of the objects are known
pub objects_known : (l : Link) (b : Planned) (has_symbol : ℕ → ℕ → Type 0) → IsPlanned l b → KnowsAll b has_symbol
    → All (λ o. (k : ℕ) → k < num_symbols o.file.bytes → has_symbol o.number k) b.objects.now
objects_known l b has_symbol h knows =
    contains_all (λ o. (k : ℕ) → k < num_symbols o.file.bytes → has_symbol o.number k) b.objects.now
    (λ o there k lt. knows o.number k
    (symbol_is_kept l (imports_of l) b.read.now.needs.resolved b.objects.now o h.read.resolved h.inputs.objects.0 there k lt))

pub to_list : (l : Link) (b : Planned) (look : Look) → IsLooked l b look
    → AreToList l (counts_of b) (placement_of b) look b.objects.now b.sized.now.symbols (option_copied b.list)
to_list l b look h = record {
  link = planned_to_table l b look h;
  objects_are = h.planned.inputs.objects.0;
  kinds = h.planned.inputs.objects.1;
  listed_are = h.planned.sized.listed;
  lists_are = h.planned.inputs.lists;
}

fills : (l : Link) (b : Planned) (t : SymbolTable) → IsPlanned l b → HasRows (symbol_rows l (counts_of b) (placement_of b)) t
    → FillsTables (counts_of b) (placement_of b) t
fills l b t h rows = symbols_fill l (counts_of b) (placement_of b) t h.sized.placed h.sized.counted rows

-- both ranges, one behind the other
abbrev pub both : Planned → ℕ
both b = (placement_of b).linkedit.strtab.end - (placement_of b).linkedit.symtab.start

-- They lie in the file, and have as many bytes as the listed symbols and the strings that were counted.
pub record RangesHaveRoom (b : Planned) : Type 0 where
  pub rises : (placement_of b).linkedit.symtab.start ≤ (placement_of b).linkedit.strtab.end
  pub inside : (placement_of b).linkedit.strtab.end ≤ (placement_of b).linkedit.signature.end
  pub listed : 16 * length b.sized.now.symbols.symbols.items + b.sized.now.symbols.strings ≡ both b

pub has_room : (l : Link) (b : Planned) → IsPlanned l b → RangesHaveRoom b
has_room l b h =
    let kept = ranges_suffice l (counts_of b) (placement_of b) h.sized.placed h.sized.counted in
    let follow = tables_follow l (counts_of b) (placement_of b) h.sized.placed in
    let items = b.sized.now.symbols.symbols.items in
    let many : length items ≡ length (table_symbols l) =
    sym (length-map items id_of_symbol) ∙ ap (λ (ids : List SymbolId). length ids) h.sized.listed.symbols_are in
    record {
      rises = omega (arith, kept.symbols, kept.behind, kept.strings);
      inside = omega (arith, follow.strings.1, follow.signature);
      listed = omega (arith, kept.symbols, kept.behind, kept.strings, many, h.sized.listed.strings_are);
    }

pub part_long : (at n : ℕ) (out : List ℕ) → at + n ≤ length out → length (take n (drop at out)) ≡ n
part_long at n out fits = omega (arith, length-take n (drop at out), length-drop at out)

-- THE table, written over both
pub symbols_put : (l : Link) (b : Planned) (old part new : List ℕ) → IsPlanned l b
    → length old ≡ (placement_of b).linkedit.signature.end
    → IsTableWritten (symbol_rows l (counts_of b) (placement_of b)) (take (both b) (drop (placement_of b).linkedit.symtab.start old)) part
    → new ≡ put_mid (placement_of b).linkedit.symtab.start (both b) old part → SymbolsArePut l (counts_of b) (placement_of b) old new
unfolding table_text
symbols_put l b old part new h long written is =
    let t = written.table in
    let full = fills l b t h written.rows_are in
    let entries : List ℕ = flat_map (spelling symtab_entry_rows) t.entries in
    let strings : List ℕ = t.strings in
    let at : ℕ = (placement_of b).linkedit.symtab.start in
    let ranges = has_room l b h in
    let many : length entries ≡ size_of symtab_entry * length t.entries = length-flat_map_same
    (spelling symtab_entry_rows) (size_of symtab_entry) t.entries (λ i d lt. (written.back i d lt).long) in
    let size : length (entries ++ strings) ≡ both b = omega (arith, length-append entries strings, many, full.behind, full.strings) in
    let room : at + both b ≤ length old = omega (arith, ranges.rises, ranges.inside, long) in
    let all : part ≡ entries ++ strings = written.is ∙ put_all (entries ++ strings) (take (both b) (drop at old))
    (size ∙ sym (part_long at (both b) old room)) in
    let one : new ≡ put at (entries ++ strings) old = is
    ∙ put_mid-whole at (both b) old (entries ++ strings) part (sym size) (omega (arith, size, room)) all in
    let behind : (placement_of b).linkedit.strtab.start ≡ at + length entries = full.behind ∙ ap (λ (n : ℕ). at + n) (sym many) in
    record {
      symbols = entries;
      strings = strings;
      is = one ∙ sym (put-put at (placement_of b).linkedit.strtab.start entries strings old behind
          (omega (arith, behind, room, size, length-append entries strings)));
      fits = omega (arith, many, full.symbols);
      fit = omega (arith, full.strings);
      says = record { table = t; rows = written.rows_are; entries_are = refl; strings_are = refl; back = written.back };
    }
