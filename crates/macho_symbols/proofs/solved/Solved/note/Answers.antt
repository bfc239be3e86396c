use Rattle.std.proofs.Common.{◌≡◌, ◌+◌, Some, ap, sym, ◌∙◌, refl, arith, [], ◌∷◌, length, Vec, vec_len, Result, Ok, Err, OnErr, length-append, length-set}
use Rattle.std.proofs.lemmas.List.{map-append, length-map}
use Rattle.std.proofs.lemmas.List.Elements.{All-push}
use Rattle.macho_symbols.specs.steps.Solved.{IsUnchanged, IsImportIn, library_in}
use Rattle.macho_symbols.specs.Kept.{noted_of}
use Rattle.macho_symbols.specs.declared.solved.Import.{Import}
use Rattle.macho_symbols.specs.Targets.{definition_by}
use Rattle.macho_model.specs.Resolution.{Library}
use Rattle.macho_symbol_names.specs.Tables.{heads_of, names_of, entry_name}
use Rattle.macho_symbol_names.specs.Events.{events, best_of}
use Rattle.macho_symbol_names.proofs.KnowingBetter.{apart_any}
use Rattle.macho_symbols.proofs.NotingUses.{import_offered, numbers_more}
use Rattle.macho_symbols.proofs.solved.Solved.note.Goals as goal

on_err : {X E : Type 0} (r : Result X E) (P : Type 0) → P → OnErr r P
on_err (Ok x) P p = tt
on_err (Err e) P p = p

pub returns-in_err-push-clause-kept : goal.returns-in_err-push-clause-kept
returns-in_err-push-clause-kept c =
    let s = c.args.self.now in
    let same : IsUnchanged s
    (record { files = s.files; table = s.table; found = s.found; commons = s.commons; imports = c.push.new.self; numbers = s.numbers }) =
    record {
      files = refl;
      heads = refl;
      entries = refl;
      found = refl;
      commons = refl;
      imports = c.in_err-push.ensures.items;
      numbers = refl;
    } in
    on_err _ _ same

vec_len_is : {X A : Type 0} (v : Vec X A) → vec_len v ≡ length v.items
vec_len_is v = omega arith

pub returns-clause-solved : goal.returns-clause-solved
returns-clause-solved c =
    let s = c.args.self.now in
    let name = c.args.name.items in
    let of_name = c.requires.entry in
    let offered = import_offered s name _ _ c.requires.solved of_name c.requires.import in
    let long = length-map s.table.entries.items (entry_name s.files.items) in
    let told : c.len.result ≡ length s.imports.items = c.len.ensures ∙ vec_len_is s.imports in
    let next : c.len-id.result ≡ length s.imports.items = c.len-id.ensures ∙ vec_len_is s.imports in
    let noted_long = length-map s.imports.items (λ i. i.name.items) in
    let grown : length c.push.new.self.items ≡ length s.imports.items + 1 = ap length c.in_ok-push.ensures.items
    ∙ length-append s.imports.items _ in
    let binds : definition_by name (best_of name (events s.files.items)) ≡ Some (Library c.entry-library.result.file) =
    offered.0 ∙ ap (λ e. Some (Library e.file)) (sym c.entry-library.ensures) in
    let owner : c.in_ok-from_slice.field-0.items ≡ library_in s.files.items c.entry-library.result.file =
    c.in_ok-from_slice.ensures.items ∙ c.library_in.ensures
    ∙ ap (λ fs. library_in fs c.entry-library.result.file) c.deref.ensures.value in
    record {
      known = c.requires.solved.known;
      found = c.requires.solved.found;
      commons = c.requires.solved.commons;
      few_commons = c.requires.solved.few_commons;
      few_imports = omega (arith, grown, told, c.if-len.false);
      libraries = rw c.in_ok-push.ensures.items
          (All-push (IsImportIn s.files.items) s.imports.items _ c.requires.solved.libraries (binds, owner));
      long = length-set s.numbers.items c.args.number c.len-id.result ∙ c.requires.solved.long;
      numbers = rw (c.in_ok-push.ensures.items, map-append (λ (i : Import). i.name.items) s.imports.items (_ ∷ []))
          (numbers_more (names_of s.files.items s.table.entries.items)
          (noted_of s.imports.items) s.numbers.items name c.args.number c.len-id.result
          c.requires.solved.numbers (c.requires.solved.long ∙ sym long) (omega (arith, of_name.0, long)) of_name.1
          (λ j h other same. apart_any s.files.items (heads_of s.table) s.table.entries.items j c.args.number
          c.requires.solved.known.table (omega (arith, h, long)) of_name.0 other same)
          offered.1 (next ∙ sym noted_long) (omega (arith, told, noted_long, c.if-len.false)));
    }

pub returns-clause-grown : goal.returns-clause-grown
returns-clause-grown c = record
    { files = refl; heads = refl; entries = refl; found = refl; commons = refl; more = _ ∷ []; imports = c.in_ok-push.ensures.items }
