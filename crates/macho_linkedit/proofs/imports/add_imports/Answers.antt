-- The entry of an import says the length of the names before it; then its name is added.
use Rattle.std.proofs.Common.{◌≡◌, ℕ, ◌+◌, List, [], ◌∷◌, ◌++◌, arith, length, ap, ◌∙◌, pos}
use Rattle.std.proofs.lemmas.List.{append_assoc}
use Rattle.std.specs.Str.{bytes_eq}
use Rattle.std.specs.List.{position_or_len}
use Rattle.macho_fixups.specs.declared.imports.ImportEntry.{ImportEntry}
use Rattle.macho_linkedit.specs.Imports.{texts}
use Rattle.macho_linkedit.proofs.Entries.{plain_more, names_short}
use Rattle.macho_linkedit.proofs.imports.add_imports.Goals as goal

pub overflow_cast-len : goal.overflow_cast-len
overflow_cast-len c =
    omega (
      arith,
      c.len.ensures,
      ap length c.loop-import.invariant.text,
      names_short c.args.imports.now c.loop-import.import-index,
      c.requires.short,
    )

pub loop-import-preserved : goal.loop-import-preserved
loop-import-preserved c =
    let long : c.len.result ≡ length c.loop-import.names.items = omega (arith, c.len.ensures) in
    let library = c.library_number.ensures.is ∙ ap
    (λ (x : List ℕ). position_or_len (bytes_eq x) (texts c.args.libraries.now) + 1) c.deref.ensures.value in
    plain_more (texts c.args.libraries.now) c.args.imports.now c.loop-import.import-index c.loop-import.entries.items c.push.new.self.items
    c.loop-import.names.items c.push-in-loop-import.new.self.items c.import-item.result _ c.loop-import.invariant c.loop-import-test.true
    c.import-item.is
    (ap (λ (n : ℕ). let e : ImportEntry = record { library = n; name_offset = c.len.result; addend = pos 0 } in e) library
    ∙ ap (λ (n : ℕ). let e : ImportEntry = record {
      library = position_or_len (bytes_eq c.import-item.result.library.items) (texts c.args.libraries.now) + 1;
      name_offset = n;
      addend = pos 0;
    } in e) long)
    c.in_ok-push.ensures.items
    (c.in_ok-push-2.ensures.items
    ∙ ap (λ (x : List ℕ). x ++ 0 ∷ [])
    (c.in_ok-extend_from_slice.ensures.items ∙ ap (λ (x : List ℕ). c.loop-import.names.items ++ x) c.deref-in-loop-import.ensures.value)
    ∙ append_assoc c.loop-import.names.items c.import-item.result.name.items (0 ∷ []))
