-- What the code finds of the symbol is what the link's definition asks, test by test.
use Rattle.std.proofs.Common.{◌≡◌, ℕ, ◌&&◌, false, true, not, Some, List, length, sym, ap, subst, ◌∙◌, arith}
use Rattle.macho_records.specs.declared.symbols.SymtabEntry.{SymtabEntry}
use Rattle.macho_records.specs.Symbols.{is_global}
use Rattle.macho_records.specs.Flags.{has_any}
use Rattle.macho_records.specs.declared.constants.TheConstants.{N_EXT}
use Rattle.macho_model.specs.Objects.{strings_of, symbol_at, symbol_name}
use Rattle.macho_symbols.specs.Kept.{symbol_id}
use Rattle.macho_symbol_names.proofs.Entries.{some_if}
use Rattle.macho_linkedit.specs.steps.Names.{AreNames}
use Rattle.macho_linkedit.specs.steps.Listing.{is_label}
use Rattle.macho_linkedit.proofs.Listed.{global_is, local_is, label_is, name_small, found_name, own_names}
use Rattle.macho_linkedit.proofs.listing.listed_name.Goals as goal

pub name-requires : goal.name-requires
name-requires c = own_names (strings_of c.args.object.now.file.bytes) c.args.names.now c.requires.names

pub returns-then-not-defines : goal.returns-then-not-defines
returns-then-not-defines c = record {
  is = λ l noted resolved at.
      let entry : c.in-Some.symbol ≡ symbol_at c.args.object.now.file.bytes c.args.index = (some_if _ _ _ c.in-Some.ensures).1 in
      sym (global_is l c.args.object.now.number c.args.index c.args.object.now.file.bytes false at
      (sym c.is_defined_symbol.ensures ∙ c.if-not-is_defined_symbol.false)
      (ap is_global (sym entry) ∙ sym c.is_global.ensures ∙ c.if-is_global.true)
      (sym c.if-not-defines.true ∙ c.defines.ensures l noted resolved));
  kept = c.requires.names;
}

pub returns-then-is_global : goal.returns-then-is_global
returns-then-is_global c = record {
  is = λ l noted resolved at.
      let b = c.args.object.now.file.bytes in
      let id = symbol_id c.args.object.now.number c.args.index in
      let entry : c.in-Some.symbol ≡ symbol_at b c.args.index = (some_if _ _ _ c.in-Some.ensures).1 in
      let global : is_global (symbol_at b c.args.index) ≡ true
      = ap is_global (sym entry) ∙ sym c.is_global.ensures ∙ c.if-is_global.true in
      let long : c.name_length.result ≡ length (symbol_name b c.args.index)
      = c.name_length.ensures l noted resolved (ap (λ (x : List ℕ). is_global (symbol_at x c.args.index)) at ∙ global)
      ∙ ap (λ (x : List ℕ). length (symbol_name x c.args.index)) at in
      ap (λ (n : ℕ). Some n) long
      ∙ sym (global_is l c.args.object.now.number c.args.index b true at
      (sym c.is_defined_symbol.ensures ∙ c.if-not-is_defined_symbol.false) global
      (sym c.if-not-defines.false ∙ c.defines.ensures l noted resolved));
  kept = c.requires.names;
}

pub returns-then-is_default_strippable : goal.returns-then-is_default_strippable
returns-then-is_default_strippable c = record {
  is = λ l noted resolved at.
      let b = c.args.object.now.file.bytes in
      let entry : c.in-Some.symbol ≡ symbol_at b c.args.index = (some_if _ _ _ c.in-Some.ensures).1 in
      let defined = sym c.is_defined_symbol.ensures ∙ c.if-not-is_defined_symbol.false in
      let name = found_name c.args.names.now b c.args.index c.in-Some.symbol c.in_ok-name.name.now c.requires.names entry defined
      c.in_ok-name.ensures.found in
      let local = ap is_global (sym entry) ∙ sym c.is_global.ensures ∙ c.if-is_global.false in
      let label : is_label (symbol_name b c.args.index) ≡ true
      = sym (label_is b c.args.index (symbol_name b c.args.index) defined local)
      ∙ ap (λ (e : SymtabEntry). not (has_any N_EXT e.n_type) && is_label (symbol_name b c.args.index)) (sym entry)
      ∙ ap (λ (n : List ℕ). not (has_any N_EXT c.in-Some.symbol.n_type) && is_label n) (sym name)
      ∙ sym c.is_default_strippable.ensures ∙ c.if-is_default_strippable.true in
      sym (local_is l c.args.object.now.number c.args.index b false at defined local (sym (ap not label)));
  kept = subst (λ (xs : List ℕ). AreNames xs c.name.new.self) c.requires.names.strings_are c.in_ok-name.ensures.kept;
}

pub overflow_cast-result : goal.overflow_cast-result
overflow_cast-result c =
    let b = c.args.object.now.file.bytes in
    let entry : c.in-Some.symbol ≡ symbol_at b c.args.index = (some_if _ _ _ c.in-Some.ensures).1 in
    let name = found_name c.args.names.now b c.args.index c.in-Some.symbol c.in_ok-name.name.now c.requires.names entry
    (sym c.is_defined_symbol.ensures ∙ c.if-not-is_defined_symbol.false) c.in_ok-name.ensures.found in
    omega (arith, ap length name, name_small _ b c.args.index c.is_dynamic-object.ensures.kept)

pub returns : goal.returns
returns c = record {
  is = λ l noted resolved at.
      let b = c.args.object.now.file.bytes in
      let entry : c.in-Some.symbol ≡ symbol_at b c.args.index = (some_if _ _ _ c.in-Some.ensures).1 in
      let defined = sym c.is_defined_symbol.ensures ∙ c.if-not-is_defined_symbol.false in
      let name = found_name c.args.names.now b c.args.index c.in-Some.symbol c.in_ok-name.name.now c.requires.names entry defined
      c.in_ok-name.ensures.found in
      let local = ap is_global (sym entry) ∙ sym c.is_global.ensures ∙ c.if-is_global.false in
      let label : is_label (symbol_name b c.args.index) ≡ false
      = sym (label_is b c.args.index (symbol_name b c.args.index) defined local)
      ∙ ap (λ (e : SymtabEntry). not (has_any N_EXT e.n_type) && is_label (symbol_name b c.args.index)) (sym entry)
      ∙ ap (λ (n : List ℕ). not (has_any N_EXT c.in-Some.symbol.n_type) && is_label n) (sym name)
      ∙ sym c.is_default_strippable.ensures ∙ c.if-is_default_strippable.false in
      ap (λ (n : List ℕ). Some (length n)) name
      ∙ sym (local_is l c.args.object.now.number c.args.index b true at defined local (sym (ap not label)));
  kept = subst (λ (xs : List ℕ). AreNames xs c.name.new.self) c.requires.names.strings_are c.in_ok-name.ensures.kept;
}
