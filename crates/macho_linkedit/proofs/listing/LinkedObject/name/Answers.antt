-- The name stands whole in the string table, so it is the bytes from its place on.
use Rattle.std.proofs.Common.{◌≡◌, ◌+◌, ◌-◌, ℕ, List, take, drop, length, sym, ap, ◌∙◌, arith}
use Rattle.std.proofs.lemmas.List.{nil_from_length}
use Rattle.macho_records.specs.declared.symbols.SymtabEntry.{SymtabEntry}
use Rattle.macho_model.specs.Objects.{strings_of, symbol_name}
use Rattle.macho_linkedit.proofs.Listed.{same_name, name_taken}
use Rattle.macho_linkedit.proofs.listing.LinkedObject.name.Goals as goal

pub returns-then-size-eq0 : goal.returns-then-size-eq0
returns-then-size-eq0 c index is =
    let b = c.args.self.now.file.bytes in
    let some = c.requires in
    sym (nil_from_length (symbol_name b index)
    (ap (λ (n : List ℕ). length n) (same_name b index some.0 (sym is ∙ some.1)) ∙ sym some.2 ∙ c.if-size-eq0.true))

pub slice_bounds-result-end-2 : goal.slice_bounds-result-end-2
slice_bounds-result-end-2 c =
    let b = c.args.self.now.file.bytes in
    let some = c.requires in
    let taken = name_taken b some.0 c.args.size some.2 c.if-size-eq0.false in
    omega (arith, taken.0, ap (λ (e : SymtabEntry). e.n_strx) some.1, ap (λ (xs : List ℕ). length xs) c.strings.ensures)

pub returns : goal.returns
returns c index is =
    let b = c.args.self.now.file.bytes in
    let some = c.requires in
    let at = c.args.symbol.n_strx in
    let size : at + c.args.size - at ≡ c.args.size = omega arith in
    let long : c.args.size ≡ length (symbol_name b index)
    = some.2 ∙ ap (λ (n : List ℕ). length n) (same_name b some.0 index (sym some.1 ∙ is)) in
    ap (λ (n : ℕ). take n (drop at c.strings.result.now)) size
    ∙ ap (λ (xs : List ℕ). take c.args.size (drop at xs)) c.strings.ensures
    ∙ ap (λ (e : SymtabEntry). take c.args.size (drop e.n_strx (strings_of b))) is
    ∙ (name_taken b index c.args.size long c.if-size-eq0.false).1
