-- Whether the import of a number has the names of another: both are compared byte by byte.
use Rattle.std.proofs.Common.{map, sym, ◌∙◌}
use Rattle.std.proofs.lemmas.Bool.{OnTrue_from}
use Rattle.macho_bytes.proofs.Comparing.{same_bytes}
use Rattle.std.proofs.lemmas.Slice.Eq.{bytes_eq-Decides}
use Rattle.macho_loader.specs.Lists.{import_of}
use Rattle.macho_image_rules.specs.steps.Entries.{IsEntry}
use Rattle.macho_image_rules.proofs.Entries.{is_entry, entry_is}
use Rattle.macho_image_rules.proofs.words.is_entry.Goals as goal

pub returns-then-eq-clause-found : goal.returns-then-eq-clause-found
returns-then-eq-clause-found c =
    let libraries = map (λ n. n.now) c.args.libraries.now in
    let lookup = c.in-Some.ensures.lookup in
    OnTrue_from c.eq-then-eq.result
    (IsEntry (map import_of c.args.imports.now) libraries c.args.number c.args.wanted.now.library.now c.args.wanted.now.name.now) (λ has.
    is_entry c.args.imports.now libraries c.args.number c.in-Some.entry.now c.args.wanted.now.library.now c.args.wanted.now.name.now
    lookup.3.0 lookup.1 (same_bytes c.in-Some.entry.now.name.now c.args.wanted.now.name.now (sym c.eq.ensures ∙ c.if-eq.true))
    (sym c.library_name.ensures
    ∙ same_bytes c.library_name.result.now c.args.wanted.now.library.now (sym c.eq-then-eq.ensures ∙ has)))

pub returns-then-eq-clause-only : goal.returns-then-eq-clause-only
returns-then-eq-clause-only c = λ has.
    let libraries = map (λ n. n.now) c.args.libraries.now in
    let lookup = c.in-Some.ensures.lookup in
    let both = entry_is c.args.imports.now libraries c.args.number c.in-Some.entry.now c.args.wanted.now.library.now
    c.args.wanted.now.name.now lookup.3.0 lookup.1 has in
    c.eq-then-eq.ensures
    ∙ (bytes_eq-Decides c.library_name.result.now c.args.wanted.now.library.now).1 (c.library_name.ensures ∙ both.1)

pub returns-else-eq-clause-only : goal.returns-else-eq-clause-only
returns-else-eq-clause-only c = λ has.
    let libraries = map (λ n. n.now) c.args.libraries.now in
    let lookup = c.in-Some.ensures.lookup in
    let both = entry_is c.args.imports.now libraries c.args.number c.in-Some.entry.now c.args.wanted.now.library.now
    c.args.wanted.now.name.now lookup.3.0 lookup.1 has in
    c.eq.ensures ∙ (bytes_eq-Decides c.in-Some.entry.now.name.now c.args.wanted.now.name.now).1 both.0
