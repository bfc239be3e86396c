use Rattle.std.proofs.Common.{◌≡◌, ◌<◌, ◌≤◌, ap, sym, ◌∙◌, length, get_or, [], arith}
use Rattle.std.specs.Str.{bytes_eq}
use Rattle.std.proofs.lemmas.Bool.{le-ltb}
use Rattle.std.proofs.lemmas.List.{get_or-map, length-map}
use Rattle.macho_export_lists.specs.Entries.{texts_of}
use Rattle.macho_export_lists.proofs.Places.{among, among_past}
use Rattle.macho_export_lists.proofs.names.is_among.Goals as goal

pub returns-then-place-entries : goal.returns-then-place-entries
returns-then-place-entries c =
    let vs = c.args.entries.now in
    let place = c.in-Some.place.now in
    let within : place < length vs = c.if-place-entries.true in
    let item : c.as_slice.result.now ≡ get_or (texts_of vs) place [] =
    c.as_slice.ensures.value ∙ ap (λ v. v.items) c.index-entries-place.is
    ∙ sym (get_or-map (λ v. v.items) vs place c.index-entries-place.result [] within) in
    c.eq.ensures ∙ ap (λ e. bytes_eq e c.args.name.now) item
    ∙ among (texts_of vs) c.args.name.now place (λ is. c.in-Some.ensures.value ∙ c.requires.found c.args.name.now is)
    (omega (arith, within, length-map vs (λ v. v.items)))

pub returns-else-place-entries : goal.returns-else-place-entries
returns-else-place-entries c =
    let vs = c.args.entries.now in
    let past : length vs ≤ c.in-Some.place.now = c.if-place-entries.false in
    le-ltb _ _ past
    ∙ sym (among_past (texts_of vs) c.args.name.now c.in-Some.place.now
    (λ is. c.in-Some.ensures.value ∙ c.requires.found c.args.name.now is) (omega (arith, past, length-map vs (λ v. v.items))))
