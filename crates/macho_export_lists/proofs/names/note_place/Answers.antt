use Rattle.std.proofs.Common.{◌≡◌, ap, sym, subst, ◌∙◌, false, ◌++◌, ◌∷◌, [], List, ℕ}
use Rattle.std.specs.List.{list_any}
use Rattle.std.specs.Str.{bytes_eq}
use Rattle.std.proofs.lemmas.List.{length-map}
use Rattle.macho_export_lists.specs.Entries.{texts_of}
use Rattle.macho_export_lists.specs.steps.Lists.{ArePlaces}
use Rattle.macho_export_lists.proofs.Places.{places_again, places_kept, places_more}
use Rattle.macho_export_lists.proofs.names.note_place.Goals as goal

pub returns-then-is_among-clause-noted : goal.returns-then-is_among-clause-noted
returns-then-is_among-clause-noted c =
    places_again (texts_of c.args.entries.now) c.args.name.now c.args.places.now c.requires (sym c.is_among.ensures ∙ c.if-is_among.true)

pub returns-clause-noted : goal.returns-clause-noted
returns-clause-noted c =
    let key = c.in_ok-key.ensures.items in
    let new : list_any (bytes_eq c.in_ok-key.key.items) (texts_of c.args.entries.now) ≡ false =
    ap (λ n. list_any (bytes_eq n) (texts_of c.args.entries.now)) key ∙ sym c.is_among.ensures ∙ c.if-is_among.false in
    subst (λ (n : List ℕ). ArePlaces (texts_of c.args.entries.now ++ n ∷ []) c.insert.new.self) key
    (places_more (texts_of c.args.entries.now) c.args.places.now c.insert.new.self c.in_ok-key.key _ c.requires
    (sym (length-map c.args.entries.now (λ v. v.items))) new
    c.in_ok-insert.ensures.updates)

pub returns-clause-kept : goal.returns-clause-kept
returns-clause-kept c =
    let new : list_any (bytes_eq c.in_ok-key.key.items) (texts_of c.args.entries.now) ≡ false =
    ap (λ n. list_any (bytes_eq n) (texts_of c.args.entries.now)) c.in_ok-key.ensures.items ∙ sym c.is_among.ensures
    ∙ c.if-is_among.false in
    places_kept
    (texts_of c.args.entries.now) c.args.places.now c.insert.new.self c.in_ok-key.key _ c.requires new c.in_ok-insert.ensures.updates
