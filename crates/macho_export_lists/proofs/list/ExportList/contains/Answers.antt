use Rattle.std.proofs.Common.{◌≡◌, ◌||◌, ap, ◌∙◌, true, false, Bool}
use Rattle.std.specs.List.{list_any}
use Rattle.std.specs.Str.{bytes_eq}
use Rattle.macho_model.specs.ExportLists.{matches}
use Rattle.macho_export_lists.specs.Entries.{is_within, texts_of}
use Rattle.macho_export_lists.proofs.Listed.{listed_is}
use Rattle.macho_export_lists.proofs.list.ExportList.contains.Goals as goal

first : (a b t r : Bool) → r ≡ a → r ≡ true → (a || b) ≡ t → r ≡ t
first true b t r is is_true e = is_true ∙ e
first false b t r is none e = absurd cc

second : (a b t r s : Bool) → r ≡ a → r ≡ false → s ≡ b → (a || b) ≡ t → s ≡ t
second true b t r s is none here e = absurd cc
second false b t r s is none here e = here ∙ e

pub returns-then-is_among-clause-within : goal.returns-then-is_among-clause-within
returns-then-is_among-clause-within c =
    first _ _ _ _
    (c.is_among.ensures ∙ ap (λ vs. list_any (bytes_eq c.args.name.now) (texts_of vs)) c.deref.ensures.value) c.if-is_among.true
    (ap (λ e. is_within e c.args.name.now) c.self.view_is)

pub returns-then-is_among-clause-listed : goal.returns-then-is_among-clause-listed
returns-then-is_among-clause-listed c texts list =
    first _ _ _ _
    (c.is_among.ensures ∙ ap (λ vs. list_any (bytes_eq c.args.name.now) (texts_of vs)) c.deref.ensures.value) c.if-is_among.true
    (ap (λ e. is_within e c.args.name.now) c.self.view_is ∙ listed_is texts c.args.self.now c.args.name.now list)

pub returns-else-is_among-clause-within : goal.returns-else-is_among-clause-within
returns-else-is_among-clause-within c =
    second _ _ _ _ _ (c.is_among.ensures ∙ ap (λ vs. list_any (bytes_eq c.args.name.now) (texts_of vs)) c.deref.ensures.value)
    c.if-is_among.false
    (c.has_match.ensures ∙ ap (λ vs. list_any (λ p. matches p c.args.name.now) (texts_of vs)) c.deref-else-is_among.ensures.value)
    (ap (λ e. is_within e c.args.name.now) c.self.view_is)

pub returns-else-is_among-clause-listed : goal.returns-else-is_among-clause-listed
returns-else-is_among-clause-listed c texts list =
    second _ _ _ _ _ (c.is_among.ensures ∙ ap (λ vs. list_any (bytes_eq c.args.name.now) (texts_of vs)) c.deref.ensures.value)
    c.if-is_among.false
    (c.has_match.ensures ∙ ap (λ vs. list_any (λ p. matches p c.args.name.now) (texts_of vs)) c.deref-else-is_among.ensures.value)
    (ap (λ e. is_within e c.args.name.now) c.self.view_is ∙ listed_is texts c.args.self.now c.args.name.now list)
