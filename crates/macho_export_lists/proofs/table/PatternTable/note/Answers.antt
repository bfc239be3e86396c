use Rattle.std.proofs.Common.{◌≡◌, sym, subst, ◌∙◌, length, false}
use Rattle.std.proofs.lemmas.List.{length-map}
use Rattle.std.specs.List.{list_any}
use Rattle.std.specs.Str.{bytes_eq}
use Rattle.macho_export_lists.specs.Entries.{texts_of}
use Rattle.macho_export_lists.specs.steps.Indexed.{IsNotedIn}
use Rattle.macho_export_lists.proofs.Indexed.{indexed_again, indexed_more}
use Rattle.macho_export_lists.proofs.UpTo.{on_ok}
use Rattle.macho_export_lists.proofs.table.PatternTable.note.Goals as goal

pub returns-then-is_among-clause-noted : goal.returns-then-is_among-clause-noted
returns-then-is_among-clause-noted c =
    indexed_again (texts_of c.args.patterns.now) c.args.pattern.now c.args.self.now c.requires (sym c.is_among.ensures ∙ c.if-is_among.true)

pub returns-clause-noted : goal.returns-clause-noted
returns-clause-noted c =
    let patterns = texts_of c.args.patterns.now in
    let unknown : list_any (bytes_eq c.args.pattern.now) patterns ≡ false = sym c.is_among.ensures ∙ c.if-is_among.false in
    let noted : IsNotedIn c.note_part.new.self c.args.pattern.now (length patterns) =
    subst (λ n. IsNotedIn c.note_part.new.self c.args.pattern.now n) (sym (length-map c.args.patterns.now (λ v. v.items)))
    c.in_ok-note_part.ensures.noted in
    let more = indexed_more patterns c.args.pattern.now c.args.self.now c.note_part.new.self c.requires c.in_ok-note_part.ensures.kept
    unknown noted in
    on_ok c.note_place.result (λ are. record { are = are; noted = more }) c.note_place.ensures.noted
