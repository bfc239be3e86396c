use Rattle.std.proofs.Common.{◌≡◌, ℕ, sym, ◌∙◌, Option, Some, None, is_some, List}
use Rattle.memchr.specs.Find.{IsFirstByte, is_byte}
use Rattle.macho_export_lists.specs.steps.Lines.{is_pattern}
use Rattle.macho_model.specs.ExportLists.{STAR}
use Rattle.macho_export_lists.proofs.Trims.{some_byte, no_byte}
use Rattle.macho_export_lists.proofs.entries.is_pattern.Goals as goal

of : (entry : List ℕ) (r : Option ℕ) → IsFirstByte (is_byte STAR) entry r → is_some r ≡ is_pattern entry
of entry None none = sym (no_byte STAR entry none)
of entry (Some n) first = sym (some_byte STAR entry n first.0.high first.1)

pub returns : goal.returns
returns c = c.is_some.ensures ∙ of c.args.entry.now c.memchr.result c.memchr.ensures
