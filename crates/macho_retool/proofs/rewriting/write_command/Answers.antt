-- The three texts stand one behind the other.
use Rattle.std.proofs.Common.{◌≡◌, ◌-◌, ◌∙◌, [], ◌∷◌, length, slice_range, arith, refl}
use Rattle.std.proofs.lemmas.List.Edits.{length-between}
use Rattle.macho_bytes.specs.Numbers.{little, row_bytes}
use Rattle.macho_bytes.proofs.Numbers.{length-row_little}
use Rattle.macho_retool.specs.Changes.{command_number, record_size, path_for}
use Rattle.macho_retool.proofs.Writes.{front_put, record_is}
use Rattle.macho_retool.proofs.rewriting.write_command.Goals as goal

pub returns : goal.returns
returns c =
    let change = c.args.change.now in
    let old = c.args.old.now in
    let size = c.args.size in
    let numbers = row_bytes little 4 (command_number change ∷ size ∷ record_size change ∷ []) in
    let kept = slice_range old 12 (record_size change) in
    let long : length kept ≡ record_size change - 12 = length-between old 12 (record_size change) c.requires.old in
    let more = record_is change in
    let room = c.requires.room in
    front_put numbers kept (path_for change) c.args.out.now c.put_littles.new.out c.put_text.new.out c.put_text-2.new.out
    (record_size change)
    (length-row_little 4 (command_number change ∷ size ∷ record_size change ∷ [])) (omega (arith, long, more)) room
    (c.put_littles.ensures.written ∙ rw (c.command_number.ensures, c.record_size-record.ensures) refl)
    (c.put_text.ensures ∙ rw c.record_size-record.ensures refl)
    (c.put_text-2.ensures ∙ rw (c.path.ensures, c.record_size-record.ensures) refl)
