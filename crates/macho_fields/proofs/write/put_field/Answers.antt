use Rattle.std.proofs.Common.{◌≡◌, ◌+◌, ◌≤◌, true, length, arith, rules}
use Rattle.macho_arm64.specs.Fields.{width_of, is_field, field_at}
use Rattle.macho_fields.proofs.Puts.{changes_put, changes_both, field_is_wide}
use Rattle.macho_fields.proofs.write.put_field.Goals as goal

pub returns-in-Ok-clause-done : goal.returns-in-Ok-clause-done
returns-in-Ok-clause-done c =
    let w = c.args.write.now in
    let there : (is_field w.size ≡ true) × (w.at + width_of w.size ≤ length c.args.out.now) = c.has_room.ensures.yes (search rules) in
    let still : w.at + width_of w.size ≤ length c.make_ready.new.out = omega (arith, there.1, c.in_ok-make_ready.ensures.rest.long) in
    record {
      inside = there.1;
      field = there.0;
      mid = c.make_ready.new.out;
      ready = c.in_ok-make_ready.ensures.done;
      room = c.in-Ok.ensures.found;
      holds = c.in-Ok.ensures.done;
      changes =
          changes_both w.at 4 (width_of w.size) c.args.out.now c.make_ready.new.out c.write_field.new.bytes
          (field_is_wide w.size there.0) c.in_ok-make_ready.ensures.rest
          (changes_put w.at (width_of w.size) (field_at w.size c.write_field.new.bytes w.at) c.make_ready.new.out c.write_field.new.bytes
          still c.in-Ok.ensures.outside);
    }
