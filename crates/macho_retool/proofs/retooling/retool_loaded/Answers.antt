-- What is found may be changed where the room is clear, and what is written is the changed image.
use Rattle.std.proofs.Common.{◌∙◌, ap, arith}
use Rattle.macho_model.specs.Commands.{command_at}
use Rattle.macho_retool.specs.declared.rewriting.Place.{Place}
use Rattle.macho_retool.specs.steps.Rewritten.{signed_at, unsigned}
use Rattle.macho_retool.proofs.Told.{room_told, room_clear, ready_is}
use Rattle.macho_retool.proofs.Places.{named_ends, place_fits}
use Rattle.macho_retool.proofs.retooling.retool_loaded.Goals as goal

pub place_of-place-requires : goal.place_of-place-requires
place_of-place-requires c =
    named_ends c.args.change.now c.args.bytes.now (command_at c.args.bytes.now c.in-Ok.found.0) c.requires.accepted
    c.in-Ok.ensures.found.named

pub returns-in-Err-check_room-clause-why : goal.returns-in-Err-check_room-clause-why
returns-in-Err-check_room-clause-why c =
    let b = c.args.bytes.now in
    let change = c.args.change.now in
    let command = command_at b c.in-Ok.found.0 in
    let is = c.in-Ok.ensures.found in
    let end = ap (λ (p : Place). p.new_end) c.place_of-place.ensures in
    let told = c.in-Err-check_room.ensures.why in (
      room_told b change command c.place_of-place.result.new_end c.in-Err-check_room.fault is.named end told.0,
      room_clear b change command is.table c.place_of-place.result.new_end _ c.requires.accepted c.requires.name is.named is.formed
          end told.1,
    )

pub rewritten-requires : goal.rewritten-requires
rewritten-requires c =
    let b = c.args.bytes.now in
    let change = c.args.change.now in
    let command = command_at b c.in-Ok.found.0 in
    let is = c.in-Ok.ensures.found in
    let end = ap (λ (p : Place). p.new_end) c.place_of-place.ensures in
    let ready = ready_is b change command is.table c.place_of-place.result.new_end c.requires.accepted c.requires.name is.named
    is.formed end
    c.in-Ok-check_room.ensures.found in
    place_fits change b command is.table c.place_of-place.result c.in-Ok.found.1 ready is.says (omega arith) c.place_of-place.ensures

pub returns-in-Ok-rewritten-clause-found : goal.returns-in-Ok-rewritten-clause-found
returns-in-Ok-rewritten-clause-found c =
    let b = c.args.bytes.now in
    let change = c.args.change.now in
    let command = command_at b c.in-Ok.found.0 in
    let is = c.in-Ok.ensures.found in
    let end = ap (λ (p : Place). p.new_end) c.place_of-place.ensures in
    let clear = c.in-Ok-check_room.ensures.found in
    record {
      command = command;
      table = is.table;
      form = c.in-Ok.found.1;
      ready = ready_is b change command is.table c.place_of-place.result.new_end c.requires.accepted c.requires.name is.named is.formed end
          clear;
      says = is.says;
      small = omega arith;
      clear = room_clear b change command is.table c.place_of-place.result.new_end 8 c.requires.accepted c.requires.name is.named is.formed
          end clear;
      is = c.in-Ok-rewritten.ensures ∙ ap (λ (p : Place). signed_at c.in-Ok.found.1 (unsigned change b p)) c.place_of-place.ensures;
    }
