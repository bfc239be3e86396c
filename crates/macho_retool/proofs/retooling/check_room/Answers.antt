-- Each test that passed excludes one more refusal.
use Rattle.std.proofs.Common.{◌∙◌, refl, subst, arith}
use Rattle.macho_retool.specs.Refusals.{IsFirstUsed}
use Rattle.macho_retool.proofs.Rooms.{none_tangled, room_is, room_inside, clear_to_6, clear_to_7, clear_to_8}
use Rattle.macho_retool.proofs.retooling.check_room.Goals as goal

pub returns-then-needed-room-clause-why : goal.returns-then-needed-room-clause-why
returns-then-needed-room-clause-why c =
    let b = c.args.bytes.now in
    let parts = c.deref.ensures.value ∙ c.in-Ok.ensures in
    let room = room_is b c.deref-2.result.now c.text_end.result c.commands_end-end.result c.room_before-room.result
    (c.deref-2.ensures.value ∙ c.in-Ok.ensures) c.text_end.ensures c.commands_end-end.ensures.value c.room_before-room.ensures in (
      (refl, room, c.if-needed-room.true),
      clear_to_6 b c.args.needed
          (λ place. none_tangled b c.deref.result.now c.commands_end-end.result c.args.form.limit place parts
          c.commands_end-end.ensures.value
          c.requires.limit (c.first_in_way.ensures.only c.in_default-first_in_way.is)),
    )

pub first_used-requires : goal.first_used-requires
first_used-requires c =
    let b = c.args.bytes.now in
    let room = room_is b c.deref-2.result.now c.text_end.result c.commands_end-end.result c.room_before-room.result
    (c.deref-2.ensures.value ∙ c.in-Ok.ensures) c.text_end.ensures c.commands_end-end.ensures.value c.room_before-room.ensures in
    let fits = c.if-needed-room.false in
    let inside = room_inside b c.requires.accepted in
    omega (arith, room, fits, inside)

pub returns-in-Some-first_used-clause-why : goal.returns-in-Some-first_used-clause-why
returns-in-Some-first_used-clause-why c =
    let b = c.args.bytes.now in
    let parts = c.deref.ensures.value ∙ c.in-Ok.ensures in
    let room = room_is b c.deref-2.result.now c.text_end.result c.commands_end-end.result c.room_before-room.result
    (c.deref-2.ensures.value ∙ c.in-Ok.ensures) c.text_end.ensures c.commands_end-end.ensures.value c.room_before-room.ensures in
    let fits = c.if-needed-room.false in
    let used = c.first_used.ensures.found c.in-Some-first_used.place c.in-Some-first_used.is in (
      subst (λ e. IsFirstUsed b e c.args.needed c.in-Some-first_used.place) c.commands_end-end.ensures.value used,
      clear_to_7 b c.args.needed
          (λ place. none_tangled b c.deref.result.now c.commands_end-end.result c.args.form.limit place parts
          c.commands_end-end.ensures.value
          c.requires.limit (c.first_in_way.ensures.only c.in_default-first_in_way.is)) (omega (arith, room, fits)),
    )

pub returns-clause-found : goal.returns-clause-found
returns-clause-found c =
    let b = c.args.bytes.now in
    let parts = c.deref.ensures.value ∙ c.in-Ok.ensures in
    let room = room_is b c.deref-2.result.now c.text_end.result c.commands_end-end.result c.room_before-room.result
    (c.deref-2.ensures.value ∙ c.in-Ok.ensures) c.text_end.ensures c.commands_end-end.ensures.value c.room_before-room.ensures in
    let fits = c.if-needed-room.false in
    let end = c.commands_end-end.ensures.value in
    clear_to_8 b c.args.needed
    (λ place. none_tangled b c.deref.result.now c.commands_end-end.result c.args.form.limit place parts c.commands_end-end.ensures.value
    c.requires.limit (c.first_in_way.ensures.only c.in_default-first_in_way.is)) (omega (arith, room, fits))
    (λ i from to. c.first_used.ensures.only c.in-None.is i (omega (arith, end, from)) to)
