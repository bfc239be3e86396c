-- The head is made of what the linker shows and of what was counted, so it is the link's.
use Rattle.std.proofs.Common.{arith, refl}
use Rattle.std.proofs.lemmas.Result.{on_ok_weaker}
use Rattle.macho_head.specs.declared.commands.HeadParts.{HeadParts}
use Rattle.macho_linking.specs.steps.Planned.{placement_of, counts_of}
use Rattle.macho_linking.proofs.Headed.{symbols_low, strings_low, IsHeadOf, head_parts, head_owed, head_written}
use Rattle.macho_promise_laws.proofs.Heads.{headers_stand, tables_low}
use Rattle.macho_linking.proofs.Ready.{planned_within}
use Rattle.macho_linking.proofs.sealing.write_head.Goals as goal

pub overflow_cast-parts-2 : goal.overflow_cast-parts-2
overflow_cast-parts-2 g c = omega (arith, symbols_low c.requires.link.0 c.args.b.now c.requires.link.1.planned)

pub overflow_cast-parts-3 : goal.overflow_cast-parts-3
overflow_cast-parts-3 g c = omega (arith, strings_low c.requires.link.0 c.args.b.now c.requires.link.1.planned)

pub write_image_head-requires-clause-split : goal.write_image_head-requires-clause-split
write_image_head-requires-clause-split g c =
    headers_stand c.requires.link.0 (counts_of c.args.b.now) (placement_of c.args.b.now) c.requires.link.1.planned.sized.placed

pub write_image_head-requires-clause-tables : goal.write_image_head-requires-clause-tables
write_image_head-requires-clause-tables g c =
    tables_low c.requires.link.0 (counts_of c.args.b.now) (placement_of c.args.b.now) c.requires.link.1.planned.sized.placed
    (planned_within c.requires.link.0 c.args.b.now c.requires.link.1.planned)

pub write_image_head-requires-clause-small : goal.write_image_head-requires-clause-small
write_image_head-requires-clause-small g c =
    let l = c.requires.link.0 in
    let b = c.args.b.now in
    let head : HeadParts = record {
      executable = c.is_executable.result;
      entry = c.entry_offset.result;
      uuid = c.stamped_uuid.result;
      versions = c.versions.result;
      install_name = c.install_name.result;
      libraries = b.libraries;
      rpaths = c.rpaths.result;
      trie_size = c.args.trie;
      symbols = (counts_of b).symbols;
      strings_size = (counts_of b).strings;
    } in
    let shown : IsHeadOf b head = record {
      executable = c.is_executable.ensures;
      versions = c.versions.ensures;
      install_name = c.install_name.ensures;
      libraries = refl;
      rpaths = c.rpaths.ensures;
      symbols = refl;
      strings = refl;
    } in
    let parts = head_parts l b head c.args.uuid c.requires.link.1.planned shown (c.entry_offset.ensures l c.requires.link.1)
    c.stamped_uuid.ensures in
    (head_owed l b head c.args.uuid c.requires.link.1.planned parts).small

pub write_image_head-requires-clause-room : goal.write_image_head-requires-clause-room
write_image_head-requires-clause-room g c =
    let l = c.requires.link.0 in
    let b = c.args.b.now in
    let head : HeadParts = record {
      executable = c.is_executable.result;
      entry = c.entry_offset.result;
      uuid = c.stamped_uuid.result;
      versions = c.versions.result;
      install_name = c.install_name.result;
      libraries = b.libraries;
      rpaths = c.rpaths.result;
      trie_size = c.args.trie;
      symbols = (counts_of b).symbols;
      strings_size = (counts_of b).strings;
    } in
    let shown : IsHeadOf b head = record {
      executable = c.is_executable.ensures;
      versions = c.versions.ensures;
      install_name = c.install_name.ensures;
      libraries = refl;
      rpaths = c.rpaths.ensures;
      symbols = refl;
      strings = refl;
    } in
    let parts = head_parts l b head c.args.uuid c.requires.link.1.planned shown (c.entry_offset.ensures l c.requires.link.1)
    c.stamped_uuid.ensures in
    let owed = head_owed l b head c.args.uuid c.requires.link.1.planned parts in
    omega (arith, owed.room, c.requires.long)

pub returns-clause-done : goal.returns-clause-done
returns-clause-done g c l looked =
    let b = c.args.b.now in
    let head : HeadParts = record {
      executable = c.is_executable.result;
      entry = c.entry_offset.result;
      uuid = c.stamped_uuid.result;
      versions = c.versions.result;
      install_name = c.install_name.result;
      libraries = b.libraries;
      rpaths = c.rpaths.result;
      trie_size = c.args.trie;
      symbols = (counts_of b).symbols;
      strings_size = (counts_of b).strings;
    } in
    let shown : IsHeadOf b head = record {
      executable = c.is_executable.ensures;
      versions = c.versions.ensures;
      install_name = c.install_name.ensures;
      libraries = refl;
      rpaths = c.rpaths.ensures;
      symbols = refl;
      strings = refl;
    } in
    let parts = head_parts l b head c.args.uuid looked.planned shown (c.entry_offset.ensures l looked) c.stamped_uuid.ensures in
    on_ok_weaker c.write_image_head.result (head_written l b head c.args.uuid c.args.out.now c.write_image_head.new.out looked.planned
    parts) (c.write_image_head.ensures.done l (counts_of b) c.args.uuid parts)
