-- The entry of the import stands among the plain ones; the new one is that, but for the addend.
use Rattle.std.proofs.Common.{get_or, ap, length, ◌∙◌, ℕ, ◌<◌}
use Rattle.std.specs.Int.{w32, cast_unsigned}
use Rattle.std.proofs.lemmas.Int.{of_z-to_z}
use Rattle.std.proofs.lemmas.List.{get_or_default}
use Rattle.macho_bytes.specs.Numbers.{signed}
use Rattle.macho_fixups.specs.declared.imports.ImportEntry.{ImportEntry}
use Rattle.macho_symbols.specs.declared.solved.OwnEntry.{OwnEntry}
use Rattle.macho_linkedit.proofs.Entries.{own_more, among_plain}
use Rattle.macho_linkedit.proofs.imports.add_own.Goals as goal

pub loop-entry-preserved : goal.loop-entry-preserved
loop-entry-preserved c =
    let plain = c.args.entries.now.items in
    let own = c.args.own.now in
    let n = c.loop-entry.entry-index in
    let o : OwnEntry = get_or own n (record { import = 0; addend = 0 }) in
    let within : o.import < length plain = c.requires.among n (record { import = 0; addend = 0 }) c.loop-entry-test.true in
    let same = λ
    (d : ImportEntry). among_plain plain c.loop-entry.invariant.rest c.loop-entry.entries.items o.import d c.index-plain.result.now
    c.loop-entry.invariant.are within c.index-plain.ensures in
    own_more plain own n c.loop-entry.entries.items c.push.new.self.items o _ c.loop-entry.invariant c.loop-entry-test.true
    (get_or_default own n (record { import = 0; addend = 0 }) o c.loop-entry-test.true) c.in_ok-push.ensures.items (record {
      library = λ d. ap (λ (e : ImportEntry). e.library) (same d);
      place = λ d. ap (λ (e : ImportEntry). e.name_offset) (same d);
      addend =
          ap (λ (x : ℕ). signed 32 x) (of_z-to_z w32 (cast_unsigned w32 c.small_addend.result) c.small_addend.ensures.small)
          ∙ c.small_addend.ensures.is;
    })
