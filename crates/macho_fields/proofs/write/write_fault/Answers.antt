-- Whether a number fits rests on its field's width alone, so it doesn't fit in the section's bytes either.
use Rattle.std.proofs.Common.{◌≡◌, ℕ, false, List, refl, sym, ap, ◌∙◌}
use Rattle.std.proofs.lemmas.Bool.{true≢false}
use Rattle.macho_bytes.specs.Numbers.{le_at}
use Rattle.macho_arm64.specs.declared.kinds.FieldSize.{FieldSize}
use Rattle.macho_arm64.specs.Fields.{can_hold}
use Rattle.macho_fields.specs.declared.write.FieldWrite.{FieldWrite}
use Rattle.macho_fields.specs.steps.Writes.{IsNumber, DoesNotHold}
use Rattle.macho_fields.proofs.write.write_fault.Goals as goal

not_held : (w : FieldWrite) (bytes : List ℕ) (word : ℕ) → IsNumber w → can_hold w.size word w.value ≡ false → DoesNotHold w bytes
not_held w bytes word number none = record {
  mid = bytes;
  ready = record { kept = λ plain. refl; made = λ relax. absurd (true≢false (sym relax ∙ number.plain)) };
  no_room = ap (λ (s : FieldSize). can_hold s (le_at 4 bytes w.at) w.value) number.bytes
      ∙ sym (ap (λ (s : FieldSize). can_hold s word w.value) number.bytes) ∙ none;
}

pub returns-in-Err : goal.returns-in-Err
returns-in-Err c = not_held c.args.write.now c.args.bytes.now _ c.requires c.in-Err.ensures.why
