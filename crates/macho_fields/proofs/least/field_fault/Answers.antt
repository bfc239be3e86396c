-- A pointer, or a difference of two addresses, is a number in bytes.
use Rattle.std.proofs.Common.{◌≡◌, ℕ, Bool, true, false, refl, sym, subst}
use Rattle.std.specs.Prelude.{is_some}
use Rattle.macho_records.specs.declared.constants.TheConstants.{ARM64_RELOC_UNSIGNED}
use Rattle.macho_model.specs.Fields.{Field}
use Rattle.macho_model.specs.Stands.{Kind, Pointer, Difference}
use Rattle.macho_fields.specs.Looks.{Look}
use Rattle.macho_fields.specs.steps.Fields.{seen, kind_in, write_in}
use Rattle.macho_fields.specs.steps.Filled.{place_in, start_in}
use Rattle.macho_fields.specs.steps.Writes.{IsNumber}
use Rattle.macho_fields.proofs.least.field_fault.Goals as goal

is_number : (look : Look) (place start : ℕ) (f : Field) → f.type ≡ ARM64_RELOC_UNSIGNED → IsNumber (write_in look place start f (kind_in f))
is_number look place start f type = by (is_some f.subtrahend) refl
  where
    of : (k : Kind) → kind_in f ≡ k → IsNumber (write_in look place start f k) → IsNumber (write_in look place start f (kind_in f))
    of k is number = subst (λ (k : Kind). IsNumber (write_in look place start f k)) (sym is) number

    by : (b : Bool) → is_some f.subtrahend ≡ b → IsNumber (write_in look place start f (kind_in f))
    by true is = of Difference (rw (type, is) refl) (record { width = f.width; bytes = refl; plain = refl })
    by false is = of Pointer (rw (type, is) refl) (record { width = f.width; bytes = refl; plain = refl })

pub write_fault-requires : goal.write_fault-requires
write_fault-requires g c =
    let look = g.P.Places.look c.args.places.now in
    let field = seen c.args.field.now in
    subst IsNumber (sym c.written_of-write.ensures) (is_number look (place_in c.args.source.now.place field)
    (start_in look c.args.source.now.descriptors field) field c.requires.number)
