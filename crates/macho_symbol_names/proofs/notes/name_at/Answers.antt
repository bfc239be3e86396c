use Rattle.std.proofs.Common.{◌≡◌, ◌-◌, ◌==◌, Bool, false, if◌then◌else◌, [], drop, ap, sym, ◌∙◌, arith}
use Rattle.std.proofs.lemmas.Bool.Decides.{nat_tests}
use Rattle.macho_bytes.specs.Texts.{name_of}
use Rattle.macho_symbol_names.proofs.Strings.{string_stands}
use Rattle.macho_symbol_names.proofs.notes.name_at.Goals as goal

pub returns-clause-is : goal.returns-clause-is
returns-clause-is c =
    let other : (c.args.at == 0) ≡ false = grind (arith, nat_tests, c.if-at-eq0.false) in
    record {
      within = omega (arith, c.string_end.ensures.from, c.string_end.ensures.to);
      is = string_stands c.args.strings.now c.args.at _ (ap (λ e. e - c.args.at) c.string_end.ensures.is)
          ∙ sym (ap (λ (t : Bool). if t then [] else name_of (drop c.args.at c.args.strings.now)) other);
    }
