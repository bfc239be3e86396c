use Rattle.std.proofs.Common.{rules, ◌≡◌, ℕ, ◌+◌, ◌<◌, nat_le, List, length, sym, subst, arith}
use Rattle.macho_bytes.specs.Layouts.{reading, size_of}
use Rattle.macho_records.specs.Relocations.{relocation_info}
use Rattle.macho_records.specs.RelocationInfo.{RelocationInfo}
use Rattle.macho_model.specs.declared.rules.ObjectRule.TheVariants.{O5, O10}
use Rattle.macho_model.specs.Objects.{relocation_place, relocation_at}
use Rattle.macho_object.proofs.Breaks.{relocation_breaks}
use Rattle.macho_object.proofs.Options.{some_if}
use Rattle.macho_object.proofs.outline.Outline.check_relocation.Goals as goal

-- two bits of a word are below 4
short : (b : List ℕ) (at : ℕ) → (reading relocation_info b at).r_length < 4
unfolding reading
short b at = omega arith

short_read : (b : List ℕ) (at : ℕ) (r : RelocationInfo) → r ≡ reading relocation_info b at → r.r_length < 4
short_read b at r is = let P : RelocationInfo → Type 0 = λ s. s.r_length < 4 in subst P (sym is) (short b at)

pub is_inside-requires : goal.is_inside-requires
is_inside-requires c =
    let b = c.args.self.now.input.now in
    let at = c.relocation_place-place.result in
    short_read b at _ (some_if (nat_le (at + size_of relocation_info) (length b)) _ (reading relocation_info b at) c.in-Some.ensures.done).1

pub returns-then-not-names_target-clause-why : goal.returns-then-not-names_target-clause-why
unfolding relocation_place relocation_at
returns-then-not-names_target-clause-why c =
    relocation_breaks c.args.self.now O5 _ c.args.section c.args.index c.requires.outlined c.requires.among c.requires.fits.relocations
    (search rules) (search rules) (search rules)

pub returns-then-not-is_inside-clause-why : goal.returns-then-not-is_inside-clause-why
unfolding relocation_place relocation_at
returns-then-not-is_inside-clause-why c =
    relocation_breaks c.args.self.now O10 _ c.args.section c.args.index c.requires.outlined c.requires.among c.requires.fits.relocations
    (search rules) (search rules) (search rules)
