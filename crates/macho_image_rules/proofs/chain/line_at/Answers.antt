-- The line of an address: what the search finds has it, and where it finds none the chains have no word there.
use Rattle.std.proofs.Common.{◌≡◌, ℕ, refl}
use Rattle.std.proofs.lemmas.Fn.{always_returns_same}
use Rattle.macho_loader.specs.declared.chain_list.FixupLine.{FixupLine}
use Rattle.macho_image_rules.proofs.Found.{found_line, no_line_there}
use Rattle.macho_image_rules.proofs.chain.line_at.Goals as goal

-- the address of a line
abbrev address_of : FixupLine → ℕ
address_of line = line.address

pub returns-in-Ok : goal.returns-in-Ok
returns-in-Ok c = λ b accepted fixups.
    found_line b c.args.lines.now c.args.address c.in-Ok.place c.requires.rising
    (c.in-Ok.ensures.position address_of (always_returns_same _ (λ a r. r ≡ address_of a.0.now) _ (λ a r f' called. (called.met, refl))))
    c.in-Ok.ensures.bound accepted fixups

pub returns-in-Err : goal.returns-in-Err
returns-in-Err c = λ b accepted fixups.
    no_line_there b c.args.lines.now c.args.address c.in-Err.field-0 c.requires.rising
    (c.in-Err.ensures.position address_of (always_returns_same _ (λ a r. r ≡ address_of a.0.now) _ (λ a r f' called. (called.met, refl))))
    c.in-Err.ensures.bound fixups
