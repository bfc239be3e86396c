-- The sizes of a symbol table are those of the layout, which are limited.
--
-- A plan counts the output sections that are laid out, and at most 255. The strings are counted before addresses are known, and as many
-- bytes
-- are kept for them in a range that ends below 2 ^ 32.
use Rattle.std.proofs.Common.{◌∷◌, [], ap, arith, Contains}
use Rattle.macho_model.specs.declared.placed.Counts.{Counts}
use Rattle.macho_model.specs.Placement.{Placed, linkedit_ranges}
use Rattle.macho_bytes.proofs.Members.{contains_first, contains_later}
use Rattle.macho_layout_laws.proofs.Counted.{outputs_many}
use Rattle.macho_promise.specs.Sizes.{counts_with}
use Rattle.macho_symbol_tables.specs.Laws.{SectionsAreFew, StringsAreShort}

pub sections_are_few : SectionsAreFew
sections_are_few l plan counts p is fits laid = omega (arith, outputs_many l plan counts p is fits laid, fits.sections)

strings_there : (p : Placed) → Contains (linkedit_ranges p) p.linkedit.strtab
strings_there p =
    contains_later p.linkedit.fixups (p.linkedit.trie ∷ p.linkedit.symtab ∷ p.linkedit.strtab ∷ p.linkedit.signature ∷ []) p.linkedit.strtab
    (contains_later p.linkedit.trie (p.linkedit.symtab ∷ p.linkedit.strtab ∷ p.linkedit.signature ∷ []) p.linkedit.strtab
    (contains_later p.linkedit.symtab (p.linkedit.strtab ∷ p.linkedit.signature ∷ []) p.linkedit.strtab
    (contains_first p.linkedit.strtab (p.linkedit.signature ∷ []))))

pub strings_are_short : StringsAreShort
unfolding counts_with
strings_are_short l counts p listed placed none are of =
    omega (
      arith,
      of.strings_are,
      ap (λ (c : Counts). c.strings) are.are,
      placed.least.rooms.strings,
      none.ranges p.linkedit.strtab (strings_there p),
    )
