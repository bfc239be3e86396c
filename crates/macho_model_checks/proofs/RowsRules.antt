-- Each rule of objects on a small example: an object that keeps them all, and for each rule a change of it that breaks
-- this rule alone. All by computing from the bytes.
use Rattle.std.proofs.Common.{◌≡◌, ℕ, ◌+◌, ◌-◌, ◌^◌, List, [], ◌∷◌, refl}
use Rattle.std.specs.Prelude.{codes, All}
use Rattle.std.specs.List.{AllByRecursion}
use Rattle.std.proofs.lemmas.List.Elements.{All-weaker, All-from_recursion}
use Rattle.macho_model.specs.declared.rules.ObjectRule.{ObjectRule}
use Rattle.macho_bytes.specs.Numbers.{le_at, le_bytes, row_bytes}
use Rattle.macho_bytes.specs.Layouts.{reading}
use Rattle.macho_model.specs.declared.rules.ObjectRule.TheVariants.{O1, O2, O3, O4, O5, O6, O7, O8, O9, O10, O11, O12, O13, O14}
use Rattle.macho_model.specs.Commands.{header_of, commands_from, commands_of, commands_end}
use Rattle.macho_model.specs.Objects.{num_sections, section_place, section_at, symtab_of, num_symbols, symbol_place, symbol_at, strings_of, relocation_place, relocation_at}
use Rattle.macho_model.specs.Grammar.{IsObject}
use Rattle.macho_model_checks.proofs.Examples.{words8, words, halves, name16, object_a, object_b, changed, header_b, relocation_b, symbol_b}
use Rattle.macho_model_checks.proofs.ObjectTests.{verdict, all_but, is_object, BreaksAlone, breaks_alone}

-- the two examples are objects
pub a_is_object : IsObject object_a
unfolding verdict header_of commands_from commands_of commands_end num_sections section_place section_at symtab_of num_symbols
    symbol_place symbol_at strings_of relocation_place relocation_at le_at le_bytes row_bytes reading words8 words halves name16 object_a
a_is_object = is_object object_a refl

pub b_is_object : IsObject object_b
unfolding verdict header_of commands_from commands_of commands_end num_sections section_place section_at symtab_of num_symbols
    symbol_place symbol_at strings_of relocation_place relocation_at le_at le_bytes row_bytes reading words8 words halves name16 object_b
b_is_object = is_object object_b refl

-- A change of the second example and the rule that it breaks.
pub record Change : Type 0 where
  pub rule : ObjectRule
  pub at : ℕ
  pub text : List ℕ

abbrev pub made : Change → List ℕ
made c = changed object_b c.at c.text

abbrev pub changes : List Change
changes =
    -- another magic number
    record { rule = O1; at = 0; text = words (0xfeedface ∷ []) }
    -- the last command passes `sizeofcmds`; the commands pass the file
    ∷ record { rule = O2; at = 20; text = words (439 ∷ []) }
    ∷ record { rule = O2; at = 20; text = words (600 ∷ []) }
    -- a second symbol table, in place of the UUID
    ∷ record { rule = O3; at = 448; text = words (2 ∷ []) }
    -- the string table passes the file by a byte
    ∷ record { rule = O4; at = 424 + 20; text = words (20 ∷ []) }
    -- a symbol in section 0; a relocation of symbol 5 of five
    ∷ record { rule = O5; at = symbol_b 0 + 5; text = 0 ∷ [] }
    ∷ record { rule = O5; at = relocation_b 0 + 4; text = words (0x2d000005 ∷ []) }
    -- data that passes the file; addresses that pass 2 ^ 64
    ∷ record { rule = O6; at = header_b 3 + 48; text = words (628 ∷ []) }
    ∷ record { rule = O6; at = header_b 2 + 32; text = words8 ((2 ^ 64 - 15) ∷ []) }
    -- alignment to 2 ^ 15
    ∷ record { rule = O7; at = header_b 2 + 52; text = words (15 ∷ []) }
    -- a symbol one byte past its section's end, and one below its start
    ∷ record { rule = O8; at = symbol_b 2 + 8; text = words8 (25 ∷ []) }
    ∷ record { rule = O8; at = symbol_b 2 + 8; text = words8 (7 ∷ []) }
    -- a name behind the string table
    ∷ record { rule = O9; at = symbol_b 4; text = words (19 ∷ []) }
    -- a relocated word that passes its section; a table, of no relocations, that begins behind the file
    ∷ record { rule = O10; at = relocation_b 0; text = words (5 ∷ []) }
    ∷ record { rule = O10; at = header_b 2 + 56; text = words (632 ∷ []) }
    -- thread-local data in another segment
    ∷ record { rule = O11; at = header_b 3 + 16; text = codes "__TEXT" }
    -- a relocation of zerofill
    ∷ record { rule = O12; at = header_b 2 + 56; text = words (500 ∷ 1 ∷ []) }
    -- a global symbol without a name
    ∷ record { rule = O13; at = symbol_b 4; text = words (0 ∷ []) }
    -- a common aligned to 2 ^ 15; one whose rounded size is 2 ^ 64
    ∷ record { rule = O14; at = symbol_b 1 + 6; text = halves (0xf00 ∷ []) }
    ∷ record { rule = O14; at = symbol_b 1 + 8; text = words8 ((2 ^ 64 - 3) ∷ []) }
    ∷ []

-- what the tests say of each change
verdicts : AllByRecursion (λ c. verdict (made c) ≡ all_but c.rule) changes
unfolding verdict header_of commands_from commands_of commands_end num_sections section_place section_at symtab_of num_symbols
    symbol_place symbol_at strings_of relocation_place relocation_at le_at le_bytes row_bytes reading words8 words halves name16 object_b
    changed
verdicts = (
  refl,
  (
    refl,
    (
      refl,
      (
        refl,
        (refl, (refl, (refl, (refl, (refl, (refl, (refl, (refl, (refl, (refl, (refl, (refl, (refl, (refl, (refl, (refl, tt)))))))))))))))),
      ),
    ),
  ),
)

-- Each change breaks its rule, and no other one.
pub each_change_breaks_its_rule : All (λ c. BreaksAlone (made c) c.rule) changes
each_change_breaks_its_rule =
    All-weaker (λ c. verdict (made c) ≡ all_but c.rule) (λ c. BreaksAlone (made c) c.rule) (λ c is. breaks_alone (made c) c.rule is) changes
    (All-from_recursion (λ c. verdict (made c) ≡ all_but c.rule) changes verdicts)
