-- A rule of the loader that is broken is not kept; and what the walks find of the lists is what the rules say.
--
-- A command that fails its test is one of those that are to pass it. The segments named `__TEXT` are those of their
-- commands, so there are as many, and so are the fixup tables.
use Rattle.std.proofs.Common.{◌≡◌, ℕ, ◌≤◌, Bool, true, List, length, map, sym, ap, subst, ◌∙◌, arith, All, inl, inr}
use Rattle.std.proofs.lemmas.List.{length-map}
use Rattle.std.proofs.lemmas.List.Elements.{All-map}
use Rattle.macho_records.specs.declared.header.SegmentCommand.{SegmentCommand}
use Rattle.macho_model.specs.declared.rules.LoadRule.{LoadRule}
use Rattle.macho_model.specs.declared.rules.LoadRule.TheVariants.{L1, L2, L3, L4, L5, L6, L7, L8, L9, L10}
use Rattle.macho_image_walks.specs.declared.loader_rules.Asked.TheVariants as asked
use Rattle.macho_image_walks.specs.declared.walk.Listed.TheVariants as list
use Rattle.macho_model.specs.Commands.{Command, commands_of, command_fits}
use Rattle.macho_model.specs.Grammar.{EachCommand, CommandFails}
use Rattle.macho_model.specs.Segments.{TEXT}
use Rattle.macho_model.specs.Images.{segments_named, table_of_command, tables_of}
use Rattle.macho_model.specs.LoadRules.{needed_in_image, table_fits, protections_fit}
use Rattle.macho_model.specs.Loader.{segment_in, text_commands, fixup_commands, NeighbourFails, TextIsNotOne, SecondTable, IsAccepted, ImageBreaks}
use Rattle.macho_image_walks.specs.Readings.{listed}
use Rattle.macho_image_walks.specs.Tests.{test_of}
use Rattle.macho_model.proofs.SegmentTests.{of_commands, each_command, next_commands}
use Rattle.macho_model.specs.Lists.{EachNext}
use Rattle.macho_image_walks.proofs.ListedLaws.{all_listed, texts_listed, texts_are}
use Rattle.macho_model.specs.SegmentRules.{segment_ends, begins_behind, file_part_inside, segment_is_paged, text_holds_commands}
use Rattle.macho_bytes.proofs.Bools.{true_or_false}
use Rattle.macho_model.proofs.ObjectLaws.{command_fails}

neighbours_fail : (cs : List Command) (place : ℕ) (test : Command → Command → Bool) → NeighbourFails cs place test
    → EachNext (λ c d. test c d ≡ true) cs → ⊥
neighbours_fail cs place test (k, c, d, first, second, told, fails) each =
    true_or_false (test c d) (each k c d first second) fails

-- the segments named `__TEXT`, by their commands
pub texts_by_command : (b : List ℕ) → segments_named TEXT b ≡ map (segment_in b) (text_commands b)
texts_by_command b = texts_are b ∙ ap (λ cs. map (segment_in b) cs) (texts_listed b)

count_of_texts : (b : List ℕ) → length (segments_named TEXT b) ≡ length (text_commands b)
count_of_texts b = ap (λ (xs : List SegmentCommand). length xs) (texts_by_command b) ∙ length-map (text_commands b) (segment_in b)

not_one_text : (b : List ℕ) (place : ℕ) → TextIsNotOne b place → length (segments_named TEXT b) ≡ 1 → ⊥
not_one_text b place (inl (none, at)) one =
    let count = count_of_texts b in let empty = ap (λ (cs : List Command). length cs) none in omega (arith, count, empty, one)
not_one_text b place (inr (k, c, least, (within, is), told)) one = let count = count_of_texts b in omega (arith, count, least, within, one)

-- a second fixup table
two_tables : (b : List ℕ) (place : ℕ) → SecondTable b place → length (tables_of b) ≤ 1 → ⊥
unfolding tables_of
two_tables b place (k, c, least, (within, is), told) few =
    let count = length-map (fixup_commands b) (table_of_command b) in omega (arith, count, least, within, few)

-- A rule that is told is broken: the image is not accepted.
pub breaks_not_accepted : (b : List ℕ) (rule : LoadRule) (place : ℕ) → ImageBreaks b rule place → IsAccepted b → ⊥
unfolding tables_of
breaks_not_accepted b L1 place h a = true_or_false _ a.l1 h.1
breaks_not_accepted b L2 place (inl h) a = true_or_false _ a.l2.0 h.1
breaks_not_accepted b L2 place (inr h) a = command_fails (commands_of b) place (command_fits (needed_in_image b) b) h a.l2.1
breaks_not_accepted b L3 place h a = command_fails _ place _ h (each_command b protections_fit a.l3)
breaks_not_accepted b L4 place h a = command_fails _ place _ h (each_command b (file_part_inside b) a.l4)
breaks_not_accepted b L5 place h a = command_fails _ place _ h (each_command b segment_is_paged a.l5)
breaks_not_accepted b L6 place (inl h) a = command_fails _ place _ h (each_command b segment_ends a.l6.0)
breaks_not_accepted b L6 place (inr h) a = neighbours_fail _ place _ h (next_commands b begins_behind a.l6.1)
breaks_not_accepted b L7 place (inl h) a = not_one_text b place h a.l7.0
breaks_not_accepted b L7 place (inr h) a =
    command_fails (text_commands b) place (λ c. text_holds_commands b (segment_in b c)) h
    (of_commands (segment_in b) (text_holds_commands b) (text_commands b)
    (subst (λ xs. All (λ s. text_holds_commands b s ≡ true) xs) (texts_by_command b) a.l7.1))
breaks_not_accepted b L8 place (inl h) a = two_tables b place h a.l8.0
breaks_not_accepted b L8 place (inr h) a =
    command_fails (fixup_commands b) place (λ c. table_fits b (table_of_command b c)) h
    (of_commands (table_of_command b) (table_fits b) (fixup_commands b) a.l8.1)
breaks_not_accepted b L9 place (t, k, one, within, told, fails) a = true_or_false _ (a.l9 t k one within) fails
breaks_not_accepted b L10 place (x, number, s, page, is, on, told, unfit) a = unfit (a.l10 number s page x is on)

-- the second rule, by the list of all commands
pub whole_kept : (b : List ℕ) → EachCommand (listed list.All b) (test_of asked.Whole b)
    → EachCommand (commands_of b) (command_fits (needed_in_image b) b)
whole_kept b each = subst (λ cs. EachCommand cs (command_fits (needed_in_image b) b)) (all_listed b) each

pub whole_broken : (b : List ℕ) (place : ℕ) → CommandFails (listed list.All b) place (test_of asked.Whole b)
    → CommandFails (commands_of b) place (command_fits (needed_in_image b) b)
whole_broken b place fails = subst (λ cs. CommandFails cs place (command_fits (needed_in_image b) b)) (all_listed b) fails

-- the seventh, by the commands of the segments named `__TEXT`
pub text_kept : (b : List ℕ) → length (text_commands b) ≡ 1 → EachCommand (listed list.Texts b) (test_of asked.Commands b)
    → (length (segments_named TEXT b) ≡ 1) × All (λ s. text_holds_commands b s ≡ true) (segments_named TEXT b)
text_kept b one each = (
  count_of_texts b ∙ one,
  subst (λ xs. All (λ s. text_holds_commands b s ≡ true) xs) (sym (texts_are b))
      (All-map (λ s. text_holds_commands b s ≡ true) (segment_in b) (listed list.Texts b) each),
)

pub text_broken : (b : List ℕ) (place : ℕ) → CommandFails (listed list.Texts b) place (test_of asked.Commands b)
    → CommandFails (text_commands b) place (λ c. text_holds_commands b (segment_in b c))
text_broken b place fails = subst (λ cs. CommandFails cs place (λ c. text_holds_commands b (segment_in b c))) (texts_listed b) fails

-- and the eighth, by the commands of the tables
pub tables_kept : (b : List ℕ) → length (fixup_commands b) ≤ 1 → EachCommand (listed list.Tables b) (test_of asked.Table b)
    → (length (tables_of b) ≤ 1) × All (λ t. table_fits b t ≡ true) (tables_of b)
unfolding tables_of listed
tables_kept b few each = (
  subst (λ n. n ≤ 1) (sym (length-map (fixup_commands b) (table_of_command b))) few,
  All-map (λ t. table_fits b t ≡ true) (table_of_command b) (fixup_commands b) each,
)
