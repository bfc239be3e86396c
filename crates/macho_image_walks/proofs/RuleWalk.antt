-- What a walk over the commands of a list says of a rule of the loader.
--
-- Each command of a list has a number below the count of all. So where those with each number pass, all pass; and one
-- that is found by its number and fails is one of the list. The same holds of neighbours, of the one `__TEXT` and of the
-- one fixup table, which are told by the commands with the numbers 0 and 1.
use Rattle.std.proofs.Common.{◌≡◌, ℕ, ◌+◌, ◌<◌, ◌≤◌, true, false, List, [], ◌∷◌, length, get_or, refl, sym, ap, subst, ◌∙◌, arith, inl, inr, map}
use Rattle.std.specs.List.{list_all}
use Rattle.std.proofs.lemmas.List.{get_or_default, length-map}
use Rattle.macho_image_walks.specs.declared.loader_rules.Asked.{Asked}
use Rattle.macho_image_walks.specs.declared.walk.Listed.{Listed}
use Rattle.macho_image_walks.specs.declared.walk.Listed.TheVariants as list
use Rattle.macho_records.specs.declared.constants.TheConstants.{LC_SEGMENT_64}
use Rattle.macho_model.specs.Commands.{Command, command_at, header_of, numbered}
use Rattle.macho_model.specs.Grammar.{EachCommand}
use Rattle.macho_model.specs.LoadRules.{import_fits}
use Rattle.macho_model.specs.Loader.{segment_in, text_commands, fixup_commands, NeighbourFails, TextIsNotOne, SecondTable, ImportFails}
use Rattle.macho_image_walks.specs.Readings.{listed, IsNth, table_there}
use Rattle.macho_image_walks.specs.Tests.{list_of, test_of}
use Rattle.macho_image_walks.specs.steps.Walks.{chain_segment_at}
use Rattle.macho_image_walks.specs.steps.Asked.{NumberPasses, NeighbourPasses, BadImport, ImportsFit, TableImportsFit, EachImportFits}
use Rattle.macho_image_walks.specs.steps.WordTests.{import_exists, NthImportExists}
use Rattle.macho_model.specs.Images.{table_of_command, tables_of, fixups_header}
use Rattle.macho_model.specs.Chain.{chain_segments}
use Rattle.macho_image_walks.proofs.ListedLaws.{texts_listed, tables_are, nth_image, table_contains}
use Rattle.macho_image_walks.proofs.NumberedWalk.{few_listed_of, nth_exists, nth_one}
use Rattle.macho_model.specs.Lists.{EachNext}
use Rattle.macho_model.specs.steps.Loader.{import_count}
use Rattle.macho_model.specs.SegmentRules.{begins_behind}

-- a command by its number, whatever stands behind the last
at_number : (which : Listed) (b : List ℕ) (number place : ℕ) (d : Command) → IsNth which b number place
    → get_or (listed which b) number d ≡ command_at b place
at_number which b number place d nth = get_or_default (listed which b) number d (command_at b place) nth.within ∙ nth.is

pub each_by_number : (b : List ℕ) (what : Asked) → ((k : ℕ) → k < (header_of b).ncmds → NumberPasses b what k)
    → EachCommand (listed (list_of what) b) (test_of what b)
each_by_number b what pass k d lt =
    let there = nth_exists (list_of what) b k lt in
    subst (λ c. test_of what b c ≡ true) (sym (at_number (list_of what) b k there.0 d there.1))
    (pass k (omega (arith, lt, few_listed_of (list_of what) b)) there.0 there.1)

pub neighbours_by_number : (b : List ℕ) → ((k : ℕ) → k < (header_of b).ncmds → NeighbourPasses b k)
    → EachNext (λ c d. begins_behind (segment_in b c) (segment_in b d) ≡ true) (numbered LC_SEGMENT_64 b)
unfolding listed
neighbours_by_number b pass k c d (before, at_k) (lt, at_next) = listed_neighbours lt at_k at_next
  where
    listed_neighbours : k + 1 < length (listed list.Segments b) → get_or (listed list.Segments b) k c ≡ c
        → get_or (listed list.Segments b) (k + 1) d ≡ d → begins_behind (segment_in b c) (segment_in b d) ≡ true
    listed_neighbours within at_first at_second =
        let first = nth_exists list.Segments b k (omega (arith, within)) in
        let second = nth_exists list.Segments b (k + 1) within in
        let is_first : command_at b first.0 ≡ c = sym (at_number list.Segments b k first.0 c first.1) ∙ at_first in
        let is_second : command_at b second.0 ≡ d = sym (at_number list.Segments b (k + 1) second.0 d second.1) ∙ at_second in
        rw (← is_first, ← is_second)
        (pass k (omega (arith, within, few_listed_of list.Segments b)) first.0 second.0 first.1 second.1)

pub neighbour_fails : (b : List ℕ) (number place next : ℕ) → IsNth list.Segments b number place → IsNth list.Segments b (number + 1) next
    → begins_behind (segment_in b (command_at b place)) (segment_in b (command_at b next)) ≡ false
    → NeighbourFails (numbered LC_SEGMENT_64 b) next (λ c d. begins_behind (segment_in b c) (segment_in b d))
unfolding listed
neighbour_fails b number place next first second fails =
    (number, command_at b place, command_at b next, (first.within, first.is), (second.within, second.is), refl, fails)

-- the one `__TEXT`
pub second_text : (b : List ℕ) (place : ℕ) → IsNth list.Texts b 1 place → TextIsNotOne b place
second_text b place nth =
    let same = texts_listed b in
    inr (
      1,
      command_at b place,
      omega arith,
      (
        subst (λ cs. 1 < length cs) same nth.within,
        subst (λ cs. get_or cs 1 (command_at b place) ≡ command_at b place) same nth.is,
      ),
      refl,
    )

empty_list : {X : Type 0} (xs : List X) → length xs ≤ 0 → xs ≡ []
empty_list [] h = refl
empty_list (x ∷ xs) h = absurd (omega (arith, h))

pub no_text : (b : List ℕ) → length (listed list.Texts b) ≤ 0 → TextIsNotOne b 0
no_text b none = inl (empty_list (text_commands b) (subst (λ cs. length cs ≤ 0) (texts_listed b) none), refl)

pub one_text : (b : List ℕ) (place : ℕ) → IsNth list.Texts b 0 place → length (listed list.Texts b) ≤ 1 → length (text_commands b) ≡ 1
one_text b place nth few = subst (λ cs. length cs ≡ 1) (texts_listed b) (omega (arith, few, nth.within))

-- the one fixup table
pub second_of_tables : (b : List ℕ) (place : ℕ) → IsNth list.Tables b 1 place → SecondTable b place
unfolding listed
second_of_tables b place nth = (1, command_at b place, omega arith, (nth.within, nth.is), refl)

pub few_tables : (b : List ℕ) → length (listed list.Tables b) ≤ 1 → length (fixup_commands b) ≤ 1
unfolding listed
few_tables b h = h

-- a table's imports
pub import_fails : (b : List ℕ) (number table place : ℕ) → IsNth list.Tables b number table → BadImport b (table_there b table) place
    → ImportFails b place
import_fails b number table place nth bad =
    (table_there b table, bad.number, table_contains b number table nth, bad.among, bad.is, bad.fails)

pub same_table : (b : List ℕ) (number place table : ℕ) → IsNth list.Tables b number place → IsNth list.Tables b number table
    → ImportsFit b (table_there b table) → ImportsFit b (table_there b place)
same_table b number place table nth other fit =
    subst (λ p. ImportsFit b (table_there b p)) (nth_one list.Tables b number table place other nth) fit

pub each_import : (b : List ℕ) → ((k : ℕ) → k < (header_of b).ncmds → TableImportsFit b k) → EachImportFits b
each_import b fit t k (number, within, is) among =
    let same = tables_are b in
    let there = nth_exists list.Tables b number (subst (λ n. number < n) (length-map (listed list.Tables b) (table_of_command b))
    (subst (λ ts. number < length ts) same within)) in
    let here : table_there b there.0 ≡ t =
    sym (nth_image (table_of_command b) list.Tables b number there.0 t there.1) ∙ sym (ap (λ ts. get_or ts number t) same) ∙ is in
    subst (λ x. import_fits b x k ≡ true) here
    (fit number (omega (arith, there.1.within, few_listed_of list.Tables b)) there.0 there.1 k
    (subst (λ x. k < (fixups_header b x).imports_count) (sym here) among))

-- how many imports there are, by the first table
first_count : (b : List ℕ) (cs : List Command) (c : Command) → 0 < length cs → get_or cs 0 c ≡ c
    → import_count b (map (table_of_command b) cs) ≡ (fixups_header b (table_of_command b c)).imports_count
first_count b [] c some is = absurd (omega (arith, some))
first_count b (x ∷ cs) c some is = ap (λ (y : Command). (fixups_header b (table_of_command b y)).imports_count) is

pub import_count_found : (b : List ℕ) (place : ℕ) → IsNth list.Tables b 0 place
    → import_count b (tables_of b) ≡ (fixups_header b (table_there b place)).imports_count
import_count_found b place nth =
    ap (λ ts. import_count b ts) (tables_are b) ∙ first_count b (listed list.Tables b) (command_at b place) nth.within nth.is
