-- Each rule of the loader but the last as one test, and what the tests say of acceptance.
--
-- These rules speak of each command, table or import, which are finitely many, so each has a test that is true exactly
-- where the rule is kept. The last rule speaks of each word on the chain, and is shown apart. So the tests, computed,
-- show of an example that it is accepted, or which rule it breaks, and that it keeps the others.
use Rattle.std.proofs.Common.{◌≡◌, ◌≢◌, ℕ, ◌+◌, ◌-◌, nat_le, ◌==◌, Bool, true, false, not, ◌&&◌, List, [], ◌∷◌, length, get_or, map, refl, sym, ap, ◌∙◌, arith}
use Rattle.std.specs.List.{list_all}
use Rattle.std.proofs.lemmas.Bool.{leb-true, le-leb}
use Rattle.std.proofs.lemmas.List.{get_or_default}
use Rattle.std.proofs.lemmas.List.Elements.{All-contains, Contains-get_or}
use Rattle.macho_records.specs.declared.header.SegmentCommand.{SegmentCommand}
use Rattle.macho_model.specs.declared.rules.LoadRule.{LoadRule}
use Rattle.macho_model.specs.declared.rules.LoadRule.TheVariants.{L1, L2, L3, L4, L5, L6, L7, L8, L9, L10}
use Rattle.macho_model.specs.Commands.{commands_of, command_fits}
use Rattle.macho_model.specs.ObjectRules.{commands_inside}
use Rattle.macho_model.specs.Segments.{TEXT}
use Rattle.macho_model.specs.Images.{segments_of, segments_named, tables_of, fixups_header}
use Rattle.macho_model.specs.LoadRules.{image_head_fits, needed_in_image, protections_fit, table_fits, import_fits}
use Rattle.macho_model.specs.Loader.{IsAccepted}
use Rattle.macho_image_walks.specs.steps.WordTests.{EachWordFits}
use Rattle.macho_image_walks.specs.steps.Asked.{LoadKeeps}
use Rattle.macho_model.proofs.EachBelow.{each_below, below_pass, pass_below}
use Rattle.macho_model.specs.Lists.{EachNext}
use Rattle.macho_model.specs.SegmentRules.{segment_ends, begins_behind, file_part_inside, segment_is_paged, text_holds_commands}
use Rattle.macho_bytes.proofs.Bools.{true_or_false, and_left, and_right, and_both, is_equal, equal_is, same_number, other_number}
use Rattle.macho_bytes.proofs.Members.{all_pass, pass_all}

-- an image that keeps each rule is accepted
pub accepted_keeping : (b : List ℕ) → ((rule : LoadRule) → LoadKeeps b rule) → IsAccepted b
accepted_keeping b h =
    record { l1 = h L1; l2 = h L2; l3 = h L3; l4 = h L4; l5 = h L5; l6 = h L6; l7 = h L7; l8 = h L8; l9 = h L9; l10 = h L10 }

-- two neighbours of a list of segments
abbrev pub no_segment : SegmentCommand
no_segment = record {
  cmd = 0;
  cmdsize = 0;
  segname = [];
  vmaddr = 0;
  vmsize = 0;
  fileoff = 0;
  filesize = 0;
  maxprot = 0;
  initprot = 0;
  nsects = 0;
  flags = 0;
}

abbrev pub each_neighbour : List SegmentCommand → (SegmentCommand → SegmentCommand → Bool) → Bool
each_neighbour ss test = each_below (length ss - 1) (λ k. test (get_or ss k no_segment) (get_or ss (k + 1) no_segment))

neighbours_pass : (ss : List SegmentCommand) (test : SegmentCommand → SegmentCommand → Bool) → each_neighbour ss test ≡ true
    → EachNext (λ s t. test s t ≡ true) ss
neighbours_pass ss test h k s t (before, at_k) (lt, at_next) =
    let there = below_pass (length ss - 1) (λ j. test (get_or ss j no_segment) (get_or ss (j + 1) no_segment)) h k (omega arith) in
    let first : get_or ss k no_segment ≡ s = get_or_default ss k no_segment s (omega arith) ∙ at_k in
    let second : get_or ss (k + 1) no_segment ≡ t = get_or_default ss (k + 1) no_segment t lt ∙ at_next in
    rw (← first, ← second) there

pass_neighbours : (ss : List SegmentCommand) (test : SegmentCommand → SegmentCommand → Bool) → EachNext (λ s t. test s t ≡ true) ss
    → each_neighbour ss test ≡ true
pass_neighbours ss test h =
    pass_below (length ss - 1) (λ j. test (get_or ss j no_segment) (get_or ss (j + 1) no_segment))
    (λ k lt. h k (get_or ss k no_segment) (get_or ss (k + 1) no_segment)
    (omega arith, get_or_default ss k (get_or ss k no_segment) no_segment (omega arith))
    (omega arith, get_or_default ss (k + 1) (get_or ss (k + 1) no_segment) no_segment (omega arith)))

-- a rule's test; the last rule has none here
abbrev pub load_test : List ℕ → LoadRule → Bool
load_test b L1 = image_head_fits b
load_test b L2 = commands_inside b && list_all (command_fits (needed_in_image b) b) (commands_of b)
load_test b L3 = list_all protections_fit (segments_of b)
load_test b L4 = list_all (file_part_inside b) (segments_of b)
load_test b L5 = list_all segment_is_paged (segments_of b)
load_test b L6 = list_all segment_ends (segments_of b) && each_neighbour (segments_of b) begins_behind
load_test b L7 = (length (segments_named TEXT b) == 1) && list_all (text_holds_commands b) (segments_named TEXT b)
load_test b L8 = nat_le (length (tables_of b)) 1 && list_all (table_fits b) (tables_of b)
load_test b L9 = list_all (λ t. each_below (fixups_header b t).imports_count (import_fits b t)) (tables_of b)
load_test b L10 = true

-- a rule that has a test: each but the last
abbrev pub HasTest : LoadRule → Type 0
HasTest L10 = ⊥
HasTest rule = Unit {0}

-- a test that is true shows its rule
pub load_test_shows : (b : List ℕ) (rule : LoadRule) → HasTest rule → load_test b rule ≡ true → LoadKeeps b rule
load_test_shows b L1 some h = h
load_test_shows b L2 some h = (
  and_left (commands_inside b) (list_all (command_fits (needed_in_image b) b) (commands_of b)) h,
  all_pass (command_fits (needed_in_image b) b) (commands_of b)
      (and_right (commands_inside b) (list_all (command_fits (needed_in_image b) b) (commands_of b)) h),
)
load_test_shows b L3 some h = all_pass protections_fit (segments_of b) h
load_test_shows b L4 some h = all_pass (file_part_inside b) (segments_of b) h
load_test_shows b L5 some h = all_pass segment_is_paged (segments_of b) h
load_test_shows b L6 some h = (
  all_pass segment_ends (segments_of b)
      (and_left (list_all segment_ends (segments_of b)) (each_neighbour (segments_of b) begins_behind) h),
  neighbours_pass (segments_of b) begins_behind
      (and_right (list_all segment_ends (segments_of b)) (each_neighbour (segments_of b) begins_behind) h),
)
load_test_shows b L7 some h = (
  is_equal (length (segments_named TEXT b)) 1
      (and_left (length (segments_named TEXT b) == 1) (list_all (text_holds_commands b) (segments_named TEXT b)) h),
  all_pass (text_holds_commands b) (segments_named TEXT b)
      (and_right (length (segments_named TEXT b) == 1) (list_all (text_holds_commands b) (segments_named TEXT b)) h),
)
load_test_shows b L8 some h = (
  leb-true (length (tables_of b)) 1 (and_left (nat_le (length (tables_of b)) 1) (list_all (table_fits b) (tables_of b)) h),
  all_pass (table_fits b) (tables_of b) (and_right (nat_le (length (tables_of b)) 1) (list_all (table_fits b) (tables_of b)) h),
)
load_test_shows b L9 some h =
    λ t k one within. below_pass (fixups_header b t).imports_count (import_fits b t)
    (All-contains (λ x. each_below (fixups_header b x).imports_count (import_fits b x) ≡ true) (tables_of b) t
    (all_pass (λ x. each_below (fixups_header b x).imports_count (import_fits b x)) (tables_of b) h) one) k within
load_test_shows b L10 some h = absurd some

-- a rule that is kept has a test that is true
pub shows_load_test : (b : List ℕ) (rule : LoadRule) → LoadKeeps b rule → load_test b rule ≡ true
shows_load_test b L1 h = h
shows_load_test b L2 h =
    and_both (commands_inside b) (list_all (command_fits (needed_in_image b) b) (commands_of b)) h.0
    (pass_all (command_fits (needed_in_image b) b) (commands_of b) h.1)
shows_load_test b L3 h = pass_all protections_fit (segments_of b) h
shows_load_test b L4 h = pass_all (file_part_inside b) (segments_of b) h
shows_load_test b L5 h = pass_all segment_is_paged (segments_of b) h
shows_load_test b L6 h =
    and_both (list_all segment_ends (segments_of b)) (each_neighbour (segments_of b) begins_behind)
    (pass_all segment_ends (segments_of b) h.0) (pass_neighbours (segments_of b) begins_behind h.1)
shows_load_test b L7 h =
    and_both (length (segments_named TEXT b) == 1) (list_all (text_holds_commands b) (segments_named TEXT b))
    (equal_is (length (segments_named TEXT b)) 1 h.0) (pass_all (text_holds_commands b) (segments_named TEXT b) h.1)
shows_load_test b L8 h =
    and_both (nat_le (length (tables_of b)) 1) (list_all (table_fits b) (tables_of b)) (le-leb (length (tables_of b)) 1 h.0)
    (pass_all (table_fits b) (tables_of b) h.1)
shows_load_test b L9 h =
    pass_all (λ x. each_below (fixups_header b x).imports_count (import_fits b x)) (tables_of b)
    (λ k d lt. pass_below (fixups_header b (get_or (tables_of b) k d)).imports_count (import_fits b (get_or (tables_of b) k d))
    (λ j within. h (get_or (tables_of b) k d) j (Contains-get_or (tables_of b) k d lt) within))
shows_load_test b L10 h = refl

-- the rules with tests, and the place of each among them
abbrev pub load_rules : List LoadRule
load_rules = L1 ∷ L2 ∷ L3 ∷ L4 ∷ L5 ∷ L6 ∷ L7 ∷ L8 ∷ L9 ∷ L10 ∷ []

abbrev pub load_number : LoadRule → ℕ
load_number L1 = 0
load_number L2 = 1
load_number L3 = 2
load_number L4 = 3
load_number L5 = 4
load_number L6 = 5
load_number L7 = 6
load_number L8 = 7
load_number L9 = 8
load_number L10 = 9

-- what the tests say, rule by rule; what they say where one rule alone is broken, and where none is
unfoldable pub load_verdict : List ℕ → List Bool
load_verdict b = map (load_test b) load_rules

abbrev pub load_all_but : LoadRule → List Bool
load_all_but rule = map (λ r. not (load_number r == load_number rule)) load_rules

abbrev pub load_all_pass : List Bool
load_all_pass = map (λ r. true) load_rules

-- a list of answers at a rule's place
at_load_rule : (f : LoadRule → Bool) (rule : LoadRule) → get_or (map f load_rules) (load_number rule) false ≡ f rule
at_load_rule f L1 = refl
at_load_rule f L2 = refl
at_load_rule f L3 = refl
at_load_rule f L4 = refl
at_load_rule f L5 = refl
at_load_rule f L6 = refl
at_load_rule f L7 = refl
at_load_rule f L8 = refl
at_load_rule f L9 = refl
at_load_rule f L10 = refl

load_verdict_at : (b : List ℕ) (rule : LoadRule) → get_or (load_verdict b) (load_number rule) false ≡ load_test b rule
unfolding load_verdict
load_verdict_at b rule = at_load_rule (load_test b) rule

-- each rule with a test by it, the last one by its own proof
each_load_rule : (b : List ℕ) → ((rule : LoadRule) → HasTest rule → LoadKeeps b rule) → LoadKeeps b L10 → (rule : LoadRule)
    → LoadKeeps b rule
each_load_rule b h last L1 = h L1 tt
each_load_rule b h last L2 = h L2 tt
each_load_rule b h last L3 = h L3 tt
each_load_rule b h last L4 = h L4 tt
each_load_rule b h last L5 = h L5 tt
each_load_rule b h last L6 = h L6 tt
each_load_rule b h last L7 = h L7 tt
each_load_rule b h last L8 = h L8 tt
each_load_rule b h last L9 = h L9 tt
each_load_rule b h last L10 = last

-- where all tests are true, each rule with a test is kept
pub load_kept : (b : List ℕ) → load_verdict b ≡ load_all_pass → (rule : LoadRule) → HasTest rule → LoadKeeps b rule
load_kept b h rule some =
    load_test_shows b rule some (sym (load_verdict_at b rule) ∙ ap (λ (v : List Bool). get_or v (load_number rule) false) h
    ∙ at_load_rule (λ r. true) rule)

-- An example whose tests are all true, and whose chain words fit, is accepted.
pub is_accepted : (b : List ℕ) → load_verdict b ≡ load_all_pass → EachWordFits b → IsAccepted b
is_accepted b h words = accepted_keeping b (each_load_rule b (load_kept b h) words)

-- one rule with a test is broken, and all others with tests are kept
pub record LoadBreaksAlone (b : List ℕ) (rule : LoadRule) : Type 0 where
  pub broken : LoadKeeps b rule → ⊥
  pub others : (other : LoadRule) → HasTest other → load_number other ≢ load_number rule → LoadKeeps b other

-- An example whose tests are all true but one breaks that rule alone.
pub load_breaks_alone : (b : List ℕ) (rule : LoadRule) → load_verdict b ≡ load_all_but rule → LoadBreaksAlone b rule
load_breaks_alone b rule h =
    record {
      broken = λ kept. true_or_false (load_test b rule) (shows_load_test b rule kept) (answer rule ∙ same_number (load_number rule));
      others = λ other some apart. load_test_shows b other some (answer other ∙ other_number (load_number other) (load_number rule) apart);
    }
  where
    answer : (r : LoadRule) → load_test b r ≡ not (load_number r == load_number rule)
    answer r =
        sym (load_verdict_at b r) ∙ ap (λ (v : List Bool). get_or v (load_number r) false) h
        ∙ at_load_rule (λ q. not (load_number q == load_number rule)) r
