-- Each rule of the loader is broken alone by a change of one image: the other nine are kept, that on chain words too.
--
-- The image has a fixup table and an import, and no page start: so its chain is empty, and so are the chains of the images that
-- differ from it in a header, a segment or the table's head. The change for the last rule gives it one page start, whose word
-- passes the file part.
use Rattle.std.proofs.Common.{◌≡◌, ◌≢◌, ℕ, ◌+◌, ◌<◌, ◌==◌, Bool, true, false, List, [], ◌∷◌, ◌++◌, length, refl, sym, subst, arith}
use Rattle.std.specs.Prelude.{All}
use Rattle.std.specs.List.{list_all, AllByRecursion}
use Rattle.std.proofs.lemmas.List.Elements.{All-from_recursion}
use Rattle.macho_bytes.specs.Numbers.{le_at, le_bytes, row_bytes}
use Rattle.macho_bytes.specs.Layouts.{reading}
use Rattle.macho_model.specs.declared.rules.LoadRule.{LoadRule}
use Rattle.macho_model.specs.declared.rules.LoadRule.TheVariants.{L1, L2, L3, L4, L5, L6, L7, L8, L9, L10}
use Rattle.macho_model.specs.Commands.{header_of, commands_from, commands_of, commands_end}
use Rattle.macho_model.specs.Images.{segments_of, mapped_segments, base_of, libraries_of, tables_of}
use Rattle.macho_model.specs.Lists.{IsNumber}
use Rattle.macho_model.specs.Chain.{ChainSegment, chain_segment, chain_segments, OnPageChain}
use Rattle.macho_model.specs.Chain as chain
use Rattle.macho_model.specs.Loader.{IsAccepted}
use Rattle.macho_image_walks.specs.steps.Asked.{LoadKeeps}
use Rattle.macho_image_walks.specs.steps.WordTests.{word_fits_test}
use Rattle.macho_model_checks.proofs.Examples.{words8, words, halves, name16, changed}
use Rattle.macho_model_checks.proofs.ExampleImages.{image_with_fixups, one_page, data_command}
use Rattle.macho_model_checks.proofs.LoaderTests.{HasTest, load_number, load_verdict, load_all_but, load_all_pass, is_accepted, load_breaks_alone, load_kept}
use Rattle.macho_image_walks.proofs.WordFitting.{fits_word}
use Rattle.macho_model.proofs.PageChains.{number_in_chain}
use Rattle.macho_bytes.proofs.Bools.{true_or_false, is_equal}
use Rattle.macho_bytes.proofs.Members.{one_passes}
use Rattle.macho_image_walks.proofs.ChainSets.{page_has_start}

-- no segment has a page start
abbrev pub has_no_start : List ℕ → Bool
has_no_start b = list_all (λ (s : ChainSegment). length s.starts == 0) (chain_segments b)

-- so without page starts the rule on chain words is kept
pub no_words : (b : List ℕ) → has_no_start b ≡ true → LoadKeeps b L10
no_words b none number segment page a is on =
    let s = chain_segment b (number, segment) in
    let empty = is_equal (length s.starts) 0 (one_passes (λ (x : ChainSegment). length x.starts == 0) (chain_segments b) s none
    (number_in_chain b number segment is)) in
    let within = page_has_start (chain_segments b) b s page a on in
    absurd (omega (arith, empty, within))

-- the image of one page, without its page start
unfoldable pub unchained : List ℕ
unchained = changed one_page (320 + 40) (words (0 ∷ []))

unchained_facts : (load_verdict unchained ≡ load_all_pass) × (has_no_start unchained ≡ true)
unfolding load_verdict commands_end chain_segments mapped_segments tables_of base_of segments_of commands_of commands_from header_of
    libraries_of reading le_at row_bytes le_bytes words8 words halves name16 image_with_fixups one_page changed unchained
unchained_facts = (refl, refl)

-- THE loader accepts it.
pub unchained_is_accepted : IsAccepted unchained
unchained_is_accepted = is_accepted unchained unchained_facts.0 (no_words unchained unchained_facts.1)

-- A change of it, and the rule that it breaks.
pub record AcceptedChange : Type 0 where
  pub rule : LoadRule
  pub at : ℕ
  pub text : List ℕ

abbrev pub changed_unchained : AcceptedChange → List ℕ
changed_unchained c = changed unchained c.at c.text

abbrev pub accepted_changes : List AcceptedChange
accepted_changes =
    -- another magic number; a last command that passes `sizeofcmds`
    record { rule = L1; at = 0; text = words (0xfeedface ∷ []) }
    ∷ record { rule = L2; at = 20; text = words (287 ∷ []) }
    -- data that may be executed; file bytes behind the end of the file
    ∷ record { rule = L3; at = 176 + 56; text = words (7 ∷ 7 ∷ []) }
    ∷ record { rule = L4; at = 176 + 48; text = words8 (33 ∷ []) }
    -- a size that is no multiple of a page; a segment that begins below the end of the one before it
    ∷ record { rule = L5; at = 176 + 32; text = words8 (0x7000 ∷ []) }
    ∷ record { rule = L6; at = 32 + 32; text = words8 (0x100004000 ∷ []) }
    -- `__TEXT` without file bytes for the commands
    ∷ record { rule = L7; at = 104 + 48; text = words8 (319 ∷ []) }
    -- another version of the table; an import of library 0
    ∷ record { rule = L8; at = 320; text = words (1 ∷ []) }
    ∷ record { rule = L9; at = 320 + 72; text = words (0x200 ∷ []) }
    ∷ []

-- what the tests say of each, and that its chain is empty
abbrev ChangeFacts : AcceptedChange → Type 0
ChangeFacts c = (load_verdict (changed_unchained c) ≡ load_all_but c.rule) × (has_no_start (changed_unchained c) ≡ true) × HasTest c.rule

change_facts : AllByRecursion ChangeFacts accepted_changes
unfolding load_verdict commands_end chain_segments mapped_segments tables_of base_of segments_of commands_of commands_from header_of
    libraries_of reading le_at row_bytes le_bytes words8 words halves name16 image_with_fixups one_page changed unchained
change_facts = (
  (refl, refl, tt),
  (
    (refl, refl, tt),
    (
      (refl, refl, tt),
      (
        (refl, refl, tt),
        (
          (refl, refl, tt),
          ((refl, refl, tt), ((refl, refl, tt), ((refl, refl, tt), ((refl, refl, tt), tt)))),
        ),
      ),
    ),
  ),
)

-- one rule of all ten is broken, and each other one is kept
pub record RuleAlone (b : List ℕ) (rule : LoadRule) : Type 0 where
  pub broken : LoadKeeps b rule → ⊥
  pub others : (other : LoadRule) → load_number other ≢ load_number rule → LoadKeeps b other

by_test : (b : List ℕ) (rule : LoadRule) → load_verdict b ≡ load_all_but rule → has_no_start b ≡ true → HasTest rule → RuleAlone b rule
by_test b rule verdict none some =
    let tested = load_breaks_alone b rule verdict in
    record { broken = tested.broken; others = λ other apart. each other apart tested.others }
  where
    each : (other : LoadRule) → load_number other ≢ load_number rule → ((q : LoadRule) → HasTest q → load_number q ≢ load_number rule
        → LoadKeeps b q) → LoadKeeps b other
    each L1 apart h = h L1 tt apart
    each L2 apart h = h L2 tt apart
    each L3 apart h = h L3 tt apart
    each L4 apart h = h L4 tt apart
    each L5 apart h = h L5 tt apart
    each L6 apart h = h L6 tt apart
    each L7 apart h = h L7 tt apart
    each L8 apart h = h L8 tt apart
    each L9 apart h = h L9 tt apart
    each L10 apart h = no_words b none

-- Each of these changes breaks its rule, and no other one.
pub each_accepted_change_breaks_its_rule : All (λ c. RuleAlone (changed_unchained c) c.rule) accepted_changes
each_accepted_change_breaks_its_rule k d lt =
    let facts = All-from_recursion ChangeFacts accepted_changes change_facts k d lt in
    by_test _ _ facts.0 facts.1 facts.2

-- The last rule: the page start comes back, so near the end of the file part that its word passes it.
unfoldable pub word_passes : List ℕ
word_passes = changed unchained (320 + 40) (words (16 ∷ 24 ∷ []) ++ halves (0x4000 ∷ 6 ∷ []) ++ words8 (0x4000 ∷ []) ++ words (0 ∷ [])
    ++ halves (1 ∷ 0x1c ∷ []))

abbrev pub data_segment : ChainSegment
data_segment = record { address = 0x100004000; file_offset = 0x4000; file_size = 32; starts = 0x1c ∷ [] }

word_facts : (load_verdict word_passes ≡ load_all_pass) × IsNumber (segments_of word_passes) 2 data_command
    × (chain_segment word_passes (2, data_command) ≡ data_segment) × (word_fits_test word_passes data_command 0 0x10000401c ≡ false)
unfolding load_verdict commands_end chain_segments mapped_segments tables_of base_of segments_of commands_of commands_from header_of
    libraries_of reading le_at row_bytes le_bytes words8 words halves name16 image_with_fixups one_page changed unchained word_passes
word_facts = (refl, (omega arith, refl), refl, refl)

word_on : OnPageChain (chain_segments word_passes) word_passes data_segment 0 0x10000401c
word_on = chain.OnPageChain.first (omega arith) (λ same. omega (arith, same))

pub last_rule_alone : RuleAlone word_passes L10
last_rule_alone = record { broken = breaks; others = others }
  where
    breaks : LoadKeeps word_passes L10 → ⊥
    breaks kept =
        let on = subst (λ s. OnPageChain (chain_segments word_passes) word_passes s 0 0x10000401c) (sym word_facts.2) word_on in
        true_or_false (word_fits_test word_passes data_command 0 0x10000401c)
        (fits_word word_passes data_command 0 0x10000401c (kept 2 data_command 0 0x10000401c word_facts.1 on)) word_facts.3

    others : (other : LoadRule) → load_number other ≢ load_number L10 → LoadKeeps word_passes other
    others L1 apart = load_kept word_passes word_facts.0 L1 tt
    others L2 apart = load_kept word_passes word_facts.0 L2 tt
    others L3 apart = load_kept word_passes word_facts.0 L3 tt
    others L4 apart = load_kept word_passes word_facts.0 L4 tt
    others L5 apart = load_kept word_passes word_facts.0 L5 tt
    others L6 apart = load_kept word_passes word_facts.0 L6 tt
    others L7 apart = load_kept word_passes word_facts.0 L7 tt
    others L8 apart = load_kept word_passes word_facts.0 L8 tt
    others L9 apart = load_kept word_passes word_facts.0 L9 tt
    others L10 apart = absurd (apart refl)
