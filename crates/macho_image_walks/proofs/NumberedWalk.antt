-- The segments as chains see them are numbered as their commands are.
--
-- A list of commands is a filter of all commands, so each of its numbers is that of one command, at one place. The
-- segment with a number, as a chain sees it, is made of the command with this number. So a word of the file at an
-- address is a word that a numbered segment has there.
use Rattle.std.proofs.Common.{◌≡◌, ℕ, suc, ◌+◌, ◌-◌, ◌<◌, ◌≤◌, Bool, true, false, if◌then◌else◌, List, [], ◌∷◌, length, get_or, sym, ap, subst, ◌∙◌, arith, All}
use Rattle.std.specs.Prelude.{Contains, filter}
use Rattle.std.specs.List.{enumerate_from}
use Rattle.std.proofs.lemmas.List.{get_or-map, length-map, get_or_default}
use Rattle.std.proofs.lemmas.List.Elements.{All-filter}
use Rattle.std.proofs.lemmas.List.FromFn.{get_or-enumerate_from, length-enumerate_from}
use Rattle.macho_bytes.specs.Numbers.{le_at}
use Rattle.macho_records.specs.declared.header.SegmentCommand.{SegmentCommand}
use Rattle.macho_image_walks.specs.declared.walk.Listed.{Listed}
use Rattle.macho_image_walks.specs.declared.walk.Listed.TheVariants as list
use Rattle.macho_model.specs.Lists.{IsNumber}
use Rattle.macho_model.specs.Commands.{Command, command_at, header_of, commands_of}
use Rattle.macho_model.specs.Images.{segments_of}
use Rattle.macho_model.specs.Loader.{segment_in}
use Rattle.macho_model.specs.Chain.{ChainSegment, chain_segment, chain_segments, IsFileWord}
use Rattle.macho_model.specs.Needs.{POINTER_SIZE}
use Rattle.macho_image_walks.specs.Readings.{is_listed, listed, IsNth, HasWord, segment_there}
use Rattle.macho_image_walks.proofs.SegmentWalk.{at_its_place, length-commands}
use Rattle.macho_image_walks.proofs.ListedLaws.{segments_are, count_of_segments, nth_image}

-- a filter keeps no more than there is
few_kept : {X : Type 0} (p : X → Bool) (xs : List X) → length (filter p xs) ≤ length xs
few_kept p [] = omega arith
few_kept p (x ∷ xs) =
    let rest = few_kept p xs in
    elim (p x) as (λ t. length (if t then x ∷ filter p xs else filter p xs) ≤ suc (length xs))
    [ true ↦ omega (arith, rest) | false ↦ omega (arith, rest) ]

pub few_listed_of : (which : Listed) (b : List ℕ) → length (listed which b) ≤ (header_of b).ncmds
unfolding listed
few_listed_of which b = omega (arith, few_kept (is_listed which b) (commands_of b), length-commands b)

-- each number below the length of a list is that of a command, and of one only
pub nth_exists : (which : Listed) (b : List ℕ) (number : ℕ) → number < length (listed which b) → (place : ℕ) × IsNth which b number place
unfolding listed
nth_exists which b number within =
    let none : Command = record { at = 0; number = 0; size = 0 } in
    let c = get_or (listed which b) number none in
    let stands : All (λ x. x ≡ command_at b x.at) (filter (is_listed which b) (commands_of b)) =
    All-filter (is_listed which b) (λ x. x ≡ command_at b x.at) (commands_of b) (λ k d lt. at_its_place b k d lt) in
    let here : c ≡ command_at b c.at = stands number none within in
    (c.at, record { within = within; is = get_or_default (listed which b) number (command_at b c.at) none within ∙ here })

pub nth_one : (which : Listed) (b : List ℕ) (number p q : ℕ) → IsNth which b number p → IsNth which b number q → p ≡ q
nth_one which b number p q first second =
    ap (λ (c : Command). c.at) (sym first.is ∙ get_or_default (listed which b) number (command_at b p) (command_at b q) first.within ∙
    second.is)

-- a segment as chains see it, by its number
pub chain_at : (b : List ℕ) (number place : ℕ) (d : ChainSegment) → IsNth list.Segments b number place
    → get_or (chain_segments b) number d ≡ chain_segment b (number, segment_in b (command_at b place))
unfolding chain_segments
chain_at b number place d nth =
    let s = segment_in b (command_at b place) in
    let within : number < length (segments_of b) = omega (arith, nth.within, count_of_segments b) in
    let long = length-enumerate_from 0 (segments_of b) in
    let from_zero : 0 + number ≡ number = omega arith in
    let is : get_or (segments_of b) number s ≡ s = ap (λ (xs : List SegmentCommand). get_or xs number s) (segments_are b) ∙ nth_image
    (segment_in b) list.Segments b number place s nth in
    get_or-map (chain_segment b) (enumerate_from 0 (segments_of b)) number (number, s) d (omega (arith, within, long))
    ∙ ap (chain_segment b) (get_or-enumerate_from 0 (segments_of b) number (number, s) within)
    ∙ ap (λ (k : ℕ). chain_segment b (k, get_or (segments_of b) number s)) from_zero
    ∙ ap (λ (x : SegmentCommand). chain_segment b (number, x)) is

pub count_of_chain : (b : List ℕ) → length (chain_segments b) ≡ length (listed list.Segments b)
unfolding chain_segments
count_of_chain b =
    length-map (enumerate_from 0 (segments_of b)) (chain_segment b) ∙ length-enumerate_from 0 (segments_of b) ∙ count_of_segments b

pub chain_contains : (b : List ℕ) (number place : ℕ) → IsNth list.Segments b number place
    → Contains (chain_segments b) (chain_segment b (number, segment_in b (command_at b place)))
chain_contains b number place nth = (
  number,
  omega (arith, nth.within, count_of_chain b),
  chain_at b number place
      (chain_segment b (number, segment_in b (command_at b place))) nth,
)

-- a segment by its number and by its place is one
pub nth_number : (b : List ℕ) (number place : ℕ) → IsNth list.Segments b number place
    → IsNumber (segments_of b) number (segment_there b place)
nth_number b number place nth = (
  omega (arith, nth.within, count_of_segments b),
  ap (λ (xs : List SegmentCommand). get_or xs number (segment_there b place)) (segments_are b)
      ∙ nth_image (segment_in b) list.Segments b number place (segment_there b place) nth,
)

pub number_place : (b : List ℕ) (number : ℕ) (s : SegmentCommand) → IsNumber (segments_of b) number s
    → (place : ℕ) × IsNth list.Segments b number place × (segment_there b place ≡ s)
number_place b number s is =
    let there = nth_exists list.Segments b number (omega (arith, is.0, count_of_segments b)) in (
      there.0,
      there.1,
      sym (nth_image (segment_in b) list.Segments b number there.0 s there.1)
          ∙ sym (ap (λ (xs : List SegmentCommand). get_or xs number s) (segments_are b)) ∙ is.1,
    )

-- each segment of the chain has a number and a place
pub record IsNumbered (b : List ℕ) (s : ChainSegment) : Type 0 where
  pub number : ℕ
  pub place : ℕ
  pub nth : IsNth list.Segments b number place
  pub is : s ≡ chain_segment b (number, segment_in b (command_at b place))

pub numbered_segment : (b : List ℕ) (s : ChainSegment) → Contains (chain_segments b) s → IsNumbered b s
numbered_segment b s (number, within, at) =
    let there = nth_exists list.Segments b number (omega (arith, within, count_of_chain b)) in
    record { number = number; place = there.0; nth = there.1; is = sym at ∙ chain_at b number there.0 s there.1 }

-- a word of the file is one that a segment has, and back
pub record WordIn (b : List ℕ) (a word : ℕ) : Type 0 where
  pub number : ℕ
  pub place : ℕ
  pub nth : IsNth list.Segments b number place
  pub has : HasWord b (segment_in b (command_at b place)) a word

pub word_in_segment : (b : List ℕ) (a word : ℕ) → IsFileWord (chain_segments b) b a word → WordIn b a word
word_in_segment b a word stands = of stands.segment stands.from stands.to stands.is (numbered_segment b stands.segment stands.one)
  where
    of : (s : ChainSegment) → s.address ≤ a → a + POINTER_SIZE ≤ s.address + s.file_size
        → word ≡ le_at POINTER_SIZE b (s.file_offset + (a - s.address))
        → IsNumbered b s → WordIn b a word
    of s from to is n =
        let whole = subst (λ (x : ChainSegment). (x.address ≤ a) × (a + POINTER_SIZE ≤ x.address + x.file_size) ×
        (word ≡ le_at POINTER_SIZE b (x.file_offset + (a - x.address)))) n.is (from, to, is) in
        record { number = n.number; place = n.place; nth = n.nth; has = record { from = whole.0; to = whole.1; is = whole.2 } }

pub segment_has_word : (b : List ℕ) (number place a word : ℕ) → IsNth list.Segments b number place
    → HasWord b (segment_in b (command_at b place)) a word
    → IsFileWord (chain_segments b) b a word
segment_has_word b number place a word nth has =
    record {
      segment = chain_segment b (number, segment_in b (command_at b place));
      one = chain_contains b number place nth;
      from = has.from;
      to = has.to;
      is = has.is;
    }
