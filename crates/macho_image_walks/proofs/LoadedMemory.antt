-- What the plain functions find in memory is what memory holds.
--
-- The chain word that covers an address begins at most seven bytes before it, and the first that is found going down is
-- the greatest. What the loader makes of it is found by trying each segment that has the word and each fixup table that
-- has its import: any choice that gives the addresses chooses just these. Where no chain word covers, the byte is a
-- mapped segment's, found by trying each.
use Rattle.std.proofs.Common.{◌≡◌, ℕ, ◌+◌, ◌-◌, ◌<◌, ◌≤◌, List, length, get_or, slice_index, refl, sym, ap, subst, ◌∙◌, arith, Some, None, inl, inr}
use Rattle.std.specs.Prelude.{Contains, is_some}
use Rattle.std.specs.List.{slice_get}
use Rattle.std.proofs.lemmas.List.{length-map}
use Rattle.macho_bytes.specs.Numbers.{le_bytes}
use Rattle.macho_image_walks.specs.declared.walk.Listed.TheVariants as list
use Rattle.macho_model.specs.Commands.{command_at, header_of}
use Rattle.macho_model.specs.Images.{mapped_segments, table_of_command, tables_of}
use Rattle.macho_model.specs.Needs.{POINTER_SIZE}
use Rattle.macho_model.specs.Loader.{segment_in, is_bind, ordinal_of}
use Rattle.macho_model.specs.Memory.{Choice, IsBound, Becomes, Covers, IsFixed, IsSegmentByte, Holds}
use Rattle.macho_image_walks.specs.Readings.{listed, IsNth, HasWord, table_there}
use Rattle.macho_image_walks.specs.steps.Walks.{SegmentHas, NthLacksByte}
use Rattle.macho_image_walks.specs.steps.Made.{CoversLast, IsUncovered, IsMade, IsWordByte, BoundIn, BoundByNth, MakesNothing, NthMakesNothing}
use Rattle.macho_image_walks.specs.Loaded.{Gives}
use Rattle.macho_image_walks.proofs.ListedLaws.{mapped_are, tables_are, nth_image, table_contains}
use Rattle.macho_image_walks.proofs.NumberedWalk.{nth_exists, nth_one, few_listed_of, segment_has_word, word_in_segment}
use Rattle.macho_image_walks.proofs.WordWalk.{some_is}
use Rattle.macho_bytes.proofs.Bools.{true_or_false}

-- a mapped segment by its command, and back
pub byte_found : (b : List ℕ) (number place a v : ℕ) → IsNth list.Mapped b number place
    → SegmentHas b (segment_in b (command_at b place)) a v → IsSegmentByte b a v
byte_found b number place a v nth has =
    record { segment = segment_in b (command_at b place); one = one; from = has.from; to = has.to; is = has.is }
  where
    one : Contains (mapped_segments b) (segment_in b (command_at b place))
    one =
        let long = length-map (listed list.Mapped b) (segment_in b) in
        subst (λ xs. Contains xs (segment_in b (command_at b place))) (sym (mapped_are b)) (
          number,
          omega (arith, nth.within, long),
          nth_image (segment_in b) list.Mapped b number place (segment_in b (command_at b place))
              nth,
        )

pub byte_lacks : (b : List ℕ) (a v : ℕ) → ((k : ℕ) → k < (header_of b).ncmds → NthLacksByte b k a) → IsSegmentByte b a v → ⊥
byte_lacks b a v none byte = of byte.one
  where
    of : Contains (mapped_segments b) byte.segment → ⊥
    of (k, within, is) =
        let same = mapped_are b in
        let there = nth_exists list.Mapped b k (subst (λ n. k < n) (length-map (listed list.Mapped b) (segment_in b))
        (subst (λ xs. k < length xs) same within)) in
        let here : byte.segment ≡ segment_in b (command_at b there.0) =
        sym is ∙ ap (λ xs. get_or xs k byte.segment) same ∙ nth_image (segment_in b) list.Mapped b k there.0 byte.segment there.1 in
        let has : SegmentHas b byte.segment a v = record { from = byte.from; to = byte.to; is = byte.is } in
        none k (omega (arith, there.1.within, few_listed_of list.Mapped b)) there.0 there.1 v (subst (λ s. SegmentHas b s a v) here has)

-- nothing is something
pub none_is_some : (w : ℕ) → None ≡ Some w → ⊥
none_is_some w h = true_or_false (is_some (Some w)) refl (sym (ap (λ o. is_some o) h))

-- what a word that binds becomes, for any choice that gives the addresses
pub bound_found : (b : List ℕ) (number : ℕ) (addresses : List ℕ) (word v : ℕ) (choice : Choice) → BoundByNth b number addresses word v
    → Gives b addresses choice
    → IsBound b choice word v
bound_found b number addresses word v choice by gives =
    let t = table_there b by.place in
    let n = by.bound in
    let one = table_contains b number by.place by.nth in
    record {
      table = t;
      one = one;
      import = n.import;
      address = n.address;
      chooses = gives t (ordinal_of word) one n.import ∙ n.has;
      is = n.is;
    }

pub bound_lacks : (b : List ℕ) (addresses : List ℕ) (word v : ℕ) (choice : Choice)
    → ((k u : ℕ) → k < (header_of b).ncmds → BoundByNth b k addresses word u → ⊥) → Gives b addresses choice → IsBound b choice word v → ⊥
bound_lacks b addresses word v choice none gives bound = of bound.one
  where
    of : Contains (tables_of b) bound.table → ⊥
    of (k, within, is) =
        let same = tables_are b in
        let there = nth_exists list.Tables b k (subst (λ n. k < n) (length-map (listed list.Tables b) (table_of_command b))
        (subst (λ ts. k < length ts) same within)) in
        let here : bound.table ≡ table_there b there.0 =
        sym is ∙ ap (λ ts. get_or ts k bound.table) same ∙ nth_image (table_of_command b) list.Tables b k there.0 bound.table there.1 in
        let has : slice_get addresses (ordinal_of word) ≡ Some bound.address =
        sym (gives bound.table (ordinal_of word) bound.one bound.import) ∙ bound.chooses in
        let by : BoundIn b bound.table addresses word v = record
        { import = bound.import; address = bound.address; has = has; is = bound.is } in
        none k v (omega (arith, there.1.within, few_listed_of list.Tables b))
        (record { place = there.0; nth = there.1; bound = subst (λ t. BoundIn b t addresses word v) here by })

-- what the loader makes of a word, by the segment that has it
pub made_found : (b : List ℕ) (number place s : ℕ) (choice : Choice) (a word v : ℕ) → IsNth list.Segments b number place
    → HasWord b (segment_in b (command_at b place)) a word → Becomes b s choice word v (is_bind word) → IsMade b s choice a v
made_found b number place s choice a word v nth has becomes =
    record { word = word; stands = segment_has_word b number place a word nth has; becomes = becomes }

pub made_lacks : (b : List ℕ) (s : ℕ) (addresses : List ℕ) (a v : ℕ) (choice : Choice)
    → ((k : ℕ) → k < (header_of b).ncmds → NthMakesNothing b k s addresses a)
    → Gives b addresses choice → IsMade b s choice a v → ⊥
made_lacks b s addresses a v choice none gives made =
    let w = word_in_segment b a made.word made.stands in
    none w.number (omega (arith, w.nth.within, few_listed_of list.Segments b)) w.place made.word w.nth w.has v choice gives made.becomes

-- of the segment with a number, which has this word and no other
pub nth_makes_nothing : (b : List ℕ) (number found s : ℕ) (addresses : List ℕ) (a word : ℕ) → IsNth list.Segments b number found
    → ((w : ℕ) → HasWord b (segment_in b (command_at b found)) a w → Some word ≡ Some w) → MakesNothing b s addresses word →
    NthMakesNothing b number s addresses a
nth_makes_nothing b number found s addresses a word nth only nothing place w other has =
    let same = nth_one list.Segments b number place found other nth in
    let here = only w (subst (λ p. HasWord b (segment_in b (command_at b p)) a w) same has) in
    subst (λ x. MakesNothing b s addresses x) (some_is word w here) nothing

pub nth_has_no_word : (b : List ℕ) (number found s : ℕ) (addresses : List ℕ) (a : ℕ) → IsNth list.Segments b number found
    → ((w : ℕ) → HasWord b (segment_in b (command_at b found)) a w → ⊥) → NthMakesNothing b number s addresses a
nth_has_no_word b number found s addresses a nth none place w other has =
    let same = nth_one list.Segments b number place found other nth in
    absurd (none w (subst (λ p. HasWord b (segment_in b (command_at b p)) a w) same has))

-- memory where a chain word covers, and where none does
own_address : (x s a : ℕ) → x ≡ a + s → a ≡ x - s
own_address x s a h = omega (arith, h)

pub word_byte_held : (b : List ℕ) (s x word_at v : ℕ) (choice : Choice) → s ≤ x → CoversLast b word_at (x - s)
    → IsWordByte b s choice word_at (x - s - word_at) v
    → Holds b s choice x v
word_byte_held b s x word_at v choice behind c byte =
    record {
      a = x - s;
      slid = omega (arith, behind);
      byte = inl (record {
        word_at = word_at;
        covers = c.covers;
        last = c.last;
        value = byte.value;
        fixed = record { on = c.covers.0; word = byte.made.word; stands = byte.made.stands; becomes = byte.made.becomes };
        is = byte.is;
      });
    }

pub word_byte_lacks : (b : List ℕ) (s x word_at v : ℕ) (choice : Choice) → CoversLast b word_at (x - s)
    → (IsWordByte b s choice word_at (x - s - word_at) v → ⊥) → Holds b s choice x v → ⊥
word_byte_lacks b s x word_at v choice c lacks held =
    let here : held.a ≡ x - s = own_address x s held.a held.slid in
    elim held.byte [
      | inl chained ↦ of chained.word_at chained.value (subst (λ a. Covers b chained.word_at a) here chained.covers)
          (λ other covers. chained.last other (subst (λ a. Covers b other a) (sym here) covers)) chained.fixed
          (chained.is ∙ ap (λ a. slice_index (le_bytes POINTER_SIZE chained.value) (a - chained.word_at)) here)
      | inr plain ↦ plain.0 word_at (subst (λ a. Covers b word_at a) (sym here) c.covers)
    ]
  where
    of : (at value : ℕ) → Covers b at (x - s) → ((other : ℕ) → Covers b other (x - s) → other ≤ at) → IsFixed b s choice at value
        → v ≡ slice_index (le_bytes POINTER_SIZE value) (x - s - at) → ⊥
    of at value covers last fixed is =
        let up = last word_at c.covers in
        let down = c.last at covers in
        let same : at ≡ word_at = omega (arith, up, down) in
        let made : IsMade b s choice at value = record { word = fixed.word; stands = fixed.stands; becomes = fixed.becomes } in
        let byte : IsWordByte b s choice at (x - s - at) v = record { value = value; made = made; is = is } in
        lacks (subst (λ w. IsWordByte b s choice w (x - s - w) v) same byte)

pub segment_byte_held : (b : List ℕ) (s x v : ℕ) (choice : Choice) → s ≤ x → IsUncovered b (x - s) → IsSegmentByte b (x - s) v
    → Holds b s choice x v
segment_byte_held b s x v choice behind none byte = record { a = x - s; slid = omega (arith, behind); byte = inr (none, byte) }

pub segment_byte_lacks : (b : List ℕ) (s x v : ℕ) (choice : Choice) → IsUncovered b (x - s) → (IsSegmentByte b (x - s) v → ⊥)
    → Holds b s choice x v → ⊥
segment_byte_lacks b s x v choice none lacks held =
    let here : held.a ≡ x - s = own_address x s held.a held.slid in
    elim held.byte [
      | inl chained ↦ none chained.word_at (subst (λ a. Covers b chained.word_at a) here chained.covers)
      | inr plain ↦ lacks (subst (λ a. IsSegmentByte b a v) here plain.1)
    ]
