-- What memory holds where no chain word has a byte.
--
-- At such an address of a mapped segment memory holds the segment's own byte: the file's where the file has one, zero behind. A
-- text that stands in the file part of a segment is therefore held at the segment's address plus its offset there, and so is
-- each number that its bytes make, since a number of w bytes reads no byte but those. The slide is added to the address alone.
-- A file without fixup tables has no chain word, so all of it is such.
use Rattle.std.proofs.Common.{◌≡◌, ℕ, ◌+◌, ◌-◌, ◌<◌, ◌≤◌, nat_lt, if◌then◌else◌, false, List, [], length, drop, slice_range, slice_index, get_or, refl, sym, ap, subst, ◌∙◌, arith, inl, inr}
use Rattle.std.specs.Prelude.{Contains}
use Rattle.std.proofs.lemmas.Bool.{lt-ltb}
use Rattle.std.proofs.lemmas.Bool.Decides.{nat_tests}
use Rattle.std.proofs.lemmas.List.Edits.{length-between, get_or-between}
use Rattle.byteorder.specs.Numbers.{little_from-take}
use Rattle.macho_records.specs.Numbers.{le_at}
use Rattle.macho_records.specs.ByteTexts.{Stands}
use Rattle.macho_records.specs.declared.header.SegmentCommand.{SegmentCommand}
use Rattle.macho_model.specs.Images.{mapped_segments, tables_of}
use Rattle.macho_model.specs.Memory.{Choice, Covers, IsSegmentByte, Holds, HoldsText, HoldsNumber}
use Rattle.macho_model.specs.HeldLaws.{IsFree}
use Rattle.macho_model.proofs.Unchained.{uncovered}
use Rattle.macho_model.proofs.ChainMemory.{unfixed_byte_is_held}

-- a byte of a segment by its place in it
pub segment_file_byte : (b : List ℕ) (segment : SegmentCommand) (i : ℕ) → Contains (mapped_segments b) segment → i < segment.filesize
    → i < segment.vmsize
    → IsSegmentByte b (segment.vmaddr + i) (slice_index b (segment.fileoff + i))
segment_file_byte b segment i one in_file in_memory =
    record { segment = segment; one = one; from = omega arith; to = omega arith; is = value }
  where
    value : slice_index b (segment.fileoff + i)
        ≡ (if nat_lt (segment.vmaddr + i - segment.vmaddr) segment.filesize
        then slice_index b (segment.fileoff + (segment.vmaddr + i - segment.vmaddr)) else 0)
    value =
        let same : segment.vmaddr + i - segment.vmaddr ≡ i = omega arith in
        rw (same, lt-ltb i segment.filesize in_file) refl

-- zero, behind the file bytes
pub segment_zero : (b : List ℕ) (segment : SegmentCommand) (i : ℕ) → Contains (mapped_segments b) segment → segment.filesize ≤ i
    → i < segment.vmsize
    → IsSegmentByte b (segment.vmaddr + i) 0
segment_zero b segment i one behind in_memory =
    record { segment = segment; one = one; from = omega arith; to = omega arith; is = value }
  where
    past : (m n : ℕ) → n ≤ m → nat_lt m n ≡ false
    past m n h = grind (arith, nat_tests)

    value : 0
        ≡ (if nat_lt (segment.vmaddr + i - segment.vmaddr) segment.filesize
        then slice_index b (segment.fileoff + (segment.vmaddr + i - segment.vmaddr)) else 0)
    value =
        let same : segment.vmaddr + i - segment.vmaddr ≡ i = omega arith in
        rw (same, past i segment.filesize behind) refl

-- a file without fixup tables has no chain word
pub all_free : (b : List ℕ) (a n : ℕ) → tables_of b ≡ [] → IsFree b a n
all_free b a n none k within word_at covers = uncovered b none (a + k) word_at covers

-- memory holds the file's byte at an offset in a segment, where the file has one
pub file_byte_is_held : (b : List ℕ) (s : ℕ) (choice : Choice) (segment : SegmentCommand) (i : ℕ)
    → ((word_at : ℕ) → Covers b word_at (segment.vmaddr + i) → ⊥)
    → Contains (mapped_segments b) segment → i < segment.filesize → i < segment.vmsize
    → Holds b s choice (segment.vmaddr + i + s) (slice_index b (segment.fileoff + i))
file_byte_is_held b s choice segment i free one in_file in_memory =
    unfixed_byte_is_held b s choice (segment.vmaddr + i) (slice_index b (segment.fileoff + i)) free
    (segment_file_byte b segment i one in_file in_memory)

-- and zero behind
pub zero_is_held : (b : List ℕ) (s : ℕ) (choice : Choice) (segment : SegmentCommand) (i : ℕ)
    → ((word_at : ℕ) → Covers b word_at (segment.vmaddr + i) → ⊥)
    → Contains (mapped_segments b) segment → segment.filesize ≤ i → i < segment.vmsize → Holds b s choice (segment.vmaddr + i + s) 0
zero_is_held b s choice segment i free one behind in_memory =
    unfixed_byte_is_held b s choice (segment.vmaddr + i) 0 free (segment_zero b segment i one behind in_memory)

-- a byte of a free range
free_at : (b : List ℕ) (a n i k : ℕ) → IsFree b (a + i) n → k < n → (word_at : ℕ) → Covers b word_at (a + (i + k)) → ⊥
free_at b a n i k free within word_at covers =
    let here : a + (i + k) ≡ a + i + k = omega arith in
    free k within word_at (subst (λ (x : ℕ). Covers b word_at x) here covers)

-- a text of the file is held, where it stands in the file part of a segment
pub text_is_held : (b : List ℕ) (s : ℕ) (choice : Choice) (segment : SegmentCommand) (i : ℕ) (text : List ℕ)
    → IsFree b (segment.vmaddr + i) (length text)
    → Contains (mapped_segments b) segment → i + length text ≤ segment.filesize → segment.filesize ≤ segment.vmsize
    → Stands b (record { at = segment.fileoff + i; text = text }) → HoldsText b s choice (segment.vmaddr + i + s) text
text_is_held b s choice segment i text free one fits small stands k within =
    let at_k : slice_index text k ≡ slice_index b (segment.fileoff + (i + k)) =
    ap (λ (t : List ℕ). get_or t k 0) (sym stands.same)
    ∙ get_or-between b (segment.fileoff + i) (segment.fileoff + i + length text) k 0 (omega arith)
    ∙ ap (λ (j : ℕ). get_or b j 0) (omega arith) in
    let here : segment.vmaddr + i + s + k ≡ segment.vmaddr + (i + k) + s = omega arith in
    rw (here, at_k)
    (file_byte_is_held b s choice segment (i + k) (free_at b segment.vmaddr (length text) i k free within) one (omega arith)
    (omega arith))

-- zeros are held, where they stand behind the file part
pub zeros_are_held : (b : List ℕ) (s : ℕ) (choice : Choice) (segment : SegmentCommand) (i n : ℕ) → IsFree b (segment.vmaddr + i) n
    → Contains (mapped_segments b) segment → segment.filesize ≤ i → i + n ≤ segment.vmsize → (k : ℕ) → k < n
    → Holds b s choice (segment.vmaddr + i + k + s) 0
zeros_are_held b s choice segment i n free one behind fits k within =
    let here : segment.vmaddr + i + k ≡ segment.vmaddr + (i + k) = omega arith in
    rw here (zero_is_held b s choice segment (i + k) (free_at b segment.vmaddr n i k free within) one (omega arith) (omega arith))

-- a text that is held is a number that is held
pub number_of_text : (b : List ℕ) (s : ℕ) (choice : Choice) (w x : ℕ) (text : List ℕ) → length text ≡ w → HoldsText b s choice x text
    → HoldsNumber b s choice w x (le_at w text 0)
number_of_text b s choice w x text long held = record { text = text; long = long; held = held; is = refl }

-- a number of a list is the number of the bytes that it is made of
pub le_at-between : (w : ℕ) (bytes : List ℕ) (at : ℕ) → le_at w (slice_range bytes at (at + w)) 0 ≡ le_at w bytes at
unfolding le_at
le_at-between w bytes at = little_from-take 0 w (at + w - at) (drop at bytes) (omega arith)

-- a number of the file is held, where it stands in the file part of a segment
pub number_is_held : (b : List ℕ) (s : ℕ) (choice : Choice) (segment : SegmentCommand) (w i : ℕ) → IsFree b (segment.vmaddr + i) w
    → Contains (mapped_segments b) segment → i + w ≤ segment.filesize → segment.filesize ≤ segment.vmsize
    → segment.fileoff + segment.filesize ≤ length b
    → HoldsNumber b s choice w (segment.vmaddr + i + s) (le_at w b (segment.fileoff + i))
number_is_held b s choice segment w i free one fits small inside =
    rw (← le_at-between w b (segment.fileoff + i))
    (number_of_text b s choice w (segment.vmaddr + i + s) (slice_range b (segment.fileoff + i) (segment.fileoff + i + w)) long held)
  where
    long : length (slice_range b (segment.fileoff + i) (segment.fileoff + i + w)) ≡ w
    long = omega (arith, length-between b (segment.fileoff + i) (segment.fileoff + i + w))

    held : HoldsText b s choice (segment.vmaddr + i + s) (slice_range b (segment.fileoff + i) (segment.fileoff + i + w))
    held =
        text_is_held b s choice segment i (slice_range b (segment.fileoff + i) (segment.fileoff + i + w))
        (λ k within. free k (omega (arith, within, long))) one (omega (arith, long)) small
        (record { within = omega (arith, long); same = ap (λ (e : ℕ). slice_range b (segment.fileoff + i) (segment.fileoff + i + e)) long })
