-- At one address memory has one byte.
--
-- The slide is taken off the address, so both bytes are of one address a of the file. If a chain word covers a, both are of the covering
-- word at the greatest address, which is one. Segments of an accepted image share no address, so its file bytes stand in one place, and
-- the word there is one. What moves with the base becomes one value; what binds has its import in the one table, and a choice is a map, so
-- it becomes one value, too. If no word covers a, both are the byte of the one segment there.
use Rattle.std.proofs.Common.{◌≡◌, ℕ, ◌+◌, ◌-◌, ◌^◌, ◌%◌, ◌<◌, ◌≤◌, ◌⊎◌, nat_lt, nat_le, ◌&&◌, if◌then◌else◌, Bool, true, false, List, length, get_or, slice_index, sym, ap, subst, ◌∙◌, arith, inl, inr, Option, Some}
use Rattle.std.specs.Prelude.{Contains}
use Rattle.std.specs.List.{enumerate_from}
use Rattle.std.proofs.lemmas.Bool.{and_parts, leb-true}
use Rattle.std.proofs.lemmas.List.{get_or_default}
use Rattle.macho_bytes.proofs.Members.{map_contains, enumerate_contains, all_contains}
use Rattle.macho_records.specs.Numbers.{le_at, le_bytes}
use Rattle.macho_records.specs.declared.header.SegmentCommand.{SegmentCommand}
use Rattle.macho_model.specs.Needs.{POINTER_SIZE}
use Rattle.macho_model.specs.Images.{Table, segments_of, tables_of, import_entry, import_name, import_library_name}
use Rattle.macho_model.specs.Chain.{ChainSegment, chain_segment, chain_segments, IsFileWord}
use Rattle.macho_model.specs.Loader.{IsAccepted, is_bind, ordinal_of}
use Rattle.macho_model.specs.Memory.{Choice, chosen, Becomes, bind_addend, Covers, IsChainByte, IsSegmentByte}
use Rattle.macho_model.proofs.Apart.{one_holds, segments_rise, share_no_address}
use Rattle.macho_verify_laws.specs.Laws.{MemoryIsOne}

-- a word of the file, by the segment that has it
pub record StandsIn (b : List ℕ) (a word : ℕ) : Type 0 where
  pub segment : SegmentCommand
  pub one : Contains (segments_of b) segment
  pub from : segment.vmaddr ≤ a
  pub to : a < segment.vmaddr + segment.vmsize
  pub is : word ≡ le_at POINTER_SIZE b (segment.fileoff + (a - segment.vmaddr))

pub stands_in : (b : List ℕ) (a word : ℕ) → IsAccepted b → IsFileWord (chain_segments b) b a word → StandsIn b a word
unfolding chain_segments
stands_in b a word accepted w =
    let m = map_contains (chain_segment b) (enumerate_from 0 (segments_of b)) w.segment w.one in
    let i = m.0 in
    let n = enumerate_contains (segments_of b) i m.1 in
    let there : Contains (segments_of b) i.1 = (i.0, n.0, n.1) in
    let l4 = and_parts (nat_le (i.1.fileoff + i.1.filesize) (length b)) (nat_le i.1.filesize i.1.vmsize)
    (all_contains (λ (y : SegmentCommand). (nat_le (y.fileoff + y.filesize) (length b) && nat_le y.filesize y.vmsize) ≡ true)
    (segments_of b) i.1 accepted.l4 there) in
    let small = leb-true i.1.filesize i.1.vmsize l4.1 in
    let from : i.1.vmaddr ≤ a = subst (λ (y : ChainSegment). y.address ≤ a) (sym m.2) w.from in
    let to : a + POINTER_SIZE ≤ i.1.vmaddr + i.1.filesize =
    subst (λ (y : ChainSegment). a + POINTER_SIZE ≤ y.address + y.file_size) (sym m.2) w.to in
    record {
      segment = i.1;
      one = there;
      from = from;
      to = omega (arith, to, small);
      is = subst (λ (y : ChainSegment). word ≡ le_at POINTER_SIZE b (y.file_offset + (a - y.address))) (sym m.2) w.is;
    }

-- the word of the file at an address is one
pub one_word : (b : List ℕ) (a u v : ℕ) → IsAccepted b → IsFileWord (chain_segments b) b a u → IsFileWord (chain_segments b) b a v → u ≡ v
one_word b a u v accepted h k =
    let s = stands_in b a u accepted h in
    let t = stands_in b a v accepted k in
    let same : s.segment ≡ t.segment =
    one_holds (segments_of b) s.segment t.segment a (segments_rise b accepted) s.one t.one (s.from, s.to) (t.from, t.to) in
    s.is ∙ ap (λ (y : SegmentCommand). le_at POINTER_SIZE b (y.fileoff + (a - y.vmaddr))) same ∙ sym t.is

-- a list of one element at most has one
one_element : {X : Type 0} (xs : List X) (x y : X) → length xs ≤ 1 → Contains xs x → Contains xs y → x ≡ y
one_element xs x y short (i, lt_i, at_i) (j, lt_j, at_j) =
    let same : i ≡ j = omega (arith, short, lt_i, lt_j) in
    sym at_i ∙ get_or_default xs i x y lt_i ∙ ap (λ (k : ℕ). get_or xs k y) same ∙ at_j

pub some_one : (x y : ℕ) → Some x ≡ Some y → x ≡ y
some_one x y e = ap (λ (o : Option ℕ). value_of o) e
  where
    value_of : Option ℕ → ℕ
    value_of (Some z) = z
    value_of _ = 0

-- what a word becomes is one
pub one_value : (b : List ℕ) (s : ℕ) (choice : Choice) (word u v : ℕ) (binds : Bool) → IsAccepted b → Becomes b s choice word u binds
    → Becomes b s choice word v binds → u ≡ v
one_value b s choice word u v false accepted h k = h ∙ sym k
one_value b s choice word u v true accepted h k =
    let same : h.table ≡ k.table = one_element (tables_of b) h.table k.table accepted.l8.0 h.one k.one in
    let key = ap
    (λ (t : Table). chosen choice (import_library_name b (import_entry b t (ordinal_of word)))
    (import_name b t (import_entry b t (ordinal_of word)))) same in
    let address : h.address ≡ k.address = some_one h.address k.address (sym h.chooses ∙ key ∙ k.chooses) in
    h.is ∙ ap (λ (x : ℕ). (x + (import_entry b h.table (ordinal_of word)).addend + bind_addend word) % 2 ^ 64) address
    ∙ ap (λ (t : Table). (k.address + (import_entry b t (ordinal_of word)).addend + bind_addend word) % 2 ^ 64) same ∙ sym k.is

-- the byte of the chain words at an address is one
pub one_chain_byte : (b : List ℕ) (s : ℕ) (choice : Choice) (a u v : ℕ) → IsAccepted b → IsChainByte b s choice a u
    → IsChainByte b s choice a v → u ≡ v
one_chain_byte b s choice a u v accepted h k =
    let below = k.last h.word_at h.covers in
    let above = h.last k.word_at k.covers in
    let at : h.word_at ≡ k.word_at = omega (arith, below, above) in
    let stands = subst (λ (w : ℕ). IsFileWord (chain_segments b) b w h.fixed.word) at h.fixed.stands in
    let word = one_word b k.word_at h.fixed.word k.fixed.word accepted stands k.fixed.stands in
    let becomes = subst (λ (w : ℕ). Becomes b s choice w h.value (is_bind w)) word h.fixed.becomes in
    let value = one_value b s choice k.fixed.word h.value k.value (is_bind k.fixed.word) accepted becomes k.fixed.becomes in
    h.is ∙ ap (λ (w : ℕ). slice_index (le_bytes POINTER_SIZE h.value) (a - w)) at
    ∙ ap (λ (x : ℕ). slice_index (le_bytes POINTER_SIZE x) (a - k.word_at)) value ∙ sym k.is

-- the byte of the segments at an address is one
pub one_segment_byte : (b : List ℕ) (a u v : ℕ) → IsAccepted b → IsSegmentByte b a u → IsSegmentByte b a v → u ≡ v
one_segment_byte b a u v accepted h k =
    let same = share_no_address b h.segment k.segment a accepted h.one k.one (h.from, h.to) (k.from, k.to) in
    h.is ∙ ap (λ (t : SegmentCommand). if nat_lt (a - t.vmaddr) t.filesize then slice_index b (t.fileoff + (a - t.vmaddr)) else 0) same
    ∙ sym k.is

-- THE byte of memory is one.
pub memory_is_one : MemoryIsOne
memory_is_one b s choice x v w accepted h k =
    let in_h = h.slid in
    let in_k = k.slid in
    let same : k.a ≡ h.a = omega (arith, in_h, in_k) in
    let other = subst (λ (a : ℕ). IsChainByte b s choice a w ⊎ (((word_at : ℕ) → Covers b word_at a → ⊥) × IsSegmentByte b a w)) same
    k.byte in
    elim h.byte [
      | inl one ↦ elim other [
        | inl two ↦ one_chain_byte b s choice h.a v w accepted one two
        | inr plain ↦ absurd (plain.0 one.word_at one.covers)
      ]
      | inr plain ↦ elim other [
        | inl two ↦ absurd (plain.0 two.word_at two.covers)
        | inr too ↦ one_segment_byte b h.a v w accepted plain.1 too.1
      ]
    ]
