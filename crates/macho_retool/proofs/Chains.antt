-- The words on the chains of a changed image are the old ones.
--
-- Segments see the same page starts, since tables and segments are the same. A word on a chain stands in the file bytes of a segment
-- that may
-- be written to (L10). Such a segment isn't `__TEXT`, so its file bytes are a fixed part: they stand between load commands and
-- signature, and
-- are kept. Segments share no address, so whatever segment has the word's bytes is this one. So each word is the same, and leads to the
-- same next one: step by step, both chains are one.
use Rattle.std.proofs.Common.{◌≡◌, ℕ, ◌+◌, ◌-◌, ◌^◌, ◌<◌, ◌≤◌, ◌==◌, nat_lt, nat_le, ◌&&◌, Bool, true, false, if◌then◌else◌, List, [], ◌∷◌, length, map, refl, sym, ap, subst, ◌∙◌, arith}
use Rattle.std.specs.Prelude.{Contains}
use Rattle.std.specs.Str.{bytes_eq}
use Rattle.std.specs.List.{enumerate_from, flat_map}
use Rattle.std.proofs.lemmas.Bool.{leb-true, ltb-true}
use Rattle.std.proofs.lemmas.List.Elements.{Contains-append_left}
use Rattle.macho_bytes.specs.Numbers.{le_at, bits}
use Rattle.macho_bytes.specs.Layouts.{reading}
use Rattle.macho_bytes.proofs.Bools.{and_right, is_equal, true_or_false}
use Rattle.macho_bytes.proofs.Maps.{map_agree}
use Rattle.macho_bytes.proofs.Members.{contains_all, all_contains, map_contains, contains_flat_map, contains_first, enumerate_contains}
use Rattle.macho_bytes.proofs.Reading.{little_is_local}
use Rattle.macho_image_walks.proofs.NumberedWalk.{nth_number}
use Rattle.macho_records.specs.ByteTexts.{name_of}
use Rattle.macho_records.specs.Layouts.{segment_command}
use Rattle.macho_records.specs.declared.header.SegmentCommand.{SegmentCommand}
use Rattle.macho_records.specs.declared.constants.TheConstants.{LC_SEGMENT_64}
use Rattle.macho_model.specs.Commands.{Command, numbered}
use Rattle.macho_model.specs.Images.{Table, segments_of, is_named, tables_of, starts_count, page_starts}
use Rattle.macho_model.specs.Segments.{PAGEZERO, TEXT, loaded_protection_of}
use Rattle.macho_model.specs.Chain.{ChainSegment, chain_segment, chain_segments, starts_in_tables, IsFileWord, OnChain, OnPageChain, OnChainOf, next_of, STRIDE}
use Rattle.macho_model.specs.Chain as chain
use Rattle.macho_model.specs.LoadRules.{table_fits, protections_fit}
use Rattle.macho_model.specs.Loader.{IsAccepted, WordFits, segment_in}
use Rattle.macho_model.proofs.Apart.{segments_rise, one_holds}
use Rattle.macho_loader.proofs.ChainLookups as lookups
use Rattle.macho_image_walks.specs.Readings.{segment_there}
use Rattle.macho_retool.specs.declared.change.Change.{Change}
use Rattle.macho_retool.specs.Changes.{new_size}
use Rattle.macho_retool.specs.Parts.{parts_of, parts_of_segment, parts_of_tables, own_parts, part_of_segment, part_of_section, sections_in}
use Rattle.macho_retool.specs.steps.Spliced.{IsReady, IsSpliced}
use Rattle.macho_retool.proofs.Agree.{Agree}
use Rattle.macho_retool.proofs.Known.{part_behind, fixed_below}
use Rattle.macho_retool.proofs.Same.{region_agrees, segments_same, tables_same}
use Rattle.macho_retool.proofs.TablesSame.{Inside, inside_of, table_agrees, count_same, pages_same}

-- a segment that may be written to isn't `__TEXT`
not_text : (s : SegmentCommand) → protections_fit s ≡ true → (bits 1 1 s.initprot == 1) ≡ true → is_named TEXT s ≡ false
not_text s fits writable =
    let name = name_of s.segname in
    let prot : s.initprot ≡ loaded_protection_of name = is_equal s.initprot (loaded_protection_of name) (and_right _ _ fits) in
    let may : (bits 1 1 (loaded_protection_of name) == 1) ≡ true = subst (λ n. (bits 1 1 n == 1) ≡ true) prot writable in
    elim (bytes_eq name TEXT) as (λ v. (bytes_eq name TEXT ≡ v) → v ≡ false) [
      | true ↦ λ text.
          elim (bytes_eq name PAGEZERO) as (λ z. (bytes_eq name PAGEZERO ≡ z) → true ≡ false) [
            | true ↦ λ zero_page. let is : loaded_protection_of name ≡ 0 = rw zero_page refl in
                absurd (true_or_false (bits 1 1 0 == 1) (subst (λ n. (bits 1 1 n == 1) ≡ true) is may) refl)
            | false ↦ λ other. let is : loaded_protection_of name ≡ 5 = rw (other, text) refl in
                absurd (true_or_false (bits 1 1 5 == 1) (subst (λ n. (bits 1 1 n == 1) ≡ true) is may) refl)
          ] refl
      | false ↦ λ _. refl
    ] refl

-- a segment that may be written to has eight file bytes at an address
pub record Held (b : List ℕ) (a : ℕ) : Type 0 where
  pub segment : SegmentCommand
  pub one : Contains (segments_of b) segment
  pub writable : (bits 1 1 segment.initprot == 1) ≡ true
  pub from : segment.vmaddr ≤ a
  pub to : a + 8 ≤ segment.vmaddr + segment.filesize

-- a word that fits is held so
pub held_fit : (b : List ℕ) (s : SegmentCommand) (page a : ℕ) → Contains (segments_of b) s → WordFits b s page a → Held b a
held_fit b s page a there fits =
    let from = fits.page_from in
    record { segment = s; one = there; writable = fits.writable; from = omega (arith, from); to = fits.to }

-- and so is each word on the chain of an image that is accepted
pub held_on : (b : List ℕ) (a : ℕ) → IsAccepted b → OnChainOf b a → Held b a
held_on b a accepted on =
    let s = lookups.stands_on_page b a accepted on in
    let n = nth_number b s.number s.place s.nth in
    held_fit b (segment_there b s.place) s.page a (s.number, n.0, n.1) s.fits

-- a segment that may be written to is a part
segment_part : (b : List ℕ) (s : SegmentCommand) → IsAccepted b → Contains (segments_of b) s → (bits 1 1 s.initprot == 1) ≡ true
    → Contains (parts_of b) (part_of_segment s)
unfolding segments_of parts_of
segment_part b s accepted there writable =
    let one = map_contains (λ (d : Command). reading segment_command b d.at) (numbered LC_SEGMENT_64 b) s there in
    let d : Command = one.0 in
    let is : segment_in b d ≡ s = one.2 in
    let fits = all_contains (λ z. protections_fit z ≡ true) (segments_of b) s accepted.l3 there in
    let other : is_named TEXT (segment_in b d) ≡ false = subst (λ z. is_named TEXT z ≡ false) (sym is) (not_text s fits writable) in
    let own : Contains (own_parts b d) (part_of_segment s) =
    subst (λ v. Contains (if v then [] else part_of_segment (segment_in b d) ∷ []) (part_of_segment s)) (sym other)
    (subst (λ z. Contains (part_of_segment z ∷ []) (part_of_segment s)) (sym is) (contains_first (part_of_segment s) [])) in
    let mine : Contains (parts_of_segment b d) (part_of_segment s) =
    Contains-append_left (own_parts b d) (map part_of_section (sections_in b d)) (part_of_segment s) own in
    Contains-append_left (flat_map (parts_of_segment b) (numbered LC_SEGMENT_64 b)) (parts_of_tables b) (part_of_segment s)
    (contains_flat_map (parts_of_segment b) (numbered LC_SEGMENT_64 b) d (part_of_segment s) one.1 mine)

-- its file bytes at an address are kept
segment_word : (change : Change) (b x : List ℕ) (c : Command) (t : Table) (s : SegmentCommand) (a : ℕ) → IsReady change b c t
    → IsSpliced change b x c t → Contains (segments_of b) s → (bits 1 1 s.initprot == 1) ≡ true → s.vmaddr ≤ a
    → a + 8 ≤ s.vmaddr + s.filesize → le_at 8 x (s.fileoff + (a - s.vmaddr)) ≡ le_at 8 b (s.fileoff + (a - s.vmaddr))
segment_word change b x c t s a ready splice there writable from to =
    let part = segment_part b s ready.accepted there writable in
    let some : 0 < s.filesize = omega (arith, from, to) in
    let behind = part_behind change b c t (part_of_segment s) ready part some in
    let below = fixed_below change b c t (part_of_segment s) ready part some writable in
    let p = s.fileoff + (a - s.vmaddr) in
    let bytes = region_agrees change b x c t 8 p ready splice (omega (arith, behind)) (omega (arith, below, from, to)) in
    little_is_local.alike 8 x b p p (λ k lt. bytes.same k lt)

-- whatever segment has the bytes
pub word_kept : (change : Change) (b x : List ℕ) (c : Command) (t : Table) (s : SegmentCommand) (a : ℕ) → IsReady change b c t
    → IsSpliced change b x c t → Held b a → Contains (segments_of b) s → s.vmaddr ≤ a
    → a + 8 ≤ s.vmaddr + s.filesize → le_at 8 x (s.fileoff + (a - s.vmaddr)) ≡ le_at 8 b (s.fileoff + (a - s.vmaddr))
word_kept change b x c t s a ready splice held there from to =
    let l4 = λ (z : SegmentCommand) (in_z : Contains (segments_of b) z). leb-true z.filesize z.vmsize
    (and_right _ _ (all_contains (λ y. (nat_le (y.fileoff + y.filesize) (length b) && nat_le y.filesize y.vmsize) ≡ true) (segments_of b) z
    ready.accepted.l4 in_z)) in
    let h_from = held.from in
    let h_to = held.to in
    let size_h = l4 held.segment held.one in
    let size_s = l4 s there in
    let same : held.segment ≡ s =
    one_holds (segments_of b) held.segment s a (segments_rise b ready.accepted) held.one there (h_from, omega (arith, h_to, size_h))
    (from, omega (arith, to, size_s)) in
    segment_word change b x c t s a ready splice there (subst (λ z. (bits 1 1 z.initprot == 1) ≡ true) same held.writable) from to

-- the word of the file, there and back
word_bytes : (change : Change) (b x : List ℕ) (c : Command) (t : Table) (z : ChainSegment) (a : ℕ) → IsReady change b c t
    → IsSpliced change b x c t → Held b a → Contains (chain_segments b) z → z.address ≤ a → a + 8 ≤ z.address + z.file_size
    → le_at 8 x (z.file_offset + (a - z.address)) ≡ le_at 8 b (z.file_offset + (a - z.address))
unfolding chain_segments
word_bytes change b x c t z a ready splice held there from to =
    let one = map_contains (chain_segment b) (enumerate_from 0 (segments_of b)) z there in
    let i = one.0 in
    let n = enumerate_contains (segments_of b) i one.1 in
    let is : chain_segment b (i.0, i.1) ≡ z = one.2 in
    subst (λ (y : ChainSegment). y.address ≤ a → a + 8 ≤ y.address + y.file_size
    → le_at 8 x (y.file_offset + (a - y.address)) ≡ le_at 8 b (y.file_offset + (a - y.address))) is
    (λ f g. word_kept change b x c t i.1 a ready splice held (i.0, n.0, n.1) f g) from to

pub word_forth : (change : Change) (b x : List ℕ) (c : Command) (t : Table) (a word : ℕ) → IsReady change b c t
    → IsSpliced change b x c t → Held b a → IsFileWord (chain_segments b) b a word → IsFileWord (chain_segments b) x a word
word_forth change b x c t a word ready splice held w =
    record {
      segment = w.segment;
      one = w.one;
      from = w.from;
      to = w.to;
      is = w.is ∙ sym (word_bytes change b x c t w.segment a ready splice held w.one w.from w.to);
    }

pub word_back : (change : Change) (b x : List ℕ) (c : Command) (t : Table) (a word : ℕ) → IsReady change b c t
    → IsSpliced change b x c t → Held b a → IsFileWord (chain_segments b) x a word → IsFileWord (chain_segments b) b a word
word_back change b x c t a word ready splice held w =
    record {
      segment = w.segment;
      one = w.one;
      from = w.from;
      to = w.to;
      is = w.is ∙ word_bytes change b x c t w.segment a ready splice held w.one w.from w.to;
    }

-- segments see the same starts
pub starts_in_same : (b x : List ℕ) (k : ℕ) (us : List Table)
    → ((u : Table) → Contains us u → Agree u.size x b u.at u.at × Inside b u) → starts_in_tables x us k ≡ starts_in_tables b us k
starts_in_same b x k [] each = refl
starts_in_same b x k (u ∷ us) each =
    let both = each u (contains_first u us) in
    ap (λ n. if nat_lt k n then page_starts x u k else []) (count_same b x u both.0 both.1)
    ∙ if_there (nat_lt k (starts_count b u)) (page_starts x u k) (page_starts b u k)
    (λ lt. pages_same b x u k both.0 both.1 (ltb-true k (starts_count b u) lt))
  where
    if_there : (v : Bool) (xs ys : List ℕ) → (v ≡ true → xs ≡ ys) → (if v then xs else []) ≡ (if v then ys else [])
    if_there true xs ys same = same refl
    if_there false xs ys same = refl

-- a table of an image that may be changed has its bytes, and is whole
pub table_known : (change : Change) (b x : List ℕ) (c : Command) (t u : Table) → IsReady change b c t → IsSpliced change b x c t
    → Contains (tables_of b) u → Agree u.size x b u.at u.at × Inside b u
table_known change b x c t u ready splice there =
    let inside = inside_of b u (all_contains (λ v. table_fits b v ≡ true) (tables_of b) u ready.accepted.l8.1 there) in
    (table_agrees change b x c t u ready splice there inside, inside)

pub chain_segments_same : (change : Change) (b x : List ℕ) (c : Command) (t : Table) → IsReady change b c t → IsSpliced change b x c t
    → new_size change < 2 ^ 32 → chain_segments x ≡ chain_segments b
unfolding chain_segments
chain_segments_same change b x c t ready splice small =
    ap (λ ss. map (chain_segment x) (enumerate_from 0 ss)) (segments_same change b x c t ready splice small)
    ∙ map_agree (chain_segment x) (chain_segment b) (enumerate_from 0 (segments_of b))
    (contains_all (λ i. chain_segment x i ≡ chain_segment b i) (enumerate_from 0 (segments_of b)) (λ i there. one i.0 i.1))
  where
    one : (k : ℕ) (s : SegmentCommand) → chain_segment x (k, s) ≡ chain_segment b (k, s)
    one k s =
        ap (λ (starts : List ℕ). record { address = s.vmaddr; file_offset = s.fileoff; file_size = s.filesize; starts = starts })
        (ap (λ us. starts_in_tables x us k) (tables_same change b x c t ready splice small)
        ∙ starts_in_same b x k (tables_of b) (λ u there. table_known change b x c t u ready splice there))

-- a page's chain, back to the old image
pub page_back : (change : Change) (b x : List ℕ) (c : Command) (t : Table) (s : ChainSegment) (page a : ℕ) → IsReady change b c t
    → IsSpliced change b x c t → ((y : ℕ) → OnPageChain (chain_segments b) b s page y → Held b y)
    → OnPageChain (chain_segments b) x s page a → OnPageChain (chain_segments b) b s page a
page_back change b x c t s page _ ready splice held (chain.OnPageChain.first within starts) = chain.OnPageChain.first within starts
page_back change b x c t s page _ ready splice held (chain.OnPageChain.next a word on stands goes) =
    let before = page_back change b x c t s page a ready splice held on in
    chain.OnPageChain.next a word before (word_back change b x c t a word ready splice (held a before) stands) goes

-- THE chain, there and back
pub chain_back : (change : Change) (b x : List ℕ) (c : Command) (t : Table) (a : ℕ) → IsReady change b c t
    → IsSpliced change b x c t → OnChain (chain_segments b) x a → OnChain (chain_segments b) b a
chain_back change b x c t _ ready splice (chain.OnChain.first s page one within starts) = chain.OnChain.first s page one within starts
chain_back change b x c t _ ready splice (chain.OnChain.next a word on stands goes) =
    let before = chain_back change b x c t a ready splice on in
    chain.OnChain.next a word before
    (word_back change b x c t a word ready splice (held_on b a ready.accepted before) stands) goes

pub chain_forth : (change : Change) (b x : List ℕ) (c : Command) (t : Table) (a : ℕ) → IsReady change b c t
    → IsSpliced change b x c t → OnChain (chain_segments b) b a → OnChain (chain_segments b) x a
chain_forth change b x c t _ ready splice (chain.OnChain.first s page one within starts) = chain.OnChain.first s page one within starts
chain_forth change b x c t _ ready splice (chain.OnChain.next a word on stands goes) =
    chain.OnChain.next a word (chain_forth change b x c t a ready splice on)
    (word_forth change b x c t a word ready splice (held_on b a ready.accepted on) stands) goes
