-- The fixup table of a changed image says what it said.
--
-- The table is a part of the image that isn't empty, and fixed: it stands between load commands and signature, so it has its bytes. The old
-- image is accepted, so all that is read of the table stands inside it. Each record, number and name is read at a place that records read
-- before give, so it is the same.
use Rattle.std.proofs.Common.{◌≡◌, ℕ, ◌+◌, ◌*◌, ◌-◌, ◌<◌, ◌≤◌, ◌==◌, Bool, true, false, if◌then◌else◌, List, [], ◌++◌, length, map, slice_range, refl, sym, ap, ◌∙◌, arith}
use Rattle.std.specs.Prelude.{Contains}
use Rattle.std.specs.List.{list_all, range_with_len, flat_map}
use Rattle.std.proofs.lemmas.Bool.{leb-true}
use Rattle.std.proofs.Math.Nat.{mul-add, mul-le-mul_left}
use Rattle.std.proofs.lemmas.List.Elements.{Contains-append_left, Contains-append_right}
use Rattle.macho_bytes.specs.Numbers.{le_at, signed}
use Rattle.macho_bytes.specs.Layouts.{reading}
use Rattle.macho_bytes.proofs.Bools.{and_left, and_right, and_both, or_right, or_first, unequal_is, equal_is, true_or_false}
use Rattle.macho_bytes.proofs.Maps.{map_agree}
use Rattle.macho_bytes.proofs.Members.{contains_all, all_contains, all_pass, passes_each, one_passes, range_contains, contains_map, contains_range}
use Rattle.macho_bytes.proofs.Reading.{little_is_local}
use Rattle.macho_records.specs.CommandLayouts.{chained_starts_in_segment}
use Rattle.macho_records.specs.CommandSpellings.{chained_fixups_header_rows, chained_starts_in_segment_rows}
use Rattle.macho_records.specs.ChainedFixupsHeader.{ChainedFixupsHeader}
use Rattle.macho_records.specs.ChainedStartsInSegment.{ChainedStartsInSegment}
use Rattle.macho_model.specs.Commands.{Command, numbered}
use Rattle.macho_records.specs.declared.constants.TheConstants.{LC_SEGMENT_64}
use Rattle.macho_model.specs.Images.{Table, segments_of, tables_of, base_of, fixups_header, starts_place, starts_count, starts_offset, segment_starts_place, segment_starts, page_start, page_starts, import_entry_size, import_place, entry_addend, import_entry, table_names, tries_of, symbol_tables_of, string_tables_of, signatures_of}
use Rattle.macho_model.specs.LoadRules.{table_fits, starts_fit}
use Rattle.macho_retool.specs.declared.change.Change.{Change}
use Rattle.macho_retool.specs.declared.parts.FilePart.{FilePart}
use Rattle.macho_retool.specs.Parts.{parts_of, parts_of_segment, part_of_table}
use Rattle.macho_retool.specs.steps.Spliced.{IsReady, IsSpliced}
use Rattle.macho_retool.proofs.Agree.{Agree, agree_part, reading-agrees, number-agrees, text-agrees}
use Rattle.macho_retool.proofs.Known.{part_behind, fixed_below}
use Rattle.macho_retool.proofs.Same.{region_agrees}

-- what is read of a table that fits, part by part, with the places where it stands in the table
pub record Inside (b : List ℕ) (u : Table) : Type 0 where
  pub head : 28 ≤ u.size
  pub count : (fixups_header b u).starts_offset + 4 + 4 * starts_count b u ≤ u.size
  pub starts : (k : ℕ) → k < starts_count b u → (starts_offset b u k ≡ 0 → ⊥)
      → (fixups_header b u).starts_offset + starts_offset b u k + 22 + 2 * (segment_starts b u k).page_count ≤ u.size
  pub imports : (fixups_header b u).imports_offset
      + import_entry_size (fixups_header b u).imports_format * (fixups_header b u).imports_count ≤ u.size
  pub symbols : (fixups_header b u).symbols_offset ≤ u.size

pub inside_of : (b : List ℕ) (u : Table) → table_fits b u ≡ true → Inside b u
inside_of b u fits =
    let h = fixups_header b u in
    let f9 = and_left _ _ fits in
    let all = and_right _ _ fits in
    let f8 = and_left _ _ f9 in
    let f7 = and_left _ _ f8 in
    let f6 = and_left _ _ f7 in
    let f5 = and_left _ _ f6 in
    let f4 = and_left _ _ f5 in
    let f3 = and_left _ _ f4 in
    let f2 = and_left _ _ f3 in
    record {
      head = leb-true 28 u.size (and_right _ _ f2);
      count = leb-true (h.starts_offset + 4 + 4 * starts_count b u) u.size (and_right _ _ f6);
      starts = λ k lt some. starts_in k (all_contains (λ j. starts_fit b u j ≡ true) (range_with_len 0 (starts_count b u)) k
          (all_pass (starts_fit b u) (range_with_len 0 (starts_count b u)) all) (contains_range (starts_count b u) k lt)) some;
      imports = leb-true (h.imports_offset + import_entry_size h.imports_format * h.imports_count) u.size (and_right _ _ f8);
      symbols = leb-true h.symbols_offset u.size (and_right _ _ f9);
    }
  where
    starts_in : (k : ℕ) → starts_fit b u k ≡ true → (starts_offset b u k ≡ 0 → ⊥)
        → (fixups_header b u).starts_offset + starts_offset b u k + 22 + 2 * (segment_starts b u k).page_count ≤ u.size
    starts_in k fit some =
        let none : (starts_offset b u k == 0) ≡ false = unequal_is (starts_offset b u k) 0 some in
        let right = or_right (starts_offset b u k == 0) _ fit none in
        leb-true _ _ (and_left _ _ (and_left _ _ (and_left _ _ right)))

-- a table's bytes are kept
pub table_agrees : (change : Change) (b x : List ℕ) (c : Command) (t u : Table) → IsReady change b c t → IsSpliced change b x c t
    → Contains (tables_of b) u → Inside b u → Agree u.size x b u.at u.at
unfolding parts_of
table_agrees change b x c t u ready splice there inside =
    let p : FilePart = part_of_table true u in
    let f = map (part_of_table true) (tables_of b) in
    let tr = map (part_of_table false) (tries_of b) in
    let sy = map (part_of_table false) (symbol_tables_of b) in
    let st = map (part_of_table false) (string_tables_of b) in
    let sg = map (part_of_table false) (signatures_of b) in
    let first : Contains f p = contains_map (part_of_table true) (tables_of b) u there in
    let tables : Contains (f ++ tr ++ sy ++ st ++ sg) p =
    Contains-append_left (f ++ tr ++ sy ++ st) sg p (Contains-append_left (f ++ tr ++ sy) st p
    (Contains-append_left (f ++ tr) sy p (Contains-append_left f tr p first))) in
    let all : Contains (parts_of b) p =
    Contains-append_right (flat_map (parts_of_segment b) (numbered LC_SEGMENT_64 b)) (f ++ tr ++ sy ++ st ++ sg) p tables in
    let head = inside.head in
    let some : 0 < u.size = omega (arith, head) in
    region_agrees change b x c t u.size u.at ready splice (part_behind change b c t p ready all some)
    (fixed_below change b c t p ready all some refl)

-- its header
pub header_same : (b x : List ℕ) (u : Table) → Agree u.size x b u.at u.at → Inside b u → fixups_header x u ≡ fixups_header b u
header_same b x u a inside =
    let head = inside.head in
    reading-agrees chained_fixups_header_rows little_is_local x b u.at u.at
    (agree_part u.size 28 0 x b u.at u.at u.at u.at a (omega (arith, head)) (omega arith) (omega arith))

-- a number of w bytes at a place of the table
number_same : (b x : List ℕ) (u : Table) (w p o : ℕ) → Agree u.size x b u.at u.at → p ≡ u.at + o → o + w ≤ u.size
    → le_at w x p ≡ le_at w b p
number_same b x u w p o a is fits =
    ap (le_at w x) is ∙ number-agrees u.size w o x b u.at u.at a fits ∙ ap (le_at w b) (sym is)

-- how many starts it has, and where they are
pub count_same : (b x : List ℕ) (u : Table) → Agree u.size x b u.at u.at → Inside b u → starts_count x u ≡ starts_count b u
count_same b x u a inside =
    let count = inside.count in
    ap (λ (h : ChainedFixupsHeader). le_at 4 x (u.at + h.starts_offset)) (header_same b x u a inside)
    ∙ number_same b x u 4 (starts_place b u) (fixups_header b u).starts_offset a refl (omega (arith, count))

pub offset_same : (b x : List ℕ) (u : Table) (k : ℕ) → Agree u.size x b u.at u.at → Inside b u → k < starts_count b u
    → starts_offset x u k ≡ starts_offset b u k
offset_same b x u k a inside lt =
    let count = inside.count in
    ap (λ (h : ChainedFixupsHeader). le_at 4 x (u.at + h.starts_offset + 4 + 4 * k)) (header_same b x u a inside)
    ∙ number_same b x u 4 (starts_place b u + 4 + 4 * k) ((fixups_header b u).starts_offset + 4 + 4 * k) a (omega arith)
    (omega (arith, count, lt))

place_same : (b x : List ℕ) (u : Table) (k : ℕ) → Agree u.size x b u.at u.at → Inside b u → k < starts_count b u
    → segment_starts_place x u k ≡ segment_starts_place b u k
place_same b x u k a inside lt =
    ap (λ (h : ChainedFixupsHeader). u.at + h.starts_offset + starts_offset x u k) (header_same b x u a inside)
    ∙ ap (λ o. starts_place b u + o) (offset_same b x u k a inside lt)

-- the starts of a segment that has some
pub starts_same : (b x : List ℕ) (u : Table) (k : ℕ) → Agree u.size x b u.at u.at → Inside b u → k < starts_count b u
    → (starts_offset b u k ≡ 0 → ⊥) → segment_starts x u k ≡ segment_starts b u k
starts_same b x u k a inside lt some =
    let fits = inside.starts k lt some in
    let p = segment_starts_place b u k in
    ap (λ q. reading chained_starts_in_segment x q) (place_same b x u k a inside lt)
    ∙ reading-agrees chained_starts_in_segment_rows little_is_local x b p p
    (agree_part u.size 22 ((fixups_header b u).starts_offset + starts_offset b u k) x b u.at u.at p p a (omega (arith, fits)) (omega arith)
    (omega arith))

-- a list that is empty by the same test
list_unless : {X : Type 0} (v : Bool) (xs ys : List X) → (v ≡ false → xs ≡ ys) → (if v then [] else xs) ≡ (if v then [] else ys)
list_unless true xs ys same = refl
list_unless false xs ys same = same refl

-- the page starts of a segment
pub pages_same : (b x : List ℕ) (u : Table) (k : ℕ) → Agree u.size x b u.at u.at → Inside b u → k < starts_count b u
    → page_starts x u k ≡ page_starts b u k
pages_same b x u k a inside lt =
    ap (λ o. if o == 0 then [] else map (page_start x u k) (range_with_len 0 (segment_starts x u k).page_count))
    (offset_same b x u k a inside lt)
    ∙ list_unless (starts_offset b u k == 0) (map (page_start x u k) (range_with_len 0 (segment_starts x u k).page_count))
    (map (page_start b u k) (range_with_len 0 (segment_starts b u k).page_count)) pages
  where
    pages : (starts_offset b u k == 0) ≡ false
        → map (page_start x u k) (range_with_len 0 (segment_starts x u k).page_count)
        ≡ map (page_start b u k) (range_with_len 0 (segment_starts b u k).page_count)
    pages none =
        let some : starts_offset b u k ≡ 0 → ⊥ = λ e. true_or_false (starts_offset b u k == 0) (equal_is (starts_offset b u k) 0 e) none in
        let fits = inside.starts k lt some in
        ap (λ (s : ChainedStartsInSegment). map (page_start x u k) (range_with_len 0 s.page_count)) (starts_same b x u k a inside lt some)
        ∙ map_agree (page_start x u k) (page_start b u k) (range_with_len 0 (segment_starts b u k).page_count)
        (contains_all (λ page. page_start x u k page ≡ page_start b u k page) (range_with_len 0 (segment_starts b u k).page_count)
        (λ page there.
        let below = range_contains (segment_starts b u k).page_count page there in
        ap (λ q. le_at 2 x (q + 22 + 2 * page)) (place_same b x u k a inside lt)
        ∙ number_same b x u 2 (segment_starts_place b u k + 22 + 2 * page)
        ((fixups_header b u).starts_offset + starts_offset b u k + 22 + 2 * page) a (omega arith) (omega (arith, fits, below))))

-- THE table fits
pub table_still_fits : (b x : List ℕ) (u : Table) → Agree u.size x b u.at u.at → Inside b u → length x ≡ length b
    → segments_of x ≡ segments_of b → base_of x ≡ base_of b → table_fits b u ≡ true → table_fits x u ≡ true
table_still_fits b x u a inside long segments base fits =
    let front = and_left _ _ fits in
    let all = and_right _ _ fits in
    and_both _ _
    (rw (long, count_same b x u a inside, header_same b x u a inside, segments) front)
    (ap (λ n. list_all (starts_fit x u) (range_with_len 0 n)) (count_same b x u a inside)
    ∙ passes_each (starts_fit x u) (range_with_len 0 (starts_count b u)) (λ k there.
    one k (range_contains (starts_count b u) k there) (one_passes (starts_fit b u) (range_with_len 0 (starts_count b u)) k all there)))
  where
    one : (k : ℕ) → k < starts_count b u → starts_fit b u k ≡ true → starts_fit x u k ≡ true
    one k lt fit =
        elim (starts_offset b u k == 0) as (λ v. (starts_offset b u k == 0) ≡ v → starts_fit x u k ≡ true) [
          | true ↦ λ none. or_first (starts_offset x u k == 0) _ (ap (λ o. o == 0) (offset_same b x u k a inside lt) ∙ none)
          | false ↦ λ some.
              let starts = starts_same b x u k a inside lt
              (λ e. true_or_false (starts_offset b u k == 0) (equal_is (starts_offset b u k) 0 e) some) in
              rw (starts, offset_same b x u k a inside lt, header_same b x u a inside, base, segments) fit
        ] refl

-- an import's entry
entry_small : (format k count : ℕ) → k < count
    → import_entry_size format * k + import_entry_size format ≤ import_entry_size format * count
entry_small format k count lt =
    let step : import_entry_size format * (k + 1) ≡ import_entry_size format * k + import_entry_size format * 1 =
    mul-add (import_entry_size format) k 1 in
    let one : import_entry_size format * 1 ≡ import_entry_size format = omega arith in
    let room : import_entry_size format * (k + 1) ≤ import_entry_size format * count =
    mul-le-mul_left (import_entry_size format) (omega (arith, lt)) in
    omega (arith, step, one, room)

size_four : (format : ℕ) → 4 ≤ import_entry_size format
size_four format = elim (format == 2) as (λ v. 4 ≤ (if v then 8 else 4)) [ true ↦ omega arith | false ↦ omega arith ]

pub entry_same : (b x : List ℕ) (u : Table) (k : ℕ) → Agree u.size x b u.at u.at → Inside b u → k < (fixups_header b u).imports_count
    → import_entry x u k ≡ import_entry b u k
entry_same b x u k a inside lt =
    let h = fixups_header b u in
    let imports = inside.imports in
    let small = entry_small h.imports_format k h.imports_count lt in
    let four = size_four h.imports_format in
    let head = header_same b x u a inside in
    let place : import_place x u k ≡ import_place b u k =
    ap (λ (g : ChainedFixupsHeader). u.at + g.imports_offset + import_entry_size g.imports_format * k) head in
    let word : le_at 4 x (import_place x u k) ≡ le_at 4 b (import_place b u k) =
    ap (le_at 4 x) place
    ∙ number_same b x u 4 (import_place b u k) (h.imports_offset + import_entry_size h.imports_format * k) a (omega arith)
    (omega (arith, imports, small, four)) in
    let addend : entry_addend x u k ≡ entry_addend b u k =
    ap (λ (g : ChainedFixupsHeader). if g.imports_format == 2
    then signed 32 (le_at 4 x (u.at + g.imports_offset + import_entry_size g.imports_format * k + 4)) else 0) head
    ∙ number_if (h.imports_format == 2) _ _ (λ two.
    let eight : import_entry_size h.imports_format ≡ 8 = ap (λ v. if v then 8 else 4) two in
    ap (signed 32) (number_same b x u 4 (import_place b u k + 4) (h.imports_offset + import_entry_size h.imports_format * k + 4) a
    (omega arith) (omega (arith, imports, small, eight)))) in
    rw (word, addend) refl
  where
    number_if : (v : Bool) (m n : ℕ) → (v ≡ true → m ≡ n) → (if v then m else 0) ≡ (if v then n else 0)
    number_if true m n same = same refl
    number_if false m n same = refl

-- the names
pub names_same : (b x : List ℕ) (u : Table) → Agree u.size x b u.at u.at → Inside b u → table_names x u ≡ table_names b u
names_same b x u a inside =
    let h = fixups_header b u in
    let symbols = inside.symbols in
    let from = u.at + h.symbols_offset in
    ap (λ (g : ChainedFixupsHeader). slice_range x (u.at + g.symbols_offset) (u.at + u.size)) (header_same b x u a inside)
    ∙ text-agrees (u.size - h.symbols_offset) x b from from (u.at + u.size) (u.at + u.size)
    (agree_part u.size (u.size - h.symbols_offset) h.symbols_offset x b u.at u.at from from a (omega (arith, symbols)) (omega arith)
    (omega arith)) (omega (arith, symbols)) (omega (arith, symbols))
