-- A file as long as its placement has room for the segments.
--
-- File parts stand one behind the other, and the last one is that of `__LINKEDIT`, which ends with the signature, and with it
-- the file. In front of
-- `__TEXT` stands at most `__PAGEZERO`, which has no bytes in the file, so `__TEXT` begins the file; it is at least as long as
-- the head of the
-- placement, in which the load commands end.
use Rattle.std.proofs.Common.{◌≡◌, ℕ, zero, suc, ◌+◌, ◌-◌, ◌<◌, ◌≤◌, Bool, true, false, List, [], ◌∷◌, ◌++◌, map, length, get_or, refl, sym, ap, subst, ◌∙◌, arith, All, ltb-true}
use Rattle.std.specs.Prelude.{Contains, filter, nat_lt}
use Rattle.std.specs.Str.{bytes_eq}
use Rattle.std.proofs.lemmas.Bool.Decides.{nat_tests}
use Rattle.std.proofs.lemmas.List.{get_or_default, get_or-map, length-map, length-append}
use Rattle.std.proofs.lemmas.Slice.Eq.{bytes_eq-Decides}
use Rattle.macho_bytes.specs.Numbers.{rounded_up}
use Rattle.macho_records.specs.Segments.{text_of}
use Rattle.macho_bytes.proofs.Members.{contains_filter, all_contains}
use Rattle.macho_model.specs.declared.placed.Counts.{Counts}
use Rattle.macho_model.specs.declared.placed.PlacedSegment.{PlacedSegment}
use Rattle.macho_model.specs.Links.{Link, greatest}
use Rattle.macho_model.specs.Segments.{PAGEZERO, TEXT, LINKEDIT, SEGMENT_PAGE, segment_rank, segment_names_of}
use Rattle.macho_model.specs.Placement.{Placed, is_segment_named, head_size, Follows, end_of_piece}
use Rattle.macho_model.specs.steps.Outputs.{extent_of}
use Rattle.macho_model.specs.Order.{used_by}
use Rattle.macho_model.specs.steps.Least.{least_file_size, row_of, filled_in, front_of}
use Rattle.macho_model.proofs.Least.{LiesInFile, tables_lie}
use Rattle.macho_model.specs.Lists.{EachNext}
use Rattle.macho_promise.specs.Promise.{IsLaidOut}
use Rattle.macho_placed_laws.proofs.Above.{next_follows, rises, positive, text_rank}
use Rattle.macho_model.proofs.Outputs.{least_of}

-- a file part behind another one begins where that one ends, or later
pub file_behind : (l : Link) (segments : List PlacedSegment) (d : PlacedSegment) → EachNext (Follows l) segments → (i n j : ℕ)
    → j ≡ i + n + 1
    → j < length segments
    → (get_or segments i d).file_offset + (get_or segments i d).file_size ≤ (get_or segments j d).file_offset
file_behind l segments d follow i zero j is lt =
    let number : i + 1 ≡ j = omega (arith, is) in
    let step = next_follows l segments d follow i (omega (arith, is, lt)) in
    omega (arith, step.file_offset, ap (λ (k : ℕ). (get_or segments k d).file_offset) number)
file_behind l segments d follow i (suc n) j is lt =
    let before = file_behind l segments d follow i n (i + n + 1) refl (omega (arith, is, lt)) in
    let step = next_follows l segments d follow (i + n + 1) (omega (arith, is, lt)) in
    let number : i + n + 1 + 1 ≡ j = omega (arith, is) in
    omega (arith, before, step.file_offset, ap (λ (k : ℕ). (get_or segments k d).file_offset) number)

-- the last name is that of the tables
last_name : (l : Link) → (front : List (List ℕ)) × (segment_names_of l ≡ front ++ LINKEDIT ∷ [])
unfolding segment_names_of
last_name l = (_, refl)

last_of : (front : List (List ℕ)) (x : List ℕ) → get_or (front ++ x ∷ []) (length front) [] ≡ x
last_of [] x = refl
last_of (y ∷ front) x = last_of front x

-- THE last segment, and where it ends
pub record LastSegment (p : Placed) (d : PlacedSegment) : Type 0 where
  pub number : ℕ
  pub count : length p.segments ≡ number + 1
  pub named : bytes_eq (text_of (get_or p.segments number d).name) LINKEDIT ≡ true

last_segment : (l : Link) (counts : Counts) (p : Placed) (d : PlacedSegment) → IsLaidOut l counts p → LastSegment p d
last_segment l counts p d laid =
    let f : PlacedSegment → List ℕ = λ s. text_of s.name in
    let front : List (List ℕ) = (last_name l).0 in
    let are : map f p.segments ≡ front ++ LINKEDIT ∷ [] = laid.segments ∙ (last_name l).1 in
    let long : length p.segments ≡ length front + 1 = sym (length-map p.segments f) ∙ ap length are ∙ length-append front (LINKEDIT ∷ []) in
    let at : text_of (get_or p.segments (length front) d).name ≡ LINKEDIT =
    sym (get_or-map f p.segments (length front) d (f d) (omega (arith, long)))
    ∙ get_or_default (map f p.segments) (length front) (f d) [] (omega (arith, length-map p.segments f, long))
    ∙ ap (λ (ns : List (List ℕ)). get_or ns (length front) []) are ∙ last_of front LINKEDIT in
    record {
      number =
          length front;
      count = long;
      named = (bytes_eq-Decides (text_of (get_or p.segments (length front) d).name) LINKEDIT).1 at;
    }

tables_named : (name : List ℕ) → bytes_eq name LINKEDIT ≡ true → bytes_eq name PAGEZERO ≡ false
tables_named name named = ap (λ (n : List ℕ). bytes_eq n PAGEZERO) ((bytes_eq-Decides name LINKEDIT).0 named)

last_size : (l : Link) (counts : Counts) (p : Placed) (s : PlacedSegment) → s.file_size ≡ least_file_size l counts p s
    → bytes_eq (text_of s.name) LINKEDIT ≡ true
    → s.file_size ≡ p.linkedit.signature.end - s.file_offset
last_size l counts p s least named = least ∙ rw (tables_named (text_of s.name) named, named) refl

-- the file parts end in the file
pub file_parts_end : (l : Link) (counts : Counts) (p : Placed) → EachNext (Follows l) p.segments → IsLaidOut l counts p
    → All (λ s. s.file_offset + s.file_size ≤ p.linkedit.signature.end) p.segments
file_parts_end l counts p follow laid k d lt = by (nat_lt k last.number) refl
  where
    last : LastSegment p d
    last = last_segment l counts p d laid

    there : last.number < length p.segments
    there = omega (arith, last.count)

    tables : PlacedSegment
    tables = get_or p.segments last.number d

    sized : tables.file_size ≡ p.linkedit.signature.end - tables.file_offset
    sized = last_size l counts p tables ((least_of laid.least).file_sizes last.number d there) last.named

    signature : LiesInFile p.segments p.linkedit.signature
    signature = tables_lie l counts p laid.segments (least_of laid.least) 4 p.linkedit.signature (omega arith)

    low : tables.file_offset ≤ p.linkedit.signature.end
    low =
        let has : Contains p.segments tables = (last.number, there, sym (get_or_default p.segments last.number d tables there)) in
        let lies = all_contains
        (λ (s : PlacedSegment). (s.file_offset ≤ p.linkedit.signature.start) × (p.linkedit.signature.start ≤ p.linkedit.signature.end)
        × (p.linkedit.signature.end ≤ s.file_offset + s.file_size)) (filter (is_segment_named LINKEDIT) p.segments) tables signature
        (contains_filter (is_segment_named LINKEDIT) p.segments tables has last.named) in
        omega (arith, lies.0, lies.1)

    by : (x : Bool) → nat_lt k last.number ≡ x
        → (get_or p.segments k d).file_offset + (get_or p.segments k d).file_size ≤ p.linkedit.signature.end
    by true e =
        let less : k < last.number = ltb-true k last.number e in
        omega (arith, file_behind l p.segments d follow k (last.number - k - 1) last.number (omega (arith, less)) there, low)
    by false e =
        let ge : last.number ≤ k = grind (arith, nat_tests) in
        let same : k ≡ last.number = omega (arith, ge, lt, last.count) in
        omega (arith, ap (λ (n : ℕ). (get_or p.segments n d).file_offset + (get_or p.segments n d).file_size) same, sized, low)

-- only `__PAGEZERO` has a rank below that of `__TEXT`
pub least_rank : (l : Link) (name : List ℕ) → segment_rank l name < 1 → bytes_eq name PAGEZERO ≡ true
least_rank l name low = by (bytes_eq name PAGEZERO) refl
  where
    by : (x : Bool) → bytes_eq name PAGEZERO ≡ x → bytes_eq name PAGEZERO ≡ true
    by true e = e
    by false e = absurd (omega (arith, low, positive l name e))

-- `__TEXT` is the first segment, or the one behind `__PAGEZERO`, which has no bytes in the file
pub text_begins : (l : Link) (counts : Counts) (p : Placed) → EachNext (Follows l) p.segments → IsLaidOut l counts p
    → All (λ s. is_segment_named TEXT s ≡ true → s.file_offset ≡ 0) p.segments
text_begins l counts p follow laid zero d lt named =
    laid.least.front (get_or p.segments 0 d) (lt, sym (get_or_default p.segments 0 d (get_or p.segments 0 d) lt))
text_begins l counts p follow laid (suc zero) d lt named =
    let one : segment_rank l (text_of (get_or p.segments 1 d).name) ≡ 1 = text_rank l (get_or p.segments 1 d) named in
    let up = rises l p.segments d follow 0 0 1 (omega arith) lt in
    let zero_page = least_rank l (text_of (get_or p.segments 0 d).name) (omega (arith, up, one)) in
    let here : 0 < length p.segments = omega (arith, lt) in
    let no_bytes : (get_or p.segments 0 d).file_size ≡ 0 = (least_of laid.least).file_sizes 0 d here ∙ rw zero_page refl in
    let front = laid.least.front (get_or p.segments 0 d) (here, sym (get_or_default p.segments 0 d (get_or p.segments 0 d) here)) in
    omega (
      arith,
      (next_follows l p.segments d follow 0 (omega (arith, lt))).file_offset,
      no_bytes,
      front,
      ap
          (λ (k : ℕ). (get_or p.segments k d).file_offset) (first_next),
    )
  where
    first_next : 0 + 1 ≡ 1
    first_next = omega arith
text_begins l counts p follow laid (suc (suc k)) d lt named =
    let one : segment_rank l (text_of (get_or p.segments (suc (suc k)) d).name) ≡ 1 =
    text_rank l (get_or p.segments (suc (suc k)) d) named in
    let up = rises l p.segments d follow 0 0 1 (omega arith) (omega (arith, lt)) in
    let upper = rises l p.segments d follow 1 k (suc (suc k)) (omega arith) lt in
    absurd (omega (arith, up, upper, one))

-- and it holds the head
rounded_above : (n : ℕ) → n ≤ rounded_up SEGMENT_PAGE n
rounded_above n = omega arith

greatest_above : (n : ℕ) (ns : List ℕ) → n ≤ greatest (n ∷ ns)
greatest_above n ns = grind (arith, nat_tests)

text_sized : (l : Link) (counts : Counts) (p : Placed) (s : PlacedSegment) → text_of s.name ≡ TEXT
    → s.file_size ≡ least_file_size l counts p s
    → s.file_size ≡ rounded_up SEGMENT_PAGE (used_by s (row_of l counts p s (filled_in l counts s)))
text_sized l counts p s is least =
    let no_page : bytes_eq (text_of s.name) PAGEZERO ≡ false = ap (λ (n : List ℕ). bytes_eq n PAGEZERO) is in
    let no_tables : bytes_eq (text_of s.name) LINKEDIT ≡ false = ap (λ (n : List ℕ). bytes_eq n LINKEDIT) is in
    least ∙ rw (no_page, no_tables) refl

front_used : (l : Link) (counts : Counts) (p : Placed) (s : PlacedSegment) → bytes_eq (text_of s.name) TEXT ≡ true
    → head_size counts p ≤ used_by s (row_of l counts p s (filled_in l counts s))
unfolding row_of
front_used l counts p s named =
    let front : end_of_piece (front_of counts p s) ≡ s.address + head_size counts p = rw named refl in
    let up = greatest_above (end_of_piece (front_of counts p s)) (map end_of_piece (map (extent_of l p) (filled_in l counts s))) in
    omega (arith, front, up)

pub text_holds_head : (l : Link) (counts : Counts) (p : Placed) → IsLaidOut l counts p
    → All (λ s. is_segment_named TEXT s ≡ true → head_size counts p ≤ s.file_size) p.segments
text_holds_head l counts p laid k d lt named =
    let s : PlacedSegment = get_or p.segments k d in
    let sized = text_sized l counts p s ((bytes_eq-Decides (text_of s.name) TEXT).0 named) ((least_of laid.least).file_sizes k d lt) in
    let used : ℕ = used_by s (row_of l counts p s (filled_in l counts s)) in
    let more : used ≤ rounded_up SEGMENT_PAGE used = rounded_above used in
    let head : head_size counts p ≤ used = front_used l counts p s named in
    subst (λ (n : ℕ). head_size counts p ≤ n) (sym sized) (omega (arith, more, head))
