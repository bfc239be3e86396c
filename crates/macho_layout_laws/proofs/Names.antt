-- The segments of a link, as a plan has them.
--
-- The plan's mapped segments are those of the link but for `__PAGEZERO` and `__LINKEDIT`, filled with zeros. Their ranks rise, since the
-- other segments are numbered as first seen and none of them stands twice; so each name has the place at which it stands.
use Rattle.std.proofs.Common.{◌≡◌, ℕ, ◌+◌, ◌-◌, ◌<◌, ◌≤◌, ◌==◌, ◌||◌, not, Bool, true, false, List, [], ◌∷◌, ◌++◌, map, filter, length, get_or, take, replicate, All, AllPairs, refl, sym, ap, ◌∙◌, subst, arith}
use Rattle.std.specs.List.{position_or_len, prefix_len}
use Rattle.std.specs.Str.{bytes_eq}
use Rattle.std.proofs.lemmas.Bool.{not-true, or_parts}
use Rattle.std.proofs.lemmas.List.{append_assoc, map-append, take_all, get_or-take, get_or_default}
use Rattle.std.proofs.lemmas.List.Elements.{All-nil, All-cons, All-head, All-tail, All-append, All-weaker, All-filter, All-map, filter_passes, filter_agree}
use Rattle.std.proofs.lemmas.List.Folds.{length-prefix_len}
use Rattle.std.proofs.lemmas.List.Kept.{AllPairs-cons, AllPairs-filter}
use Rattle.std.proofs.lemmas.List.Sums.{position_or_len_is, prefix_len_is, prefix_len_passes}
use Rattle.macho_bytes.specs.Texts.{name_of}
use Rattle.macho_records.specs.declared.segments.SegmentName.{SegmentName}
use Rattle.macho_records.specs.Segments.{name_field}
use Rattle.macho_records.specs.Sections.{segment_name_of}
use Rattle.macho_model.specs.Links.{Link, SectionId, header_at, carried_of}
use Rattle.macho_model.specs.Resolution.{chosen_commons}
use Rattle.macho_model.specs.Targets.{slots_of}
use Rattle.macho_model.specs.Needs.{distinct}
use Rattle.macho_model.specs.Segments.{PAGEZERO, TEXT, DATA_CONST, DATA, LINKEDIT, is_known_segment, other_segments, has_section_in, segment_names_of, segment_rank, list_if}
use Rattle.macho_layout.specs.Plans.{Planning, IsPlanOf}
use Rattle.macho_layout.specs.Keys.{padded}
use Rattle.macho_layout.specs.Names.{is_other, section_segments, has_segment, has_data, has_data_const, mapped_names}
use Rattle.macho_layout.proofs.Named.{distinct_map}
use Rattle.macho_layout.proofs.SumLaw.{segment_key, segments_once, segments_are, segment_there, or_turn, commons_many, twice}
use Rattle.macho_layout_laws.proofs.Lists.{pairs_append}
use Rattle.macho_bytes.proofs.Comparing.{bytes_turn, bytes_same}
use Rattle.macho_bytes.proofs.Maps.{map_map, filter-map}
use Rattle.macho_model.proofs.Sections.{name_in_field}

-- a name has no NUL
abbrev pub IsName : List ℕ → Type 0
IsName n = name_of n ≡ n

-- a name that was cut is a name
pub name_twice : (x : List ℕ) → IsName (name_of x)
name_twice x = sym (name_in_field (name_of x)) ∙ ap name_of (field_twice x) ∙ name_in_field x
  where
    cut : (x : List ℕ) → name_of (name_of x) ≡ name_of x
    cut x =
        let long : length (name_of x) ≡ prefix_len (λ (b : ℕ). not (b == 0)) x = length-prefix_len (λ (b : ℕ). not (b == 0)) x in
        ap (λ (k : ℕ). take k (name_of x)) (prefix_len_is (λ (b : ℕ). not (b == 0)) (name_of x) (length (name_of x)) 0 (omega arith)
        (λ k low. ap (λ (b : ℕ). not (b == 0)) (get_or-take (prefix_len (λ (b : ℕ). not (b == 0)) x) x k 0 (omega arith))
        ∙ prefix_len_passes (λ (b : ℕ). not (b == 0)) x k 0 (omega arith))
        (λ low. absurd (omega arith))) ∙ take_all (length (name_of x)) (name_of x) (omega arith)

    field_twice : (x : List ℕ) → name_field (name_of x) ≡ name_field x
    field_twice x = ap (λ (n : List ℕ). n ++ replicate (16 - length n) 0) (cut x)

-- a section's segment in the plan's tables is its name, filled with zeros
pub segment_key_is : (l : Link) (s : SectionId) → segment_key l s ≡ padded (segment_name_of (header_at l s))
segment_key_is l s =
    let x : List ℕ = (header_at l s).segname in
    ap (λ (n : List ℕ). record { 0 = n ++ replicate (16 - length n) 0 })
    (name_in_field (header_at l s).segname ∙ sym (name_twice (header_at l s).segname))

-- the mapped segments
abbrev pub mapped_of : Link → List (List ℕ)
mapped_of l =
    TEXT ∷ [] ++ list_if (has_section_in l DATA_CONST || not (length (slots_of l) == 0)) (DATA_CONST ∷ [])
    ++ list_if (has_section_in l DATA || not (length (chosen_commons l) == 0)) (DATA ∷ []) ++ other_segments l

pub segment_names_are : (l : Link) → segment_names_of l ≡ list_if l.executable (PAGEZERO ∷ []) ++ mapped_of l ++ LINKEDIT ∷ []
unfolding segment_names_of
segment_names_are l =
    let a : List (List ℕ) = list_if l.executable (PAGEZERO ∷ []) in
    let b : List (List ℕ) = TEXT ∷ [] in
    let c : List (List ℕ) = list_if (has_section_in l DATA_CONST || not (length (slots_of l) == 0)) (DATA_CONST ∷ []) in
    let d : List (List ℕ) = list_if (has_section_in l DATA || not (length (chosen_commons l) == 0)) (DATA ∷ []) in
    let e : List (List ℕ) = other_segments l in
    ap (λ (ns : List (List ℕ)). ns ++ LINKEDIT ∷ [])
    (ap (λ (ns : List (List ℕ)). ns ++ other_segments l) (ap (λ (ns : List (List ℕ)). ns ++ d) (append_assoc a b c) ∙ append_assoc a
    (b ++ c) d) ∙ append_assoc a (b ++ c ++ d) e)

map_flag : (b : Bool) (n : List ℕ) → list_if b (padded n ∷ []) ≡ map padded (list_if b (n ∷ []))
map_flag true n = refl
map_flag false n = refl

pub const_is : (l : Link) (p : Planning) → IsPlanOf l p → has_data_const p ≡ (has_section_in l DATA_CONST || not (length (slots_of l) == 0))
const_is l p plan =
    ap (λ (n : ℕ). not (n == 0) || has_segment p (padded DATA_CONST)) (ap length plan.slots)
    ∙ ap (λ (b : Bool). not (length (slots_of l) == 0) || b) (segment_there l p DATA_CONST plan refl) ∙ or_turn
    (not (length (slots_of l) == 0)) (has_section_in l DATA_CONST)

pub data_is : (l : Link) (p : Planning) → IsPlanOf l p → has_data p ≡ (has_section_in l DATA || not (length (chosen_commons l) == 0))
data_is l p plan =
    ap (λ (n : ℕ). not (n == 0) || has_segment p (padded DATA)) (commons_many l p plan)
    ∙ ap (λ (b : Bool). not (length (chosen_commons l) == 0) || b) (segment_there l p DATA plan refl) ∙ or_turn
    (not (length (chosen_commons l) == 0)) (has_section_in l DATA)

others_are : (l : Link) (p : Planning) → IsPlanOf l p → filter is_other (section_segments p) ≡ map padded (other_segments l)
unfolding other_segments
others_are l p plan =
    let mine : filter is_other (section_segments p) ≡ map (segment_key l) (filter (λ s. is_other (segment_key l s)) (segments_once l))
    = ap (filter is_other) (segments_are l p plan) ∙ filter-map is_other (segment_key l) (segments_once l) in
    let theirs : filter (λ name. not (is_known_segment name))
    (distinct bytes_eq (map (λ s. segment_name_of (header_at l s)) (carried_of l)))
    ≡ map (λ s. segment_name_of (header_at l s)) (filter (λ s. not (is_known_segment (segment_name_of (header_at l s)))) (segments_once l))
    = ap (filter (λ name. not (is_known_segment name))) (distinct_map bytes_eq (λ s. segment_name_of (header_at l s)) (carried_of l))
    ∙ filter-map (λ name. not (is_known_segment name)) (λ s. segment_name_of (header_at l s)) (segments_once l) in
    let same = filter_agree (λ s. is_other (segment_key l s)) (λ s. not (is_known_segment (segment_name_of (header_at l s))))
    (λ s. ap (λ (n : List ℕ). not (is_known_segment n)) (twice (header_at l s).segname)) (segments_once l) in
    mine ∙ ap (map (segment_key l)) same
    ∙ map_agree (segment_key l) (λ s. padded (segment_name_of (header_at l s))) (segment_key_is l)
    (filter (λ s. not (is_known_segment (segment_name_of (header_at l s)))) (segments_once l))
    ∙ sym (ap (map padded) theirs ∙ map_map padded (λ s. segment_name_of (header_at l s))
    (filter (λ s. not (is_known_segment (segment_name_of (header_at l s)))) (segments_once l)))
  where
    map_agree : {X Y : Type 0} (f g : X → Y) → ((x : X) → f x ≡ g x) → (xs : List X) → map f xs ≡ map g xs
    map_agree f g e [] = refl
    map_agree {X} {Y} f g e (x ∷ xs) = ap (λ (y : Y). y ∷ map f xs) (e x) ∙ ap (λ (ys : List Y). g x ∷ ys) (map_agree f g e xs)

-- the plan's mapped segments are the link's
pub mapped_are : (l : Link) (p : Planning) → IsPlanOf l p → mapped_names p ≡ map padded (mapped_of l)
unfolding mapped_names
mapped_are l p plan =
    let c : List (List ℕ) = list_if (has_section_in l DATA_CONST || not (length (slots_of l) == 0)) (DATA_CONST ∷ []) in
    let d : List (List ℕ) = list_if (has_section_in l DATA || not (length (chosen_commons l) == 0)) (DATA ∷ []) in
    let first : list_if (has_data_const p) (padded DATA_CONST ∷ []) ≡ map padded c
    = ap (λ (b : Bool). list_if b (padded DATA_CONST ∷ [])) (const_is l p plan) ∙ map_flag
    (has_section_in l DATA_CONST || not (length (slots_of l) == 0)) DATA_CONST in
    let second : list_if (has_data p) (padded DATA ∷ []) ≡ map padded d
    = ap (λ (b : Bool). list_if b (padded DATA ∷ [])) (data_is l p plan) ∙ map_flag
    (has_section_in l DATA || not (length (chosen_commons l) == 0)) DATA in
    ap (λ (ns : List SegmentName). padded TEXT ∷ [] ++ ns ++ list_if (has_data p) (padded DATA ∷ []) ++ filter is_other
    (section_segments p)) first
    ∙ ap (λ (ns : List SegmentName). padded TEXT ∷ [] ++ map padded c ++ ns ++ filter is_other (section_segments p)) second
    ∙ ap (λ (ns : List SegmentName). padded TEXT ∷ [] ++ map padded c ++ map padded d ++ ns) (others_are l p plan)
    ∙ sym (map-append padded (TEXT ∷ [] ++ c ++ d) (other_segments l)
    ∙ ap (λ (ns : List SegmentName). ns ++ map padded (other_segments l)) (map-append padded (TEXT ∷ [] ++ c) d
    ∙ ap (λ (ns : List SegmentName). ns ++ map padded d) (map-append padded (TEXT ∷ []) c)))

-- what holds of all elements holds of those that are left where repeats are taken out
pub all_distinct : {X : Type 0} (P : X → Type 0) (same : X → X → Bool) (xs : List X) → All P xs → All P (distinct same xs)
all_distinct P same [] h = All-nil P
all_distinct P same (x ∷ xs) h =
    All-cons P x (filter (λ y. not (same x y)) (distinct same xs)) (All-head P x xs h)
    (All-filter (λ y. not (same x y)) P (distinct same xs) (all_distinct P same xs (All-tail P x xs h)))

-- and no two of these are the same
pub distinct_apart : {X : Type 0} (same : X → X → Bool) (xs : List X) → AllPairs (λ a b. same a b ≡ false) (distinct same xs)
distinct_apart same [] = λ i j d before within. absurd (omega arith)
distinct_apart {X} same (x ∷ xs) =
    AllPairs-cons (λ a b. same a b ≡ false) x (filter (λ y. not (same x y)) (distinct same xs))
    (All-weaker (λ (y : X). not (same x y) ≡ true) (λ (y : X). same x y ≡ false) (λ y h. not-true (same x y) h)
    (filter (λ y. not (same x y)) (distinct same xs)) (filter_passes (λ y. not (same x y)) (distinct same xs)))
    (AllPairs-filter (λ a b. same a b ≡ false) (λ y. not (same x y)) (distinct same xs) (distinct_apart same xs))

-- the place of an element among others
pub place_is : {X : Type 0} (same : X → X → Bool) (xs : List X) (i : ℕ) (x : X) → ((a : X) → same a a ≡ true) →
    ((a b : X) → same a b ≡ same b a) → AllPairs (λ a b. same a b ≡ false) xs
    → i < length xs → get_or xs i x ≡ x → position_or_len (same x) xs ≡ i
place_is {X} same xs i x whole turn apart low is =
    position_or_len_is (same x) xs i x (omega arith)
    (λ k before. ap (λ (y : X). same y (get_or xs k x)) (sym is) ∙ turn (get_or xs i x) (get_or xs k x) ∙ apart k i x before low)
    (λ _. ap (same x) is ∙ whole x)

-- all of them are names
pub others_names : (l : Link) → All IsName (other_segments l)
unfolding other_segments
others_names l =
    All-filter (λ name. not (is_known_segment name)) IsName (distinct bytes_eq (map (λ s. segment_name_of (header_at l s)) (carried_of l)))
    (all_distinct IsName bytes_eq (map (λ s. segment_name_of (header_at l s)) (carried_of l))
    (All-map IsName (λ s. segment_name_of (header_at l s)) (carried_of l)
    (λ k d low. name_twice (header_at l (get_or (carried_of l) k d)).segname)))

pub flag_names : (P : List ℕ → Type 0) (b : Bool) (n : List ℕ) → P n → All P (list_if b (n ∷ []))
flag_names P true n h = All-cons P n [] h (All-nil P)
flag_names P false n h = All-nil P

-- what holds of the names that the linker knows and of the others holds of all
pub mapped_all : (P : List ℕ → Type 0) (l : Link) → P TEXT → P DATA_CONST → P DATA → All P (other_segments l) → All P (mapped_of l)
mapped_all P l text const written others =
    let c : List (List ℕ) = list_if (has_section_in l DATA_CONST || not (length (slots_of l) == 0)) (DATA_CONST ∷ []) in
    let d : List (List ℕ) = list_if (has_section_in l DATA || not (length (chosen_commons l) == 0)) (DATA ∷ []) in
    All-append P (TEXT ∷ [] ++ c ++ d) (other_segments l)
    (All-append P (TEXT ∷ [] ++ c) d (All-append P (TEXT ∷ []) c (All-cons P TEXT [] text (All-nil P))
    (flag_names P (has_section_in l DATA_CONST || not (length (slots_of l) == 0)) DATA_CONST const))
    (flag_names P (has_section_in l DATA || not (length (chosen_commons l) == 0)) DATA written)) others

pub mapped_names_are : (l : Link) → All IsName (mapped_of l)
mapped_names_are l = mapped_all IsName l refl refl refl (others_names l)

-- the others aren't known, and no two of them are the same
pub others_unknown : (l : Link) → All (λ n. is_known_segment n ≡ false) (other_segments l)
unfolding other_segments
others_unknown l =
    All-weaker (λ (n : List ℕ). not (is_known_segment n) ≡ true) (λ (n : List ℕ). is_known_segment n ≡ false)
    (λ n h. not-true (is_known_segment n) h)
    (filter (λ name. not (is_known_segment name)) (distinct bytes_eq (map (λ s. segment_name_of (header_at l s)) (carried_of l))))
    (filter_passes (λ name. not (is_known_segment name)) (distinct bytes_eq (map (λ s. segment_name_of (header_at l s)) (carried_of l))))

pub others_apart : (l : Link) → AllPairs (λ a b. bytes_eq a b ≡ false) (other_segments l)
unfolding other_segments
others_apart l =
    AllPairs-filter (λ a b. bytes_eq a b ≡ false) (λ name. not (is_known_segment name))
    (distinct bytes_eq (map (λ s. segment_name_of (header_at l s)) (carried_of l)))
    (distinct_apart bytes_eq (map (λ s. segment_name_of (header_at l s)) (carried_of l)))

abbrev rank_other : Link → List ℕ → ℕ
rank_other l n = 4 + position_or_len (bytes_eq n) (other_segments l)

-- the rank of a name that isn't known
pub unknown_rank : (l : Link) (n : List ℕ) → is_known_segment n ≡ false → segment_rank l n ≡ rank_other l n
unfolding segment_rank
unknown_rank l n h =
    let a = or_parts (bytes_eq n PAGEZERO || bytes_eq n TEXT || bytes_eq n DATA_CONST || bytes_eq n DATA) (bytes_eq n LINKEDIT) h in
    let b = or_parts (bytes_eq n PAGEZERO || bytes_eq n TEXT || bytes_eq n DATA_CONST) (bytes_eq n DATA) a.0 in
    let c = or_parts (bytes_eq n PAGEZERO || bytes_eq n TEXT) (bytes_eq n DATA_CONST) b.0 in
    let d = or_parts (bytes_eq n PAGEZERO) (bytes_eq n TEXT) c.0 in
    rw (d.0, d.1, c.1, b.1) (omega arith)

pub text_rank : (l : Link) → segment_rank l TEXT ≡ 1
unfolding segment_rank
text_rank l = refl

pub const_rank : (l : Link) → segment_rank l DATA_CONST ≡ 2
unfolding segment_rank
const_rank l = refl

pub data_rank : (l : Link) → segment_rank l DATA ≡ 3
unfolding segment_rank
data_rank l = refl

pub zero_rank : (l : Link) → segment_rank l PAGEZERO ≡ 0
unfolding segment_rank
zero_rank l = refl

-- that of `__LINKEDIT`, which isn't among the others
last_place : (names : List (List ℕ)) → All (λ n. is_known_segment n ≡ false) names
    → position_or_len (bytes_eq LINKEDIT) names ≡ length names
last_place names unknown =
    position_or_len_is (bytes_eq LINKEDIT) names (length names) [] (omega arith)
    (λ k low.
    let n : List ℕ = get_or names k [] in
    bytes_turn LINKEDIT n
    ∙ (or_parts (bytes_eq n PAGEZERO || bytes_eq n TEXT || bytes_eq n DATA_CONST || bytes_eq n DATA) (bytes_eq n LINKEDIT)
    (unknown k [] low)).1)
    (λ low. absurd (omega (arith, low)))

pub last_rank : (l : Link) → segment_rank l LINKEDIT ≡ 4 + length (other_segments l)
unfolding segment_rank
last_rank l = omega (arith, last_place (other_segments l) (others_unknown l))

abbrev pub RanksRise : Link → List ℕ → List ℕ → Type 0
RanksRise l a b = segment_rank l a < segment_rank l b

others_rise : (l : Link) → AllPairs (RanksRise l) (other_segments l)
others_rise l i j d before within =
    let xs : List (List ℕ) = other_segments l in
    let x = place_is bytes_eq (other_segments l) i (get_or (other_segments l) i d) bytes_same bytes_turn (others_apart l) (omega arith)
    (get_or_default (other_segments l) i (get_or (other_segments l) i d) d (omega arith)) in
    let y = place_is bytes_eq (other_segments l) j (get_or (other_segments l) j d) bytes_same bytes_turn (others_apart l) within
    (get_or_default (other_segments l) j (get_or (other_segments l) j d) d within) in
    omega (
      arith,
      unknown_rank l (get_or (other_segments l) i d) (others_unknown l i d (omega arith)),
      unknown_rank l (get_or (other_segments l) j d) (others_unknown l j d within),
      x,
      y,
      before,
    )

-- the ranks of the other segments
pub others_between : (l : Link) → All (λ n. (4 ≤ segment_rank l n) × (segment_rank l n < 4 + length (other_segments l))) (other_segments l)
others_between l k d low =
    let u = unknown_rank l (get_or (other_segments l) k d) (others_unknown l k d low) in
    let place = place_is bytes_eq (other_segments l) k (get_or (other_segments l) k d) bytes_same bytes_turn (others_apart l) low
    (get_or_default (other_segments l) k (get_or (other_segments l) k d) d low) in
    (omega (arith, u), omega (arith, u, place, low))

flag_rise : (l : Link) (b : Bool) (n : List ℕ) → AllPairs (RanksRise l) (list_if b (n ∷ []))
flag_rise l true n i j d before within = absurd (omega arith)
flag_rise l false n i j d before within = absurd (omega arith)

-- a list of low ranks before one of high ranks
rise_by : (l : Link) (m : ℕ) (xs ys : List (List ℕ)) → AllPairs (RanksRise l) xs → AllPairs (RanksRise l) ys → All
    (λ n. segment_rank l n < m) xs → All (λ n. m ≤ segment_rank l n) ys
    → AllPairs (RanksRise l) (xs ++ ys)
rise_by l m xs ys one two below above =
    pairs_append (RanksRise l) xs ys one two
    (All-weaker (λ (x : List ℕ). segment_rank l x < m) (λ (x : List ℕ). All (RanksRise l x) ys)
    (λ x h. All-weaker (λ (y : List ℕ). m ≤ segment_rank l y) (RanksRise l x) (λ y k. omega (arith, h, k)) ys above) xs below)

-- the ranks of the mapped segments rise
pub mapped_rise : (l : Link) → AllPairs (RanksRise l) (mapped_of l)
mapped_rise l =
    let bc : Bool = has_section_in l DATA_CONST || not (length (slots_of l) == 0) in
    let bd : Bool = has_section_in l DATA || not (length (chosen_commons l) == 0) in
    let c : List (List ℕ) = list_if bc (DATA_CONST ∷ []) in
    let d : List (List ℕ) = list_if bd (DATA ∷ []) in
    let t = text_rank l in
    let two = rise_by l 2 (TEXT ∷ []) c (flag_rise l true TEXT) (flag_rise l bc DATA_CONST)
    (flag_names (λ n. segment_rank l n < 2) true TEXT (omega (arith, t)))
    (flag_names (λ n. 2 ≤ segment_rank l n) bc DATA_CONST (omega (arith, const_rank l))) in
    let low2 : All (λ n. segment_rank l n < 3) (TEXT ∷ [] ++ c) = All-append (λ n. segment_rank l n < 3) (TEXT ∷ []) c
    (flag_names (λ n. segment_rank l n < 3) true TEXT (omega (arith, t)))
    (flag_names (λ n. segment_rank l n < 3) bc DATA_CONST (omega (arith, const_rank l))) in
    let three = rise_by l 3 (TEXT ∷ [] ++ c) d two (flag_rise l bd DATA) low2
    (flag_names (λ n. 3 ≤ segment_rank l n) bd DATA (omega (arith, data_rank l))) in
    let low3 : All (λ n. segment_rank l n < 4) (TEXT ∷ [] ++ c ++ d) = All-append (λ n. segment_rank l n < 4) (TEXT ∷ [] ++ c) d
    (All-weaker (λ (n : List ℕ). segment_rank l n < 3) (λ (n : List ℕ). segment_rank l n < 4) (λ n h. omega (arith, h))
    (TEXT ∷ [] ++ c) low2)
    (flag_names (λ n. segment_rank l n < 4) bd DATA (omega (arith, data_rank l))) in
    rise_by l 4 (TEXT ∷ [] ++ c ++ d) (other_segments l) three (others_rise l) low3
    (All-weaker (λ (n : List ℕ). (4 ≤ segment_rank l n) × (segment_rank l n < 4 + length (other_segments l)))
    (λ (n : List ℕ). 4 ≤ segment_rank l n) (λ n h. h.0) (other_segments l) (others_between l))

-- and so do those of all segments
pub names_rise : (l : Link) → AllPairs (RanksRise l) (segment_names_of l)
names_rise l =
    let z : List (List ℕ) = list_if l.executable (PAGEZERO ∷ []) in
    let mid : All (λ n. (1 ≤ segment_rank l n) × (segment_rank l n < 4 + length (other_segments l))) (mapped_of l)
    = mapped_all (λ n. (1 ≤ segment_rank l n) × (segment_rank l n < 4 + length (other_segments l))) l
    (omega (arith, text_rank l), omega (arith, text_rank l))
    (omega (arith, const_rank l), omega (arith, const_rank l)) (omega (arith, data_rank l), omega (arith, data_rank l))
    (All-weaker (λ (n : List ℕ). (4 ≤ segment_rank l n) × (segment_rank l n < 4 + length (other_segments l)))
    (λ (n : List ℕ). (1 ≤ segment_rank l n) × (segment_rank l n < 4 + length (other_segments l)))
    (λ n h. (omega (arith, h.0), h.1)) (other_segments l) (others_between l)) in
    let m : ℕ = 4 + length (other_segments l) in
    let front = rise_by l 1 (list_if l.executable (PAGEZERO ∷ [])) (mapped_of l) (flag_rise l l.executable PAGEZERO) (mapped_rise l)
    (flag_names (λ n. segment_rank l n < 1) l.executable PAGEZERO (omega (arith, zero_rank l)))
    (All-weaker (λ (n : List ℕ). (1 ≤ segment_rank l n) × (segment_rank l n < 4 + length (other_segments l)))
    (λ (n : List ℕ). 1 ≤ segment_rank l n) (λ n h. h.0) (mapped_of l) mid) in
    let low : All (λ n. segment_rank l n < 4 + length (other_segments l)) (list_if l.executable (PAGEZERO ∷ []) ++ mapped_of l)
    = All-append (λ n. segment_rank l n < 4 + length (other_segments l)) (list_if l.executable (PAGEZERO ∷ [])) (mapped_of l)
    (flag_names (λ n. segment_rank l n < 4 + length (other_segments l)) l.executable PAGEZERO (omega (arith, zero_rank l)))
    (All-weaker (λ (n : List ℕ). (1 ≤ segment_rank l n) × (segment_rank l n < 4 + length (other_segments l)))
    (λ (n : List ℕ). segment_rank l n < 4 + length (other_segments l)) (λ n h. h.1) (mapped_of l) mid) in
    subst (AllPairs (RanksRise l)) (sym (segment_names_are l))
    (rise_by l (4 + length (other_segments l)) (list_if l.executable (PAGEZERO ∷ []) ++ mapped_of l) (LINKEDIT ∷ []) front
    (flag_rise l true LINKEDIT) low
    (flag_names (λ n. 4 + length (other_segments l) ≤ segment_rank l n) true LINKEDIT (omega (arith, last_rank l))))
