-- In which segment an output section stands.
--
-- A section's segment is `__TEXT`, or one of which the link says that it is there, or one of the others; so it has a number among the
-- mapped
-- ones. Each mapped segment has the number of its place, since their ranks rise. An output section's rank tells that number,
-- and below 6 over it that it has bytes in the file.
use Rattle.std.proofs.Common.{◌≡◌, ℕ, ◌+◌, ◌<◌, ◌==◌, ◌||◌, not, if◌then◌else◌, Bool, true, false, cond, List, [], ◌∷◌, ◌++◌, map, filter, length, get_or, All, AllPairs, Contains, refl, sym, ap, ◌∙◌, subst, arith, inl, inr}
use Rattle.std.specs.List.{list_any, position_or_len}
use Rattle.std.specs.Str.{bytes_eq}
use Rattle.std.proofs.lemmas.Bool.{false≢true, not-false, or_left, or_right, or_from, cases_Bool, false_from_ne_true}
use Rattle.std.proofs.lemmas.Slice.Eq.{bytes_eq-Decides}
use Rattle.std.proofs.lemmas.List.Elements.{All-head, All-tail}
use Rattle.std.proofs.lemmas.List.Folds.{list_any_at, list_any-append}
use Rattle.std.proofs.lemmas.List.Sums.{position_or_len_is, passes_at_first}
use Rattle.macho_records.specs.declared.segments.SegmentName.{SegmentName}
use Rattle.macho_records.specs.declared.constants.TheConstants.{S_THREAD_LOCAL_REGULAR, S_THREAD_LOCAL_ZEROFILL}
use Rattle.macho_bytes.specs.Texts.{name_of}
use Rattle.macho_records.specs.Sections.{is_zerofill_type, has_instructions, segment_name_of}
use Rattle.macho_model.specs.Links.{Link, SectionId, header_at, carried_of}
use Rattle.macho_model.specs.Resolution.{chosen_commons}
use Rattle.macho_model.specs.Targets.{slots_of}
use Rattle.macho_model.specs.Needs.{distinct}
use Rattle.macho_model.specs.Segments.{PAGEZERO, TEXT, DATA_CONST, DATA, LINKEDIT, is_known_segment, other_segments, has_section_in, segment_rank, list_if}
use Rattle.macho_layout.specs.declared.spec.OutputName.{OutputName}
use Rattle.macho_layout.specs.Plans.{Planning, IsPlanOf, MayStand, spec_of}
use Rattle.macho_layout.specs.Keys.{padded, same_segment, same_output}
use Rattle.macho_layout.specs.Names.{mapped_names, COMMON_NAME}
use Rattle.macho_layout.specs.Cells.{segment_number, class_of}
use Rattle.macho_layout.proofs.Named.{fields_agree}
use Rattle.macho_layout_laws.proofs.Names.{IsName, mapped_of, mapped_are, mapped_names_are, mapped_rise}
use Rattle.macho_bytes.proofs.Members.{place_inside}
use Rattle.macho_bytes.proofs.Comparing.{bytes_same}
use Rattle.macho_model.proofs.Sections.{name_in_field}
use Rattle.macho_bytes.proofs.Maps.{any_map, any-filter}
use Rattle.macho_model.proofs.Distinct.{any_distinct}

-- a place under a map, and by tests that agree
pub place_map : {X Y : Type 0} (p : Y → Bool) (f : X → Y) (xs : List X) → position_or_len p (map f xs) ≡ position_or_len (λ x. p (f x)) xs
place_map p f [] = refl
place_map p f (x ∷ xs) = ap (λ (n : ℕ). cond (not (p (f x))) (1 + n) 0) (place_map p f xs)

pub place_agree : {X : Type 0} (p q : X → Bool) (xs : List X) → All (λ x. p x ≡ q x) xs → position_or_len p xs ≡ position_or_len q xs
place_agree p q [] h = refl
place_agree p q (x ∷ xs) h =
    ap (λ (b : Bool). cond (not b) (1 + position_or_len p xs) 0) (All-head (λ a. p a ≡ q a) x xs h)
    ∙ ap (λ (n : ℕ). cond (not (q x)) (1 + n) 0) (place_agree p q xs (All-tail (λ a. p a ≡ q a) x xs h))

-- the number of a segment among the mapped ones
abbrev pub number_in : Link → List ℕ → ℕ
number_in l n = position_or_len (λ other. bytes_eq other n) (mapped_of l)

pub number_is : (l : Link) (p : Planning) (n : List ℕ) → IsPlanOf l p → IsName n → segment_number (mapped_names p) (padded n)
    ≡ number_in l n
number_is l p n plan name =
    ap (λ (ns : List SegmentName). segment_number ns (padded n)) (mapped_are l p plan)
    ∙ place_map (λ other. same_segment other (padded n)) padded (mapped_of l)
    ∙ place_agree (λ o. same_segment (padded o) (padded n)) (λ o. bytes_eq o n) (mapped_of l)
    (λ k d low. fields_agree (get_or (mapped_of l) k d) n
    ∙ ap (λ (o : List ℕ). bytes_eq o (name_of n)) (mapped_names_are l k d low) ∙ ap (bytes_eq (get_or (mapped_of l) k d)) name)

-- no two mapped segments have one name
pub mapped_apart : (l : Link) → AllPairs (λ a b. bytes_eq a b ≡ false) (mapped_of l)
mapped_apart l i j d before within =
    false_from_ne_true (bytes_eq (get_or (mapped_of l) i d) (get_or (mapped_of l) j d))
    (λ t. let e = ap (segment_rank l) ((bytes_eq-Decides (get_or (mapped_of l) i d) (get_or (mapped_of l) j d)).0 t) in absurd
    (omega (arith, mapped_rise l i j d before within, e)))

-- a mapped segment has the number of its place
pub number_at_place : (l : Link) (i : ℕ) (n : List ℕ) → i < length (mapped_of l) → get_or (mapped_of l) i n ≡ n → number_in l n ≡ i
number_at_place l i n low is =
    position_or_len_is (λ other. bytes_eq other n) (mapped_of l) i n (omega arith)
    (λ k before. ap (bytes_eq (get_or (mapped_of l) k n)) (sym is) ∙ mapped_apart l k i n before low)
    (λ _. ap (λ (o : List ℕ). bytes_eq o n) is ∙ bytes_same n)

-- some mapped segment has a name
abbrev pub IsMapped : Link → List ℕ → Type 0
IsMapped l n = list_any (λ other. bytes_eq other n) (mapped_of l) ≡ true

pub mapped_number : (l : Link) (n : List ℕ) → IsMapped l n → (number_in l n < length (mapped_of l)) ×
    (get_or (mapped_of l) (number_in l n) n ≡ n)
mapped_number l n there =
    let inside = place_inside (λ other. bytes_eq other n) (mapped_of l) there in (
      inside,
      (bytes_eq-Decides (get_or (mapped_of l) (number_in l n) n) n).0
          (passes_at_first (λ other. bytes_eq other n) (mapped_of l) n inside),
    )

-- the parts of the list
parts : (l : Link) (n : List ℕ) → list_any (λ other. bytes_eq other n) (mapped_of l)
    ≡ ((bytes_eq TEXT n || false) || list_any (λ other. bytes_eq other n)
    (list_if (has_section_in l DATA_CONST || not (length (slots_of l) == 0)) (DATA_CONST ∷ []))
    || list_any (λ other. bytes_eq other n) (list_if (has_section_in l DATA || not (length (chosen_commons l) == 0)) (DATA ∷ [])) ||
    list_any (λ other. bytes_eq other n) (other_segments l))
parts l n =
    let t : List ℕ → Bool = λ other. bytes_eq other n in
    let c : List (List ℕ) = list_if (has_section_in l DATA_CONST || not (length (slots_of l) == 0)) (DATA_CONST ∷ []) in
    let d : List (List ℕ) = list_if (has_section_in l DATA || not (length (chosen_commons l) == 0)) (DATA ∷ []) in
    list_any-append t (TEXT ∷ [] ++ c ++ d) (other_segments l)
    ∙ ap (λ (b : Bool). b || list_any t (other_segments l)) (list_any-append t (TEXT ∷ [] ++ c) d
    ∙ ap (λ (b : Bool). b || list_any t d) (list_any-append t (TEXT ∷ []) c))

abbrev any_flag : List ℕ → Bool → List ℕ → Bool
any_flag n b m = list_any (λ other. bytes_eq other n) (list_if b (m ∷ []))

flag_there : (n m : List ℕ) (b : Bool) → b ≡ true → bytes_eq m n ≡ true → any_flag n b m ≡ true
flag_there n m b is same = ap (λ (x : Bool). any_flag n x m) is ∙ ap (λ (x : Bool). x || false) same

first_of4 : (a b c d : Bool) → a ≡ true → (a || b || c || d) ≡ true
first_of4 a b c d e = or_left (a || b || c) d (or_left (a || b) c (or_left a b e))

second_of4 : (a b c d : Bool) → b ≡ true → (a || b || c || d) ≡ true
second_of4 a b c d e = or_left (a || b || c) d (or_left (a || b) c (or_right a b e))

third_of4 : (a b c d : Bool) → c ≡ true → (a || b || c || d) ≡ true
third_of4 a b c d e = or_left (a || b || c) d (or_right (a || b) c e)

fourth_of4 : (a b c d : Bool) → d ≡ true → (a || b || c || d) ≡ true
fourth_of4 a b c d e = or_right (a || b || c) d e

abbrev has_const : Link → Bool
has_const l = has_section_in l DATA_CONST || not (length (slots_of l) == 0)

abbrev has_written : Link → Bool
has_written l = has_section_in l DATA || not (length (chosen_commons l) == 0)

abbrev any_other : Link → List ℕ → Bool
any_other l n = list_any (λ other. bytes_eq other n) (other_segments l)

pub text_mapped : (l : Link) → IsMapped l TEXT
text_mapped l =
    parts l TEXT ∙ first_of4 (bytes_eq TEXT TEXT || false) (any_flag TEXT (has_const l) DATA_CONST) (any_flag TEXT (has_written l) DATA)
    (any_other l TEXT) refl

pub const_mapped : (l : Link) → (has_section_in l DATA_CONST || not (length (slots_of l) == 0)) ≡ true → IsMapped l DATA_CONST
const_mapped l is =
    parts l DATA_CONST
    ∙ second_of4 (bytes_eq TEXT DATA_CONST || false) (any_flag DATA_CONST (has_const l) DATA_CONST)
    (any_flag DATA_CONST (has_written l) DATA) (any_other l DATA_CONST)
    (flag_there DATA_CONST DATA_CONST (has_const l) is refl)

pub data_mapped : (l : Link) → (has_section_in l DATA || not (length (chosen_commons l) == 0)) ≡ true → IsMapped l DATA
data_mapped l is =
    parts l DATA
    ∙ third_of4 (bytes_eq TEXT DATA || false) (any_flag DATA (has_const l) DATA_CONST) (any_flag DATA (has_written l) DATA)
    (any_other l DATA)
    (flag_there DATA DATA (has_written l) is refl)

other_mapped : (l : Link) (n : List ℕ) → list_any (λ s. bytes_eq (segment_name_of (header_at l s)) n) (carried_of l) ≡ true
    → is_known_segment n ≡ false
    → IsMapped l n
unfolding other_segments
other_mapped l n there unknown =
    let t : List ℕ → Bool = λ other. bytes_eq other n in
    let kept : list_any t (filter (λ name. not (is_known_segment name))
    (distinct bytes_eq (map (λ s. segment_name_of (header_at l s)) (carried_of l))))
    ≡ list_any t (distinct bytes_eq (map (λ s. segment_name_of (header_at l s)) (carried_of l)))
    = any-filter (λ name. not (is_known_segment name)) t (distinct bytes_eq (map (λ s. segment_name_of (header_at l s)) (carried_of l)))
    (λ o out. false_from_ne_true (bytes_eq o n) (λ same. false≢true
    (sym unknown ∙ ap is_known_segment (sym ((bytes_eq-Decides o n).0 same)) ∙ not-false (is_known_segment o) out))) in
    parts l n ∙ fourth_of4 (bytes_eq TEXT n || false) (any_flag n (has_const l) DATA_CONST) (any_flag n (has_written l) DATA)
    (any_other l n) (kept
    ∙ any_distinct bytes_eq t (λ a b same. ap (λ (x : List ℕ). bytes_eq x n) ((bytes_eq-Decides a b).0 same))
    (map (λ s. segment_name_of (header_at l s)) (carried_of l))
    ∙ any_map t (λ s. segment_name_of (header_at l s)) (carried_of l) ∙ there)

none_of5 : (a b c d e : Bool) → a ≡ false → b ≡ false → c ≡ false → d ≡ false → e ≡ false → (a || b || c || d || e) ≡ false
none_of5 a b c d e x y z u v = or_from (a || b || c || d) e (or_from (a || b || c) d (or_from (a || b) c (or_from a b x y) z) u) v

-- a carried section's segment is mapped
pub section_mapped : (l : Link) (s : SectionId) → Contains (carried_of l) s → MayStand (spec_of l s)
    → IsMapped l (segment_name_of (header_at l s))
section_mapped l s there may =
    let n : List ℕ = segment_name_of (header_at l s) in
    let in_link : (m : List ℕ) → bytes_eq (segment_name_of (header_at l s)) m ≡ true → has_section_in l m ≡ true
    = λ m same. list_any_at (λ s. bytes_eq (segment_name_of (header_at l s)) m) (carried_of l) there.0 s there.1
    (ap (λ (x : SectionId). bytes_eq (segment_name_of (header_at l x)) m) there.2 ∙ same) in
    let e = name_in_field (header_at l s).segname in
    let zero : bytes_eq (segment_name_of (header_at l s)) PAGEZERO ≡ false = ap (λ (x : List ℕ). bytes_eq x PAGEZERO) (sym e)
    ∙ may.not_zero_page in
    let last : bytes_eq (segment_name_of (header_at l s)) LINKEDIT ≡ false = ap (λ (x : List ℕ). bytes_eq x LINKEDIT) (sym e)
    ∙ may.not_tables in
    elim (cases_Bool (bytes_eq (segment_name_of (header_at l s)) TEXT)) [
      | inl text ↦ subst (IsMapped l) (sym ((bytes_eq-Decides (segment_name_of (header_at l s)) TEXT).0 text)) (text_mapped l)
      | inr not_text ↦ elim (cases_Bool (bytes_eq (segment_name_of (header_at l s)) DATA_CONST)) [
        | inl const ↦ subst (IsMapped l) (sym ((bytes_eq-Decides (segment_name_of (header_at l s)) DATA_CONST).0 const))
            (const_mapped l (or_left (has_section_in l DATA_CONST) (not (length (slots_of l) == 0)) (in_link DATA_CONST const)))
        | inr not_const ↦ elim (cases_Bool (bytes_eq (segment_name_of (header_at l s)) DATA)) [
          | inl written ↦ subst (IsMapped l) (sym ((bytes_eq-Decides (segment_name_of (header_at l s)) DATA).0 written))
              (data_mapped l (or_left (has_section_in l DATA) (not (length (chosen_commons l) == 0)) (in_link DATA written)))
          | inr not_data ↦ other_mapped l (segment_name_of (header_at l s))
              (in_link (segment_name_of (header_at l s)) (bytes_same (segment_name_of (header_at l s))))
              (none_of5 (bytes_eq (segment_name_of (header_at l s)) PAGEZERO) (bytes_eq (segment_name_of (header_at l s)) TEXT)
              (bytes_eq (segment_name_of (header_at l s)) DATA_CONST)
              (bytes_eq (segment_name_of (header_at l s)) DATA)
              (bytes_eq (segment_name_of (header_at l s)) LINKEDIT) zero not_text not_const not_data last)
        ]
      ]
    ]

-- classes
pub class_small : (name : OutputName) (flags : ℕ) → class_of name flags < 9
class_small name flags = by (same_segment name.segment (padded TEXT)) (same_segment name.segment (padded DATA)) (is_zerofill_type name.kind)
    (has_instructions flags)
    (name.kind == S_THREAD_LOCAL_REGULAR) (name.kind == S_THREAD_LOCAL_ZEROFILL) (same_output name COMMON_NAME)
  where
    by : (t d z i r x c : Bool) → (if t then (if z then 8 else if i then 0 else 4) else if d then
        (if not z then (if r then 5 else 4) else if x then 6 else if c then 7 else 8) else if z then 8 else 4) < 9
    by true d true i r x c = omega arith
    by true d false true r x c = omega arith
    by true d false false r x c = omega arith
    by false true true i r true c = omega arith
    by false true true i r false true = omega arith
    by false true true i r false false = omega arith
    by false true false i true x c = omega arith
    by false true false i false x c = omega arith
    by false false true i r x c = omega arith
    by false false false i r x c = omega arith

-- what has bytes in the file is of a class that has
pub class_filled : (name : OutputName) (flags : ℕ) → is_zerofill_type name.kind ≡ false → class_of name flags < 6
class_filled name flags e = by (same_segment name.segment (padded TEXT)) (same_segment name.segment (padded DATA))
    (is_zerofill_type name.kind) (has_instructions flags)
    (name.kind == S_THREAD_LOCAL_REGULAR) (name.kind == S_THREAD_LOCAL_ZEROFILL) (same_output name COMMON_NAME) e
  where
    by : (t d z i r x c : Bool) → z ≡ false → (if t then (if z then 8 else if i then 0 else 4) else if d then
        (if not z then (if r then 5 else 4) else if x then 6 else if c then 7 else 8) else if z then 8 else 4) < 6
    by t d true i r x c e = absurd (false≢true (sym e))
    by true d false true r x c e = omega arith
    by true d false false r x c e = omega arith
    by false true false i true x c e = omega arith
    by false true false i false x c e = omega arith
    by false false false i r x c e = omega arith
