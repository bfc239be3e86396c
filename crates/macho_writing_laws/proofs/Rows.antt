-- Stubs stand one behind the other, and so do slots.
--
-- They are the pieces of an output section, each of which begins at the least multiple of its alignment behind the one before it; and a
-- stub's or a slot's size is such a multiple.
use Rattle.std.proofs.Common.{◌≡◌, ℕ, zero, suc, ◌+◌, ◌*◌, ◌%◌, ◌<◌, ◌||◌, ◌&&◌, ◌==◌, not, Bool, true, false, List, [], ◌∷◌, ◌++◌, map, length, get_or, refl, sym, ap, ◌∙◌, arith, All}
use Rattle.std.specs.Prelude.{Contains, nat_lt}
use Rattle.std.specs.Str.{bytes_eq}
use Rattle.std.proofs.lemmas.Bool.Decides.{nat_tests}
use Rattle.std.proofs.lemmas.List.{get_or-map, length-map, get_or_default}
use Rattle.std.proofs.lemmas.List.Elements.{Contains-append_left, Contains-append_right}
use Rattle.macho_bytes.proofs.Members.{all_contains, contains_flat_map, contains_first}
use Rattle.macho_model.specs.declared.placed.Counts.{Counts}
use Rattle.macho_model.specs.declared.placed.Slot.{Slot}
use Rattle.macho_model.specs.declared.placed.Stub.{Stub}
use Rattle.macho_model.specs.declared.targets.Target.TheVariants as target
use Rattle.macho_model.specs.Lists.{EachNext}
use Rattle.macho_model.specs.Links.{Link}
use Rattle.macho_model.specs.Targets.{slots_of, stubs_of}
use Rattle.macho_model.specs.Resolution.{chosen_commons}
use Rattle.macho_model.specs.Segments.{PAGEZERO, TEXT, DATA_CONST, DATA, LINKEDIT, has_section_in, other_segments, segment_names_of, list_if}
use Rattle.macho_model.specs.Spans.{slot_span, stub_span, piece}
use Rattle.macho_model.specs.OutputSections.{is_zeros, is_code}
use Rattle.macho_model.specs.steps.Outputs.{InitOffsets, UnwindInfo, Stubs, Slots, merged_in, output_sections_in, output_sections_of, pieces_of, WORD_EXPONENT, POINTER_EXPONENT}
use Rattle.macho_model.specs.Placement.{Piece}
use Rattle.macho_model.specs.Order.{BeginsLeast}
use Rattle.macho_writing_laws.specs.Slots.{StubsFollow, SlotsFollow}
use Rattle.macho_model.proofs.Parts.{aligned_of}
use Rattle.macho_model.proofs.Outputs.{least_of}
use Rattle.macho_bytes.proofs.Bools.{or_second}
use Rattle.macho_model.proofs.Sections.{list_if_contains}

not_empty : (n : ℕ) → 0 < n → not (n == 0) ≡ true
not_empty n some = let e : (n == 0) ≡ false = grind (arith, nat_tests) in rw e refl

-- in a part of many
in_fourth : {X : Type 0} (a b c d : List X) (x : X) → Contains b x → Contains (((a ++ b) ++ c) ++ d) x
in_fourth a b c d x has =
    Contains-append_left ((a ++ b) ++ c) d x (Contains-append_left (a ++ b) c x (Contains-append_right a b x has))

in_sixth : {X : Type 0} (a b c d e f : List X) (x : X) → Contains b x → Contains (((((a ++ b) ++ c) ++ d) ++ e) ++ f) x
in_sixth a b c d e f x has =
    Contains-append_left ((((a ++ b) ++ c) ++ d) ++ e) f x
    (Contains-append_left (((a ++ b) ++ c) ++ d) e x (in_fourth a b c d x has))

-- the stubs are an output section of `__TEXT`
text_named : (l : Link) → Contains (segment_names_of l) TEXT
unfolding segment_names_of
text_named l =
    in_sixth (list_if l.executable (PAGEZERO ∷ [])) (TEXT ∷ [])
    (list_if (has_section_in l DATA_CONST || not (length (slots_of l) == 0)) (DATA_CONST ∷ []))
    (list_if (has_section_in l DATA || not (length (chosen_commons l) == 0)) (DATA ∷ [])) (other_segments l) (LINKEDIT ∷ []) TEXT
    (contains_first TEXT [])

stubs_in_text : (l : Link) (counts : Counts) → 0 < length (stubs_of l) → Contains (output_sections_in l counts TEXT) Stubs
stubs_in_text l counts some =
    in_fourth
    ((merged_in l TEXT (is_code l) ++ list_if (nat_lt 0 counts.initializers) (InitOffsets ∷ []))
    ++ list_if (nat_lt 0 counts.unwind) (UnwindInfo ∷ []))
    (list_if (not (length (stubs_of l) == 0)) (Stubs ∷ [])) (merged_in l TEXT (λ key. not (is_zeros key) && not (is_code l key)))
    (merged_in l TEXT is_zeros) Stubs (list_if_contains (not (length (stubs_of l) == 0)) Stubs (not_empty (length (stubs_of l)) some))

stubs_there : (l : Link) (counts : Counts) → 0 < length (stubs_of l) → Contains (output_sections_of l counts) Stubs
unfolding output_sections_of
stubs_there l counts some =
    contains_flat_map (output_sections_in l counts) (segment_names_of l) TEXT Stubs (text_named l) (stubs_in_text l counts some)

const_named : (l : Link) → 0 < length (slots_of l) → Contains (segment_names_of l) DATA_CONST
unfolding segment_names_of
const_named l some =
    let flag : Bool = has_section_in l DATA_CONST || not (length (slots_of l) == 0) in
    let front : List (List ℕ) = list_if l.executable (PAGEZERO ∷ []) ++ TEXT ∷ [] in
    let own : List (List ℕ) = list_if (has_section_in l DATA || not (length (chosen_commons l) == 0)) (DATA ∷ []) in
    let here : Contains (list_if flag (DATA_CONST ∷ [])) DATA_CONST =
    list_if_contains flag DATA_CONST
    (or_second (has_section_in l DATA_CONST) (not (length (slots_of l) == 0)) (not_empty (length (slots_of l)) some)) in
    Contains-append_left (((front ++ list_if flag (DATA_CONST ∷ [])) ++ own) ++ other_segments l) (LINKEDIT ∷ []) DATA_CONST
    (in_fourth front (list_if flag (DATA_CONST ∷ [])) own (other_segments l) DATA_CONST here)

slots_in_const : (l : Link) (counts : Counts) → 0 < length (slots_of l) → Contains (output_sections_in l counts DATA_CONST) Slots
slots_in_const l counts some =
    in_fourth [] (list_if (bytes_eq DATA_CONST DATA_CONST && not (length (slots_of l) == 0)) (Slots ∷ []))
    (merged_in l DATA_CONST (λ key. not (is_zeros key))) (merged_in l DATA_CONST is_zeros) Slots
    (list_if_contains (bytes_eq DATA_CONST DATA_CONST && not (length (slots_of l) == 0)) Slots (not_empty (length (slots_of l)) some))

slots_there : (l : Link) (counts : Counts) → 0 < length (slots_of l) → Contains (output_sections_of l counts) Slots
unfolding output_sections_of
slots_there l counts some =
    contains_flat_map (output_sections_in l counts) (segment_names_of l) DATA_CONST Slots (const_named l some)
    (slots_in_const l counts some)

-- THE rows: elements of one size, at multiples of an alignment of which the size is one, stand one behind the other
next_is : {X : Type 0} (f : X → Piece) (xs : List X) (d : X) (k : ℕ) → EachNext BeginsLeast (map f xs) → k + 1 < length xs
    → BeginsLeast (f (get_or xs k d)) (f (get_or xs (k + 1) d))
next_is f xs d k next lt =
    let here : k < length (map f xs) = omega (arith, lt, length-map xs f) in
    let there : k + 1 < length (map f xs) = omega (arith, lt, length-map xs f) in
    let e = f d in
    let one = get_or-map f xs k d e (omega (arith, lt)) in
    let two = get_or-map f xs (k + 1) d e lt in
    next k (f (get_or xs k d)) (f (get_or xs (k + 1) d))
    (here, sym (get_or_default (map f xs) k e (f (get_or xs k d)) here) ∙ one)
    (there, sym (get_or_default (map f xs) (k + 1) e (f (get_or xs (k + 1) d)) there) ∙ two)

stubs_row : (stubs : List Stub) → EachNext BeginsLeast (map (λ s. piece WORD_EXPONENT (stub_span s)) stubs)
    → All (λ s. s.address % 4 ≡ 0) stubs → (k : ℕ) (d : Stub) → k < length stubs
    → (get_or stubs k d).address ≡ (get_or stubs 0 d).address + 12 * k
stubs_row stubs next aligned zero d lt = omega arith
stubs_row stubs next aligned (suc k) d lt =
    let before = stubs_row stubs next aligned k d (omega arith) in
    let step = next_is (λ s. piece WORD_EXPONENT (stub_span s)) stubs d k next (omega (arith, lt)) in
    let number : get_or stubs (k + 1) d ≡ get_or stubs (suc k) d = ap (λ (n : ℕ). get_or stubs n d) (omega arith) in
    omega (arith, before, step, ap (λ (s : Stub). s.address) number, aligned k d (omega arith))

slots_row : (slots : List Slot) → EachNext BeginsLeast (map (λ s. piece POINTER_EXPONENT (slot_span s)) slots)
    → All (λ s. s.address % 8 ≡ 0) slots → (k : ℕ) (d : Slot) → k < length slots
    → (get_or slots k d).address ≡ (get_or slots 0 d).address + 8 * k
slots_row slots next aligned zero d lt = omega arith
slots_row slots next aligned (suc k) d lt =
    let before = slots_row slots next aligned k d (omega arith) in
    let step = next_is (λ s. piece POINTER_EXPONENT (slot_span s)) slots d k next (omega (arith, lt)) in
    let number : get_or slots (k + 1) d ≡ get_or slots (suc k) d = ap (λ (n : ℕ). get_or slots n d) (omega arith) in
    omega (arith, before, step, ap (λ (s : Slot). s.address) number, aligned k d (omega arith))

pub stubs_follow : StubsFollow
unfolding pieces_of
stubs_follow l counts p whole k d lt =
    let long : length p.stubs ≡ length (stubs_of l) =
    sym (length-map p.stubs (λ (s : Stub). target.Import s.import)) ∙ ap length whole.placed.whole_list.stubs in
    let next = all_contains (λ o. EachNext BeginsLeast (pieces_of l p o)) (output_sections_of l counts) Stubs (least_of whole.least).pieces
    (stubs_there l counts (omega (arith, lt, long))) in
    stubs_row p.stubs next (aligned_of whole.placed).stubs k d lt

pub slots_follow : SlotsFollow
unfolding pieces_of
slots_follow l counts p whole k d lt =
    let long : length p.slots ≡ length (slots_of l) =
    sym (length-map p.slots (λ (s : Slot). s.target)) ∙ ap length whole.placed.whole_list.slots in
    let next = all_contains (λ o. EachNext BeginsLeast (pieces_of l p o)) (output_sections_of l counts) Slots (least_of whole.least).pieces
    (slots_there l counts (omega (arith, lt, long))) in
    slots_row p.slots next (aligned_of whole.placed).slots k d lt
