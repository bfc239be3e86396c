-- From the bytes that are viewed to the link.
--
-- Each test of a consumed section looks at the bytes of its object alone. Where a link's object has these bytes, its test is that of
-- a link of this one object: both are the same function of the bytes.
use Rattle.std.proofs.Common.{◌≡◌, ℕ, ◌/◌, ◌<◌, List, length, get_or, Option, None, refl, sym, ap, ◌∙◌, subst, arith}
use Rattle.std.proofs.lemmas.List.{get_or-map, length-map}
use Rattle.macho_object.specs.Views.{FileBytes}
use Rattle.macho_model.specs.Objects.{section_at}
use Rattle.macho_model.specs.declared.rules.UnwindRule.TheVariants.{U2, U3, U4, U5, U8}
use Rattle.macho_model.specs.Links.{Input, Object, Dylib, Stub, Link, object_bytes, object_of, no_input}
use Rattle.macho_model.specs.Needs.{relocations_at}
use Rattle.macho_model.specs.Consumed.{initializer_section_fits, whole_entries, keeps}
use Rattle.macho_promise.specs.Views.{object_view, views_of}
use Rattle.macho_consumed.specs.Rows.{initializer_rows_in, entry_row}
use Rattle.macho_consumed.specs.steps.Alone.{alone, own}
use Rattle.macho_consumed.specs.steps.Places.{found}
use Rattle.macho_consumed.specs.steps.Slots.{slot_rows}
use Rattle.macho_consumed.specs.steps.Entries.{row_in}
use Rattle.macho_consumed.specs.steps.Listed.{bytes_in, bytes_viewed}

-- the bytes of a file of the link
bytes_of_view : (i : Input) → bytes_viewed (object_view i) ≡ object_bytes i
bytes_of_view (Object b) = refl
bytes_of_view (Dylib b) = refl
bytes_of_view (Stub text says) = refl

pub object_is : (l : Link) (files : List (Option FileBytes)) (i : ℕ) → files ≡ views_of l → i < length files
    → object_of l i ≡ bytes_in files i
object_is l files i views lt =
    let within : i < length l.inputs = omega (arith, lt, ap length views, length-map l.inputs object_view) in
    sym (ap bytes_viewed (ap (λ (fs : List (Option FileBytes)). get_or fs i None) views
    ∙ get_or-map object_view l.inputs i no_input None within) ∙ bytes_of_view (get_or l.inputs i no_input))

-- words of initializers
pub slot_is : (l : Link) (file : ℕ) (b : List ℕ) (k place : ℕ) → object_of l file ≡ b
    → relocations_at l (record { file = file; section = k }) place ≡ found b k (section_at b k).nreloc place
unfolding found
slot_is l file b k place e = subst (λ (c : List ℕ). relocations_at l (record { file = file; section = k }) place ≡ found c k
    (section_at c k).nreloc place) e refl

pub section_is : (l : Link) (file : ℕ) (b : List ℕ) (k : ℕ) → object_of l file ≡ b
    → initializer_section_fits l (record { file = file; section = k }) ≡ initializer_section_fits (alone b) (own k)
section_is l file b k e = subst (λ (c : List ℕ). initializer_section_fits l
    (record { file = file; section = k }) ≡ initializer_section_fits (alone c) (own k)) e refl

pub initializer_rows_are : (l : Link) (file : ℕ) (b : List ℕ) (k : ℕ) → object_of l file ≡ b
    → initializer_rows_in l (record { file = file; section = k }) ≡ slot_rows b file k ((section_at b k).size / 8)
unfolding initializer_rows_in slot_rows found
initializer_rows_are l file b k e =
    subst (λ (c : List ℕ). initializer_rows_in l (record { file = file; section = k }) ≡ slot_rows c file k
    ((section_at c k).size / 8)) e refl

-- words of entries
pub entry_row_is : (l : Link) (file : ℕ) (b : List ℕ) (k e : ℕ) → object_of l file ≡ b
    → entry_row l (record { of_section = record { file = file; section = k }; entry = e }) ≡ row_in b file k e
unfolding entry_row
entry_row_is l file b k e is =
    subst (λ (c : List ℕ). entry_row l (record { of_section = record { file = file; section = k }; entry = e }) ≡ row_in c file k e) is refl

pub entry_test : (l : Link) (file : ℕ) (b : List ℕ) (k e : ℕ) → object_of l file ≡ b
    → (keeps l (record { file = file; section = k }) e U2 ≡ keeps (alone b) (own k) e U2)
    × (keeps l (record { file = file; section = k }) e U3 ≡ keeps (alone b) (own k) e U3)
    × (keeps l (record { file = file; section = k }) e U4 ≡ keeps (alone b) (own k) e U4)
    × (keeps l (record { file = file; section = k }) e U5 ≡ keeps (alone b) (own k) e U5)
    × (keeps l (record { file = file; section = k }) e U8 ≡ keeps (alone b) (own k) e U8)
    × (whole_entries l (record { file = file; section = k }) ≡ whole_entries (alone b) (own k))
entry_test l file b k e is = (
  subst (λ (c : List ℕ). keeps l (record { file = file; section = k }) e U2 ≡ keeps (alone c) (own k) e U2) is refl,
  subst (λ (c : List ℕ). keeps l (record { file = file; section = k }) e U3 ≡ keeps (alone c) (own k) e U3) is refl,
  subst (λ (c : List ℕ). keeps l (record { file = file; section = k }) e U4 ≡ keeps (alone c) (own k) e U4) is refl,
  subst (λ (c : List ℕ). keeps l (record { file = file; section = k }) e U5 ≡ keeps (alone c) (own k) e U5) is refl,
  subst (λ (c : List ℕ). keeps l (record { file = file; section = k }) e U8 ≡ keeps (alone c) (own k) e U8) is refl,
  subst (λ (c : List ℕ). whole_entries l (record { file = file; section = k }) ≡ whole_entries (alone c) (own k)) is refl,
)
