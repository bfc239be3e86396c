-- The lists of commands that the walks are over, as the definitions have them, and what a command by its number says.
use Rattle.std.proofs.Common.{◌≡◌, ℕ, zero, suc, ◌-◌, ◌<◌, ◌≤◌, ◌==◌, nat_le, Bool, true, false, ◌&&◌, not, if◌then◌else◌, List, [], ◌∷◌, length, get_or, map, refl, sym, ap, subst, ◌∙◌, arith}
use Rattle.std.specs.Prelude.{filter, Contains}
use Rattle.std.proofs.lemmas.Bool.{le-leb}
use Rattle.std.proofs.lemmas.List.{get_or-map, length-map}
use Rattle.macho_records.specs.declared.header.SegmentCommand.{SegmentCommand}
use Rattle.macho_records.specs.declared.constants.TheConstants.{LC_SEGMENT_64, LC_LOAD_DYLIB}
use Rattle.macho_image_walks.specs.declared.walk.Listed.{Listed}
use Rattle.macho_image_walks.specs.declared.walk.Listed.TheVariants as list
use Rattle.macho_model.specs.Commands.{Command, command_at, commands_of, numbered}
use Rattle.macho_model.specs.Segments.{PAGEZERO, TEXT}
use Rattle.macho_model.specs.Images.{is_named, segments_of, mapped_segments, segments_named, base_of, libraries_of, table_of_command, tables_of}
use Rattle.macho_model.specs.LoadRules.{segment_address}
use Rattle.macho_model.specs.Loader.{segment_in, text_commands, fixup_commands}
use Rattle.macho_model.specs.Lists.{of_first}
use Rattle.macho_image_walks.specs.Readings.{listed, IsNth, table_there}
use Rattle.macho_bytes.proofs.Maps.{filter_of_map}

-- two filters are one
two_filters : {X : Type 0} (p q : X → Bool) (xs : List X) → filter (λ x. p x && q x) xs ≡ filter q (filter p xs)
two_filters p q [] = refl
two_filters p q (x ∷ xs) =
    let rest = two_filters p q xs in
    elim (p x) as (λ t. (if t && q x then x ∷ filter (λ y. p y && q y) xs else filter (λ y. p y && q y) xs) ≡ filter q
    (if t then x ∷ filter p xs else filter p xs)) [
      | true ↦ elim (q x) as (λ t. (if t then x ∷ filter (λ y. p y && q y) xs else filter (λ y. p y && q y) xs) ≡
          (if t then x ∷ filter q (filter p xs) else filter q (filter p xs))) [
            | true ↦ ap (λ ys. x ∷ ys) rest
            | false ↦ rest
          ]
      | false ↦ rest
    ]

all_kept : {X : Type 0} (xs : List X) → filter (λ x. true) xs ≡ xs
all_kept [] = refl
all_kept (x ∷ xs) = ap (λ ys. x ∷ ys) (all_kept xs)

-- the lists
pub all_listed : (b : List ℕ) → listed list.All b ≡ commands_of b
unfolding listed
all_listed b = all_kept (commands_of b)

pub texts_listed : (b : List ℕ) → listed list.Texts b ≡ text_commands b
unfolding listed
texts_listed b = two_filters (λ c. c.number == LC_SEGMENT_64) (λ c. is_named TEXT (segment_in b c)) (commands_of b)

-- the segments that are named `__TEXT`, those that are mapped, and the tables, by their commands
pub texts_are : (b : List ℕ) → segments_named TEXT b ≡ map (segment_in b) (listed list.Texts b)
unfolding segments_of
texts_are b =
    filter_of_map (segment_in b) (is_named TEXT) (numbered LC_SEGMENT_64 b) ∙ ap (λ cs. map (segment_in b) cs) (sym (texts_listed b))

pub mapped_are : (b : List ℕ) → mapped_segments b ≡ map (segment_in b) (listed list.Mapped b)
unfolding mapped_segments segments_of listed
mapped_are b =
    filter_of_map (segment_in b) (λ s. not (is_named PAGEZERO s)) (numbered LC_SEGMENT_64 b)
    ∙ ap (λ cs. map (segment_in b) cs) (sym (two_filters (λ c. c.number == LC_SEGMENT_64) (λ c. not (is_named PAGEZERO (segment_in b c)))
    (commands_of b)))

pub segments_are : (b : List ℕ) → segments_of b ≡ map (segment_in b) (listed list.Segments b)
unfolding segments_of listed
segments_are b = refl

pub tables_are : (b : List ℕ) → tables_of b ≡ map (table_of_command b) (listed list.Tables b)
unfolding tables_of listed
tables_are b = refl

pub count_of_segments : (b : List ℕ) → length (segments_of b) ≡ length (listed list.Segments b)
count_of_segments b = ap (λ (xs : List SegmentCommand). length xs) (segments_are b) ∙ length-map (listed list.Segments b) (segment_in b)

pub count_of_libraries : (b : List ℕ) → length (libraries_of b) ≡ length (listed list.Libraries b)
unfolding libraries_of listed
count_of_libraries b = length-map (numbered LC_LOAD_DYLIB b) _

-- an image of the command with a number
pub nth_image : {Y : Type 0} (f : Command → Y) (which : Listed) (b : List ℕ) (number place : ℕ) (d : Y) → IsNth which b number place
    → get_or (map f (listed which b)) number d ≡ f (command_at b place)
nth_image f which b number place d nth =
    get_or-map f (listed which b) number (command_at b place) d nth.within ∙ ap f nth.is

-- a table by its command
pub table_contains : (b : List ℕ) (number place : ℕ) → IsNth list.Tables b number place → Contains (tables_of b) (table_there b place)
table_contains b number place nth =
    let same = tables_are b in
    let long = length-map (listed list.Tables b) (table_of_command b) in
    subst (λ ts. Contains ts (table_there b place)) (sym same)
    (number, omega (arith, nth.within, long), nth_image (table_of_command b) list.Tables b number place (table_there b place) nth)

-- the address of a segment by its number, and of the first byte of `__TEXT`
pub address_found : (b : List ℕ) (number place address : ℕ) → IsNth list.Segments b number place
    → address ≡ (segment_in b (command_at b place)).vmaddr
    → address ≡ segment_address b number
address_found b number place address nth is =
    is ∙ sym (ap (λ (segments : List SegmentCommand). get_or (map (λ s. s.vmaddr) segments) number 0) (segments_are b)
    ∙ get_or-map (λ (s : SegmentCommand). s.vmaddr) (map (segment_in b) (listed list.Segments b)) number
    (segment_in b (command_at b place)) 0
    (omega (arith, nth.within, length-map (listed list.Segments b) (segment_in b)))
    ∙ ap (λ (s : SegmentCommand). s.vmaddr) (nth_image (segment_in b) list.Segments b number place (segment_in b (command_at b place)) nth))

first_is : (b : List ℕ) (cs : List Command) (c : Command) → 0 < length cs → get_or cs 0 c ≡ c
    → (segment_in b c).vmaddr ≡ of_first 0 (λ (s : SegmentCommand). s.vmaddr) (map (segment_in b) cs)
first_is b [] c some is = absurd (omega (arith, some))
first_is b (x ∷ cs) c some is = ap (λ (y : Command). (segment_in b y).vmaddr) (sym is)

pub base_found : (b : List ℕ) (place address : ℕ) → IsNth list.Texts b 0 place → address ≡ (segment_in b (command_at b place)).vmaddr
    → address ≡ base_of b
unfolding base_of
base_found b place address nth is =
    is ∙ first_is b (listed list.Texts b) (command_at b place) nth.within nth.is ∙ ap
    (λ (segments : List SegmentCommand). of_first 0 (λ (s : SegmentCommand). s.vmaddr) segments) (sym (texts_are b))

no_first : (b : List ℕ) (cs : List Command) → length cs ≤ 0 → 0 ≡ of_first 0 (λ (s : SegmentCommand). s.vmaddr) (map (segment_in b) cs)
no_first b [] none = refl
no_first b (x ∷ cs) none = absurd (omega (arith, none))

pub base_missing : (b : List ℕ) → length (listed list.Texts b) ≤ 0 → 0 ≡ base_of b
unfolding base_of
base_missing b none =
    no_first b (listed list.Texts b) none ∙ ap
    (λ (segments : List SegmentCommand). of_first 0 (λ (s : SegmentCommand). s.vmaddr) segments) (sym (texts_are b))

-- a list has so many elements where it has one at the place before
pub many_listed : (which : Listed) (b : List ℕ) (count place : ℕ) → 1 ≤ count → IsNth which b (count - 1) place
    → nat_le count (length (listed which b)) ≡ true
many_listed which b count place some nth = le-leb count (length (listed which b)) (omega (arith, nth.within, some))
