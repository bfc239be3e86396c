-- A walk over the commands of a list that says something of each one makes the list of what is said.
--
-- The commands that a walk passed are the first ones of the list, and the one that it comes to has the next number. So what was said so far
-- is said of the first ones, and behind the last command of all. A filter of the first ones grows by the next one or stays. A command of an
-- accepted image lies inside the file.
use Rattle.std.proofs.Common.{◌≡◌, ℕ, ◌+◌, ◌<◌, ◌≤◌, nat_le, ◌&&◌, Bool, true, false, List, [], ◌∷◌, ◌++◌}
use Rattle.std.proofs.Common.{length, take, map, get_or, refl, sym, ap, subst, ◌∙◌, arith}
use Rattle.std.specs.Prelude.{filter, flat_map}
use Rattle.std.specs.List.{range_with_len}
use Rattle.std.proofs.lemmas.Bool.{leb-true}
use Rattle.std.proofs.lemmas.List.{take_more, take_all, length-map, map-append, append-nil}
use Rattle.std.proofs.lemmas.List.Elements.{All-filter, filter-append}
use Rattle.macho_bytes.specs.Layouts.{size_of, reading}
use Rattle.macho_records.specs.Layouts.{load_command}
use Rattle.macho_records.specs.CommandLayouts.{dylib_command}
use Rattle.macho_model.specs.Commands.{Command, command_at, commands_of, commands_end, command_fits, path_of}
use Rattle.macho_model.specs.Images.{Table, table_of_command, tables_of, fixups_header, libraries_of}
use Rattle.macho_model.specs.Loader.{IsAccepted}
use Rattle.macho_model.specs.LoadRules.{needed_in_image}
use Rattle.macho_image_walks.specs.declared.walk.Listed.{Listed}
use Rattle.macho_image_walks.specs.declared.walk.Listed.TheVariants as list
use Rattle.macho_image_walks.specs.Readings.{is_listed, listed, IsNth, table_there}
use Rattle.macho_bytes.proofs.Bools.{and_left, and_right}
use Rattle.macho_image_walks.proofs.ListedLaws.{nth_image, tables_are}
use Rattle.macho_loader.specs.Lists.{Import, import_at, imports_of_image}
use Rattle.macho_loader.specs.steps.Listing.{imports_in}

-- nothing is said
pub said_none : {Y : Type 0} (n : ℕ) (ys zs : List Y) → n ≡ 0 → ys ≡ [] → ys ≡ take n zs
said_none n ys zs none empty = empty ∙ ap (λ k. take k zs) (sym none)

-- one more is said
pub said_more : {Y : Type 0} (f : Command → Y) (which : Listed) (b : List ℕ) (n m place : ℕ) (ys : List Y) → m ≡ n + 1
    → IsNth which b n place → ys ≡ take n (map f (listed which b)) → ys ++ f (command_at b place) ∷ [] ≡ take m (map f (listed which b))
said_more {Y = Y} f which b n m place ys more nth so_far =
    let y = f (command_at b place) in
    let within : n < length (map f (listed which b)) = omega (arith, nth.within, length-map (listed which b) f) in
    ap (λ (xs : List Y). xs ++ y ∷ []) so_far
    ∙ ap (λ x. take n (map f (listed which b)) ++ x ∷ []) (sym (nth_image f which b n place y nth))
    ∙ sym (take_more (map f (listed which b)) n y within)
    ∙ ap (λ k. take k (map f (listed which b))) (sym more)

-- all are said
pub said_all : {Y : Type 0} (f : Command → Y) (which : Listed) (b : List ℕ) (n : ℕ) (ys : List Y) → length (listed which b) ≤ n
    → ys ≡ take n (map f (listed which b)) → ys ≡ map f (listed which b)
said_all f which b n ys past so_far =
    so_far ∙ take_all n (map f (listed which b)) (omega (arith, past, length-map (listed which b) f))

-- of names that are borrowed
pub names_more : {X Y : Type 0} (f : X → Y) (xs : List X) (ys zs : List Y) (x : X) (y : Y) → f x ≡ y → map f xs ≡ ys → ys ++ y ∷ [] ≡ zs
    → map f (xs ++ x ∷ []) ≡ zs
names_more {Y = Y} f xs ys zs x y is so_far more =
    map-append f xs (x ∷ []) ∙ ap (λ (us : List Y). us ++ f x ∷ []) so_far ∙ ap (λ (u : Y). ys ++ u ∷ []) is ∙ more

-- of the next one that passes a test something more is said, and of another one nothing
first_more : (which : Listed) (b : List ℕ) (n m place : ℕ) → m ≡ n + 1 → IsNth which b n place
    → take m (listed which b) ≡ take n (listed which b) ++ command_at b place ∷ []
first_more which b n m place more nth =
    ap (λ k. take k (listed which b)) more ∙ take_more (listed which b) n (command_at b place) nth.within
    ∙ ap (λ (c : Command). take n (listed which b) ++ c ∷ []) nth.is

pub passing_none : {Y : Type 0} (f : Command → Y) (p : Command → Bool) (cs : List Command) (n : ℕ) (ys : List Y) → n ≡ 0 → ys ≡ []
    → ys ≡ map f (filter p (take n cs))
passing_none f p cs n ys none empty = empty ∙ ap (λ k. map f (filter p (take k cs))) (sym none)

pub passing_more : {Y : Type 0} (f : Command → Y) (p : Command → Bool) (which : Listed) (b : List ℕ) (n m place : ℕ) (ys : List Y)
    → m ≡ n + 1 → IsNth which b n place → p (command_at b place) ≡ true → ys ≡ map f (filter p (take n (listed which b)))
    → ys ++ f (command_at b place) ∷ [] ≡ map f (filter p (take m (listed which b)))
passing_more {Y = Y} f p which b n m place ys more nth passes so_far =
    let c = command_at b place in
    let xs = take n (listed which b) in
    let one : filter p (c ∷ []) ≡ c ∷ [] = rw passes refl in
    ap (λ (zs : List Y). zs ++ f c ∷ []) so_far ∙ sym (map-append f (filter p xs) (c ∷ []))
    ∙ ap (λ (zs : List Command). map f (filter p xs ++ zs)) (sym one)
    ∙ ap (λ (zs : List Command). map f zs) (sym (filter-append p xs (c ∷ [])))
    ∙ ap (λ (zs : List Command). map f (filter p zs)) (sym (first_more which b n m place more nth))

pub failing_more : {Y : Type 0} (f : Command → Y) (p : Command → Bool) (which : Listed) (b : List ℕ) (n m place : ℕ) (ys : List Y)
    → m ≡ n + 1 → IsNth which b n place → p (command_at b place) ≡ false → ys ≡ map f (filter p (take n (listed which b)))
    → ys ≡ map f (filter p (take m (listed which b)))
failing_more f p which b n m place ys more nth fails so_far =
    let c = command_at b place in
    let xs = take n (listed which b) in
    let none : filter p (c ∷ []) ≡ [] = rw fails refl in
    so_far ∙ ap (λ (zs : List Command). map f zs) (sym (append-nil (filter p xs)))
    ∙ ap (λ (zs : List Command). map f (filter p xs ++ zs)) (sym none)
    ∙ ap (λ (zs : List Command). map f zs) (sym (filter-append p xs (c ∷ [])))
    ∙ ap (λ (zs : List Command). map f (filter p zs)) (sym (first_more which b n m place more nth))

-- a library's name, and all of them
abbrev pub library_in : List ℕ → Command → List ℕ
library_in b c = path_of b c (reading dylib_command b c.at).name_offset

pub libraries_are : (b : List ℕ) → libraries_of b ≡ map (library_in b) (listed list.Libraries b)
unfolding libraries_of listed
libraries_are b = refl

-- a command of an accepted image lies inside the file
pub command_inside : (which : Listed) (b : List ℕ) (n place : ℕ) → IsAccepted b → IsNth which b n place → place ≤ length b
unfolding listed
command_inside which b n place accepted nth =
    let c = command_at b place in
    let test = command_fits (needed_in_image b) b in
    let whole : test c ≡ true = subst (λ x. test x ≡ true) nth.is
    (All-filter (is_listed which b) (λ x. test x ≡ true) (commands_of b) accepted.l2.1 n c nth.within) in
    let first = and_left (nat_le (size_of load_command) c.size && nat_le (c.at + c.size) (commands_end b))
    (nat_le (needed_in_image b c) c.size) whole in
    let ends = leb-true (c.at + c.size) (commands_end b)
    (and_right (nat_le (size_of load_command) c.size) (nat_le (c.at + c.size) (commands_end b)) first) in
    let inside = leb-true (commands_end b) (length b) accepted.l2.0 in
    omega (arith, ends, inside)

-- the imports are those of the one table, or there are none
imports_of_tables : (b : List ℕ) (ts : List Table) (t : Table) → length ts ≤ 1 → 0 < length ts → get_or ts 0 t ≡ t → ts ≡ t ∷ []
imports_of_tables b [] t few some is = absurd (omega (arith, some))
imports_of_tables b (x ∷ []) t few some is = ap (λ (y : Table). y ∷ []) is
imports_of_tables b (x ∷ y ∷ ts) t few some is = absurd (omega (arith, few))

pub imports_found : (b : List ℕ) (place : ℕ) → IsAccepted b → IsNth list.Tables b 0 place
    → imports_in b (table_there b place) ≡ imports_of_image b
unfolding imports_of_image
imports_found b place accepted nth =
    let t = table_there b place in
    let long = length-map (listed list.Tables b) (table_of_command b) in
    let same = tables_are b in
    let count = ap (λ (ts : List Table). length ts) same in
    let first : get_or (tables_of b) 0 t ≡ t =
    ap (λ (ts : List Table). get_or ts 0 t) same ∙ nth_image (table_of_command b) list.Tables b 0 place t nth in
    let one = imports_of_tables b (tables_of b) t accepted.l8.0 (omega (arith, nth.within, long, count)) first in
    sym (append-nil (imports_in b t)) ∙ sym (ap (λ (ts : List Table). listing ts) one)
  where
    listing : List Table → List Import
    listing ts = flat_map (λ t. map (import_at b t) (range_with_len 0 (fixups_header b t).imports_count)) ts

no_tables : (ts : List Table) → length ts ≤ 0 → ts ≡ []
no_tables [] none = refl
no_tables (x ∷ ts) none = absurd (omega (arith, none))

pub imports_missing : (b : List ℕ) → length (listed list.Tables b) ≤ 0 → [] ≡ imports_of_image b
unfolding imports_of_image
imports_missing b none =
    let long = length-map (listed list.Tables b) (table_of_command b) in
    let count = ap (λ (ts : List Table). length ts) (tables_are b) in
    sym (ap (λ (ts : List Table). flat_map (λ t. map (import_at b t) (range_with_len 0 (fixups_header b t).imports_count)) ts)
    (no_tables (tables_of b) (omega (arith, none, long, count))))
