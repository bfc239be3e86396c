-- The install names of libraries, in order.
--
-- The files before a place, and that at the place, are those before the next place: a library adds its name, and an object none. What is
-- kept of an input has the install name of the input: so the names are those of the inputs.
use Rattle.std.proofs.Common.{◌≡◌, ℕ, ◌+◌, ◌<◌, true, false, List, [], ◌∷◌, ◌++◌, Option, Some, None, length, get_or, take, map, sym, ap, ◌∙◌, refl, Bor, append-nil}
use Rattle.std.specs.List.{filter_map, cons_option}
use Rattle.std.specs.Option.{is_none}
use Rattle.std.proofs.lemmas.Bool.{both_ways}
use Rattle.std.proofs.lemmas.List.{take_more, map-append}
use Rattle.std.proofs.lemmas.List.Elements.{filter_map-append}
use Rattle.macho_model.specs.Links.{Input, Object, Dylib, Stub}
use Rattle.macho_model.specs.Objects.{install_name_of}
use Rattle.macho_model.specs.Resolution.{library_of_input}
use Rattle.macho_symbol_names.specs.Kept.{FileRows, kept_of}
use Rattle.macho_symbol_names.specs.Events.{library_text}
use Rattle.macho_symbols.specs.steps.Solved.{install_name_in}

-- the names of one file more
pub names_more : (files : List FileRows) (i : ℕ) (x : FileRows) → i < length files → x ≡ get_or files i x
    → filter_map install_name_in (take (i + 1) files) ≡ filter_map install_name_in (take i files) ++ cons_option (install_name_in x) []
names_more files i x lt is =
    ap (filter_map install_name_in) (take_more files i x lt ∙ ap (λ (f : FileRows). take i files ++ f ∷ []) (sym is))
    ∙ filter_map-append install_name_in (take i files) (x ∷ [])

-- a library adds its name
some_added : (o : Option (List ℕ)) (name : List ℕ) → is_none o ≡ false → name ≡ library_text o → name ∷ [] ≡ cons_option o []
some_added None name some is = absurd (both_ways true some refl)
some_added (Some n) name some is = ap (λ (x : List ℕ). x ∷ []) is

pub library_more : (files : List FileRows) (i : ℕ) (x : FileRows) (old new : List (Bor (List ℕ))) (name : Bor (List ℕ)) → i < length files
    → x ≡ get_or files i x → map (λ n. n.now) old ≡ filter_map install_name_in (take i files) → is_none x.library ≡ false
    → name.now ≡ library_text x.library → new ≡ old ++ name ∷ [] → map (λ n. n.now) new ≡ filter_map install_name_in (take (i + 1) files)
library_more files i x old new name lt is so_far some named added =
    ap (map (λ (n : Bor (List ℕ)). n.now)) added ∙ map-append (λ (n : Bor (List ℕ)). n.now) old (name ∷ [])
    ∙ ap (λ (ns : List (List ℕ)). ns ++ name.now ∷ []) so_far
    ∙ ap (λ (ns : List (List ℕ)). filter_map install_name_in (take i files) ++ ns) (some_added x.library name.now some named)
    ∙ sym (names_more files i x lt is)

-- and an object none
none_added : (o : Option (List ℕ)) → is_none o ≡ true → [] ≡ cons_option o []
none_added None none = refl
none_added (Some n) none = absurd (both_ways false refl none)

pub object_more : (files : List FileRows) (i : ℕ) (x : FileRows) (names : List (Bor (List ℕ))) → i < length files
    → x ≡ get_or files i x → map (λ n. n.now) names ≡ filter_map install_name_in (take i files) → is_none x.library ≡ true
    → map (λ n. n.now) names ≡ filter_map install_name_in (take (i + 1) files)
object_more files i x names lt is so_far none =
    so_far ∙ sym (append-nil (filter_map install_name_in (take i files)))
    ∙ ap (λ (ns : List (List ℕ)). filter_map install_name_in (take i files) ++ ns) (none_added x.library none)
    ∙ sym (names_more files i x lt is)

-- what is kept of the inputs has their install names
pub names_kept : (inputs : List Input) → filter_map install_name_in (map kept_of inputs) ≡ filter_map library_of_input inputs
names_kept [] = refl
names_kept (Object bytes ∷ inputs) = names_kept inputs
names_kept (Dylib bytes ∷ inputs) = ap (λ (ns : List (List ℕ)). install_name_of bytes ∷ ns) (names_kept inputs)
names_kept (Stub text says ∷ inputs) = ap (λ (ns : List (List ℕ)). says.install_name ∷ ns) (names_kept inputs)
