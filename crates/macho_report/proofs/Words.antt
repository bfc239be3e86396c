-- What is told of a word.
--
-- The first input, or list, that stands in a word is the first of those without where they lie in memory: the same test is asked of
-- each. So what was found is what is told.
use Rattle.std.proofs.Common.{◌≡◌, ℕ, Bool, true, false, refl, sym, ap, ◌∙◌, List, [], ◌∷◌, map, Option, Some, None, Bor, String}
use Rattle.std.specs.Prelude.{◌==◌, find, if◌then◌else◌}
use Rattle.std.specs.Option.{option_copied, option_map, option_map_or}
use Rattle.std.specs.String.{string_bytes}
use Rattle.macho_args.specs.Settings.{Input, input_of}
use Rattle.macho_args.specs.declared.fields.InputSpec.{InputSpec}
use Rattle.macho_report.specs.Lines.{word_name}

-- the first that passes, as it is seen
find-map : {X Y : Type 0} (f : X → Y) (test : Y → Bool) (xs : List X) → find test (map f xs) ≡ option_map f (find (λ x. test (f x)) xs)
find-map f test [] = refl
find-map {X} {Y} f test (x ∷ xs) = by (test (f x)) _ (find (λ x. test (f x)) xs) (find-map f test xs)
  where
    by : (b : Bool) (o : Option Y) (r : Option X) → o ≡ option_map f r
        → (if b then Some (f x) else o) ≡ option_map f (if b then Some x else r)
    by true o r e = refl
    by false o r e = e

abbrev plain : {A : Type 0} → ℕ × String A → ℕ × List ℕ
plain list = (list.0, string_bytes list.1)

inputs-found : (inputs : List InputSpec) (word : ℕ) (o : Option (Bor InputSpec))
    → option_copied o ≡ find (λ spec. (input_of spec).word == word) inputs
    → find (λ input. input.word == word) (map input_of inputs) ≡ option_map input_of (option_copied o)
inputs-found inputs word o is = find-map input_of (λ input. input.word == word) inputs ∙ ap (option_map input_of) (sym is)

lists-found : {A : Type 0} (lists : List (ℕ × String A)) (word : ℕ) (o : Option (Bor (ℕ × String A)))
    → option_copied o ≡ find (λ list. list.0 == word) lists
    → find (λ list. list.0 == word) (map plain lists) ≡ option_map plain (option_copied o)
lists-found lists word o is = find-map plain (λ list. list.0 == word) lists ∙ ap (option_map plain) (sym is)

-- what is told of an input, else of a list
abbrev told_of : Option Input → Option (ℕ × List ℕ) → List ℕ
told_of input list = option_map_or (λ i. i.name) input (option_map_or (λ l. l.1) list [])

-- an input stands in the word
pub input-told : {A : Type 0} (inputs : List InputSpec) (lists : List (ℕ × String A)) (word : ℕ) (o : Option (Bor InputSpec))
    (spec : Bor InputSpec) (name : List ℕ)
    → option_copied o ≡ find (λ spec. (input_of spec).word == word) inputs → o ≡ Some spec → name ≡ (input_of spec.now).name
    → name ≡ word_name (map input_of inputs) (map (λ list. (list.0, string_bytes list.1)) lists) word
input-told inputs lists word o spec name found some is =
    let told = inputs-found inputs word o found ∙ ap (λ (p : Option (Bor InputSpec)). option_map input_of (option_copied p)) some in
    is ∙ sym (ap (λ (i : Option Input). told_of i (find (λ list. list.0 == word) (map plain lists))) told)

-- a list does
pub list-told : {A : Type 0} (inputs : List InputSpec) (lists : List (ℕ × String A)) (word : ℕ) (o : Option (Bor InputSpec))
    (p : Option (Bor (ℕ × String A)))
    (list : Bor (ℕ × String A)) (name : List ℕ) → option_copied o ≡ find (λ spec. (input_of spec).word == word) inputs → o ≡ None
    → option_copied p ≡ find (λ list. list.0 == word) lists → p ≡ Some list → name ≡ string_bytes list.now.1
    → name ≡ word_name (map input_of inputs) (map (λ list. (list.0, string_bytes list.1)) lists) word
list-told {A} inputs lists word o p list name found none listed some is =
    let told = inputs-found inputs word o found ∙ ap (λ (q : Option (Bor InputSpec)). option_map input_of (option_copied q)) none in
    let there = lists-found lists word p listed ∙ ap (λ (q : Option (Bor (ℕ × String A))). option_map plain (option_copied q)) some in
    is ∙ sym (ap (λ (i : Option Input). told_of i (find (λ list. list.0 == word) (map plain lists))) told ∙ ap (told_of None) there)

-- nothing does
pub none-told : {A : Type 0} (inputs : List InputSpec) (lists : List (ℕ × String A)) (word : ℕ) (o : Option (Bor InputSpec))
    (p : Option (Bor (ℕ × String A)))
    → option_copied o ≡ find (λ spec. (input_of spec).word == word) inputs → o ≡ None
    → option_copied p ≡ find (λ list. list.0 == word) lists → p ≡ None
    → [] ≡ word_name (map input_of inputs) (map (λ list. (list.0, string_bytes list.1)) lists) word
none-told {A} inputs lists word o p found none listed empty =
    let told = inputs-found inputs word o found ∙ ap (λ (q : Option (Bor InputSpec)). option_map input_of (option_copied q)) none in
    let there = lists-found lists word p listed ∙ ap (λ (q : Option (Bor (ℕ × String A))). option_map plain (option_copied q)) empty in
    sym (ap (λ (i : Option Input). told_of i (find (λ list. list.0 == word) (map plain lists))) told ∙ ap (told_of None) there)
