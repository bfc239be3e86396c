-- What a link sees of inputs that are alike.
--
-- Two libraries that are alike have no bytes that an object has, so no sections and no symbols; they have one install name, and offer the
-- same names. So an input and one that is like it give the same to all that is gathered of inputs, each at its place.
use Rattle.std.proofs.Common.{◌≡◌, ◌≢◌, None, ℕ, zero, suc, ◌+◌, Bool, true, false, cond, List, [], ◌∷◌, map, filter, get_or, Option, refl, sym, ap, ◌∙◌, inl, inr}
use Rattle.std.specs.Prelude.{filter_map}
use Rattle.std.specs.List.{AllZip, flat_map, enumerate_from, cons_option}
use Rattle.macho_model.specs.Links.{Link, Input, Object, Dylib, Stub, object_bytes, object_of, numbers_in, sections_of}
use Rattle.macho_model.specs.Resolution.{symbols_of, libraries_with, library_of_input, offers}
use Rattle.macho_alike_laws.specs.Links.{AreAlikeInputs, AreAlikeLinks}

-- ---- one input

-- an input with the install name of a library is a library, too, so neither has what an object has
no_object : (x y : Input) → library_of_input x ≢ None → library_of_input x ≡ library_of_input y
    → (object_bytes x ≡ object_bytes y) × ((count : List ℕ → ℕ) → numbers_in count x ≡ numbers_in count y)
no_object (Object b) y some same = absurd (some refl)
no_object (Dylib b) (Object c) some same = absurd cc
no_object (Stub t s) (Object c) some same = absurd cc
no_object (Dylib b) (Dylib c) some same = (refl, λ count. refl)
no_object (Dylib b) (Stub t s) some same = (refl, λ count. refl)
no_object (Stub t s) (Dylib c) some same = (refl, λ count. refl)
no_object (Stub t s) (Stub u v) some same = (refl, λ count. refl)

bytes_same : (x y : Input) → AreAlikeInputs x y → object_bytes x ≡ object_bytes y
bytes_same x y (inl e) = ap object_bytes e
bytes_same x y (inr alike) = (no_object x y alike.is_library alike.library).0

numbers_same : (count : List ℕ → ℕ) (x y : Input) → AreAlikeInputs x y → numbers_in count x ≡ numbers_in count y
numbers_same count x y (inl e) = ap (numbers_in count) e
numbers_same count x y (inr alike) = (no_object x y alike.is_library alike.library).1 count

library_same : (x y : Input) → AreAlikeInputs x y → library_of_input x ≡ library_of_input y
library_same x y (inl e) = ap library_of_input e
library_same x y (inr alike) = alike.library

offers_same : (name : List ℕ) (x y : Input) → AreAlikeInputs x y → offers name x ≡ offers name y
offers_same name x y (inl e) = ap (offers name) e
offers_same name x y (inr alike) = alike.offer name

-- ---- all inputs

-- what is said of the input with a number
at_number : {B : Type 0} (f : Input → B) (d : Input) → ((x y : Input) → AreAlikeInputs x y → f x ≡ f y) → (xs ys : List Input)
    → AllZip AreAlikeInputs xs ys → (k : ℕ) → f (get_or xs k d) ≡ f (get_or ys k d)
at_number f d same [] [] z k = refl
at_number f d same [] (y ∷ ys) z k = absurd z
at_number f d same (x ∷ xs) [] z k = absurd z
at_number f d same (x ∷ xs) (y ∷ ys) z zero = same x y z.0
at_number f d same (x ∷ xs) (y ∷ ys) z (suc k) = at_number f d same xs ys z.1 k

-- what is gathered of the inputs, by their numbers
gathered : {B : Type 0} (f : ℕ → Input → List B) → ((n : ℕ) (x y : Input) → AreAlikeInputs x y → f n x ≡ f n y) → (xs ys : List Input)
    → AllZip AreAlikeInputs xs ys → (n : ℕ)
    → flat_map (λ i. f i.0 i.1) (enumerate_from n xs) ≡ flat_map (λ i. f i.0 i.1) (enumerate_from n ys)
gathered f same [] [] z n = refl
gathered f same [] (y ∷ ys) z n = absurd z
gathered f same (x ∷ xs) [] z n = absurd z
gathered f same (x ∷ xs) (y ∷ ys) z n =
    let first = same n x y z.0 in let later = gathered f same xs ys z.1 (n + 1) in cc

one_more : (n : ℕ) (x y : Input) (us vs : List (ℕ × Input)) (s t : Bool) → s ≡ t → map (λ i. i.0) us ≡ map (λ i. i.0) vs
    → map (λ i. i.0) (cond s ((n, x) ∷ us) us) ≡ map (λ i. i.0) (cond t ((n, y) ∷ vs) vs)
one_more n x y us vs true true e rest = ap (λ ns. n ∷ ns) rest
one_more n x y us vs false false e rest = rest
one_more n x y us vs true false e rest = absurd cc
one_more n x y us vs false true e rest = absurd cc

-- the numbers of the inputs that pass a test
numbered : (p : Input → Bool) → ((x y : Input) → AreAlikeInputs x y → p x ≡ p y) → (xs ys : List Input) → AllZip AreAlikeInputs xs ys
    → (n : ℕ)
    → map (λ i. i.0) (filter (λ i. p i.1) (enumerate_from n xs)) ≡ map (λ i. i.0) (filter (λ i. p i.1) (enumerate_from n ys))
numbered p same [] [] z n = refl
numbered p same [] (y ∷ ys) z n = absurd z
numbered p same (x ∷ xs) [] z n = absurd z
numbered p same (x ∷ xs) (y ∷ ys) z n =
    one_more n x y _ _ (p x) (p y) (same x y z.0) (numbered p same xs ys z.1 (n + 1))

-- what some of the inputs say
told : {B : Type 0} (f : Input → Option B) → ((x y : Input) → AreAlikeInputs x y → f x ≡ f y) → (xs ys : List Input)
    → AllZip AreAlikeInputs xs ys → filter_map f xs ≡ filter_map f ys
told f same [] [] z = refl
told f same [] (y ∷ ys) z = absurd z
told f same (x ∷ xs) [] z = absurd z
told f same (x ∷ xs) (y ∷ ys) z =
    ap (λ o. cons_option o (filter_map f xs)) (same x y z.0) ∙ ap (λ rest. cons_option (f y) rest) (told f same xs ys z.1)

-- ---- links

-- What two links agree in that differ in alike inputs alone: the arguments, and what is seen of inputs.
pub record Agree (l m : Link) : Type 0 where
  pub executable : l.executable ≡ m.executable
  pub output : l.output ≡ m.output
  pub entry : l.entry ≡ m.entry
  pub install_name : l.install_name ≡ m.install_name
  pub rpaths : l.rpaths ≡ m.rpaths
  pub versions : l.versions ≡ m.versions
  pub dead_strip : l.dead_strip_dylibs ≡ m.dead_strip_dylibs
  pub headerpad : l.headerpad ≡ m.headerpad
  pub lists : l.export_lists ≡ m.export_lists
  pub object : (file : ℕ) → object_of l file ≡ object_of m file
  pub sections : sections_of l ≡ sections_of m
  pub symbols : symbols_of l ≡ symbols_of m
  pub offering : (name : List ℕ) → libraries_with l name ≡ libraries_with m name
  pub library : (file : ℕ) → library_of_input (get_or l.inputs file (Object [])) ≡ library_of_input (get_or m.inputs file (Object []))
  pub names : filter_map library_of_input l.inputs ≡ filter_map library_of_input m.inputs

-- links that are alike agree
pub agree : (l m : Link) → AreAlikeLinks l m → Agree l m
unfolding sections_of symbols_of libraries_with
agree l m alike = record {
  executable = sym (ap (λ (k : Link). k.executable) alike.rest);
  output = sym (ap (λ (k : Link). k.output) alike.rest);
  entry = sym (ap (λ (k : Link). k.entry) alike.rest);
  install_name = sym (ap (λ (k : Link). k.install_name) alike.rest);
  rpaths = sym (ap (λ (k : Link). k.rpaths) alike.rest);
  versions = sym (ap (λ (k : Link). k.versions) alike.rest);
  dead_strip = sym (ap (λ (k : Link). k.dead_strip_dylibs) alike.rest);
  headerpad = sym (ap (λ (k : Link). k.headerpad) alike.rest);
  lists = sym (ap (λ (k : Link). k.export_lists) alike.rest);
  object = at_number object_bytes (Object []) bytes_same l.inputs m.inputs alike.inputs;
  sections = gathered _ (λ n x y s. ap (map _) (numbers_same _ x y s)) l.inputs m.inputs alike.inputs 0;
  symbols = gathered _ (λ n x y s. ap (map _) (numbers_same _ x y s)) l.inputs m.inputs alike.inputs 0;
  offering = λ name. numbered (offers name) (offers_same name) l.inputs m.inputs alike.inputs 0;
  library = at_number library_of_input (Object []) library_same l.inputs m.inputs alike.inputs;
  names = told library_of_input library_same l.inputs m.inputs alike.inputs;
}

-- ---- the other way round

input_turned : (x y : Input) → AreAlikeInputs x y → AreAlikeInputs y x
input_turned x y (inl e) = inl (sym e)
input_turned x y (inr a) =
    inr (record {
      is_library = λ none. a.is_library (a.library ∙ none);
      library = sym a.library;
      offer = λ name. sym (a.offer name);
    })

inputs_turned : (xs ys : List Input) → AllZip AreAlikeInputs xs ys → AllZip AreAlikeInputs ys xs
inputs_turned [] [] z = z
inputs_turned [] (y ∷ ys) z = absurd z
inputs_turned (x ∷ xs) [] z = absurd z
inputs_turned (x ∷ xs) (y ∷ ys) z = (input_turned x y z.0, inputs_turned xs ys z.1)

-- and are alike the other way round
pub turned : (l m : Link) → AreAlikeLinks l m → AreAlikeLinks m l
turned l m a = record {
  inputs = inputs_turned l.inputs m.inputs a.inputs;
  rest = ap (λ (k : Link). record k { inputs = l.inputs }) (sym a.rest);
}
