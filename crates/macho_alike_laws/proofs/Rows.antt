-- A library and its stub, as inputs of links that are alike; stubs that say the same in other ways; and libraries that aren't alike. By
-- computing, over the small library of the rows of stub texts.
use Rattle.std.proofs.Common.{◌≡◌, ◌||◌, ℕ, Bool, true, false, List, [], ◌∷◌, length, None, refl, sym, ap, subst, ◌∙◌, inl, inr, arith}
use Rattle.std.specs.Prelude.{codes}
use Rattle.std.specs.Str.{bytes_eq}
use Rattle.macho_model.specs.Links.{Link, Input, Object, Dylib, Stub, StubReading}
use Rattle.macho_tbd.specs.Answer.{AreAlike}
use Rattle.macho_tbd.specs.Offered.{said_of}
use Rattle.macho_tbd.proofs.Alike.{alike}
use Rattle.macho_tbd.proofs.Rows.{two, two_said, two_says}
use Rattle.macho_alike_laws.specs.Links.{AreAlikeInputs, AreAlikeLinks}

-- an executable of an object and a library
unfoldable pub with_library : Input → Link
with_library x = record {
  executable = true;
  output = codes "a.out";
  entry = codes "_main";
  install_name = codes "a.out";
  rpaths = [];
  versions = None;
  dead_strip_dylibs = false;
  headerpad = false;
  inputs = Object [] ∷ x ∷ Object [] ∷ [];
  export_lists = [];
}

-- the library `/usr/lib/libq.dylib` that offers `_a` and a weak `_b`, and its stub
pub library_and_stub : (text : List ℕ) → AreAlikeLinks (with_library (Dylib two)) (with_library (Stub text two_said))
unfolding with_library
library_and_stub text = record {
  inputs = (inl refl, (inr (subst (λ (s : StubReading). AreAlike (Dylib two) (Stub text s)) two_says.0 (alike two text)), (inl refl, tt)));
  rest = refl;
}

either : (s t : Bool) → (s || false) || (t || false) ≡ (t || false) || (t || (s || false))
either true true = refl
either true false = refl
either false true = refl
either false false = refl

-- it doesn't count in which order a stub says names, how often, and which are weak
pub said_in_other_ways : (text other name a b : List ℕ)
    → AreAlikeInputs (Stub text (record { install_name = name; names = a ∷ []; weak_names = b ∷ [] }))
    (Stub other (record { install_name = name; names = b ∷ []; weak_names = b ∷ a ∷ [] }))
said_in_other_ways text other name a b =
    inr (record {
      is_library = λ e. absurd cc;
      library = refl;
      offer = λ n. either (bytes_eq a n) (bytes_eq b n);
    })

-- a stub of another install name isn't like the library
pub another_name : (text : List ℕ)
    → AreAlikeInputs (Dylib two) (Stub text (record two_said { install_name = codes "/usr/lib/libqq.dylib" })) → ⊥
unfolding said_of
another_name text (inl e) = absurd cc
another_name text (inr a) =
    let name : codes "/usr/lib/libq.dylib" ≡ codes "/usr/lib/libqq.dylib"
    = cc (ap (λ (s : StubReading). s.install_name) two_says.0, a.library) in
    absurd (omega (arith, ap length name))

-- nor is one that offers another name, too
pub more_names : (text : List ℕ)
    → AreAlikeInputs (Dylib two) (Stub text (record two_said { names = codes "_a" ∷ codes "_c" ∷ [] })) → ⊥
more_names text (inl e) = absurd cc
more_names text (inr a) =
    let as_stub : AreAlike (Dylib two) (Stub text two_said)
    = subst (λ (s : StubReading). AreAlike (Dylib two) (Stub text s)) two_says.0 (alike two text) in
    let same : false ≡ true = sym (as_stub.offer (codes "_c")) ∙ a.offer (codes "_c") in
    absurd cc
