-- A text stub and the library that its documents make: the one says what the other does, which has a current version, too.
use Rattle.std.proofs.Common.{◌≡◌, ℕ, List, ◌∷◌, refl, sym}
use Rattle.std.specs.Str.{IsUtf8}
use Rattle.macho_stub.specs.Answer.{IsStub}
use Rattle.macho_stub.specs.Library.{LibraryFields, gathered}
use Rattle.macho_model.specs.Links.{StubReading}
use Rattle.macho_promise.specs.Inputs.{IsStubInput}

-- what a link holds of a library
abbrev pub reading_of : LibraryFields → StubReading
reading_of library = record { install_name = library.install_name; names = library.symbols; weak_names = library.weak_symbols }

-- The text makes a library that says this.
pub record IsLibrary (text : List ℕ) (says : StubReading) : Type 0 where
  pub library : LibraryFields
  pub in_grammar : IsStub text library
  pub is : says ≡ reading_of library

made : (says : StubReading) {name : List ℕ} {names weak_names : List (List ℕ)} → says.install_name ≡ name → says.names ≡ names
    → says.weak_names ≡ weak_names → says ≡ record { install_name = name; names = names; weak_names = weak_names }
made says p q r = rw (sym p, sym q, sym r) refl

-- a stub makes one
pub library_of : (text : List ℕ) (says : StubReading) → IsStubInput text says → IsLibrary text says
library_of text says s = record {
  library = record {
    install_name = s.main.install_name;
    current_version = s.main.current_version;
    symbols = gathered (λ item. item.names) (s.main ∷ s.others);
    weak_symbols = gathered (λ item. item.weak_names) (s.main ∷ s.others);
  };
  in_grammar = record {
    main = s.main;
    others = s.others;
    in_grammar = s.in_grammar;
    sound = s.sound;
    install_name = refl;
    current_version = refl;
    symbols = refl;
    weak_symbols = refl;
  };
  is = made says s.install_name s.names s.weak_names;
}

-- and what makes a library is a stub
pub stub_of : (text : List ℕ) (library : LibraryFields) → IsUtf8 text → IsStub text library → IsStubInput text (reading_of library)
stub_of text library utf8 stub = record {
  utf8 = utf8;
  main = stub.main;
  others = stub.others;
  in_grammar = stub.in_grammar;
  sound = stub.sound;
  install_name = stub.install_name;
  names = stub.symbols;
  weak_names = stub.weak_symbols;
}
