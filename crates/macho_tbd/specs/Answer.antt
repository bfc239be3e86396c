-- What the writing of a stub answers: a text that stands for the library, or why there is none.
use Rattle.std.specs.Prelude.{◌≡◌, ◌≢◌, ◌⊎◌, ℕ, Option, Result, Ok, Err, List, ◌++◌, None, Some}
use Rattle.std.specs.List.{AllPairs}
use Rattle.macho_model.specs.Grammar.{IsDylib, DylibBreaks}
use Rattle.macho_model.specs.Links.{Input, Dylib, Stub}
use Rattle.macho_model.specs.Resolution.{library_of_input, offers}
use Rattle.macho_promise.specs.Inputs.{IsStubInput}
use Rattle.macho_tbd.specs.declared.fault.TbdFault.{TbdFault}
use Rattle.macho_tbd.specs.declared.fault.TbdFault.TheVariants.{BadDylib, Unwritable, OutOfMemory}
use Rattle.macho_tbd.specs.Offered.{said_of}
use Rattle.macho_tbd.specs.Writable.{unwritable_of}
use Rattle.macho_tbd.specs.Text.{text_of}

-- Two inputs are libraries that are alike: they have one install name, and offer the same names.
pub record AreAlike (x y : Input) : Type 0 where
  pub is_library : library_of_input x ≢ None
  pub library : library_of_input x ≡ library_of_input y
  pub offer : (name : List ℕ) → offers name x ≡ offers name y

-- A text is the stub of a dynamic library: it is the stated one; it is in the grammar of stub texts, keeps its rules, and says the
-- library's install name and, in both lists together, exactly the offered names, each once. So for a link it is like the library.
pub record IsStubOf (b text : List ℕ) : Type 0 where
  pub dylib : IsDylib b
  pub writable : unwritable_of b ≡ None
  pub is : text ≡ text_of (said_of b)
  pub reads : IsStubInput text (said_of b)
  pub once : AllPairs (λ x y. x ≢ y) ((said_of b).names ++ (said_of b).weak_names)
  pub alike : AreAlike (Dylib b) (Stub text (said_of b))

-- A refusal is right: the bytes break that rule of dynamic libraries, at that place; or they are a library, and of its names this is the
-- first that can't be written, or memory ran out. (So bytes that are no library are refused for the rule that they break alone.)
abbrev pub IsRefused : List ℕ → TbdFault → Type 0
IsRefused b (BadDylib fault) = DylibBreaks b fault.rule fault.place
IsRefused b (Unwritable symbol) = IsDylib b × (unwritable_of b ≡ Some symbol)
IsRefused b OutOfMemory = IsDylib b

-- What is answered where a name of a library can't be written, the first of this symbol: that, unless memory runs out.
abbrev pub TellsUnwritable : {T : Type 0} → Option ℕ → Result T TbdFault → Type 0
TellsUnwritable symbol (Ok text) = ⊥
TellsUnwritable symbol (Err fault) = (fault ≡ Unwritable symbol) ⊎ (fault ≡ OutOfMemory)
