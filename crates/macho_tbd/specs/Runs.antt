-- The stub generator as a tool.
use Rattle.std.specs.Prelude.{◌≡◌, ℕ, List, [], ◌∷◌, codes, Some}
use Rattle.macho_tools.specs.Runs.{Tool}
use Rattle.macho_tbd.specs.Answer.{IsStubOf, IsRefused}
use Rattle.macho_tbd.specs.declared.fault.TbdFault.{TbdFault}
use Rattle.macho_tbd.specs.declared.fault.TbdFault.TheVariants.{OutOfMemory}

-- A file is refused for a rule that it breaks, or for a name that can't be written, and never for want of memory.
abbrev pub IsRefusedFile : List ℕ → TbdFault → Type 0
IsRefusedFile b OutOfMemory = ⊥
IsRefusedFile b fault = IsRefused b fault

-- a library's path, and the path that its stub is written to
pub record Paths : Type 0 where
  pub library : List ℕ
  pub stub : List ℕ

-- THE stub generator: its words are two paths, and it writes the stub of the library under the first one to the second one.
abbrev pub stub_generator : Tool TbdFault
stub_generator =
    record {
      Job = Paths;
      name = codes "macho_tbd";
      Asks = λ words paths. words ≡ paths.library ∷ paths.stub ∷ [];
      task = λ paths. record { word = 0; path = paths.library; output = Some paths.stub };
      Answers = λ paths bytes text. IsStubOf bytes text;
      Refuses = λ paths bytes fault. IsRefusedFile bytes fault;
    }
