-- The inspector as a tool.
use Rattle.std.specs.Prelude.{◌≡◌, ℕ, List, [], ◌∷◌, codes, None}
use Rattle.macho_tools.specs.Runs.{Tool}
use Rattle.macho_inspect.specs.Lines.{report_text}
use Rattle.macho_inspect.specs.Reports.{IsReport, IsRefused}
use Rattle.macho_inspect.specs.declared.report.Report.{Report}
use Rattle.macho_inspect.specs.declared.report.InspectFault.{InspectFault}
use Rattle.macho_inspect.specs.declared.report.InspectFault.TheVariants.{Rejected, OutOfMemory}

-- A file is refused for a rule that it breaks, and never for want of memory.
abbrev pub IsRefusedFile : List ℕ → InspectFault → Type 0
IsRefusedFile b (Rejected fault) = IsRefused b (Rejected fault)
IsRefusedFile b OutOfMemory = ⊥

-- THE inspector: its words are one path, and it prints the lines of the report of that file.
abbrev pub inspector : Tool InspectFault
inspector =
    record {
      Job = List ℕ;
      name = codes "macho_inspect";
      Asks = λ words path. words ≡ path ∷ [];
      task = λ path. record { word = 0; path = path; output = None };
      Answers = λ path bytes text. (r : Report) × IsReport bytes r × (text ≡ report_text r);
      Refuses = λ path bytes fault. IsRefusedFile bytes fault;
    }
