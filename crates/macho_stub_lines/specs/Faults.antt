-- Reading that may meet a fault.
use Rattle.std.specs.Prelude.{◌≡◌, ℕ, Result, Ok, Err}
use Rattle.macho_stub_lines.specs.declared.fault.StubRule.{StubRule}
use Rattle.macho_stub_lines.specs.declared.fault.StubRule.TheVariants.{S1}
use Rattle.macho_stub_lines.specs.declared.fault.StubFault.{StubFault}
use Rattle.macho_stub_lines.specs.declared.fault.StubFault.TheVariants.{Rule, OutOfMemory}

-- a rule that is broken, and at which line
pub record Fault : Type 0 where
  pub line : ℕ
  pub rule : StubRule

-- what is read, or the first fault
abbrev pub Reading : Type 0 → Type 0
Reading A = Result A Fault

infixl 10 ◌>>=◌
abbrev pub ◌>>=◌ : {A B : Type 0} → Reading A → (A → Reading B) → Reading B
(Ok x) >>= f = f x
(Err e) >>= f = Err e

-- the rule is broken at the line
abbrev pub broken : {A : Type 0} → ℕ → StubRule → Reading A
broken line rule = Err (record { line = line; rule = rule })

-- the line is outside the grammar
abbrev pub outside : {A : Type 0} → ℕ → Reading A
outside line = broken line S1

-- the fault is the one that is told, unless memory ran out
abbrev pub Fails : {A : Type 0} → StubFault → Reading A → Type 0
Fails (Rule line rule) reading = reading ≡ broken line rule
Fails OutOfMemory reading = Unit {0}

-- what a function returned, seen by a view, is what is read, unless memory ran out
abbrev pub Gives : {X A : Type 0} → (X → A) → Result X StubFault → Reading A → Type 0
Gives view (Ok x) reading = reading ≡ Ok (view x)
Gives view (Err e) reading = Fails e reading
