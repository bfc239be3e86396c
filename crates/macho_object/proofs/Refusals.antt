-- A file that breaks a rule at some place is none that keeps every rule.
use Rattle.std.proofs.Common.{ℕ, Bool, true, false, List}
use Rattle.macho_model.specs.declared.rules.ObjectRule.{ObjectRule}
use Rattle.macho_model.specs.Grammar.{IsFile, Breaks}

-- a file of either kind
pub no_file : (dyn : Bool) (b : List ℕ) (rule : ObjectRule) (place : ℕ) → Breaks dyn b rule place → IsFile dyn b → ⊥
no_file false b rule place h o = o.unbroken rule place h
no_file true b rule place h o = o.unbroken rule place h
