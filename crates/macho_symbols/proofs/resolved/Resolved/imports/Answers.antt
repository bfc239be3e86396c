use Rattle.std.proofs.Common.{subst, sym, refl}
use Rattle.macho_symbols.specs.Kept.{IsResolved}
use Rattle.macho_symbols.proofs.UsesHere.{imports_here}
use Rattle.macho_symbols.proofs.resolved.Resolved.imports.Goals as goal

pub returns : goal.returns
returns c l noted is =
    rw c.deref.ensures.value (imports_here l noted _ _ (subst (IsResolved l noted) (sym c.self.view_is) is) refl c.self.invariant.libraries)
