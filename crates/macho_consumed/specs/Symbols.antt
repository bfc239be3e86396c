-- A row's symbol is one of those that are resolved: what a caller owes of rows that it was handed.
use Rattle.std.specs.Prelude.{IfSome}
use Rattle.macho_symbols.specs.Kept.{ResolvedRows, HasSymbol}
use Rattle.macho_consumed.specs.declared.rows.Initializer.{Initializer}
use Rattle.macho_consumed.specs.declared.rows.UnwindEntry.{UnwindEntry}

abbrev pub HasPointer : ResolvedRows → Initializer → Type 0
HasPointer r row = HasSymbol r row.file row.relocation.r_symbolnum

abbrev pub HasPersonality : ResolvedRows → UnwindEntry → Type 0
HasPersonality r e = IfSome e.personality (λ p. HasSymbol r e.file p.relocation.r_symbolnum)
