-- The names without a place of their own: what holds before name k is that those of the first k were added.
use Rattle.std.proofs.Common.{◌≡◌, ◌++◌, take, filter}
use Rattle.macho_layout.specs.Names.{is_other}
use Rattle.macho_layout.proofs.names.push_others.Given as goal

abbrev pub invariant-loop-name : goal.invariant-loop-name
invariant-loop-name l = l.names.items ≡ l.initial.names.items ++ filter is_other (take l.name-index l.segments)
