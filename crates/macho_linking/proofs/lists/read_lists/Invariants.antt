-- The list is that of the first text and of as many others as were read.
use Rattle.std.proofs.Common.{map, ◌+◌, take}
use Rattle.macho_export_lists.specs.Entries.{IsListOf}
use Rattle.macho_linking.proofs.lists.read_lists.Given as goal

abbrev pub invariant-loop-text : goal.invariant-loop-text
invariant-loop-text l = IsListOf (take (1 + l.text-index) (map (λ text. text.items) l.fn.texts)) l.list
