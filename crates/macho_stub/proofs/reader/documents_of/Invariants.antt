use Rattle.std.proofs.Common.{◌≡◌, ◌≤◌, ◌+◌, length, drop}
use Rattle.std.specs.Str.Lines.{lines}
use Rattle.macho_stub.specs.steps.Reader.{state_of, start, lines_from}
use Rattle.macho_stub.proofs.reader.documents_of.Given as goal

-- the reading of the lines that are left is the reading of all
abbrev pub invariant-loop-line : goal.invariant-loop-line
invariant-loop-line l = record {
  can_next : (goal.iterator-loop-line).can_next l.line-iterator;
  is_finite : (goal.iterator-loop-line).is_finite l.line-iterator;
  counted : l.number + (goal.iterator-loop-line).remaining l.line-iterator ≤ (goal.iterator-loop-line).remaining l.initial.line-iterator;
  number : l.number ≡ length l.yielded;
  so_far : lines_from (state_of l.state) (l.number + 1) (drop l.number (lines l.text)) ≡ lines_from start 1 (lines l.text);
}
