use Rattle.macho_commands.proofs.Texts.{HeadersSoFar}
use Rattle.macho_commands.proofs.segment.write_headers.Given as goal

-- the headers so far are put
abbrev pub invariant-loop-header : goal.invariant-loop-header
invariant-loop-header l = HeadersSoFar l.at l.place l.header-index l.headers l.initial.out l.out
