-- Reading the lines of a text one after the other, as a loop does: line i, if there is one, stands at the
-- front of what is left behind i lines, so the reading of what is left begins with a step over it.
-- The loop's invariant says that the reading of what is left, from the state so far, gives the whole. A step that gives a
-- state leaves the rest of the lines to it (`one_line_more`); one that fails is the whole (`fault_at_line`); and where no
-- line is left, the end of the text is (`no_line_more`).
use Rattle.std.proofs.Common.{◌≡◌, ℕ, ◌+◌, ◌<◌, ◌≤◌, List, length, get_or, drop, Ok, sym, ap, ◌∙◌}
use Rattle.std.proofs.lemmas.List.{at_drop_more, at_drop_all}
use Rattle.macho_stub_lines.specs.declared.fault.StubFault.{StubFault}
use Rattle.macho_stub_lines.specs.declared.fault.StubFault.TheVariants.{Rule, OutOfMemory}
use Rattle.macho_stub_lines.specs.Faults.{Reading, ◌>>=◌, Fails}
use Rattle.macho_stub.specs.Documents.{DocumentFields}
use Rattle.macho_stub.specs.steps.Reader.{StateFields, line_step, lines_from, ended}

-- a step over the line at i
one_step : (state : StateFields) (all : List (List ℕ)) (i : ℕ) (text : List ℕ) → i < length all → text ≡ get_or all i text
    → lines_from state (i + 1) (drop i all) ≡ (line_step state (i + 1) text >>= λ next. lines_from next (i + 1 + 1) (drop (i + 1) all))
unfolding lines_from
one_step state all i text lt is = at_drop_more (lines_from state (i + 1)) all i text lt
    ∙ ap (λ t. line_step state (i + 1) t >>= λ next. lines_from next (i + 1 + 1) (drop (i + 1) all)) (sym is)

-- behind a line that is read, the lines that are left give the whole from where it leads
pub one_line_more : (state next : StateFields) (all : List (List ℕ)) (i : ℕ) (text : List ℕ) (total : Reading (List DocumentFields))
    → (i < length all) × (text ≡ get_or all i text)
    → line_step state (i + 1) text ≡ Ok next → lines_from state (i + 1) (drop i all) ≡ total
    → lines_from next (i + 1 + 1) (drop (i + 1) all) ≡ total
one_line_more state next all i text total at h so_far =
    sym (ap (λ reading. reading >>= λ n. lines_from n (i + 1 + 1) (drop (i + 1) all)) h) ∙ sym (one_step state all i text at.0 at.1)
    ∙ so_far

-- where a line is refused, the whole is
pub fault_at_line : (e : StubFault) (state : StateFields) (all : List (List ℕ)) (i : ℕ) (text : List ℕ)
    (total : Reading (List DocumentFields)) → (i < length all) × (text ≡ get_or all i text)
    → Fails e (line_step state (i + 1) text) → lines_from state (i + 1) (drop i all) ≡ total → Fails e total
fault_at_line OutOfMemory state all i text total at h so_far = tt
fault_at_line (Rule line rule) state all i text total at h so_far =
    sym so_far ∙ one_step state all i text at.0 at.1 ∙ ap (λ reading. reading >>= λ n. lines_from n (i + 1 + 1) (drop (i + 1) all)) h

-- behind the last line, the end of the text gives the whole
pub no_line_more : (state : StateFields) (all : List (List ℕ)) (i : ℕ) (total : Reading (List DocumentFields)) → length all ≤ i
    → lines_from state (i + 1) (drop i all) ≡ total → ended state.documents state.place ≡ total
unfolding lines_from
no_line_more state all i total past so_far = sym (at_drop_all (lines_from state (i + 1)) all i past) ∙ so_far
