-- The bytes of the section of entries.
--
-- There are as many as the section has, and its text was put at 0. A text that is put over a list of its own length is all of
-- it. So the bytes are the section's, of which the clauses were told when it was made.
use Rattle.std.proofs.Common.{◌≡◌, ℕ, ◌++◌, List, length, take, drop, sym, subst, ◌∙◌, ap, arith}
use Rattle.macho_unwind.specs.Entries.{FindsEntries, FindsOnlyEntries, IsSectionOf}
use Rattle.macho_unwind.proofs.Joining.{written_back}
use Rattle.macho_unwind.proofs.section.build.Goals as goal
use Rattle.macho_bytes.proofs.Puts.{put_all}

-- the bytes that are answered
abbrev bytes_of : goal.Joined-section-2 → List ℕ
bytes_of c = take c.in_ok-bytes.bytes.len (c.write.new.out ++ drop (length c.write.new.out) c.in_ok-bytes.bytes.items)

-- they are the section
are : (c : goal.Joined-section-2) → bytes_of c ≡ c.in_ok-section.section
are c =
    let text = c.in_ok-section.section in
    let size = c.size.ensures in
    let len = c.in_ok-bytes.ensures.len in
    let whole : length text ≡ length c.deref_mut.result.now = omega (arith, size, len, c.deref_mut.ensures.len) in
    let kept = ap (λ (t : List ℕ). length t) c.deref_mut.ensures.value in
    written_back text c.in_ok-bytes.bytes.items c.write.new.out c.in_ok-bytes.bytes.len
    (c.write.ensures ∙ put_all text c.deref_mut.result.now whole)
    (omega (arith, whole, kept)) (omega (arith, kept, c.deref_mut.ensures.len))

pub returns-clause-found : goal.returns-clause-found
returns-clause-found c =
    subst (FindsEntries c.args.text_start c.args.entries.now) (sym (are c)) c.in_ok-section.ensures.found

pub returns-clause-only : goal.returns-clause-only
returns-clause-only c some =
    subst (FindsOnlyEntries c.args.text_start c.args.entries.now) (sym (are c)) (c.in_ok-section.ensures.only some)

pub returns-clause-done : goal.returns-clause-done
returns-clause-done c some =
    subst (IsSectionOf c.args.text_start c.args.entries.now) (sym (are c)) (c.in_ok-section.ensures.done some)
