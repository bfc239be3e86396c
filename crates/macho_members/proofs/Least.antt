-- The members that are linked are the least set with its rules. Say a set keeps the rules. A member is linked by one of three rules. If
-- its archive is whole or an object uses a name that brings it, the set has it at once. If a linked member uses such a name, the set has
-- that member by the same argument, which goes along the steps by which the member came to be linked, so that it ends; and then the third
-- rule puts this member into the set.
-- A name brings one member: the archive is the first that offers the name, and the member the first there that defines it.
use Rattle.std.proofs.Common.{◌≡◌, ℕ, List, Bool, true, sym, ap, ◌∙◌}
use Rattle.std.specs.List.{position_or_len}
use Rattle.macho_members.specs.Inputs.{Input, defines, members_at}
use Rattle.macho_members.specs.Needs.{Brings, IsNeeded}
use Rattle.macho_members.specs.Needs as needs
use Rattle.macho_members.specs.Laws.{IsClosed}

-- a set that keeps the rules has all that are linked
pub least : (inputs : List Input) (set : ℕ → ℕ → Bool) → IsClosed inputs set → (i m : ℕ) → IsNeeded inputs i m → set i m ≡ true
least inputs set closed _ _ (needs.IsNeeded.whole i m inside) = closed.whole i m inside
least inputs set closed _ _ (needs.IsNeeded.by_object i m name uses brings) = closed.by_object i m name uses brings
least inputs set closed _ _ (needs.IsNeeded.by_member i m j n name needed uses brings) =
    closed.by_member i m j n name (least inputs set closed j n needed) uses brings

-- a name brings one member at most
pub one_member : (inputs : List Input) (name : List ℕ) (i m j n : ℕ) → Brings inputs name i m → Brings inputs name j n → (i ≡ j) × (m ≡ n)
one_member inputs name i m j n a b =
    let same : i ≡ j = a.decides ∙ sym b.decides in
    (same, a.first ∙ ap (λ k. position_or_len (defines name) (members_at inputs k)) same ∙ sym b.first)
