-- Small links, computed. Names are single bytes: 97 is `a`, 98 is `b`, 99 is `c`. Which input decides a name, and which of its members, is
-- looked up; a member is linked where a rule gives it. Both archives below define `b`: the first one decides it, also where the other
-- is linked for `a` and defines `b` beside it. A library in front of an archive decides the names that it offers, and a name that the
-- object defines brings no member. Of two members that define a name the first one is brought.
use Rattle.std.proofs.Common.{◌≡◌, ℕ, List, [], ◌∷◌, true, false, refl, arith}
use Rattle.macho_members.specs.Inputs.{Names, Input, members_at, whole_at}
use Rattle.macho_members.specs.Inputs as asked
use Rattle.macho_members.specs.Needs.{is_settled, decider_of, Brings, IsNeeded}
use Rattle.macho_members.specs.Needs as needs

-- names of one byte
abbrev a : List ℕ
a = 97 ∷ []

abbrev b : List ℕ
b = 98 ∷ []

abbrev c : List ℕ
c = 99 ∷ []

abbrev of : List (List ℕ) → List (List ℕ) → Names
of used defined = record { used = used; defined = defined }

-- an object that uses `a` and `b`, an archive that defines `b`, and one that defines both
abbrev both : List Input
both =
    asked.Input.object (of (a ∷ b ∷ []) (c ∷ []))
    ∷ asked.Input.archive false (of (c ∷ []) (b ∷ []) ∷ [])
    ∷ asked.Input.archive false (of [] [] ∷ of [] (b ∷ a ∷ []) ∷ of [] (a ∷ []) ∷ [])
    ∷ []

pub the_later_archive_decides_a : decider_of both a ≡ 2
unfolding decider_of
the_later_archive_decides_a = refl

pub the_first_archive_decides_b : decider_of both b ≡ 1
unfolding decider_of
the_first_archive_decides_b = refl

pub a_name_of_the_object_is_settled : is_settled both c ≡ true
unfolding is_settled
a_name_of_the_object_is_settled = refl

pub a_brings_the_second_member : Brings both a 2 1
unfolding decider_of is_settled
a_brings_the_second_member = record { free = refl; decides = refl; first = refl; inside = omega arith }

pub b_brings_that_of_the_first : Brings both b 1 0
unfolding decider_of is_settled
b_brings_that_of_the_first = record { free = refl; decides = refl; first = refl; inside = omega arith }

pub both_are_linked_for_b : IsNeeded both 1 0
both_are_linked_for_b =
    needs.IsNeeded.by_object 1 0 b (of (a ∷ b ∷ []) (c ∷ []), (0, omega arith, refl), (1, omega arith, refl)) b_brings_that_of_the_first

-- a library in front decides what it offers
abbrev library_first : List Input
library_first =
    asked.Input.object (of (a ∷ []) []) ∷ asked.Input.library (a ∷ []) ∷ asked.Input.archive false (of [] (a ∷ []) ∷ []) ∷ []

pub the_library_decides : decider_of library_first a ≡ 1
unfolding decider_of
the_library_decides = refl

pub a_library_has_no_members : members_at library_first 1 ≡ []
a_library_has_no_members = refl

-- a whole archive settles what its members define
abbrev whole_archive : List Input
whole_archive =
    asked.Input.archive false (of [] (b ∷ []) ∷ []) ∷ asked.Input.archive true (of (b ∷ []) [] ∷ of [] (b ∷ []) ∷ []) ∷ []

pub a_whole_archive_settles : is_settled whole_archive b ≡ true
unfolding is_settled
a_whole_archive_settles = refl

pub its_members_are_linked : IsNeeded whole_archive 1 1
its_members_are_linked = needs.IsNeeded.whole 1 1 (omega arith)
