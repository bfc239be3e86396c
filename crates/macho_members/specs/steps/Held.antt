-- What a set of members holds, how it grows, and which names are looked up first.
use Rattle.std.specs.Prelude.{◌≡◌, ℕ, ◌+◌, ◌⊎◌, List, [], Bool, true, false, ◌&&◌, ◌==◌, length}
use Rattle.std.specs.List.{flat_map, list_any, IsDistinct}
use Rattle.std.specs.Borrow.{Bor}
use Rattle.macho_members.specs.declared.inputs.MemberPlace.{MemberPlace}
use Rattle.macho_members.specs.declared.inputs.Asked.{Asked}
use Rattle.macho_members.specs.declared.inputs.Asked.TheVariants.{Object, Library, Archive}
use Rattle.macho_members.specs.Views.{texts}

-- two places are one
abbrev pub place_eq : MemberPlace → MemberPlace → Bool
place_eq p q = (p.archive == q.archive) && (p.member == q.member)

-- whether a member is among others
abbrev pub held : List MemberPlace → ℕ → ℕ → Bool
held keys i m = list_any (place_eq (record { archive = i; member = m })) keys

-- one more member, or all as before
abbrev pub IsGrown : List MemberPlace → List MemberPlace → List (Bor (List ℕ)) → List (Bor (List ℕ)) → Type 0
IsGrown old new names rest = ((length new ≡ length old + 1) × IsDistinct place_eq new) ⊎ ((new ≡ old) × (rest ≡ names))

-- the names that an input brings up, whatever others use: those of an object, and of the members of a whole archive
abbrev pub starts_in : Asked → List (List ℕ)
starts_in (Object names) = texts names.used.now
starts_in (Library _) = []
starts_in (Archive true members) = flat_map (λ m. texts m.used.now) members.now
starts_in (Archive false _) = []
