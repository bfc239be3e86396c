-- The commands of a file by their number, and what the file says of them.
--
-- The walk over the heads meets each command with the number and the size that the bytes say. So choosing the commands
-- of a number and reading each, and reading all and choosing by the number that each says, give the same list.
use Rattle.std.proofs.Common.{◌≡◌, ℕ, zero, suc, ◌+◌, ◌≤◌, ◌==◌, Bool, true, false, List, [], ◌∷◌, map, refl, ap, subst, ◌∙◌, arith, All}
use Rattle.std.specs.Prelude.{filter, sum_by}
use Rattle.std.proofs.lemmas.Bool.{eqb-true}
use Rattle.std.proofs.lemmas.List.{get_or-map, length-map}
use Rattle.std.proofs.lemmas.List.Elements.{All-cons, All-nil}
use Rattle.std.proofs.lemmas.List.Sums.{sum_by-cons}
use Rattle.macho_bytes.specs.Layouts.{reading}
use Rattle.macho_records.specs.Layouts.{load_command}
use Rattle.macho_model.specs.Commands.{Command, commands_from, commands_of, header_of, numbered}
use Rattle.macho_model.specs.HeadCommands.{HeadCommand, command_in, commands_in, size_said}
use Rattle.macho_commands.specs.Texts.{number_said}
use Rattle.macho_commands.proofs.Shapes.{IsRead, shape, number_said-is, size_said-is}

-- each command of a walk is read
abbrev pub AllRead : List ℕ → List Command → Type 0
AllRead b [] = Unit {0}
AllRead b (c ∷ cs) = IsRead b c × AllRead b cs

walk-read : (b : List ℕ) (at n : ℕ) → AllRead b (commands_from b at n)
unfolding commands_from
walk-read b at zero = tt
walk-read b at (suc n) = (record { number = refl; size = refl }, walk-read b (at + (reading load_command b at).cmdsize) n)

pub commands-read : (b : List ℕ) → AllRead b (commands_of b)
unfolding commands_of
commands-read b = walk-read b _ _

-- chosen by number, then read, or read, then chosen
pub chosen : {X : Type 0} (n : ℕ) (f : Command → X) (g : HeadCommand → X) (b : List ℕ) (cs : List Command) → AllRead b cs
    → ((c : Command) → c.number ≡ n → f c ≡ g (command_in b c))
    → map f (filter (λ c. c.number == n) cs) ≡ map g (filter (λ h. number_said h == n) (map (command_in b) cs))
chosen n f g b [] read same = refl
chosen {X = X} n f g b (c ∷ cs) read same = by (chosen n f g b cs read.1 same) (c.number == n) refl
  where
    told : number_said (command_in b c) ≡ c.number
    told = number_said-is b c read.0 (shape b c)

    by : map f (filter (λ d. d.number == n) cs) ≡ map g (filter (λ h. number_said h == n) (map (command_in b) cs)) → (x : Bool)
        → (c.number == n) ≡ x
        → map f (filter (λ d. d.number == n) (c ∷ cs)) ≡ map g (filter (λ h. number_said h == n) (map (command_in b) (c ∷ cs)))
    by rest true e =
        rw (told, e) (ap (λ (x : X). x ∷ map f (filter (λ d. d.number == n) cs)) (same c (eqb-true c.number n e))
        ∙ ap (λ (xs : List X). g (command_in b c) ∷ xs) rest)
    by rest false e = rw (told, e) rest

-- the commands of a number, chosen among what the file says
abbrev pub said_with : ℕ → List HeadCommand → List HeadCommand
said_with n hs = filter (λ h. number_said h == n) hs

pub chosen_in : {X : Type 0} (n : ℕ) (f : Command → X) (g : HeadCommand → X) (b : List ℕ)
    → ((c : Command) → c.number ≡ n → f c ≡ g (command_in b c))
    → map f (numbered n b) ≡ map g (said_with n (commands_in b))
unfolding commands_in
chosen_in n f g b same = chosen n f g b (commands_of b) (commands-read b) same

-- the commands' sizes, added up
sizes-said : (b : List ℕ) (cs : List Command) → AllRead b cs → sum_by (λ c. c.size) cs ≡ sum_by size_said (map (command_in b) cs)
sizes-said b [] read = refl
sizes-said b (c ∷ cs) read =
    omega (
      arith,
      size_said-is b c read.0 (shape b c),
      sizes-said b cs read.1,
      sum_by-cons (λ (d : Command). d.size) c cs,
      sum_by-cons size_said (command_in b c) (map (command_in b) cs),
    )

pub sizes-in : (b : List ℕ) → sum_by (λ c. c.size) (commands_of b) ≡ sum_by size_said (commands_in b)
unfolding commands_in
sizes-in b = sizes-said b (commands_of b) (commands-read b)

-- each command ends where all do or before
walk-ends : (b : List ℕ) (at n end : ℕ) → at + sum_by (λ c. c.size) (commands_from b at n) ≤ end
    → All (λ c. c.at + c.size ≤ end) (commands_from b at n)
unfolding commands_from
walk-ends b at zero end inside = All-nil (λ c. c.at + c.size ≤ end)
walk-ends b at (suc n) end inside =
    let next : ℕ = at + (reading load_command b at).cmdsize in
    let first : Command = record { at = at; number = (reading load_command b at).cmd; size = (reading load_command b at).cmdsize } in
    let all : sum_by (λ (c : Command). c.size) (first ∷ commands_from b next n) ≡ first.size + sum_by (λ (c : Command). c.size)
    (commands_from b next n) =
    sum_by-cons (λ (c : Command). c.size) first (commands_from b next n) in
    let behind : at + (first.size + sum_by (λ (c : Command). c.size) (commands_from b next n)) ≤ end =
    subst (λ (k : ℕ). at + k ≤ end) all inside in
    All-cons (λ c. c.at + c.size ≤ end) first (commands_from b next n) (omega (arith, behind))
    (walk-ends b next n end (omega (arith, behind)))

pub commands-end : (b : List ℕ) (end : ℕ) → 32 + sum_by (λ c. c.size) (commands_of b) ≤ end → All (λ c. c.at + c.size ≤ end) (commands_of b)
unfolding commands_of
commands-end b end inside = walk-ends b 32 (header_of b).ncmds end inside

-- what holds of each command that is said holds of each command, with what it says
pub each_said : (b : List ℕ) (P : HeadCommand → Type 0) (cs : List Command) → All P (map (command_in b) cs)
    → All (λ c. P (command_in b c)) cs
each_said b P cs each =
    λ k d lt. subst P (get_or-map (command_in b) cs k d (command_in b d) lt) (each k (command_in b d)
    (omega (arith, length-map cs (command_in b))))
