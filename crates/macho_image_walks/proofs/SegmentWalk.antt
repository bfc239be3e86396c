-- A walk over the load commands stands at each of them in turn.
--
-- The walk stands at the place where command i begins: what is left of the list is what the bytes say from there on. The
-- first of what is left is the command at the place, and the next one begins where it ends. So each command of the list
-- is what the bytes say at its place.
use Rattle.std.proofs.Common.{◌≡◌, ℕ, zero, suc, ◌+◌, ◌-◌, ◌<◌, List, ◌∷◌, length, get_or, drop, refl, sym, ap, ◌∙◌, arith}
use Rattle.std.proofs.lemmas.List.{get_or-drop, drop-drop}
use Rattle.macho_bytes.specs.Layouts.{reading, size_of}
use Rattle.macho_records.specs.Layouts.{mach_header, load_command}
use Rattle.macho_model.specs.Commands.{Command, command_at, header_of, commands_from, commands_of}

-- the number of commands
length-commands_from : (b : List ℕ) (at n : ℕ) → length (commands_from b at n) ≡ n
unfolding commands_from
length-commands_from b at zero = refl
length-commands_from b at (suc n) = ap suc (length-commands_from b (at + (reading load_command b at).cmdsize) n)

pub length-commands : (b : List ℕ) → length (commands_of b) ≡ (header_of b).ncmds
unfolding commands_of
length-commands b = length-commands_from b (size_of mach_header) (header_of b).ncmds

-- where the walk stands: what is left of the list is what the bytes say from the place on
abbrev pub StandsAt : List ℕ → ℕ → ℕ → Type 0
StandsAt b i place = drop i (commands_of b) ≡ commands_from b place ((header_of b).ncmds - i)

pub walk_begins : (b : List ℕ) → StandsAt b 0 (size_of mach_header)
unfolding commands_of
walk_begins b = ap (λ k. commands_from b (size_of mach_header) k) (omega arith)

-- the commands from a place on, where there is one
from_one : (b : List ℕ) (place n m : ℕ) → n ≡ suc m
    → commands_from b place n ≡ command_at b place ∷ commands_from b (place + (command_at b place).size) m
unfolding commands_from
from_one b place n m is = rw is refl

-- command i stands at the place
pub command_here : (b : List ℕ) (i place : ℕ) (d : Command) → i < (header_of b).ncmds → StandsAt b i place
    → get_or (commands_of b) i d ≡ command_at b place
command_here b i place d within stands =
    let same : (header_of b).ncmds - i ≡ suc ((header_of b).ncmds - i - 1) = omega (arith, within) in
    let first = stands ∙ from_one b place ((header_of b).ncmds - i) ((header_of b).ncmds - i - 1) same in
    let at_i : get_or (drop i (commands_of b)) 0 d ≡ get_or (commands_of b) (i + 0) d = get_or-drop i (commands_of b) 0 d in
    let place_i : i + 0 ≡ i = omega arith in
    sym (ap (λ k. get_or (commands_of b) k d) place_i) ∙ sym at_i ∙ ap (λ xs. get_or xs 0 d) first

-- the next place
pub walk_goes_on : (b : List ℕ) (i place : ℕ) → i < (header_of b).ncmds → StandsAt b i place
    → StandsAt b (i + 1) (place + (command_at b place).size)
walk_goes_on b i place within stands =
    let same : (header_of b).ncmds - i ≡ suc ((header_of b).ncmds - i - 1) = omega (arith, within) in
    let first = stands ∙ from_one b place ((header_of b).ncmds - i) ((header_of b).ncmds - i - 1) same in
    let less : (header_of b).ncmds - i - 1 ≡ (header_of b).ncmds - (i + 1) = omega (arith, within) in
    let one : drop 1 (drop i (commands_of b)) ≡ drop (i + 1) (commands_of b) = drop-drop 1 i (commands_of b) ∙ ap
    (λ k. drop k (commands_of b)) (omega arith) in
    sym one ∙ ap (λ xs. drop 1 xs) first ∙ ap (λ k. commands_from b (place + (command_at b place).size) k) less

-- a command of the list is what stands at its place
commands_stand : (b : List ℕ) (at n k : ℕ) (d : Command) → k < n
    → get_or (commands_from b at n) k d ≡ command_at b (get_or (commands_from b at n) k d).at
unfolding commands_from
commands_stand b at zero k d within = absurd (omega (arith, within))
commands_stand b at (suc n) zero d within = refl
commands_stand b at (suc n) (suc k) d within = commands_stand b (at + (reading load_command b at).cmdsize) n k d (omega (arith, within))

pub at_its_place : (b : List ℕ) (k : ℕ) (d : Command) → k < length (commands_of b)
    → get_or (commands_of b) k d ≡ command_at b (get_or (commands_of b) k d).at
unfolding commands_of
at_its_place b k d within =
    commands_stand b (size_of mach_header) (header_of b).ncmds k d
    (omega (arith, within, length-commands_from b (size_of mach_header) (header_of b).ncmds))
