-- A list of load commands is found where its bytes stand, if each is whole and each size fits its field.
--
-- The commands' bytes are joined end to end, and each command has as many as it says. So the first one stands at the start, the rest
-- behind it; the walk over the heads meets each of them, and reads what each says.
use Rattle.std.proofs.Common.{◌≡◌, ℕ, suc, ◌+◌, ◌*◌, ◌<◌, ◌≤◌, ◌^◌, List, [], ◌∷◌, length, map, refl, ap, ◌∙◌, arith, All}
use Rattle.std.specs.Prelude.{sum_by}
use Rattle.std.specs.List.{concat}
use Rattle.std.proofs.lemmas.List.Elements.{All-cons}
use Rattle.std.proofs.lemmas.List.Sums.{sum_by-cons}
use Rattle.macho_bytes.specs.Texts.{Stands}
use Rattle.macho_bytes.proofs.Numbers.{stands-front, stands-back}
use Rattle.macho_model.specs.Commands as found
use Rattle.macho_model.specs.HeadCommands.{HeadCommand, command_in, size_said}
use Rattle.macho_commands.specs.Texts.{text_said}
use Rattle.macho_commands.specs.Reading.{IsFound, placed_at}
use Rattle.macho_head_laws.proofs.Fits.{IsWhole}

-- commands as they lie, each behind the one before
abbrev pub placed_said : ℕ → List HeadCommand → List found.Command
placed_said at [] = []
placed_said at (h ∷ hs) = placed_at at h ∷ placed_said (at + size_said h) hs

abbrev pub EachThere : List ℕ → ℕ → List HeadCommand → Type 0
EachThere b at [] = Unit {0}
EachThere b at (h ∷ hs) = IsFound b at h × EachThere b (at + size_said h) hs

abbrev pub SizeFits : HeadCommand → Type 0
SizeFits h = size_said h < 2 ^ 32

pub each_there : (hs : List HeadCommand) (b : List ℕ) (at : ℕ) → All IsWhole hs → All SizeFits hs
    → Stands b (record { at = at; text = concat (map text_said hs) }) → EachThere b at hs
each_there [] b at whole fits s = tt
each_there (h ∷ hs) b at whole fits s =
    let here = whole 0 h (omega arith) in
    let first = (here.found (fits 0 h (omega arith))).found b at (stands-front b at (text_said h) (concat (map text_said hs)) s) in
    let next : at + size_said h ≡ at + length (text_said h) = omega (arith, here.long) in
    let rest = stands-back b at (at + size_said h) (text_said h) (concat (map text_said hs)) next s in
    (first, each_there hs b (at + size_said h) (λ k d lt. whole (suc k) d (omega arith)) (λ k d lt. fits (suc k) d (omega arith)) rest)

-- the walk over the heads meets them
pub walked : (hs : List HeadCommand) (b : List ℕ) (at : ℕ) → EachThere b at hs → found.commands_from b at (length hs) ≡ placed_said at hs
unfolding found.commands_from
walked [] b at each = refl
walked (h ∷ hs) b at each =
    let rest : found.commands_from b (at + size_said h) (length hs) ≡ placed_said (at + size_said h) hs =
    walked hs b (at + size_said h) each.1 in
    rw (each.0.number, each.0.size, rest) refl

-- and what they say
pub said_there : (hs : List HeadCommand) (b : List ℕ) (at : ℕ) → EachThere b at hs → map (command_in b) (placed_said at hs) ≡ hs
said_there [] b at each = refl
said_there (h ∷ hs) b at each =
    ap (λ (k : HeadCommand). k ∷ map (command_in b) (placed_said (at + size_said h) hs)) each.0.says
    ∙ ap (λ (ks : List HeadCommand). h ∷ ks) (said_there hs b (at + size_said h) each.1)

-- all bytes are as many as the commands say
pub length-all : (hs : List HeadCommand) → All IsWhole hs → sum_by length (map text_said hs) ≡ sum_by size_said hs
length-all [] whole = refl
length-all (h ∷ hs) whole =
    omega (
      arith,
      (whole 0 h (omega arith)).long,
      length-all hs (λ k d lt. whole (suc k) d (omega arith)),
      sum_by-cons length (text_said h) (map text_said hs),
      sum_by-cons size_said h hs,
    )

-- so each size fits where all of them do
pub sizes_fit : (hs : List HeadCommand) → sum_by size_said hs < 2 ^ 32 → All SizeFits hs
sizes_fit [] fits = λ k d lt. absurd (omega arith)
sizes_fit (h ∷ hs) fits =
    let sum = sum_by-cons size_said h hs in
    All-cons SizeFits h hs (omega (arith, sum, fits)) (sizes_fit hs (omega (arith, sum, fits)))

-- and so does their number
pub count_fits : (hs : List HeadCommand) → All IsWhole hs → 8 * length hs ≤ sum_by size_said hs
count_fits [] whole = omega arith
count_fits (h ∷ hs) whole =
    omega (
      arith,
      (whole 0 h (omega arith)).least,
      count_fits hs (λ k d lt. whole (suc k) d (omega arith)),
      sum_by-cons size_said h hs,
    )
