-- A walk stands at each command in turn, and knows how many of its list it has passed.
--
-- Of the first commands so many are of the list as were counted. One command more that is of the list has that count for its
-- number, and is counted; one that is not leaves the count. Behind the last command all of the list have been counted.
use Rattle.std.proofs.Common.{◌≡◌, ℕ, ◌+◌, ◌<◌, ◌≤◌, true, false, List, length, arith}
use Rattle.macho_bytes.specs.Numbers.{le_at}
use Rattle.macho_model.specs.Commands.{command_at, header_of}
use Rattle.macho_image_walks.specs.declared.walk.Listed.{Listed}
use Rattle.macho_image_walks.specs.Readings.{is_listed, listed, IsNth}
use Rattle.macho_image_walks.proofs.NthWalk.{Passed, none_passed, listed_passed, other_passed, nth_here, all_passed}
use Rattle.macho_image_walks.proofs.NumberedWalk.{few_listed_of}
use Rattle.macho_loader.specs.declared.cursor.Cursor.{Cursor}
use Rattle.macho_loader.specs.steps.Cursors.{IsAt}

-- the same as a walk that looks for the command with a number
to_passed : (which : Listed) (b : List ℕ) (at : Cursor) → IsAt which b at → Passed which b at.number at.index at.place 0
to_passed which b at is = record { stands = is.stands; so_far = omega (arith, is.before); near = is.near }

from_passed : (which : Listed) (b : List ℕ) (at : Cursor) → at.index ≤ (header_of b).ncmds
    → Passed which b at.number at.index at.place 0 → IsAt which b at
from_passed which b at among passed =
    record { among = among; stands = passed.stands; before = omega (arith, passed.so_far); near = passed.near }

abbrev pub cursor : ℕ → ℕ → ℕ → Cursor
cursor index place number = record { index = index; place = place; number = number }

pub at_first : (which : Listed) (b : List ℕ) → IsAt which b (cursor 0 32 0)
at_first which b = from_passed which b (cursor 0 32 0) (omega arith) (none_passed which b 0)

-- the command that the walk stands at is of the list: it has the number, and is counted
pub here_nth : (which : Listed) (b : List ℕ) (at : Cursor) → at.index < (header_of b).ncmds → IsAt which b at
    → is_listed which b (command_at b at.place) ≡ true → IsNth which b at.number at.place
here_nth which b at within is listed_here = nth_here which b at.number at.index at.place within (to_passed which b at is) listed_here

pub few_before : (which : Listed) (b : List ℕ) (number place : ℕ) → IsNth which b number place → number < (header_of b).ncmds
few_before which b number place nth = omega (arith, nth.within, few_listed_of which b)

counted : (which : Listed) (b : List ℕ) (at : Cursor) → Passed which b at.number at.index at.place 0
    → Passed which b (at.number + 1) at.index at.place 1
counted which b at passed = record { stands = passed.stands; so_far = omega (arith, passed.so_far); near = passed.near }

pub step_counted : (which : Listed) (b : List ℕ) (at : Cursor) (size : ℕ) → at.index < (header_of b).ncmds → IsAt which b at
    → size ≡ le_at 4 b (at.place + 4) → size ≤ 4294967295 → is_listed which b (command_at b at.place) ≡ true
    → IsAt which b (cursor (at.index + 1) (at.place + size) (at.number + 1))
step_counted which b at size within is read small listed_here =
    from_passed which b (cursor (at.index + 1) (at.place + size) (at.number + 1)) (omega (arith, within))
    (listed_passed which b (at.number + 1) at.index at.place 1 size within (counted which b at (to_passed which b at is)) read small
    listed_here (omega arith))

-- it is not: the count stays
pub step_passed : (which : Listed) (b : List ℕ) (at : Cursor) (size : ℕ) → at.index < (header_of b).ncmds → IsAt which b at
    → size ≡ le_at 4 b (at.place + 4) → size ≤ 4294967295 → is_listed which b (command_at b at.place) ≡ false
    → IsAt which b (cursor (at.index + 1) (at.place + size) at.number)
step_passed which b at size within is read small other =
    from_passed which b (cursor (at.index + 1) (at.place + size) at.number) (omega (arith, within))
    (other_passed which b at.number at.index at.place 0 size within (to_passed which b at is) read small other)

-- all have been passed
pub at_end : (which : Listed) (b : List ℕ) (at : Cursor) → (header_of b).ncmds ≤ at.index → IsAt which b at
    → length (listed which b) ≤ at.number
at_end which b at past is = all_passed which b at.number at.index at.place 0 past (to_passed which b at is)
