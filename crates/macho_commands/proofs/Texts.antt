-- What the loops over section headers and over commands have written.
--
-- A section header has 80 bytes, since it reads back. So the headers joined end to end have 80 bytes each, and the
-- next one is written at 80 times its number behind the first. The loop over commands goes the same way, with each
-- command's own size.
use Rattle.std.proofs.Common.{◌≡◌, ℕ, suc, ◌+◌, ◌*◌, ◌<◌, ◌≤◌, List, [], ◌∷◌, length, get_or, take, refl, sym, ap, subst, ◌∙◌, arith, inl, inr}
use Rattle.std.specs.List.{flat_map}
use Rattle.std.specs.Prelude.{sum_by}
use Rattle.std.proofs.Math.Nat.{mul-suc}
use Rattle.std.proofs.lemmas.Bool.{cases_lt}
use Rattle.std.proofs.lemmas.List.{length-append, take_all, get_or_default}
use Rattle.std.proofs.lemmas.List.Sums.{sum_by_more, sum_by_more_le}
use Rattle.macho_bytes.specs.Texts.{put}
use Rattle.macho_bytes.proofs.Puts.{length-put}
use Rattle.macho_bytes.proofs.Sequences.{MoreTexts, texts_begin, texts_go_on, texts_end}
use Rattle.macho_records.specs.declared.header.SectionHeader.{SectionHeader}
use Rattle.macho_commands.specs.declared.command.Command.{Command}
use Rattle.macho_commands.specs.Commands.{text_of, size_of_command}
use Rattle.macho_commands.specs.steps.Writing.{EachReadsBack}
use Rattle.macho_bytes.specs.Spellings.{spelling, ReadsBack}
use Rattle.macho_records.specs.Spellings.{section_header_rows}

-- texts of one length joined end to end
pub length-flat_map_same : {X : Type 0} (f : X → List ℕ) (w : ℕ) (xs : List X)
    → ((i : ℕ) (d : X) → i < length xs → length (f (get_or xs i d)) ≡ w)
    → length (flat_map f xs) ≡ w * length xs
length-flat_map_same f w [] each = omega arith
length-flat_map_same f w (x ∷ xs) each =
    let ih = length-flat_map_same f w xs (λ i d lt. each (suc i) d (omega arith)) in
    omega (arith, each 0 x (omega arith), ih, length-append (f x) (flat_map f xs), mul-suc w (length xs))

-- the first i of some headers are put, one behind the other
pub record HeadersSoFar (at place i : ℕ) (headers : List SectionHeader) (before now : List ℕ) : Type 0 where
  pub texts : MoreTexts (spelling section_header_rows) at place (take i headers) before now
  pub here : place ≡ at + 80 * i
  pub each : (k : ℕ) (d : SectionHeader) → k < i → ReadsBack section_header_rows (get_or headers k d)

pub headers_begin : (at : ℕ) (headers : List SectionHeader) (out : List ℕ) → at ≤ length out → HeadersSoFar at at 0 headers out out
headers_begin at headers out fits = record {
  texts = record { written = texts_begin (spelling section_header_rows) at out fits; ends = omega arith };
  here = omega arith;
  each = λ k d lt. absurd (omega arith);
}

pub headers_go_on : (at place i : ℕ) (headers : List SectionHeader) (d : SectionHeader) (before out now : List ℕ) → i < length headers
    → at + 80 * length headers ≤ length before → HeadersSoFar at place i headers before out
    → ReadsBack section_header_rows (get_or headers i d)
    → now ≡ put place (spelling section_header_rows (get_or headers i d)) out → HeadersSoFar at (place + 80) (i + 1) headers before now
headers_go_on at place i headers d before out now lt room so_far back is =
    let step : 80 * (i + 1) ≤ 80 * length headers = omega arith in
    let long : length (spelling section_header_rows (get_or headers i d)) ≡ 80 = back.long in
    record {
      texts = texts_go_on (spelling section_header_rows) at place (place + 80) i headers (get_or headers i d) before out now lt
          (get_or_default headers i d (get_or headers i d) lt) so_far.texts (omega (arith, long)) (omega (arith, so_far.here)) is;
      here = omega (arith, so_far.here);
      each = λ k e below. elim (cases_lt k i) [
        | inl less ↦ so_far.each k e less
        | inr last ↦
            let same : k ≡ i = omega arith in
            let Back : ℕ → Type 0 = λ n. ReadsBack section_header_rows (get_or headers n e) in
            subst Back (sym same) (subst (ReadsBack section_header_rows) (get_or_default headers i d e lt) back)
      ];
    }

pub headers_end : (at place i : ℕ) (headers : List SectionHeader) (before now : List ℕ) → length headers ≤ i
    → HeadersSoFar at place i headers before now
    → (now ≡ put at (flat_map (spelling section_header_rows) headers) before)
    × (length (flat_map (spelling section_header_rows) headers) ≡ 80 * length headers)
    × EachReadsBack section_header_rows headers
headers_end at place i headers before now past so_far = (
  (texts_end (spelling section_header_rows) at place i headers before now past so_far.texts).written,
  length-flat_map_same (spelling section_header_rows) 80 headers (λ k d lt. (so_far.each k d (omega arith)).long),
  record { each = λ k d lt. so_far.each k d (omega arith) },
)

-- the first i of some commands are put, one behind the other
pub record CommandsSoFar (at place i : ℕ) (commands : List Command) (before now : List ℕ) : Type 0 where
  pub texts : MoreTexts text_of at place (take i commands) before now
  pub here : place ≡ at + sum_by size_of_command (take i commands)
  pub keeps : length now ≡ length before

pub commands_begin : (at : ℕ) (commands : List Command) (out : List ℕ) → at ≤ length out → CommandsSoFar at at 0 commands out out
commands_begin at commands out fits = record {
  texts = record { written = texts_begin text_of at out fits; ends = omega arith };
  here = omega arith;
  keeps = refl;
}

pub commands_go_on : (at place i : ℕ) (commands : List Command) (d : Command) (before out now : List ℕ) → i < length commands
    → at + sum_by size_of_command commands ≤ length before → CommandsSoFar at place i commands before out
    → length (text_of (get_or commands i d)) ≡ size_of_command (get_or commands i d) → now ≡ put place (text_of (get_or commands i d)) out
    → CommandsSoFar at (place + size_of_command (get_or commands i d)) (i + 1) commands before now
commands_go_on at place i commands d before out now lt room so_far long is =
    let all = sum_by_more_le size_of_command commands i d lt in
    record {
      texts = texts_go_on text_of at place (place + size_of_command (get_or commands i d)) i commands (get_or commands i d) before out now
          lt
          (get_or_default commands i d (get_or commands i d) lt) so_far.texts (omega (arith, long)) (omega (arith, so_far.here, all)) is;
      here = omega (arith, so_far.here, sum_by_more size_of_command commands i d lt);
      keeps = ap length is ∙ length-put place (text_of (get_or commands i d)) out (omega (arith, so_far.here, so_far.keeps, long, all))
          ∙ so_far.keeps;
    }

-- the next command has room
pub command_room : (at place i : ℕ) (commands : List Command) (d : Command) (before out : List ℕ) → i < length commands
    → at + sum_by size_of_command commands ≤ length before → CommandsSoFar at place i commands before out
    → place + size_of_command (get_or commands i d) ≤ length out
command_room at place i commands d before out lt room so_far =
    omega (arith, so_far.here, so_far.keeps, sum_by_more_le size_of_command commands i d lt)

pub commands_end : (at place i : ℕ) (commands : List Command) (before now : List ℕ) → length commands ≤ i
    → CommandsSoFar at place i commands before now
    → (now ≡ put at (flat_map text_of commands) before) × (length (flat_map text_of commands) ≡ sum_by size_of_command commands)
commands_end at place i commands before now past so_far =
    let all = texts_end text_of at place i commands before now past so_far.texts in
    let here : place ≡ at + sum_by size_of_command commands = so_far.here
    ∙ ap (λ (cs : List Command). at + sum_by size_of_command cs) (take_all i commands past) in
    (all.written, omega (arith, all.ends, here))
