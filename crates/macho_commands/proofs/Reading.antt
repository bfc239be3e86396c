-- A list of commands is found where its text stands.
--
-- A list's text is the commands' texts joined end to end: the first one stands at the start, the rest behind it, by the
-- size that its head tells. So the walk over the heads meets exactly the commands, in order, and reads what each says.
use Rattle.std.proofs.Common.{◌≡◌, ℕ, suc, ◌+◌, ◌<◌, ◌≤◌, List, [], ◌∷◌, length, get_or, map, inl, inr, refl, sym, ap, subst, ◌∙◌, arith}
use Rattle.std.proofs.lemmas.Bool.{cases_lt}
use Rattle.std.proofs.lemmas.List.{get_or_default}
use Rattle.std.specs.List.{flat_map}
use Rattle.macho_bytes.specs.Texts.{Stands}
use Rattle.macho_bytes.specs.Layouts.{reading}
use Rattle.macho_bytes.proofs.Numbers.{stands-front, stands-back}
use Rattle.macho_records.specs.declared.header.SectionHeader.{SectionHeader}
use Rattle.macho_records.specs.declared.header.SegmentCommand.{SegmentCommand}
use Rattle.macho_wire.specs.declared.commands.EntryPointCommand.{EntryPointCommand}
use Rattle.macho_records.specs.declared.constants.TheConstants.{LC_MAIN, LC_SEGMENT_64}
use Rattle.macho_records.specs.Layouts.{segment_command}
use Rattle.macho_wire.specs.Layouts.{entry_point_command}
use Rattle.macho_model.specs.Commands as found
use Rattle.macho_model.specs.Agreement.{section_headers_at}
use Rattle.macho_model.specs.HeadCommands.{HeadCommand, Segment, EntryPoint, command_in}
use Rattle.macho_commands.specs.declared.command.Command.{Command}
use Rattle.macho_commands.specs.Commands.{said_by, text_of, size_of_command, commands_text}
use Rattle.macho_commands.specs.Reading.{IsFound, IsReadable, placed_at, placed_commands, EachFound, ListIsReadable}

-- the first of some commands, and the rest of them
pub each_found : (commands : List Command) (b : List ℕ) (at : ℕ) → ((k : ℕ) (d : Command) → k < length commands
    → IsReadable (said_by (get_or commands k d)))
    → ((k : ℕ) (d : Command) → k < length commands → length (text_of (get_or commands k d)) ≡ size_of_command (get_or commands k d))
    → Stands b (record { at = at; text = flat_map text_of commands }) → EachFound b at commands
each_found [] b at readable long s = tt
each_found (c ∷ cs) b at readable long s =
    let first = (readable 0 c (omega arith)).found b at (stands-front b at (text_of c) (flat_map text_of cs) s) in
    let next : at + size_of_command c ≡ at + length (text_of c) = omega (arith, long 0 c (omega arith)) in
    let rest = stands-back b at (at + size_of_command c) (text_of c) (flat_map text_of cs) next s in (
      first,
      each_found cs b (at + size_of_command c) (λ k d lt. readable (suc k) d (omega arith)) (λ k d lt. long (suc k) d (omega arith))
          rest,
    )

-- the walk over the heads meets them
pub commands_from-found : (commands : List Command) (b : List ℕ) (at : ℕ) → EachFound b at commands
    → found.commands_from b at (length commands) ≡ placed_commands at commands
unfolding found.commands_from
commands_from-found [] b at each = refl
commands_from-found (c ∷ cs) b at each =
    let rest : found.commands_from b (at + size_of_command c) (length cs) ≡ placed_commands (at + size_of_command c) cs =
    commands_from-found cs b (at + size_of_command c) each.1 in
    rw (each.0.number, each.0.size, rest) refl

-- and what they say
pub commands-said : (commands : List Command) (b : List ℕ) (at : ℕ) → EachFound b at commands
    → map (command_in b) (placed_commands at commands) ≡ map said_by commands
commands-said [] b at each = refl
commands-said (c ∷ cs) b at each =
    ap (λ (h : HeadCommand). h ∷ map (command_in b) (placed_commands (at + size_of_command c) cs)) each.0.says
    ∙ ap (λ (hs : List HeadCommand). said_by c ∷ hs) (commands-said cs b (at + size_of_command c) each.1)

-- the first i of some commands are readable, and have their size
pub record ReadableSoFar (i : ℕ) (commands : List Command) : Type 0 where
  pub readable : (k : ℕ) (d : Command) → k < i → IsReadable (said_by (get_or commands k d))
  pub long : (k : ℕ) (d : Command) → k < i → length (text_of (get_or commands k d)) ≡ size_of_command (get_or commands k d)

pub readable_begins : (commands : List Command) → ReadableSoFar 0 commands
readable_begins commands = record { readable = λ k d lt. absurd (omega arith); long = λ k d lt. absurd (omega arith) }

pub readable_goes_on : (i : ℕ) (commands : List Command) (d : Command) → i < length commands → ReadableSoFar i commands
    → IsReadable (said_by (get_or commands i d))
    → length (text_of (get_or commands i d)) ≡ size_of_command (get_or commands i d) → ReadableSoFar (i + 1) commands
readable_goes_on i commands d lt so_far here long = record {
  readable = λ k e below. elim (cases_lt k i) [
    | inl less ↦ so_far.readable k e less
    | inr last ↦
        let same : get_or commands i d ≡ get_or commands k e = get_or_default commands i d e lt
        ∙ ap (λ (n : ℕ). get_or commands n e) (omega arith) in
        let Readable : Command → Type 0 = λ c. IsReadable (said_by c) in
        subst Readable same here
  ];
  long = λ k e below. elim (cases_lt k i) [
    | inl less ↦ so_far.long k e less
    | inr last ↦
        let same : get_or commands i d ≡ get_or commands k e = get_or_default commands i d e lt
        ∙ ap (λ (n : ℕ). get_or commands n e) (omega arith) in
        let Long : Command → Type 0 = λ c. length (text_of c) ≡ size_of_command c in
        subst Long same long
  ];
}

pub readable_ends : (i : ℕ) (commands : List Command) → length commands ≤ i → ReadableSoFar i commands → ListIsReadable commands
unfolding commands_text
readable_ends i commands past so_far = record {
  found = λ b at stands.
      let each = each_found commands b at (λ k d lt. so_far.readable k d (omega arith)) (λ k d lt. so_far.long k d (omega arith)) stands in
      record { list = commands_from-found commands b at each; each = each; said = commands-said commands b at each };
}
