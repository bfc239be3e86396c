-- The head of an image is found again, and is that of a link where its commands say the link's.
--
-- The header stands in front of the commands, and the commands 32 bytes behind the file's start, where the walk begins;
-- the header tells how many they are. Header fields that count commands and their bytes are the same of the commands and
-- of what they say.
use Rattle.std.proofs.Common.{◌≡◌, ℕ, ◌+◌, ◌≤◌, Bool, List, [], ◌∷◌, length, map, refl, sym, ap, ◌∙◌, arith}
use Rattle.std.specs.Prelude.{sum_by}
use Rattle.std.proofs.lemmas.List.{length-append, length-map}
use Rattle.std.proofs.lemmas.List.Sums.{sum_by-cons}
use Rattle.macho_bytes.specs.Texts.{put}
use Rattle.macho_bytes.proofs.Numbers.{stands-front, stands-back}
use Rattle.macho_bytes.proofs.Puts.{put-put}
use Rattle.macho_records.specs.declared.header.MachHeader.{MachHeader}
use Rattle.macho_model.specs.Commands.{header_of, commands_from, commands_of}
use Rattle.macho_model.specs.HeadCommands.{HeadCommand, command_in, commands_in, size_said, header_for, commands_for}
use Rattle.macho_commands.specs.declared.head.ImageKind.{ImageKind}
use Rattle.macho_commands.specs.declared.command.Command.{Command}
use Rattle.macho_commands.specs.Commands.{said_by, size_of_command, commands_text, commands_size}
use Rattle.macho_commands.specs.Reading.{ListIsReadable}
use Rattle.macho_commands.specs.Heads.{header_of_kind, head_text, HeadIsReadable}
use Rattle.macho_commands.specs.Laws.{FoundIsSaid}
use Rattle.macho_bytes.specs.Spellings.{spelling, ReadsBack}
use Rattle.macho_records.specs.Spellings.{mach_header_rows}

-- header and commands, put one behind the other
pub head_put : (kind : ImageKind) (commands : List Command) (before headed now : List ℕ)
    → ReadsBack mach_header_rows (header_of_kind kind commands)
    → length (commands_text commands) ≡ commands_size commands → 32 + commands_size commands ≤ length before
    → headed ≡ put 0 (spelling mach_header_rows (header_of_kind kind commands)) before → now ≡ put 32 (commands_text commands) headed
    → now ≡ put 0 (head_text kind commands) before
unfolding head_text
head_put kind commands before headed now back long room first second =
    second ∙ ap (put 32 (commands_text commands)) first
    ∙ put-put 0 32 (spelling mach_header_rows (header_of_kind kind commands)) (commands_text commands) before (omega (arith, back.long))
    (omega (arith, long))

pub length-head : (kind : ImageKind) (commands : List Command) → ReadsBack mach_header_rows (header_of_kind kind commands)
    → length (commands_text commands) ≡ commands_size commands → length (head_text kind commands) ≡ 32 + commands_size commands
unfolding head_text
length-head kind commands back long =
    length-append (spelling mach_header_rows (header_of_kind kind commands)) (commands_text commands)
    ∙ ap (λ (n : ℕ). n + length (commands_text commands)) back.long ∙ ap (λ (n : ℕ). 32 + n) long

-- THE head is found
pub head_readable : (kind : ImageKind) (commands : List Command) → ReadsBack mach_header_rows (header_of_kind kind commands)
    → ListIsReadable commands
    → HeadIsReadable kind commands
unfolding head_text header_of commands_of commands_in
head_readable kind commands back readable = record {
  found = λ b s.
      let front : List ℕ = spelling mach_header_rows (header_of_kind kind commands) in
      let header : header_of b ≡ header_of_kind kind commands = back.back b 0 (stands-front b 0 front (commands_text commands) s) in
      let list = readable.found b 32 (stands-back b 0 32 front (commands_text commands) (omega (arith, back.long)) s) in
      record {
        header = header;
        said = ap (λ (h : MachHeader). map (command_in b) (commands_from b 32 h.ncmds)) header ∙ ap (map (command_in b)) list.list
            ∙ list.said;
      };
}

sizes-are : (commands : List Command) → sum_by size_of_command commands ≡ sum_by size_said (map said_by commands)
sizes-are [] = refl
sizes-are (c ∷ cs) = omega (arith, sizes-are cs, sum_by-cons size_of_command c cs, sum_by-cons size_said (said_by c) (map said_by cs))

-- THE head of a link
pub found_said : FoundIsSaid
unfolding header_for
found_said l counts uuid b p trie kind commands executable thread_locals are found = record {
  trie = trie;
  header = found.header
      ∙ ap (λ (n : ℕ). record (header_of_kind kind commands) { sizeofcmds = n }) (sizes-are commands)
      ∙ ap (λ (n : ℕ). told n (sum_by size_said (map said_by commands)) kind.executable kind.thread_locals)
      (sym (length-map commands said_by))
      ∙ ap (λ (hs : List HeadCommand). told (length hs) (sum_by size_said hs) kind.executable kind.thread_locals) are
      ∙ ap (λ (e : Bool). told (length list) (sum_by size_said list) e kind.thread_locals) executable
      ∙ ap (told (length list) (sum_by size_said list) l.executable) thread_locals;
  commands = found.said ∙ are;
}
  where
    list : List HeadCommand
    list = commands_for l counts p uuid trie

    told : ℕ → ℕ → Bool → Bool → MachHeader
    told count size e t = record (header_of_kind (record { executable = e; thread_locals = t }) commands)
        { ncmds = count; sizeofcmds = size }
