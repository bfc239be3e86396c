-- A head that is small has small commands, and few of them.
--
-- The bytes of the commands are the sum of their sizes: no command is longer than all together, and since none is empty there
-- are no more commands
-- than bytes. What was written is the text of the commands, so every file that begins with it says them.
use Rattle.std.proofs.Common.{◌≡◌, ℕ, zero, suc, ◌+◌, ◌<◌, ◌≤◌, ◌^◌, List, [], ◌∷◌, map, length, get_or, refl, sym, ap, subst, ◌∙◌, arith, All}
use Rattle.std.specs.Prelude.{sum_by}
use Rattle.std.proofs.lemmas.List.Sums.{sum_by-cons}
use Rattle.macho_bytes.specs.Texts.{put}
use Rattle.macho_model.specs.declared.placed.Counts.{Counts}
use Rattle.macho_model.specs.Links.{Link}
use Rattle.macho_model.specs.Placement.{Placed}
use Rattle.macho_model.specs.HeadCommands.{commands_for, header_for, size_said, describes_thread_locals}
use Rattle.macho_commands.specs.declared.command.Command.{Command}
use Rattle.macho_commands.specs.declared.command.Command.TheVariants.{Segment, EntryPoint, Uuid, BuildVersion, Dylinker, IdDylib, LoadDylib, Rpath, ChainedFixups, ExportsTrie, Symtab, CodeSignature}
use Rattle.macho_commands.specs.declared.head.ImageKind.{ImageKind}
use Rattle.macho_commands.specs.Commands.{said_by, Fits, size_of_command, commands_size}
use Rattle.macho_commands.specs.Heads.{head_text, HeadIsReadable}
use Rattle.macho_commands.proofs.HeadTexts.{found_said}
use Rattle.macho_commands.proofs.HeadBytes.{head_spelled}
use Rattle.macho_head.specs.declared.commands.HeadParts.{HeadParts}
use Rattle.macho_head.specs.Heads.{AreHeadParts, VersionsFit, commands_of_parts, head_bytes, HeadIsPut}
use Rattle.macho_head.proofs.Joined.{parts_said}

pub sized : (cs : List Command) → commands_size cs ≡ sum_by size_said (map said_by cs)
sized [] = refl
sized (c ∷ cs) = omega (arith, sized cs, sum_by-cons size_of_command c cs, sum_by-cons size_said (said_by c) (map said_by cs))

-- no command is longer than all of them
one_below : (cs : List Command) (k : ℕ) (d : Command) → k < length cs → size_of_command (get_or cs k d) ≤ commands_size cs
one_below [] k d lt = absurd (omega arith)
one_below (c ∷ cs) zero d lt = omega (arith, sum_by-cons size_of_command c cs)
one_below (c ∷ cs) (suc k) d lt = omega (arith, sum_by-cons size_of_command c cs, one_below cs k d (omega arith))

-- and none is empty
some : (c : Command) → 1 ≤ size_of_command c
some (Segment segment protection flags headers) = omega arith
some (EntryPoint offset) = omega arith
some (Uuid uuid) = omega arith
some (BuildVersion minimum sdk) = omega arith
some Dylinker = omega arith
some (IdDylib name) = omega arith
some (LoadDylib name) = omega arith
some (Rpath path) = omega arith
some (ChainedFixups table) = omega arith
some (ExportsTrie table) = omega arith
some (Symtab tables) = omega arith
some (CodeSignature table) = omega arith

few_below : (cs : List Command) → length cs ≤ commands_size cs
few_below [] = omega arith
few_below (c ∷ cs) = omega (arith, few_below cs, some c, sum_by-cons size_of_command c cs)

pub each_fits : (p : Placed) (h : HeadParts) (cs : List Command) → map said_by cs ≡ commands_of_parts p h → head_bytes p h < 2 ^ 32
    → All Fits cs
each_fits p h cs said small k d lt = omega (arith, one_below cs k d lt, sized cs, ap (sum_by size_said) said, small)

pub few : (p : Placed) (h : HeadParts) (cs : List Command) → map said_by cs ≡ commands_of_parts p h → head_bytes p h < 2 ^ 32
    → length cs < 2 ^ 32
few p h cs said small = omega (arith, few_below cs, sized cs, ap (sum_by size_said) said, small)

pub head_put : (l : Link) (counts : Counts) (uuid : List ℕ) (p : Placed) (h : HeadParts) (cs : List Command) (kind : ImageKind)
    (before now : List ℕ)
    → AreHeadParts l counts uuid p h → map said_by cs ≡ commands_of_parts p h → kind.executable ≡ h.executable
    → kind.thread_locals ≡ describes_thread_locals p
    → now ≡ put 0 (head_text kind cs) before → length (head_text kind cs) ≡ 32 + commands_size cs → HeadIsReadable kind cs
    → VersionsFit h.versions
    → HeadIsPut l counts uuid p h before now
head_put l counts uuid p h cs kind before now are said executable locals written long readable fit = record {
  text = head_text kind cs;
  put_is = written;
  long = long ∙ omega (arith, sized cs, ap (sum_by size_said) said);
  versions = subst VersionsFit are.versions fit;
  is = head_spelled l counts uuid p h.trie_size kind cs (executable ∙ are.executable) locals all long;
  header = λ b stands.
      let found = found_said l counts uuid b p h.trie_size kind cs (executable ∙ are.executable) locals all (readable.found b stands) in
      found.header ∙ ap (header_for l p) (sym found.commands ∙ (readable.found b stands).said ∙ all);
  commands = λ b stands. (readable.found b stands).said ∙ all;
}
  where
    all : map said_by cs ≡ commands_for l counts p uuid h.trie_size
    all = said ∙ parts_said l counts uuid p h are
