-- The two commands that a file has once.
--
-- Each command of the list is the one that begins at its own place, since the list was read so. Where one command of a
-- number was found, the list of that number is this one command. As each command fits, it ends inside the file and is
-- as long as what is read of it.
use Rattle.std.proofs.Common.{◌≡◌, ℕ, zero, suc, ◌+◌, ◌<◌, ◌≤◌, ◌==◌, ◌⊎◌, Bool, true, false, List, [], ◌∷◌, length, get_or, refl, sym, ap, ◌∙◌, inl, inr, arith}
use Rattle.std.specs.List.{All}
use Rattle.std.proofs.lemmas.Bool.{leb-true, eqb-true}
use Rattle.std.proofs.lemmas.List.Elements.{All-nil, All-cons, All-head, All-same, All-filter, filter_passes}
use Rattle.macho_bytes.specs.Layouts.{reading, size_of}
use Rattle.macho_records.specs.Layouts.{mach_header, load_command, segment_command, symtab_command}
use Rattle.macho_records.specs.CommandLayouts.{dylib_command}
use Rattle.macho_records.specs.declared.constants.TheConstants.{LC_SYMTAB}
use Rattle.macho_model.specs.Lists.{IsNumber, of_first}
use Rattle.macho_model.specs.Commands.{Command, command_at, commands_of, commands_from, commands_end, numbered, header_of, command_fits, place_of}
use Rattle.macho_model.specs.Objects.{num_sections, section_place}
use Rattle.macho_model.specs.ObjectRules.{head_fits, tables_inside}
use Rattle.macho_model.specs.Grammar.{Breaks}
use Rattle.macho_model.specs.declared.rules.ObjectRule.TheVariants.{O3, O4}
use Rattle.macho_object.specs.declared.commands.Found.TheVariants.{Once}
use Rattle.macho_object.specs.declared.commands.Tally.{Tally}
use Rattle.macho_object.specs.declared.outline.Places.{Places}
use Rattle.macho_object.specs.steps.Scans.{filetype_of, main_number, needed_of, found_in, IsScanned}
use Rattle.macho_object.specs.steps.Outlines.{IsNotOnce, HasCommands, SectionStands, main_size}
use Rattle.macho_object.specs.Views.{section_count}
use Rattle.macho_object.proofs.Passes.{command_whole}

-- a command found once is the only one
only_one : (cs : List Command) (at : ℕ) → found_in cs ≡ Once at → (c : Command) × (cs ≡ c ∷ []) × (c.at ≡ at)
only_one [] at is = absurd (cc)
only_one (c ∷ []) at is = (c, refl, cc)
only_one (c ∷ d ∷ cs) at is = absurd (cc)

-- a command not found once breaks the rule that there is one
not_one : (cs : List Command) (place : ℕ) → IsNotOnce (found_in cs) place
    → ((cs ≡ []) × (place ≡ 0)) ⊎ ((k : ℕ) × (c : Command) × (1 ≤ k) × IsNumber cs k c × (place ≡ c.at))
not_one [] place is = inl (refl, is)
not_one (c ∷ []) place is = absurd is
not_one (c ∷ d ∷ cs) place is = inr (1, d, omega arith, (omega arith, refl), is)

-- each command is the one that begins at its own place
own_place : (b : List ℕ) (at n : ℕ) → All (λ c. c ≡ command_at b c.at) (commands_from b at n)
unfolding commands_from
own_place b at zero = All-nil (λ c. c ≡ command_at b c.at)
own_place b at (suc n) =
    All-cons (λ c. c ≡ command_at b c.at) (command_at b at) (commands_from b (at + (reading load_command b at).cmdsize) n) refl
    (own_place b (at + (reading load_command b at).cmdsize) n)

own_places : (b : List ℕ) → All (λ c. c ≡ command_at b c.at) (commands_of b)
unfolding commands_of
own_places b = own_place b (size_of mach_header) (header_of b).ncmds

-- The only command of a number, and that it is whole.
record IsOnly (dyn : Bool) (b : List ℕ) (n at : ℕ) : Type 0 where
  only : numbered n b ≡ command_at b at ∷ []
  number_is : (command_at b at).number ≡ n
  ends : at + (command_at b at).size ≤ commands_end b
  long : needed_of dyn b (command_at b at) ≤ (command_at b at).size

the_only : (dyn : Bool) (b : List ℕ) (t : Tally) (n at : ℕ) → IsScanned dyn b t → found_in (numbered n b) ≡ Once at → IsOnly dyn b n at
the_only dyn b t n at s is =
    let one = only_one (numbered n b) at is in
    let c = one.0 in
    let own_all : All (λ c. c ≡ command_at b c.at) (c ∷ []) =
    All-same (λ c. c ≡ command_at b c.at) (c ∷ []) (numbered n b) (sym one.1)
    (All-filter (λ c. c.number == n) (λ c. c ≡ command_at b c.at) (commands_of b) (own_places b)) in
    let own : c ≡ command_at b at = All-head (λ c. c ≡ command_at b c.at) c [] own_all ∙ ap (command_at b) one.2 in
    let only : numbered n b ≡ command_at b at ∷ [] = one.1 ∙ ap (λ c. c ∷ []) own in
    let passes : ((command_at b at).number == n) ≡ true =
    All-head (λ c. (c.number == n) ≡ true) (command_at b at) []
    (All-same (λ c. (c.number == n) ≡ true) (command_at b at ∷ []) (numbered n b) (sym only)
    (filter_passes (λ c. c.number == n) (commands_of b))) in
    let fits : command_fits (needed_of dyn b) b (command_at b at) ≡ true =
    All-head (λ c. command_fits (needed_of dyn b) b c ≡ true) (command_at b at) []
    (All-same (λ c. command_fits (needed_of dyn b) b c ≡ true) (command_at b at ∷ []) (numbered n b) (sym only)
    (All-filter (λ c. c.number == n) (λ c. command_fits (needed_of dyn b) b c ≡ true) (commands_of b) s.each)) in
    let whole = command_whole (needed_of dyn b) b (command_at b at) fits in
    record { only = only; number_is = eqb-true _ n passes; ends = whole.1; long = whole.2 }

-- what a command of each number needs
needed_main : (dyn : Bool) (b : List ℕ) (c : Command) → c.number ≡ main_number dyn → needed_of dyn b c ≤ c.size → c.at + c.size ≤ length b
    → c ≡ command_at b c.at → (c.at + main_size dyn b c.at ≤ length b) × (size_of dylib_command ≤ main_size dyn b c.at)
needed_main false b c number long inside own =
    let test : (c.number == 25) ≡ true = ap (λ (n : ℕ). n == 25) number in
    let long' = rw test at long in
    (omega arith, omega arith)
needed_main true b c number long inside own =
    let test : (c.number == 13) ≡ true = ap (λ (n : ℕ). n == 13) number in
    let long' = rw test at long in
    let size : c.size ≡ (reading load_command b c.at).cmdsize = ap (λ c. c.size) own in
    (omega arith, omega arith)

needed_symtab : (dyn : Bool) (b : List ℕ) (c : Command) → c.number ≡ LC_SYMTAB → needed_of dyn b c ≤ c.size
    → size_of symtab_command ≤ c.size
needed_symtab false b c number long =
    let other : (c.number == 25) ≡ false = ap (λ (n : ℕ). n == 25) number in
    let test : (c.number == 2) ≡ true = ap (λ (n : ℕ). n == 2) number in
    let long' = rw (other, test) at long in omega arith
needed_symtab true b c number long =
    let other : (c.number == 13) ≡ false = ap (λ (n : ℕ). n == 13) number in
    let test : (c.number == 2) ≡ true = ap (λ (n : ℕ). n == 2) number in
    let long' = rw (other, test) at long in omega arith

-- both commands stand once and whole
pub has_commands : (dyn : Bool) (b : List ℕ) (t : Tally) (p : Places) → head_fits (filetype_of dyn) b ≡ true → IsScanned dyn b t
    → t.main ≡ Once p.main → t.symtab ≡ Once p.symtab → HasCommands dyn b p
has_commands dyn b t p head s main symtab =
    let m = the_only dyn b t (main_number dyn) p.main s (sym s.main_is ∙ main) in
    let y = the_only dyn b t LC_SYMTAB p.symtab s (sym s.symtab_is ∙ symtab) in
    let end : commands_end b ≤ length b = leb-true _ _ s.inside in
    let room = needed_main dyn b (command_at b p.main) m.number_is m.long (omega (arith, m.ends)) refl in
    let long = needed_symtab dyn b (command_at b p.symtab) y.number_is y.long in
    record {
      head = head;
      inside = s.inside;
      each = s.each;
      main_only = m.only;
      one_symtab = ap (λ cs. length cs == 1) y.only;
      symtab_only = y.only;
      main_room = room.0;
      main_long = room.1;
      symtab_room = omega (arith, y.ends, long);
    }

-- where the symbol table does not stand once, the rule of the commands that stand once is broken
pub breaks_symtab : (dyn : Bool) (b : List ℕ) (t : Tally) (place : ℕ) → IsScanned dyn b t → IsNotOnce t.symtab place → Breaks dyn b O3 place
breaks_symtab false b t place s not = ((s.inside, s.each), inr (not_one (numbered 2 b) place (rw s.symtab_is at not)))
breaks_symtab true b t place s not = ((s.inside, s.each), inr (not_one (numbered 2 b) place (rw s.symtab_is at not)))

-- each section's header stands in the segment's command
pub sections_stand : (dyn : Bool) (b : List ℕ) (p : Places) (n k : ℕ) → HasCommands dyn b p → n ≡ section_count dyn b → k < n
    → SectionStands b p.main k
unfolding num_sections section_place
sections_stand false b p n k h is lt =
    let place : place_of 25 b ≡ p.main = ap (of_first 0 (λ (c : Command). c.at)) h.main_only in
    let count : n ≡ (reading segment_command b p.main).nsects = is ∙ ap (λ (at : ℕ). (reading segment_command b at).nsects) place in
    record {
      among = omega (arith, is);
      place = omega (arith, place);
      room = omega (arith, place, count, h.main_room);
    }
sections_stand true b p n k h is lt = absurd (omega (arith, is))

pub breaks_main : (dyn : Bool) (b : List ℕ) (t : Tally) (place : ℕ) → IsScanned dyn b t → IsNotOnce t.main place → Breaks dyn b O3 place
breaks_main false b t place s not = ((s.inside, s.each), inl (not_one (numbered 25 b) place (rw s.main_is at not)))
breaks_main true b t place s not = ((s.inside, s.each), inl (not_one (numbered 13 b) place (rw s.main_is at not)))

-- where the symbols or the strings do not stand inside the file, their rule is broken
pub breaks_tables : (dyn : Bool) (b : List ℕ) (p : Places) → HasCommands dyn b p → tables_inside b ≡ false → Breaks dyn b O4 p.symtab
breaks_tables false b p h not = (
  (h.inside, h.each),
  (ap (λ cs. length cs == 1) h.main_only, h.one_symtab),
  (sym (ap (of_first 0 (λ (c : Command). c.at)) h.symtab_only), not),
)
breaks_tables true b p h not = (
  (h.inside, h.each),
  (ap (λ cs. length cs == 1) h.main_only, h.one_symtab),
  (sym (ap (of_first 0 (λ (c : Command). c.at)) h.symtab_only), not),
)
