-- One pass over the load commands.
--
-- The commands of a file are those passed so far, then those that are left, which begin at the place reached. Each
-- passed one fits. What was found among the passed ones is noted. One more command moves from the front of the rest
-- to the end of the passed ones. At the end nothing is left, so the passed ones are all.
use Rattle.std.proofs.Common.{◌≡◌, ℕ, suc, ◌+◌, ◌-◌, ◌<◌, ◌≤◌, ◌==◌, Bool, true, false, nat_le, ◌&&◌, List, [], ◌∷◌, ◌++◌, length, get_or, if◌then◌else◌, refl, sym, ap, subst, ◌∙◌, inl, inr, arith, append_assoc, length-append}
use Rattle.std.specs.List.{filter}
use Rattle.std.proofs.lemmas.List.{append-nil}
use Rattle.std.proofs.Math.Seq.{get_or-append_seam}
use Rattle.std.proofs.lemmas.Bool.{and_parts, leb-true}
use Rattle.std.proofs.lemmas.List.Elements.{All-nil, All-push, filter-append}
use Rattle.macho_bytes.specs.Layouts.{reading, size_of}
use Rattle.macho_records.specs.Layouts.{mach_header, load_command}
use Rattle.macho_records.specs.declared.header.LoadCommand.{LoadCommand}
use Rattle.macho_records.specs.declared.constants.TheConstants.{LC_SYMTAB}
use Rattle.macho_model.specs.Commands.{Command, command_at, commands_of, commands_from, commands_end, header_of, command_fits}
use Rattle.macho_model.specs.ObjectRules.{commands_inside, needed_in_object, needed_in_dylib}
use Rattle.macho_model.specs.Grammar.{EachCommand, CommandFails, Breaks}
use Rattle.macho_model.specs.declared.rules.ObjectRule.TheVariants.{O2}
use Rattle.macho_object.specs.declared.commands.Found.TheVariants.{Nowhere}
use Rattle.macho_object.specs.declared.commands.Tally.{Tally}
use Rattle.macho_object.specs.steps.Scans.{main_number, needed_of, found_in, found_again, found_if, IsScanned}

-- The commands of a file in front of a place are passed: each fits, and those of both numbers are noted.
pub record IsPassed (dyn : Bool) (b : List ℕ) (left at : ℕ) (t : Tally) : Type 0 where
  pub passed : List Command
  pub all : commands_of b ≡ passed ++ commands_from b at left
  pub within : at ≤ commands_end b
  pub each : EachCommand passed (command_fits (needed_of dyn b) b)
  pub main_is : t.main ≡ found_in (filter (λ c. c.number == main_number dyn) passed)
  pub symtab_is : t.symtab ≡ found_in (filter (λ c. c.number == LC_SYMTAB) passed)

-- one more command among those of a number
found_in-more : (cs : List Command) (c : Command) → found_in (cs ++ c ∷ []) ≡ found_again (found_in cs) c.at
found_in-more [] c = refl
found_in-more (d ∷ []) c = refl
found_in-more (d ∷ e ∷ cs) c = refl

-- one more command, of this number or another
found_in-if : (q : Bool) (cs : List Command) (c : Command) → found_in (cs ++ (if q then c ∷ [] else [])) ≡ found_if q (found_in cs) c.at
found_in-if true cs c = found_in-more cs c
found_in-if false cs c = ap found_in (append-nil cs)

found_in-filter : (p : Command → Bool) (cs : List Command) (c : Command)
    → found_in (filter p (cs ++ c ∷ [])) ≡ found_if (p c) (found_in (filter p cs)) c.at
found_in-filter p cs c = ap found_in (filter-append p cs (c ∷ [])) ∙ found_in-if (p c) (filter p cs) c

-- what it says that a command fits
pub command_whole : (needed : Command → ℕ) (b : List ℕ) (c : Command) → command_fits needed b c ≡ true
    → (size_of load_command ≤ c.size) × (c.at + c.size ≤ commands_end b) × (needed c ≤ c.size)
command_whole needed b c fits =
    let head = nat_le (size_of load_command) c.size in
    let ends = nat_le (c.at + c.size) (commands_end b) in
    let outer = and_parts (head && ends) (nat_le (needed c) c.size) fits in
    let inner = and_parts head ends outer.0 in
    (leb-true _ _ inner.0, leb-true _ _ inner.1, leb-true _ _ outer.1)

-- nothing is passed at first
pub passes_none : (dyn : Bool) (b : List ℕ) (n : ℕ) (t : Tally) → n ≡ (header_of b).ncmds → t.main ≡ Nowhere → t.symtab ≡ Nowhere
    → IsPassed dyn b (n - 0) (size_of mach_header) t
unfolding commands_of commands_end
passes_none dyn b n t is main symtab =
    let e : (header_of b).ncmds ≡ n - 0 = omega (arith, is) in
    record {
      passed = [];
      all = ap (λ (k : ℕ). commands_from b (size_of mach_header) k) e;
      within = omega arith;
      each = All-nil (λ c. command_fits (needed_of dyn b) b c ≡ true);
      main_is = main;
      symtab_is = symtab;
    }

-- one more command is passed
pub passes_one : (dyn : Bool) (b : List ℕ) (n i at : ℕ) (t next : Tally) → IsPassed dyn b (n - i) at t → i < n
    → command_fits (needed_of dyn b) b (command_at b at) ≡ true
    → next.main ≡ found_if ((reading load_command b at).cmd == main_number dyn) t.main at
    → next.symtab ≡ found_if ((reading load_command b at).cmd == LC_SYMTAB) t.symtab at
    → IsPassed dyn b (n - (i + 1)) (at + (reading load_command b at).cmdsize) next
unfolding commands_from
passes_one dyn b n i at t next p lt fits main symtab =
    let c = command_at b at in
    let rest = commands_from b (at + (reading load_command b at).cmdsize) (n - (i + 1)) in
    let e : n - i ≡ suc (n - (i + 1)) = omega arith in
    let all : commands_of b ≡ p.passed ++ c ∷ rest = p.all ∙ ap (λ (k : ℕ). p.passed ++ commands_from b at k) e in
    record {
      passed = p.passed ++ c ∷ [];
      all = all ∙ sym (append_assoc p.passed (c ∷ []) rest);
      within = (command_whole (needed_of dyn b) b c fits).1;
      each = All-push (λ c. command_fits (needed_of dyn b) b c ≡ true) p.passed c p.each fits;
      main_is = main ∙ ap (λ f. found_if (c.number == main_number dyn) f at) p.main_is
          ∙ sym (found_in-filter (λ c. c.number == main_number dyn) p.passed c);
      symtab_is = symtab ∙ ap (λ f. found_if (c.number == LC_SYMTAB) f at) p.symtab_is
          ∙ sym (found_in-filter (λ c. c.number == LC_SYMTAB) p.passed c);
    }

-- the same, as the command was read
pub passes_read : (dyn : Bool) (b : List ℕ) (n i at : ℕ) (t next : Tally) (h : LoadCommand) → IsPassed dyn b (n - i) at t → i < n
    → command_fits (needed_of dyn b) b (command_at b at) ≡ true → h ≡ reading load_command b at
    → next.main ≡ found_if (h.cmd == main_number dyn) t.main at
    → next.symtab ≡ found_if (h.cmd == LC_SYMTAB) t.symtab at
    → IsPassed dyn b (n - (i + 1)) (at + h.cmdsize) next
passes_read dyn b n i at t next h p lt fits is =
    let P : LoadCommand → Type 0 = λ r. next.main ≡ found_if (r.cmd == main_number dyn) t.main at
    → next.symtab ≡ found_if (r.cmd == LC_SYMTAB) t.symtab at
    → IsPassed dyn b (n - (i + 1)) (at + r.cmdsize) next in
    subst P (sym is) (passes_one dyn b n i at t next p lt fits)

-- the command at the place reached is one of the file's
fails_here : (b : List ℕ) (n i at : ℕ) (passed : List Command) (test : Command → Bool)
    → commands_of b ≡ passed ++ commands_from b at (n - i) → i < n
    → test (command_at b at) ≡ false → CommandFails (commands_of b) at test
unfolding commands_from
fails_here b n i at passed test is lt fails =
    let c = command_at b at in
    let rest = commands_from b (at + (reading load_command b at).cmdsize) (n - (i + 1)) in
    let e : n - i ≡ suc (n - (i + 1)) = omega arith in
    let all : commands_of b ≡ passed ++ c ∷ rest = is ∙ ap (λ (k : ℕ). passed ++ commands_from b at k) e in (
      length passed,
      c,
      (
        omega (arith, ap length all, length-append passed (c ∷ rest)),
        ap (λ xs. get_or xs (length passed) c) all ∙ get_or-append_seam passed c rest c,
      ),
      refl,
      fails,
    )

-- where it does not fit, the file breaks the rule of whole commands there
pub breaks_here : (dyn : Bool) (b : List ℕ) (n i at : ℕ) (t : Tally) → IsPassed dyn b (n - i) at t → i < n
    → command_fits (needed_of dyn b) b (command_at b at) ≡ false → Breaks dyn b O2 at
breaks_here false b n i at t p lt fails = inr (fails_here b n i at p.passed (command_fits (needed_in_object b) b) p.all lt fails)
breaks_here true b n i at t p lt fails = inr (fails_here b n i at p.passed (command_fits needed_in_dylib b) p.all lt fails)

-- the commands that end behind the file
pub breaks_front : (dyn : Bool) (b : List ℕ) → commands_inside b ≡ false → Breaks dyn b O2 0
breaks_front false b outside = inl (refl, outside)
breaks_front true b outside = inl (refl, outside)

-- all are passed
pub passes_all : (dyn : Bool) (b : List ℕ) (n i at : ℕ) (t : Tally) → IsPassed dyn b (n - i) at t → n ≤ i → commands_inside b ≡ true
    → IsScanned dyn b t
unfolding commands_from
passes_all dyn b n i at t p le inside =
    let e : n - i ≡ 0 = omega arith in
    let all : commands_of b ≡ p.passed = p.all ∙ ap (λ (k : ℕ). p.passed ++ commands_from b at k) e ∙ append-nil p.passed in
    record {
      inside = inside;
      each = let P : List Command → Type 0 = λ cs. EachCommand cs (command_fits (needed_of dyn b) b) in subst P (sym all) p.each;
      main_is = p.main_is ∙ ap (λ cs. found_in (filter (λ c. c.number == main_number dyn) cs)) (sym all);
      symtab_is = p.symtab_is ∙ ap (λ cs. found_in (filter (λ c. c.number == LC_SYMTAB) cs)) (sym all);
    }
