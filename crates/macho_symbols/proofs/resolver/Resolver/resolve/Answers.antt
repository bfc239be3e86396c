use Rattle.std.proofs.Common.{◌≡◌, ℕ, ◌<◌, ap, ◌∙◌, subst, refl, arith, List, [], get_or, replicate, length, filter, ◌≤◌, Vec, vec_len}
use Rattle.std.proofs.lemmas.List.{get_or-replicate, length-replicate}
use Rattle.macho_symbol_names.specs.Kept.{FileRows}
use Rattle.macho_symbol_names.specs.Events.{events, is_strong_of}
use Rattle.macho_symbol_names.specs.Tables.{heads_of, IsClash, IsKnown}
use Rattle.macho_symbols.specs.declared.solved.TheConstants.{UNNUMBERED}
use Rattle.macho_symbols.specs.steps.Solved.{IsNumbered, IsImportIn}
use Rattle.std.proofs.lemmas.List.Elements.{All-nil}
use Rattle.std.proofs.lemmas.Result.{err_from_is_err_and}
use Rattle.macho_symbols.proofs.Targeted.{clash_is, single_is}
use Rattle.macho_symbols.proofs.resolver.Resolver.resolve.Goals as goal

pub take_files-requires-clause-known : goal.take_files-requires-clause-known
take_files-requires-clause-known c = c.in_ok-table.ensures.knows _

pub returns-in_err-found-clause-why : goal.returns-in_err-found-clause-why
returns-in_err-found-clause-why c l keeps =
    let p = err_from_is_err_and c.from_residual-in_err-found.result c.from_residual-in_err-found.ensures.1 in
    rw (p.1, p.2)
    (clash_is l _
    (subst (λ (fs : List FileRows). IsClash (events fs) c.in_err-found.field-0.0) (c.deref-2.ensures.value ∙ c.self.view_is
    ∙ keeps.are) c.in_err-found.ensures.why))

vec_len_is : {X A : Type 0} (v : Vec X A) → vec_len v ≡ length v.items
vec_len_is v = omega arith

-- no import is noted, and no name has the number of one
unnumbered : (numbers : List ℕ) (n : ℕ) (name : List ℕ) (j : ℕ) → numbers ≡ replicate n UNNUMBERED → j < length numbers
    → IsNumbered [] name (get_or numbers j 0)
unnumbered numbers n name j is within =
    let here : get_or numbers j 0 ≡ UNNUMBERED =
    ap (λ ns. get_or ns j 0) is
    ∙ get_or-replicate n j UNNUMBERED 0 (omega (arith, within, ap length is, length-replicate {A = ℕ} n UNNUMBERED)) in
    record { fresh = λ e. refl; old = λ other. absurd (other here); there = λ other. absurd (other here) }

pub invariant_of-result : goal.invariant_of-result
invariant_of-result c = record {
  known = rw (← c.deref-2.ensures.value) c.in_ok-found.ensures.done;
  found = rw (← c.deref-2.ensures.value) c.in_ok-found.ensures.found;
  commons = rw (← c.deref-3.ensures.value) c.in_ok-commons.ensures.commons;
  few_commons = c.in_ok-commons.ensures.few;
  few_imports = omega (arith, ap length c.new-2.ensures.items);
  libraries = rw c.new-2.ensures.items (All-nil (IsImportIn c.self.inside.files.items));
  long =
      ap length (c.in_ok-numbers.ensures.items_if_clones_equal (λ y e. e)) ∙ length-replicate {A = ℕ} c.len.result UNNUMBERED
      ∙ c.len.ensures ∙ vec_len_is c.take_files.new.self.entries;
  numbers = λ j h. rw c.new-2.ensures.items (unnumbered _ _ _ j (c.in_ok-numbers.ensures.items_if_clones_equal (λ y e. e)) h);
}

pub returns-clause-single : goal.returns-clause-single
returns-clause-single c l keeps name =
    let known : IsKnown c.deref-2.result.now (heads_of c.take_files.new.self) c.take_files.new.self.entries.items
    (events c.deref-2.result.now) = c.in_ok-found.ensures.done in
    single_is l name
    (subst (λ (fs : List FileRows). length (filter (is_strong_of name) (events fs)) ≤ 1) (c.deref-2.ensures.value ∙ c.self.view_is
    ∙ keeps.are) (known.knows.single name))
