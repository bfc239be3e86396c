-- A list of entries that the test lets through meets the conditions of a section.
--
-- What holds before entry number n of the outer loop: each entry before n is fit, and each two entries before n are apart.
-- What holds in the inner loop before entry m: each entry before m is apart from entry n.
use Rattle.std.proofs.Common.{◌<◌, ℕ, get_or}
use Rattle.macho_unwind.specs.steps.Conditions.{IsFit, AreApart}
use Rattle.macho_unwind.proofs.EntryLookup.{no_entry}
use Rattle.macho_tests.proofs.unwind_sections.are_fit.Given as goal

abbrev pub invariant-loop-later : goal.invariant-loop-later
invariant-loop-later l = record {
  fit : (k : ℕ) → k < l.later → IsFit l.text (get_or l.entries k no_entry);
  apart : (i j : ℕ) → i < j → j < l.later → AreApart (get_or l.entries i no_entry) (get_or l.entries j no_entry);
}

abbrev pub invariant-loop-earlier : goal.invariant-loop-earlier
invariant-loop-earlier l = (i : ℕ) → i < l.earlier → AreApart (get_or l.entries i no_entry) (get_or l.entries l.later no_entry)
