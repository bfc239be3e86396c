-- Where all numbers are within their limits, and a placement is answered, no limit is passed.
use Rattle.std.proofs.Common.{◌≡◌, ℕ, ◌≤◌, if◌then◌else◌, Bool, true, false, List, length, map, refl, sym, ap, ◌∙◌, subst, arith, None, Some, ◌^◌, inl, inr}
use Rattle.macho_model.specs.declared.placed.Counts.{Counts}
use Rattle.macho_model.specs.declared.targets.Limit.{Limit}
use Rattle.macho_model.specs.declared.targets.Limit.TheVariants as limit
use Rattle.macho_model.specs.Links.{Link}
use Rattle.macho_model.specs.Limits.{PassesLimit}
use Rattle.macho_model.specs.Fixups.{entries_have_addends}
use Rattle.macho_model.specs.Images.{IMPORT_FORMAT, IMPORT_ADDEND_FORMAT, import_entry_size}
use Rattle.macho_model.specs.Placement.{Placed}
use Rattle.macho_model.specs.Told.{ToldExport}
use Rattle.macho_promise.specs.TrieSays.{IsTrieText}
use Rattle.macho_promise.specs.Sizes.{AreCounts, IsTrieSize, counts_with}
use Rattle.macho_model.specs.WrittenSum.{content_sum}
use Rattle.macho_linkedit.specs.declared.exports.NamedExport.{NamedExport}
use Rattle.macho_linkedit.specs.Tries.{kept, AreKept}
use Rattle.macho_linkedit.proofs.TrieSaid.{trie_size_is_kept}
use Rattle.macho_sizing.specs.declared.numbers.Numbers.{Numbers}
use Rattle.macho_size_laws.specs.Limits.{LimitsHold}
use Rattle.macho_sizing.specs.steps.Passing.{AreNumbers, AreSymbols, AreWithin}
use Rattle.macho_sizing.specs.declared.asked.LinkSizes.{LinkSizes}
use Rattle.macho_sizing.specs.Sized.{IsOfNumbers, AreSizesOf}
use Rattle.macho_sizing.specs.steps.Rooms.{IsAnswered, TellsRoom}
use Rattle.macho_sizing.proofs.Larger.{sections_within, unwind_within}
use Rattle.macho_sizing.proofs.Spans.{span_within}
use Rattle.macho_promise.proofs.Counted.{imports_counted, names_counted, unwind_counted}

-- no number passes its limit
pub numbers_hold : (l : Link) (counts : Counts) (n : Numbers) → AreNumbers l n → AreSymbols l n → AreWithin n → AreCounts l counts
    → (what : Limit) (number : ℕ) → IsOfNumbers what → PassesLimit l counts what number None → ⊥
numbers_hold l counts n are symbols within counted limit.Segments number of x = of
numbers_hold l counts n are symbols within counted limit.Sections number of x = of
numbers_hold l counts n are symbols within counted limit.Libraries number of x = omega (arith, x.0, x.1, are.libraries, within.libraries)
numbers_hold l counts n are symbols within counted limit.Personalities number of x =
    omega (arith, x.0, x.1, are.personalities, within.personalities)
numbers_hold l counts n are symbols within counted limit.Imports number of x =
    omega (arith, x.0, x.1, are.imports, within.imports, imports_counted l counts counted)
numbers_hold l counts n are symbols within counted limit.NameBytes number of x =
    omega (arith, x.0, x.1, are.names, within.names, names_counted l counts counted)
numbers_hold l counts n are symbols within counted limit.Symbols number of x = omega (arith, x.0, x.1, symbols.are, within.symbols)
numbers_hold l counts n are symbols within counted limit.Pages number of x = omega (arith, x.0, x.1)

-- THE limits hold
pub limits_hold : (l : Link) (exports : List NamedExport) (s : LinkSizes) (q : Placed) → AreSizesOf l exports s
    → IsAnswered l s.counts q → LimitsHold l s.counts q
limits_hold l exports s q sizes answered = record {
  numbers = none;
  pages = pages;
  sum = answered.laid.passes.sum;
  files = answered.laid.passes.files;
  ranges = answered.laid.passes.ranges;
}
  where
    none : (what : Limit) (number : ℕ) → PassesLimit l s.counts what number None → ⊥
    none limit.Segments number x = answered.laid.passes.segments number x
    none limit.Sections number x = answered.laid.passes.sections number x
    none limit.Libraries number x = sizes.numbers limit.Libraries number tt x
    none limit.Personalities number x = sizes.numbers limit.Personalities number tt x
    none limit.Imports number x = sizes.numbers limit.Imports number tt x
    none limit.NameBytes number x = sizes.numbers limit.NameBytes number tt x
    none limit.Symbols number x = sizes.numbers limit.Symbols number tt x
    none limit.Pages number x = sizes.numbers limit.Pages number tt x

    pages : (what : Limit) (number : ℕ) → PassesLimit l s.counts what number (Some q) → ⊥
    pages limit.Pages number x = answered.pages number x
    pages limit.Segments number x = x
    pages limit.Sections number x = x
    pages limit.Libraries number x = x
    pages limit.Personalities number x = x
    pages limit.Imports number x = x
    pages limit.NameBytes number x = x
    pages limit.Symbols number x = x

-- the sizes that are counted are those of the link
with_trie : (l : Link) (size : ℕ) → (counts_with l size).trie ≡ size
unfolding counts_with
with_trie l size = refl

pub trie_counted : (l : Link) (size : ℕ) (counts : Counts) → counts ≡ counts_with l size → counts.trie ≡ size
trie_counted l size counts is = ap (λ (c : Counts). c.trie) is ∙ with_trie l size

pub counted_are : (l : Link) (told : List ToldExport) (exports : List NamedExport) (bytes : List ℕ) (size : ℕ) (counts : Counts)
    → AreKept l told exports → IsTrieText (map kept exports) bytes → length bytes ≡ size → counts ≡ counts_with l size → AreCounts l counts
counted_are l told exports bytes size counts keeps text long is =
    let trie = trie_counted l size counts is in
    record {
      trie = subst (IsTrieSize l) (sym trie) (trie_size_is_kept l told exports bytes size keeps text long);
      are = is ∙ ap (counts_with l) (sym trie);
    }

-- an entry of the import table has 8 bytes at most
pub entry_small : (l : Link) (size : ℕ) (counts : Counts) → counts ≡ counts_with l size → counts.import_size ≤ 8
unfolding counts_with
entry_small l size counts is = by (entries_have_addends l) (ap (λ (c : Counts). c.import_size) is)
  where
    by : (b : Bool) → counts.import_size ≡ import_entry_size (if b then IMPORT_ADDEND_FORMAT else IMPORT_FORMAT) → counts.import_size ≤ 8
    by true e = omega (arith, e)
    by false e = omega (arith, e)

-- where no room is told the content is too large
pub content_large : (l : Link) (counts : Counts) → AreCounts l counts → TellsRoom l None → 2 ^ 64 ≤ content_sum l counts
content_large l counts are room = elim room [
  | inl span ↦ omega (arith, span, span_within l, sections_within l counts)
  | inr bound ↦ omega (arith, bound, unwind_counted l counts are, unwind_within l counts)
]
