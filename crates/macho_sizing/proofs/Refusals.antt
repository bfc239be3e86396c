-- A number that passes a limit is one of the link, before a plan or by a plan.
--
-- The numbers that are counted are those that the limits speak of. A plan has as many segments and output sections as its link; of sizes it
-- takes only whether there are initializers and unwind entries, which the rows tell, since unwind information of some entries is not empty.
use Rattle.std.proofs.Common.{◌≡◌, ℕ, ◌^◌, ◌≤◌, ◌==◌, nat_lt, if◌then◌else◌, Bool, false, List, [], ◌∷◌, length, map, sym, ap, ◌∙◌, arith, None}
use Rattle.std.proofs.lemmas.Bool.{lt-ltb, ne_eqb}
use Rattle.std.proofs.lemmas.List.{length-map}
use Rattle.macho_model.specs.declared.placed.Counts.{Counts}
use Rattle.macho_model.specs.declared.targets.Limit.{Limit}
use Rattle.macho_model.specs.declared.targets.Limit.TheVariants as limit
use Rattle.macho_model.specs.Links.{Link}
use Rattle.macho_model.specs.Consumed.{EntryId, entries_of_link}
use Rattle.macho_model.specs.WrittenSum.{content_sum}
use Rattle.macho_promise.specs.Sizes.{AreCounts, unwind_size, unwind_input, text_span}
use Rattle.macho_unwind_pages.specs.Bounds.{unwind_bound_of}
use Rattle.macho_layout.specs.declared.fault.LayoutFault.TheVariants as layout
use Rattle.macho_layout.specs.Plans.{Planning, IsPlanOf}
use Rattle.macho_layout.specs.Laid.{FaultStands}
use Rattle.macho_layout_laws.proofs.Placing.{refusals_are_links}
use Rattle.macho_answer.specs.declared.fault.LinkError.TheVariants.{TooMany, ImageTooLarge}
use Rattle.macho_answer.specs.Standing.{Stands}
use Rattle.macho_consumed.specs.Rows.{entry_row, entry_rows}
use Rattle.macho_consumed.proofs.RowLaws.{are_many}
use Rattle.macho_sizing.specs.declared.asked.SizesOf.{SizesOf}
use Rattle.macho_sizing.specs.declared.numbers.Numbers.{Numbers}
use Rattle.macho_sizing.specs.Asked.{AreOf}
use Rattle.macho_sizing.specs.steps.Passing.{AreNumbers, AreSymbols, Passes, counts_before}
use Rattle.macho_sizing.proofs.Larger.{outputs_kept, content_within}
use Rattle.macho_promise.proofs.Counted.{imports_counted, names_counted, initializers_counted, unwind_counted}

-- THE number that is counted passes its limit
pub number_stands : (l : Link) (counts : Counts) (n : Numbers) (what : Limit) (number : ℕ) → AreNumbers l n → AreSymbols l n
    → AreCounts l counts
    → Passes n what number → Stands l counts (TooMany what number None)
number_stands l counts n limit.Libraries number are symbols counted p = record { stands = (p.0 ∙ are.libraries, p.1); kept = tt }
number_stands l counts n limit.Personalities number are symbols counted p = record { stands = (p.0 ∙ are.personalities, p.1); kept = tt }
number_stands l counts n limit.Imports number are symbols counted p =
    record { stands = (p.0 ∙ are.imports ∙ sym (imports_counted l counts counted), p.1); kept = tt }
number_stands l counts n limit.NameBytes number are symbols counted p =
    record { stands = (p.0 ∙ are.names ∙ sym (names_counted l counts counted), p.1); kept = tt }
number_stands l counts n limit.Symbols number are symbols counted p = record { stands = (p.0 ∙ symbols.are, p.1); kept = tt }
number_stands l counts n limit.Segments number are symbols counted p = absurd p
number_stands l counts n limit.Sections number are symbols counted p = absurd p
number_stands l counts n limit.Pages number are symbols counted p = absurd p

-- unwind information of some entries is not empty
some_unwind : (l : Link) (ds : List EntryId) (n : ℕ) → n ≡ length ds
    → nat_lt 0 n ≡ nat_lt 0 (if length ds == 0 then 0 else unwind_bound_of (map (unwind_input l) ds) (text_span l))
some_unwind l [] n is = ap (nat_lt 0) is
some_unwind l (d ∷ ds) n is =
    let some : (length (d ∷ ds) == 0) ≡ false = ne_eqb (length (d ∷ ds)) 0 (λ h. omega (arith, h)) in
    let bound = unwind_bound_of (map (unwind_input l) (d ∷ ds)) (text_span l) in
    lt-ltb 0 n (omega (arith, is)) ∙ sym (lt-ltb 0 bound (omega arith))
    ∙ ap (λ (b : Bool). nat_lt 0 (if b then 0 else bound)) (sym some)

entries_tell : (l : Link) (n : ℕ) → n ≡ length (entry_rows l) → nat_lt 0 n ≡ nat_lt 0 (unwind_size l)
unfolding entry_rows
entries_tell l n is = some_unwind l (entries_of_link l) n (is ∙ length-map (entries_of_link l) (entry_row l))

-- as many output sections as the link
outputs_before : (l : Link) (a : SizesOf) (counts : Counts) → AreOf l a → AreCounts l counts
    → (nat_lt 0 (length a.initializers.now) ≡ nat_lt 0 counts.initializers) × (nat_lt 0 (length a.entries.now) ≡ nat_lt 0 counts.unwind)
outputs_before l a counts of_link are =
    let many : length a.initializers.now ≡ counts.initializers
    = ap length of_link.read.initializers ∙ sym (are_many l) ∙ sym (initializers_counted l counts are) in (
      ap (nat_lt 0) many,
      entries_tell l (length a.entries.now) (ap length of_link.read.entries.0)
          ∙ ap (nat_lt 0) (sym (unwind_counted l counts are)),
    )

-- THE number that a plan tells passes its limit
pub plan_stands : (l : Link) (p : Planning) (a : SizesOf) (counts : Counts) (what : Limit) (number : ℕ) → AreOf l a → IsPlanOf l p
    → AreCounts l counts
    → FaultStands p (counts_before (length a.initializers.now) (length a.entries.now)) (layout.TooMany what number)
    → Stands l counts (TooMany what number None)
plan_stands l p a counts limit.Segments number of_link plan are f =
    record {
      stands = refusals_are_links l p (counts_before (length a.initializers.now) (length a.entries.now))
          (layout.TooMany limit.Segments number) plan f;
      kept = tt;
    }
plan_stands l p a counts limit.Sections number of_link plan are f =
    let before = counts_before (length a.initializers.now) (length a.entries.now) in
    let r = refusals_are_links l p before (layout.TooMany limit.Sections number) plan f in
    let both = outputs_before l a counts of_link are in
    record { stands = (r.0 ∙ outputs_kept l before counts both.0 both.1, r.1); kept = tt }
plan_stands l p a counts limit.Libraries number of_link plan are f = absurd f
plan_stands l p a counts limit.Personalities number of_link plan are f = absurd f
plan_stands l p a counts limit.Imports number of_link plan are f = absurd f
plan_stands l p a counts limit.NameBytes number of_link plan are f = absurd f
plan_stands l p a counts limit.Symbols number of_link plan are f = absurd f
plan_stands l p a counts limit.Pages number of_link plan are f = absurd f

-- content of 2 ^ 64 bytes is too large
pub large_stands : (l : Link) (counts : Counts) → 2 ^ 64 ≤ content_sum l counts → Stands l counts (ImageTooLarge None)
large_stands l counts large = record { stands = omega (arith, large, content_within l counts); kept = tt }
