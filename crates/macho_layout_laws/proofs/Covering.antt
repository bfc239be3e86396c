-- Classes of the template, and the range around cells that rise.
--
-- By cases on the tests that tell a class. One cell more makes the range end where that cell does; since the cells rise, each ends there
-- or before.
use Rattle.std.proofs.Common.{◌≡◌, ℕ, ◌%◌, ◌^◌, ◌<◌, ◌≤◌, ◌⊎◌, ◌==◌, ◌||◌, not, if◌then◌else◌, Bool, true, false, List, [], ◌∷◌, fold, All, AllPairs, Some, refl, ap, ◌∙◌, arith, inl, inr}
use Rattle.std.proofs.lemmas.Bool.{false≢true, eqb-true, or_cases, or_right}
use Rattle.std.proofs.lemmas.List.Elements.{All-nil, All-cons, All-head, All-tail, All-weaker}
use Rattle.macho_records.specs.declared.constants.TheConstants.{S_THREAD_LOCAL_REGULAR, S_THREAD_LOCAL_ZEROFILL}
use Rattle.macho_records.specs.declared.segments.SegmentName.{SegmentName}
use Rattle.macho_records.specs.Sections.{is_template_type, is_zerofill_type, has_instructions}
use Rattle.macho_model.specs.declared.placed.Range64.{Range64}
use Rattle.macho_model.specs.Segments.{TEXT, DATA}
use Rattle.macho_stack.specs.declared.place.PlacedCell.{PlacedCell}
use Rattle.macho_layout.specs.declared.spec.OutputName.{OutputName}
use Rattle.macho_layout.specs.Keys.{padded, same_segment, same_output}
use Rattle.macho_layout.specs.Names.{COMMON_NAME}
use Rattle.macho_layout.specs.Cells.{class_of, is_template_class}
use Rattle.macho_layout.specs.Places.{behind, cover}
use Rattle.macho_layout_laws.proofs.RowFacts.{end_of_cell, CellsRise}
use Rattle.macho_bytes.proofs.Pairs.{pairs_tail, pairs_head}

-- a class of the template is one of `__DATA`, and of a type of the template
pub class_tells : (name : OutputName) (flags : ℕ) → is_template_class (class_of name flags) ≡ true → (is_template_type name.kind ≡ true) ×
    (same_segment name.segment (padded DATA) ≡ true)
class_tells name flags e = by (same_segment name.segment (padded TEXT)) (same_segment name.segment (padded DATA))
    (is_zerofill_type name.kind) (has_instructions flags)
    (name.kind == S_THREAD_LOCAL_REGULAR) (name.kind == S_THREAD_LOCAL_ZEROFILL) (same_output name COMMON_NAME) e
  where
    by : (t d z i r x c : Bool) → is_template_class (if t then (if z then 8 else if i then 0 else 4) else if d then
        (if not z then (if r then 5 else 4) else if x then 6 else if c then 7 else 8) else if z then 8 else 4) ≡ true
        → ((r || x) ≡ true) × (d ≡ true)
    by true d true i r x c e = absurd (false≢true e)
    by true d false true r x c e = absurd (false≢true e)
    by true d false false r x c e = absurd (false≢true e)
    by false true true i r true c e = (or_right r true refl, refl)
    by false true true i r false true e = absurd (false≢true e)
    by false true true i r false false e = absurd (false≢true e)
    by false true false i true x c e = (refl, refl)
    by false true false i false x c e = absurd (false≢true e)
    by false false true i r x c e = absurd (false≢true e)
    by false false false i r x c e = absurd (false≢true e)

-- and a type of the template in `__DATA` has such a class
pub class_template : (name : OutputName) (flags : ℕ) → is_template_type name.kind ≡ true → name.segment ≡ padded DATA → is_template_class
    (class_of name flags) ≡ true
class_template name flags type is = elim (or_cases (name.kind == S_THREAD_LOCAL_REGULAR) (name.kind == S_THREAD_LOCAL_ZEROFILL) type) [
  | inl regular ↦
      ap (λ (n : ℕ). is_template_class (class_of (record { segment = name.segment; name = name.name; kind = n }) flags))
      (eqb-true name.kind S_THREAD_LOCAL_REGULAR regular)
      ∙ ap (λ (s : SegmentName). is_template_class (class_of (record
      { segment = s; name = name.name; kind = S_THREAD_LOCAL_REGULAR }) flags)) is
  | inr zeros ↦
      ap (λ (n : ℕ). is_template_class (class_of (record { segment = name.segment; name = name.name; kind = n }) flags))
      (eqb-true name.kind S_THREAD_LOCAL_ZEROFILL zeros)
      ∙ ap (λ (s : SegmentName). is_template_class (class_of (record
      { segment = s; name = name.name; kind = S_THREAD_LOCAL_ZEROFILL }) flags)) is
]

-- a class of the template is one of two
pub two_classes : (c : ℕ) → is_template_class c ≡ true → (c ≡ 5) ⊎ (c ≡ 6)
two_classes c e = elim (or_cases (c == 5) (c == 6) e) [
  | inl five ↦ inl (eqb-true c 5 five)
  | inr six ↦ inr (eqb-true c 6 six)
]

-- what covers cells that rise
pub record Covers (r : Range64) (cs : List PlacedCell) (r2 : Range64) : Type 0 where
  pub same : fold cover (Some r) cs ≡ Some r2
  pub start : r2.start ≡ r.start
  pub more : r.end ≤ r2.end
  pub each : All (λ c. end_of_cell c ≤ r2.end) cs
  pub most : (m : ℕ) → r.end ≤ m → All (λ c. end_of_cell c ≤ m) cs → r2.end ≤ m

pub covers : (r : Range64) (cs : List PlacedCell) → AllPairs CellsRise cs → All (λ c. r.end ≤ c.start) cs
    → All (λ c. end_of_cell c < 2 ^ 64) cs
    → (r2 : Range64) × Covers r cs r2
covers r [] rise behind_r small = (
  r,
  record {
    same = refl;
    start = refl;
    more = omega arith;
    each = All-nil
        (λ c. end_of_cell c ≤ _);
    most = λ m low all. low;
  },
)
covers r (c ∷ cs) rise behind_r small =
    let end : behind c.start c.cell.size ≡ end_of_cell c = wrap (end_of_cell c) (All-head (λ c. end_of_cell c < 2 ^ 64) c cs small) in
    let next : Range64 = record { start = r.start; end = behind c.start c.cell.size } in
    let later : All (λ (x : PlacedCell). next.end ≤ x.start) cs
    = All-weaker (CellsRise c) (λ (x : PlacedCell). next.end ≤ x.start) (λ x h. omega (arith, h, end)) cs
    (pairs_head CellsRise c cs rise) in
    let rest = covers next cs (pairs_tail CellsRise c cs rise) later (All-tail (λ c. end_of_cell c < 2 ^ 64) c cs small) in
    let first : r.end ≤ c.start = All-head (λ (x : PlacedCell). r.end ≤ x.start) c cs behind_r in (
      rest.0,
      record {
        same = rest.1.same;
        start = rest.1.start;
        more = omega (arith, rest.1.more, end, first);
        each = All-cons (λ x. end_of_cell x ≤ rest.0.end) c cs (omega (arith, rest.1.more, end)) rest.1.each;
        most = λ m low all. rest.1.most m (omega (arith, end, All-head (λ (x : PlacedCell). end_of_cell x ≤ m) c cs all))
            (All-tail (λ (x : PlacedCell). end_of_cell x ≤ m) c cs all);
      },
    )
  where
    wrap : (n : ℕ) → n < 2 ^ 64 → n % 2 ^ 64 ≡ n
    wrap n low = omega arith
