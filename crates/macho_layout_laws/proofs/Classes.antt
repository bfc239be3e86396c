-- Nine ranks of a row, and the classes of `__DATA` by four tests.
--
-- Ranks that are told one by one are told together. A key of `__DATA` is data or zeros, and by its type and name of the template or of
-- the commons; of
-- these tests each class is one.
use Rattle.std.proofs.Common.{◌≡◌, ℕ, ◌+◌, ◌==◌, ◌&&◌, not, if◌then◌else◌, Bool, true, false, List, [], ◌++◌, filter, refl, sym, ap, ◌∙◌}
use Rattle.std.proofs.lemmas.Bool.{false≢true, eqb-true}
use Rattle.std.proofs.lemmas.List.{append-nil}
use Rattle.macho_records.specs.Sections.{is_zerofill_type}
use Rattle.macho_records.specs.declared.constants.TheConstants.{S_THREAD_LOCAL_REGULAR, S_THREAD_LOCAL_ZEROFILL}
use Rattle.macho_model.specs.Segments.{OutputKey, same_key, common_key}
use Rattle.macho_stack.specs.declared.place.Cell.{Cell}
use Rattle.macho_stack.specs.Ranks.{has_rank, of_ranks}
use Rattle.macho_layout.proofs.CostLaw.{key-decides}
use Rattle.macho_layout_laws.proofs.Ordered.{nine_ranks, pair_same}

-- nine ranks that are told one by one
pub nine_row : (n : ℕ) (cells b0 b1 b2 b3 b4 b5 b6 b7 b8 : List Cell) → filter (has_rank (n + 0)) cells ≡ b0
    → filter (has_rank (n + 1)) cells
    ≡ b1 → filter (has_rank (n + 2)) cells ≡ b2
    → filter (has_rank (n + 3)) cells ≡ b3 → filter (has_rank (n + 4)) cells ≡ b4 → filter (has_rank (n + 5)) cells ≡ b5 → filter
    (has_rank (n + 6)) cells ≡ b6
    → filter (has_rank (n + 7)) cells ≡ b7 → filter (has_rank (n + 8)) cells ≡ b8 → of_ranks n 9 cells ≡ b0 ++ b1 ++ b2 ++ b3 ++ b4 ++ b5
    ++ b6 ++ b7 ++ b8
nine_row n cells b0 b1 b2 b3 b4 b5 b6 b7 b8 e0 e1 e2 e3 e4 e5 e6 e7 e8 =
    let f : ℕ → List Cell = λ k. filter (has_rank (n + k)) cells in
    let s1 = pair_same (f 0) (f 1) b0 b1 e0 e1 in
    let s2 = pair_same (f 0 ++ f 1) (f 2) (b0 ++ b1) b2 s1 e2 in
    let s3 = pair_same (f 0 ++ f 1 ++ f 2) (f 3) (b0 ++ b1 ++ b2) b3 s2 e3 in
    let s4 = pair_same (f 0 ++ f 1 ++ f 2 ++ f 3) (f 4) (b0 ++ b1 ++ b2 ++ b3) b4 s3 e4 in
    let s5 = pair_same (f 0 ++ f 1 ++ f 2 ++ f 3 ++ f 4) (f 5) (b0 ++ b1 ++ b2 ++ b3 ++ b4) b5 s4 e5 in
    let s6 = pair_same (f 0 ++ f 1 ++ f 2 ++ f 3 ++ f 4 ++ f 5) (f 6) (b0 ++ b1 ++ b2 ++ b3 ++ b4 ++ b5) b6 s5 e6 in
    let s7 = pair_same (f 0 ++ f 1 ++ f 2 ++ f 3 ++ f 4 ++ f 5 ++ f 6) (f 7) (b0 ++ b1 ++ b2 ++ b3 ++ b4 ++ b5 ++ b6) b7 s6 e7 in
    nine_ranks n cells ∙ pair_same (f 0 ++ f 1 ++ f 2 ++ f 3 ++ f 4 ++ f 5 ++ f 6 ++ f 7) (f 8)
    (b0 ++ b1 ++ b2 ++ b3 ++ b4 ++ b5 ++ b6 ++ b7) b8 s7 e8

-- three empty lists behind a list
pub nothing_more : {X : Type 0} (a b : List X) → a ++ [] ++ [] ++ [] ++ b ≡ a ++ b
nothing_more {X} a b = ap (λ (x : List X). x ++ b) (append-nil (a ++ [] ++ []) ∙ append-nil (a ++ []) ∙ append-nil a)

-- what a test of a key says of its type
pub regular_data : (t : ℕ) → (t == S_THREAD_LOCAL_REGULAR) ≡ true → is_zerofill_type t ≡ false
regular_data t e = ap is_zerofill_type (eqb-true t S_THREAD_LOCAL_REGULAR e)

pub zero_data : (t : ℕ) → (t == S_THREAD_LOCAL_ZEROFILL) ≡ true → is_zerofill_type t ≡ true
zero_data t e = ap is_zerofill_type (eqb-true t S_THREAD_LOCAL_ZEROFILL e)

pub common_data : (key : OutputKey) → same_key common_key key ≡ true → (is_zerofill_type key.type ≡ true) ×
    ((key.type == S_THREAD_LOCAL_ZEROFILL) ≡ false)
common_data key e =
    let is = (key-decides common_key key).0 e in
    (ap (λ (k : OutputKey). is_zerofill_type k.type) (sym is), ap (λ (k : OutputKey). k.type == S_THREAD_LOCAL_ZEROFILL) (sym is))

-- the class of a key of `__DATA`, by four tests
abbrev pub data_class : Bool → Bool → Bool → Bool → ℕ
data_class z r x m = if not z then (if r then 5 else 4) else if x then 6 else if m then 7 else 8

pub four : (z r x m : Bool) → (data_class z r x m == 4) ≡ (not z && not r)
four true r true m = refl
four true r false true = refl
four true r false false = refl
four false true x m = refl
four false false x m = refl

pub five : (z r x m : Bool) → (r ≡ true → z ≡ false) → (data_class z r x m == 5) ≡ r
five true true x m f = absurd (false≢true (sym (f refl)))
five true false true m f = refl
five true false false true f = refl
five true false false false f = refl
five false true x m f = refl
five false false x m f = refl

pub six : (z r x m : Bool) → (x ≡ true → z ≡ true) → (data_class z r x m == 6) ≡ x
six true r true m f = refl
six true r false true f = refl
six true r false false f = refl
six false r true m f = absurd (false≢true (f refl))
six false true false m f = refl
six false false false m f = refl

pub seven : (z r x m : Bool) → (m ≡ true → (z ≡ true) × (x ≡ false)) → (data_class z r x m == 7) ≡ m
seven true r true true f = absurd (false≢true (sym (f refl).1))
seven true r true false f = refl
seven true r false true f = refl
seven true r false false f = refl
seven false r x true f = absurd (false≢true (f refl).0)
seven false true x false f = refl
seven false false x false f = refl

pub eight : (z r x m : Bool) → (data_class z r x m == 8) ≡ (z && not x && not m)
eight true r true m = refl
eight true r false true = refl
eight true r false false = refl
eight false true x m = refl
eight false false x m = refl

pub no_class : (c : ℕ) → (4 == c) ≡ false → (5 == c) ≡ false → (6 == c) ≡ false → (7 == c) ≡ false → (8 == c) ≡ false → (z r x m : Bool) →
    (data_class z r x m == c) ≡ false
no_class c a b d e f true r true m = d
no_class c a b d e f true r false true = e
no_class c a b d e f true r false false = f
no_class c a b d e f false true x m = b
no_class c a b d e f false false x m = a

pub none0 : (z r x m : Bool) → (data_class z r x m == 0) ≡ false
none0 = no_class 0 refl refl refl refl refl

pub none1 : (z r x m : Bool) → (data_class z r x m == 1) ≡ false
none1 = no_class 1 refl refl refl refl refl

pub none2 : (z r x m : Bool) → (data_class z r x m == 2) ≡ false
none2 = no_class 2 refl refl refl refl refl

pub none3 : (z r x m : Bool) → (data_class z r x m == 3) ≡ false
none3 = no_class 3 refl refl refl refl refl
