-- A table of relocations by place, relocation by relocation.
--
-- So far each cell of the table tells the relocations at its place. Where the next relocation stands at a multiple of 8 within the
-- table, it is the last one at that place, and its cell has one more; at another place nothing changes, since its address is another.
-- Beside it the least address that is no multiple of 8 is the lesser of the one so far and the next.
use Rattle.std.proofs.Common.{◌≡◌, ◌≢◌, ℕ, ◌+◌, ◌*◌, ◌/◌, ◌%◌, ◌<◌, ◌≤◌, ◌==◌, eqb, Bool, true, false, cond, List, [], ◌∷◌, ◌++◌, length, get_or, set, nat_lt, if◌then◌else◌, Option, Some, None, replicate, refl, sym, ap, ◌∙◌, subst, arith, below_more, length-set, get_or-set_other, get_or-set_same}
use Rattle.std.proofs.lemmas.Bool.Decides.{nat_tests}
use Rattle.std.proofs.lemmas.List.{append-nil, get_or_default, length-replicate, get_or-replicate}
use Rattle.macho_wire.specs.declared.relocations.RelocationInfo.{RelocationInfo}
use Rattle.macho_model.specs.Objects.{section_at, relocation_at}
use Rattle.macho_consumed.specs.declared.places.Cell.{Cell}
use Rattle.macho_consumed.specs.declared.places.Cell.TheVariants.{Empty}
use Rattle.macho_consumed.specs.steps.Places.{found, CellTells, IsTable, IsBetween, NoneBelow, IsLeast}
use Rattle.macho_consumed.proofs.Ranges.{kept_one, filter_range_more}

-- nothing is found among no relocations
pub table_none : (b : List ℕ) (k n : ℕ) (cells : List Cell) → n ≡ (section_at b k).size / 8 → cells ≡ replicate n Empty
    → IsTable b k 0 cells
unfolding found
table_none b k n cells size is = record {
  long = rw is (length-replicate n Empty ∙ size);
  cell = λ i lt. let bound : i < n = omega (arith, lt, ap length is, length-replicate {A = Cell} n Empty) in subst (CellTells []) (sym
      (ap (λ (cs : List Cell). get_or cs i Empty) is ∙ get_or-replicate {A = Cell} n i Empty Empty bound)) refl;
}

pub least_none : (b : List ℕ) (k : ℕ) → IsLeast b k 0 None
least_none b k = λ bound r lt. absurd (omega arith)

-- one relocation more
pub found_more : (b : List ℕ) (k n place : ℕ) → found b k (n + 1) place ≡ found b k n place ++ kept_one (λ r. eqb
    (relocation_at b k r).r_address place) n
unfolding found
found_more b k n place = filter_range_more (λ r. eqb (relocation_at b k r).r_address place) n

found_here : (b : List ℕ) (k n place : ℕ) → (relocation_at b k n).r_address ≡ place → found b k (n + 1) place ≡ found b k n place ++ n ∷ []
found_here b k n place at =
    let hit : eqb (relocation_at b k n).r_address place ≡ true = grind (arith, nat_tests, at) in
    found_more b k n place ∙ ap (λ (t : Bool). found b k n place ++ cond t (n ∷ []) []) hit

found_elsewhere : (b : List ℕ) (k n place : ℕ) → (relocation_at b k n).r_address ≢ place → found b k (n + 1) place ≡ found b k n place
found_elsewhere b k n place at =
    let miss : eqb (relocation_at b k n).r_address place ≡ false = grind (arith, nat_tests, at) in
    found_more b k n place ∙ ap (λ (t : Bool). found b k n place ++ cond t (n ∷ []) []) miss ∙ append-nil (found b k n place)

-- its cell has one more
abbrev pub HasMore : ℕ → Cell → Cell → Type 0
HasMore n old new = (xs : List ℕ) → CellTells xs old → CellTells (xs ++ n ∷ []) new

pub more_of : (n : ℕ) (new : Cell) (place : ℕ) (cells : List Cell) (old : Cell) → place < length cells → old ≡ get_or cells place old
    → HasMore n old new → HasMore n (get_or cells place Empty) new
more_of n new place cells old lt is more = subst (λ (c : Cell). HasMore n c new) (is ∙ sym (get_or_default cells place Empty old lt)) more

cell_more : (b : List ℕ) (k n place i : ℕ) (cells : List Cell) (new : Cell) (t : Bool) → eqb i place ≡ t → IsTable b k n cells
    → (relocation_at b k n).r_address ≡ 8 * place → place < length cells → HasMore n (get_or cells place Empty) new → i < length cells
    → CellTells (found b k (n + 1) (8 * i)) (get_or (set cells place new) i Empty)
cell_more b k n place i cells new true e table at lt more within =
    let same : i ≡ place = grind (arith, nat_tests, e) in
    subst (λ j. CellTells (found b k (n + 1) (8 * j)) (get_or (set cells place new) j Empty)) (sym same)
    (rw (get_or-set_same, found_here b k n (8 * place) at) (more (found b k n (8 * place)) (table.cell place lt)))
cell_more b k n place i cells new false e table at lt more within =
    let other : i ≢ place = grind (arith, nat_tests, e) in
    let apart : (relocation_at b k n).r_address ≢ 8 * i = λ same. other (omega (arith, same, at)) in
    rw (get_or-set_other, found_elsewhere b k n (8 * i) apart) (table.cell i within)

pub table_more : (b : List ℕ) (k n place : ℕ) (cells : List Cell) (new : Cell) → IsTable b k n cells
    → (relocation_at b k n).r_address ≡ 8 * place → place < length cells → HasMore n (get_or cells place Empty) new
    → IsTable b k (n + 1) (set cells place new)
table_more b k n place cells new table at lt more = record {
  long = length-set cells place new ∙ table.long;
  cell = λ i within. cell_more b k n place i cells new (eqb i place) refl table at lt more
      (omega (arith, within, length-set cells place new));
}

-- or it has no place in the table
pub table_same : (b : List ℕ) (k n : ℕ) (cells : List Cell) → IsTable b k n cells
    → ((i : ℕ) → i < length cells → (relocation_at b k n).r_address ≢ 8 * i) → IsTable b k (n + 1) cells
table_same b k n cells table apart = record {
  long = table.long;
  cell = λ i within. subst (λ (xs : List ℕ). CellTells xs (get_or cells i Empty)) (sym (found_elsewhere b k n (8 * i) (apart i within)))
      (table.cell i within);
}

-- what is got of a relocation
pub told : (b : List ℕ) (k r n : ℕ) (x : RelocationInfo) → Some x ≡ (if nat_lt r n then Some (relocation_at b k r) else None)
    → x ≡ relocation_at b k r
told b k r n x e = by (nat_lt r n) e
  where
    by : (t : Bool) → Some x ≡ (if t then Some (relocation_at b k r) else None) → x ≡ relocation_at b k r
    by true e = cc
    by false e = cc
