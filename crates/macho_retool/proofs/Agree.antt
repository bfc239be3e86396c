-- Records, texts and numbers that two lists of bytes say at two places, where their bytes agree.
--
-- A record is read row by row, each row at its offset: a number by its own bytes, a text as its bytes. So two lists that agree on the bytes
-- of a record say the same one.
use Rattle.std.proofs.Common.{◌≡◌, ℕ, zero, suc, ◌+◌, ◌*◌, ◌<◌, ◌≤◌, List, [], ◌∷◌, length, get_or, slice_range, slice_index, refl, sym, ap, ◌∙◌, arith}
use Rattle.std.proofs.Math.Nat.{mul-suc}
use Rattle.std.proofs.lemmas.List.{ext_get_or}
use Rattle.std.proofs.lemmas.List.Edits.{get_or-between, length-between}
use Rattle.macho_bytes.specs.Numbers.{ByteOrder, le_at}
use Rattle.macho_bytes.specs.Layouts.{size_of, reading}
use Rattle.macho_bytes.specs.Spellings.{Row, numbers, text, Spelled, row_size, row_read, numbers_at, size_from, read_from}
use Rattle.macho_bytes.proofs.Reading.{IsLocal, little_is_local}

-- the n bytes of x from i on are those of y from j on
pub record Agree (n : ℕ) (x y : List ℕ) (i j : ℕ) : Type 0 where
  pub first : i + n ≤ length x
  pub second : j + n ≤ length y
  pub same : (k : ℕ) → k < n → get_or x (i + k) 0 ≡ get_or y (j + k) 0

-- so do fewer of them
pub agree_part : (n m o : ℕ) (x y : List ℕ) (i j p q : ℕ) → Agree n x y i j → o + m ≤ n → p ≡ i + o → q ≡ j + o → Agree m x y p q
agree_part n m o x y i j p q a fits is_p is_q =
    record {
      first = let h = a.first in omega (arith, h);
      second = let h = a.second in omega (arith, h);
      same = λ k lt.
          ap (λ (e : ℕ). get_or x e 0) (omega arith) ∙ a.same (o + k) (omega arith) ∙ ap (λ (e : ℕ). get_or y e 0) (omega arith);
    }

-- the text
pub text-agrees : (n : ℕ) (x y : List ℕ) (i j p q : ℕ) → Agree n x y i j → p ≡ i + n → q ≡ j + n
    → slice_range x i p ≡ slice_range y j q
text-agrees n x y i j p q a is_p is_q =
    let h = a.first in
    let g = a.second in
    let long_x : length (slice_range x i p) ≡ n = length-between x i p (omega (arith, h)) ∙ omega arith in
    let long_y : length (slice_range y j q) ≡ n = length-between y j q (omega (arith, g)) ∙ omega arith in
    ext_get_or 0 (slice_range x i p) (slice_range y j q) (long_x ∙ sym long_y)
    (λ k lt. get_or-between x i p k 0 (omega (arith, long_x)) ∙ a.same k (omega (arith, long_x))
    ∙ sym (get_or-between y j q k 0 (omega (arith, long_x))))

-- a little-endian number
pub number-agrees : (n w o : ℕ) (x y : List ℕ) (i j : ℕ) → Agree n x y i j → o + w ≤ n → le_at w x (i + o) ≡ le_at w y (j + o)
number-agrees n w o x y i j a fits =
    little_is_local.alike w x y (i + o) (j + o)
    (λ k lt. ap (λ (e : ℕ). get_or x e 0) (omega arith) ∙ a.same (o + k) (omega arith) ∙ ap (λ (e : ℕ). get_or y e 0) (omega arith))

-- a row of numbers
numbers-agree : (order : ByteOrder) → IsLocal order → (n w : ℕ) (x y : List ℕ) (i j offset count : ℕ) → Agree n x y i j
    → offset + w * count ≤ n → numbers_at order w x i offset count ≡ numbers_at order w y j offset count
numbers-agree order local n w x y i j offset zero a fits = refl
numbers-agree order local n w x y i j offset (suc count) a fits =
    let step : w * suc count ≡ w + w * count = mul-suc w count ∙ omega arith in
    let here = local.alike w x y (i + offset) (j + offset)
    (λ k lt. ap (λ (e : ℕ). get_or x e 0) (omega arith) ∙ a.same (offset + k) (omega (arith, step))
    ∙ ap (λ (e : ℕ). get_or y e 0) (omega arith)) in
    let rest = numbers-agree order local n w x y i j (offset + w) count a (omega (arith, step)) in
    rw (here, rest) refl

-- a row
row-agrees : {R : Type 0} (order : ByteOrder) → IsLocal order → (n : ℕ) (blank r : R) (x y : List ℕ) (i j offset : ℕ) (row : Row R)
    → Agree n x y i j → offset + row_size blank row ≤ n → row_read order blank x i offset r row ≡ row_read order blank y j offset r row
row-agrees order local n blank r x y i j offset (numbers w fields set) a fits =
    ap (λ (ns : List ℕ). set (slice_index ns) r) (numbers-agree order local n w x y i j offset (length (fields blank)) a fits)
row-agrees order local n blank r x y i j offset (text field set) a fits =
    ap (λ (t : List ℕ). set t r)
    (text-agrees (length (field blank)) x y (i + offset) (j + offset) (i + (offset + length (field blank)))
    (j + (offset + length (field blank)))
    (agree_part n (length (field blank)) offset x y i j (i + offset) (j + offset) a fits refl refl) (omega arith) (omega arith))

-- rows have no less than one of them
size-grows : {R : Type 0} (blank : R) (offset : ℕ) (rows : List (Row R)) → offset ≤ size_from blank offset rows
size-grows blank offset [] = omega arith
size-grows blank offset (row ∷ rows) = let rest = size-grows blank (offset + row_size blank row) rows in omega (arith, rest)

rows-agree : {R : Type 0} (order : ByteOrder) → IsLocal order → (n : ℕ) (blank r : R) (x y : List ℕ) (i j offset : ℕ) (rows : List (Row R))
    → Agree n x y i j → size_from blank offset rows ≤ n → read_from order blank x i offset r rows ≡ read_from order blank y j offset r rows
rows-agree order local n blank r x y i j offset [] a fits = refl
rows-agree {R = R} order local n blank r x y i j offset (row ∷ rows) a fits =
    let grows = size-grows blank (offset + row_size blank row) rows in
    let here = row-agrees order local n blank r x y i j offset row a (omega (arith, fits, grows)) in
    ap (λ (z : R). read_from order blank x i (offset + row_size blank row) z rows) here
    ∙ rows-agree order local n blank (row_read order blank y j offset r row) x y i j (offset + row_size blank row) rows a fits

-- a record
pub reading-agrees : {R : Type 0} (s : Spelled R) → IsLocal s.layout.order → (x y : List ℕ) (i j : ℕ) → Agree (size_of s.layout) x y i j
    → reading s.layout x i ≡ reading s.layout y j
unfolding reading
reading-agrees s local x y i j a =
    s.same x i ∙ rows-agree s.layout.order local (size_of s.layout) s.blank s.blank x y i j 0 s.rows a (omega (arith, s.sized))
    ∙ sym (s.same y j)
