-- Numbers that stand read back, in either byte order.
--
-- The number of w bytes at a place is that of the list from there on, and reads no byte past its own (`byteorder`'s
-- laws). Where the spelling of n stands at the place, the list from there on begins with that spelling, so the
-- number read is n, if n fits w bytes. A row of numbers is the spellings joined end to end, each w bytes long, so
-- number k stands w * k bytes behind the row's start.
use Rattle.std.proofs.Common.{◌≡◌, ℕ, ◌+◌, ◌*◌, ◌^◌, ◌-◌, ◌<◌, List, [], ◌∷◌, ◌++◌, length, get_or, take, drop, sym, ap, ◌∙◌, arith}
use Rattle.std.proofs.Math.Nat.{mul-suc}
use Rattle.std.proofs.lemmas.List.{get_or_append_left, get_or-append-add, length-append, take-append-drop, append-nil, drop-drop}
use Rattle.std.proofs.lemmas.Grind.{flat_map-append}
use Rattle.std.proofs.lemmas.List.Edits.{get_or-between}
use Rattle.byteorder.specs.Endian.{little_number, big_number}
use Rattle.byteorder.specs.Numbers.{big_number-reads_back, little_number-reads_back, length-bytes_low_first, length-bytes_high_first}
use Rattle.macho_bytes.specs.Numbers.{ByteOrder, little, big, le_at, be_at, le_bytes, be_bytes, row_bytes}
use Rattle.macho_bytes.specs.Texts.{Part, end_of, Stands}
use Rattle.macho_bytes.proofs.Puts.{stands_by_bytes}

-- A byte order spells a number of w bytes by w bytes, and reads it where they stand first.
pub record IsSound (order : ByteOrder) : Type 0 where
  pub long : (w n : ℕ) → length (order.bytes_of w n) ≡ w
  pub first : (w n : ℕ) (bytes rest : List ℕ) (at : ℕ) → n < 256 ^ w → drop at bytes ≡ order.bytes_of w n ++ rest
      → order.number_at w bytes at ≡ n

pub little_is_sound : IsSound little
unfolding le_at le_bytes
little_is_sound = record {
  long = λ w n. length-bytes_low_first 0 w n;
  first = λ w n bytes rest at fits is. ap (λ (t : List ℕ). little_number w t) is ∙ little_number-reads_back w n rest fits;
}

pub big_is_sound : IsSound big
unfolding be_at be_bytes
big_is_sound = record {
  long = λ w n. length-bytes_high_first w n;
  first = λ w n bytes rest at fits is. ap (λ (t : List ℕ). big_number w t) is ∙ big_number-reads_back w n rest fits;
}

-- where a part stands, the list from its place on begins with its text
pub drop-stands : (bytes : List ℕ) (p : Part) → Stands bytes p → drop p.at bytes ≡ p.text ++ drop (end_of p) bytes
drop-stands bytes p s =
    let split : take (end_of p - p.at) (drop p.at bytes) ++ drop (end_of p - p.at) (drop p.at bytes) ≡ drop p.at bytes =
    take-append-drop (end_of p - p.at) (drop p.at bytes) in
    let rest : drop (end_of p - p.at) (drop p.at bytes) ≡ drop (end_of p) bytes =
    drop-drop (end_of p - p.at) p.at bytes ∙ ap (λ (k : ℕ). drop k bytes) (omega arith) in
    sym split ∙ ap (λ (t : List ℕ). t ++ drop (end_of p - p.at) (drop p.at bytes)) s.same ∙ ap (λ (t : List ℕ). p.text ++ t) rest

-- the front and the back of a text that stands
pub stands-front : (bytes : List ℕ) (at : ℕ) (x y : List ℕ) → Stands bytes (record { at = at; text = x ++ y })
    → Stands bytes (record { at = at; text = x })
stands-front bytes at x y s =
    stands_by_bytes bytes (record { at = at; text = x }) (omega (arith, s.within, length-append x y))
    (λ i h. sym (get_or-between bytes at (at + length (x ++ y)) i 0 (omega (arith, length-append x y)))
    ∙ ap (λ (t : List ℕ). get_or t i 0) s.same ∙ get_or_append_left x y 0 i h)

pub stands-back : (bytes : List ℕ) (at next : ℕ) (x y : List ℕ) → next ≡ at + length x → Stands bytes (record { at = at; text = x ++ y })
    → Stands bytes (record { at = next; text = y })
stands-back bytes at next x y is s =
    stands_by_bytes bytes (record { at = next; text = y }) (omega (arith, s.within, length-append x y))
    (λ i h. ap (λ (k : ℕ). get_or bytes k 0) (omega arith)
    ∙ sym (get_or-between bytes at (at + length (x ++ y)) (length x + i) 0 (omega (arith, length-append x y)))
    ∙ ap (λ (t : List ℕ). get_or t (length x + i) 0) s.same ∙ get_or-append-add x y i 0)

-- a number reads back where its spelling stands
pub number-stands : (order : ByteOrder) → IsSound order → (w n : ℕ) (bytes : List ℕ) (at : ℕ) → n < 256 ^ w
    → Stands bytes (record { at = at; text = order.bytes_of w n }) → order.number_at w bytes at ≡ n
number-stands order sound w n bytes at fits s =
    sound.first w n bytes (drop (end_of (record { at = at; text = order.bytes_of w n })) bytes) at fits
    (drop-stands bytes (record { at = at; text = order.bytes_of w n }) s)

-- a row has w bytes for each number
pub length-row_bytes : (order : ByteOrder) → IsSound order → (w : ℕ) (ns : List ℕ) → length (row_bytes order w ns) ≡ w * length ns
unfolding row_bytes
length-row_bytes order sound w [] = omega arith
length-row_bytes order sound w (n ∷ ns) =
    let ih = length-row_bytes order sound w ns in
    let here = sound.long w n in
    let split = length-append (order.bytes_of w n) (row_bytes order w ns) in
    omega (arith, ih, here, split, mul-suc w (length ns))

-- one number more of a row
pub row_bytes-more : (order : ByteOrder) (w : ℕ) (ns : List ℕ) (n : ℕ)
    → row_bytes order w (ns ++ n ∷ []) ≡ row_bytes order w ns ++ order.bytes_of w n
unfolding row_bytes
row_bytes-more order w ns n =
    flat_map-append (order.bytes_of w) ns (n ∷ []) ∙ ap (λ (t : List ℕ). row_bytes order w ns ++ t) (append-nil (order.bytes_of w n))

-- the same for each order
pub length-row_little : (w : ℕ) (ns : List ℕ) → length (row_bytes little w ns) ≡ w * length ns
length-row_little w ns = length-row_bytes little little_is_sound w ns

pub length-row_big : (w : ℕ) (ns : List ℕ) → length (row_bytes big w ns) ≡ w * length ns
length-row_big w ns = length-row_bytes big big_is_sound w ns
