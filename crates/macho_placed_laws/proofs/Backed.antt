-- Ranges of addresses that have bytes in the file, and where these are.
--
-- A range in the file part of a segment is moved by one distance. Two ranges of one segment stay as far apart; the file parts
-- of two segments are
-- apart, as their addresses are. So ranges that share no address share no byte of the file. An address is in one file part at most, so the
-- placement's own way from addresses to the file is that distance.
use Rattle.std.proofs.Common.{◌≡◌, ℕ, zero, suc, ◌+◌, ◌-◌, ◌<◌, ◌≤◌, ◌⊎◌, inl, inr, ◌&&◌, nat_le, nat_lt, Bool, true, false, List, [], ◌∷◌, ◌++◌, map, length, get_or, refl, sym, ap, subst, ◌∙◌, arith, All, ltb-true, le-leb, leb-true, eqb-true, ◌==◌}
use Rattle.std.specs.Prelude.{Contains}
use Rattle.std.proofs.lemmas.Bool.{lt-ltb}
use Rattle.std.proofs.lemmas.Bool.Decides.{nat_tests}
use Rattle.std.proofs.lemmas.List.{get_or_default}
use Rattle.macho_bytes.proofs.Members.{all_contains}
use Rattle.macho_bytes.proofs.Orders.{EachLater}
use Rattle.std.proofs.lemmas.List.Elements.{All-nil, All-cons}
use Rattle.macho_model.specs.declared.placed.PlacedSegment.{PlacedSegment}
use Rattle.macho_model.specs.Links.{Link}
use Rattle.macho_model.specs.Placement.{Placed, Follows}
use Rattle.macho_model.specs.Zeros.{Span}
use Rattle.macho_model.specs.Spans.{AreApart, IsInOrder, in_file}
use Rattle.macho_model.specs.Addresses.{offset_in_file}
use Rattle.macho_model.specs.Lists.{EachNext}
use Rattle.macho_placed_laws.proofs.Above.{next_follows}
use Rattle.macho_placed_laws.proofs.Room.{file_behind}
use Rattle.macho_bytes.proofs.Bools.{and_left, and_right, and_both}
use Rattle.macho_model.proofs.Sections.{first_passes}

-- a segment ends where a later one begins, or before
ends_behind : (l : Link) (segments : List PlacedSegment) (d : PlacedSegment) → EachNext (Follows l) segments → (i n j : ℕ) → j ≡ i + n + 1
    → j < length segments
    → (get_or segments i d).address + (get_or segments i d).size ≤ (get_or segments j d).address
ends_behind l segments d follow i zero j is lt =
    let number : i + 1 ≡ j = omega (arith, is) in
    let step = next_follows l segments d follow i (omega (arith, is, lt)) in
    omega (arith, step.address, ap (λ (k : ℕ). (get_or segments k d).address) number)
ends_behind l segments d follow i (suc n) j is lt =
    let before = ends_behind l segments d follow i n (i + n + 1) refl (omega (arith, is, lt)) in
    let step = next_follows l segments d follow (i + n + 1) (omega (arith, is, lt)) in
    let number : i + n + 1 + 1 ≡ j = omega (arith, is) in
    omega (arith, before, step.address, ap (λ (k : ℕ). (get_or segments k d).address) number)

-- one segment stands before another, in memory and in the file
pub record StandsBefore (s t : PlacedSegment) : Type 0 where
  pub memory : s.address + s.size ≤ t.address
  pub file : s.file_offset + s.file_size ≤ t.file_offset

-- of two segments one stands before the other, or they are one
pub before_or_one : (l : Link) (segments : List PlacedSegment) (s t : PlacedSegment) → EachNext (Follows l) segments → Contains segments s
    → Contains segments t
    → (s ≡ t) ⊎ StandsBefore s t ⊎ StandsBefore t s
before_or_one l segments s t follow (i, low, at_i) (j, below, at_j) = by (nat_lt i j) (nat_lt j i) refl refl
  where
    at_t : get_or segments j s ≡ t
    at_t = get_or_default segments j s t below ∙ at_j

    first : i < j → StandsBefore s t
    first lt =
        let number : j ≡ i + (j - i - 1) + 1 = omega (arith, lt) in
        record {
          memory = omega (
            arith,
            ends_behind l segments s follow i (j - i - 1) j number below,
            ap (λ (u : PlacedSegment). u.address + u.size) at_i,
            ap (λ (u : PlacedSegment). u.address) at_t,
          );
          file = omega (
            arith,
            file_behind l segments s follow i (j - i - 1) j number below,
            ap (λ (u : PlacedSegment). u.file_offset + u.file_size) at_i,
            ap (λ (u : PlacedSegment). u.file_offset) at_t,
          );
        }

    second : j < i → StandsBefore t s
    second lt =
        let number : i ≡ j + (i - j - 1) + 1 = omega (arith, lt) in
        record {
          memory = omega (
            arith,
            ends_behind l segments s follow j (i - j - 1) i number low,
            ap (λ (u : PlacedSegment). u.address + u.size) at_t,
            ap (λ (u : PlacedSegment). u.address) at_i,
          );
          file = omega (
            arith,
            file_behind l segments s follow j (i - j - 1) i number low,
            ap (λ (u : PlacedSegment). u.file_offset + u.file_size) at_t,
            ap (λ (u : PlacedSegment). u.file_offset) at_i,
          );
        }

    by : (x y : Bool) → nat_lt i j ≡ x → nat_lt j i ≡ y → (s ≡ t) ⊎ StandsBefore s t ⊎ StandsBefore t s
    by true y e f = inr (inl (first (ltb-true i j e)))
    by false true e f = inr (inr (second (ltb-true j i f)))
    by false false e f =
        let number : i ≡ j = grind (arith, nat_tests) in
        inl (sym at_i ∙ ap (λ (k : ℕ). get_or segments k s) number ∙ at_t)

-- a range of addresses has bytes in the file part of a segment, and these are a range of the file
pub record IsBackedBy (p : Placed) (memory file : Span) (s : PlacedSegment) : Type 0 where
  pub one : Contains p.segments s
  pub from : s.address ≤ memory.start
  pub to : memory.start + memory.size ≤ s.address + s.file_size
  pub start : file.start ≡ s.file_offset + (memory.start - s.address)
  pub size : file.size ≡ memory.size

-- or it is empty
abbrev pub IsBacked : Placed → Span → Span → Type 0
IsBacked p memory file = (file.size ≡ 0) ⊎ ((s : PlacedSegment) × IsBackedBy p memory file s)

apart_in : (p : Placed) (m n f g : Span) (s : PlacedSegment) → IsBackedBy p m f s → IsBackedBy p n g s → AreApart m n → AreApart f g
apart_in p m n f g s a b (inl e) = inl (a.size ∙ e)
apart_in p m n f g s a b (inr (inl e)) = inr (inl (b.size ∙ e))
apart_in p m n f g s a b (inr (inr (inl e))) = inr (inr (inl (omega (arith, a.start, a.size, b.start, a.from, b.from, e))))
apart_in p m n f g s a b (inr (inr (inr e))) = inr (inr (inr (omega (arith, a.start, b.size, b.start, a.from, b.from, e))))

-- THE ranges of the file are apart where the addresses are
pub apart_in_file : (l : Link) (p : Placed) (m n f g : Span) → EachNext (Follows l) p.segments → IsBacked p m f → IsBacked p n g
    → AreApart m n
    → AreApart f g
apart_in_file l p m n f g follow (inl e) b apart = inl e
apart_in_file l p m n f g follow (inr a) (inl e) apart = inr (inl e)
apart_in_file l p m n f g follow (inr (s, a)) (inr (t, b)) apart = by (before_or_one l p.segments s t follow a.one b.one)
  where
    by : (s ≡ t) ⊎ StandsBefore s t ⊎ StandsBefore t s → AreApart f g
    by (inl same) = apart_in p m n f g t (subst (IsBackedBy p m f) same a) b apart
    by (inr (inl before)) = inr (inr (inl (omega (arith, before.file, a.start, a.size, a.to, a.from, b.start))))
    by (inr (inr behind)) = inr (inr (inr (omega (arith, behind.file, b.start, b.size, b.to, b.from, a.start))))

-- where an address of a file part is in the file
pub offset_is : (l : Link) (p : Placed) (s : PlacedSegment) (a : ℕ) → IsInOrder l p → Contains p.segments s → s.address ≤ a
    → a < s.address + s.file_size
    → offset_in_file p a ≡ s.file_offset + (a - s.address)
unfolding offset_in_file
offset_is l p s a order has from to =
    let f : PlacedSegment → ℕ = λ u. u.file_offset + (a - u.address) in
    let found = first_passes (λ (t : PlacedSegment). nat_le t.address a && nat_lt a (t.address + t.file_size)) f p.segments s has
    (and_both _ _ (le-leb s.address a from) (lt-ltb a (s.address + s.file_size) to)) in
    let t : PlacedSegment = found.0 in
    let t_from : t.address ≤ a = leb-true t.address a (and_left _ _ found.2) in
    let t_to : a < t.address + t.file_size = ltb-true a (t.address + t.file_size) (and_right (nat_le t.address a) _ found.2) in
    let small = all_contains (λ (u : PlacedSegment). u.file_size ≤ u.size) p.segments t
    (λ k d lt. (order.paged k d lt).file_size) found.1 in
    let s_small = all_contains (λ (u : PlacedSegment). u.file_size ≤ u.size) p.segments s (λ k d lt. (order.paged k d lt).file_size) has in
    found.3 ∙ ap f (by (before_or_one l p.segments s t order.follow has found.1) t_from t_to small s_small)
  where
    by : {t : PlacedSegment} → (s ≡ t) ⊎ StandsBefore s t ⊎ StandsBefore t s → t.address ≤ a → a < t.address + t.file_size
        → t.file_size ≤ t.size
        → s.file_size ≤ s.size → t ≡ s
    by (inl same) t_from t_to small s_small = sym same
    by (inr (inl before)) t_from t_to small s_small = absurd (omega (arith, before.memory, t_from, to, s_small))
    by (inr (inr behind)) t_from t_to small s_small = absurd (omega (arith, behind.memory, t_to, from, small))

-- a range of a file part that isn't empty is backed by what the placement tells
pub backed_in : (l : Link) (p : Placed) (s : PlacedSegment) (m : Span) → IsInOrder l p → Contains p.segments s → s.address ≤ m.start
    → m.start + m.size ≤ s.address + s.file_size → IsBacked p m (in_file p m)
backed_in l p s m order has from to = by (m.size == 0) refl
  where
    by : (x : Bool) → (m.size == 0) ≡ x → IsBacked p m (in_file p m)
    by true e = inl (eqb-true m.size 0 e)
    by false e =
        let some : 1 ≤ m.size = grind (arith, nat_tests) in
        inr (
          s,
          record
              { one = has; from = from; to = to; start = offset_is l p s m.start order has from (omega (arith, some, to)); size = refl },
        )

-- lists of ranges, backed one by one
abbrev pub AreBacked : Placed → List Span → List Span → Type 0
AreBacked p [] [] = Unit {0}
AreBacked p [] (f ∷ files) = ⊥
AreBacked p (m ∷ memories) [] = ⊥
AreBacked p (m ∷ memories) (f ∷ files) = IsBacked p m f × AreBacked p memories files

each_apart : (l : Link) (p : Placed) (m f : Span) (memories files : List Span) → EachNext (Follows l) p.segments → IsBacked p m f
    → AreBacked p memories files
    → All (AreApart m) memories → All (AreApart f) files
each_apart l p m f [] [] follow one backed apart = All-nil (AreApart f)
each_apart l p m f [] (g ∷ files) follow one backed apart = absurd backed
each_apart l p m f (n ∷ memories) [] follow one backed apart = absurd backed
each_apart l p m f (n ∷ memories) (g ∷ files) follow one backed apart =
    All-cons (AreApart f) g files (apart_in_file l p m n f g follow one backed.0 (apart 0 n (omega arith)))
    (each_apart l p m f memories files follow one backed.1 (λ k d lt. apart (suc k) d (omega arith)))

-- THE files of a list
pub all_apart : (l : Link) (p : Placed) (memories files : List Span) → EachNext (Follows l) p.segments → AreBacked p memories files
    → EachLater AreApart memories
    → EachLater AreApart files
all_apart l p [] [] follow backed later = tt
all_apart l p [] (g ∷ files) follow backed later = absurd backed
all_apart l p (m ∷ memories) [] follow backed later = absurd backed
all_apart l p (m ∷ memories) (f ∷ files) follow backed later =
    (each_apart l p m f memories files follow backed.0 backed.1 later.0, all_apart l p memories files follow backed.1 later.1)

pub backed_append : (p : Placed) (ms ns fs gs : List Span) → AreBacked p ms fs → AreBacked p ns gs → AreBacked p (ms ++ ns) (fs ++ gs)
backed_append p [] ns [] gs a b = b
backed_append p [] ns (f ∷ fs) gs a b = absurd a
backed_append p (m ∷ ms) ns [] gs a b = absurd a
backed_append p (m ∷ ms) ns (f ∷ fs) gs a b = (a.0, backed_append p ms ns fs gs a.1 b)

pub backed_map : {X : Type 0} (p : Placed) (g h : X → Span) (xs : List X) → All (λ x. IsBacked p (g x) (h x)) xs
    → AreBacked p (map g xs) (map h xs)
backed_map p g h [] each = tt
backed_map p g h (x ∷ xs) each = (each 0 x (omega arith), backed_map p g h xs (λ k d lt. each (suc k) d (omega arith)))
