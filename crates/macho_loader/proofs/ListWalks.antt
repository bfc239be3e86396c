-- What a walk over a list of commands has asked of those that it passed.
--
-- Each command has a number in its list. A walk that came to one more knows what it asked of that one, whatever place it is
-- told by, since a number has one place. Behind the last command each number has been passed. The segments stand in order
-- where each one that has a segment before it begins behind that one's end.
use Rattle.std.proofs.Common.{◌≡◌, ℕ, ◌+◌, ◌*◌, ◌-◌, ◌<◌, ◌≤◌, nat_le, ◌&&◌, Bool, true, List, length, subst, arith, inl, inr}
use Rattle.std.proofs.lemmas.Bool.{cases_lt, leb-true}
use Rattle.macho_model.specs.Commands.{command_at}
use Rattle.macho_model.specs.Images.{Table, segments_of, starts_count, fixups_header, import_entry_size}
use Rattle.macho_model.specs.Loader.{segment_in}
use Rattle.macho_image_walks.specs.Tests.{parts_inside}
use Rattle.macho_image_walks.specs.declared.walk.Listed.TheVariants as list
use Rattle.macho_image_walks.specs.Readings.{IsNth}
use Rattle.macho_image_walks.specs.steps.Asked.{NeighbourPasses}
use Rattle.macho_image_walks.proofs.NumberedWalk.{nth_one}
use Rattle.macho_model.specs.SegmentRules.{begins_behind}
use Rattle.macho_bytes.proofs.Bools.{and_left, and_right}

-- one number more
pub more_below : {P : ℕ → Type 0} (i n : ℕ) → n ≡ i + 1 → ((k : ℕ) → k < i → P k) → P i → (k : ℕ) → k < n → P k
more_below {P = P} i n more before here k within =
    elim (cases_lt k i) [ inl lt ↦ before k lt | inr le ↦ let same : i ≡ k = omega (arith, le, within, more) in subst P same here ]

-- the segment that the walk came to begins behind the one before it
pub order_more : (b : List ℕ) (n m last place : ℕ) → m ≡ n + 1 → (1 ≤ n → IsNth list.Segments b (n - 1) last)
    → IsNth list.Segments b n place
    → ((k : ℕ) → k + 1 < n → NeighbourPasses b k)
    → (1 ≤ n → begins_behind (segment_in b (command_at b last)) (segment_in b (command_at b place)) ≡ true)
    → (k : ℕ) → k + 1 < m → NeighbourPasses b k
order_more b n m last place more known nth before follows k within first second at_first at_second =
    elim (cases_lt (k + 1) n) [
      | inl lt ↦ before k lt first second at_first at_second
      | inr le ↦
          let some : 1 ≤ n = omega (arith, le, within, more) in
          let here : n - 1 ≡ k = omega (arith, le, within, more) in
          let next : n ≡ k + 1 = omega (arith, le, within, more) in
          let same_first = nth_one list.Segments b k last first (subst (λ j. IsNth list.Segments b j last) here (known some)) at_first in
          let same_second = nth_one list.Segments b (k + 1) place second (subst (λ j. IsNth list.Segments b j place) next nth) at_second in
          subst (λ p. begins_behind (segment_in b (command_at b p)) (segment_in b (command_at b second)) ≡ true) same_first
          (subst (λ q. begins_behind (segment_in b (command_at b last)) (segment_in b (command_at b q)) ≡ true) same_second (follows some))
    ]

-- the segments that a fixup table has starts for are there
second_of : (p q r s : Bool) → (p && q && r && s) ≡ true → q ≡ true
second_of p q r s h = and_right p q (and_left (p && q) r (and_left (p && q && r) s h))

pub starts_have_segments : (b : List ℕ) (t : Table) → parts_inside b t ≡ true → starts_count b t ≤ length (segments_of b)
starts_have_segments b t h =
    let f = fixups_header b t in
    leb-true (starts_count b t) (length (segments_of b))
    (second_of (nat_le (f.starts_offset + 4 + 4 * starts_count b t) t.size)
    (nat_le (starts_count b t) (length (segments_of b)))
    (nat_le (f.imports_offset + import_entry_size f.imports_format * f.imports_count) t.size) (nat_le f.symbols_offset t.size) h)
