-- The load commands of an image whose bytes are spliced are those of the old one, moved.
--
-- The list is a walk from place to place by sizes. In front of the named command each head has its bytes, so the walk comes to the named
-- command. There the new text stands, whose head tells the same number and the new size. Behind it each head has moved by as much as the
-- size has changed, and so has the walk. Two commands share no byte, so each other one has its own bytes.
use Rattle.std.proofs.Common.{◌≡◌, ℕ, zero, suc, ◌+◌, ◌-◌, ◌^◌, ◌<◌, ◌≤◌, ◌⊎◌, ◌==◌, nat_lt, true, false, List, [], ◌∷◌, ◌++◌, length, get_or, map, refl, sym, ap, subst, ◌∙◌, arith, inl, inr, replicate, slice_range, append_assoc}
use Rattle.std.specs.Prelude.{Contains}
use Rattle.std.proofs.lemmas.Bool.{lt-ltb, le-ltb}
use Rattle.macho_bytes.specs.Numbers.{little, le_at, le_bytes, row_bytes}
use Rattle.macho_bytes.specs.Texts.{Stands}
use Rattle.macho_bytes.specs.Layouts.{reading, size_of}
use Rattle.macho_bytes.proofs.Bools.{equal_is, unequal_is}
use Rattle.macho_bytes.proofs.Members.{nil_contains, contains_cases, contains_later}
use Rattle.macho_bytes.proofs.Numbers.{little_is_sound, number-stands, stands-front, stands-back}
use Rattle.macho_bytes.proofs.Reading.{little_is_local}
use Rattle.macho_records.specs.CommandLayouts.{rpath_command}
use Rattle.macho_records.specs.Spellings.{load_command_rows}
use Rattle.macho_records.specs.declared.header.LoadCommand.{LoadCommand}
use Rattle.macho_model.specs.Commands.{Command, command_at, commands_from, commands_end}
use Rattle.macho_model.specs.Images.{Table}
use Rattle.macho_retool.specs.declared.change.Change.{Change}
use Rattle.macho_retool.specs.declared.change.Change.TheVariants.{Id, Library, Rpath}
use Rattle.macho_retool.specs.Changes.{command_number, new_size, record_size, path_for, new_text, new_end, moved}
use Rattle.macho_retool.specs.steps.Spliced.{IsSpliced}
use Rattle.macho_retool.proofs.Agree.{Agree, reading-agrees}

-- the command at a place ends where the commands end or before, and has a head
abbrev pub EndsBelow : List ℕ → Command → Type 0
EndsBelow b x = (8 ≤ x.size) × (x.at + x.size ≤ commands_end b)

-- a head that moves with its bytes
head_moves : (x b : List ℕ) (p q : ℕ) → Agree 8 x b p q
    → command_at x p ≡ record { at = p; number = (command_at b q).number; size = (command_at b q).size }
head_moves x b p q same =
    ap (λ (h : LoadCommand). record { at = p; number = h.cmd; size = h.cmdsize })
    (reading-agrees load_command_rows little_is_local x b p q same)

-- the places of commands rise
pub place_from : (b : List ℕ) (n p : ℕ) (y : Command) → Contains (commands_from b p n) y → p ≤ y.at
unfolding commands_from
place_from b zero p y there = absurd (nil_contains y there)
place_from b (suc n) p y there =
    elim (contains_cases (command_at b p) (commands_from b (p + (command_at b p).size) n) y there) [
      | inl here ↦ let at = ap (λ (z : Command). z.at) here in omega (arith, at)
      | inr later ↦ let rest = place_from b n (p + (command_at b p).size) y later in omega (arith, rest)
    ]

-- two commands of the list are one, or apart
pub commands_apart : (b : List ℕ) (n p : ℕ) (y z : Command) → Contains (commands_from b p n) y → Contains (commands_from b p n) z
    → (y.at ≡ z.at) ⊎ ((y.at + y.size ≤ z.at) ⊎ (z.at + z.size ≤ y.at))
unfolding commands_from
commands_apart b zero p y z in_y in_z = absurd (nil_contains y in_y)
commands_apart b (suc n) p y z in_y in_z =
    elim (contains_cases (command_at b p) (commands_from b (p + (command_at b p).size) n) y in_y) [
      | inl here_y ↦
          let at_y = ap (λ (w : Command). w.at) here_y in
          let size_y = ap (λ (w : Command). w.size) here_y in
          elim (contains_cases (command_at b p) (commands_from b (p + (command_at b p).size) n) z in_z) [
            | inl here_z ↦ let at_z = ap (λ (w : Command). w.at) here_z in inl (omega (arith, at_y, at_z))
            | inr later_z ↦
                let rest = place_from b n (p + (command_at b p).size) z later_z in inr (inl (omega (arith, at_y, size_y, rest)))
          ]
      | inr later_y ↦
          let rest_y = place_from b n (p + (command_at b p).size) y later_y in
          elim (contains_cases (command_at b p) (commands_from b (p + (command_at b p).size) n) z in_z) [
            | inl here_z ↦
                let at_z = ap (λ (w : Command). w.at) here_z in
                let size_z = ap (λ (w : Command). w.size) here_z in
                inr (inr (omega (arith, at_z, size_z, rest_y)))
            | inr later_z ↦ commands_apart b n (p + (command_at b p).size) y z later_y later_z
          ]
    ]

-- the named command's number and the size of its record
pub number_small : (change : Change) → command_number change < 2 ^ 32
number_small (Id name) = omega arith
number_small (Library number name) = omega arith
number_small (Rpath number name) = omega arith

-- the new text, as its numbers and what is behind them
grouped : (change : Change) (b x : List ℕ) (c : Command) → Stands x (record { at = c.at; text = new_text change b c })
    → Stands x (record {
      at = c.at;
      text = row_bytes little 4 (command_number change ∷ new_size change ∷ record_size change ∷ [])
          ++ (slice_range b (c.at + size_of rpath_command) (c.at + record_size change) ++ path_for change
          ++ replicate (new_size change - (record_size change + length (path_for change))) 0);
    })
unfolding new_text
grouped change b x c s =
    subst (λ t. Stands x (record { at = c.at; text = t })) (simp append_assoc refl) s

-- the head of the new text
new_head : (change : Change) (b x : List ℕ) (c : Command) → new_size change < 2 ^ 32
    → Stands x (record { at = c.at; text = new_text change b c })
    → command_at x c.at ≡ record { at = c.at; number = command_number change; size = new_size change }
unfolding new_text row_bytes reading
new_head change b x c small stands =
    let kind : ℕ = command_number change in
    let size : ℕ = new_size change in
    let numbers = stands-front x c.at (row_bytes little 4 (kind ∷ size ∷ record_size change ∷ []))
    (slice_range b (c.at + size_of rpath_command) (c.at + record_size change) ++ path_for change
    ++ replicate (new_size change - (record_size change + length (path_for change))) 0) (grouped change b x c stands) in
    let first = stands-front x c.at (le_bytes 4 kind) (row_bytes little 4 (size ∷ record_size change ∷ [])) numbers in
    let long : length (le_bytes 4 kind) ≡ 4 = little_is_sound.long 4 kind in
    let later = stands-back x c.at (c.at + 4) (le_bytes 4 kind) (row_bytes little 4 (size ∷ record_size change ∷ []))
    (omega (arith, long)) numbers in
    let second = stands-front x (c.at + 4) (le_bytes 4 size) (row_bytes little 4 (record_size change ∷ [])) later in
    let is_kind : le_at 4 x (c.at + 0) ≡ kind = ap (le_at 4 x) (omega arith)
    ∙ number-stands little little_is_sound 4 kind x c.at (number_small change) first in
    let is_size : le_at 4 x (c.at + 4) ≡ size = number-stands little little_is_sound 4 size x (c.at + 4) small second in
    rw (is_kind, is_size) refl

-- behind the named command
pub behind : (change : Change) (b x : List ℕ) (c : Command) (t : Table) (n p : ℕ) → IsSpliced change b x c t → 8 ≤ c.size
    → c.at + c.size ≤ p → commands_end b ≤ length b → new_end change b c ≤ length b
    → ((y : Command) → Contains (commands_from b p n) y → EndsBelow b y)
    → commands_from x (p + new_size change - c.size) n ≡ map (moved change c) (commands_from b p n)
unfolding commands_from
behind change b x c t zero p splice some past inside fits each = refl
behind change b x c t (suc n) p splice some past inside fits each =
    let h : Command = command_at b p in
    let next : ℕ = p + h.size in
    let ends = each h (0, omega arith, refl) in
    let e0 = ends.0 in
    let e1 = ends.1 in
    let long = splice.long in
    let same : Agree 8 x b (p + new_size change - c.size) p = record {
      first = omega (arith, e0, e1, past, some, fits, long);
      second = omega (arith, e0, e1, inside);
      same = λ k lt.
          ap (λ (i : ℕ). get_or x i 0) (omega (arith, past, some)) ∙ splice.tail (p + k) (omega (arith, past)) (omega (arith, lt, e0, e1));
    } in
    let head = head_moves x b (p + new_size change - c.size) p same in
    let size_x : (command_at x (p + new_size change - c.size)).size ≡ h.size = ap (λ (w : Command). w.size) head in
    let place : p + new_size change - c.size + (command_at x (p + new_size change - c.size)).size ≡ next + new_size change - c.size =
    omega (arith, size_x, past, some) in
    let rest = behind change b x c t n next splice some (omega (arith, past)) inside fits
    (λ y there. each y (contains_later h (commands_from b next n) y there)) in
    let lt : nat_lt c.at p ≡ true = lt-ltb c.at p (omega (arith, past, some)) in
    let ne : (p == c.at) ≡ false = unequal_is p c.at (λ e. absurd (omega (arith, e, past, some))) in
    let is : moved change c h ≡ record { at = p + new_size change - c.size; number = h.number; size = h.size } = rw (lt, ne) refl in
    ap (λ (w : Command). w ∷ commands_from x (p + new_size change - c.size + (command_at x (p + new_size change - c.size)).size) n)
    (head ∙ sym is)
    ∙ ap (λ (q : ℕ). moved change c h ∷ commands_from x q n) place
    ∙ ap (λ (ws : List Command). moved change c h ∷ ws) rest

-- from a place in front of the named command on, or from it
pub from_front : (change : Change) (b x : List ℕ) (c : Command) (t : Table) (n p : ℕ) → IsSpliced change b x c t → 8 ≤ c.size
    → 32 ≤ p → commands_end b ≤ length b → new_end change b c ≤ length b → new_size change < 2 ^ 32
    → c.number ≡ command_number change
    → ((y : Command) → Contains (commands_from b p n) y → EndsBelow b y) → Contains (commands_from b p n) c
    → commands_from x p n ≡ map (moved change c) (commands_from b p n)
unfolding commands_from
from_front change b x c t zero p splice some front inside fits small kind each there = absurd (nil_contains c there)
from_front change b x c t (suc n) p splice some front inside fits small kind each there =
    let h : Command = command_at b p in
    let next : ℕ = p + h.size in
    elim (contains_cases h (commands_from b next n) c there) [
      | inl here ↦
          let at : p ≡ c.at = ap (λ (w : Command). w.at) here in
          let size : h.size ≡ c.size = ap (λ (w : Command). w.size) here in
          let head : command_at x p ≡ record { at = c.at; number = command_number change; size = new_size change } =
          ap (command_at x) at ∙ new_head change b x c small splice.text in
          let le : nat_lt c.at c.at ≡ false = le-ltb c.at c.at (omega arith) in
          let eq : (c.at == c.at) ≡ true = equal_is c.at c.at refl in
          let is : moved change c h ≡ record { at = c.at; number = command_number change; size = new_size change } =
          ap (moved change c) here ∙ rw (le, eq, kind) refl in
          let size_x : (command_at x p).size ≡ new_size change = ap (λ (w : Command). w.size) head in
          let place : p + (command_at x p).size ≡ next + new_size change - c.size = omega (arith, size_x, size, some) in
          let rest = behind change b x c t n next splice some (omega (arith, at, size)) inside fits
          (λ y later. each y (contains_later h (commands_from b next n) y later)) in
          ap (λ (w : Command). w ∷ commands_from x (p + (command_at x p).size) n) (head ∙ sym is)
          ∙ ap (λ (q : ℕ). moved change c h ∷ commands_from x q n) place
          ∙ ap (λ (ws : List Command). moved change c h ∷ ws) rest
      | inr later ↦
          let before = place_from b n next c later in
          let ends = each h (0, omega arith, refl) in
          let e0 = ends.0 in
          let e1 = ends.1 in
          let long = splice.long in
          let same : Agree 8 x b p p = record {
            first = omega (arith, e0, e1, inside, long);
            second = omega (arith, e0, e1, inside);
            same = λ k lt. splice.head (p + k) (omega (arith, front)) (omega (arith, lt, e0, before));
          } in
          let head = head_moves x b p p same in
          let le : nat_lt c.at p ≡ false = le-ltb c.at p (omega (arith, before, e0)) in
          let ne : (p == c.at) ≡ false = unequal_is p c.at (λ e. absurd (omega (arith, e, before, e0))) in
          let is : moved change c h ≡ record { at = p; number = h.number; size = h.size } = rw (le, ne) refl in
          let size_x : (command_at x p).size ≡ h.size = ap (λ (w : Command). w.size) head in
          let rest = from_front change b x c t n next splice some (omega (arith, front)) inside fits small kind
          (λ y there2. each y (contains_later h (commands_from b next n) y there2)) later in
          ap (λ (w : Command). w ∷ commands_from x (p + (command_at x p).size) n) (head ∙ sym is)
          ∙ ap (λ (k : ℕ). moved change c h ∷ commands_from x (p + k) n) size_x
          ∙ ap (λ (ws : List Command). moved change c h ∷ ws) rest
    ]
