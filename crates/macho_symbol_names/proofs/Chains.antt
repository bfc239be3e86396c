-- Chains of entries. A name is looked for from the newest entry of its bucket on. What is ahead: every entry of the name
-- is older than the place that is looked at, since the chain leaves out no entry of the bucket. A new entry becomes the
-- newest of its bucket, and leads to the one that was it: so every older entry is still ahead of it.
use Rattle.std.proofs.Common.{◌≡◌, ℕ, ◌-◌, ◌<◌, ◌≤◌, ◌⊎◌, inl, inr, List, [], length, get_or, ap, sym, ◌∙◌, subst, arith}
use Rattle.std.proofs.lemmas.List.{get_or-map, length-map}
use Rattle.std.proofs.lemmas.Bool.{cases_lt}
use Rattle.macho_symbol_names.specs.declared.table.Entry.{Entry}
use Rattle.macho_symbol_names.specs.Kept.{FileRows}
use Rattle.macho_symbol_names.specs.Tables.{Heads, IsTable, bucket_of, entry_name, names_of, nexts_of}
use Rattle.macho_symbol_names.specs.steps.Tables.{IsAhead}

-- the name and the next of an entry, by its number
pub name_of_entry : (files : List FileRows) (entries : List Entry) (i : ℕ) (d : Entry) → i < length entries
    → get_or (names_of files entries) i [] ≡ entry_name files (get_or entries i d)
name_of_entry files entries i d within = get_or-map (entry_name files) entries i d [] within

pub next_of_entry : (entries : List Entry) (i : ℕ) (d : Entry) → i < length entries
    → get_or (nexts_of entries) i 0 ≡ (get_or entries i d).next
next_of_entry entries i d within = get_or-map (λ e. e.next) entries i d 0 within

pub cases_eq : (k n : ℕ) → k ≤ n → (k ≡ n) ⊎ (k < n)
cases_eq k n h = elim (cases_lt k n) [ inl less ↦ inr less | inr more ↦ inl (omega arith) ]

-- it goes on to the next, where an entry is of another name
pub ahead_next : (files : List FileRows) (heads : Heads) (entries : List Entry) (name : List ℕ) (at : ℕ) (e d : Entry)
    → IsTable files heads entries
    → IsAhead files heads entries name at → 1 ≤ at → e ≡ get_or entries (at - 1) d → (entry_name files e ≡ name → ⊥)
    → IsAhead files heads entries name e.next
ahead_next files heads entries name at e d table here some is other =
    let within : at - 1 < length entries = omega (arith, here.within) in
    let long = length-map entries (entry_name files) in
    let next : get_or (nexts_of entries) (at - 1) 0 ≡ e.next = next_of_entry entries (at - 1) d within ∙ ap (λ x. x.next) (sym is) in
    let named : get_or (names_of files entries) (at - 1) [] ≡ entry_name files e = name_of_entry files entries (at - 1) d within
    ∙ ap (entry_name files) (sym is) in
    let same = here.same (at - 1) (omega (arith, some)) in
    record {
      within = omega (arith, table.chained.older (at - 1) (omega (arith, long)), next);
      ahead = λ k h is_name.
          let before : k < at - 1 = not_here k h is_name (cases_eq k (at - 1) (omega (arith, here.ahead k h is_name))) named in
          let bucket = ap (bucket_of heads) is_name ∙ sym same in
          subst (λ n. k < n) next (table.chained.onward (at - 1) k before (omega (arith, long)) bucket);
      same = λ m is_next. table.chained.stays (at - 1) m (omega (arith, long)) (next ∙ is_next) ∙ same;
    }
  where
    not_here : (k : ℕ) → k < length entries → get_or (names_of files entries) k [] ≡ name → (k ≡ at - 1) ⊎ (k < at - 1)
        → get_or (names_of files entries) (at - 1) [] ≡ entry_name files e → k < at - 1
    not_here k h is_name (inl here) named = absurd (other (sym named ∙ ap (λ n. get_or (names_of files entries) n []) (sym here) ∙ is_name))
    not_here k h is_name (inr before) named = before

-- and the next is older
pub next_smaller : (files : List FileRows) (heads : Heads) (entries : List Entry) (name : List ℕ) (at : ℕ) (e d : Entry)
    → IsTable files heads entries
    → IsAhead files heads entries name at → 1 ≤ at → e ≡ get_or entries (at - 1) d → e.next < at
next_smaller files heads entries name at e d table here some is =
    let within : at - 1 < length entries = omega (arith, here.within) in
    let next : get_or (nexts_of entries) (at - 1) 0 ≡ e.next = next_of_entry entries (at - 1) d within ∙ ap (λ x. x.next) (sym is) in
    omega (arith, table.chained.older (at - 1) (omega (arith, length-map entries (entry_name files))), next)
