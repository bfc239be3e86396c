-- The import table as it is made.
--
-- The entry of import n is pushed when the names of the first n stand, so it says their length as the place of its name; then
-- its name is added. An own entry is that of its import but for the addend, and stands behind all plain ones. In the words of
-- a link: the names are those of its imports, so the places are too; and the first place of a library's name among the
-- libraries that it needs is the library's number less 1.
use Rattle.std.proofs.Common.{◌≡◌, ℕ, ◌+◌, ◌-◌, ◌<◌, ◌≤◌, List, [], ◌∷◌, ◌++◌, take, length, get_or, refl, sym, ap, subst, ◌∙◌, arith, inl, inr}
use Rattle.std.specs.Prelude.{All, sum_by}
use Rattle.std.specs.Int.{w32, cast_unsigned}
use Rattle.std.proofs.lemmas.Bool.{cases_lt}
use Rattle.std.proofs.lemmas.List.{get_or_default, get_or_append_left, get_or-append_right, get_or-append-add, length-append, length_push, take_more, append_assoc}
use Rattle.std.proofs.lemmas.List.Concat.{length-flat_map}
use Rattle.std.proofs.lemmas.List.Sums.{sum_by-take-le, sum_by-le-sum_by, sum_by_more_le}
use Rattle.macho_bytes.specs.Numbers.{signed}
use Rattle.macho_bytes.proofs.Tables.{flat_map-more}
use Rattle.macho_symbols.specs.declared.solved.Import.{Import}
use Rattle.macho_fixups.specs.declared.imports.ImportEntry.{ImportEntry}
use Rattle.macho_symbols.specs.declared.solved.OwnEntry.{OwnEntry}
use Rattle.macho_linkedit.specs.Imports.{name_bytes}
use Rattle.macho_linkedit.specs.steps.Entries.{name_text, names_of, plain_entry, plain_at, HavePlain, IsOwnOf, HaveOwn}

-- one import more
pub plain_more : (libraries : List (List ℕ)) (imports : List Import) (n : ℕ) (entries now : List ImportEntry) (names next : List ℕ)
    (i : Import) (e : ImportEntry)
    → HavePlain libraries imports n entries names → n < length imports → i ≡ get_or imports n i → e ≡ plain_entry libraries (length names) i
    → now ≡ entries ++ e ∷ [] → next ≡ names ++ name_text i → HavePlain libraries imports (n + 1) now next
plain_more libraries imports n entries now names next i e old lt is plain added named = record {
  long = omega (arith, ap length added, length_push entries e, old.long);
  each = each;
  text = named ∙ ap (λ (x : List ℕ). x ++ name_text i) old.text ∙ sym (flat_map-more name_text (take n imports) i) ∙ ap names_of (sym more);
}
  where
    more : take (n + 1) imports ≡ take n imports ++ i ∷ []
    more = take_more imports n i lt ∙ ap (λ (y : Import). take n imports ++ y ∷ []) (sym is)

    each : (k : ℕ) (d : ImportEntry) (j : Import) → k < n + 1 → get_or now k d ≡ plain_at libraries imports k j
    each k d j below =
        elim (cases_lt k n) [
          | inl before ↦
              ap (λ (xs : List ImportEntry). get_or xs k d) added ∙ get_or_append_left entries (e ∷ []) d k (omega (arith, old.long))
              ∙ old.each k d j before
          | inr past ↦ last k d j (omega arith)
        ]
      where
        last : (k : ℕ) (d : ImportEntry) (j : Import) → k ≡ n → get_or now k d ≡ plain_at libraries imports k j
        last k d j same =
            let at : k ≡ length entries = omega (arith, old.long) in
            let first : k - length entries ≡ 0 = omega arith in
            let here : i ≡ get_or imports k j = is ∙ get_or_default imports n i j lt ∙ ap (λ (m : ℕ). get_or imports m j) (sym same) in
            ap (λ (xs : List ImportEntry). get_or xs k d) added
            ∙ get_or-append_right entries (e ∷ []) (length entries) k d refl (omega arith) ∙ ap (λ (m : ℕ). get_or (e ∷ []) m d) first
            ∙ plain
            ∙ ap (λ (x : List ℕ). plain_entry libraries (length x) i) (old.text ∙ ap (λ (m : ℕ). names_of (take m imports)) (sym same))
            ∙ ap (λ (y : Import). plain_entry libraries (length (names_of (take k imports))) y) here

-- the names of the first imports have at most the bytes of all
pub names_short : (imports : List Import) (n : ℕ) → length (names_of (take n imports)) ≤ name_bytes imports
names_short imports n =
    omega (
      arith,
      length-flat_map name_text (take n imports),
      sum_by-le-sum_by (λ (i : Import). length (name_text i)) (λ (i : Import). length i.name.items + 1) (take n imports)
          (λ i. omega (arith, length-append i.name.items (0 ∷ []))),
      sum_by-take-le (λ (i : Import). length i.name.items + 1) imports n,
    )

-- and fewer where one is left
pub names_left : (imports : List Import) (k : ℕ) (d : Import) → k < length imports → length (names_of (take k imports)) < name_bytes imports
names_left imports k d lt =
    let more : sum_by (λ i. length i.name.items + 1) (take k imports) + (length (get_or imports k d).name.items + 1) ≤ name_bytes imports
    = sum_by_more_le (λ (i : Import). length i.name.items + 1) imports k d lt in
    omega (
      arith,
      more,
      length-flat_map name_text (take k imports),
      sum_by-le-sum_by (λ (i : Import). length (name_text i)) (λ (i : Import). length i.name.items + 1) (take k imports)
          (λ i. omega (arith, length-append i.name.items (0 ∷ []))),
    )

pub own_more : (plain : List ImportEntry) (own : List OwnEntry) (n : ℕ) (entries now : List ImportEntry) (o : OwnEntry) (e : ImportEntry)
    → HaveOwn plain own n entries → n < length own → o ≡ get_or own n o → now ≡ entries ++ e ∷ [] → IsOwnOf plain o e → HaveOwn plain own
    (n + 1) now
own_more plain own n entries now o e old lt is added here = record {
  rest = old.rest ++ e ∷ [];
  are = added ∙ ap (λ (xs : List ImportEntry). xs ++ e ∷ []) old.are ∙ append_assoc plain old.rest (e ∷ []);
  long = omega (arith, length_push old.rest e, old.long);
  each = each;
}
  where
    each : (k : ℕ) (d : ImportEntry) (p : OwnEntry) → k < n + 1 → IsOwnOf plain (get_or own k p) (get_or (old.rest ++ e ∷ []) k d)
    each k d p below =
        elim (cases_lt k n) [
          | inl before ↦
              subst (λ (x : ImportEntry). IsOwnOf plain (get_or own k p) x)
              (sym (get_or_append_left old.rest (e ∷ []) d k (omega (arith, old.long))))
              (old.each k d p before)
          | inr past ↦ last k d p (omega arith)
        ]
      where
        last : (k : ℕ) (d : ImportEntry) (p : OwnEntry) → k ≡ n → IsOwnOf plain (get_or own k p) (get_or (old.rest ++ e ∷ []) k d)
        last k d p same =
            let first : k - length old.rest ≡ 0 = omega (arith, old.long) in
            let at : get_or (old.rest ++ e ∷ []) k d ≡ e
            = get_or-append_right old.rest (e ∷ []) (length old.rest) k d refl (omega (arith, old.long)) ∙ ap
            (λ (m : ℕ). get_or (e ∷ []) m d) first in
            let from : get_or own k p ≡ o = ap (λ (m : ℕ). get_or own m p) same ∙ get_or_default own n p o lt ∙ sym is in
            subst (λ (x : ImportEntry). IsOwnOf plain (get_or own k p) x) (sym at)
            (subst (λ (y : OwnEntry). IsOwnOf plain y e) (sym from) here)

-- the entry of an import is read among all
pub among_plain : (plain rest entries : List ImportEntry) (k : ℕ) (d e : ImportEntry) → entries ≡ plain ++ rest → k < length plain
    → e ≡ get_or entries k e → e ≡ get_or plain k d
among_plain plain rest entries k d e are lt is =
    is ∙ ap (λ (xs : List ImportEntry). get_or xs k e) are ∙ get_or_append_left plain rest e k lt ∙ get_or_default plain k e d lt

-- All entries are read, of imports first.
pub record AreMade (libraries : List (List ℕ)) (imports : List Import) (own : List OwnEntry) (entries : List ImportEntry)
    (names : List ℕ) : Type 0 where
  pub plain : List ImportEntry
  pub first : HavePlain libraries imports (length imports) plain names
  pub behind : HaveOwn plain own (length own) entries

pub entries_many : (libraries : List (List ℕ)) (imports : List Import) (own : List OwnEntry) (entries : List ImportEntry) (names : List ℕ)
    → AreMade libraries imports own entries names → length entries ≡ length imports + length own
entries_many libraries imports own entries names made =
    omega (arith, ap length made.behind.are, length-append made.plain made.behind.rest, made.first.long, made.behind.long)

-- entry k is that of import k, or the own one of number k less the number of imports
pub plain_there : (libraries : List (List ℕ)) (imports : List Import) (own : List OwnEntry) (entries : List ImportEntry) (names : List ℕ)
    (k : ℕ) (d : ImportEntry)
    (i : Import) → AreMade libraries imports own entries names → k < length imports → get_or entries k d ≡ plain_at libraries imports k i
plain_there libraries imports own entries names k d i made lt =
    ap (λ (xs : List ImportEntry). get_or xs k d) made.behind.are ∙ get_or_append_left made.plain made.behind.rest d k
    (omega (arith, made.first.long))
    ∙ made.first.each k d i lt

-- some import where there is one
pub some_import : (imports : List Import) (k : ℕ) → k < length imports → Import
some_import [] k lt = absurd (omega arith)
some_import (i ∷ imports) k lt = i

-- an own entry says the library and the place of its import's, and its addend
pub record IsOwnEntry (libraries : List (List ℕ)) (imports : List Import) (o : OwnEntry) (e : ImportEntry) : Type 0 where
  pub library : (i : Import) → e.library ≡ (plain_at libraries imports o.import i).library
  pub place : e.name_offset ≡ length (names_of (take o.import imports))
  pub addend : signed 32 (cast_unsigned w32 e.addend) ≡ o.addend

pub own_there : (libraries : List (List ℕ)) (imports : List Import) (own : List OwnEntry) (entries : List ImportEntry) (names : List ℕ)
    (k j : ℕ)
    (d : ImportEntry) (o : OwnEntry) → AreMade libraries imports own entries names → All (λ o. o.import < length imports) own
    → k ≡ length imports + j
    → j < length own → IsOwnEntry libraries imports (get_or own j o) (get_or entries k d)
own_there libraries imports own entries names k j d o made among at lt =
    subst (λ (x : ImportEntry). IsOwnEntry libraries imports (get_or own j o) x) (sym read) (record {
      library = λ i. here.library d ∙ ap (λ (x : ImportEntry). x.library) (made.first.each (get_or own j o).import d i (among j o lt));
      place = here.place d ∙ ap (λ (x : ImportEntry). x.name_offset) (made.first.each (get_or own j o).import d some (among j o lt));
      addend = here.addend;
    })
  where
    here : IsOwnOf made.plain (get_or own j o) (get_or made.behind.rest j d)
    here = made.behind.each j d o lt

    read : get_or entries k d ≡ get_or made.behind.rest j d
    read =
        let place : k ≡ length made.plain + j = omega (arith, made.first.long) in
        ap (λ (xs : List ImportEntry). get_or xs k d) made.behind.are ∙ ap (λ (m : ℕ). get_or (made.plain ++ made.behind.rest) m d) place
        ∙ get_or-append-add made.plain made.behind.rest j d

    some : Import
    some = some_import imports (get_or own j o).import (among j o lt)
