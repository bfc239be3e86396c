-- The rows of a plan of entries are the entries.
--
-- A plan's rows are those of its run, which has the entries in another order. A row's code is the encoding and 2^28 times
-- the number of the personality, which is at most 3, and the encoding's bits 28 and 29 are clear: so the bits give the
-- number, and the encoding is left when they are cleared. The plan's LSDAs are those of the run, and the run's starts rise,
-- so the LSDAs of a start are its entry's.
use Rattle.std.proofs.Common.{◌≡◌, ◌≢◌, ℕ, zero, suc, ◌+◌, ◌-◌, ◌*◌, ◌/◌, ◌%◌, ◌^◌, ◌<◌, ◌≤◌, List, [], ◌∷◌, length, get_or, map, slice_index, Option, Some, None, IfSome, sym, ap, subst, ◌∙◌, refl, arith, inl, inr}
use Rattle.std.specs.List.{Contains, All, AllPairs, flat_map, slice_get}
use Rattle.std.specs.List.Sorted.{IsPermutation}
use Rattle.std.specs.Option.{option_map}
use Rattle.std.proofs.lemmas.Bool.{cases_lt}
use Rattle.std.proofs.lemmas.List.{get_or-map, get_or_default, length-map}
use Rattle.std.proofs.lemmas.List.Sorted.{Contains-permutation, IsPermutation-sym}
use Rattle.std.proofs.lemmas.Option.{slice_get_within, get_or_from_slice_get}
use Rattle.macho_unwind_pages.specs.declared.entries.ResolvedUnwindInfo.{ResolvedUnwindInfo}
use Rattle.macho_unwind_pages.specs.declared.entries.Personality.{Personality}
use Rattle.macho_unwind_pages.specs.declared.plans.Lsda.{Lsda}
use Rattle.macho_unwind_pages.specs.Entries.{AreEntries, inputs_of, ids_of, place_in, number_in, IsLast}
use Rattle.macho_unwind_pages.specs.declared.paging.Row.{Row}
use Rattle.macho_unwind_pages.specs.Plans.{PlanList, IsPlan, IsPlanOf}
use Rattle.macho_unwind_pages.specs.steps.Words.{rows_of}
use Rattle.macho_unwind_pages.specs.steps.Planning.{lsda_at, lsda_list}
use Rattle.macho_unwind_pages.proofs.Divided.{rows_are}
use Rattle.macho_unwind_pages.proofs.Planned.{lsdas_told}
use Rattle.macho_unwind.specs.Sections.{personality_in}
use Rattle.macho_unwind.specs.steps.Says.{NamesSlot, IsLsdaOf, PlanSays}
use Rattle.macho_unwind.specs.Entries.{found_for, IsEntryOf}
use Rattle.macho_unwind.proofs.Members.{found_in, found_from}
use Rattle.macho_unwind.proofs.Greatest.{top-of}
use Rattle.macho_unwind_pages.specs.steps.Plans.{row_from, HasSlot}
use Rattle.macho_unwind.specs.steps.Sections.{without_personality}
use Rattle.macho_bytes.proofs.Members.{all_contains, contains_map}

-- A plan of entries that can be written, by the functions that its words tell.
pub record IsMadeOf (text : ℕ) (entries : List ResolvedUnwindInfo) (plan : PlanList) : Type 0 where
  pub formed : IsPlan plan
  pub run : List ResolvedUnwindInfo
  pub same : IsPermutation entries run
  pub rising : AllPairs (λ e f. e.start < f.start) run
  pub rows : rows_of plan ≡ map (row_from text (ids_of (inputs_of entries))) run
  pub slots : All (HasSlot text (ids_of (inputs_of entries)) plan.personalities) entries
  pub lsdas : plan.lsdas ≡ flat_map (lsda_list text) run
  pub end : All (λ e. IsLast entries e → plan.end ≡ e.start + e.length - text) entries

pub made_of : (text : ℕ) (entries : List ResolvedUnwindInfo) (plan : PlanList) → AreEntries text entries → IsPlanOf text entries plan
    → IsPlan plan → IsMadeOf text entries plan
made_of text entries plan are a formed = record {
  formed = formed;
  run = a.run;
  same = a.same;
  rising = a.rising;
  rows = rows_are text entries plan are a;
  slots = a.slots;
  lsdas = a.lsdas ∙ lsdas_told text a.run;
  end = a.end;
}

-- the bits of a code, and what is left without them
code-bits : (encoding number : ℕ) → encoding / 2 ^ 28 % 4 ≡ 0 → number ≤ 3 → personality_in (encoding + 2 ^ 28 * number) ≡ number
code-bits encoding number clear small = omega arith

code-cleared : (encoding number : ℕ) → encoding / 2 ^ 28 % 4 ≡ 0 → number ≤ 3 → encoding ≡ without_personality (encoding + 2 ^ 28 * number)
code-cleared encoding number clear small =
    omega (arith, ap (λ (n : ℕ). 2 ^ 28 * n) (code-bits encoding number clear small))

-- the number of a personality, and the slot that it names
slot-number : (slots ids : List ℕ) (text : ℕ) (p : Option Personality) → length slots ≤ 3
    → IfSome p (λ q. slice_get slots (place_in ids q.id) ≡ Some (q.slot - text))
    → number_in ids (option_map (λ q. q.id) p) ≤ 3
slot-number slots ids text None few has = omega arith
slot-number slots ids text (Some p) few has = omega (arith, slice_get_within slots (place_in ids p.id) (p.slot - text) has)

slot-named : (slots ids : List ℕ) (text : ℕ) (p : Option Personality)
    → IfSome p (λ q. slice_get slots (place_in ids q.id) ≡ Some (q.slot - text))
    → NamesSlot slots (number_in ids (option_map (λ q. q.id) p)) (option_map (λ q. q.slot - text) p)
slot-named slots ids text None has = refl
slot-named slots ids text (Some p) has = record {
  one = omega arith;
  there = omega (arith, slice_get_within slots (place_in ids p.id) (p.slot - text) has);
  is = sym (ap (λ (k : ℕ). slice_index slots k) (omega arith) ∙ get_or_from_slice_get slots (place_in ids p.id) (p.slot - text) 0 has);
}

-- an entry of the run is an entry, and the other way round
pub in_run : (text : ℕ) (entries : List ResolvedUnwindInfo) (plan : PlanList) (p : IsMadeOf text entries plan) (e : ResolvedUnwindInfo)
    → Contains entries e → Contains p.run e
in_run text entries plan p e c = Contains-permutation entries p.run e p.same c

pub from_run : (text : ℕ) (entries : List ResolvedUnwindInfo) (plan : PlanList) (p : IsMadeOf text entries plan) (e : ResolvedUnwindInfo)
    → Contains p.run e → Contains entries e
from_run text entries plan p e c = Contains-permutation p.run entries e (IsPermutation-sym entries p.run p.same) c

-- two entries of a run with one start are one
run-distinct : (run : List ResolvedUnwindInfo) (e f : ResolvedUnwindInfo) → AllPairs (λ x y. x.start < y.start) run
    → Contains run e → Contains run f → e.start ≡ f.start → e ≡ f
run-distinct run e f rising (i, i_lt, i_is) (j, j_lt, j_is) same =
    let start = λ (x : ResolvedUnwindInfo). x.start in
    let other : get_or run j e ≡ f = get_or_default run j e f j_lt ∙ j_is in
    elim (cases_lt i j) [
      | inl lt ↦ absurd (omega (arith, rising i j e lt j_lt, ap start i_is, ap start other))
      | inr le ↦ elim (cases_lt j i) [
        | inl lt ↦ absurd (omega (arith, rising j i e lt i_lt, ap start i_is, ap start other))
        | inr ge ↦ sym i_is ∙ ap (λ (k : ℕ). get_or run k e) (omega arith) ∙ other
      ]
    ]

-- An item that a contains_map one comes from.
pub record IsMapped {X Y : Type 0} (f : X → Y) (xs : List X) (y : Y) : Type 0 where
  pub item : X
  pub one : Contains xs item
  pub is : y ≡ f item

unmapped : {X Y : Type 0} (f : X → Y) (xs : List X) (d : X) (y : Y) → Contains (map f xs) y → IsMapped f xs y
unmapped f xs d y (k, lt, is) =
    let within : k < length xs = omega (arith, lt, length-map xs f) in record {
      item = get_or xs k d;
      one = (k, within, get_or_default xs k (get_or xs k d) d within);
      is = sym is ∙ get_or-map f xs k d y within;
    }

-- the row of an entry is there
pub row-of-entry : (text : ℕ) (entries : List ResolvedUnwindInfo) (plan : PlanList)
    (p : IsMadeOf text entries plan) (e : ResolvedUnwindInfo)
    → Contains entries e
    → Contains (rows_of plan) (row_from text (ids_of (inputs_of entries)) e)
row-of-entry text entries plan p e c =
    let row = row_from text (ids_of (inputs_of entries)) in
    subst (λ (rows : List Row). Contains rows (row e)) (sym p.rows) (contains_map row p.run e (in_run text entries plan p e c))

-- a row that is there is that of an entry
pub entry-of-row : (text : ℕ) (entries : List ResolvedUnwindInfo) (plan : PlanList) (p : IsMadeOf text entries plan)
    (d : ResolvedUnwindInfo) (row : Row)
    → Contains (rows_of plan) row
    → IsMapped (row_from text (ids_of (inputs_of entries))) entries row
entry-of-row text entries plan p d row c =
    let m = unmapped (row_from text (ids_of (inputs_of entries))) p.run d row (subst (λ (rows : List Row). Contains rows row) p.rows c) in
    record { item = m.item; one = from_run text entries plan p m.item m.one; is = m.is }

-- the LSDAs of a start
lsda-listed : (text : ℕ) (run : List ResolvedUnwindInfo) (e : ResolvedUnwindInfo) (address : ℕ) → Contains run e → e.lsda ≡ Some address
    → Contains (flat_map (lsda_list text) run) (record { function = e.start - text; lsda = address - text })
lsda-listed text run e address (k, lt, is) has =
    let lsda : Lsda = record { function = e.start - text; lsda = address - text } in
    let one : lsda_list text (get_or run k e) ≡ lsda ∷ [] = ap (lsda_list text) is ∙ ap (lsda_at text e.start) has in
    found_from (lsda_list text) run e lsda (record {
      item = k;
      place = 0;
      there = lt;
      within = omega (arith, ap (λ (ls : List Lsda). length ls) one);
      is = ap (λ (ls : List Lsda). get_or ls 0 lsda) one;
    })

-- an LSDA of a list that one option gives
lsda-told : (text start : ℕ) (o : Option ℕ) (k : ℕ) (d : Lsda) → k < length (lsda_at text start o)
    → (get_or (lsda_at text start o) k d).function ≡ start - text
lsda-told text start None k d lt = absurd (omega arith)
lsda-told text start (Some address) zero d lt = refl
lsda-told text start (Some address) (suc k) d lt = absurd (omega arith)

lsda-some : (text start : ℕ) (o : Option ℕ) (k : ℕ) → o ≡ None → k < length (lsda_at text start o) → ⊥
lsda-some text start o k none lt = absurd (omega (arith, ap (λ (q : Option ℕ). length (lsda_at text start q)) none))

lsda-unlisted : (text : ℕ) (run : List ResolvedUnwindInfo) (e : ResolvedUnwindInfo)
    → AllPairs (λ x y. x.start < y.start) run → Contains run e
    → ((f : ResolvedUnwindInfo) → Contains run f → text ≤ f.start) → e.lsda ≡ None
    → All (λ l. l.function ≢ e.start - text) (flat_map (lsda_list text) run)
lsda-unlisted text run e rising one above none i d lt same =
    let lsdas = flat_map (lsda_list text) run in
    let l : Lsda = get_or lsdas i d in
    let c : Contains lsdas l = (i, lt, get_or_default lsdas i l d lt) in
    let at = found_in (lsda_list text) run e l c in
    let f : ResolvedUnwindInfo = get_or run at.item e in
    let there : Contains run f = (at.item, at.there, get_or_default run at.item f e at.there) in
    let told = lsda-told text f.start f.lsda at.place l at.within in
    let function : l.function ≡ f.start - text = ap (λ (q : Lsda). q.function) (sym at.is) ∙ told in
    let start : f.start ≡ e.start = omega (arith, function, same, above f there, above e one) in
    let is = run-distinct run f e rising there one start in
    lsda-some text f.start f.lsda at.place (ap (λ (x : ResolvedUnwindInfo). x.lsda) is ∙ none) at.within

lsda-said : (text : ℕ) (run : List ResolvedUnwindInfo) (e : ResolvedUnwindInfo) (o : Option ℕ)
    → AllPairs (λ x y. x.start < y.start) run → Contains run e
    → ((f : ResolvedUnwindInfo) → Contains run f → text ≤ f.start) → e.lsda ≡ o
    → IsLsdaOf (flat_map (lsda_list text) run) (e.start - text) (option_map (λ address. address - text) o)
lsda-said text run e None rising one above is = lsda-unlisted text run e rising one above is
lsda-said text run e (Some address) rising one above is = lsda-listed text run e address one is

-- The last of entries, one of which is there.
pub record HasLast (entries : List ResolvedUnwindInfo) : Type 0 where
  pub item : ResolvedUnwindInfo
  pub one : Contains entries item
  pub last : IsLast entries item

last-of : (text : ℕ) (entries : List ResolvedUnwindInfo) (e : ResolvedUnwindInfo) → AreEntries text entries
    → Contains entries e → HasLast entries
last-of text entries e are one =
    let top = top-of (λ (x : ResolvedUnwindInfo). x.start) (2 ^ 64) entries e one
    (omega (arith, all_contains (λ (x : ResolvedUnwindInfo). x.start + x.length < 2 ^ 64) entries e are.ends one)) in record {
      item = top.item;
      one = top.one;
      last = λ k d lt. top.greatest k d lt (omega (arith, are.ends k d lt));
    }

-- the plan says of an offset what its entry says
pub said-of-entry : (text : ℕ) (entries : List ResolvedUnwindInfo) (plan : PlanList) (offset : ℕ) (e : ResolvedUnwindInfo)
    → AreEntries text entries
    → IsMadeOf text entries plan → IsEntryOf text entries offset e → PlanSays plan offset (found_for text e)
said-of-entry text entries plan offset e are p of =
    let ids = ids_of (inputs_of entries) in
    let has = all_contains (HasSlot text ids plan.personalities) entries e p.slots of.one in
    let clear = all_contains (λ (f : ResolvedUnwindInfo). f.encoding / 2 ^ 28 % 4 ≡ 0) entries e are.clear of.one in
    let few = slot-number plan.personalities ids text e.personality p.formed.personalities has in
    let above : (f : ResolvedUnwindInfo) → Contains entries f → text ≤ f.start
    = λ f c. all_contains (λ (x : ResolvedUnwindInfo). text ≤ x.start) entries f are.starts c in
    let end = last-of text entries e are of.one in
    let ends = all_contains (λ (x : ResolvedUnwindInfo). IsLast entries x → plan.end ≡ x.start + x.length - text) entries
    end.item p.end end.one end.last in
    let before = all_contains (λ (x : ResolvedUnwindInfo). IsLast entries x → text + offset < x.start + x.length) entries
    end.item of.before_end end.one end.last in record {
      row = row_from text ids e;
      one = row-of-entry text entries plan p e of.one;
      up_to = omega (arith, of.up_to);
      greatest = λ k d lt below.
          let rows = rows_of plan in
          let r : Row = get_or rows k d in
          let m = entry-of-row text entries plan p e r (k, lt, get_or_default rows k r d lt) in
          let start = ap (λ (x : Row). x.start) m.is in
          let not_greater = all_contains (λ (x : ResolvedUnwindInfo). x.start ≤ text + offset → x.start ≤ e.start) entries
          m.item of.greatest m.one in
          omega (arith, start, below, above m.item m.one, not_greater);
      before_end = omega (arith, ends, before);
      start = refl;
      cleared = code-cleared e.encoding (number_in ids (option_map (λ q. q.id) e.personality)) clear few;
      personality = subst (λ (n : ℕ). NamesSlot plan.personalities n (option_map (λ q. q.slot - text) e.personality))
          (sym (code-bits e.encoding (number_in ids (option_map (λ q. q.id) e.personality)) clear few))
          (slot-named plan.personalities ids text e.personality has);
      lsda = subst (λ (ls : List Lsda). IsLsdaOf ls (e.start - text) (option_map (λ address. address - text) e.lsda)) (sym p.lsdas)
          (lsda-said text p.run e e.lsda p.rising (in_run text entries plan p e of.one)
          (λ f c. above f (from_run text entries plan p f c)) refl);
    }
