-- The parts of a plan are a plan of the entries.
--
-- The sorted run is a permutation of the entries, so all that is said of each entry or counted over all is the same of it: codes,
-- those that not every page may name, and data. So the law of pages and bytes gives the bound of the entries. A page's first start
-- is that of one of its functions, so it lies between the least start and the span above it.
use Rattle.std.proofs.Common.{◌≡◌, ℕ, zero, suc, ◌+◌, ◌-◌, ◌^◌, ◌<◌, ◌≤◌, ◌==◌, true, Option, None, Some, IfSome, List, [], ◌∷◌, ◌++◌, length, map, take, get_or, IsPermutation, refl, sym, ap, subst, ◌∙◌, arith, inl, inr, ◌⊎◌}
use Rattle.std.specs.Prelude.{IsSomeAnd}
use Rattle.std.specs.List.{All, AllPairs, flat_map, filter_map, cons_option, list_any}
use Rattle.std.specs.Option.{option_map}
use Rattle.std.proofs.lemmas.List.{length-take}
use Rattle.std.proofs.lemmas.List.Elements.{All-map, All-append, All-take}
use Rattle.std.proofs.lemmas.List.Sorted.{All-permutation, Contains-permutation, IsPermutation-sym, length_permutation}
use Rattle.macho_unwind_pages.specs.declared.entries.UnwindInput.{UnwindInput}
use Rattle.macho_unwind_pages.specs.declared.entries.Personality.{Personality}
use Rattle.macho_unwind_pages.specs.declared.entries.ResolvedUnwindInfo.{ResolvedUnwindInfo}
use Rattle.macho_unwind_pages.specs.declared.plans.Lsda.{Lsda}
use Rattle.macho_unwind_pages.specs.Entries.{AreEntries, IsLast, input_of, inputs_of, ids_of, code_in, codes_of}
use Rattle.macho_unwind_pages.specs.steps.Ranks.{ranked}
use Rattle.macho_unwind_pages.specs.Plans.{PlanList, Row, IsPlan, IsPlanOf, IsFar, HasFarAddress, HasFarOffset}
use Rattle.macho_unwind_pages.specs.steps.Words.{page_rows}
use Rattle.macho_unwind_pages.specs.steps.Paging.{ArePages}
use Rattle.macho_unwind_pages.specs.steps.Planning.{lsda_at, lsda_list, IsNear, IsBehind, IsNumbered, HasShortCode, IsReady, IsAssembled}
use Rattle.macho_unwind_pages.proofs.OneList.{AreDistinct}
use Rattle.macho_unwind_pages.proofs.OneTables.{globals_once}
use Rattle.macho_unwind_pages.proofs.Divided.{divided, written}
use Rattle.macho_unwind_pages.proofs.Gathered.{numbered, short_codes, behind, alike, ranked_codes, short_ranks}
use Rattle.macho_unwind_pages.specs.steps.Plans.{row_from, lsda_from, HasSlot}
use Rattle.macho_bytes.proofs.Pairs.{pairs_cons}

-- what the parts are made from
ready_of : (text : ℕ) (entries run : List ResolvedUnwindInfo) → 0 < length entries → AreEntries text entries → IsPermutation entries run
    → AllPairs (λ e f. e.start < f.start) run → All (IsNear text) run → length (ids_of (inputs_of entries)) ≤ 3
    → IsReady text (ids_of (inputs_of entries)) (codes_of (inputs_of entries)) run
ready_of text entries run some are moved rising near few = record {
  some = omega (arith, length_permutation entries run moved);
  few = few;
  rising = rising;
  behind = All-permutation (IsBehind text) entries run moved (behind text entries are);
  near = near;
  numbered = All-permutation (IsNumbered (ids_of (inputs_of entries))) entries run moved (numbered entries);
  alike = alike text entries run are moved;
  short = All-permutation (HasShortCode (ids_of (inputs_of entries))) entries run moved short;
  fit = All-map (λ code. code < 2 ^ 32) (code_in (ids_of (inputs_of entries))) (inputs_of entries)
      (All-map (λ e. code_in (ids_of (inputs_of entries)) e < 2 ^ 32) input_of entries short);
  ranked = All-permutation
      (λ e. list_any (λ other. code_in (ids_of (inputs_of entries)) (input_of e) == other) (ranked (codes_of (inputs_of entries))) ≡ true)
      entries run moved (ranked_codes entries);
}
  where
    short : All (HasShortCode (ids_of (inputs_of entries))) entries
    short = short_codes text entries are few
        (All-permutation (λ e. e.encoding < 2 ^ 32) run entries (IsPermutation-sym entries run moved) (λ k d h. (near k d h).encoding))

-- a run of near entries by rising start is ready, with the ids and codes that were made of the entries
pub ready : (text : ℕ) (entries run : List ResolvedUnwindInfo) (inputs : List UnwindInput) (ids codes : List ℕ) → 0 < length entries
    → AreEntries text entries → IsPermutation entries run → AllPairs (λ e f. e.start < f.start) run → All (IsNear text) run
    → inputs ≡ inputs_of entries → ids ≡ ids_of inputs → length (ids_of inputs) ≤ 3 → codes ≡ map (code_in ids) inputs
    → IsReady text ids codes run
ready text entries run inputs ids codes some are moved rising near inputs_is ids_is few codes_is =
    let ids_are : ids ≡ ids_of (inputs_of entries) = ids_is ∙ ap ids_of inputs_is in
    let codes_are : codes ≡ codes_of (inputs_of entries)
    = codes_is ∙ ap (λ is. map (code_in is) inputs) ids_is ∙ ap codes_of inputs_is in
    let few_of : length (ids_of (inputs_of entries)) ≤ 3 = subst (λ (l : List UnwindInput). length (ids_of l) ≤ 3) inputs_is few in
    subst (λ is. IsReady text is codes run) (sym ids_are)
    (subst (λ cs. IsReady text (ids_of (inputs_of entries)) cs run) (sym codes_are)
    (ready_of text entries run some are moved rising near few_of))

-- the data of a run, one by one
pub lsdas_told : (text : ℕ) (run : List ResolvedUnwindInfo) → filter_map (lsda_from text) run ≡ flat_map (lsda_list text) run
lsdas_told text [] = refl
lsdas_told text (e ∷ run) = go (lsdas_told text run) e.lsda
  where
    go : filter_map (lsda_from text) run ≡ flat_map (lsda_list text) run → (o : Option ℕ)
        → cons_option (option_map (λ address. let l : Lsda = record { function = e.start - text; lsda = address - text } in l) o)
        (filter_map (lsda_from text) run)
        ≡ lsda_at text e.start o ++ flat_map (lsda_list text) run
    go rest None = rest
    go rest (Some address) =
        let l : Lsda = record { function = e.start - text; lsda = address - text } in
        ap (λ (ls : List Lsda). l ∷ ls) rest

lsda_bounds : (text : ℕ) (least : ℕ) (run : List ResolvedUnwindInfo) → text ≤ least → All (λ e. least < e.start) run
    → All (λ l. least - text < l.function) (flat_map (lsda_list text) run)
lsda_bounds text least [] above later = λ k d h. absurd (omega arith)
lsda_bounds text least (e ∷ run) above later =
    All-append (λ l. least - text < l.function) (lsda_list text e) (flat_map (lsda_list text) run) (one e.lsda)
    (lsda_bounds text least run above (λ k d h. later (suc k) d (omega arith)))
  where
    one : (o : Option ℕ) → All (λ l. least - text < l.function) (lsda_at text e.start o)
    one None = λ k d h. absurd (omega arith)
    one (Some address) = λ k d h. first k d h
      where
        first : (k : ℕ) (d : Lsda) → k < 1 → least - text < (get_or (lsda_at text e.start (Some address)) k d).function
        first zero d h = omega (arith, later 0 e (omega arith))
        first (suc k) d h = absurd (omega arith)

lsda_order : (text : ℕ) (run : List ResolvedUnwindInfo) → All (IsBehind text) run → AllPairs (λ e f. e.start < f.start) run
    → AllPairs (λ l m. l.function < m.function) (flat_map (lsda_list text) run)
lsda_order text [] above rising = λ i j d low h. absurd (omega arith)
lsda_order text (e ∷ run) above rising =
    go e.lsda (lsda_order text run (λ k d h. above (suc k) d (omega arith))
    (λ i j d low h. rising (suc i) (suc j) d (omega arith) (omega arith)))
  where
    go : (o : Option ℕ) → AllPairs (λ l m. l.function < m.function) (flat_map (lsda_list text) run)
        → AllPairs (λ l m. l.function < m.function) (lsda_at text e.start o ++ flat_map (lsda_list text) run)
    go None rest = rest
    go (Some address) rest =
        pairs_cons (λ l m. l.function < m.function) (record { function = e.start - text; lsda = address - text })
        (flat_map (lsda_list text) run)
        (lsda_bounds text e.start run (above 0 e (omega arith)).start (λ k d h. rising 0 (suc k) d (omega arith) (omega arith))) rest

lsda_short : (text : ℕ) (run : List ResolvedUnwindInfo) → All (IsNear text) run
    → All (λ l. (l.function < 2 ^ 32) × (l.lsda < 2 ^ 32)) (flat_map (lsda_list text) run)
lsda_short text [] near = λ k d h. absurd (omega arith)
lsda_short text (e ∷ run) near =
    All-append (λ l. (l.function < 2 ^ 32) × (l.lsda < 2 ^ 32)) (lsda_list text e) (flat_map (lsda_list text) run)
    (one e.lsda (near 0 e (omega arith)).lsda) (lsda_short text run (λ k d h. near (suc k) d (omega arith)))
  where
    one : (o : Option ℕ) → IfSome o (λ address. address < text + 2 ^ 32)
        → All (λ l. (l.function < 2 ^ 32) × (l.lsda < 2 ^ 32)) (lsda_at text e.start o)
    one None low = λ k d h. absurd (omega arith)
    one (Some address) low = λ k d h. first k d h
      where
        first : (k : ℕ) (d : Lsda) → k < 1
            → ((get_or (lsda_at text e.start (Some address)) k d).function < 2 ^ 32)
            × ((get_or (lsda_at text e.start (Some address)) k d).lsda < 2 ^ 32)
        first zero d h = (omega (arith, (near 0 e (omega arith)).start), omega (arith, low))
        first (suc k) d h = absurd (omega arith)

-- the parts that the code makes
pub assembled_of : (text : ℕ) (ids codes : List ℕ) (run : List ResolvedUnwindInfo) (rows : List Row) (ranks : List ℕ) (plan : PlanList)
    → IsReady text ids codes run → ranks ≡ ranked codes → rows ≡ map (row_from text ids) run → ArePages (take 224 ranks) rows plan.pages
    → plan.globals ≡ take 224 ranks → length plan.personalities ≡ length ids → All (HasSlot text ids plan.personalities) run
    → plan.lsdas ≡ flat_map (lsda_list text) run → All (λ slot. slot < 2 ^ 32) plan.personalities → IsAssembled text ids codes run plan
assembled_of text ids codes run rows ranks plan is ranks_are rows_are pages globals count slots lsdas short = record {
  pages = subst (λ g. ArePages g (map (row_from text ids) run) plan.pages) (sym globals)
      (subst (λ rs. ArePages (take 224 ranks) rs plan.pages) rows_are pages);
  globals = globals ∙ ap (take 224) ranks_are;
  count = count;
  slots = slots;
  lsdas = lsdas;
  short_codes = subst (All (λ code. code < 2 ^ 32)) (sym (globals ∙ ap (take 224) ranks_are))
      (All-take (λ code. code < 2 ^ 32) 224 (ranked codes) (short_ranks codes is.fit));
  short_slots = short;
}

-- a run of near entries has no far offset, nor have the entries
near_address : (text : ℕ) (e : ResolvedUnwindInfo) → IsNear text e → HasFarAddress text e → ⊥
near_address text e near (inl far) = omega (arith, near.start)
near_address text e near (inr (inl far)) = go e.personality near.slot far
  where
    go : (o : Option Personality) → IfSome o (λ p. p.slot < text + 2 ^ 32) → IsSomeAnd o (λ p. IsFar text p.slot) → ⊥
    go None low high = high
    go (Some p) low high = omega (arith, low, high)
near_address text e near (inr (inr far)) = go e.lsda near.lsda far
  where
    go : (o : Option ℕ) → IfSome o (λ address. address < text + 2 ^ 32) → IsSomeAnd o (λ address. IsFar text address) → ⊥
    go None low high = high
    go (Some address) low high = omega (arith, low, high)

-- entries whose run is near and ends near have no far offset
pub not_far : (text : ℕ) (entries run : List ResolvedUnwindInfo) (end : ℕ) → IsPermutation entries run → All (IsNear text) run
    → All (λ e. IsLast run e → e.start + e.length ≡ text + end) run → end < 2 ^ 32 → HasFarOffset text entries → ⊥
not_far text entries run end moved near ends low far =
    let there = Contains-permutation entries run far.0 moved far.1 in
    let is_near : IsNear text far.0 = subst (IsNear text) there.2 (near there.0 far.0 there.1) in
    go (subst (λ e. IsLast run e → e.start + e.length ≡ text + end) there.2 (ends there.0 far.0 there.1)) is_near far.2
  where
    go : (IsLast run far.0 → far.0.start + far.0.length ≡ text + end) → IsNear text far.0
        → (HasFarAddress text far.0 ⊎ (IsLast entries far.0 × IsFar text (far.0.start + far.0.length))) → ⊥
    go at is_near (inl address) = near_address text far.0 is_near address
    go at is_near (inr last) =
        let at_end = at (All-permutation (λ f. f.start ≤ far.0.start) entries run moved last.0) in
        omega (arith, at_end, last.1, low)

-- a far offset of the run is one of the entries
pub far_of_run : (text : ℕ) (entries run : List ResolvedUnwindInfo) → IsPermutation entries run → HasFarOffset text run
    → HasFarOffset text entries
far_of_run text entries run moved far =
    (far.0, Contains-permutation run entries far.0 (IsPermutation-sym entries run moved) far.1, go far.2)
  where
    go : (HasFarAddress text far.0 ⊎ (IsLast run far.0 × IsFar text (far.0.start + far.0.length)))
        → (HasFarAddress text far.0 ⊎ (IsLast entries far.0 × IsFar text (far.0.start + far.0.length)))
    go (inl address) = inl address
    go (inr last) = inr (All-permutation (λ f. f.start ≤ far.0.start) run entries (IsPermutation-sym entries run moved) last.0, last.1)

-- the plan can be written
pub is_plan : (text : ℕ) (ids codes : List ℕ) (run : List ResolvedUnwindInfo) (plan : PlanList) → IsReady text ids codes run
    → IsAssembled text ids codes run plan → plan.end < 2 ^ 32 → IsPlan plan
is_plan text ids codes run plan are is low = record {
  pages = is.pages.each;
  order = is.pages.order;
  globals = omega (arith, ap length is.globals, length-take 224 (ranked codes));
  personalities = omega (arith, is.count, are.few);
  lsda_order = subst (AllPairs (λ l m. l.function < m.function)) (sym is.lsdas) (lsda_order text run are.behind are.rising);
  codes = is.short_codes;
  slots = is.short_slots;
  lsdas = subst (All (λ l. (l.function < 2 ^ 32) × (l.lsda < 2 ^ 32))) (sym is.lsdas) (lsda_short text run are.near);
  end = low;
}

pub planned : (text : ℕ) (entries run : List ResolvedUnwindInfo) (plan : PlanList) (end : ℕ)
    → IsReady text (ids_of (inputs_of entries)) (codes_of (inputs_of entries)) run
    → IsAssembled text (ids_of (inputs_of entries)) (codes_of (inputs_of entries)) run plan → IsPermutation entries run
    → plan.end ≡ end → end < 2 ^ 32 → All (λ e. IsLast run e → e.start + e.length ≡ text + end) run → IsPlanOf text entries plan
planned text entries run plan end are is moved end_is low ends = record {
  run = run;
  same = moved;
  rising = are.rising;
  pages = map (page_rows plan.globals) plan.pages;
  divided = divided plan.globals (map (row_from text (ids_of (inputs_of entries))) run) plan.pages is.pages;
  written = written plan.globals (map (row_from text (ids_of (inputs_of entries))) run) plan.pages
      (subst AreDistinct (sym is.globals) (globals_once (codes_of (inputs_of entries)))) is.pages;
  globals = is.globals;
  personalities = is.count;
  slots = All-permutation (HasSlot text (ids_of (inputs_of entries)) plan.personalities) run entries
      (IsPermutation-sym entries run moved) is.slots;
  lsdas = is.lsdas ∙ sym (lsdas_told text run);
  end = λ k d h last. omega (
    arith,
    end_is,
    All-permutation (λ e. IsLast run e → e.start + e.length ≡ text + end) run entries (IsPermutation-sym entries run moved) ends k d h
        (All-permutation (λ f. f.start ≤ (get_or entries k d).start) entries run moved last),
  );
}

-- the plan, from what the code knows
pub planned_from : (text : ℕ) (entries run : List ResolvedUnwindInfo) (inputs : List UnwindInput) (ids codes : List ℕ)
    (plan : PlanList) (end : ℕ) → IsReady text ids codes run → IsAssembled text ids codes run plan → IsPermutation entries run
    → inputs ≡ inputs_of entries → ids ≡ ids_of inputs → codes ≡ map (code_in ids) inputs
    → plan.end ≡ end → end < 2 ^ 32 → All (λ e. IsLast run e → e.start + e.length ≡ text + end) run → IsPlanOf text entries plan
planned_from text entries run inputs ids codes plan end are is moved inputs_is ids_is codes_is end_is low ends =
    let ids_are : ids ≡ ids_of (inputs_of entries) = ids_is ∙ ap ids_of inputs_is in
    let codes_are : codes ≡ codes_of (inputs_of entries)
    = codes_is ∙ ap (λ is. map (code_in is) inputs) ids_is ∙ ap codes_of inputs_is in
    planned text entries run plan end
    (subst (λ cs. IsReady text (ids_of (inputs_of entries)) cs run) codes_are (subst (λ is. IsReady text is codes run) ids_are are))
    (subst (λ cs. IsAssembled text (ids_of (inputs_of entries)) cs run plan) codes_are
    (subst (λ is. IsAssembled text is codes run plan) ids_are is))
    moved end_is low ends
