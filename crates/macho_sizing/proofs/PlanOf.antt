-- What is added of a link makes the plan of the link.
--
-- Its sections are those of its views, its commons the chosen ones by their places, its slots and stubs the link's lists. A chosen common
-- is a symbol of an object that keeps its rules, so it is aligned to 2 ^ 14 at most.
use Rattle.std.proofs.Common.{◌≡◌, ℕ, ◌+◌, ◌<◌, ◌≤◌, Bool, true, false, not, ◌||◌, ◌&&◌, List, [], ◌∷◌, ◌++◌, map, length, get_or, refl, sym, ap, ◌∙◌, subst, arith, leb-true}
use Rattle.std.specs.Prelude.{All, Contains, Option}
use Rattle.std.specs.List.{enumerate_from, range_with_len, position_or_len}
use Rattle.std.proofs.lemmas.Bool.{false≢true}
use Rattle.std.proofs.lemmas.List.{get_or_default, get_or-map, length-map}
use Rattle.std.proofs.lemmas.List.Elements.{All-map}
use Rattle.std.proofs.lemmas.List.FromFn.{length-enumerate_from, get_or-enumerate_from}
use Rattle.macho_records.specs.Symbols.{is_common_of, common_exponent_of}
use Rattle.macho_model.specs.Grammar.{IsObject}
use Rattle.macho_model.proofs.ObjectLaws.{object_keeps}
use Rattle.macho_model.specs.Objects.{num_symbols}
use Rattle.macho_model.specs.Links.{Link, Input, Object, Dylib, Stub, object_bytes, object_of, no_input}
use Rattle.macho_model.specs.declared.targets.Target.{Target}
use Rattle.macho_model.specs.declared.targets.Target.TheVariants as target
use Rattle.macho_model.specs.Targets.{slots_of, stubs_of, same_target}
use Rattle.macho_model.specs.Resolution.{SymbolId, entry_at, symbols_of, symbols_of_file, chosen_commons}
use Rattle.macho_model.specs.LinkLaws.{is_chosen}
use Rattle.macho_object.specs.Views.{FileBytes}
use Rattle.macho_promise.specs.Views.{object_view, views_of, ViewsObject}
use Rattle.macho_symbols.specs.declared.solved.Common.{Common}
use Rattle.macho_symbols.specs.Told.{common_of, CommonsAre}
use Rattle.macho_layout.specs.declared.spec.CommonSpec.{CommonSpec}
use Rattle.macho_layout.specs.declared.spec.StubSpec.{StubSpec}
use Rattle.macho_layout.specs.Plans.{Planning, new_plan, IsPlanOf, common_spec_of}
use Rattle.macho_sizing.specs.Sections.{specs_of_views}
use Rattle.macho_sizing.proofs.OfLink.{specs_are}
use Rattle.macho_sizing.specs.steps.Planned.{common_spec, common_specs, AddsStubs}
use Rattle.macho_sizing.proofs.Adding.{with_commons, with_slots}
use Rattle.macho_bytes.proofs.Bools.{and_left}
use Rattle.macho_bytes.proofs.Members.{contains_all, map_contains, filter_contains, flat_map_contains, range_contains}

-- a symbol of a link is one of an object that keeps the rules
symbol_kept : (l : Link) (s : SymbolId) → All ViewsObject (views_of l) → Contains (symbols_of l) s
    → IsObject (object_of l s.file) × (s.symbol < num_symbols (object_of l s.file))
unfolding symbols_of
symbol_kept l s rules c =
    let z = flat_map_contains (λ (i : ℕ × Input). symbols_of_file i.0 i.1) (enumerate_from 0 l.inputs) s c in
    by z.0 z.1 z.2
  where
    kind : (file : ℕ) (x : Input) → ViewsObject (object_view x) → Contains (symbols_of_file file x) s
        → (s.file ≡ file) × IsObject (object_bytes x) × (s.symbol < num_symbols (object_bytes x))
    kind file (Object b) rule there =
        let k = map_contains (λ (n : ℕ). let t : SymbolId = record { file = file; symbol = n } in t) (range_with_len 0
        (num_symbols b)) s there in
        let low : k.0 < num_symbols b = range_contains (num_symbols b) k.0 k.1 in
        let symbol : k.0 ≡ s.symbol = ap (λ (t : SymbolId). t.symbol) k.2 in
        (sym (ap (λ (t : SymbolId). t.file) k.2), rule.0, omega (arith, low, symbol))
    kind file (Dylib b) rule there = absurd (omega (arith, there.1))
    kind file (Stub text says) rule there = absurd (omega (arith, there.1))

    by : (z : ℕ × Input) → Contains (enumerate_from 0 l.inputs) z → Contains (symbols_of_file z.0 z.1) s
        → IsObject (object_of l s.file) × (s.symbol < num_symbols (object_of l s.file))
    by z (k, k_in, k_is) there =
        let inside : k < length l.inputs = omega (arith, k_in, length-enumerate_from 0 l.inputs) in
        let both : (let q : ℕ × Input = (0 + k, get_or l.inputs k z.1) in q) ≡ z = sym
        (get_or-enumerate_from 0 l.inputs k z inside) ∙ k_is in
        let number : 0 + k ≡ z.0 = ap (λ (q : ℕ × Input). q.0) both in
        let input : get_or l.inputs k z.1 ≡ z.1 = ap (λ (q : ℕ × Input). q.1) both in
        let rule : ViewsObject (object_view z.1)
        = subst (λ (x : Input). ViewsObject (object_view x)) input (view_rule k z.1 inside) in
        let facts = kind z.0 z.1 rule there in
        let file : s.file ≡ k = omega (arith, facts.0, number) in
        let bytes : object_bytes z.1 ≡ object_of l s.file
        = ap object_bytes (sym input) ∙ ap object_bytes (get_or_default l.inputs k z.1 no_input inside)
        ∙ ap (λ (n : ℕ). object_of l n) (sym file) in
        subst (λ (b : List ℕ). IsObject b × (s.symbol < num_symbols b)) bytes (facts.1, facts.2)
      where
        view_rule : (k : ℕ) (d : Input) → k < length l.inputs → ViewsObject (object_view (get_or l.inputs k d))
        view_rule k d lt =
            subst ViewsObject (get_or-map object_view l.inputs k d (object_view d) lt)
            (rules k (object_view d) (omega (arith, lt, length-map l.inputs object_view)))

-- a chosen common has a small alignment
chosen_small : (l : Link) (s : SymbolId) → All ViewsObject (views_of l) → Contains (chosen_commons l) s
    → common_exponent_of (entry_at l s) ≤ 14
unfolding chosen_commons
chosen_small l s rules c =
    let f = filter_contains (is_chosen l) (symbols_of l) s c in
    let kept = symbol_kept l s rules f.0 in
    let common : is_common_of (entry_at l s) ≡ true = and_left _ _ f.1 in
    leb-true (common_exponent_of (entry_at l s)) 14
    (parts (is_common_of (entry_at l s)) _ _ ((object_keeps kept.0).o14 s.symbol kept.1) common)
  where
    parts : (a b c : Bool) → (not a || (b && c)) ≡ true → a ≡ true → b ≡ true
    parts true true c e a = refl
    parts true false c e a = absurd (false≢true e)
    parts false b c e a = absurd (false≢true a)

pub commons_small : (l : Link) (commons : List Common) → All ViewsObject (views_of l) → CommonsAre l commons
    → All (λ c. c.align ≤ 14) commons
commons_small l commons rules are =
    subst (λ (cs : List Common). All (λ c. c.align ≤ 14) cs) (sym are)
    (All-map (λ (c : Common). c.align ≤ 14) (common_of l) (chosen_commons l)
    (contains_all (λ s. common_exponent_of (entry_at l s) ≤ 14) (chosen_commons l) (λ s there. chosen_small l s rules there)))

-- the commons of the plan
pub commons_planned : (l : Link) (commons : List Common) → CommonsAre l commons
    → common_specs commons ≡ map (common_spec_of l) (enumerate_from 0 (chosen_commons l))
unfolding common_specs
commons_planned l commons are = ap (λ (cs : List Common). map common_spec (enumerate_from 0 cs)) are ∙ numbered 0 (chosen_commons l)
  where
    numbered : (n : ℕ) (ss : List SymbolId)
        → map common_spec (enumerate_from n (map (common_of l) ss)) ≡ map (common_spec_of l) (enumerate_from n ss)
    numbered n [] = refl
    numbered n (s ∷ ss) = ap (λ (cs : List CommonSpec). common_spec_of l (n, s) ∷ cs) (numbered (n + 1) ss)

-- THE plan, part by part
pub plan_is : (l : Link) (p0 p1 p2 p3 p4 : Planning) (executable : Bool) (views : List (Option FileBytes)) (commons : List Common)
    (slots stubs : List Target) → executable ≡ l.executable → views ≡ views_of l → CommonsAre l commons → slots ≡ slots_of l
    → stubs ≡ stubs_of l → p0 ≡ new_plan executable → p1 ≡ record p0 { sections = p0.sections ++ specs_of_views views }
    → p2 ≡ with_commons p1 (common_specs commons) → p3 ≡ with_slots p2 slots → AddsStubs slots stubs p3 p4 → IsPlanOf l p4
plan_is l p0 p1 p2 p3 p4 executable views commons slots stubs ex vs cs ss bs e0 e1 e2 e3 e4 = record {
  executable = ap (λ (p : Planning). p.executable) back ∙ ap (λ (p : Planning). p.executable) first ∙ ex;
  sections = ap (λ (p : Planning). p.sections) back ∙ ap (λ (p : Planning). p.sections) first ∙ ap specs_of_views vs ∙ specs_are l;
  commons = ap (λ (p : Planning). p.commons) e4.is ∙ ap (λ (p : Planning). p.commons) e3 ∙ ap (λ (p : Planning). p.commons) e2
      ∙ ap (λ (p : Planning). p.commons ++ common_specs commons) first ∙ commons_planned l commons cs;
  slots = ap (λ (p : Planning). p.slots) e4.is ∙ ap (λ (p : Planning). p.slots) e3 ∙ ap (λ (p : Planning). p.slots ++ slots) e2
      ∙ ap (λ (p : Planning). p.slots ++ slots) first ∙ ss;
  stubs = ap (λ (xs : List StubSpec). map (λ s. target.Import s.import) xs) added ∙ e4.imports ∙ bs;
  stub_slots = subst (λ (xs : List StubSpec). All (λ s. s.slot ≡ position_or_len (same_target (target.Import s.import))
      (slots_of l)) xs) (sym added)
      (subst (λ (ts : List Target). All (λ s. s.slot ≡ position_or_len (same_target (target.Import s.import)) ts) e4.added) ss e4.through);
}
  where
    first : p1 ≡ record (new_plan executable) { sections = specs_of_views views }
    first = e1 ∙ ap (λ (p : Planning). record p { sections = p.sections ++ specs_of_views views }) e0

    added : p4.stubs ≡ e4.added
    added =
        ap (λ (p : Planning). p.stubs) e4.is ∙ ap (λ (p : Planning). p.stubs ++ e4.added) e3 ∙ ap (λ (p : Planning). p.stubs ++ e4.added) e2
        ∙ ap (λ (p : Planning). p.stubs ++ e4.added) first

    back : record p4 { commons = p1.commons; slots = p1.slots; stubs = p1.stubs } ≡ p1
    back =
        ap (λ (p : Planning). record p { commons = p1.commons; slots = p1.slots; stubs = p1.stubs }) e4.is
        ∙ ap (λ (p : Planning). record p { commons = p1.commons; slots = p1.slots; stubs = p1.stubs }) e3
        ∙ ap (λ (p : Planning). record p { commons = p1.commons; slots = p1.slots; stubs = p1.stubs }) e2
