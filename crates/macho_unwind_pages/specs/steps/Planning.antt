-- What the parts of a plan ask of entries.
use Rattle.std.specs.Prelude.{◌≡◌, ℕ, ◌+◌, ◌-◌, ◌^◌, ◌<◌, ◌≤◌, Option, None, Some, IfSome, List, [], ◌∷◌, length, map, flat_map, ◌==◌, true, All}
use Rattle.std.specs.List.{AllPairs, list_any}
use Rattle.macho_unwind_pages.specs.declared.entries.ResolvedUnwindInfo.{ResolvedUnwindInfo}
use Rattle.macho_unwind_pages.specs.declared.plans.Lsda.{Lsda}
use Rattle.macho_unwind_pages.specs.Entries.{MOST_PERSONALITIES, place_in, input_of, code_in}
use Rattle.macho_unwind_pages.specs.steps.Ranks.{ranked, IsNumberOf}
use Rattle.macho_unwind_pages.specs.Bounds.{globals_of}
use Rattle.macho_unwind_pages.specs.Plans.{PlanList}
use Rattle.macho_unwind_pages.specs.steps.Paging.{ArePages}
use Rattle.macho_unwind_pages.specs.steps.Plans.{row_from, HasSlot}

-- the addresses of an entry are told by offsets of 32 bits
pub record IsNear (text : ℕ) (e : ResolvedUnwindInfo) : Type 0 where
  pub encoding : e.encoding < 2 ^ 32
  pub start : e.start < text + 2 ^ 32
  pub slot : IfSome e.personality (λ p. p.slot < text + 2 ^ 32)
  pub lsda : IfSome e.lsda (λ address. address < text + 2 ^ 32)

-- the addresses of an entry aren't below the text's
pub record IsBehind (text : ℕ) (e : ResolvedUnwindInfo) : Type 0 where
  pub start : text ≤ e.start
  pub slot : IfSome e.personality (λ p. text ≤ p.slot)
  pub lsda : IfSome e.lsda (λ address. text ≤ address)

-- the personality of an entry is one of some ids, and its place is that of its number
abbrev pub IsNumbered : List ℕ → ResolvedUnwindInfo → Type 0
IsNumbered ids e = IfSome e.personality (λ p. IsNumberOf ids p.id (place_in ids p.id))

-- one id has one slot
abbrev pub AreAlike : ResolvedUnwindInfo → ResolvedUnwindInfo → Type 0
AreAlike e f = IfSome e.personality (λ p. IfSome f.personality (λ q. p.id ≡ q.id → p.slot ≡ q.slot))

-- the code of an entry has 32 bits
abbrev pub HasShortCode : List ℕ → ResolvedUnwindInfo → Type 0
HasShortCode ids e = code_in ids (input_of e) < 2 ^ 32

-- What the parts of a plan are made from: a run of entries in order, their ids, and the codes of all.
pub record IsReady (text : ℕ) (ids codes : List ℕ) (run : List ResolvedUnwindInfo) : Type 0 where
  pub some : 0 < length run
  pub few : length ids ≤ MOST_PERSONALITIES
  pub rising : AllPairs (λ e f. e.start < f.start) run
  pub behind : All (IsBehind text) run
  pub near : All (IsNear text) run
  pub numbered : All (IsNumbered ids) run
  pub alike : All (λ e. All (AreAlike e) run) run
  pub short : All (HasShortCode ids) run
  pub fit : All (λ code. code < 2 ^ 32) codes
  pub ranked : All (λ e. list_any (λ other. code_in ids (input_of e) == other) (ranked codes) ≡ true) run

-- what an entry adds to the list of language-specific data
abbrev pub lsda_at : ℕ → ℕ → Option ℕ → List Lsda
lsda_at text start None = []
lsda_at text start (Some address) = record { function = start - text; lsda = address - text } ∷ []

abbrev pub lsda_list : ℕ → ResolvedUnwindInfo → List Lsda
lsda_list text e = lsda_at text e.start e.lsda

-- The parts of a plan.
pub record IsAssembled (text : ℕ) (ids codes : List ℕ) (run : List ResolvedUnwindInfo) (plan : PlanList) : Type 0 where
  pub pages : ArePages plan.globals (map (row_from text ids) run) plan.pages
  pub globals : plan.globals ≡ globals_of codes
  pub count : length plan.personalities ≡ length ids
  pub slots : All (HasSlot text ids plan.personalities) run
  pub lsdas : plan.lsdas ≡ flat_map (lsda_list text) run
  pub short_codes : All (λ code. code < 2 ^ 32) plan.globals
  pub short_slots : All (λ slot. slot < 2 ^ 32) plan.personalities
