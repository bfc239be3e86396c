-- Uses that are noted row by row: behind some uses come those of the first rows, and the next row's come behind these.
--
-- A list of rows is its first ones, one more, and the others; so are the uses. What begins the walk with all of them begins it with
-- fewer, and the last use of a beginning is one of the walk.
use Rattle.std.proofs.Common.{◌≡◌, ℕ, ◌+◌, ◌<◌, ◌≤◌, List, [], ◌∷◌, ◌++◌, length, take, drop, get_or, Option, Some, sym, ap, ◌∙◌, subst, append-nil, append_assoc}
use Rattle.std.specs.Prelude.{Contains, option_map, option_to_list}
use Rattle.std.specs.List.{flat_map}
use Rattle.std.proofs.lemmas.List.{take_more, take-append-drop}
use Rattle.std.proofs.lemmas.List.Elements.{Contains-append_left, Contains-append_right}
use Rattle.std.proofs.lemmas.Grind.{flat_map-append}
use Rattle.macho_model.specs.Links.{Input, Link}
use Rattle.macho_model.specs.Uses.{Use, uses_of}
use Rattle.macho_symbol_names.specs.Kept.{FileRows, Keeps}
use Rattle.macho_symbols.specs.Kept.{ResolvedRows, HasSymbol}
use Rattle.macho_promise.specs.Noted.{BeginsWith}
use Rattle.macho_needs.specs.declared.needs.Needs.{Needs}
use Rattle.macho_needs.specs.Noted.{IsNoted}
use Rattle.macho_consumed.specs.declared.rows.PersonalityUse.{PersonalityUse}
use Rattle.macho_consumed.specs.declared.rows.UnwindEntry.{UnwindEntry}
use Rattle.macho_consumed.specs.Laws.{use_of_personality, uses_of_entry}
use Rattle.macho_reading.specs.steps.Rows.{AreOfSome}
use Rattle.macho_bytes.proofs.Members.{contains_first}

-- the last use of a beginning
pub last_used : (l : Link) (us : List Use) (u : Use) → BeginsWith l (us ++ u ∷ []) → Contains (uses_of l) u
last_used l us u begins =
    subst (λ (ws : List Use). Contains ws u) (sym begins.is)
    (Contains-append_left (us ++ u ∷ []) begins.rest u (Contains-append_right us (u ∷ []) u (contains_first u [])))

-- one row more
parts_more : {X : Type 0} (us : List Use) (f : X → List Use) (xs : List X) (i : ℕ) (d : X) → i < length xs
    → us ++ flat_map f (take (i + 1) xs) ≡ (us ++ flat_map f (take i xs)) ++ f (get_or xs i d)
parts_more {X = X} us f xs i d lt =
    ap (λ (ys : List X). us ++ flat_map f ys) (take_more xs i d lt)
    ∙ ap (λ (ws : List Use). us ++ ws) (flat_map-append f (take i xs) (get_or xs i d ∷ [])
    ∙ ap (λ (ws : List Use). flat_map f (take i xs) ++ ws) (append-nil (f (get_or xs i d))))
    ∙ sym (append_assoc us (flat_map f (take i xs)) (f (get_or xs i d)))

pub begins_more : {X : Type 0} (l : Link) (us : List Use) (f : X → List Use) (xs : List X) (i : ℕ) (d : X) → i < length xs
    → BeginsWith l (us ++ flat_map f xs) → BeginsWith l ((us ++ flat_map f (take i xs)) ++ f (get_or xs i d))
begins_more {X = X} l us f xs i d lt begins =
    let first = flat_map f (take (i + 1) xs) in
    let others = flat_map f (drop (i + 1) xs) in
    let split : flat_map f xs ≡ first ++ others
    = ap (flat_map f) (sym (take-append-drop (i + 1) xs)) ∙ flat_map-append f (take (i + 1) xs) (drop (i + 1) xs) in
    let whole : us ++ flat_map f xs ≡ ((us ++ flat_map f (take i xs)) ++ f (get_or xs i d)) ++ others
    = ap (λ (ws : List Use). us ++ ws) split ∙ sym (append_assoc us first others)
    ∙ ap (λ (ws : List Use). ws ++ others) (parts_more us f xs i d lt) in
    record {
      rest = others ++ begins.rest;
      is = begins.is ∙ ap (λ (ws : List Use). ws ++ begins.rest) whole
          ∙ append_assoc ((us ++ flat_map f (take i xs)) ++ f (get_or xs i d)) others begins.rest;
    }

pub noted_more : {X : Type 0} (l : Link) (us : List Use) (f : X → List Use) (xs : List X) (i : ℕ) (d : X) (n : Needs) → i < length xs
    → IsNoted l ((us ++ flat_map f (take i xs)) ++ f (get_or xs i d)) n → IsNoted l (us ++ flat_map f (take (i + 1) xs)) n
noted_more l us f xs i d n lt noted = subst (λ (ws : List Use). IsNoted l ws n) (sym (parts_more us f xs i d lt)) noted

-- what an entry with a personality function uses
pub entry_used : (e : UnwindEntry) (p : PersonalityUse) → e.personality ≡ Some p → uses_of_entry e ≡ use_of_personality e p ∷ []
entry_used e p is = ap (λ (o : Option PersonalityUse). option_to_list (option_map (use_of_personality e) o)) is

pub symbol_stays : (old new : ResolvedRows) (file symbol : ℕ) → old.files ≡ new.files → HasSymbol old file symbol
    → HasSymbol new file symbol
symbol_stays old new file symbol same has =
    subst (λ (files : List FileRows). HasSymbol (record { files = files; noted = new.noted }) file symbol) same has
