-- A member that is looked up in the arguments of the call is the one with these numbers among the inputs: the views go element by element,
-- so that what stands at a number in the arguments stands there, viewed, among the inputs.
-- Where there is no such input, or no such member in it, the member of these numbers is one of no names, so it uses none.
-- Names that are put behind others by the arguments are put behind them by their bytes, too; if they aren't put there, since no memory is
-- left, nothing is claimed.
use Rattle.std.proofs.Common.{◌≡◌, ℕ, ◌<◌, ◌≤◌, zero, suc, List, [], ◌∷◌, ◌++◌, cond, map, length, get_or, refl, sym, ap, ◌∙◌, arith, Bor}
use Rattle.std.proofs.Common.{Result, Ok, Err, is_ok, OnOk}
use Rattle.std.proofs.lemmas.List.{get_or-map, length-map, map-append}
use Rattle.macho_members.specs.declared.inputs.ObjectNames.{ObjectNames}
use Rattle.macho_members.specs.declared.inputs.Asked.{Asked}
use Rattle.macho_members.specs.Inputs.{Names, Input, members_at, member_at}
use Rattle.macho_members.specs.Views.{texts, names_of, input_of, inputs_of}

-- no element is past the end
past : {X : Type 0} (xs : List X) (i : ℕ) (d : X) → length xs ≤ i → get_or xs i d ≡ d
past [] i d h = refl
past (x ∷ xs) zero d h = absurd (omega (arith, h))
past (x ∷ xs) (suc i) d h = past xs i d (omega (arith, h))

-- what an input by its number has
pub at_number : {X : Type 0} (f : Input → List X) (inputs : List Asked) (a : ℕ) (x : Asked) → a < length inputs → x ≡ get_or inputs a x
    → get_or (map f (inputs_of inputs)) a [] ≡ f (input_of x)
at_number f inputs a x low is =
    get_or-map f (inputs_of inputs) a (input_of x) [] (omega (arith, low, length-map inputs input_of))
    ∙ ap f (get_or-map input_of inputs a x (input_of x) low) ∙ ap (λ y. f (input_of y)) (sym is)

pub past_inputs : {X : Type 0} (f : Input → List X) (inputs : List Asked) (a : ℕ) → length inputs ≤ a
    → get_or (map f (inputs_of inputs)) a [] ≡ []
past_inputs f inputs a h = past (map f (inputs_of inputs)) a []
    (omega (arith, h, length-map (inputs_of inputs) f, length-map inputs input_of))

-- what a member uses
pub used_there : (inputs : List Input) (a m : ℕ) (ms : List ObjectNames) (y : ObjectNames) → members_at inputs a ≡ map names_of ms
    → m < length ms → y ≡ get_or ms m y → texts y.used.now ≡ (member_at inputs a m).used
used_there inputs a m ms y e low is =
    let nobody : Names = record { used = []; defined = [] } in
    sym (ap (λ l. (get_or l m nobody).used) e
    ∙ ap (λ (n : Names). n.used) (get_or-map names_of ms m y nobody low ∙ ap names_of (sym is)))

pub used_nowhere : (inputs : List Input) (a m : ℕ) (ms : List Names) → members_at inputs a ≡ ms → length ms ≤ m
    → (member_at inputs a m).used ≡ []
used_nowhere inputs a m ms e h =
    let nobody : Names = record { used = []; defined = [] } in
    ap (λ l. (get_or l m nobody).used) e ∙ ap (λ (n : Names). n.used) (past ms m nobody h)

-- names behind others
pub texts_behind : {X E : Type 0} (r : Result X E) (old next other : List (Bor (List ℕ))) (used : List (List ℕ))
    → next ≡ cond (is_ok r) (old ++ other) old → texts other ≡ used → OnOk r (texts next ≡ texts old ++ used)
texts_behind (Ok _) old next other used is e =
    ap texts is ∙ map-append (λ n. n.now) old other ∙ ap (λ u. texts old ++ u) e
texts_behind (Err _) old next other used is e = tt
