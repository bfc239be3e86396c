-- What is told, in its order.
--
-- The tests come in the order of the refusals: whether the image is accepted, the name, the command, the signature, the room. Each part
-- that passed excludes its refusals, so what is told stands, and none in front of it does. Where all have passed the image may be changed.
use Rattle.std.proofs.Common.{◌≡◌, ℕ, ◌<◌, ◌≤◌, true, false, List, refl, sym, ap, subst, ◌∙◌, arith, inl, inr}
use Rattle.std.specs.Prelude.{Contains, Result, Ok, Err}
use Rattle.std.specs.Global.{Vec}
use Rattle.std.proofs.lemmas.Bool.{cases_lt}
use Rattle.std.proofs.lemmas.List.{get_or_default}
use Rattle.macho_model.specs.Commands.{Command, commands_end}
use Rattle.macho_model.specs.Images.{Table}
use Rattle.macho_model.specs.Loader.{IsAccepted}
use Rattle.macho_retool.specs.declared.change.Change.{Change}
use Rattle.macho_retool.specs.declared.change.RetoolFault.{RetoolFault}
use Rattle.macho_retool.specs.declared.change.RetoolFault.TheVariants.{Rejected, BadName, NotThere, Unsigned, Tangled, NoRoom, PaddingUsed, OutOfMemory}
use Rattle.macho_retool.specs.Changes.{IsNamed, path_for, new_end}
use Rattle.macho_retool.specs.Parts.{signature_begin, is_in_way, room_of}
use Rattle.macho_retool.specs.Forms.{IsFormed}
use Rattle.macho_retool.specs.Refusals.{IsFirstUsed, Refuses, IsTold, TellsBy, rank}
use Rattle.macho_retool.specs.steps.Clear.{ClearBelow, FindRefuses, FindIsClear, RoomRefuses, RoomIsClear}
use Rattle.macho_retool.specs.steps.Spliced.{IsReady}

-- what the look-up tells stands
pub find_told : (b : List ℕ) (change : Change) (fault : RetoolFault) → FindRefuses b change fault → IsTold b change fault
find_told b change NotThere stands = stands
find_told b change Unsigned stands = stands
find_told b change OutOfMemory stands = tt
find_told b change (Rejected fault) stands = absurd stands
find_told b change BadName stands = absurd stands
find_told b change (Tangled place) stands = absurd stands
find_told b change (NoRoom needed room) stands = absurd stands
find_told b change (PaddingUsed place) stands = absurd stands

-- and none in front of it does
find_ranks : (b : List ℕ) (change : Change) (fault : RetoolFault) → FindRefuses b change fault → rank fault ≤ 4
find_ranks b change NotThere stands = omega arith
find_ranks b change Unsigned stands = omega arith
find_ranks b change OutOfMemory stands = omega arith
find_ranks b change (Rejected fault) stands = absurd stands
find_ranks b change BadName stands = absurd stands
find_ranks b change (Tangled place) stands = absurd stands
find_ranks b change (NoRoom needed room) stands = absurd stands
find_ranks b change (PaddingUsed place) stands = absurd stands

clear_to : (b : List ℕ) (change : Change) (n : ℕ) → IsAccepted b → (Contains (path_for change) 0 → ⊥) → n ≤ 4 → FindIsClear b change n
    → ClearBelow b change n
clear_to b change n accepted name most clear (Rejected fault) to stands = stands accepted
clear_to b change n accepted name most clear BadName to stands = name stands
clear_to b change n accepted name most clear NotThere to stands = clear NotThere (omega arith) to stands
clear_to b change n accepted name most clear Unsigned to stands = clear Unsigned (omega arith) to stands
clear_to b change n accepted name most clear (Tangled place) to stands = absurd (omega (arith, to, most))
clear_to b change n accepted name most clear (NoRoom needed room) to stands = absurd (omega (arith, to, most))
clear_to b change n accepted name most clear (PaddingUsed place) to stands = absurd (omega (arith, to, most))
clear_to b change n accepted name most clear OutOfMemory to stands = stands

pub find_clear : (b : List ℕ) (change : Change) (fault : RetoolFault) → IsAccepted b → (Contains (path_for change) 0 → ⊥)
    → FindRefuses b change fault → FindIsClear b change (rank fault) → ClearBelow b change (rank fault)
find_clear b change fault accepted name stands clear =
    clear_to b change (rank fault) accepted name (find_ranks b change fault stands) clear

-- what the test of the room tells stands
pub room_told : (b : List ℕ) (change : Change) (c : Command) (end : ℕ) (fault : RetoolFault) → IsNamed change b c → end ≡ new_end change b c
    → RoomRefuses b end fault → IsTold b change fault
room_told b change c end (Tangled place) named is stands = stands
room_told b change c end (NoRoom needed room) named is stands =
    let h0 = stands.0 in let h2 = stands.2 in ((c, named, h0 ∙ is), stands.1, omega (arith, h0, h2))
room_told b change c end (PaddingUsed place) named is stands = (end, (c, named, is), stands)
room_told b change c end OutOfMemory named is stands = tt
room_told b change c end (Rejected fault) named is stands = absurd stands
room_told b change c end BadName named is stands = absurd stands
room_told b change c end NotThere named is stands = absurd stands
room_told b change c end Unsigned named is stands = absurd stands

-- the command that a change names is one
one_named : (change : Change) (b : List ℕ) (c d : Command) → IsNamed change b c → IsNamed change b d → c ≡ d
one_named change b c d in_c in_d = sym in_c.one.1 ∙ get_or_default _ _ c d in_c.one.0 ∙ in_d.one.1

-- and none in front of it does
pub room_clear : (b : List ℕ) (change : Change) (c : Command) (t : Table) (end n : ℕ) → IsAccepted b → (Contains (path_for change) 0 → ⊥)
    → IsNamed change b c → IsFormed b t → end ≡ new_end change b c → RoomIsClear b end n → ClearBelow b change n
room_clear b change c t end n accepted name named formed is clear (Rejected fault) to stands = stands accepted
room_clear b change c t end n accepted name named formed is clear BadName to stands = name stands
room_clear b change c t end n accepted name named formed is clear NotThere to stands = stands c named
room_clear b change c t end n accepted name named formed is clear Unsigned to stands = stands t formed
room_clear b change c t end n accepted name named formed is clear (Tangled place) to stands = clear (Tangled place) (omega arith) to stands
room_clear b change c t end n accepted name named formed is clear (NoRoom needed room) to stands =
    let same = ap (new_end change b) (one_named change b (stands.0).0 c (stands.0).1 named) in
    let h0 = (stands.0).2 in
    let h2 = stands.2 in
    clear (NoRoom needed room) (omega arith) to (h0 ∙ same ∙ sym is, stands.1, omega (arith, h0, same, is, h2))
room_clear b change c t end n accepted name named formed is clear (PaddingUsed place) to stands =
    let same = ap (new_end change b) (one_named change b (stands.1).0 c (stands.1).1 named) in
    clear (PaddingUsed place) (omega arith) to (subst (λ e. IsFirstUsed b (commands_end b) e place) ((stands.1).2 ∙ same ∙ sym is) stands.2)
room_clear b change c t end n accepted name named formed is clear OutOfMemory to stands = stands

-- where the room is clear, the image may be changed
pub ready_is : (b : List ℕ) (change : Change) (c : Command) (t : Table) (end : ℕ) → IsAccepted b → (Contains (path_for change) 0 → ⊥)
    → IsNamed change b c → IsFormed b t → end ≡ new_end change b c → RoomIsClear b end 8 → IsReady change b c t
ready_is b change c t end accepted name named formed is clear =
    record {
      accepted = accepted;
      ends = name;
      named = named;
      formed = formed;
      clear = λ p there. elim (is_in_way (commands_end b) (signature_begin b) p)
          as (λ v. is_in_way (commands_end b) (signature_begin b) p ≡ v → is_in_way (commands_end b) (signature_begin b) p ≡ false) [
            | true ↦ λ way. absurd (clear (Tangled p.at) (omega arith) (omega arith) (p, there, way, refl))
            | false ↦ λ clear_p. clear_p
          ] refl;
      room = elim (cases_lt (room_of b) end) [
        | inl less ↦ absurd (clear (NoRoom end (room_of b)) (omega arith) (omega arith) (refl, refl, less))
        | inr fits ↦ omega (arith, fits, is)
      ];
    }

rank_most : (n : ℕ) (fault : RetoolFault) → n ≡ 8 → rank fault < n
rank_most n (Rejected fault) is = omega (arith, is)
rank_most n BadName is = omega (arith, is)
rank_most n NotThere is = omega (arith, is)
rank_most n Unsigned is = omega (arith, is)
rank_most n (Tangled place) is = omega (arith, is)
rank_most n (NoRoom needed room) is = omega (arith, is)
rank_most n (PaddingUsed place) is = omega (arith, is)
rank_most n OutOfMemory is = omega (arith, is)

-- an answer in its order
pub tells_by : (b : List ℕ) (change : Change) (result : Result (Vec ℕ) RetoolFault) (n : ℕ) (fault : RetoolFault)
    → ((v : Vec ℕ) → result ≡ Ok v → n ≡ 8) → ((told : RetoolFault) → result ≡ Err told → n ≡ rank told)
    → ClearBelow b change n → Refuses b change fault → TellsBy fault result
tells_by b change (Ok v) n fault ok err clear stands =
    let is = ok v refl in absurd (clear fault (rank_most n fault is) stands)
tells_by b change (Err told) n fault ok err clear stands =
    let is = err told refl in
    elim (cases_lt (rank fault) n) [
      | inl less ↦ absurd (clear fault less stands)
      | inr le ↦ omega (arith, le, is)
    ]
