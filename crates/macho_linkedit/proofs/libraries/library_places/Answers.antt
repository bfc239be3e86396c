-- A library that is there changes nothing; a new one is found at the place behind the others.
use Rattle.std.proofs.Common.{◌≡◌, ◌+◌, ◌++◌, ◌∷◌, ℕ, List, [], length, take, sym, ap, subst, ◌∙◌, arith, Vec, Global}
use Rattle.std.specs.HashMap.{get}
use Rattle.std.proofs.lemmas.List.{length-map, length-take}
use Rattle.macho_linkedit.specs.Imports.{texts}
use Rattle.macho_linkedit.specs.Libraries.{same_text, FindsPlaces}
use Rattle.macho_linkedit.proofs.Places.{places_kept, places_more, texts_more}
use Rattle.macho_linkedit.proofs.libraries.library_places.Goals as goal
use Rattle.macho_linkedit.proofs.libraries.library_places.Goals.{then-not-contains_key+in_ok-insert, else-not-contains_key}

pub loop-place-preserved : goal.loop-place-preserved
loop-place-preserved c =
    let xs = c.args.libraries.now in
    let n = c.loop-place.place in
    let name = c.as_slice-name.result in
    let before : List (List ℕ) = texts (take n xs) in
    let more : texts (take (n + 1) xs) ≡ before ++ name.now ∷ [] =
    texts_more xs n c.index-libraries-place.result c.loop-place-test.true c.index-libraries-place.is
    ∙ ap (λ (t : List ℕ). before ++ t ∷ []) (sym c.as_slice-name.ensures.value) in
    let long : n ≡ length before = omega
    (arith, length-map (take n xs) (λ (y : Vec ℕ Global). y.items), length-take n xs, c.loop-place-test.true) in
    elim c.if-not-contains_key.branch [
      | then-not-contains_key+in_ok-insert w ↦
          rw w.places-is
          (subst (λ (ts : List (List ℕ)). FindsPlaces ts (get same_text w.insert.new.self)) (sym more)
          (places_more before (get same_text c.loop-place.places) (get same_text w.insert.new.self) name n c.loop-place.invariant
          (sym c.contains_key.ensures ∙ w.if-not-contains_key.true) long w.in_ok-insert.ensures.updates.0))
      | else-not-contains_key w ↦
          rw w.places-is
          (subst (λ (ts : List (List ℕ)). FindsPlaces ts (get same_text c.loop-place.places)) (sym more)
          (places_kept before (get same_text c.loop-place.places) name c.loop-place.invariant
          (sym c.contains_key.ensures ∙ w.if-not-contains_key.false)))
    ]
