-- A loop that writes text after text.
--
-- The texts of a list, joined end to end, are what the loop has written so far. The next text is written where they
-- end, and two puts next to each other are one put of both: so the loop keeps 'the texts so far are put'. The place
-- after the last text is the start plus the length of all of them.
use Rattle.std.proofs.Common.{◌≡◌, ℕ, ◌+◌, ◌<◌, ◌≤◌, List, [], ◌∷◌, ◌++◌, length, get_or, take, sym, ap, subst, ◌∙◌, arith}
use Rattle.std.specs.List.{flat_map}
use Rattle.std.proofs.lemmas.List.{append-nil, take_more, take_all, length-append}
use Rattle.std.proofs.lemmas.Grind.{flat_map-append}
use Rattle.macho_bytes.specs.Texts.{put}
use Rattle.macho_bytes.proofs.Puts.{put-put, put_nothing}

-- the loop over texts of any lengths: nothing is written yet
pub texts_begin : {X : Type 0} (f : X → List ℕ) (at : ℕ) (out : List ℕ) → at ≤ length out → out ≡ put at (flat_map f []) out
texts_begin f at out fits = sym (put_nothing at out fits)

-- one text more, where those before it end
pub record MoreTexts {X : Type 0} (f : X → List ℕ) (at place : ℕ) (texts : List X) (before now : List ℕ) : Type 0 where
  pub written : now ≡ put at (flat_map f texts) before
  pub ends : place ≡ at + length (flat_map f texts)

pub texts_go_on : {X : Type 0} (f : X → List ℕ) (at place next i : ℕ) (xs : List X) (x : X) (before out now : List ℕ) → i < length xs
    → x ≡ get_or xs i x
    → MoreTexts f at place (take i xs) before out → next ≡ place + length (f x) → next ≤ length before → now ≡ put place (f x) out
    → MoreTexts f at next (take (i + 1) xs) before now
texts_go_on {X = X} f at place next i xs x before out now lt read so_far moved room is =
    let more : flat_map f (take (i + 1) xs) ≡ flat_map f (take i xs) ++ f x =
    ap (flat_map f) (take_more xs i x lt ∙ ap (λ (y : X). take i xs ++ y ∷ []) (sym read))
    ∙ flat_map-append f (take i xs) (x ∷ []) ∙ ap (λ (t : List ℕ). flat_map f (take i xs) ++ t) (append-nil (f x)) in
    let both = put-put at place (flat_map f (take i xs)) (f x) before so_far.ends (omega (arith, moved, room)) in
    record {
      written = is ∙ ap (put place (f x)) so_far.written ∙ both ∙ ap (λ (t : List ℕ). put at t before) (sym more);
      ends = omega (arith, so_far.ends, moved, ap length more, length-append (flat_map f (take i xs)) (f x));
    }

-- all texts
pub texts_end : {X : Type 0} (f : X → List ℕ) (at place i : ℕ) (xs : List X) (before now : List ℕ) → length xs ≤ i
    → MoreTexts f at place (take i xs) before now → MoreTexts f at place xs before now
texts_end {X = X} f at place i xs before now past so_far =
    subst (λ (ys : List X). MoreTexts f at place ys before now) (take_all i xs past) so_far
