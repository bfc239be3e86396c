-- What becomes of framework paths, one after another.
--
-- A path that doesn't begin with `/` stays, whatever is a directory. For the list, one more path and what
-- becomes of it join what is known of those before; the file system tells the same at each turn.
use Rattle.std.proofs.Common.{◌≡◌, ℕ, ◌+◌, ◌<◌, Bool, true, false, List, [], ◌∷◌, ◌++◌, length, map, take, drop, get_or, cond, Option, Some, None, String, refl, subst, nat_eq}
use Rattle.std.specs.List.{AllZip, starts_with}
use Rattle.std.specs.String.{string_bytes}
use Rattle.std.proofs.lemmas.List.{map_more, map-append}
use Rattle.std.proofs.lemmas.List.Elements.{AllZip-push}
use Rattle.macho_args.specs.SearchPaths.{IsMoved}
use Rattle.macho_args.specs.Effects.{joined}
use Rattle.macho_args.specs.Store.{Directories, FileSystem, IsToldDirectory}

-- there is an answer that may be given
pub some_answer : (known : Option Directories) (path : List ℕ) → (answer : Bool) × IsToldDirectory known path answer
some_answer (Some known) path = (_, refl)
some_answer None path = (false, tt)

no_front : (b : Bool) (x : List ℕ) → ◌≡◌ {A = Option (List ℕ)} None (cond b (Some x) None) → b ≡ false
no_front true x e = cc
no_front false x e = refl

-- a path that doesn't begin with `/` stays
pub moved-relative : (known : Option Directories) (root path new rest : List ℕ)
    → ◌≡◌ {A = Option (List ℕ)} None (cond (starts_with nat_eq path (47 ∷ [])) (Some rest) None)
    → new ≡ path → IsMoved known root path new
moved-relative known root path new rest none is =
    let answer = some_answer known (joined root (drop 1 path)) in
    let relative = no_front (starts_with nat_eq path (47 ∷ [])) rest none in
    record { is_directory = answer.0; told = answer.1; is = rw relative is }

-- one path more
pub moved-more : {A B : Type 0} (known : Option Directories) (root : List ℕ) (old : List (String A)) (new : List (String B))
    (i : ℕ) (path : String A) (next : String B)
    → i < length old → path ≡ get_or old i path → AllZip (IsMoved known root) (map string_bytes (take i old)) (map string_bytes new)
    → IsMoved known root (string_bytes path) (string_bytes next)
    → AllZip (IsMoved known root) (map string_bytes (take (i + 1) old)) (map string_bytes (new ++ next ∷ []))
moved-more known root old new i path next within is each one =
    rw (map_more string_bytes old i path within, ← is, map-append string_bytes new (next ∷ []))
    (AllZip-push (IsMoved known root) (map string_bytes (take i old)) (map string_bytes new)
    (string_bytes path) (string_bytes next) each one)

-- a path moves by what was told before
pub moved-later : (old now : FileSystem) (root path new : List ℕ) → now ≡ old → IsMoved now.directories root path new
    → IsMoved old.directories root path new
moved-later old now root path new same moves = subst (λ (told : FileSystem). IsMoved told.directories root path new) same moves
