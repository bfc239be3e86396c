-- The bytes of a made object.
--
-- With a call and without one the object's records are spelled as a list of bytes, and then come its names, each with a NUL. What is
-- written is that list in other brackets. The size of the strings is the sum of the lengths of the names, and one for each NUL.
use Rattle.std.proofs.Common.{◌≡◌, ℕ, ◌+◌, arith, ap, sym, ◌∙◌, Bool, true, false, List, [], ◌∷◌, ◌++◌, append_assoc, length}
use Rattle.std.specs.Prelude.{◌==◌, if◌then◌else◌}
use Rattle.std.proofs.lemmas.Bool.Decides.{nat_tests}
use Rattle.std.proofs.lemmas.List.{length-append}
use Rattle.macho_bytes.specs.Numbers.{le_bytes, row_bytes}
use Rattle.macho_job.specs.Generator.{object_with, generated_object, function_name}
use Rattle.macho_job.specs.steps.Objects.{words, joined_all, OBJECT_HEAD, CALLING_SECTIONS, LAST_SECTIONS, calling_parts, last_parts, calling_object, last_object}
use Rattle.macho_bytes.specs.Spellings.{spelling}
use Rattle.macho_job.specs.steps.Generator.{pointer_name}

-- an object by its strings behind their NUL, and their size
abbrev last_of : (name pointer : List ℕ) → ℕ → List ℕ → List ℕ
last_of name pointer size strings =
    joined_all OBJECT_HEAD ++ joined_all LAST_SECTIONS ++ words (2 ∷ 24 ∷ 312 ∷ 2 ∷ 344 ∷ size ∷ [])
    ++ words (0x52800000 ∷ 0xd65f03c0 ∷ 0 ∷ 0 ∷ 0 ∷ 0x0e000000 ∷ [])
    ++ words (1 ∷ 0x10f ∷ 0 ∷ 0 ∷ (2 + length name) ∷ 0x20f ∷ 8 ∷ 0 ∷ []) ++ 0 ∷ strings

abbrev calling_of : (name pointer : List ℕ) → ℕ → List ℕ → List ℕ
calling_of name pointer size strings =
    joined_all OBJECT_HEAD ++ joined_all CALLING_SECTIONS ++ words (2 ∷ 24 ∷ 320 ∷ 3 ∷ 368 ∷ size ∷ [])
    ++ words (0x14000000 ∷ 0xd65f03c0 ∷ 0 ∷ 0 ∷ 0 ∷ 0x2d000002 ∷ 0 ∷ 0x0e000000 ∷ [])
    ++ words (1 ∷ 0x10f ∷ 0 ∷ 0 ∷ (2 + length name) ∷ 0x20f ∷ 8 ∷ 0 ∷ (3 + length name + length pointer) ∷ 1 ∷ 0 ∷ 0 ∷ []) ++ 0 ∷ strings

-- a NUL between two texts
joined_at : (xs ys : List ℕ) → xs ++ (0 ∷ []) ++ ys ≡ xs ++ 0 ∷ ys
joined_at xs ys = append_assoc xs (0 ∷ []) ys

-- the strings of the last object, and of one that calls the next function
last_strings : (name pointer : List ℕ) → name ++ (0 ∷ []) ++ pointer ++ (0 ∷ []) ≡ name ++ 0 ∷ pointer ++ 0 ∷ []
last_strings name pointer = ap (λ (t : List ℕ). t ++ 0 ∷ []) (joined_at name pointer)

calling_strings : (name pointer next : List ℕ)
    → name ++ (0 ∷ []) ++ pointer ++ (0 ∷ []) ++ next ++ (0 ∷ []) ≡ name ++ 0 ∷ pointer ++ 0 ∷ (next ++ 0 ∷ [])
calling_strings name pointer next =
    ap (λ (t : List ℕ). t ++ 0 ∷ []) (joined_at (name ++ (0 ∷ []) ++ pointer) next)
    ∙ (append_assoc (name ++ (0 ∷ []) ++ pointer) (0 ∷ next) (0 ∷ [])
    ∙ ap (λ (t : List ℕ). t ++ 0 ∷ (next ++ 0 ∷ [])) (joined_at name pointer))

last_size : (name pointer : List ℕ) → 3 + length name + length pointer ≡ length (0 ∷ name ++ 0 ∷ pointer ++ 0 ∷ [])
last_size name pointer = omega (arith, length-append (name ++ 0 ∷ pointer) (0 ∷ []), length-append name (0 ∷ pointer))

calling_size : (name pointer next : List ℕ)
    → 4 + length name + length pointer + length next ≡ length (0 ∷ name ++ 0 ∷ pointer ++ 0 ∷ (next ++ 0 ∷ []))
calling_size name pointer next =
    omega (
      arith,
      length-append (name ++ 0 ∷ pointer) (0 ∷ (next ++ 0 ∷ [])),
      length-append name (0 ∷ pointer),
      length-append next (0 ∷ []),
    )

-- THE last object
pub last_is : (name pointer next : List ℕ) → last_object (joined_all OBJECT_HEAD) name pointer ≡ object_with 0 name pointer next
unfolding last_object last_parts object_with le_bytes spelling row_bytes
last_is name pointer next =
    ap (last_of name pointer (3 + length name + length pointer)) (last_strings name pointer)
    ∙ ap (λ (n : ℕ). last_of name pointer n (name ++ 0 ∷ pointer ++ 0 ∷ [])) (last_size name pointer)

-- an object that calls the next function
pub calling_is : (name pointer next : List ℕ) → calling_object (joined_all OBJECT_HEAD) name pointer next ≡ object_with 1 name pointer next
unfolding calling_object calling_parts object_with le_bytes spelling row_bytes
calling_is name pointer next =
    ap (calling_of name pointer (4 + length name + length pointer + length next)) (calling_strings name pointer next)
    ∙ ap (λ (n : ℕ). calling_of name pointer n (name ++ 0 ∷ pointer ++ 0 ∷ (next ++ 0 ∷ []))) (calling_size name pointer next)

-- THE object of a number
pub generated_last : (i n : ℕ) (none front text : List ℕ) → i + 1 ≡ n → none ≡ [] → front ≡ none ++ joined_all OBJECT_HEAD
    → text ≡ last_object front (function_name i) (pointer_name i) → text ≡ generated_object i n
unfolding generated_object
generated_last i n none front text last empty head is =
    let test : (i + 1 == n) ≡ true = grind (arith, nat_tests) in
    is ∙ (ap (λ (f : List ℕ). last_object f (function_name i) (pointer_name i))
    (head ∙ ap (λ (t : List ℕ). t ++ joined_all OBJECT_HEAD) empty)
    ∙ (last_is (function_name i) (pointer_name i) (function_name (i + 1))
    ∙ ap (λ (b : Bool). object_with (if b then 0 else 1) (function_name i) (pointer_name i) (function_name (i + 1))) (sym test)))

pub generated_calling : (i n : ℕ) (none front text : List ℕ) → (i + 1 ≡ n → ⊥) → none ≡ [] → front ≡ none ++ joined_all OBJECT_HEAD
    → text ≡ calling_object front (function_name i) (pointer_name i) (function_name (i + 1)) → text ≡ generated_object i n
unfolding generated_object
generated_calling i n none front text more empty head is =
    let test : (i + 1 == n) ≡ false = grind (arith, nat_tests) in
    is ∙ (ap (λ (f : List ℕ). calling_object f (function_name i) (pointer_name i) (function_name (i + 1)))
    (head ∙ ap (λ (t : List ℕ). t ++ joined_all OBJECT_HEAD) empty)
    ∙ (calling_is (function_name i) (pointer_name i) (function_name (i + 1))
    ∙ ap (λ (b : Bool). object_with (if b then 0 else 1) (function_name i) (pointer_name i) (function_name (i + 1))) (sym test)))
