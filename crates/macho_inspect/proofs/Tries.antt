-- The exports of an image by the commands of its trie.
--
-- Without a command the trie has no bytes: look-up finds nothing there, since no node stands in no bytes, and the walk has nothing to meet.
-- With one command the trie is its range. It is malformed where the range passes the file, or where the walk says so, and nowhere else.
-- With two commands it is malformed at the second one.
use Rattle.std.proofs.Common.{◌≡◌, ℕ, ◌+◌, ◌-◌, ◌^◌, ◌<◌, ◌≤◌, List, [], ◌∷◌, length, map, get_or, refl, sym, ap, subst, ◌∙◌, arith}
use Rattle.std.proofs.Common.{Some, None}
use Rattle.std.proofs.Common.{inl, inr, drop, min, ◌⊎◌}
use Rattle.std.specs.Prelude.{slice_range}
use Rattle.std.proofs.lemmas.List.{length-take, length-map}
use Rattle.macho_model.specs.Commands.{Command}
use Rattle.macho_model.specs.Images.{table_of_command, tries_of}
use Rattle.macho_model.specs.Lists.{IsNumber, of_first}
use Rattle.macho_trie.specs.Exports.{Exported}
use Rattle.macho_trie.specs.Nodes.{node_at}
use Rattle.macho_trie.specs.Lookup.{Finds, trie_finds}
use Rattle.macho_trie.specs.Lookup as lookup
use Rattle.macho_trie.specs.Walks.{IsMalformedAt}
use Rattle.macho_trie.specs.Lists.{AreExports}
use Rattle.macho_loader.specs.Lists.{range_of}
use Rattle.macho_loader.specs.declared.commands.LinkeditRange.{LinkeditRange}
use Rattle.macho_inspect.specs.Tries.{bytes_in, trie_of, trie_commands, IsTrieMalformed}
use Rattle.macho_inspect.specs.Tries as tries
use Rattle.macho_inspect.specs.steps.Ranges.{IsOneTrie}
use Rattle.macho_trie.proofs.Encodes.{nothing_read}

nothing_found : (x : Exported) (at : ℕ) (rest : List ℕ) → at ≡ 0 → Finds [] x at rest → ⊥
nothing_found x _ _ zero (lookup.Finds.here at rest node is empty says) =
    let never : None ≡ Some node = sym (ap (λ k. node_at [] k) zero ∙ nothing_read) ∙ is in cc
nothing_found x _ _ zero (lookup.Finds.along at rest node e is first on) =
    let never : None ≡ Some node = sym (ap (λ k. node_at [] k) zero ∙ nothing_read) ∙ is in cc

pub no_exports : (lines : List (List ℕ × Exported)) → lines ≡ [] → AreExports [] lines
no_exports lines none =
    subst (λ xs. AreExports [] xs) (sym none) (record {
      rising = λ i j d before within. absurd (omega (arith, within));
      found = λ k d within. absurd (omega (arith, within));
      all = λ name x finds. absurd (nothing_found x 0 name refl finds);
    })

-- without a command
no_commands : (cs : List Command) → length cs < 1 → cs ≡ []
no_commands [] none = refl
no_commands (c ∷ cs) none = absurd (omega (arith, none))

pub no_trie : (b : List ℕ) (ranges : List LinkeditRange) → ranges ≡ map (range_of b) (trie_commands b) → length ranges < 1
    → trie_commands b ≡ []
no_trie b ranges are none =
    let long = ap (λ (xs : List LinkeditRange). length xs) are ∙ length-map (trie_commands b) (range_of b) in
    no_commands (trie_commands b) (omega (arith, long, none))

pub trie_of_none : (b : List ℕ) → trie_commands b ≡ [] → trie_of b ≡ []
unfolding trie_of tries_of
trie_of_none b none = ap (λ (cs : List Command). of_first [] (bytes_in b) (map (table_of_command b) cs)) none

pub right_without : (b : List ℕ) (place : ℕ) → trie_commands b ≡ [] → IsTrieMalformed b place → ⊥
right_without b place none (tries.IsTrieMalformed.second k c some is at) =
    let long = ap (λ (cs : List Command). length cs) none in omega (arith, long, is.0)
right_without b place none (tries.IsTrieMalformed.passes c one some past at) =
    let long = ap (λ (cs : List Command). length cs) (sym none ∙ one) in omega (arith, long)
right_without b place none (tries.IsTrieMalformed.node c n one inside wrong at) =
    let long = ap (λ (cs : List Command). length cs) (sym none ∙ one) in omega (arith, long)

-- with one command
pub trie_of_one : (b : List ℕ) (c : Command) → trie_commands b ≡ c ∷ [] → trie_of b ≡ bytes_in b (table_of_command b c)
unfolding trie_of tries_of
trie_of_one b c one = ap (λ (cs : List Command). of_first [] (bytes_in b) (map (table_of_command b) cs)) one

-- the range is read
pub range_is : (b : List ℕ) (range : LinkeditRange) (is : IsOneTrie b range)
    → slice_range b range.at (range.at + range.size) ≡ bytes_in b (table_of_command b is.command)
range_is b range is = ap (λ (r : LinkeditRange). slice_range b r.at (r.at + r.size)) is.is

-- it passes the file
pub passes_the_file : (b : List ℕ) (range : LinkeditRange) → IsOneTrie b range → 0 < range.size → length b < range.at + range.size
    → IsTrieMalformed b range.command
passes_the_file b range is some past =
    let at = ap (λ (r : LinkeditRange). r.at) is.is in
    let size = ap (λ (r : LinkeditRange). r.size) is.is in
    tries.IsTrieMalformed.passes is.command is.one (omega (arith, some, size)) (omega (arith, past, at, size))
    (ap (λ (r : LinkeditRange). r.command) is.is)

-- it doesn't, and the walk meets nothing wrong
one_command : (b : List ℕ) (c d : Command) → trie_commands b ≡ c ∷ [] → trie_commands b ≡ d ∷ [] → d ≡ c
one_command b c d first second = ap (λ (cs : List Command). get_or cs 0 d) (sym second ∙ first)

pub right_with_one : (b : List ℕ) (place : ℕ) (range : LinkeditRange) → IsOneTrie b range
    → (range.size ≡ 0) ⊎ (range.at + range.size ≤ length b)
    → ((n : ℕ) → IsMalformedAt (slice_range b range.at (range.at + range.size)) n → ⊥) → IsTrieMalformed b place → ⊥
right_with_one b place range is whole right (tries.IsTrieMalformed.second k c some number at) =
    let long = ap (λ (cs : List Command). length cs) is.one in
    let within = number.0 in
    omega (arith, long, within, some)
right_with_one b place range is whole right (tries.IsTrieMalformed.passes c one some past at) =
    let same = one_command b is.command c is.one one in
    let start = ap (λ (r : LinkeditRange). r.at) is.is ∙ ap (λ (x : Command). (table_of_command b x).at) (sym same) in
    let size = ap (λ (r : LinkeditRange). r.size) is.is ∙ ap (λ (x : Command). (table_of_command b x).size) (sym same) in
    elim whole [
      | inl none ↦ omega (arith, none, size, some)
      | inr inside ↦ omega (arith, inside, start, size, past)
    ]
right_with_one b place range is whole right (tries.IsTrieMalformed.node c n one inside wrong at) =
    let same = one_command b is.command c is.one one in
    let bytes : bytes_in b (table_of_command b c) ≡ slice_range b range.at (range.at + range.size) =
    ap (λ (x : Command). bytes_in b (table_of_command b x)) same ∙ sym (range_is b range is) in
    right n (subst (λ xs. IsMalformedAt xs n) bytes wrong)

-- it is malformed at a node
nothing_in : (xs : List ℕ) (at : ℕ) → 0 < length (slice_range xs at (at + 0)) → ⊥
nothing_in xs at some =
    let none : at + 0 - at ≡ 0 = omega arith in
    let long = length-take (at + 0 - at) (drop at xs) in
    omega (arith, some, none, long)

pub wrong_node : (b : List ℕ) (range : LinkeditRange) (n place : ℕ) → IsOneTrie b range
    → (range.size ≡ 0) ⊎ (range.at + range.size ≤ length b) → IsMalformedAt (slice_range b range.at (range.at + range.size)) n
    → place ≡ min (range.at + n) (2 ^ 64 - 1) → IsTrieMalformed b place
wrong_node b range n place is whole wrong told =
    let start = ap (λ (r : LinkeditRange). r.at) is.is in
    let size = ap (λ (r : LinkeditRange). r.size) is.is in
    let inside : range.at + range.size ≤ length b = elim whole [
      | inl none ↦ absurd (nothing_in b range.at
          (subst (λ k. 0 < length (slice_range b range.at (range.at + k))) none wrong.0))
      | inr le ↦ le
    ] in
    tries.IsTrieMalformed.node is.command n is.one (omega (arith, inside, start, size))
    (subst (λ xs. IsMalformedAt xs n) (range_is b range is) wrong) (told ∙ ap (λ k. min (k + n) (2 ^ 64 - 1)) start)

-- the one command, and the second of more
pub one_trie : (b : List ℕ) (cs : List Command) (ranges : List LinkeditRange) (d : LinkeditRange) → ranges ≡ map (range_of b) cs
    → length ranges < 2 → 1 ≤ length ranges → trie_commands b ≡ cs → IsOneTrie b (get_or ranges 0 d)
one_trie b [] ranges d are few some same =
    let long = ap (λ (xs : List LinkeditRange). length xs) are in absurd (omega (arith, long, some))
one_trie b (c ∷ []) ranges d are few some same =
    record { command = c; one = same; is = ap (λ (xs : List LinkeditRange). get_or xs 0 d) are }
one_trie b (c ∷ e ∷ cs) ranges d are few some same =
    let long = ap (λ (xs : List LinkeditRange). length xs) are in absurd (omega (arith, long, few))

pub second_trie : (b : List ℕ) (cs : List Command) (ranges : List LinkeditRange) (d : LinkeditRange) → ranges ≡ map (range_of b) cs
    → 2 ≤ length ranges → trie_commands b ≡ cs → IsTrieMalformed b (get_or ranges 1 d).command
second_trie b [] ranges d are many same =
    let long = ap (λ (xs : List LinkeditRange). length xs) are in absurd (omega (arith, long, many))
second_trie b (c ∷ []) ranges d are many same =
    let long = ap (λ (xs : List LinkeditRange). length xs) are in absurd (omega (arith, long, many))
second_trie b (c ∷ e ∷ cs) ranges d are many same =
    tries.IsTrieMalformed.second 1 e (omega arith)
    (subst (λ xs. IsNumber xs 1 e) (sym same) (omega arith, refl)) (ap (λ (xs : List LinkeditRange). (get_or xs 1 d).command) are)
