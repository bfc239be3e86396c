-- Keys and their values: what is read of a line that begins with a key is a tree, and each tree is read where it is
-- spelled. The bytes of the key are a run, so the reading is worked out on the key and what follows it (`entry_is`):
-- that must begin with a colon, and what stands behind the colon is read on its own (`behind_found`, `behind_reads`).
-- There the spaces are a run too. Behind spaces, the bytes are a tail exactly where what is left of them is nothing or
-- a comment (`tail_is`); otherwise what is left is the value (`unspaced_is`), and so it begins with a byte that is no
-- space, since the run of spaces is the longest, and no number sign.
use Rattle.std.proofs.Common.{◌≡◌, ℕ, zero, suc, ◌<◌, Bool, true, false, cond, eqb, ◌||◌, not, List, [], ◌∷◌, ◌++◌, length, drop, replicate, slice_index, Ok, refl, sym, ap, ◌∙◌, arith}
use Rattle.std.proofs.lemmas.Bool.Decides.{nat_tests}
use Rattle.std.proofs.lemmas.List.{length-replicate}
use Rattle.std.proofs.Math.Seq.{take-append_seam, drop-append_seam, drop-append-add}
use Rattle.macho_stub_lines.specs.declared.fault.StubRule.TheVariants.{S1}
use Rattle.macho_stub_lines.specs.Bytes.{space, colon, number_sign, is_key_byte, indent, unspaced, is_blank_or_comment, is_passed, is_tail}
use Rattle.macho_stub_lines.specs.steps.Bytes.{is_space}
use Rattle.macho_stub_lines.specs.Faults.{Reading, outside}
use Rattle.macho_stub_lines.specs.Keys.{Entry, entry_behind, entry_at}
use Rattle.macho_stub_lines.specs.Spelling.{Behind, NoValue, Value, EntryTree, behind_bytes, entry_bytes, value_in, value_of, IsValue, IsBehind, IsEntry}
use Rattle.macho_stub_lines.proofs.Bind.{eq_at, ne_at, eq_false, not_zero, no_ok}
use Rattle.macho_stub_lines.proofs.Runs.{Stops, Passes, Run, run_of, run_len, first_behind, all_replicate, replicate_from_all}

-- ---- spaces

-- behind spaces, what is left is what doesn't begin with one
pub unspaced_is : (spaces rest : List ℕ) → Passes is_space spaces → Stops is_space rest → unspaced (spaces ++ rest) ≡ rest
unfolding unspaced indent
unspaced_is spaces rest passes stops = rw (run_len is_space spaces rest passes stops) (drop-append_seam spaces rest)

-- behind a space or more, the bytes are a tail where what is left is nothing or a comment
pub tail_is : (spaces rest : List ℕ) → 0 < length spaces → Passes is_space spaces → Stops is_space rest
    → is_tail (spaces ++ rest) ≡ is_blank_or_comment rest
unfolding is_tail is_passed
tail_is [] rest some passes stops = absurd (omega arith)
tail_is (b ∷ spaces) rest some passes stops = rw (passes.0, unspaced_is spaces rest passes.1 stops) refl

pub spaces_pass : (gap : ℕ) → Passes is_space (replicate gap space)
spaces_pass gap = all_replicate (λ b. is_space b ≡ true) gap space refl

-- ---- what stands behind the colon

pub value_at_stop : (rest : List ℕ) → Stops is_space rest → is_blank_or_comment rest ≡ false → IsValue rest
unfolding is_blank_or_comment
value_at_stop [] stops e = absurd cc
value_at_stop (b ∷ rest) stops e = (ne_at b space stops, ne_at b number_sign e)

-- a value ends the spaces before it, and it isn't nothing, and no comment
pub value_stops : (value : List ℕ) → IsValue value → Stops is_space value × (is_blank_or_comment value ≡ false)
unfolding is_blank_or_comment
value_stops [] v = absurd v
value_stops (b ∷ value) v = (eq_false b space v.0, eq_false b number_sign v.1)

abbrev BehindFound : List ℕ → List ℕ → Entry → Type 0
BehindFound key rest said = (behind : Behind) × IsBehind behind × (rest ≡ behind_bytes behind) × (said.key ≡ key)
    × (said.value ≡ value_in behind)

value_found : (key rest : List ℕ) (said : Entry) → is_tail rest ≡ false → eqb (slice_index rest 0) space ≡ true
    → said.key ≡ key → said.value ≡ unspaced rest → BehindFound key rest said
value_found key rest said no_tail spaced same value = by_run (run_of is_space rest)
  where
    by_front : (front left : List ℕ) → rest ≡ front ++ left → Passes is_space front → Stops is_space left → 0 < length front
        → BehindFound key rest said
    by_front front left is passes stops some =
        let row : front ≡ replicate (length front) space = replicate_from_all space front passes in
        let no_blank : is_blank_or_comment left ≡ false = sym (tail_is front left some passes stops) ∙ ap is_tail (sym is) ∙ no_tail in (
          Value (length front) left,
          (some, value_at_stop left stops no_blank),
          is ∙ ap (λ all. all ++ left) row,
          same,
          value ∙ ap unspaced is ∙ unspaced_is front left passes stops,
        )

    some_front : (front left : List ℕ) → rest ≡ front ++ left → Stops is_space left → 0 < length front
    some_front [] [] is stops =
        let f : false ≡ true = ap (λ all. eqb (slice_index all 0) space) (sym is) ∙ spaced in absurd cc
    some_front [] (b ∷ left) is stops =
        let f : false ≡ true = sym stops ∙ ap (λ all. eqb (slice_index all 0) space) (sym is) ∙ spaced in absurd cc
    some_front (b ∷ front) left is stops = omega arith

    by_run : Run is_space rest → BehindFound key rest said
    by_run run = by_front run.front run.rest run.is run.passes run.stops (some_front run.front run.rest run.is run.stops)

abbrev entry : List ℕ → List ℕ → Reading Entry
entry key value = Ok (record { key = key; value = value })

behind_found : (line : ℕ) (key rest : List ℕ) (said : Entry) → entry_behind line key rest ≡ Ok said → BehindFound key rest said
behind_found line key rest said e = by_test (is_tail rest) (eqb (slice_index rest 0) space) refl refl e
  where
    by_test : (ends spaced : Bool) → is_tail rest ≡ ends → eqb (slice_index rest 0) space ≡ spaced
        → cond ends (entry key []) (cond spaced (entry key (unspaced rest)) (outside line)) ≡ Ok said → BehindFound key rest said
    by_test true spaced h k f = (NoValue rest, h, refl, cc, cc)
    by_test false true h k f = value_found key rest said h k (cc) (cc)
    by_test false false h k f = absurd (no_ok line S1 said f)

behind_reads : (line : ℕ) (key : List ℕ) (behind : Behind) → IsBehind behind
    → entry_behind line key (behind_bytes behind) ≡ Ok (record { key = key; value = value_in behind })
behind_reads line key (NoValue tail) sound = rw sound refl
behind_reads line key (Value zero value) sound = absurd (omega (arith, sound.0))
behind_reads line key (Value (suc gap) value) sound =
    let stops = value_stops value sound.1 in
    let spaces = replicate (suc gap) space in
    let some : 0 < length spaces = omega (arith, length-replicate (suc gap) space) in
    let no_tail : is_tail (spaces ++ value) ≡ false = tail_is spaces value some (spaces_pass (suc gap)) stops.0 ∙ stops.1 in
    rw (no_tail, unspaced_is spaces value (spaces_pass (suc gap)) stops.0) refl

-- ---- the key

entry_is : (line : ℕ) (key rest : List ℕ) → Passes is_key_byte key → Stops is_key_byte rest → entry_at line (key ++ rest)
    ≡ cond (eqb (length key) 0 || not (eqb (slice_index rest 0) colon)) (outside line) (entry_behind line key (drop 1 rest))
unfolding entry_at
entry_is line key rest passes stops =
    rw (run_len is_key_byte key rest passes stops, first_behind key rest, take-append_seam key rest, drop-append-add key rest 1) refl

some_bytes : (n : ℕ) → eqb n 0 ≡ false → 0 < n
some_bytes n e = grind (arith, nat_tests)

colon_stops : (rest : List ℕ) → Stops is_key_byte (colon ∷ rest)
unfolding is_key_byte
colon_stops rest = refl

abbrev EntryFound : List ℕ → Entry → Type 0
EntryFound head said = (tree : EntryTree) × IsEntry tree × (head ≡ entry_bytes tree) × (said.key ≡ tree.key)
    × (said.value ≡ value_of tree)

-- what is read of a line that begins with a key is a sound tree, spelled there
pub entry_found : (line : ℕ) (head : List ℕ) (said : Entry) → entry_at line head ≡ Ok said → (tree : EntryTree) × IsEntry tree
    × (head ≡ entry_bytes tree) × (said.key ≡ tree.key) × (said.value ≡ value_of tree)
entry_found line head said e = by_run (run_of is_key_byte head)
  where
    no_colon : (empty : Bool) (rest : Reading Entry) → cond (empty || true) (outside line) rest ≡ Ok said → ⊥
    no_colon true rest f = no_ok line S1 said f
    no_colon false rest f = no_ok line S1 said f

    by_colon : (key rest : List ℕ) (b : ℕ) → head ≡ key ++ b ∷ rest → Passes is_key_byte key → (empty same : Bool)
        → eqb (length key) 0 ≡ empty → eqb b colon ≡ same
        → cond (empty || not same) (outside line) (entry_behind line key rest) ≡ Ok said → EntryFound head said
    by_colon key rest b is passes true same h k f = absurd (no_ok line S1 said f)
    by_colon key rest b is passes false false h k f = absurd (no_ok line S1 said f)
    by_colon key rest b is passes false true h k f =
        let found = behind_found line key rest said f in
        let tree : EntryTree = record { key = key; behind = found.0 } in (
          tree,
          record { some = some_bytes (length key) h; bytes = passes; behind = found.1 },
          is ∙ ap (λ n. key ++ n ∷ rest) (eq_at b colon k) ∙ ap (λ all. key ++ colon ∷ all) found.2,
          found.3,
          found.4,
        )

    by_rest : (key rest : List ℕ) → head ≡ key ++ rest → Passes is_key_byte key → Stops is_key_byte rest → EntryFound head said
    by_rest key [] is passes stops = absurd (no_colon (eqb (length key) 0) (entry_behind line key [])
        (sym (entry_is line key [] passes stops) ∙ ap (entry_at line) (sym is) ∙ e))
    by_rest key (b ∷ rest) is passes stops = by_colon key rest b is passes (eqb (length key) 0) (eqb b colon) refl refl
        (sym (entry_is line key (b ∷ rest) passes stops) ∙ ap (entry_at line) (sym is) ∙ e)

    by_run : Run is_key_byte head → EntryFound head said
    by_run run = by_rest run.front run.rest run.is run.passes run.stops

-- a sound tree is read where it is spelled
pub entry_reads : (line : ℕ) (tree : EntryTree) → IsEntry tree
    → entry_at line (entry_bytes tree) ≡ Ok (record { key = tree.key; value = value_of tree })
entry_reads line tree sound =
    let some : eqb (length tree.key) 0 ≡ false = not_zero (length tree.key) sound.some in
    entry_is line tree.key (colon ∷ behind_bytes tree.behind) sound.bytes (colon_stops (behind_bytes tree.behind))
    ∙ rw some (behind_reads line tree.key tree.behind sound.behind)
