-- Lines that begin with a key and a colon. The key ends at the colon, whatever follows; so a line with the key of
-- another reads as the same key.
-- A key is the longest front of bytes that a key may have, and a colon is no such byte: so the front, and what is taken and
-- dropped at its length, are known from the key and what stands behind the colon (`Cut`). What is read of the line then
-- depends on the latter alone (`key_reads`), and gives this key or is refused. Such a line has content, begins at column 0
-- with no dash, and is neither a head nor an end.
use Rattle.std.proofs.Common.{◌≡◌, ◌≢◌, ℕ, suc, ◌+◌, ◌||◌, not, Bool, true, false, cond, eqb, get_or, take, drop, List, [], ◌∷◌, ◌++◌, Ok, refl, sym, ap, ◌∙◌, arith, inl, inr, ◌⊎◌}
use Rattle.std.specs.List.{prefix_len}
use Rattle.std.specs.Str.{bytes_eq}
use Rattle.std.proofs.lemmas.Bool.Decides.{nat_tests}
use Rattle.std.proofs.Math.Numerals.{one-add}
use Rattle.macho_stub_lines.specs.declared.fault.StubRule.TheVariants.{S1}
use Rattle.macho_stub_lines.specs.Bytes.{space, dash, colon, number_sign, is_key_byte, is_passed, is_tail, is_blank_or_comment, unspaced, head, end, belongs_to_top}
use Rattle.macho_stub_lines.specs.Faults.{Reading, outside}
use Rattle.macho_stub_lines.specs.Keys.{Entry, entry_at, entry_behind}
use Rattle.macho_stub_lines.proofs.Bind.{chosen, not_broken, same_ok, no_ok, bytes_differ}
use Rattle.macho_stub.proofs.OnlyLines.{space_ends, dash_ends, top_indent}

-- the text begins with a key and a colon
pub record HasKey (text key rest : List ℕ) : Type 0 where
  pub some : prefix_len is_key_byte text ≢ 0
  pub behind : get_or text (prefix_len is_key_byte text) 0 ≡ colon
  pub front : take (prefix_len is_key_byte text) text ≡ key
  pub back : drop (prefix_len is_key_byte text + 1) text ≡ rest

-- the front of a text that passes, and then a byte that doesn't
record Cut (n : ℕ) (front : List ℕ) (b : ℕ) (rest : List ℕ) : Type 0 where
  long : prefix_len is_key_byte (front ++ b ∷ rest) ≡ n
  at : get_or (front ++ b ∷ rest) n 0 ≡ b
  takes : take n (front ++ b ∷ rest) ≡ front
  drops : drop (n + 1) (front ++ b ∷ rest) ≡ rest

no_front : (b : ℕ) (rest : List ℕ) → is_key_byte b ≡ false → Cut 0 [] b rest
no_front b rest h = record { long = ap (λ t. cond t (1 + prefix_len is_key_byte rest) 0) h; at = refl; takes = refl; drops = refl }

one_more : (n : ℕ) → suc n + 1 ≡ suc (n + 1)
one_more n = omega arith

more_front : (n a : ℕ) (front : List ℕ) (b : ℕ) (rest : List ℕ) → is_key_byte a ≡ true → Cut n front b rest → Cut (suc n) (a ∷ front) b rest
more_front n a front b rest h c = record {
  long = ap (λ t. cond t (1 + prefix_len is_key_byte (front ++ b ∷ rest)) 0) h ∙ one-add _ ∙ ap suc c.long;
  at = c.at;
  takes = ap (λ (more : List ℕ). a ∷ more) c.takes;
  drops = ap (λ k. drop k (a ∷ (front ++ b ∷ rest))) (one_more n) ∙ c.drops;
}

cut_at : (text : List ℕ) (b : ℕ) (rest : List ℕ) → is_key_byte b ≡ false
    → Cut (prefix_len is_key_byte text) (take (prefix_len is_key_byte text) text) b rest
cut_at [] b rest h = no_front b rest h
cut_at (a ∷ text) b rest h = by_test (cut_at text b rest h) (is_key_byte a) refl
  where
    by_test : Cut (prefix_len is_key_byte text) (take (prefix_len is_key_byte text) text) b rest → (t : Bool) → is_key_byte a ≡ t
        → Cut (cond t (1 + prefix_len is_key_byte text) 0) (take (cond t (1 + prefix_len is_key_byte text) 0) (a ∷ text)) b rest
    by_test c true e = rw one-add (more_front _ a _ b rest e c)
    by_test c false e = no_front b rest h

-- ---- an entry has a key

behind_key : (line : ℕ) (key rest : List ℕ) (said : Entry) → entry_behind line key rest ≡ Ok said → said.key ≡ key
behind_key line key rest said e =
    elim (chosen (is_tail rest) (Ok (record { key = key; value = [] }))
    (cond (eqb (get_or rest 0 0) space) (Ok (record { key = key; value = unspaced rest })) (outside line)) (Ok said) e) [
      | inl b ↦ sym (ap (λ (x : Entry). x.key) (same_ok _ _ b.1))
      | inr b ↦ elim (chosen (eqb (get_or rest 0 0) space) (Ok (record { key = key; value = unspaced rest })) (outside line) (Ok said)
          b.1) [
            | inl d ↦ sym (ap (λ (x : Entry). x.key) (same_ok _ _ d.1))
            | inr d ↦ absurd (no_ok line S1 said d.1)
          ]
    ]

-- the key is a front of the text
pub key_front : (line : ℕ) (text : List ℕ) (said : Entry) → entry_at line text ≡ Ok said
    → said.key ≡ take (prefix_len is_key_byte text) text
unfolding entry_at
key_front line text said e =
    let p = prefix_len is_key_byte text in
    let b = not_broken (eqb p 0 || not (eqb (get_or text p 0) colon)) line S1 (entry_behind line (take p text) (drop (p + 1) text)) said e
    in
    behind_key line (take p text) (drop (p + 1) text) said b.1

-- a text with the same key
pub same_key : (line : ℕ) (text : List ℕ) (said : Entry) (rest : List ℕ) → entry_at line text ≡ Ok said
    → HasKey (said.key ++ colon ∷ rest) said.key rest
unfolding entry_at is_key_byte
same_key line text said rest e =
    let p = prefix_len is_key_byte text in
    let b = not_broken (eqb p 0 || not (eqb (get_or text p 0) colon)) line S1 (entry_behind line (take p text) (drop (p + 1) text)) said e
    in
    let k = behind_key line (take p text) (drop (p + 1) text) said b.1 in
    let c = cut_at text colon rest refl in
    rw k (record {
      some = λ z. absurd (some_of p (get_or text p 0) b.0 (sym c.long ∙ z));
      behind = ap (λ n. get_or (take p text ++ colon ∷ rest) n 0) c.long ∙ c.at;
      front = ap (λ n. take n (take p text ++ colon ∷ rest)) c.long ∙ c.takes;
      back = ap (λ n. drop (n + 1) (take p text ++ colon ∷ rest)) c.long ∙ c.drops;
    })
  where
    some_of : (p g : ℕ) → (eqb p 0 || not (eqb g colon)) ≡ false → p ≡ 0 → ⊥
    some_of p g h z = grind (arith, nat_tests)

-- a text with a key reads as an entry, by what stands behind its colon
pub key_reads : (line : ℕ) (text key rest : List ℕ) → HasKey text key rest → entry_at line text ≡ entry_behind line key rest
unfolding entry_at
key_reads line text key rest h =
    let t : (eqb (prefix_len is_key_byte text) 0 || not (eqb (get_or text (prefix_len is_key_byte text) 0) colon)) ≡ false =
    passes (prefix_len is_key_byte text) (get_or text (prefix_len is_key_byte text) 0) h.some h.behind in
    ap (λ b. cond b (outside line) (entry_behind line (take (prefix_len is_key_byte text) text) (drop (prefix_len is_key_byte text + 1)
    text))) t
    ∙ ap (λ k. entry_behind line k (drop (prefix_len is_key_byte text + 1) text)) h.front
    ∙ ap (λ r. entry_behind line key r) h.back
  where
    passes : (p g : ℕ) → p ≢ 0 → g ≡ colon → (eqb p 0 || not (eqb g colon)) ≡ false
    passes p g some is = grind (arith, nat_tests)

-- what stands behind the colon gives this key, or is refused
pub key_or_outside : (line : ℕ) (key rest : List ℕ)
    → ((said : Entry) × (entry_behind line key rest ≡ Ok said) × (said.key ≡ key)) ⊎ (entry_behind line key rest ≡ outside line)
key_or_outside line key rest = by_tail (is_tail rest) (eqb (get_or rest 0 0) space)
  where
    by_tail : (t s : Bool) → ((said : Entry) × (cond {A = Reading Entry} t (Ok (record { key = key; value = [] }))
        (cond {A = Reading Entry} s (Ok (record { key = key; value = unspaced rest })) (outside line)) ≡ Ok said) × (said.key ≡ key))
        ⊎ (cond {A = Reading Entry} t (Ok (record { key = key; value = [] }))
        (cond {A = Reading Entry} s (Ok (record { key = key; value = unspaced rest })) (outside line)) ≡ outside line)
    by_tail true s = inl (record { key = key; value = [] }, refl, refl)
    by_tail false true = inl (record { key = key; value = unspaced rest }, refl, refl)
    by_tail false false = inr refl

-- ---- the line of a key

-- it begins with no space, and not with a dash and a space
pub key_at_top : (text key rest : List ℕ) → HasKey text key rest → belongs_to_top text ≡ false
unfolding belongs_to_top
key_at_top [] key rest h = refl
key_at_top (b ∷ []) key rest h = let n : b ≢ space = λ s. h.some (space_ends b [] s) in grind (arith, nat_tests)
key_at_top (b ∷ c ∷ text) key rest h =
    let n : b ≢ space = λ s. h.some (space_ends b (c ∷ text) s) in
    let m : b ≡ dash → c ≢ space = λ d s. absurd (omega (arith, h.behind, dash_ends b c text d s)) in
    grind (arith, nat_tests)

number_sign_ends : (b : ℕ) (text : List ℕ) → b ≡ number_sign → prefix_len is_key_byte (b ∷ text) ≡ 0
unfolding is_key_byte
number_sign_ends b text e = ap (λ c. prefix_len is_key_byte (c ∷ text)) e

-- it is no comment
pub key_has_content : (text key rest : List ℕ) → HasKey text key rest → is_blank_or_comment text ≡ false
unfolding is_blank_or_comment
key_has_content [] key rest h = absurd (h.some refl)
key_has_content (b ∷ text) key rest h = let n : b ≢ number_sign = λ s. h.some (number_sign_ends b text s) in grind (arith, nat_tests)

-- and so it isn't passed over
pub key_not_passed : (text key rest : List ℕ) → HasKey text key rest → is_passed text ≡ false
unfolding is_passed unspaced
key_not_passed text key rest h = rw (top_indent text (key_at_top text key rest h)) (key_has_content text key rest h)

-- it is no head
pub key_no_head : (text key rest : List ℕ) → HasKey text key rest → bytes_eq text head ≡ false
unfolding is_key_byte
key_no_head text key rest h = bytes_differ text head
    (λ is. absurd (let k = ap (λ x. get_or x (prefix_len is_key_byte x) 0) is in omega (arith, k, h.behind)))

-- nor an end
pub key_no_end : (text key rest : List ℕ) → HasKey text key rest → bytes_eq text end ≡ false
unfolding is_key_byte
key_no_end text key rest h = bytes_differ text end (λ is. h.some (ap (prefix_len is_key_byte) is))
