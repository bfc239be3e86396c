-- Readings that are fine: what they give is so, and so is the fault that they tell. A key, a scalar, a version and a
-- line of a flow list tell their own line, as outside the grammar.
-- A reading is made of values, faults, steps and choices, and there is one lemma for each (`fine_ok`, `fine_err`,
-- `fine_bind`, `fine_if`); with these each reading of a line by itself is gone through in the words of its definition. The
-- tokens of a flow list are read one after the other, so there the argument is by recursion on the bytes (`part_fine`).
use Rattle.std.proofs.Common.{◌≡◌, ℕ, zero, suc, ◌+◌, ◌-◌, Bool, true, false, cond, eqb, get_or, take, List, [], ◌∷◌, drop, Option, Some, None, Ok, Err, refl, sym, subst, ◌⊎◌}
use Rattle.std.specs.List.{prefix_len}
use Rattle.macho_stub_lines.specs.declared.list.Expect.{Expect}
use Rattle.macho_stub_lines.specs.declared.list.Expect.TheVariants.{AfterOpen, AfterComma, AfterName, Closed}
use Rattle.macho_stub_lines.specs.declared.list.TokenKind.{TokenKind}
use Rattle.macho_stub_lines.specs.declared.list.TokenKind.TheVariants.{Gap, Comma, Close, Name}
use Rattle.macho_stub_lines.specs.declared.fault.StubRule.TheVariants.{S1, S2, S3}
use Rattle.macho_stub.proofs.Ruling.{same_err}
use Rattle.macho_stub_lines.specs.Bytes.{space, comma, close_bracket, unspaced, is_key_byte, is_tail}
use Rattle.macho_stub_lines.specs.Scalars.{ScalarSpan, scalar_front}
use Rattle.macho_stub_lines.specs.Faults.{Fault, Reading, ◌>>=◌, outside}
use Rattle.macho_stub_lines.specs.Lists.{TokenSpan, ListPart, gap, mark, name_token, token_front, behind, list_part, with_front}
use Rattle.macho_stub_lines.specs.Keys.{Entry, entry_behind, entry_at, alone, scalar_value, version_value}
use Rattle.macho_stub_lines.proofs.Bind.{same_ok, done}

-- What a reading gives is so, and so is the fault that it tells.
pub record Fine {A : Type 0} (P : A → Type 0) (Q : Fault → Type 0) (reading : Reading A) : Type 0 where
  pub ok : (x : A) → reading ≡ Ok x → P x
  pub err : (fault : Fault) → reading ≡ Err fault → Q fault

-- nothing is said
abbrev pub AnyOf : {A : Type 0} → A → Type 0
AnyOf x = Unit {0}

-- the line is outside the grammar
abbrev pub outside_at : ℕ → Fault → Type 0
outside_at line fault = fault ≡ record { line = line; rule = S1 }

-- the line is outside the grammar, or has a second key
abbrev pub here_at : ℕ → Fault → Type 0
here_at line fault = (fault ≡ record { line = line; rule = S1 }) ⊎ (fault ≡ record { line = line; rule = S3 })

-- the document at the line lacks a key
abbrev pub lacking_at : ℕ → Fault → Type 0
lacking_at line fault = fault ≡ record { line = line; rule = S2 }

no_err : {A : Type 0} (x : A) (d : Fault) → done x ≡ Err d → ⊥
no_err x d e = cc

-- what gives a value that has it is fine
pub fine_ok : {A : Type 0} {P : A → Type 0} {Q : Fault → Type 0} (x : A) → P x → Fine P Q (Ok x)
fine_ok {A} {P} x p = record { ok = λ y e. subst P (same_ok x y e) p; err = λ d e. absurd (no_err x d e) }

-- what tells a fault that has it is fine
pub fine_err : {A : Type 0} {P : A → Type 0} {Q : Fault → Type 0} (fault : Fault) → Q fault → Fine P Q (Err fault)
fine_err {A} {P} {Q} fault q = record {
  ok = λ y e. absurd (no_err y _ (sym e));
  err = λ d e. subst Q (same_err {A = A} fault d e) q;
}

-- what is refused as outside the grammar is fine
pub fine_here : {A : Type 0} {P : A → Type 0} {line : ℕ} → Fine P (outside_at line) (outside {A = A} line)
fine_here {A} {P} {line} = fine_err (record { line = line; rule = S1 }) refl

-- a step, and then a reading of what it gives
pub fine_bind : {A B : Type 0} (P : A → Type 0) (R : B → Type 0) (Q : Fault → Type 0) (r : Reading A) (f : A → Reading B) → Fine P Q r
    → ((x : A) → P x → Fine R Q (f x)) → Fine R Q (r >>= f)
fine_bind P R Q (Ok x) f h k = k x (h.ok x refl)
fine_bind P R Q (Err d) f h k = fine_err d (h.err d refl)

-- a choice of two
pub fine_if : {A : Type 0} (P : A → Type 0) (Q : Fault → Type 0) (b : Bool) (x y : Reading A) → Fine P Q x → Fine P Q y
    → Fine P Q (cond b x y)
fine_if P Q true x y h k = h
fine_if P Q false x y h k = k

-- the same of what is said more widely
pub weaker : {A : Type 0} (P : A → Type 0) (Q S : Fault → Type 0) (r : Reading A) → ((fault : Fault) → Q fault → S fault) → Fine P Q r
    → Fine P S r
weaker P Q S r w h = record { ok = h.ok; err = λ d e. w d (h.err d e) }

-- the same with nothing said of the fault
pub free : {A : Type 0} (P : A → Type 0) (Q : Fault → Type 0) (r : Reading A) → Fine P Q r → Fine P AnyOf r
free P Q r h = weaker P Q AnyOf r (λ fault q. tt) h

-- ---- lines by themselves

pub spaced_fine : (line : ℕ) (key rest : List ℕ)
    → Fine {A = Entry} AnyOf (outside_at line) (cond (eqb (get_or rest 0 0) space) (Ok (record { key = key; value = unspaced rest }))
    (outside line))
spaced_fine line key rest = fine_if AnyOf (outside_at line) _ _ _ (fine_ok _ tt) (fine_here)

pub entry_behind_fine : (line : ℕ) (key rest : List ℕ) → Fine AnyOf (outside_at line) (entry_behind line key rest)
entry_behind_fine line key rest = fine_if AnyOf (outside_at line) (is_tail rest) _ _ (fine_ok _ tt) (spaced_fine line key rest)

-- a line that begins with no key is told as outside the grammar
pub entry_fine : (line : ℕ) (text : List ℕ) → Fine AnyOf (outside_at line) (entry_at line text)
unfolding entry_at
entry_fine line text = fine_if AnyOf (outside_at line) _ _ _ (fine_here)
    (entry_behind_fine line (take (prefix_len is_key_byte text) text) (drop (prefix_len is_key_byte text + 1) text))

pub alone_fine : (line : ℕ) (value : List ℕ) (scalar : Option ScalarSpan) → Fine AnyOf (outside_at line) (alone line value scalar)
alone_fine line value None = fine_here
alone_fine line value (Some scalar) = fine_if AnyOf (outside_at line) _ _ _ (fine_ok _ tt) (fine_here)

-- so is a value that is no scalar
pub scalar_fine : (line : ℕ) (value : List ℕ) → Fine AnyOf (outside_at line) (scalar_value line value)
unfolding scalar_value
scalar_fine line value = alone_fine line value (scalar_front value)

-- and one that is no number
pub version_fine : (line : ℕ) (value : List ℕ) → Fine AnyOf (outside_at line) (version_value line value)
unfolding version_value
version_fine line value = fine_if AnyOf (outside_at line) _ _ _ (fine_here) (fine_ok _ tt)

pub name_fine : (line : ℕ) (scalar : Option ScalarSpan) → Fine AnyOf (outside_at line) (name_token line scalar)
name_fine line None = fine_here
name_fine line (Some scalar) = fine_ok _ tt

pub close_fine : (line b : ℕ) (bytes : List ℕ)
    → Fine {A = TokenSpan} AnyOf (outside_at line) (cond (eqb b close_bracket) (Ok (mark Close 1)) (name_token line (scalar_front (b ∷
    bytes))))
close_fine line b bytes = fine_if AnyOf (outside_at line) _ _ _ (fine_ok _ tt) (name_fine line (scalar_front (b ∷ bytes)))

pub comma_fine : (line b : ℕ) (bytes : List ℕ)
    → Fine {A = TokenSpan} AnyOf (outside_at line)
    (cond (eqb b comma) (Ok (mark Comma 1)) (cond (eqb b close_bracket) (Ok (mark Close 1)) (name_token line (scalar_front (b ∷ bytes)))))
comma_fine line b bytes = fine_if AnyOf (outside_at line) (eqb b comma) (Ok (mark Comma 1)) _ (fine_ok _ tt) (close_fine line b bytes)

pub token_fine : (line : ℕ) (bytes : List ℕ) → Fine AnyOf (outside_at line) (token_front line bytes)
unfolding token_front
token_fine line [] = fine_here
token_fine line (b ∷ bytes) = fine_if AnyOf (outside_at line) (eqb b space) (Ok (gap bytes)) _ (fine_ok _ tt) (comma_fine line b bytes)

pub behind_fine : (line : ℕ) (expect : Expect) (kind : TokenKind) → Fine AnyOf (outside_at line) (behind line expect kind)
unfolding behind
behind_fine line expect Gap = fine_ok _ tt
behind_fine line AfterOpen Comma = fine_here
behind_fine line AfterOpen Close = fine_ok _ tt
behind_fine line AfterOpen Name = fine_ok _ tt
behind_fine line AfterComma Comma = fine_here
behind_fine line AfterComma Close = fine_ok _ tt
behind_fine line AfterComma Name = fine_ok _ tt
behind_fine line AfterName Comma = fine_ok _ tt
behind_fine line AfterName Close = fine_ok _ tt
behind_fine line AfterName Name = fine_here
behind_fine line Closed Comma = fine_here
behind_fine line Closed Close = fine_here
behind_fine line Closed Name = fine_here

-- names in front change nothing of it
pub front_fine : (line : ℕ) (names : List (List ℕ)) (reading : Reading ListPart) → Fine AnyOf (outside_at line) reading
    → Fine AnyOf (outside_at line) (with_front names reading)
front_fine line names reading h = fine_bind AnyOf AnyOf (outside_at line) reading _ h (λ x _. fine_ok _ tt)

-- a line of a flow list is read, or told as outside the grammar
pub part_fine : (line : ℕ) (expect : Expect) (skip : ℕ) (bytes : List ℕ) → Fine AnyOf (outside_at line) (list_part line expect skip bytes)
unfolding list_part
part_fine line expect zero [] = fine_ok _ tt
part_fine line expect (suc skip) [] = fine_ok _ tt
part_fine line expect (suc skip) (b ∷ bytes) = part_fine line expect skip bytes
part_fine line expect zero (b ∷ bytes) =
    fine_bind AnyOf AnyOf (outside_at line) (token_front line (b ∷ bytes)) _ (token_fine line (b ∷ bytes)) (λ token _.
    fine_bind AnyOf AnyOf (outside_at line) (behind line expect token.kind) _ (behind_fine line expect token.kind) (λ next _.
    front_fine line _ (list_part line next (token.width - 1) bytes) (part_fine line next (token.width - 1) bytes)))
