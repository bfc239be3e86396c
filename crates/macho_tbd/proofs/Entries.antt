-- The entries of the text are entries of the grammar, and say what they are to say.
--
-- Keys and fixed values are computed. A name in quotes is a scalar whatever it holds; a line of names is a flow list of them.
use Rattle.std.proofs.Common.{◌≡◌, ℕ, ◌<◌, ◌≤◌, ◌==◌, Bool, true, false, cond, ◌&&◌, ◌||◌, not, List, [], ◌∷◌, ◌++◌, length, refl, ap, sym, ◌∙◌, arith, inl, inr}
use Rattle.std.specs.Prelude.{codes, slice_index, nat_lt}
use Rattle.std.specs.List.{AllByRecursion, list_any, list_all}
use Rattle.std.specs.Char.{is_ascii_alphanumeric}
use Rattle.std.proofs.lemmas.Bool.{false≢true}
use Rattle.std.proofs.lemmas.List.{append-nil}
use Rattle.std.proofs.lemmas.List.Folds.{list_any-append}
use Rattle.macho_stub_lines.specs.Bytes.{space, is_passed, is_blank_or_comment, is_tail, unspaced, indent}
use Rattle.macho_stub_lines.specs.Values.{IsScalar, IsPlain, plain, IsNumber, spaces, last}
use Rattle.macho_stub.specs.Grammar.{IsEntry, Entry, value_of, IsFlowList, SaysText}
use Rattle.macho_tbd.specs.Writable.{has_single}
use Rattle.macho_tbd.specs.Text.{quoted}
use Rattle.macho_tbd.proofs.Scalars.{IsQuotable, scalar, joined, scalars}

-- ---- keys

all_pass : {X : Type 0} (test : X → Bool) (xs : List X) → list_all test xs ≡ true → AllByRecursion (λ x. test x ≡ true) xs
all_pass test [] e = tt
all_pass test (x ∷ xs) e = (both.0, all_pass test xs both.1)
  where
    by : (b c : Bool) → (b && c) ≡ true → (b ≡ true) × (c ≡ true)
    by true c e = (refl, e)
    by false c e = absurd cc

    both : (test x ≡ true) × (list_all test xs ≡ true)
    both = by (test x) (list_all test xs) e

abbrev is_key : List ℕ → Bool
is_key key = list_all (λ b. is_ascii_alphanumeric b || b == 45) key

pub valued : (key behind : List ℕ) → 0 < length key → is_key key ≡ true → slice_index behind 0 ≡ space → IsEntry key behind
valued key behind some e front =
    record { some = some; bytes = all_pass (λ b. is_ascii_alphanumeric b || b == 45) key e; spaced = inr front }

pub bare : (key : List ℕ) → 0 < length key → is_key key ≡ true → IsEntry key []
bare key some e = record { some = some; bytes = all_pass (λ b. is_ascii_alphanumeric b || b == 45) key e; spaced = inl refl }

-- ---- fixed values

-- bytes without 0xC2 have no control character past ASCII
no_controls : (text : List ℕ) → list_any (λ b. b == 0xC2) text ≡ false → (before behind : List ℕ) (b : ℕ)
    → text ≡ before ++ 0xC2 ∷ b ∷ behind → 0xA0 ≤ b
no_controls text none before behind b e =
    absurd (false≢true (sym none ∙ ap (list_any (λ b. b == 0xC2)) e ∙ list_any-append (λ b. b == 0xC2) before (0xC2 ∷ b ∷ behind)
    ∙ or_true (list_any (λ b. b == 0xC2) before)))
  where
    or_true : (a : Bool) → (a || true) ≡ true
    or_true true = refl
    or_true false = refl

abbrev is_plain : ℕ → Bool
is_plain b = nat_lt space b && not (b == 127) && not (list_any (λ mark. b == mark) (codes ",'\"#[]{}"))

plain_target : IsPlain (codes "arm64e-macos")
plain_target = record {
  some = omega arith;
  bytes = all_pass is_plain (codes "arm64e-macos") refl;
  controls = no_controls (codes "arm64e-macos") refl;
}

plain_one : IsPlain (codes "1")
plain_one = record { some = omega arith; bytes = all_pass is_plain (codes "1") refl; controls = no_controls (codes "1") refl }

abbrev pub entry : List ℕ → List ℕ → Entry
entry key behind = record { key = key; behind = behind; under = [] }

pub version_says : SaysText IsNumber (entry (codes "tbd-version") (codes " 4")) (codes "4")
unfolding is_passed is_blank_or_comment unspaced indent is_tail
version_says = (refl, codes "4", [], refl, (omega arith, (refl, tt), 0, refl, λ e. absurd (omega arith)), refl)

pub current_says : SaysText IsScalar (entry (codes "current-version") (codes " 1")) (codes "1")
unfolding is_passed is_blank_or_comment unspaced indent is_tail
current_says = (refl, codes "1", [], refl, plain (codes "1") plain_one, refl)

pub targets_say : IsFlowList (entry (codes "targets") (codes " [ arm64e-macos ]")) (codes "arm64e-macos" ∷ [])
unfolding is_passed is_blank_or_comment unspaced indent is_tail
targets_say = record {
  opened = codes " arm64e-macos ]";
  bracket = refl;
  scalars = codes "arm64e-macos ]" ∷ [];
  gap = spaces 1 (codes "arm64e-macos ]") [];
  tail = [];
  are = last (codes "arm64e-macos") (codes "arm64e-macos") (codes " ]") [] (codes "]" ∷ []) (plain (codes "arm64e-macos") plain_target)
      (spaces 1 (codes "]") []);
  ends = refl;
  inside = tt;
}

-- ---- names

-- the value of an entry with a name in quotes
value_quoted : (key name : List ℕ) → value_of (entry key (codes " " ++ quoted name)) ≡ quoted name ++ []
unfolding quoted is_passed is_blank_or_comment unspaced indent
value_quoted key name = by (has_single name)
  where
    by : (t : Bool)
        → value_of (entry key (codes " " ++ cond t (codes "\"" ++ (name ++ codes "\"")) (codes "'" ++ (name ++ codes "'"))))
        ≡ cond t (codes "\"" ++ (name ++ codes "\"")) (codes "'" ++ (name ++ codes "'")) ++ []
    by true = sym (append-nil (codes "\"" ++ (name ++ codes "\"")))
    by false = sym (append-nil (codes "'" ++ (name ++ codes "'")))

pub install_name_says : (name : List ℕ) → IsQuotable name
    → SaysText IsScalar (entry (codes "install-name") (codes " " ++ quoted name)) name
unfolding is_tail
install_name_says name q = (refl, quoted name, [], value_quoted (codes "install-name") name, scalar name q, refl)

-- the entry of some names
abbrev pub list_entry : List ℕ → List ℕ → List (List ℕ) → Entry
list_entry key name names = entry key (codes " [ " ++ (joined (name ∷ names) ++ codes " ]"))

pub names_say : (key name : List ℕ) (names : List (List ℕ)) → IsQuotable name → AllByRecursion IsQuotable names
    → IsFlowList (list_entry key name names) (name ∷ names)
unfolding is_passed is_blank_or_comment unspaced indent is_tail
names_say key name names q qs = record {
  opened = codes " " ++ (joined (name ∷ names) ++ codes " ]");
  bracket = refl;
  scalars = (joined (name ∷ names) ++ codes " ]") ∷ [];
  gap = spaces 1 (joined (name ∷ names) ++ codes " ]") [];
  tail = [];
  are = scalars name names q qs;
  ends = refl;
  inside = tt;
}
