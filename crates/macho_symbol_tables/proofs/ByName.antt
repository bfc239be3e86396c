-- The numbers of output sections, as a table finds them by what is merged into them.
--
-- Headers are put in from the last one on: so of several with one name the first is put in last, and answers. One that the linker makes is
-- passed over. Fields of two names are equal exactly where the names are, so a table of padded names asks what the definition asks.
use Rattle.std.proofs.Common.{◌≡◌, ℕ, ◌+◌, ◌<◌, ◌≤◌, ◌==◌, ◌&&◌, not, Bool, true, false, cond, List, [], ◌∷◌, length, get_or, drop, refl, sym, ap, ◌∙◌, arith, inl, inr, Option, Some, None}
use Rattle.std.specs.Prelude.{if◌then◌else◌, nat_lt, unwrap_or}
use Rattle.std.specs.List.{position_or_len}
use Rattle.std.specs.Str.{bytes_eq}
use Rattle.std.proofs.lemmas.Bool.{cases_lt, lt-ltb, le-ltb, true≢false}
use Rattle.std.proofs.lemmas.List.{drop_more, drop_all}
use Rattle.macho_bytes.specs.Texts.{name_of}
use Rattle.macho_records.specs.Sections.{type_of}
use Rattle.macho_records.specs.Segments.{name_field}
use Rattle.macho_records.specs.declared.header.SectionHeader.{SectionHeader}
use Rattle.macho_model.specs.Segments.{OutputKey, same_key, key_of}
use Rattle.macho_model.specs.Placement.{Placed}
use Rattle.macho_layout.specs.declared.spec.OutputName.{OutputName}
use Rattle.macho_layout.specs.Keys.{same_output}
use Rattle.macho_layout.proofs.Named.{fields_agree}
use Rattle.macho_symbol_tables.specs.steps.Sections.{is_made, is_of, number_told, output_name, merged_name, FindsNumbers}
use Rattle.macho_bytes.proofs.Comparing.{bytes_turn, eq_turn}
use Rattle.macho_bytes.proofs.Bools.{and_group}

-- the number of the first that passes, where the first element has the number k + 1; 0 where none does
abbrev pub number_from : {X : Type 0} → (X → Bool) → ℕ → List X → ℕ
number_from q k [] = 0
number_from q k (x ∷ xs) = cond (q x) (k + 1) (number_from q (k + 1) xs)

-- that is its place
number_at : {X : Type 0} (q : X → Bool) (k : ℕ) (xs : List X)
    → number_from q k xs ≡ (if nat_lt (position_or_len q xs) (length xs) then k + (position_or_len q xs + 1) else 0)
number_at q k [] = refl
number_at {X} q k (x ∷ xs) = by (q x) refl (number_at q (k + 1) xs)
  where
    place : ℕ
    place = position_or_len q xs

    later : (n m : ℕ) → (if nat_lt n m then (k + 1) + (n + 1) else 0) ≡ (if nat_lt (n + 1) (m + 1) then k + ((n + 1) + 1) else 0)
    later n m = elim (cases_lt n m) [
      | inl less ↦
          let here : nat_lt n m ≡ true = lt-ltb n m less in
          let there : nat_lt (n + 1) (m + 1) ≡ true = lt-ltb (n + 1) (m + 1) (omega (arith, less)) in
          rw (here, there) (omega arith)
      | inr past ↦
          let here : nat_lt n m ≡ false = le-ltb n m past in
          let there : nat_lt (n + 1) (m + 1) ≡ false = le-ltb (n + 1) (m + 1) (omega (arith, past)) in
          rw (here, there) refl
    ]

    by : (b : Bool) → q x ≡ b
        → number_from q (k + 1) xs ≡ (if nat_lt place (length xs) then (k + 1) + (place + 1) else 0)
        → number_from q k (x ∷ xs)
        ≡ (if nat_lt (position_or_len q (x ∷ xs)) (length (x ∷ xs)) then k + (position_or_len q (x ∷ xs) + 1) else 0)
    by true e rest =
        let first : nat_lt 0 (length (x ∷ xs)) ≡ true = lt-ltb 0 (length (x ∷ xs)) (omega arith) in
        rw (e, first) refl
    by false e rest =
        let at : position_or_len q (x ∷ xs) ≡ place + 1 = rw e (omega arith) in
        let long : length (x ∷ xs) ≡ length xs + 1 = omega arith in
        let here : number_from q k (x ∷ xs) ≡ number_from q (k + 1) xs = rw e refl in
        here ∙ rest ∙ later place (length xs)
        ∙ sym (ap (λ (n : ℕ). if nat_lt n (length (x ∷ xs)) then k + (n + 1) else 0) at
        ∙ ap (λ (m : ℕ). if nat_lt (place + 1) m then k + ((place + 1) + 1) else 0) long)

-- a key by names as they may stand in fields
abbrev pub key_named : List ℕ → List ℕ → ℕ → OutputKey
key_named segment name kind = record { segment = name_of segment; name = name_of name; type = kind }

-- a table finds the numbers of the output sections from one on
pub record FindsFrom (p : Placed) (k : ℕ) (find : OutputName → Option ℕ) : Type 0 where
  pub each : (segment name : List ℕ) (kind : ℕ)
      → unwrap_or (find (output_name segment name kind)) 0
      ≡ number_from (is_of p (key_named segment name kind)) k (drop k p.output_sections)

pub finds_none : (p : Placed) (k : ℕ) (find : OutputName → Option ℕ) → length p.output_sections ≤ k
    → ((n : OutputName) → find n ≡ None) → FindsFrom p k find
finds_none p k find long none = record {
  each = λ segment name kind.
      ap (λ (o : Option ℕ). unwrap_or o 0) (none (output_name segment name kind))
      ∙ sym (ap (number_from (is_of p (key_named segment name kind)) k) (drop_all k p.output_sections long));
}

pub finds_all : (p : Placed) (k : ℕ) (find : OutputName → Option ℕ) → k ≡ 0 → FindsFrom p k find → FindsNumbers p find
unfolding number_told
finds_all p k find none has = record {
  each = λ segment name kind.
      has.each segment name kind
      ∙ ap (λ (n : ℕ). number_from (is_of p (key_named segment name kind)) n (drop n p.output_sections)) none
      ∙ number_at (is_of p (key_named segment name kind)) 0 p.output_sections
      ∙ by (nat_lt (place segment name kind) (length p.output_sections)) (place segment name kind);
}
  where
    place : List ℕ → List ℕ → ℕ → ℕ
    place segment name kind = position_or_len (is_of p (key_named segment name kind)) p.output_sections

    by : (t : Bool) (n : ℕ) → (if t then 0 + (n + 1) else 0) ≡ (if t then n + 1 else 0)
    by true n = omega arith
    by false n = refl

same_names : (h : SectionHeader) (segment name : List ℕ) (kind : ℕ)
    → same_output (merged_name h) (output_name segment name kind) ≡ same_key (key_named segment name kind) (key_of h)
same_names h segment name kind =
    ap (λ (t : Bool). t && (fields && (type_of h == kind)))
    (fields_agree h.segname segment ∙ bytes_turn (name_of h.segname) (name_of segment))
    ∙ ap (λ (t : Bool). segments && (t && (type_of h == kind)))
    (fields_agree h.sectname name ∙ bytes_turn (name_of h.sectname) (name_of name))
    ∙ ap (λ (t : Bool). segments && (names && t)) (eq_turn (type_of h) kind)
    ∙ and_group segments names (kind == type_of h)
  where
    fields : Bool
    fields = bytes_eq (name_field h.sectname) (name_field name)

    segments : Bool
    segments = bytes_eq (name_of segment) (name_of h.segname)

    names : Bool
    names = bytes_eq (name_of name) (name_of h.sectname)

-- the elements from one on
one_more : (hs : List SectionHeader) (i : ℕ) (h : SectionHeader) → i < length hs → h ≡ get_or hs i h → drop i hs ≡ h ∷ drop (i + 1) hs
one_more hs i h lt is = drop_more hs i h lt ∙ ap (λ (x : SectionHeader). x ∷ drop (i + 1) hs) (sym is)

-- one that is put in
pub finds_more : (p : Placed) (hs : List SectionHeader) (i j k n : ℕ) (h : SectionHeader) (old new : OutputName → Option ℕ)
    → hs ≡ p.output_sections → i < length hs → h ≡ get_or hs i h → j ≡ i → k ≡ i + 1 → n ≡ i + 1
    → FindsFrom p k old → is_made p h ≡ false
    → ((q : OutputName) → new q ≡ cond (same_output (merged_name h) q) (Some n) (old q)) → FindsFrom p j new
finds_more p hs i j k n h old new are lt is at behind number has own put = record {
  each = λ segment name kind.
      let key : OutputKey = key_named segment name kind in
      let rest : ℕ = number_from (is_of p key) (i + 1) (drop (i + 1) hs) in
      let was : unwrap_or (old (output_name segment name kind)) 0 ≡ rest =
      has.each segment name kind ∙ ap (λ (hs : List SectionHeader). number_from (is_of p key) k (drop k hs)) (sym are)
      ∙ ap (λ (m : ℕ). number_from (is_of p key) m (drop m hs)) behind in
      ap (λ (o : Option ℕ). unwrap_or o 0) (put (output_name segment name kind))
      ∙ ap (λ (b : Bool). unwrap_or (cond b (Some n) (old (output_name segment name kind))) 0) (same_names h segment name kind)
      ∙ by (same_key key (key_of h)) (is_made p h) rest (old (output_name segment name kind)) own was
      ∙ sym (ap (λ (hs : List SectionHeader). number_from (is_of p key) j (drop j hs)) (sym are)
      ∙ ap (λ (m : ℕ). number_from (is_of p key) m (drop m hs)) at
      ∙ ap (number_from (is_of p key) i) (one_more hs i h lt is));
}
  where
    by : (b made : Bool) (rest : ℕ) (was : Option ℕ) → made ≡ false → unwrap_or was 0 ≡ rest
        → unwrap_or (cond b (Some n) was) 0 ≡ cond (b && not made) (i + 1) rest
    by true false rest was e same = number
    by false false rest was e same = same
    by b true rest was e same = absurd (true≢false e)

-- one that is passed over
pub finds_kept : (p : Placed) (hs : List SectionHeader) (i j k : ℕ) (h : SectionHeader) (old : OutputName → Option ℕ)
    → hs ≡ p.output_sections → i < length hs → h ≡ get_or hs i h → j ≡ i → k ≡ i + 1
    → FindsFrom p k old → is_made p h ≡ true → FindsFrom p j old
finds_kept p hs i j k h old are lt is at behind has made = record {
  each = λ segment name kind.
      let key : OutputKey = key_named segment name kind in
      has.each segment name kind ∙ ap (λ (hs : List SectionHeader). number_from (is_of p key) k (drop k hs)) (sym are)
      ∙ ap (λ (m : ℕ). number_from (is_of p key) m (drop m hs)) behind
      ∙ by (same_key key (key_of h)) (is_made p h) (number_from (is_of p key) (i + 1) (drop (i + 1) hs)) made
      ∙ sym (ap (λ (hs : List SectionHeader). number_from (is_of p key) j (drop j hs)) (sym are)
      ∙ ap (λ (m : ℕ). number_from (is_of p key) m (drop m hs)) at
      ∙ ap (number_from (is_of p key) i) (one_more hs i h lt is));
}
  where
    by : (b m : Bool) (rest : ℕ) → m ≡ true → rest ≡ cond (b && not m) (i + 1) rest
    by true true rest e = refl
    by false true rest e = refl
    by b false rest e = absurd (true≢false (sym e))
