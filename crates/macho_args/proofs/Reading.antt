-- One turn of the loop over the words.
--
-- The words from number i on are the word i and the words behind it. If it is a value, one value fewer is
-- left. Else it is read, and the words behind it go on from what it gave; its fault is theirs. After the last
-- word nothing is left. What all words say is the fold from the fresh fields, and then the rule on inputs.
use Rattle.std.proofs.Common.{◌≡◌, ℕ, zero, suc, ◌+◌, ◌-◌, ◌<◌, ◌≤◌, arith, refl, ap, ◌∙◌, inl, inr, add-one, List, [], ◌∷◌, length, map, drop, get_or, Result, Ok, Err, IfOk, IfErr, String}
use Rattle.std.specs.String.{string_bytes}
use Rattle.std.proofs.Math.Seq.{drop-cons}
use Rattle.std.proofs.lemmas.List.{drop-map, drop-drop}
use Rattle.std.proofs.lemmas.Result.{IfOk-weaker, IfErr-weaker}
use Rattle.macho_args.specs.declared.fault.ArgsFault.{ArgsFault}
use Rattle.macho_args.specs.steps.Effects.{HasCause}
use Rattle.macho_args.specs.steps.KeptRoot.{keep_root, kept_of}
use Rattle.macho_args.specs.Options.{option_named}
use Rattle.macho_args.specs.Settings.{Settings, fresh}
use Rattle.macho_args.specs.Words.{read_from, read_option, without_inputs}

module _ (set_root : List ℕ → Settings → Settings) where
  -- after the last word
  pub read-nothing : (values i : ℕ) (s : Settings) → read_from set_root values i [] s ≡ Ok s
  unfolding read_from
  read-nothing zero i s = refl
  read-nothing (suc values) i s = refl

  -- a value is passed over
  read-skip : (values i : ℕ) (words : List (List ℕ)) (s : Settings) → 0 < values
      → read_from set_root values i words s ≡ read_from set_root (values - 1) (i + 1) (drop 1 words) s
  unfolding read_from
  read-skip zero i words s some = absurd (omega arith)
  read-skip (suc values) i [] s some = refl
  read-skip (suc values) i (word ∷ behind) s some = ap (λ n. read_from set_root n (i + 1) behind s) (omega arith)

  -- the same at a place of all words
  pub turn-value : {A : Type 0} (words : List (String A)) (i values : ℕ) (s : Settings) → 0 < values
      → read_from set_root values i (map string_bytes (drop i words)) s
      ≡ read_from set_root (values - 1) (i + 1) (map string_bytes (drop (i + 1) words)) s
  turn-value words i values s some =
      read-skip values i (map string_bytes (drop i words)) s some
      ∙ ap (λ texts. read_from set_root (values - 1) (i + 1) texts s) (drop-map string_bytes 1 (drop i words) ∙ rw drop-drop refl)

  -- a word that is read
  read-word : (i : ℕ) (word : List ℕ) (behind : List (List ℕ)) (s t : Settings) (values : ℕ)
      → read_option set_root (option_named word) i word behind s ≡ Ok (t, values)
      → read_from set_root 0 i (word ∷ behind) s ≡ read_from set_root values (i + 1) behind t
  unfolding read_from
  read-word i word behind s t values read = rw read refl

  -- a word that is refused
  read-refused : (i : ℕ) (word : List ℕ) (behind : List (List ℕ)) (s : Settings) (fault : ArgsFault)
      → HasCause (read_option set_root (option_named word) i word behind s) fault
      → HasCause (read_from set_root 0 i (word ∷ behind) s) fault
  unfolding read_from
  read-refused i word behind s fault (inl memory) = inl memory
  read-refused i word behind s fault (inr why) = inr (rw why refl)

-- the word at a place, and those behind it
texts-at : {A : Type 0} (words : List (String A)) (i : ℕ) (word : String A) → i < length words → word ≡ get_or words i word
    → map string_bytes (drop i words) ≡ string_bytes word ∷ map string_bytes (drop (i + 1) words)
texts-at words i word within is = ap (map string_bytes) (drop-cons words i word within) ∙ rw (add-one, ← is) refl

-- One turn, where no value is left: `word` stands at place i of the words, and `behind` is what stands behind it.
module _ (set_root : List ℕ → Settings → Settings) {A : Type 0} (words : List (String A)) (i values : ℕ)
    (word : String A) (text : List ℕ) (behind : List (String A)) (s : Settings) (result : Result ℕ ArgsFault)
    (none : values ≤ 0) (within : i < length words) (is : word ≡ get_or words i word)
    (is_text : text ≡ string_bytes word) (is_behind : behind ≡ drop (i + 1) words) where
  at_word : read_from set_root values i (map string_bytes (drop i words)) s ≡ read_from set_root 0 i (text ∷ map string_bytes behind) s
  at_word = let zero_left : values ≡ 0 = omega arith in rw (zero_left, texts-at words i word within is, is_text, is_behind) refl

  pub turn-done : (t : Settings)
      → IfOk result (λ n. read_option set_root (option_named text) i text (map string_bytes behind) s ≡ Ok (t, n))
      → IfOk result (λ left. read_from set_root values i (map string_bytes (drop i words)) s
      ≡ read_from set_root left (i + 1) (map string_bytes (drop (i + 1) words)) t)
  turn-done t read =
      IfOk-weaker result _ _ (λ n done. at_word ∙ (read-word set_root i text (map string_bytes behind) s t n done ∙ rw is_behind refl)) read

  pub turn-why : IfErr result (HasCause (read_option set_root (option_named text) i text (map string_bytes behind) s))
      → IfErr result (HasCause (read_from set_root values i (map string_bytes (drop i words)) s))
  turn-why why =
      IfErr-weaker result _ _ (λ fault cause. rw at_word (read-refused set_root i text (map string_bytes behind) s fault cause)) why

-- what all words say, from the fields before the first word
module _ (words : List (List ℕ)) (start : Settings) (is_fresh : start ≡ fresh) where
  pub all-refused : (fault : ArgsFault) → HasCause (read_from keep_root 0 0 words start) fault → HasCause (kept_of words) fault
  unfolding kept_of
  all-refused fault (inl memory) = inl memory
  all-refused fault (inr why) = let read = rw is_fresh at why in inr (rw read refl)

  pub all-beside : (s : Settings) (fault : ArgsFault) → read_from keep_root 0 0 words start ≡ Ok s
      → without_inputs s.generate s.inputs s ≡ Err fault → HasCause (kept_of words) fault
  unfolding kept_of
  all-beside s fault said beside = let read = rw is_fresh at said in inr (rw read beside)

  pub all-said : (s : Settings) → read_from keep_root 0 0 words start ≡ Ok s
      → without_inputs s.generate s.inputs s ≡ Ok s → kept_of words ≡ Ok s
  unfolding kept_of
  all-said s said alone = let read = rw is_fresh at said in rw read alone
