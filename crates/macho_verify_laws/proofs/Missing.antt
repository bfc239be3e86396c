-- A word that doesn't lead to a target misses it at some load of slide 0.
--
-- Memory holds one number there: what the word becomes. If word and target move, this is the same for all choices; were it the target and
-- the addend, the word would lead there. If one of them moves and the other is an import, the import's address is free, and one address
-- makes the sum wrong. If the word binds and the target is an import, either both are the same import, and the addends decide; or they have
-- two keys, and the import of the word may be put where the sum is wrong while the target stays at 0.
use Rattle.std.proofs.Common.{◌≡◌, ℕ, ◌+◌, ◌*◌, ◌-◌, ◌%◌, ◌^◌, ◌<◌, ◌&&◌, if◌then◌else◌, Bool, true, false, List, [], get_or, refl, sym, ap, ◌∙◌, arith, inl, inr, Some}
use Rattle.std.specs.FinMap.{empty}
use Rattle.std.specs.Str.{bytes_eq}
use Rattle.std.proofs.Math.Nat.{mod-lt}
use Rattle.std.proofs.lemmas.Bool.{cases_Bool, and_parts, and_from, true≢false}
use Rattle.macho_bytes.proofs.Comparing.{same_bytes, bytes_same}
use Rattle.macho_model.specs.declared.targets.Target.{Target}
use Rattle.macho_model.specs.declared.targets.Target.TheVariants as target
use Rattle.macho_model.specs.Links.{Link}
use Rattle.macho_model.specs.Needs.{imports_of, import_library, POINTER_SIZE}
use Rattle.macho_model.specs.Targets.{is_defined}
use Rattle.macho_model.specs.Values.{is_absolute_target}
use Rattle.macho_model.specs.Placement.{Placed}
use Rattle.macho_model.specs.Addresses.{section_address, common_address, address_of}
use Rattle.macho_model.specs.Meaning.{Same}
use Rattle.macho_model.specs.Images.{base_of, import_entry, import_name, import_library_name}
use Rattle.macho_model.specs.Loader.{IsAccepted, is_bind, ordinal_of}
use Rattle.macho_model.specs.Memory.{Choice, chosen, rebase_target, rebase_high, HoldsNumber}
use Rattle.macho_model.specs.ReadBack.{SaysRebase}
use Rattle.macho_model.specs.Stands.{IsAt}
use Rattle.macho_model.proofs.FieldSlides.{defined_moves}
use Rattle.macho_model.proofs.PointerFixups.{moved_value}
use Rattle.macho_fields.specs.Looks.{IsPlacedOnce}
use Rattle.macho_verify_laws.specs.Loads.{IsLoad, Fails}
use Rattle.macho_verify_laws.specs.InFile.{WordLeads}
use Rattle.macho_verify_laws.proofs.Choices.{choices_exist}
use Rattle.macho_verify_laws.proofs.Bytes.{fits_unmoved}
use Rattle.macho_verify_laws.proofs.Found.{HasFileWord}
use Rattle.macho_verify_laws.proofs.Written.{added, one_number, rebase_is_held, bind_is_held}
use Rattle.macho_verify_laws.proofs.Pointing.{PointsAt}

-- A load at slide 0 that has the value of a function for each import that it has.
record IsChosen (l : Link) (b : List ℕ) (f : List ℕ → List ℕ → ℕ) : Type 0 where
  pub choice : Choice
  pub load : IsLoad l b 0 choice
  pub has : (library name : List ℕ) (x : ℕ) → chosen choice library name ≡ Some x → x ≡ f library name

choosing : (l : Link) (b : List ℕ) (f : List ℕ → List ℕ → ℕ) → ((library name : List ℕ) → f library name < 2 ^ 64) → IsAccepted b
    → IsChosen l b f
choosing l b f small accepted =
    let c = choices_exist l b f small in
    record { choice = c.0; load = record { pages = refl; fits = fits_unmoved b accepted; image = c.1; link = c.2 }; has = c.3 }

-- the number by which a sum with e is one more than n
one_more : ℕ → ℕ → ℕ
one_more n e = (n + 1 + (2 ^ 64 - e % 2 ^ 64)) % 2 ^ 64

one_more_fits : (n e : ℕ) → one_more n e < 2 ^ 64
unfolding one_more
one_more_fits n e = mod-lt (n + 1 + (2 ^ 64 - e % 2 ^ 64)) (omega arith)

never_same : (n e : ℕ) → Same (one_more n e + e) n → ⊥
unfolding one_more
never_same n e same = omega (arith, same)

-- where a target that moves is, at slide 0
address_is : (l : Link) (p : Placed) (choice : Choice) (t : Target) (x : ℕ) → IsPlacedOnce p → is_defined t ≡ true → IsAt l p 0 choice t x
    → x ≡ address_of p t
address_is l p choice (target.Section file section offset) x once moves (address, (q, one, in_file, in_section, at), is) =
    let here = once.sections q one in
    let named : section_address p q.file q.section ≡ section_address p file section =
    ap (λ (n : ℕ). section_address p n q.section) in_file ∙ ap (λ (n : ℕ). section_address p file n) in_section in
    omega (arith, here, named, at, is)
address_is l p choice (target.Common id) x once moves (c, one, is_id, is) =
    let here = once.commons c one in
    let named : common_address p c.id ≡ common_address p id = ap (λ (n : ℕ). common_address p n) is_id in
    omega (arith, here, named, is)
address_is l p choice (target.Import id) x once moves h = absurd (true≢false (sym moves))
address_is l p choice target.Base x once moves h = omega (arith, h)
address_is l p choice (target.Absolute value) x once moves h = absurd (true≢false (sym moves))
address_is l p choice target.None x once moves h = absurd (true≢false (sym moves))

module _ (l : Link) (b : List ℕ) (p : Placed) (a : ℕ) (addend : ℕ) (accepted : IsAccepted b) (h : HasFileWord b a) where
  -- the file's value of a word that moves
  sum_of : ℕ
  sum_of = rebase_target h.word + rebase_high h.word * 2 ^ 56 + base_of b

  -- a number that memory holds there at slide 0 is what the word becomes: one that moves, or one that binds
  rebased : is_bind h.word ≡ false → (choice : Choice) (n : ℕ) → HoldsNumber b 0 choice POINTER_SIZE (a + 0) n → n ≡ (sum_of + 0) % 2 ^ 64
  unfolding sum_of
  rebased rebases choice n held =
      one_number b 0 choice POINTER_SIZE (a + 0) n (moved_value b h.word 0) accepted held (rebase_is_held b a h rebases 0 choice)

  bound : (binds : is_bind h.word ≡ true) (choice : Choice) (x : ℕ)
      → chosen choice (import_library_name b (import_entry b (h.import binds).0 (ordinal_of h.word)))
      (import_name b (h.import binds).0 (import_entry b (h.import binds).0 (ordinal_of h.word))) ≡ Some x
      → (n : ℕ) → HoldsNumber b 0 choice POINTER_SIZE (a + 0) n → n ≡ (x + added b (h.import binds).0 h.word) % 2 ^ 64
  bound binds choice x chooses n held =
      let i = h.import binds in
      one_number b 0 choice POINTER_SIZE (a + 0) n ((x + added b i.0 h.word) % 2 ^ 64) accepted held
      (bind_is_held b a h binds i.0 i.1 i.2 0 choice x chooses)

  -- both move
  both_move : (t : Target) → is_defined t ≡ true → is_bind h.word ≡ false
      → ((value x : ℕ) → SaysRebase b a value → IsAt l p 0 empty t x → Same value (x + addend) → ⊥) → Fails l b (PointsAt l b p a t addend)
  unfolding sum_of
  both_move t moves rebases misses =
      let c = choosing l b (λ library name. 0) (λ library name. omega arith) accepted in
      record {
        s = 0;
        choice = c.choice;
        load = c.load;
        not_so = λ w.
            let is = rebased rebases c.choice w.word w.held in
            misses (sum_of % 2 ^ 64) (w.x + 0) (record { on = h.on; word = h.word; stands = h.stands; rebases = rebases; is = refl })
            (defined_moves l p c.choice empty t w.x 0 moves w.at) (same sum_of w.word w.x is w.points);
      }
    where
      same : (n word x : ℕ) → word ≡ (n + 0) % 2 ^ 64 → Same word (x + addend) → Same (n % 2 ^ 64) (x + 0 + addend)
      same n word x is points = omega (arith, is, points)

  -- the target moves, and the word binds
  word_binds : (t : Target) → IsPlacedOnce p → is_defined t ≡ true → is_bind h.word ≡ true → Fails l b (PointsAt l b p a t addend)
  word_binds t once moves binds =
      let i = h.import binds in
      let entry = import_entry b i.0 (ordinal_of h.word) in
      let n = address_of p t + addend in
      let e = added b i.0 h.word in
      let c = choosing l b (λ library name. one_more n e) (λ library name. one_more_fits n e) accepted in
      let found = c.load.image i.0 (ordinal_of h.word) i.1 i.2 in
      let value = c.has (import_library_name b entry) (import_name b i.0 entry) found.0 found.2 in
      record {
        s = 0;
        choice = c.choice;
        load = c.load;
        not_so = λ w.
            let is = bound binds c.choice found.0 found.2 w.word w.held in
            let at = address_is l p c.choice t w.x once moves w.at in
            never_same n e (same n e w.word found.0 w.x is value (omega (arith, at)) w.points);
      }
    where
      same : (n e word found x : ℕ) → word ≡ (found + e) % 2 ^ 64 → found ≡ one_more n e → x + addend ≡ n → Same word (x + addend)
          → Same (one_more n e + e) n
      same n e word found x is value at points = omega (arith, is, value, at, points)

  -- the word moves, and the target is an import
  target_binds : (id : ℕ) → is_bind h.word ≡ false → Fails l b (PointsAt l b p a (target.Import id) addend)
  unfolding sum_of
  target_binds id rebases =
      let c = choosing l b (λ library name. one_more sum_of addend) (λ library name. one_more_fits sum_of addend) accepted in
      record {
        s = 0;
        choice = c.choice;
        load = c.load;
        not_so = λ w.
            let is = rebased rebases c.choice w.word w.held in
            let value = c.has (import_library l (get_or (imports_of l) id [])) (get_or (imports_of l) id []) w.x w.at in
            never_same sum_of addend (same sum_of w.word w.x is value w.points);
      }
    where
      same : (n word x : ℕ) → word ≡ (n + 0) % 2 ^ 64 → x ≡ one_more n addend → Same word (x + addend) → Same (one_more n addend + addend) n
      same n word x is value points = omega (arith, is, value, points)

  -- the word binds the target's import
  same_import : (id : ℕ) → (binds : is_bind h.word ≡ true)
      → (import_library_name b (import_entry b (h.import binds).0 (ordinal_of h.word)) ≡ import_library l (get_or (imports_of l) id []))
      → (import_name b (h.import binds).0 (import_entry b (h.import binds).0 (ordinal_of h.word)) ≡ get_or (imports_of l) id [])
      → (WordLeads l b p a (target.Import id) addend → ⊥) → Fails l b (PointsAt l b p a (target.Import id) addend)
  same_import id binds of named misses =
      let i = h.import binds in
      let entry = import_entry b i.0 (ordinal_of h.word) in
      let e = added b i.0 h.word in
      let c = choosing l b (λ library name. 0) (λ library name. omega arith) accepted in
      let found = c.load.image i.0 (ordinal_of h.word) i.1 i.2 in
      let value = c.has (import_library_name b entry) (import_name b i.0 entry) found.0 found.2 in
      record {
        s = 0;
        choice = c.choice;
        load = c.load;
        not_so = λ w.
            let is = bound binds c.choice found.0 found.2 w.word w.held in
            let here = c.has (import_library l (get_or (imports_of l) id [])) (get_or (imports_of l) id []) w.x w.at in
            misses (
              entry.library,
              e % 2 ^ 64,
              record {
                on = h.on;
                word = h.word;
                stands = h.stands;
                binds = binds;
                table = i.0;
                one = i.1;
                import = i.2;
                library_is = refl;
                name_is = sym named;
                addend_is = refl;
              },
              of,
              same e w.word found.0 w.x is value here w.points,
            );
      }
    where
      same : (e word found x : ℕ) → word ≡ (found + e) % 2 ^ 64 → found ≡ 0 → x ≡ 0 → Same word (x + addend) → Same (e % 2 ^ 64) addend
      same e word found x is value at points = omega (arith, is, value, at, points)

  -- the word binds another one
  other_import : (id : ℕ) → (binds : is_bind h.word ≡ true)
      → (bytes_eq (import_library l (get_or (imports_of l) id []))
      (import_library_name b (import_entry b (h.import binds).0 (ordinal_of h.word)))
      && bytes_eq (get_or (imports_of l) id [])
      (import_name b (h.import binds).0 (import_entry b (h.import binds).0 (ordinal_of h.word)))) ≡ false
      → Fails l b (PointsAt l b p a (target.Import id) addend)
  other_import id binds differs =
      let i = h.import binds in
      let entry = import_entry b i.0 (ordinal_of h.word) in
      let library = import_library_name b entry in
      let name = import_name b i.0 entry in
      let e = added b i.0 h.word in
      let f : List ℕ → List ℕ → ℕ = λ x y. if bytes_eq x library && bytes_eq y name then one_more addend e else 0 in
      let c = choosing l b f (λ x y. small (bytes_eq x library && bytes_eq y name) e) accepted in
      let found = c.load.image i.0 (ordinal_of h.word) i.1 i.2 in
      let itself : (bytes_eq library library && bytes_eq name name) ≡ true =
      and_from (bytes_eq library library) (bytes_eq name name) (bytes_same library) (bytes_same name) in
      let value : found.0 ≡ one_more addend e = c.has library name found.0 found.2
      ∙ ap (λ (t : Bool). if t then one_more addend e else 0) itself in
      record {
        s = 0;
        choice = c.choice;
        load = c.load;
        not_so = λ w.
            let is = bound binds c.choice found.0 found.2 w.word w.held in
            let here : w.x ≡ 0 = c.has (import_library l (get_or (imports_of l) id [])) (get_or (imports_of l) id []) w.x w.at
            ∙ ap (λ (t : Bool). if t then one_more addend e else 0) differs in
            never_same addend e (same e w.word found.0 w.x is value here w.points);
      }
    where
      small : (t : Bool) (e : ℕ) → (if t then one_more addend e else 0) < 2 ^ 64
      small true e = one_more_fits addend e
      small false e = omega arith

      same : (e word found x : ℕ) → word ≡ (found + e) % 2 ^ 64 → found ≡ one_more addend e → x ≡ 0 → Same word (x + addend)
          → Same (one_more addend e + e) addend
      same e word found x is value at points = omega (arith, is, value, at, points)

  -- so each of them fails
  moved_fails : (t : Target) → IsPlacedOnce p → is_defined t ≡ true
      → ((value x : ℕ) → SaysRebase b a value → IsAt l p 0 empty t x → Same value (x + addend) → ⊥) → Fails l b (PointsAt l b p a t addend)
  moved_fails t once moves misses =
      elim (cases_Bool (is_bind h.word)) [ inl binds ↦ word_binds t once moves binds | inr rebases ↦ both_move t moves rebases misses ]

  import_fails : (id : ℕ) → (WordLeads l b p a (target.Import id) addend → ⊥) → Fails l b (PointsAt l b p a (target.Import id) addend)
  import_fails id misses =
      elim (cases_Bool (is_bind h.word)) [ inl binds ↦ by_key binds | inr rebases ↦ target_binds id rebases ]
    where
      by_key : is_bind h.word ≡ true → Fails l b (PointsAt l b p a (target.Import id) addend)
      by_key binds =
          let i = h.import binds in
          let entry = import_entry b i.0 (ordinal_of h.word) in
          let library = import_library l (get_or (imports_of l) id []) in
          let name = get_or (imports_of l) id [] in
          elim (cases_Bool (bytes_eq library (import_library_name b entry) && bytes_eq name (import_name b i.0 entry))) [
            | inl equal ↦
                let both = and_parts (bytes_eq library (import_library_name b entry)) (bytes_eq name (import_name b i.0 entry)) equal in
                same_import id binds (sym (same_bytes library (import_library_name b entry) both.0))
                (sym (same_bytes name (import_name b i.0 entry) both.1)) misses
            | inr differs ↦ other_import id binds differs
          ]

  -- a target that is nowhere is missed by each load
  nothing_fails : Fails l b (PointsAt l b p a target.None addend)
  nothing_fails =
      let c = choosing l b (λ library name. 0) (λ library name. omega arith) accepted in
      record { s = 0; choice = c.choice; load = c.load; not_so = λ w. w.at }

  -- THE word misses its target at some load.
  pub leads_fails : (t : Target) → IsPlacedOnce p → is_absolute_target t ≡ false → (WordLeads l b p a t addend → ⊥)
      → Fails l b (PointsAt l b p a t addend)
  leads_fails (target.Section file section offset) once moves misses =
      moved_fails (target.Section file section offset) once refl (λ value x says at same. misses (value, x, says, at, same))
  leads_fails (target.Common id) once moves misses =
      moved_fails (target.Common id) once refl (λ value x says at same. misses (value, x, says, at, same))
  leads_fails (target.Import id) once moves misses = import_fails id misses
  leads_fails target.Base once moves misses =
      moved_fails target.Base once refl (λ value x says at same. misses (value, x, says, at, same))
  leads_fails (target.Absolute value) once moves misses = absurd (true≢false moves)
  leads_fails target.None once moves misses = nothing_fails
