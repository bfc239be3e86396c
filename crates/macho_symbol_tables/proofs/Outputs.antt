-- Which output sections a link has: what stands for one of each kind, and that each section has its own.
--
-- The output sections of a segment are lists of merged ones that pass a test, with what the linker makes between. A merged one is of a key
-- of the segment, and what is made is there only where it is not empty. The tests of a segment's lists take every key of it.
use Rattle.std.proofs.Common.{◌≡◌, ℕ, ◌≤◌, ◌==◌, ◌&&◌, not, Bool, true, false, List, [], ◌∷◌, ◌++◌, filter, length, refl, ap, subst, ◌∙◌, arith, All, Contains}
use Rattle.std.specs.Prelude.{nat_lt}
use Rattle.std.specs.Str.{bytes_eq}
use Rattle.std.proofs.lemmas.Bool.{and_parts, ltb-true}
use Rattle.std.proofs.lemmas.Bool.Decides.{nat_tests}
use Rattle.std.proofs.lemmas.List.Elements.{All-nil, All-cons, All-append, Contains-append_left, Contains-append_right}
use Rattle.std.proofs.lemmas.Slice.Eq.{bytes_eq-Decides}
use Rattle.macho_records.specs.declared.constants.TheConstants.{S_THREAD_LOCAL_REGULAR, S_THREAD_LOCAL_ZEROFILL}
use Rattle.macho_model.specs.declared.placed.Counts.{Counts}
use Rattle.macho_model.specs.Links.{Link}
use Rattle.macho_model.specs.Targets.{slots_of, stubs_of}
use Rattle.macho_model.specs.Segments.{TEXT, DATA, DATA_CONST, OutputKey, same_key, common_key, output_keys_of, list_if}
use Rattle.macho_model.specs.OutputSections.{is_zeros, is_code}
use Rattle.macho_model.specs.steps.Outputs.{OutputSection, Merged, InitOffsets, UnwindInfo, Stubs, Slots, merged_in, sections_of_text, sections_of_data, sections_of_other, output_sections_in}
use Rattle.macho_bytes.proofs.Members.{contains_map, map_contains, contains_filter, filter_contains, contains_all}

-- What is known of an output section of a segment.
abbrev pub Fact : Link → Counts → List ℕ → OutputSection → Type 0
Fact l counts n (Merged key) = Contains (output_keys_of l) key × (key.segment ≡ n)
Fact l counts n InitOffsets = 1 ≤ counts.initializers
Fact l counts n UnwindInfo = 1 ≤ counts.unwind
Fact l counts n Stubs = Unit {0}
Fact l counts n Slots = 1 ≤ length (slots_of l)

merged_facts : (l : Link) (counts : Counts) (n : List ℕ) (test : OutputKey → Bool) → All (Fact l counts n) (merged_in l n test)
merged_facts l counts n test =
    contains_all (Fact l counts n) (merged_in l n test)
    (λ o there. by o (map_contains Merged (filter (λ key. bytes_eq key.segment n && test key) (output_keys_of l)) o there))
  where
    by : (o : OutputSection) → (key : OutputKey) × Contains (filter (λ k. bytes_eq k.segment n && test k) (output_keys_of l)) key
        × (Merged key ≡ o) → Fact l counts n o
    by o (key, there, is) =
        let f = filter_contains (λ (k : OutputKey). bytes_eq k.segment n && test k) (output_keys_of l) key there in
        subst (Fact l counts n) is
        (f.0, (bytes_eq-Decides key.segment n).0 (and_parts (bytes_eq key.segment n) (test key) f.1).0)

made_facts : (l : Link) (counts : Counts) (n : List ℕ) (b : Bool) (o : OutputSection) → (b ≡ true → Fact l counts n o)
    → All (Fact l counts n) (list_if b (o ∷ []))
made_facts l counts n true o is = All-cons (Fact l counts n) o [] (is refl) (All-nil (Fact l counts n))
made_facts l counts n false o is = All-nil (Fact l counts n)

some_slots : (n : ℕ) → not (n == 0) ≡ true → 1 ≤ n
some_slots n is = grind (arith, nat_tests)

text_facts : (l : Link) (counts : Counts) → All (Fact l counts TEXT) (sections_of_text l counts)
text_facts l counts =
    let F : OutputSection → Type 0 = Fact l counts TEXT in
    All-append F _ _
    (All-append F _ _
    (All-append F _ _
    (All-append F _ _
    (All-append F _ _ (merged_facts l counts TEXT _)
    (made_facts l counts TEXT _ InitOffsets (λ e. ltb-true 0 counts.initializers e)))
    (made_facts l counts TEXT _ UnwindInfo (λ e. ltb-true 0 counts.unwind e)))
    (made_facts l counts TEXT _ Stubs (λ e. tt)))
    (merged_facts l counts TEXT _))
    (merged_facts l counts TEXT _)

data_facts : (l : Link) (counts : Counts) → All (Fact l counts DATA) (sections_of_data l)
data_facts l counts =
    let F : OutputSection → Type 0 = Fact l counts DATA in
    All-append F _ _
    (All-append F _ _ (All-append F _ _ (All-append F _ _ (merged_facts l counts DATA _) (merged_facts l counts DATA _))
    (merged_facts l counts DATA _))
    (merged_facts l counts DATA _))
    (merged_facts l counts DATA _)

other_facts : (l : Link) (counts : Counts) (n : List ℕ) → All (Fact l counts n) (sections_of_other l n)
other_facts l counts n =
    let F : OutputSection → Type 0 = Fact l counts n in
    All-append F _ _
    (All-append F _ _
    (made_facts l counts n _ Slots (λ e. some_slots (length (slots_of l)) (and_parts (bytes_eq n DATA_CONST) _ e).1))
    (merged_facts l counts n _))
    (merged_facts l counts n _)

pub facts_in : (l : Link) (counts : Counts) (n : List ℕ) → All (Fact l counts n) (output_sections_in l counts n)
facts_in l counts n = by (bytes_eq n TEXT) (bytes_eq n DATA) refl refl
  where
    by : (x y : Bool) → bytes_eq n TEXT ≡ x → bytes_eq n DATA ≡ y → All (Fact l counts n) (output_sections_in l counts n)
    by true y e g = rw e (rw ((bytes_eq-Decides n TEXT).0 e) (text_facts l counts))
    by false true e g = rw (e, g) (rw ((bytes_eq-Decides n DATA).0 g) (data_facts l counts))
    by false false e g = rw (e, g) (other_facts l counts n)

-- a key of a segment that passes a test is merged there
merged_there : (l : Link) (n : List ℕ) (test : OutputKey → Bool) (key : OutputKey) → Contains (output_keys_of l) key → key.segment ≡ n
    → test key ≡ true
    → Contains (merged_in l n test) (Merged key)
merged_there l n test key there is passes =
    contains_map Merged (filter (λ k. bytes_eq k.segment n && test k) (output_keys_of l)) key
    (contains_filter (λ (k : OutputKey). bytes_eq k.segment n && test k) (output_keys_of l) key there
    (both (bytes_eq key.segment n) (test key) ((bytes_eq-Decides key.segment n).1 is) passes))
  where
    both : (a b : Bool) → a ≡ true → b ≡ true → (a && b) ≡ true
    both a b e f = rw (e, f) refl

neither : (a b : Bool) → a ≡ false → b ≡ false → (not a && not b) ≡ true
neither a b e f = rw (e, f) refl

-- THE tests take every key of a segment.
text_merged : (l : Link) (counts : Counts) (key : OutputKey) → Contains (output_keys_of l) key → key.segment ≡ TEXT
    → Contains (sections_of_text l counts) (Merged key)
text_merged l counts key there is = by (is_zeros key) (is_code l key) refl refl
  where
    A : List OutputSection
    A = merged_in l TEXT (is_code l)

    B : List OutputSection
    B = list_if (nat_lt 0 counts.initializers) (InitOffsets ∷ [])

    C : List OutputSection
    C = list_if (nat_lt 0 counts.unwind) (UnwindInfo ∷ [])

    D : List OutputSection
    D = list_if (not (length (stubs_of l) == 0)) (Stubs ∷ [])

    E : List OutputSection
    E = merged_in l TEXT (λ k. not (is_zeros k) && not (is_code l k))

    G : List OutputSection
    G = merged_in l TEXT is_zeros

    m : OutputSection
    m = Merged key

    by : (z c : Bool) → is_zeros key ≡ z → is_code l key ≡ c → Contains (sections_of_text l counts) m
    by true c e f = Contains-append_right ((((A ++ B) ++ C) ++ D) ++ E) G m (merged_there l TEXT is_zeros key there is e)
    by false true e f =
        Contains-append_left ((((A ++ B) ++ C) ++ D) ++ E) G m (Contains-append_left (((A ++ B) ++ C) ++ D) E m
        (Contains-append_left ((A ++ B) ++ C) D m (Contains-append_left (A ++ B) C m
        (Contains-append_left A B m (merged_there l TEXT (is_code l) key there is f)))))
    by false false e f =
        Contains-append_left ((((A ++ B) ++ C) ++ D) ++ E) G m (Contains-append_right (((A ++ B) ++ C) ++ D) E m
        (merged_there l TEXT (λ k. not (is_zeros k) && not (is_code l k)) key there is (neither (is_zeros key) (is_code l key) e f)))

data_merged : (l : Link) (key : OutputKey) → Contains (output_keys_of l) key → key.segment ≡ DATA
    → Contains (sections_of_data l) (Merged key)
data_merged l key there is =
    by (is_zeros key) (key.type == S_THREAD_LOCAL_REGULAR) (key.type == S_THREAD_LOCAL_ZEROFILL) (same_key common_key key) refl refl refl
    refl
  where
    A : List OutputSection
    A = merged_in l DATA (λ k. not (is_zeros k) && not (k.type == S_THREAD_LOCAL_REGULAR))

    B : List OutputSection
    B = merged_in l DATA (λ k. k.type == S_THREAD_LOCAL_REGULAR)

    C : List OutputSection
    C = merged_in l DATA (λ k. k.type == S_THREAD_LOCAL_ZEROFILL)

    D : List OutputSection
    D = merged_in l DATA (same_key common_key)

    E : List OutputSection
    E = merged_in l DATA (λ k. is_zeros k && not (k.type == S_THREAD_LOCAL_ZEROFILL) && not (same_key common_key k))

    m : OutputSection
    m = Merged key

    by : (z r x c : Bool) → is_zeros key ≡ z → (key.type == S_THREAD_LOCAL_REGULAR) ≡ r → (key.type == S_THREAD_LOCAL_ZEROFILL) ≡ x
        → same_key common_key key ≡ c
        → Contains (sections_of_data l) m
    by z true x c e f g h =
        Contains-append_left (((A ++ B) ++ C) ++ D) E m (Contains-append_left ((A ++ B) ++ C) D m (Contains-append_left (A ++ B) C m
        (Contains-append_right A B m (merged_there l DATA (λ k. k.type == S_THREAD_LOCAL_REGULAR) key there is f))))
    by false false x c e f g h =
        Contains-append_left (((A ++ B) ++ C) ++ D) E m (Contains-append_left ((A ++ B) ++ C) D m (Contains-append_left (A ++ B) C m
        (Contains-append_left A B m
        (merged_there l DATA (λ k. not (is_zeros k) && not (k.type == S_THREAD_LOCAL_REGULAR)) key there is (rw (e, f) refl)))))
    by true false true c e f g h =
        Contains-append_left (((A ++ B) ++ C) ++ D) E m (Contains-append_left ((A ++ B) ++ C) D m (Contains-append_right (A ++ B) C m
        (merged_there l DATA (λ k. k.type == S_THREAD_LOCAL_ZEROFILL) key there is g)))
    by true false false true e f g h =
        Contains-append_left (((A ++ B) ++ C) ++ D) E m (Contains-append_right ((A ++ B) ++ C) D m
        (merged_there l DATA (same_key common_key) key there is h))
    by true false false false e f g h =
        Contains-append_right (((A ++ B) ++ C) ++ D) E m
        (merged_there l DATA (λ k. is_zeros k && not (k.type == S_THREAD_LOCAL_ZEROFILL) && not (same_key common_key k)) key there is
        (rw (e, g, h) refl))

other_merged : (l : Link) (n : List ℕ) (key : OutputKey) → Contains (output_keys_of l) key → key.segment ≡ n
    → Contains (sections_of_other l n) (Merged key)
other_merged l n key there is = by (is_zeros key) refl
  where
    A : List OutputSection
    A = list_if (bytes_eq n DATA_CONST && not (length (slots_of l) == 0)) (Slots ∷ [])

    B : List OutputSection
    B = merged_in l n (λ k. not (is_zeros k))

    C : List OutputSection
    C = merged_in l n is_zeros

    by : (z : Bool) → is_zeros key ≡ z → Contains (sections_of_other l n) (Merged key)
    by true e = Contains-append_right (A ++ B) C (Merged key) (merged_there l n is_zeros key there is e)
    by false e =
        Contains-append_left (A ++ B) C (Merged key)
        (Contains-append_right A B (Merged key) (merged_there l n (λ k. not (is_zeros k)) key there is (ap not e)))

pub merged_in_segment : (l : Link) (counts : Counts) (n : List ℕ) (key : OutputKey) → Contains (output_keys_of l) key → key.segment ≡ n
    → Contains (output_sections_in l counts n) (Merged key)
merged_in_segment l counts n key there is = by (bytes_eq n TEXT) (bytes_eq n DATA) refl refl
  where
    by : (x y : Bool) → bytes_eq n TEXT ≡ x → bytes_eq n DATA ≡ y → Contains (output_sections_in l counts n) (Merged key)
    by true y e g = rw e (text_merged l counts key there (is ∙ (bytes_eq-Decides n TEXT).0 e))
    by false true e g = rw (e, g) (data_merged l key there (is ∙ (bytes_eq-Decides n DATA).0 g))
    by false false e g = rw (e, g) (other_merged l n key there is)
