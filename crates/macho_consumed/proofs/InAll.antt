-- All consumed sections, one after the other.
--
-- A section that is listed is one of a file that is viewed, and of its kind: it comes from the file's own list, which is a filter
-- of its sections' numbers. What is added for one section more stands behind what was added before.
use Rattle.std.proofs.Common.{◌≡◌, ℕ, ◌+◌, ◌<◌, Bool, true, List, [], ◌∷◌, ◌++◌, length, filter, get_or, take, Option, Some, None, refl, sym, ap, ◌∙◌, subst}
use Rattle.std.proofs.lemmas.List.{append-nil, take_more, get_or_default}
use Rattle.std.proofs.lemmas.List.Elements.{All-more, All-contains, All-nil, All-map, All-from_get_or}
use Rattle.std.proofs.lemmas.Grind.{flat_map-append}
use Rattle.std.specs.List.{range_with_len, flat_map, All, Contains}
use Rattle.macho_object.specs.Views.{FileBytes}
use Rattle.macho_model.specs.Objects.{num_sections, section_at}
use Rattle.macho_symbols.specs.Kept.{ResolvedRows}
use Rattle.macho_consumed.specs.declared.listing.Kind.{Kind}
use Rattle.macho_consumed.specs.declared.listing.SectionRef.{SectionRef}
use Rattle.macho_consumed.specs.Kinds.{is_of_kind}
use Rattle.macho_consumed.specs.steps.Listed.{ref, refs_in, refs_of_file, refs_of, bytes_in, bytes_viewed}
use Rattle.macho_consumed.specs.declared.listing.Kind.TheVariants.{Initializers, Entries}
use Rattle.macho_consumed.specs.declared.fault.ConsumedFault.{ConsumedFault}
use Rattle.macho_consumed.specs.declared.fault.ConsumedFault.TheVariants.{BadInitializer, BadUnwind, OutOfMemory}
use Rattle.macho_consumed.specs.steps.Slots.{IsBadSection}
use Rattle.macho_consumed.specs.steps.Entries.{IsBadUnwind}
use Rattle.macho_consumed.specs.steps.Gathered.{all_of, IsListed, IsBadAt, IsBadRuleAt}
use Rattle.macho_consumed.proofs.Members.{all_joined, in_filter}
use Rattle.macho_bytes.proofs.Members.{range_contains}

-- A section of a kind is listed.
pub record IsOne (kind : Kind) (files : List (Option FileBytes)) (s : SectionRef) : Type 0 where
  pub listed : IsListed files s
  pub of_kind : is_of_kind kind (section_at (bytes_in files s.file) s.section) ≡ true

one_of_file : (kind : Kind) (files : List (Option FileBytes)) (i : ℕ) (view : Option FileBytes) → i < length files
    → get_or files i None ≡ view
    → All (IsOne kind files) (refs_of_file kind i view)
unfolding refs_in
one_of_file kind files i None lt is = All-nil (IsOne kind files)
one_of_file kind files i (Some f) lt is =
    let test : ℕ → Bool = λ k. is_of_kind kind (section_at f.bytes k) in
    let numbers = filter test (range_with_len 0 (num_sections f.bytes)) in
    let here : bytes_in files i ≡ f.bytes = ap bytes_viewed is in
    All-map (IsOne kind files) (ref i) numbers
    (All-from_get_or (λ k. IsOne kind files (ref i k)) numbers 0 (λ j below.
    let k : ℕ = get_or numbers j 0 in
    let both = in_filter test (range_with_len 0 (num_sections f.bytes)) k (j, below, get_or_default numbers j k 0 below) in
    record {
      listed = record { file = lt; view = f; is = is; section = range_contains (num_sections f.bytes) k both.1 };
      of_kind = ap (λ (b : List ℕ). is_of_kind kind (section_at b k)) here ∙ both.0;
    }))

pub all_listed : (kind : Kind) (files : List (Option FileBytes)) → All (IsOne kind files) (all_of kind files)
unfolding refs_of
all_listed kind files =
    all_joined (IsOne kind files) (λ i. refs_of_file kind i (get_or files i None)) (range_with_len 0 (length files))
    (λ i c. one_of_file kind files i (get_or files i None) (range_contains (length files) i c) refl)

-- the next one
pub next_listed : (kind : Kind) (files : List (Option FileBytes)) (refs : List SectionRef) (i : ℕ) (s : SectionRef)
    → refs ≡ all_of kind files
    → i < length refs → s ≡ get_or refs i s → IsOne kind files s × Contains (all_of kind files) s
next_listed kind files refs i s are lt is =
    let there : Contains (all_of kind files) s = subst (λ (xs : List SectionRef). Contains xs s) are (i, lt, sym is) in
    (All-contains (IsOne kind files) (all_of kind files) s (all_listed kind files) there, there)

-- what is added for it
pub joined_more : {X Y : Type 0} (f : X → List Y) (xs : List X) (i : ℕ) (x : X) (rows : List Y) → i < length xs → x ≡ get_or xs i x
    → rows ≡ flat_map f (take i xs) → rows ++ f x ≡ flat_map f (take (i + 1) xs)
joined_more {X = X} {Y = Y} f xs i x rows lt is so_far =
    ap (λ (ys : List Y). ys ++ f x) so_far ∙ ap (λ (ys : List Y). flat_map f (take i xs) ++ ys) (sym (append-nil (f x)))
    ∙ sym (flat_map-append f (take i xs) (x ∷ [])) ∙ ap (flat_map f) (sym (take_more xs i x lt
    ∙ ap (λ (y : X). take i xs ++ y ∷ []) (sym is)))

pub all_more : {X : Type 0} (P : X → Type 0) (xs : List X) (i : ℕ) (x : X) → i < length xs → x ≡ get_or xs i x → All P (take i xs)
    → P x → All P (take (i + 1) xs)
all_more {X = X} P xs i x lt is all one = All-more P xs i x lt all (subst P is one)

-- the bytes of its file
pub view_bytes : (files : List (Option FileBytes)) (s : SectionRef) (f : FileBytes) → Some f ≡ get_or files s.file None
    → bytes_in files s.file ≡ f.bytes
view_bytes files s f is = ap bytes_viewed (sym is)

pub view_section : (kind : Kind) (files : List (Option FileBytes)) (s : SectionRef) (f : FileBytes) → IsOne kind files s
    → Some f ≡ get_or files s.file None
    → s.section < num_sections f.bytes
view_section kind files s f one is = same_view one.listed.view f (sym one.listed.is ∙ sym is) one.listed.section
  where
    same_view : (g h : FileBytes) → Some g ≡ Some h → s.section < num_sections g.bytes → s.section < num_sections h.bytes
    same_view g h e lt = let same : g ≡ h = cc in subst (λ (v : FileBytes). s.section < num_sections v.bytes) same lt

pub no_view : (kind : Kind) (files : List (Option FileBytes)) (s : SectionRef) → IsOne kind files s → None ≡ get_or files s.file None → ⊥
no_view kind files s one none = let clash : None ≡ Some one.listed.view = none ∙ one.listed.is in cc

-- the section that a loop is at
abbrev pub at : List SectionRef → ℕ → SectionRef
at refs i = get_or refs i (record { file = 0; section = 0 })

pub is_at : (refs : List SectionRef) (i : ℕ) → i < length refs → at refs i ≡ get_or refs i (at refs i)
is_at refs i lt = get_or_default refs i (record { file = 0; section = 0 }) (at refs i) lt

pub next_at : (kind : Kind) (files : List (Option FileBytes)) (refs : List SectionRef) (i : ℕ) → refs ≡ all_of kind files → i < length refs
    → IsOne kind files (at refs i) × Contains (all_of kind files) (at refs i)
next_at kind files refs i are lt = next_listed kind files refs i (at refs i) are lt (is_at refs i lt)

-- the section that a loop is at: its rows stand behind those so far, and what holds of all so far holds of it, too
pub more_rows : {X : Type 0} (of : List ℕ → SectionRef → List X) (files : List (Option FileBytes)) (refs : List SectionRef) (i : ℕ)
    (f : FileBytes) (rows next : List X) → i < length refs → Some f ≡ get_or files (at refs i).file None
    → rows ≡ flat_map (λ s. of (bytes_in files s.file) s) (take i refs) → next ≡ rows ++ of f.bytes (at refs i)
    → next ≡ flat_map (λ s. of (bytes_in files s.file) s) (take (i + 1) refs)
more_rows of files refs i f rows next lt is so_far added =
    added ∙ ap (λ (b : List ℕ). rows ++ of b (at refs i)) (sym (view_bytes files (at refs i) f is))
    ∙ joined_more (λ s. of (bytes_in files s.file) s) refs i (at refs i) rows lt (is_at refs i lt) so_far

pub more_hold : (P : List ℕ → SectionRef → Type 0) (files : List (Option FileBytes)) (refs : List SectionRef) (i : ℕ) (f : FileBytes)
    → i < length refs → Some f ≡ get_or files (at refs i).file None → All (λ s. P (bytes_in files s.file) s) (take i refs)
    → P f.bytes (at refs i) → All (λ s. P (bytes_in files s.file) s) (take (i + 1) refs)
more_hold P files refs i f lt is so_far holds =
    all_more (λ s. P (bytes_in files s.file) s) refs i (at refs i) lt (is_at refs i lt) so_far
    (subst (λ (b : List ℕ). P b (at refs i)) (sym (view_bytes files (at refs i) f is)) holds)

-- a section that breaks a rule
pub bad_initializers : (r : ResolvedRows) (files : List (Option FileBytes)) (s : SectionRef) (f : FileBytes) (fault : ConsumedFault)
    → Contains (all_of Initializers files) s
    → Some f ≡ get_or files s.file None → IsBadSection r f.bytes s.file s.section fault → IsBadAt r files fault
bad_initializers r files s f (BadInitializer file section offset) there is bad = (
  s,
  there,
  subst (λ (b : List ℕ). IsBadSection r b s.file s.section (BadInitializer file section offset)) (sym
      (view_bytes files s f is)) bad,
)
bad_initializers r files s f (BadUnwind file section e rule) there is bad = bad
bad_initializers r files s f OutOfMemory there is bad = tt

pub bad_entries : (r : ResolvedRows) (files : List (Option FileBytes)) (s : SectionRef) (f : FileBytes) (fault : ConsumedFault)
    → Contains (all_of Entries files) s
    → Some f ≡ get_or files s.file None → IsBadUnwind r f.bytes s.file s.section fault → IsBadRuleAt r files fault
bad_entries r files s f (BadInitializer file section offset) there is bad = bad
bad_entries r files s f (BadUnwind file section e rule) there is bad = (
  s,
  there,
  subst (λ (b : List ℕ). IsBadUnwind r b s.file s.section (BadUnwind file section e rule)) (sym
      (view_bytes files s f is)) bad,
)
bad_entries r files s f OutOfMemory there is bad = tt
