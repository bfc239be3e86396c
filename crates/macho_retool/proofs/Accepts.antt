-- The loader accepts a changed image, rule by rule.
--
-- Header and length are as they were, but for the bytes of the load commands, which still end inside the file (L1, L2). Each command is the
-- old one, moved, or the new one, which has its record. Segments are the same (L3 to L6), and `__TEXT` holds the new commands, since the
-- room ends no later (L7). Fixup table, imports and chains are the same (L8 to L10).
use Rattle.std.proofs.Common.{◌≡◌, ℕ, ◌+◌, ◌*◌, ◌-◌, ◌^◌, ◌%◌, ◌<◌, ◌≤◌, ◌⊎◌, ◌==◌, nat_lt, nat_le, ◌&&◌, Bool, true, false, if◌then◌else◌, List, [], ◌∷◌, length, map, drop, refl, sym, ap, subst, ◌∙◌, arith, inl, inr, All}
use Rattle.std.specs.Prelude.{Contains}
use Rattle.std.proofs.lemmas.Bool.{le-leb, le-ltb, lt-ltb}
use Rattle.macho_bytes.specs.Layouts.{size_of}
use Rattle.macho_bytes.proofs.Bools.{and_left, and_both, is_equal, equal_is, true_or_false}
use Rattle.macho_bytes.proofs.Members.{contains_all, all_contains, map_contains, contains_cases, nil_contains, contains_first}
use Rattle.macho_bytes.proofs.Reading.{little_is_local}
use Rattle.macho_records.specs.Layouts.{mach_header}
use Rattle.macho_records.specs.ChainedFixupsHeader.{ChainedFixupsHeader}
use Rattle.macho_records.specs.Spellings.{segment_command_rows}
use Rattle.macho_records.specs.declared.header.SegmentCommand.{SegmentCommand}
use Rattle.macho_records.specs.declared.constants.TheConstants.{LC_SEGMENT_64}
use Rattle.macho_model.specs.Commands.{Command, commands_of, commands_end, header_of, segment_size, command_fits}
use Rattle.macho_model.specs.ObjectRules.{has_nul}
use Rattle.macho_model.specs.Images.{Table, segments_of, segments_named, tables_of, libraries_of, base_of, fixups_header, import_entry, ImportEntry, table_names}
use Rattle.macho_model.specs.Segments.{TEXT, SEGMENT_PAGE}
use Rattle.macho_model.specs.Lists.{IsNumber, EachNext, of_first}
use Rattle.macho_model.specs.Chain.{chain_segment, chain_segments, starts_in_tables, IsFileWord, OnPageChain}
use Rattle.macho_model.specs.LoadRules.{needed_in_image, protections_fit, table_fits, import_fits}
use Rattle.macho_model.specs.Loader.{IsAccepted, WordFits, ordinal_of}
use Rattle.macho_retool.specs.declared.change.Change.{Change}
use Rattle.macho_retool.specs.declared.change.Change.TheVariants.{Id, Library, Rpath}
use Rattle.macho_retool.specs.Changes.{command_number, record_size, new_size, new_end, moved}
use Rattle.macho_retool.specs.steps.Spliced.{IsReady, IsSpliced}
use Rattle.macho_retool.proofs.Agree.{agree_part, reading-agrees}
use Rattle.macho_retool.proofs.Rooms.{ends_inside}
use Rattle.macho_retool.proofs.Moved.{commands_apart}
use Rattle.macho_retool.proofs.Known.{Known, known, needed_is}
use Rattle.macho_retool.proofs.Same.{header_is, end_is, commands_move, same_place, others_agree, segment_needs, segments_same, tables_same, libraries_long, named_same}
use Rattle.macho_retool.proofs.TablesSame.{table_still_fits, header_same, entry_same, names_same}
use Rattle.macho_retool.proofs.Chains.{table_known, held_fit, word_back, chain_segments_same, starts_in_same, page_back}

-- a command that isn't the named one needs as much as before
needs_same : (change : Change) (b x : List ℕ) (c : Command) (t : Table) (y : Command) → IsReady change b c t → IsSpliced change b x c t
    → Contains (commands_of b) y → (y.at ≡ c.at → ⊥) → needed_in_image x (moved change c y) ≡ needed_in_image b y
needs_same change b x c t y ready splice there other =
    if_same (y.number == LC_SEGMENT_64) (segment_size x (moved change c y).at) (segment_size b y.at) _ sizes
  where
    if_same : (v : Bool) (m n r : ℕ) → (v ≡ true → m ≡ n) → (if v then m else r) ≡ (if v then n else r)
    if_same true m n r same = same refl
    if_same false m n r same = refl

    sizes : (y.number == LC_SEGMENT_64) ≡ true → segment_size x (moved change c y).at ≡ segment_size b y.at
    sizes kind =
        let e = ends_inside b y ready.accepted there in
        let need = segment_needs b y (is_equal y.number LC_SEGMENT_64 kind) in
        let h = e.1 in
        let all = others_agree change b x c t y ready splice there other in
        ap (λ (s : SegmentCommand). 72 + 80 * s.nsects)
        (reading-agrees segment_command_rows little_is_local x b (moved change c y).at y.at
        (agree_part y.size 72 0 x b (moved change c y).at y.at (moved change c y).at y.at all (omega (arith, h, need)) (omega arith)
        (omega arith)))

-- two commands of the list, one of them the named one
commands_apart_of : (change : Change) (b : List ℕ) (c : Command) (t : Table) (y : Command) → IsReady change b c t
    → Contains (commands_of b) y → (y.at ≡ c.at → ⊥) → (y.at + y.size ≤ c.at) ⊎ (c.at + c.size ≤ y.at)
unfolding commands_of
commands_apart_of change b c t y ready there other =
    let k = known change b c t ready in
    elim (commands_apart b (header_of b).ncmds (size_of mach_header) y c there k.there) [
      | inl same ↦ absurd (other same)
      | inr apart ↦ apart
    ]

-- where another command ends afterwards
moved_ends : (change : Change) (b : List ℕ) (c y : Command) → (y.at + y.size ≤ c.at) ⊎ (c.at + c.size ≤ y.at) → 8 ≤ y.size → 8 ≤ c.size
    → c.at + c.size ≤ commands_end b → y.at + y.size ≤ commands_end b → (moved change c y).at + y.size ≤ new_end change b c
moved_ends change b c y apart some_y some inside ends =
    elim apart [
      | inl before ↦
          let le : nat_lt c.at y.at ≡ false = le-ltb c.at y.at (omega (arith, before)) in
          let place : (moved change c y).at ≡ y.at = rw le refl in
          omega (arith, place, before, inside)
      | inr behind ↦
          let lt : nat_lt c.at y.at ≡ true = lt-ltb c.at y.at (omega (arith, behind, some)) in
          let place : (moved change c y).at ≡ y.at + new_size change - c.size = rw lt refl in
          omega (arith, place, behind, ends, inside)
    ]

-- L2, of each command
fits_moved : (change : Change) (b x : List ℕ) (c : Command) (t : Table) (y : Command) → IsReady change b c t → IsSpliced change b x c t
    → Contains (commands_of b) y → command_fits (needed_in_image x) x (moved change c y) ≡ true
fits_moved change b x c t y ready splice there =
    let k = known change b c t ready in
    let end = end_is change b x c t ready splice in
    let e = ends_inside b y ready.accepted there in
    let e0 = e.0 in
    let e1 = e.1 in
    let e2 = e.2 in
    let inside = k.inside in
    let sized = k.sized in
    let head = k.head in
    elim (y.at == c.at) as (λ v. (y.at == c.at) ≡ v → command_fits (needed_in_image x) x (moved change c y) ≡ true) [
      | true ↦ λ same.
          let at : y.at ≡ c.at = is_equal y.at c.at same in
          let le : nat_lt c.at y.at ≡ false = le-ltb c.at y.at (omega (arith, at)) in
          let size : (moved change c y).size ≡ new_size change = rw same refl in
          let place : (moved change c y).at ≡ c.at = rw le at in
          let kind : y.number ≡ command_number change = ap (λ (z : Command). z.number) (same_place b y c there k.there at) ∙ k.kind in
          let need : needed_in_image x (moved change c y) ≡ record_size change = needed_is change x (moved change c y) kind in
          and_both _ _ (and_both _ _ (le-leb 8 (moved change c y).size (omega (arith, size, sized, record_least change)))
          (le-leb ((moved change c y).at + (moved change c y).size) (commands_end x) (omega (arith, size, place, end, inside))))
          (le-leb (needed_in_image x (moved change c y)) (moved change c y).size (omega (arith, need, size, sized)))
      | false ↦ λ differ.
          let other : y.at ≡ c.at → ⊥ = λ at. true_or_false (y.at == c.at) (equal_is y.at c.at at) differ in
          let size : (moved change c y).size ≡ y.size = rw differ refl in
          let need = needs_same change b x c t y ready splice there other in
          let place = moved_ends change b c y (commands_apart_of change b c t y ready there other) e2 head inside e0 in
          and_both _ _ (and_both _ _ (le-leb 8 (moved change c y).size (omega (arith, size, e2)))
          (le-leb ((moved change c y).at + (moved change c y).size) (commands_end x) (omega (arith, size, place, end))))
          (le-leb (needed_in_image x (moved change c y)) (moved change c y).size (omega (arith, need, size, e1)))
    ] refl
  where
    record_least : (change : Change) → 12 ≤ record_size change
    record_least (Id name) = omega arith
    record_least (Library number name) = omega arith
    record_least (Rpath number name) = omega arith

-- L7: `__TEXT` holds the new commands
text_still_holds : (b : List ℕ) (end : ℕ) (ss : List SegmentCommand) → length ss ≡ 1
    → All (λ s. ((s.fileoff == 0) && nat_le (commands_end b) s.filesize) ≡ true) ss
    → end ≤ of_first 0 (λ (s : SegmentCommand). s.fileoff + s.filesize) ss
    → All (λ s. ((s.fileoff == 0) && nat_le end s.filesize) ≡ true) ss
text_still_holds b end [] one each fits = absurd (omega (arith, one))
text_still_holds b end (s ∷ []) one each fits =
    contains_all (λ z. ((z.fileoff == 0) && nat_le end z.filesize) ≡ true) (s ∷ []) (λ z there. only z there)
  where
    first : (s.fileoff == 0) ≡ true
    first = and_left _ _ (each 0 s (omega arith))

    only : (z : SegmentCommand) → Contains (s ∷ []) z → ((z.fileoff == 0) && nat_le end z.filesize) ≡ true
    only z there =
        elim (contains_cases s [] z there) [
          | inl here ↦ subst (λ y. ((y.fileoff == 0) && nat_le end y.filesize) ≡ true) here
              (and_both (s.fileoff == 0) (nat_le end s.filesize) first
              (le-leb end s.filesize (let none = is_equal s.fileoff 0 first in omega (arith, none, fits))))
          | inr none ↦ absurd (nil_contains z none)
        ]
text_still_holds b end (s ∷ r ∷ ss) one each fits = absurd (omega (arith, one))

-- the address of the first byte
pub base_same : (change : Change) (b x : List ℕ) (c : Command) (t : Table) → IsReady change b c t → IsSpliced change b x c t
    → new_size change < 2 ^ 32 → base_of x ≡ base_of b
unfolding base_of
base_same change b x c t ready splice small =
    ap (λ (ss : List SegmentCommand). of_first 0 (λ (s : SegmentCommand). s.vmaddr) ss) (named_same change b x c t TEXT ready splice small)

-- a segment with its page starts
chain_segment_same : (change : Change) (b x : List ℕ) (c : Command) (t : Table) (k : ℕ) (s : SegmentCommand) → IsReady change b c t
    → IsSpliced change b x c t → new_size change < 2 ^ 32 → chain_segment x (k, s) ≡ chain_segment b (k, s)
chain_segment_same change b x c t k s ready splice small =
    ap (λ (starts : List ℕ). record { address = s.vmaddr; file_offset = s.fileoff; file_size = s.filesize; starts = starts })
    (ap (λ us. starts_in_tables x us k) (tables_same change b x c t ready splice small)
    ∙ starts_in_same b x k (tables_of b) (λ u there. table_known change b x c t u ready splice there))

-- an import that is there is there
import_still : (b x : List ℕ) (word : ℕ) (us vs : List Table) → vs ≡ us
    → ((u : Table) → Contains us u → fixups_header x u ≡ fixups_header b u)
    → ordinal_of word < of_first 0 (λ u. (fixups_header b u).imports_count) us
    → ordinal_of word < of_first 0 (λ u. (fixups_header x u).imports_count) vs
import_still b x word [] vs is each lt = subst (λ ws. ordinal_of word < of_first 0 (λ u. (fixups_header x u).imports_count) ws) (sym is) lt
import_still b x word (u ∷ us) vs is each lt =
    subst (λ ws. ordinal_of word < of_first 0 (λ v. (fixups_header x v).imports_count) ws) (sym is)
    (subst (λ (h : ChainedFixupsHeader). ordinal_of word < h.imports_count) (sym (each u (contains_first u us))) lt)

-- an import that fits fits
import_still_fits : (b x : List ℕ) (u : Table) (n : ℕ) → import_entry x u n ≡ import_entry b u n
    → length (libraries_of x) ≡ length (libraries_of b) → table_names x u ≡ table_names b u → import_fits b u n ≡ true
    → import_fits x u n ≡ true
import_still_fits b x u n entry libraries names fits =
    let Fits : ImportEntry → ℕ → List ℕ → Type 0 =
    λ e m ns. (nat_le 1 e.library && nat_le e.library m && has_nul (drop e.name_offset ns)) ≡ true in
    subst (λ e. Fits e (length (libraries_of x)) (table_names x u)) (sym entry)
    (subst (λ m. Fits (import_entry b u n) m (table_names x u)) (sym libraries)
    (subst (λ ns. Fits (import_entry b u n) (length (libraries_of b)) ns) (sym names) fits))

-- THE loader accepts it
pub still_accepted : (change : Change) (b x : List ℕ) (c : Command) (t : Table) → IsReady change b c t → IsSpliced change b x c t
    → new_size change < 2 ^ 32 → IsAccepted x
still_accepted change b x c t ready splice small =
    record {
      l1 = rw (splice.long, header_is change b x c t ready splice) a.l1;
      l2 = (
        le-leb (commands_end x) (length x) (omega (arith, end, splice.long, k.new_text, k.limit, k.file)),
        subst (λ cs. All (λ d. command_fits (needed_in_image x) x d ≡ true) cs) (sym (commands_move change b x c t ready splice small))
            (contains_all (λ d. command_fits (needed_in_image x) x d ≡ true) (map (moved change c) (commands_of b))
            (λ d there. let one = map_contains (moved change c) (commands_of b) d there in
            subst (λ e. command_fits (needed_in_image x) x e ≡ true) one.2 (fits_moved change b x c t one.0 ready splice one.1))),
      );
      l3 = subst (λ ss. All (λ s. protections_fit s ≡ true) ss) (sym same) a.l3;
      l4 = subst (λ n. All (λ s. (nat_le (s.fileoff + s.filesize) n && nat_le s.filesize s.vmsize) ≡ true) (segments_of x))
          (sym splice.long)
          (subst (λ ss. All (λ s. (nat_le (s.fileoff + s.filesize) (length b) && nat_le s.filesize s.vmsize) ≡ true) ss) (sym same) a.l4);
      l5 = subst
          (λ ss. All (λ s. ((s.vmaddr % SEGMENT_PAGE == 0) && (s.vmsize % SEGMENT_PAGE == 0) && (s.fileoff % SEGMENT_PAGE == 0)) ≡ true) ss)
          (sym same) a.l5;
      l6 = (
        subst (λ ss. All (λ s. nat_le (s.vmaddr + s.vmsize) (2 ^ 64) ≡ true) ss) (sym same) a.l6.0,
        subst (λ ss. EachNext (λ s r. nat_le (s.vmaddr + s.vmsize) r.vmaddr ≡ true) ss) (sym same) a.l6.1,
      );
      l7 = (
        ap (λ (ss : List SegmentCommand). length ss) texts ∙ a.l7.0,
        subst (λ ss. All (λ s. ((s.fileoff == 0) && nat_le (commands_end x) s.filesize) ≡ true) ss) (sym texts)
            (text_still_holds b (commands_end x) (segments_named TEXT b) a.l7.0 a.l7.1 (omega (arith, end, k.new_text))),
      );
      l8 = (
        subst (λ us. length us ≤ 1) (sym tables) a.l8.0,
        subst (λ us. All (λ u. table_fits x u ≡ true) us) (sym tables)
            (contains_all (λ u. table_fits x u ≡ true) (tables_of b) (λ u there.
            let both = table_known change b x c t u ready splice there in
            table_still_fits b x u both.0 both.1 splice.long same base
            (all_contains (λ v. table_fits b v ≡ true) (tables_of b) u a.l8.1 there))),
      );
      l9 = λ u n there lt.
          let in_b = subst (λ us. Contains us u) tables there in
          let both = table_known change b x c t u ready splice in_b in
          let count : n < (fixups_header b u).imports_count = subst (λ h. n < h.imports_count) (header_same b x u both.0 both.1) lt in
          import_still_fits b x u n (entry_same b x u n both.0 both.1 count) (libraries_long change b x c t ready splice small)
          (names_same b x u both.0 both.1) (a.l9 u n in_b count);
      l10 = λ number s page y is on. words number s page y is on;
    }
  where
    a : IsAccepted b
    a = ready.accepted

    k : Known change b c t
    k = known change b c t ready

    end : commands_end x ≡ new_end change b c
    end = end_is change b x c t ready splice

    same : segments_of x ≡ segments_of b
    same = segments_same change b x c t ready splice small

    texts : segments_named TEXT x ≡ segments_named TEXT b
    texts = named_same change b x c t TEXT ready splice small

    tables : tables_of x ≡ tables_of b
    tables = tables_same change b x c t ready splice small

    base : base_of x ≡ base_of b
    base = base_same change b x c t ready splice small

    words : (number : ℕ) (s : SegmentCommand) (page y : ℕ) → IsNumber (segments_of x) number s
        → OnPageChain (chain_segments x) x (chain_segment x (number, s)) page y → WordFits x s page y
    words number s page y is on =
        let is_b : IsNumber (segments_of b) number s = subst (λ ss. IsNumber ss number s) same is in
        let there : Contains (segments_of b) s = (number, is_b.0, is_b.1) in
        let seen = chain_segments_same change b x c t ready splice small in
        let one : chain_segment x (number, s) ≡ chain_segment b (number, s) =
        chain_segment_same change b x c t number s ready splice small in
        let on_x = subst (λ z. OnPageChain (chain_segments b) x z page y) one
        (subst (λ zs. OnPageChain zs x (chain_segment x (number, s)) page y) seen on) in
        let held = λ (q : ℕ) (on_q : OnPageChain (chain_segments b) b (chain_segment b (number, s)) page q).
        held_fit b s page q there (a.l10 number s page q is_b on_q) in
        let on_b = page_back change b x c t (chain_segment b (number, s)) page y ready splice held on_x in
        let fits = a.l10 number s page y is_b on_b in
        record {
          writable = fits.writable;
          page_from = fits.page_from;
          page_to = fits.page_to;
          to = fits.to;
          import = λ word stands binds.
              let stands_b = word_back change b x c t y word ready splice (held y on_b) (subst
              (λ zs. IsFileWord zs x y word) seen stands) in
              import_still b x word (tables_of b) (tables_of x) tables
              (λ u in_b. let both = table_known change b x c t u ready splice in_b in header_same b x u both.0 both.1)
              (fits.import word stands_b binds);
        }
