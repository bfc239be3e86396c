-- What is told with its numbers cut is what is told, where the image says what its placement does.
--
-- A reading of the file finds segments, section headers, the entry and the tables as they were cut; and the image's promise says that
-- it finds them as they are placed. So cutting has changed none of them. An entry's address is the one where the image begins, since
-- what moves with the image has one place; what doesn't move is not at such a distance from the base at two slides.
use Rattle.std.proofs.Common.{◌≡◌, ℕ, ◌+◌, ◌-◌, ◌%◌, ◌^◌, Bool, true, false, List, [], ◌∷◌, map, get_or, drop, refl, sym, ap, ◌∙◌, arith}
use Rattle.std.specs.Prelude.{filter, Option, Some, None}
use Rattle.std.specs.FinMap.{empty, get-empty}
use Rattle.std.specs.Str.{bytes_eq}
use Rattle.macho_bytes.specs.Texts.{name_of}
use Rattle.macho_records.specs.Segments.{text_of}
use Rattle.macho_records.specs.declared.header.SectionHeader.{SectionHeader}
use Rattle.macho_model.specs.declared.placed.PlacedSegment.{PlacedSegment}
use Rattle.macho_model.specs.declared.placed.Range64.{Range64}
use Rattle.macho_model.specs.declared.targets.Target.{Target}
use Rattle.macho_model.specs.declared.targets.Target.TheVariants as target
use Rattle.macho_model.specs.Links.{Link}
use Rattle.macho_model.specs.Needs.{imports_of, import_library}
use Rattle.macho_model.specs.Targets.{target_of_name}
use Rattle.macho_model.specs.Segments.{list_if}
use Rattle.macho_model.specs.Placement.{Placed}
use Rattle.macho_model.specs.Addresses.{address_of}
use Rattle.macho_model.specs.Images.{Table, base_of, entries_of_file}
use Rattle.macho_model.specs.Memory.{Choice, pair_cmp}
use Rattle.macho_model.specs.Stands.{IsAt}
use Rattle.macho_model.specs.Agreement.{table_of_range, EntryAgrees}
use Rattle.macho_model.specs.Head.{range_size}
use Rattle.macho_model.specs.HeadCommands.{HeadCommand, segment_for, entry_point_for, linkedit_for}
use Rattle.macho_placed_laws.specs.Targets.{ListsAll}
use Rattle.macho_placed_laws.proofs.Places.{places_are_one}
use Rattle.macho_head_laws.proofs.Cut.{segment_cut, header_cut, range_cut, placed_cut, entry_distance}
use Rattle.macho_head_laws.proofs.Alike.{segment_with}
use Rattle.macho_model.specs.steps.Agreement.{SegmentPlace, place_told}

-- a segment
segment_kept : (s : PlacedSegment) → place_told (segment_cut s) ≡ place_told s → segment_cut s ≡ s
segment_kept s e =
    let address : s.address % 2 ^ 64 ≡ s.address = ap (λ (q : SegmentPlace). q.1) e in
    let size : s.size % 2 ^ 64 ≡ s.size = ap (λ (q : SegmentPlace). q.2) e in
    let offset : s.file_offset % 2 ^ 64 ≡ s.file_offset = ap (λ (q : SegmentPlace). q.3) e in
    let bytes : s.file_size % 2 ^ 64 ≡ s.file_size = ap (λ (q : SegmentPlace). q.4) e in
    rw (address, size, offset, bytes) refl

pub segments_kept : (ss : List PlacedSegment) → map place_told (map segment_cut ss) ≡ map place_told ss → map segment_cut ss ≡ ss
segments_kept [] e = refl
segments_kept (s ∷ ss) e =
    let first : segment_cut s ≡ s = segment_kept s (ap (λ (ps : List SegmentPlace). get_or ps 0 (place_told s)) e) in
    let rest : map segment_cut ss ≡ ss = segments_kept ss (ap (λ (ps : List SegmentPlace). drop 1 ps) e) in
    ap (λ (t : PlacedSegment). t ∷ map segment_cut ss) first ∙ ap (λ (ts : List PlacedSegment). s ∷ ts) rest

-- the commands of segments
told : List SectionHeader → List PlacedSegment → List HeadCommand
told hs ss = map (λ s. segment_with s (filter (λ h. bytes_eq (name_of h.segname) (text_of s.name)) hs)) ss

pub segments_same : (l : Link) (p : Placed) → map segment_cut p.segments ≡ p.segments → map header_cut p.output_sections ≡ p.output_sections
    → map (segment_for (placed_cut l p)) (placed_cut l p).segments ≡ map (segment_for p) p.segments
unfolding told
segments_same l p segments headers =
    ap (λ (hs : List SectionHeader). told hs (map segment_cut p.segments)) headers ∙ ap (told p.output_sections) segments

-- how far from the base an image begins
far : (l : Link) (p : Placed) (t : Target) (base offset : ℕ) → ListsAll l p → base ≡ p.base
    → ((s : ℕ) (choice : Choice) → IsAt l p s choice t (base + offset + s)) → address_of p t - p.base ≡ offset
far l p (target.Section file section offset) base distance lists same at =
    let t : Target = target.Section file section offset in
    omega (arith, places_are_one l p 0 empty t (base + distance + 0) lists refl (at 0 empty), same)
far l p (target.Common id) base distance lists same at =
    omega (arith, places_are_one l p 0 empty (target.Common id) (base + distance + 0) lists refl (at 0 empty), same)
far l p (target.Import id) base distance lists same at =
    let none : Option ℕ = None in
    let nothing : none ≡ Some (base + distance + 0) =
    sym (get-empty pair_cmp (import_library l (get_or (imports_of l) id []), get_or (imports_of l) id [])) ∙ at 0 empty in
    cc
far l p target.Base base distance lists same at = omega (arith, at 0 empty, same)
far l p (target.Absolute value) base distance lists same at = absurd (omega (arith, at 0 empty, at 1 empty))
far l p target.None base distance lists same at = absurd (at 0 empty)

-- THE entry
pub entry_same : (l : Link) (b : List ℕ) (p : Placed) → ListsAll l p → base_of b ≡ p.base → EntryAgrees l b p
    → entries_of_file b ≡ list_if l.executable (entry_distance l (placed_cut l p) ∷ [])
    → list_if l.executable (entry_point_for l (placed_cut l p) ∷ []) ≡ list_if l.executable (entry_point_for l p ∷ [])
entry_same l b p lists base agree read = by l.executable refl
  where
    distance : l.executable ≡ true → entry_distance l (placed_cut l p) ≡ entry_distance l p
    distance e =
        let begins = agree.executable e in
        let one : entry_distance l (placed_cut l p) ∷ [] ≡ begins.0 ∷ [] =
        ap (λ (x : Bool). list_if x (entry_distance l (placed_cut l p) ∷ [])) (sym e) ∙ sym read ∙ begins.1 in
        ap (λ (ns : List ℕ). get_or ns 0 0) one ∙ sym (far l p (target_of_name l l.entry) (base_of b) begins.0 lists base begins.2)

    by : (x : Bool) → l.executable ≡ x
        → list_if x (entry_point_for l (placed_cut l p) ∷ []) ≡ list_if x (entry_point_for l p ∷ [])
    by true e = rw (distance e) refl
    by false e = refl

-- the tables
range_kept : (r : Range64) (t : List Table) → t ≡ table_of_range (range_cut r) ∷ [] → t ≡ table_of_range r ∷ []
    → table_of_range (range_cut r) ≡ table_of_range r
range_kept r t cut is = ap (λ (ts : List Table). get_or ts 0 (table_of_range r)) (sym cut ∙ is)

pub range_same : (number : ℕ) (r : Range64) (t : List Table) → t ≡ table_of_range (range_cut r) ∷ [] → t ≡ table_of_range r ∷ []
    → linkedit_for number (range_cut r).start (range_size (range_cut r)) ≡ linkedit_for number r.start (range_size r)
range_same number r t cut is = ap (λ (x : Table). linkedit_for number x.at x.size) (range_kept r t cut is)

-- one table is at the place of the other, and as long
pub at_same : (a b m n : ℕ) (t : List Table) → t ≡ record { at = a; size = m } ∷ []
    → t ≡ record { at = b; size = n } ∷ [] → (a ≡ b) × (m ≡ n)
at_same a b m n t one two =
    let same = ap (λ (ts : List Table). get_or ts 0 (record { at = b; size = n })) (sym one ∙ two) in
    (ap (λ (x : Table). x.at) same, ap (λ (x : Table). x.size) same)
