-- What the loader reads of a changed image beside its fixups: the header, the load commands, segments and tables.
--
-- The header has its bytes but for one number. The load commands are the old ones, moved (`Moved`), and each but the named one has its own
-- bytes, so what a record of one says is what it said. The named one is none of those whose records the loader reads.
use Rattle.std.proofs.Common.{◌≡◌, ℕ, ◌+◌, ◌-◌, ◌^◌, ◌<◌, ◌≤◌, ◌==◌, nat_lt, true, false, List, length, get_or, map, refl, sym, ap, subst, ◌∙◌, arith, inl, inr}
use Rattle.std.specs.Prelude.{Contains, filter}
use Rattle.std.proofs.lemmas.Bool.{lt-ltb, le-ltb}
use Rattle.std.proofs.lemmas.List.{length-map}
use Rattle.macho_bytes.specs.Numbers.{le_at}
use Rattle.macho_bytes.specs.Layouts.{reading, size_of}
use Rattle.macho_bytes.specs.Spellings.{Spelled}
use Rattle.macho_bytes.proofs.Bools.{is_equal}
use Rattle.macho_bytes.proofs.Maps.{map_map, map_agree, filter-map}
use Rattle.macho_bytes.proofs.Members.{contains_all, filter_contains}
use Rattle.macho_bytes.proofs.Reading.{IsLocal, little_is_local}
use Rattle.macho_records.specs.Layouts.{mach_header}
use Rattle.macho_records.specs.Spellings.{segment_command_rows}
use Rattle.macho_records.specs.CommandSpellings.{linkedit_data_command_rows}
use Rattle.macho_records.specs.declared.header.SegmentCommand.{SegmentCommand}
use Rattle.macho_records.specs.declared.header.MachHeader.{MachHeader}
use Rattle.macho_records.specs.LinkeditDataCommand.{LinkeditDataCommand}
use Rattle.macho_records.specs.declared.constants.TheConstants.{LC_DYLD_CHAINED_FIXUPS, LC_LOAD_DYLIB, LC_SEGMENT_64}
use Rattle.macho_model.specs.Commands.{Command, command_at, commands_from, commands_of, commands_end, numbered, header_of, segment_size}
use Rattle.macho_model.specs.Images.{Table, segments_of, segments_named, is_named, tables_of, libraries_of}
use Rattle.macho_model.specs.LoadRules.{needed_in_image}
use Rattle.macho_retool.specs.declared.change.Change.{Change}
use Rattle.macho_retool.specs.declared.change.Change.TheVariants.{Id, Library, Rpath}
use Rattle.macho_retool.specs.Changes.{command_number, new_size, new_end, moved}
use Rattle.macho_retool.specs.Retooled.{both_end, header_with}
use Rattle.macho_retool.specs.steps.Spliced.{IsReady, IsSpliced}
use Rattle.macho_retool.proofs.Agree.{Agree, agree_part, reading-agrees}
use Rattle.macho_retool.proofs.Found.{stands_there}
use Rattle.macho_retool.proofs.Rooms.{ends_inside, commands_inside}
use Rattle.macho_retool.proofs.Moved.{from_front, commands_apart, place_from}
use Rattle.macho_retool.proofs.Known.{known}

-- a number of the header
number_kept : (x b : List ℕ) (o : ℕ) → ((k : ℕ) → k < 4 → get_or x (o + k) 0 ≡ get_or b (o + k) 0) → le_at 4 x o ≡ le_at 4 b o
number_kept x b o same = little_is_local.alike 4 x b o o same

-- THE header
pub header_is : (change : Change) (b x : List ℕ) (c : Command) (t : Table) → IsReady change b c t → IsSpliced change b x c t
    → header_of x ≡ header_with (new_end change b c - 32) (header_of b)
unfolding header_of reading
header_is change b x c t ready splice =
    let k = known change b c t ready in
    let from = k.from in
    let low = splice.low in
    let n0 = number_kept x b 0 (λ i lt. low (0 + i) (omega (arith, lt))) in
    let n4 = number_kept x b 4 (λ i lt. low (4 + i) (omega (arith, lt))) in
    let n8 = number_kept x b 8 (λ i lt. low (8 + i) (omega (arith, lt))) in
    let n12 = number_kept x b 12 (λ i lt. low (12 + i) (omega (arith, lt))) in
    let n16 = number_kept x b 16 (λ i lt. low (16 + i) (omega (arith, lt))) in
    let n24 = number_kept x b 24 (λ i lt. splice.head (24 + i) (omega arith) (omega (arith, lt, from))) in
    let n28 = number_kept x b 28 (λ i lt. splice.head (28 + i) (omega arith) (omega (arith, lt, from))) in
    rw (n0, n4, n8, n12, n16, splice.size, n24, n28) refl

pub end_is : (change : Change) (b x : List ℕ) (c : Command) (t : Table) → IsReady change b c t → IsSpliced change b x c t
    → commands_end x ≡ new_end change b c
unfolding commands_end
end_is change b x c t ready splice =
    let k = known change b c t ready in
    let from = k.from in
    let inside = k.inside in
    let size = ap (λ (h : MachHeader). 32 + h.sizeofcmds) (header_is change b x c t ready splice) in
    omega (arith, size, from, inside)

-- THE load commands
pub commands_move : (change : Change) (b x : List ℕ) (c : Command) (t : Table) → IsReady change b c t → IsSpliced change b x c t
    → new_size change < 2 ^ 32 → commands_of x ≡ map (moved change c) (commands_of b)
unfolding commands_of
commands_move change b x c t ready splice small =
    let k = known change b c t ready in
    let new_text = k.new_text in
    let limit = k.limit in
    let file = k.file in
    ap (λ (h : MachHeader). commands_from x 32 h.ncmds) (header_is change b x c t ready splice)
    ∙ from_front change b x c t (header_of b).ncmds 32 splice k.head (omega arith) (commands_inside b ready.accepted)
    (omega (arith, new_text, limit, file)) small k.kind
    (λ y there. let e = ends_inside b y ready.accepted there in (e.2, e.0)) k.there

pub numbered_move : (change : Change) (b x : List ℕ) (c : Command) (t : Table) (n : ℕ) → IsReady change b c t → IsSpliced change b x c t
    → new_size change < 2 ^ 32 → numbered n x ≡ map (moved change c) (numbered n b)
numbered_move change b x c t n ready splice small =
    ap (λ cs. filter (λ d. d.number == n) cs) (commands_move change b x c t ready splice small)
    ∙ filter-map (λ d. d.number == n) (moved change c) (commands_of b)

-- two commands at one place are one
pub same_place : (b : List ℕ) (y c : Command) → Contains (commands_of b) y → Contains (commands_of b) c → y.at ≡ c.at → y ≡ c
same_place b y c in_y in_c at = sym (stands_there b y in_y) ∙ ap (command_at b) at ∙ stands_there b c in_c

-- a command that isn't the named one has its bytes
pub others_agree : (change : Change) (b x : List ℕ) (c : Command) (t : Table) (y : Command) → IsReady change b c t
    → IsSpliced change b x c t → Contains (commands_of b) y → (y.at ≡ c.at → ⊥) → Agree y.size x b (moved change c y).at y.at
unfolding commands_of
others_agree change b x c t y ready splice there other =
    let k = known change b c t ready in
    let head = k.head in
    let new_text = k.new_text in
    let limit = k.limit in
    let file = k.file in
    let long = splice.long in
    let ends = ends_inside b y ready.accepted there in
    let e0 = ends.0 in
    let e2 = ends.2 in
    let inside = commands_inside b ready.accepted in
    let front = place_from b (header_of b).ncmds (size_of mach_header) y there in
    elim (commands_apart b (header_of b).ncmds (size_of mach_header) y c there k.there) [
      | inl same ↦ absurd (other same)
      | inr apart ↦ elim apart [
        | inl before ↦
            let le : nat_lt c.at y.at ≡ false = le-ltb c.at y.at (omega (arith, before, e2)) in
            let at : (moved change c y).at ≡ y.at = rw le refl in
            subst (λ p. Agree y.size x b p y.at) (sym at)
            (record {
              first = omega (arith, e0, inside, long);
              second = omega (arith, e0, inside);
              same = λ i lt. splice.head (y.at + i) (omega (arith, front)) (omega (arith, lt, before));
            })
        | inr behind ↦
            let lt : nat_lt c.at y.at ≡ true = lt-ltb c.at y.at (omega (arith, behind, head)) in
            let at : (moved change c y).at ≡ y.at + new_size change - c.size = rw lt refl in
            subst (λ p. Agree y.size x b p y.at) (sym at)
            (record {
              first = omega (arith, e0, behind, new_text, limit, file, long);
              second = omega (arith, e0, inside);
              same = λ i l. ap (λ (m : ℕ). get_or x m 0) (omega (arith, behind))
                  ∙ splice.tail (y.at + i) (omega (arith, behind)) (omega (arith, l, e0));
            })
      ]
    ]

-- what records of the other numbers say
pub readings_same : {R Y : Type 0} (s : Spelled R) (g : R → Y) (change : Change) (b x : List ℕ) (c : Command) (t : Table) (n : ℕ)
    → IsLocal s.layout.order → IsReady change b c t → IsSpliced change b x c t → new_size change < 2 ^ 32
    → (n ≡ command_number change → ⊥) → ((y : Command) → Contains (commands_of b) y → y.number ≡ n → size_of s.layout ≤ y.size)
    → map (λ d. g (reading s.layout x d.at)) (numbered n x) ≡ map (λ d. g (reading s.layout b d.at)) (numbered n b)
readings_same {R = R} s g change b x c t n local ready splice small other holds =
    ap (λ cs. map (λ d. g (reading s.layout x d.at)) cs) (numbered_move change b x c t n ready splice small)
    ∙ map_map (λ (d : Command). g (reading s.layout x d.at)) (moved change c) (numbered n b)
    ∙ map_agree (λ (d : Command). g (reading s.layout x (moved change c d).at)) (λ (d : Command). g (reading s.layout b d.at))
    (numbered n b)
    (contains_all (λ d. g (reading s.layout x (moved change c d).at) ≡ g (reading s.layout b d.at)) (numbered n b) (λ d there.
    let both = filter_contains (λ e. e.number == n) (commands_of b) d there in
    let k = known change b c t ready in
    let kind = is_equal d.number n both.1 in
    let apart : d.at ≡ c.at → ⊥ = λ at. other (sym kind ∙ ap (λ (e : Command). e.number) (same_place b d c both.0 k.there at) ∙ k.kind) in
    let all = others_agree change b x c t d ready splice both.0 apart in
    ap g (reading-agrees s local x b (moved change c d).at d.at
    (agree_part d.size (size_of s.layout) 0 x b (moved change c d).at d.at (moved change c d).at d.at all
    (let h = holds d both.0 kind in omega (arith, h)) (omega arith) (omega arith)))))

-- the change is about neither segments nor fixups
not_segment : (change : Change) → LC_SEGMENT_64 ≡ command_number change → ⊥
not_segment (Id name) e = absurd (omega (arith, e))
not_segment (Library number name) e = absurd (omega (arith, e))
not_segment (Rpath number name) e = absurd (omega (arith, e))

not_fixups : (change : Change) → LC_DYLD_CHAINED_FIXUPS ≡ command_number change → ⊥
not_fixups (Id name) e = absurd (omega (arith, e))
not_fixups (Library number name) e = absurd (omega (arith, e))
not_fixups (Rpath number name) e = absurd (omega (arith, e))

pub segment_needs : (b : List ℕ) (y : Command) → y.number ≡ LC_SEGMENT_64 → needed_in_image b y ≡ segment_size b y.at
segment_needs b y kind = rw kind refl

fixups_need : (b : List ℕ) (y : Command) → y.number ≡ LC_DYLD_CHAINED_FIXUPS → needed_in_image b y ≡ 16
fixups_need b y kind = rw kind refl

-- THE segments
pub segments_same : (change : Change) (b x : List ℕ) (c : Command) (t : Table) → IsReady change b c t → IsSpliced change b x c t
    → new_size change < 2 ^ 32 → segments_of x ≡ segments_of b
unfolding segments_of
segments_same change b x c t ready splice small =
    readings_same segment_command_rows (λ (s : SegmentCommand). s) change b x c t LC_SEGMENT_64 little_is_local ready splice small
    (not_segment change)
    (λ y there kind. let e = ends_inside b y ready.accepted there in
    let need = segment_needs b y kind in
    let h = e.1 in omega (arith, h, need))

-- THE fixup tables
pub tables_same : (change : Change) (b x : List ℕ) (c : Command) (t : Table) → IsReady change b c t → IsSpliced change b x c t
    → new_size change < 2 ^ 32 → tables_of x ≡ tables_of b
unfolding tables_of
tables_same change b x c t ready splice small =
    readings_same linkedit_data_command_rows (λ (r : LinkeditDataCommand). record { at = r.dataoff; size = r.datasize }) change b x c t
    LC_DYLD_CHAINED_FIXUPS little_is_local ready splice small (not_fixups change)
    (λ y there kind. let e = ends_inside b y ready.accepted there in
    let need = fixups_need b y kind in
    let h = e.1 in omega (arith, h, need))

-- as many libraries
pub libraries_long : (change : Change) (b x : List ℕ) (c : Command) (t : Table) → IsReady change b c t → IsSpliced change b x c t
    → new_size change < 2 ^ 32 → length (libraries_of x) ≡ length (libraries_of b)
unfolding libraries_of
libraries_long change b x c t ready splice small =
    length-map (numbered LC_LOAD_DYLIB x) _ ∙ ap (λ (cs : List Command). length cs)
    (numbered_move change b x c t LC_LOAD_DYLIB ready splice small)
    ∙ length-map (numbered LC_LOAD_DYLIB b) (moved change c) ∙ sym (length-map (numbered LC_LOAD_DYLIB b) _)

-- the segments of a name, the base and the addresses
pub named_same : (change : Change) (b x : List ℕ) (c : Command) (t : Table) (name : List ℕ) → IsReady change b c t
    → IsSpliced change b x c t → new_size change < 2 ^ 32 → segments_named name x ≡ segments_named name b
named_same change b x c t name ready splice small = ap (filter (is_named name)) (segments_same change b x c t ready splice small)

-- a file range between load commands and signature has its bytes
pub region_agrees : (change : Change) (b x : List ℕ) (c : Command) (t : Table) (n p : ℕ) → IsReady change b c t → IsSpliced change b x c t
    → both_end change b c ≤ p → p + n ≤ t.at → Agree n x b p p
region_agrees change b x c t n p ready splice from to =
    let file = ready.formed.ends in
    let long = splice.long in
    record {
      first = omega (arith, to, file, long);
      second = omega (arith, to, file);
      same = λ i lt. splice.kept (p + i) (omega (arith, from)) (inl (omega (arith, lt, to)));
    }
