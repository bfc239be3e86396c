-- The chains of a file with one fixup table, which tells of each of its segments, are those that the table tells.
--
-- Both are lists over the segments in order. At each number they have the address and the file part of one segment, since
-- the commands have those, and the starts that the one table has for that number, which is below the table's count.
use Rattle.std.proofs.Common.{◌≡◌, ℕ, ◌+◌, ◌<◌, nat_lt, Bool, true, List, [], ◌∷◌, length, map, get_or, arith, sym, ap, ◌∙◌, if◌then◌else◌}
use Rattle.std.specs.List.{enumerate_from}
use Rattle.std.proofs.lemmas.Bool.Decides.{nat_tests}
use Rattle.std.proofs.lemmas.List.{ext_get_or, get_or-map, length-map}
use Rattle.std.proofs.lemmas.List.FromFn.{length-enumerate_from, get_or-enumerate_from}
use Rattle.macho_model.specs.SegmentCommand.{SegmentCommand}
use Rattle.macho_model.specs.Images.{Table, tables_of, segments_of, starts_count, page_starts}
use Rattle.macho_model.specs.Chain.{ChainSegment, starts_in_tables, chain_segment, chain_segments}
use Rattle.macho_fixups.specs.declared.run.FixupSegment.{FixupSegment}
use Rattle.macho_fixups.specs.Readings.{told_segment, told_segments}
use Rattle.macho_fixups.specs.Laws.{ChainsAreTold}
use Rattle.macho_fixups.proofs.SegmentWrites.{no_segment}

-- no command, and no segment of a chain
abbrev pub no_command : SegmentCommand
no_command = record {
  cmd = 0;
  cmdsize = 0;
  segname = [];
  vmaddr = 0;
  vmsize = 0;
  fileoff = 0;
  filesize = 0;
  maxprot = 0;
  initprot = 0;
  nsects = 0;
  flags = 0;
}

nothing : ChainSegment
nothing = record { address = 0; file_offset = 0; file_size = 0; starts = [] }

-- a segment of a chain, by its parts
parts : ℕ → ℕ → ℕ → List ℕ → ChainSegment
parts address offset size starts = record { address = address; file_offset = offset; file_size = size; starts = starts }

-- the starts of a number below the table's count
starts_here : (b : List ℕ) (t : Table) (k : ℕ) → tables_of b ≡ t ∷ [] → k < starts_count b t
    → starts_in_tables b (tables_of b) k ≡ page_starts b t k
starts_here b t k one lt =
    let told : nat_lt k (starts_count b t) ≡ true = grind (arith, nat_tests) in
    ap (λ (ts : List Table). starts_in_tables b ts k) one ∙ ap (λ (e : Bool). if e then page_starts b t k else []) told

pub chains_told : ChainsAreTold
unfolding chain_segments parts
chains_told b t segments one count agree =
    ext_get_or nothing (map (chain_segment b) (enumerate_from 0 (segments_of b))) (told_segments b t segments) (file_long ∙ sym told_long)
    at
  where
    file_long : length (map (chain_segment b) (enumerate_from 0 (segments_of b))) ≡ length segments
    file_long =
        length-map (enumerate_from 0 (segments_of b)) (chain_segment b) ∙ length-enumerate_from 0 (segments_of b) ∙ agree.count

    told_long : length (told_segments b t segments) ≡ length segments
    told_long = length-map (enumerate_from 0 segments) (told_segment b t) ∙ length-enumerate_from 0 segments

    at : (k : ℕ) → k < length (map (chain_segment b) (enumerate_from 0 (segments_of b)))
        → get_or (map (chain_segment b) (enumerate_from 0 (segments_of b))) k nothing ≡ get_or (told_segments b t segments) k nothing
    at k less =
        let lt : k < length segments = omega (arith, less, file_long) in
        let here : k < length (segments_of b) = omega (arith, lt, agree.count) in
        let number : 0 + k ≡ k = omega arith in
        let c : SegmentCommand = get_or (segments_of b) k no_command in
        let s : FixupSegment = get_or segments k no_segment in
        let same = agree.each k no_command no_segment lt in
        get_or-map (chain_segment b) (enumerate_from 0 (segments_of b)) k (0, no_command) nothing
        (omega (arith, here, length-enumerate_from 0 (segments_of b)))
        ∙ ap (chain_segment b) (get_or-enumerate_from 0 (segments_of b) k (0, no_command) here)
        ∙ ap (λ (n : ℕ). chain_segment b (n, c)) number
        ∙ ap (parts c.vmaddr c.fileoff c.filesize) (starts_here b t k one (omega (arith, lt, count)))
        ∙ ap (λ (n : ℕ). parts n c.fileoff c.filesize (page_starts b t k)) same.address
        ∙ ap (λ (n : ℕ). parts s.address n c.filesize (page_starts b t k)) same.file_offset
        ∙ ap (λ (n : ℕ). parts s.address s.file_offset n (page_starts b t k)) same.file_size
        ∙ ap (λ (n : ℕ). told_segment b t (n, s)) (sym number)
        ∙ ap (told_segment b t) (sym (get_or-enumerate_from 0 segments k (0, no_segment) lt))
        ∙ sym (get_or-map (told_segment b t) (enumerate_from 0 segments) k (0, no_segment) nothing
        (omega (arith, lt, length-enumerate_from 0 segments)))
