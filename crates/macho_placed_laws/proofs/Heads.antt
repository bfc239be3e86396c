-- The load commands end where the placement's head ends, but for the padding.
--
-- What the header says of their size is a fold over the commands of the link. Each segment's command has 72 bytes and 80 for each of its
-- headers, which together are the output sections; the other commands' sizes are those that were counted.
use Rattle.std.proofs.Common.{◌≡◌, ℕ, ◌+◌, ◌*◌, Bool, true, false, List, [], ◌∷◌, map, length, refl, ap, ◌∙◌, arith, if◌then◌else◌}
use Rattle.std.specs.Prelude.{Option, Some, None, sum_by}
use Rattle.std.specs.List.{flat_map}
use Rattle.std.proofs.lemmas.List.{length-append}
use Rattle.std.proofs.lemmas.List.Concat.{flat_map-cons}
use Rattle.std.proofs.lemmas.List.Sums.{sum_by-append, sum_by-cons}
use Rattle.macho_records.specs.declared.header.MachHeader.{MachHeader}
use Rattle.macho_records.specs.declared.constants.TheConstants.{LC_ID_DYLIB}
use Rattle.macho_model.specs.declared.placed.Counts.{Counts}
use Rattle.macho_model.specs.declared.placed.PlacedSegment.{PlacedSegment}
use Rattle.macho_model.specs.Commands.{header_of, commands_end}
use Rattle.macho_model.specs.Links.{Link}
use Rattle.macho_model.specs.Needs.{libraries_needed}
use Rattle.macho_model.specs.Segments.{list_if}
use Rattle.macho_model.specs.Placement.{Placed, head_size}
use Rattle.macho_model.specs.HeadCommands.{HeadCommand, CommandsSay, commands_for, header_for, segment_for, entry_point_for, versions_for, path_command_size, dylinker_for, dylib_for, needed_dylib_for, rpath_for, size_said, own_commands_size, versions_size}
use Rattle.macho_model.specs.Head.{headers_in}
use Rattle.macho_commands.proofs.LinkCommands.{length-link_commands}
use Rattle.macho_promise.specs.Sizes.{commands_size}

-- the commands of the segments
segments_sized : (p : Placed) (segments : List PlacedSegment)
    → sum_by size_said (map (segment_for p) segments) ≡ 72 * length segments + 80 * length (flat_map (headers_in p) segments)
segments_sized p [] = refl
segments_sized p (s ∷ segments) =
    let all : length (flat_map (headers_in p) (s ∷ segments)) ≡ length (headers_in p s) + length (flat_map (headers_in p) segments)
    = ap length (flat_map-cons (headers_in p) s segments) ∙ length-append (headers_in p s) (flat_map (headers_in p) segments) in
    omega (arith, segments_sized p segments, all, sum_by-cons size_said (segment_for p s) (map (segment_for p) segments))

sized_by : {X : Type 0} (f : X → HeadCommand) (size : X → ℕ) → ((x : X) → size_said (f x) ≡ size x) → (xs : List X)
    → sum_by size_said (map f xs) ≡ sum_by size xs
sized_by f size same [] = refl
sized_by f size same (x ∷ xs) =
    omega (arith, same x, sized_by f size same xs, sum_by-cons size_said (f x) (map f xs), sum_by-cons size x xs)

-- what an executable or a library has of its own
own_sized : (l : Link) (p : Placed) (e : Bool) → l.executable ≡ e
    → sum_by size_said (list_if l.executable (entry_point_for l p ∷ [])) + size_said
    (if l.executable then dylinker_for else dylib_for LC_ID_DYLIB 1 0 0 l.install_name)
    ≡ own_commands_size l
own_sized l p true e = rw e refl
own_sized l p false e = rw e (omega arith)

versions_sized : (v : Option (ℕ × ℕ)) → sum_by size_said (versions_for v) ≡ versions_size v
versions_sized None = refl
versions_sized (Some v) = refl

-- all of them
pub commands_sized : (l : Link) (counts : Counts) (p : Placed) (uuid : List ℕ) (trie : ℕ)
    → sum_by size_said (commands_for l counts p uuid trie) ≡ 72 * length p.segments + 80 * length
    (flat_map (headers_in p) p.segments) + commands_size l
unfolding commands_for commands_size
commands_sized l counts p uuid trie = simp sum_by-append (omega (
  arith,
  segments_sized p p.segments,
  own_sized l p l.executable refl,
  versions_sized l.versions,
  sized_by needed_dylib_for (path_command_size 24) (λ x. refl) (libraries_needed l),
  sized_by rpath_for (path_command_size 12) (λ x. refl) l.rpaths,
  length-link_commands l [] 0,
))

-- THE end of the commands
pub head_ends : (l : Link) (counts : Counts) (uuid b : List ℕ) (p : Placed) → CommandsSay l counts uuid b p
    → counts.commands ≡ commands_size l
    → flat_map (headers_in p) p.segments ≡ p.output_sections → commands_end b + counts.padding ≡ head_size counts p
unfolding commands_end header_for
head_ends l counts uuid b p says counted headers =
    let told : (header_of b).sizeofcmds ≡ sum_by size_said (commands_for l counts p uuid says.trie) =
    ap (λ (h : MachHeader). h.sizeofcmds) says.header in
    let long : length (flat_map (headers_in p) p.segments) ≡ length p.output_sections = ap length headers in
    omega (arith, told, commands_sized l counts p uuid says.trie, counted, long)
