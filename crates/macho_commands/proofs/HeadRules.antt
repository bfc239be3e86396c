-- The loader's rules on a head that a file says.
--
-- The commands end where the header says, since each has the size that it says; each is as long as what is read of it,
-- since a record has the size of its layout. What is asked of a segment's command is asked of its record, and the records
-- are those of the placement: protections by name, whole pages, one behind the other. Ranks of names rise, so `__TEXT`
-- stands once; it is there, begins the file and holds the commands.
use Rattle.std.proofs.Common.{◌≡◌, ℕ, zero, suc, ◌+◌, ◌*◌, ◌<◌, ◌≤◌, ◌==◌, ◌&&◌, nat_le, Bool, true, false, List, [], ◌∷◌, map, length, get_or, inl, inr, refl, sym, ap, subst, ◌∙◌, arith, All}
use Rattle.std.specs.Prelude.{◌||◌, sum_by, if◌then◌else◌, Option, Some, None}
use Rattle.std.proofs.lemmas.Bool.{le-leb}
use Rattle.std.proofs.lemmas.List.Elements.{All-map, All-cons, All-nil, All-append, All-from_recursion}
use Rattle.macho_bytes.specs.Layouts.{size_of}
use Rattle.macho_records.specs.Layouts.{segment_command, section_header, symtab_command}
use Rattle.macho_wire.specs.Layouts.{entry_point_command, dylinker_command, dylib_command, rpath_command, linkedit_data_command, uuid_command, build_version_command}
use Rattle.macho_records.specs.declared.constants.TheConstants.{LC_CODE_SIGNATURE, LC_DYLD_CHAINED_FIXUPS, LC_DYLD_EXPORTS_TRIE, LC_ID_DYLIB, MH_DYLIB, MH_EXECUTE}
use Rattle.macho_records.specs.declared.header.MachHeader.{MachHeader}
use Rattle.macho_model.specs.declared.placed.Counts.{Counts}
use Rattle.macho_model.specs.Commands.{Command, commands_of, commands_end, command_fits}
use Rattle.macho_model.specs.Grammar.{EachCommand}
use Rattle.macho_model.specs.Links.{Link}
use Rattle.macho_model.specs.Needs.{libraries_needed}
use Rattle.macho_model.specs.Segments.{list_if}
use Rattle.macho_model.specs.Placement.{Placed}
use Rattle.macho_model.specs.LoadRules.{image_head_fits, needed_in_image}
use Rattle.macho_model.specs.HeadCommands.{HeadCommand, Segment, EntryPoint, Uuid, BuildVersion, Dylinker, Dylib, Rpath, LinkeditData, Symtab, Other, segment_for, entry_point_for, uuid_for, versions_for, dylinker_for, dylib_for, needed_dylib_for, rpath_for, linkedit_for, symtab_for, command_in, commands_in, size_said, header_for, commands_for, CommandsSay}
use Rattle.macho_model.specs.Head.{range_size}
use Rattle.macho_commands.proofs.Told.{tables_for}
use Rattle.macho_commands.proofs.Shapes.{IsRead, Shape, a_segment, an_entry_point, a_uuid, a_build_version, a_dylinker, a_dylib, an_rpath, a_symtab, a_table, unknown, shape, size_said-is}
use Rattle.macho_commands.proofs.Walked.{AllRead, commands-read, sizes-in, commands-end, each_said}
use Rattle.macho_bytes.proofs.Bools.{and_both}

-- the bytes that are read of a command, by what it says
abbrev pub needed_said : HeadCommand → ℕ
needed_said (Segment command headers) = size_of segment_command + size_of section_header * command.nsects
needed_said (EntryPoint command) = size_of entry_point_command
needed_said (Uuid command) = size_of uuid_command
needed_said (BuildVersion command tools) = size_of build_version_command
needed_said (Dylinker command path) = size_of dylinker_command
needed_said (Dylib command path) = size_of dylib_command
needed_said (Rpath command path) = size_of rpath_command
needed_said (LinkeditData command) = size_of linkedit_data_command
needed_said (Symtab command) = size_of symtab_command
needed_said (Other number size) = 0

-- are those that the loader asks for
needed-is : (b : List ℕ) (c : Command) → Shape b c → needed_in_image b c ≡ needed_said (command_in b c)
needed-is b c (a_segment n e) = rw (e, n) refl
needed-is b c (an_entry_point n e) = rw (e, n) refl
needed-is b c (a_uuid n e) = rw (e, n) refl
needed-is b c (a_build_version n e) = rw (e, n) refl
needed-is b c (a_dylinker n e) = rw (e, n) refl
needed-is b c (a_dylib (inl n) e) = rw (e, n) refl
needed-is b c (a_dylib (inr n) e) = rw (e, n) refl
needed-is b c (an_rpath n e) = rw (e, n) refl
needed-is b c (a_symtab n e) = rw (e, n) refl
needed-is b c (a_table (inl n) e) = rw (e, n) refl
needed-is b c (a_table (inr (inl n)) e) = rw (e, n) refl
needed-is b c (a_table (inr (inr n)) e) = rw (e, n) refl
needed-is b c (unknown u e) =
    rw (
      e,
      u.segment,
      u.symtab,
      u.load_dylib,
      u.id_dylib,
      u.dylinker,
      u.rpath,
      u.uuid,
      u.build_version,
      u.entry_point,
      u.signature,
      u.trie,
      u.fixups,
    ) refl

-- a command is at least as long as its head and as what is read of it
pub record IsWhole (h : HeadCommand) : Type 0 where
  pub head : 8 ≤ size_said h
  pub needed : needed_said h ≤ size_said h

-- each command of a link is
all_whole : {X : Type 0} (f : X → HeadCommand) (xs : List X) → ((x : X) → IsWhole (f x)) → All IsWhole (map f xs)
all_whole f xs each = All-map IsWhole f xs (λ k d lt. each (get_or xs k d))

one_whole : (h : HeadCommand) → IsWhole h → All IsWhole (h ∷ [])
one_whole h whole = All-cons IsWhole h [] whole (All-nil IsWhole)

entry_whole : (e : Bool) (h : HeadCommand) → IsWhole h → All IsWhole (list_if e (h ∷ []))
entry_whole true h whole = one_whole h whole
entry_whole false h whole = All-nil IsWhole

versions_whole : (v : Option (ℕ × ℕ)) → All IsWhole (versions_for v)
versions_whole None = All-nil IsWhole
versions_whole (Some both) = one_whole _ (record { head = omega arith; needed = omega arith })

name_whole : (e : Bool) (name : List ℕ) → All IsWhole ((if e then dylinker_for else dylib_for LC_ID_DYLIB 1 0 0 name) ∷ [])
name_whole true name = one_whole dylinker_for (record { head = omega arith; needed = omega arith })
name_whole false name = one_whole (dylib_for LC_ID_DYLIB 1 0 0 name) (record { head = omega arith; needed = omega arith })

whole : (h : HeadCommand) → 8 ≤ size_said h → needed_said h ≤ size_said h → IsWhole h
whole h head needed = record { head = head; needed = needed }

commands-whole : (l : Link) (counts : Counts) (p : Placed) (uuid : List ℕ) (trie : ℕ) → All IsWhole (commands_for l counts p uuid trie)
unfolding commands_for
commands-whole l counts p uuid trie =
    let segments = all_whole (segment_for p) p.segments (λ s. whole (segment_for p s) (omega arith) (omega arith)) in
    let libraries = all_whole needed_dylib_for (libraries_needed l)
    (λ name. whole (needed_dylib_for name) (omega arith) (omega arith)) in
    let paths = all_whole rpath_for l.rpaths (λ path. whole (rpath_for path) (omega arith) (omega arith)) in
    let table = λ (n at size : ℕ). whole (linkedit_for n at size) (omega arith) (omega arith) in
    let tables = All-from_recursion IsWhole (tables_for counts p trie) (
      table LC_DYLD_CHAINED_FIXUPS p.linkedit.fixups.start (range_size p.linkedit.fixups),
      (
        table LC_DYLD_EXPORTS_TRIE p.linkedit.trie.start trie,
        (
          whole (symtab_for counts p) (omega arith) (omega arith),
          (table LC_CODE_SIGNATURE p.linkedit.signature.start (range_size p.linkedit.signature), tt),
        ),
      ),
    ) in
    let entry = entry_whole l.executable (entry_point_for l p) (whole (entry_point_for l p) (omega arith) (omega arith)) in
    let uuids = one_whole (uuid_for uuid) (whole (uuid_for uuid) (omega arith) (omega arith)) in
    All-append IsWhole _ _
    (All-append IsWhole _ _
    (All-append IsWhole _ _
    (All-append IsWhole _ _
    (All-append IsWhole _ _
    (All-append IsWhole _ _ (All-append IsWhole _ _ segments entry) uuids) (versions_whole l.versions))
    (name_whole l.executable l.install_name)) libraries) paths)
    tables

-- a command of a walk is read
read_at : (b : List ℕ) (cs : List Command) → AllRead b cs → (k : ℕ) (d : Command) → k < length cs → IsRead b (get_or cs k d)
read_at b [] read k d lt = absurd (omega arith)
read_at b (c ∷ cs) read zero d lt = read.0
read_at b (c ∷ cs) read (suc k) d lt = read_at b cs read.1 k d (omega arith)

-- the commands end where the header says
pub ends-said : (l : Link) (counts : Counts) (uuid b : List ℕ) (p : Placed) (h : CommandsSay l counts uuid b p)
    → commands_end b ≡ 32 + sum_by (λ c. c.size) (commands_of b)
unfolding commands_end header_for
ends-said l counts uuid b p h =
    ap (λ (x : MachHeader). 32 + x.sizeofcmds) h.header
    ∙ ap (λ (hs : List HeadCommand). 32 + sum_by size_said hs) (sym h.commands)
    ∙ ap (λ (n : ℕ). 32 + n) (sym (sizes-in b))

-- each command is as long as it has to be, and ends inside
pub each-fits : (l : Link) (counts : Counts) (uuid b : List ℕ) (p : Placed) → CommandsSay l counts uuid b p
    → EachCommand (commands_of b) (command_fits (needed_in_image b) b)
unfolding commands_in
each-fits l counts uuid b p h =
    let said : All IsWhole (map (command_in b) (commands_of b)) = subst (All IsWhole) (sym h.commands)
    (commands-whole l counts p uuid h.trie) in
    let each = each_said b IsWhole (commands_of b) said in
    let inside = commands-end b (commands_end b) (omega (arith, ends-said l counts uuid b p h)) in
    λ k d lt.
    let c : Command = get_or (commands_of b) k d in
    let size = size_said-is b c (read_at b (commands_of b) (commands-read b) k d lt) (shape b c) in
    let it = each k d lt in
    and_both _ _ (and_both _ _ (le-leb 8 c.size (omega (arith, it.head, size))) (le-leb (c.at + c.size) (commands_end b) (inside k d lt)))
    (le-leb (needed_in_image b c) c.size (omega (arith, needed-is b c (shape b c), it.needed, size)))

-- an executable or a dynamic library
type_known : (e : Bool) → (((if e then MH_EXECUTE else MH_DYLIB) == MH_EXECUTE) || ((if e then MH_EXECUTE else MH_DYLIB) == MH_DYLIB)) ≡
    true
type_known true = refl
type_known false = refl

pub head-fits : (l : Link) (counts : Counts) (uuid b : List ℕ) (p : Placed) → CommandsSay l counts uuid b p → 32 ≤ length b
    → image_head_fits b ≡ true
unfolding header_for
head-fits l counts uuid b p h room =
    let long : nat_le 32 (length b) ≡ true = le-leb 32 (length b) room in
    rw (h.header, long) (type_known l.executable)
