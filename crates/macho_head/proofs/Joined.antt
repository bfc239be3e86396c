-- The groups of commands, one behind the other, are the load commands of the link.
--
-- Each group says the parts of the head, and these are the link's. What is left is where the groups' brackets stand.
use Rattle.std.proofs.Common.{◌≡◌, ℕ, List, [], ◌++◌, map, refl, ◌∙◌, append_assoc}
use Rattle.macho_model.specs.declared.placed.Counts.{Counts}
use Rattle.macho_model.specs.Links.{Link}
use Rattle.macho_model.specs.Placement.{Placed}
use Rattle.macho_model.specs.HeadCommands.{HeadCommand, commands_for, segment_for, needed_dylib_for, rpath_for}
use Rattle.macho_head.specs.declared.commands.HeadParts.{HeadParts}
use Rattle.macho_head.specs.Heads.{AreHeadParts, commands_of_parts}
use Rattle.macho_head.specs.steps.Said.{own_said, tables_said}

pub joined_parts : (p : Placed) (h : HeadParts) (a b c d e f : List HeadCommand)
    → a ≡ [] → b ≡ a ++ map (segment_for p) p.segments → c ≡ b ++ own_said h
    → d ≡ c ++ map needed_dylib_for (map (λ n. n.items) h.libraries.now)
    → e ≡ d ++ map rpath_for (map (λ n. n.items) h.rpaths.now) → f ≡ e ++ tables_said p.linkedit h → f ≡ commands_of_parts p h
unfolding commands_of_parts
joined_parts p h a b c d e f none segments own libraries rpaths tables =
    let all : f ≡
    (((map (segment_for p) p.segments ++ own_said h) ++ map needed_dylib_for
    (map (λ n. n.items) h.libraries.now))
    ++ map rpath_for (map (λ n. n.items) h.rpaths.now)) ++ tables_said p.linkedit h =
    rw (tables, rpaths, libraries, own, segments, none) refl in
    all ∙ simp append_assoc

-- those of a link's parts are the link's
pub parts_said : (l : Link) (counts : Counts) (uuid : List ℕ) (p : Placed) (h : HeadParts) → AreHeadParts l counts uuid p h
    → commands_of_parts p h ≡ commands_for l counts p uuid h.trie_size
unfolding commands_of_parts commands_for
parts_said l counts uuid p h are =
    rw (are.executable, are.entry, are.uuid_is, are.versions, are.install_name, are.libraries, are.rpaths, are.symbols, are.strings) refl
