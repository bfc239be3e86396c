-- What the definitions of a report say of small parts of images, by computing. The bytes are written by hand after the records of the
-- formats.
use Rattle.std.proofs.Common.{◌≡◌, ℕ, List, [], ◌∷◌, ◌++◌, map, replicate, refl, arith, Some, None}
use Rattle.std.specs.Prelude.{codes}
use Rattle.std.specs.List.{flat_map, enumerate_from}
use Rattle.std.specs.Fmt.{digits}
use Rattle.macho_bytes.specs.Numbers.{le_at}
use Rattle.macho_bytes.specs.Layouts.{reading}
use Rattle.macho_bytes.specs.Uleb.{uleb_at}
use Rattle.macho_records.specs.declared.header.SegmentCommand.{SegmentCommand}
use Rattle.macho_model.specs.Commands.{Command, header_of, commands_from, commands_of}
use Rattle.macho_model.specs.Images.{tries_of}
use Rattle.macho_trie.specs.Exports.{as_value, as_reexport}
use Rattle.macho_trie.specs.Nodes.{Node, node_at, terminal_at, terminal_between, edges_at, edge_at, ended_name}
use Rattle.macho_trie.specs.Walks as walks
use Rattle.macho_inspect.specs.Tries.{trie_of, IsTrieMalformed}
use Rattle.macho_inspect.specs.Tries as tries
use Rattle.macho_inspect.specs.Reports.{segment_line, answer_of}
use Rattle.macho_inspect.specs.Lines.{line_text, library_pieces, malformed_pieces}

-- `__PAGEZERO` of 4 GiB at 0, which nothing may access
abbrev pagezero : SegmentCommand
pagezero =
    record {
      cmd = 0x19;
      cmdsize = 72;
      segname = codes "__PAGEZERO" ++ replicate 6 0;
      vmaddr = 0;
      vmsize = 0x100000000;
      fileoff = 0;
      filesize = 0;
      maxprot = 0;
      initprot = 0;
      nsects = 0;
      flags = 0;
    }

pub line_of_pagezero : segment_line pagezero ≡
    record {
      name = record { 0 = codes "__PAGEZERO" ++ replicate 6 0 };
      address = 0;
      size = 0x100000000;
      file_offset = 0;
      file_size = 0;
      protection = 0;
    }
line_of_pagezero = refl

-- the lines of two libraries, and of a malformed trie
pub texts_of_libraries : flat_map line_text (map library_pieces (enumerate_from 1 (codes "/usr/lib/a" ∷ codes "/usr/lib/b" ∷ [])))
    ≡ codes "library 1 /usr/lib/a\nlibrary 2 /usr/lib/b\n"
unfolding digits
texts_of_libraries = refl

pub text_of_malformed : line_text (malformed_pieces 32968) ≡ codes "exports malformed 32968\n"
unfolding digits
text_of_malformed = refl

-- an address with flags 0; the reexport of a name of library 2 under another name
pub answers : (answer_of 0 0x1234 None ≡ as_value 0 0x1234) × (answer_of 8 2 (Some (codes "_there")) ≡ as_reexport 8 2 (codes "_there"))
answers = (refl, refl)

abbrev word : ℕ → List ℕ
word n = n ∷ 0 ∷ 0 ∷ 0 ∷ []

-- A header with one command, that of a trie of five bytes at 48: a node that exports nothing, with one edge `a` back to itself.
unfoldable pub circle : List ℕ
circle =
    (0xcf ∷ 0xfa ∷ 0xed ∷ 0xfe ∷ 0x0c ∷ 0 ∷ 0 ∷ 1 ∷ []) ++ word 0 ++ word 2 ++ word 1 ++ word 16 ++ word 0 ++ word 0
    ++ (0x33 ∷ 0 ∷ 0 ∷ 0x80 ∷ []) ++ word 16 ++ word 48 ++ word 5 ++ (0 ∷ 1 ∷ 0x61 ∷ 0 ∷ 0 ∷ [])

abbrev command_of_circle : Command
command_of_circle = record { at = 32; number = 0x80000033; size = 16 }

pub trie_of_circle : trie_of circle ≡ 0 ∷ 1 ∷ 0x61 ∷ 0 ∷ 0 ∷ []
unfolding trie_of tries_of commands_of commands_from header_of reading le_at circle
trie_of_circle = refl

-- the walk meets the first node a second time, by the name `a`; so the trie is malformed there, at 48 of the file
abbrev five : List ℕ
five = 0 ∷ 1 ∷ 0x61 ∷ 0 ∷ 0 ∷ []

abbrev node_of_circle : Node
node_of_circle = record { export = None; edges = record { label = 0x61 ∷ []; child = 0 } ∷ [] }

node_there : node_at five 0 ≡ Some node_of_circle
unfolding node_at terminal_at terminal_between edges_at edge_at ended_name uleb_at
node_there = refl

again : walks.Reaches five 0 (0x61 ∷ [])
again = walks.Reaches.next 0 [] node_of_circle (record { label = 0x61 ∷ []; child = 0 }) walks.Reaches.first node_there
    (0, omega arith, refl)

pub circle_is_malformed : IsTrieMalformed circle 48
unfolding commands_of commands_from header_of reading le_at circle
circle_is_malformed =
    tries.IsTrieMalformed.node command_of_circle 0 refl (omega arith)
    (omega arith, walks.IsWrongAt.twice [] (0x61 ∷ []) walks.Reaches.first again (λ same. cc)) refl
