-- The head that was written is that of a link, byte for byte, where its commands say the link's.
--
-- A command's bytes are its record and what stands behind it, so the texts of a link's commands are the link's piece by piece. The
-- header counts them, and their bytes: the text of all is as long as the texts of each added up.
use Rattle.std.proofs.Common.{◌≡◌, ℕ, ◌+◌, ◌*◌, ◌-◌, Bool, true, false, List, [], ◌∷◌, ◌++◌, length, map, refl, sym, ap, subst, ◌∙◌, arith, append_assoc}
use Rattle.std.specs.Prelude.{if◌then◌else◌, sum_by, Option, Some, None}
use Rattle.std.specs.List.{concat}
use Rattle.std.proofs.lemmas.List.{append-nil, length-append, length-map, map-append}
use Rattle.std.proofs.lemmas.List.Concat.{flat_map-append}
use Rattle.macho_bytes.specs.Numbers.{little, row_bytes, le_bytes}
use Rattle.macho_bytes.proofs.Numbers.{length-row_little}
use Rattle.macho_bytes.specs.Texts.{Stands}
use Rattle.macho_records.specs.declared.constants.TheConstants.{LC_BUILD_VERSION, LC_CODE_SIGNATURE, LC_DYLD_CHAINED_FIXUPS, LC_DYLD_EXPORTS_TRIE, LC_ID_DYLIB, LC_LOAD_DYLIB, LC_LOAD_DYLINKER, LC_MAIN, LC_RPATH, LC_SYMTAB, LC_UUID}
use Rattle.macho_records.specs.declared.header.MachHeader.{MachHeader}
use Rattle.macho_model.specs.declared.placed.Counts.{Counts}
use Rattle.macho_model.specs.Links.{Link}
use Rattle.macho_model.specs.Needs.{libraries_needed}
use Rattle.macho_model.specs.Placement.{Placed}
use Rattle.macho_model.specs.Segments.{list_if}
use Rattle.macho_model.specs.Head as head
use Rattle.macho_model.specs.Head.{range_size, head_for}
use Rattle.macho_model.specs.HeadCommands.{HeadCommand, segment_for, entry_point_for, uuid_for, versions_for, dylinker_for, dylib_for, needed_dylib_for, rpath_for, header_with, linkedit_for, symtab_for, commands_for, path_command_size, path_filled, DYLINKER}
use Rattle.macho_model.specs.Addresses.{address_of}
use Rattle.macho_model.specs.Targets.{target_of_name}
use Rattle.macho_model.specs.Signature.{uuid_written}
use Rattle.macho_commands.specs.declared.command.Command.{Command}
use Rattle.macho_commands.specs.Texts.{text_said}
use Rattle.macho_commands.specs.Commands.{said_by, commands_text, commands_size}
use Rattle.macho_commands.specs.Heads.{header_of_kind, head_text}
use Rattle.macho_commands.specs.Laws.{HeadIsSpelled, HeadIsFoundAgain}
use Rattle.macho_commands.proofs.HeadTexts.{found_said}
use Rattle.macho_commands.proofs.LinkCommands.{length-path_text}
use Rattle.macho_bytes.specs.Spellings.{spelling}
use Rattle.macho_records.specs.Spellings.{mach_header_rows}
use Rattle.macho_model.proofs.Sections.{length-uuid}
use Rattle.macho_bytes.proofs.Maps.{length-joined}

-- the texts of commands that are made one like the other
each_text : {X : Type 0} (f : X → HeadCommand) (g : X → List ℕ) (xs : List X) → ((x : X) → text_said (f x) ≡ g x)
    → map text_said (map f xs) ≡ map g xs
each_text f g [] same = refl
each_text f g (x ∷ xs) same =
    ap (λ (t : List ℕ). t ∷ map text_said (map f xs)) (same x) ∙ ap (λ (ts : List (List ℕ)). g x ∷ ts) (each_text f g xs same)

entry_text : (e : Bool) (h : HeadCommand) (t : List ℕ) → text_said h ≡ t → map text_said (list_if e (h ∷ [])) ≡ list_if e (t ∷ [])
entry_text true h t same = ap (λ (u : List ℕ). u ∷ []) same
entry_text false h t same = refl

-- a record of numbers alone is the row of them; the number of a command and its size stand in front
row_split : (number size : ℕ) (numbers rest : List ℕ) → row_bytes little 4 (number ∷ size ∷ numbers) ++ rest
    ≡ row_bytes little 4 (number ∷ size ∷ []) ++ (row_bytes little 4 numbers ++ rest)
unfolding row_bytes
row_split number size numbers rest =
    ap (λ (t : List ℕ). t ++ rest) (flat_map-append (le_bytes 4) (number ∷ size ∷ []) numbers)
    ∙ append_assoc (row_bytes little 4 (number ∷ size ∷ [])) (row_bytes little 4 numbers) rest

row_whole : (number size : ℕ) (numbers : List ℕ) → row_bytes little 4 (number ∷ size ∷ numbers)
    ≡ row_bytes little 4 (number ∷ size ∷ []) ++ row_bytes little 4 numbers
unfolding row_bytes
row_whole number size numbers = flat_map-append (le_bytes 4) (number ∷ size ∷ []) numbers

sized : (number size : ℕ) (text : List ℕ) → 8 + length text ≡ size
    → row_bytes little 4 (number ∷ size ∷ []) ++ text ≡ head.command number text
sized number size text is = ap (λ (n : ℕ). row_bytes little 4 (number ∷ n ∷ []) ++ text) (sym is)

numbers_said : (number size : ℕ) (numbers : List ℕ) → 8 + 4 * length numbers ≡ size
    → row_bytes little 4 (number ∷ size ∷ numbers) ≡ head.command number (row_bytes little 4 numbers)
numbers_said number size numbers is =
    row_whole number size numbers ∙ sized number size (row_bytes little 4 numbers) (omega (arith, is, length-row_little 4 numbers))

path_said : (number : ℕ) (numbers path : List ℕ)
    → row_bytes little 4 (number ∷ path_command_size (12 + 4 * length numbers) path ∷ (12 + 4 * length numbers) ∷ numbers)
    ++ path_filled (12 + 4 * length numbers) path
    ≡ head.path_command number numbers path
path_said number numbers path =
    let front : ℕ = 12 + 4 * length numbers in
    let long : length (row_bytes little 4 (front ∷ numbers) ++ path_filled front path) ≡ path_command_size front path - 8 =
    length-path_text numbers path in
    row_split number (path_command_size front path) (front ∷ numbers) (path_filled front path)
    ∙ sized number (path_command_size front path) (row_bytes little 4 (front ∷ numbers) ++ path_filled front path) (omega (arith, long))

entry_said : (l : Link) (p : Placed) → text_said (entry_point_for l p)
    ≡ head.command LC_MAIN (row_bytes little 8 ((address_of p (target_of_name l l.entry) - p.base) ∷ 0 ∷ []))
unfolding text_said spelling
entry_said l p =
    let offset : ℕ = address_of p (target_of_name l l.entry) - p.base in
    sized LC_MAIN 24 (row_bytes little 8 (offset ∷ 0 ∷ [])) (omega (arith, length-row_little 8 (offset ∷ 0 ∷ [])))

uuid_said : (uuid : List ℕ) → text_said (uuid_for uuid) ≡ head.command LC_UUID (uuid_written uuid)
unfolding text_said spelling
uuid_said uuid = sized LC_UUID 24 (uuid_written uuid) (omega (arith, length-uuid uuid))

tool_joined : (minimum sdk : ℕ) → row_bytes little 4 (LC_BUILD_VERSION ∷ 32 ∷ 1 ∷ minimum ∷ sdk ∷ 1 ∷ [])
    ++ (row_bytes little 4 (1684826487 ∷ 0x00000b00 ∷ []) ++ [])
    ≡ row_bytes little 4 (LC_BUILD_VERSION ∷ 32 ∷ 1 ∷ minimum ∷ sdk ∷ 1 ∷ 1684826487 ∷ 0x00000b00 ∷ [])
unfolding row_bytes
tool_joined minimum sdk =
    ap (λ (t : List ℕ). row_bytes little 4 (LC_BUILD_VERSION ∷ 32 ∷ 1 ∷ minimum ∷ sdk ∷ 1 ∷ []) ++ t)
    (append-nil (row_bytes little 4 (1684826487 ∷ 0x00000b00 ∷ [])))
    ∙ sym (flat_map-append (le_bytes 4) (LC_BUILD_VERSION ∷ 32 ∷ 1 ∷ minimum ∷ sdk ∷ 1 ∷ []) (1684826487 ∷ 0x00000b00 ∷ []))

versions_text : (v : Option (ℕ × ℕ)) → map text_said (versions_for v) ≡ head.versions_for v
unfolding text_said spelling
versions_text None = refl
versions_text (Some (minimum, sdk)) =
    ap (λ (t : List ℕ). t ∷ [])
    (tool_joined minimum sdk ∙ numbers_said LC_BUILD_VERSION 32 (1 ∷ minimum ∷ sdk ∷ 1 ∷ 1684826487 ∷ 0x00000b00 ∷ []) refl)

name_text : (e : Bool) (name : List ℕ) → map text_said ((if e then dylinker_for else dylib_for LC_ID_DYLIB 1 0 0 name) ∷ [])
    ≡ (if e then head.path_command LC_LOAD_DYLINKER [] DYLINKER else head.path_command LC_ID_DYLIB (1 ∷ 0 ∷ 0 ∷ []) name) ∷ []
unfolding text_said spelling
name_text true name = ap (λ (t : List ℕ). t ∷ []) (path_said LC_LOAD_DYLINKER [] DYLINKER)
name_text false name = ap (λ (t : List ℕ). t ∷ []) (path_said LC_ID_DYLIB (1 ∷ 0 ∷ 0 ∷ []) name)

segments_text : (p : Placed) → map text_said (map (segment_for p) p.segments) ≡ map (head.segment_for p) p.segments
unfolding text_said spelling
segments_text p = each_text (segment_for p) (head.segment_for p) p.segments (λ s. refl)

libraries_text : (names : List (List ℕ)) → map text_said (map needed_dylib_for names)
    ≡ map (head.path_command LC_LOAD_DYLIB (2 ∷ 0x054c0000 ∷ 0x00010000 ∷ [])) names
unfolding text_said spelling
libraries_text names =
    each_text needed_dylib_for (head.path_command LC_LOAD_DYLIB (2 ∷ 0x054c0000 ∷ 0x00010000 ∷ [])) names
    (path_said LC_LOAD_DYLIB (2 ∷ 0x054c0000 ∷ 0x00010000 ∷ []))

rpaths_text : (paths : List (List ℕ)) → map text_said (map rpath_for paths) ≡ map (head.path_command LC_RPATH []) paths
unfolding text_said spelling
rpaths_text paths = each_text rpath_for (head.path_command LC_RPATH []) paths (path_said LC_RPATH [])

table_said : (number at size : ℕ) → text_said (linkedit_for number at size) ≡ head.table_command number at size
unfolding text_said spelling
table_said number at size = numbers_said number 16 (at ∷ size ∷ []) refl

symtab_said : (counts : Counts) (p : Placed) → text_said (symtab_for counts p)
    ≡ head.command LC_SYMTAB (row_bytes little 4 (p.linkedit.symtab.start ∷ counts.symbols ∷ p.linkedit.strtab.start ∷ counts.strings ∷ []))
unfolding text_said spelling
symtab_said counts p =
    numbers_said LC_SYMTAB 24 (p.linkedit.symtab.start ∷ counts.symbols ∷ p.linkedit.strtab.start ∷ counts.strings ∷ []) refl

-- the commands of a link stand between those of segments and those of tables
parts_joined : (s e u v n ls rs ts : List (List ℕ)) → s ++ e ++ u ++ v ++ n ++ ls ++ rs ++ ts ≡ s ++ (e ++ u ++ v ++ n ++ ls ++ rs) ++ ts
parts_joined s e u v n ls rs ts = simp append_assoc refl

tables_text : (counts : Counts) (p : Placed) (trie : ℕ)
    → map text_said (linkedit_for LC_DYLD_CHAINED_FIXUPS p.linkedit.fixups.start (range_size p.linkedit.fixups)
    ∷ linkedit_for LC_DYLD_EXPORTS_TRIE p.linkedit.trie.start trie ∷ symtab_for counts p
    ∷ linkedit_for LC_CODE_SIGNATURE p.linkedit.signature.start (range_size p.linkedit.signature) ∷ [])
    ≡ head.table_command LC_DYLD_CHAINED_FIXUPS p.linkedit.fixups.start (range_size p.linkedit.fixups)
    ∷ head.table_command LC_DYLD_EXPORTS_TRIE p.linkedit.trie.start trie
    ∷ head.command LC_SYMTAB (row_bytes little 4 (p.linkedit.symtab.start ∷ counts.symbols ∷ p.linkedit.strtab.start ∷ counts.strings ∷ []))
    ∷ head.table_command LC_CODE_SIGNATURE p.linkedit.signature.start (range_size p.linkedit.signature) ∷ []
tables_text counts p trie =
    rw (
      table_said LC_DYLD_CHAINED_FIXUPS p.linkedit.fixups.start (range_size p.linkedit.fixups),
      table_said LC_DYLD_EXPORTS_TRIE p.linkedit.trie.start trie,
      symtab_said counts p,
      table_said LC_CODE_SIGNATURE p.linkedit.signature.start (range_size p.linkedit.signature),
    ) refl

uuid_text : (uuid : List ℕ) → map text_said (uuid_for uuid ∷ []) ≡ head.command LC_UUID (uuid_written uuid) ∷ []
uuid_text uuid = ap (λ (t : List ℕ). t ∷ []) (uuid_said uuid)

-- THE texts of a link's commands
pub commands-spelled : (l : Link) (counts : Counts) (p : Placed) (uuid : List ℕ) (trie : ℕ)
    → map text_said (commands_for l counts p uuid trie) ≡ head.commands_for l counts p uuid trie
unfolding commands_for head.commands_for
commands-spelled l counts p uuid trie =
    let offset : ℕ = address_of p (target_of_name l l.entry) - p.base in
    simp map-append (rw (
      segments_text p,
      entry_text l.executable (entry_point_for l p) (head.command LC_MAIN (row_bytes little 8 (offset ∷ 0 ∷ []))) (entry_said l p),
      uuid_text uuid,
      versions_text l.versions,
      name_text l.executable l.install_name,
      libraries_text (libraries_needed l),
      rpaths_text l.rpaths,
      tables_text counts p trie,
    ) (parts_joined (map (head.segment_for p) p.segments)
    (list_if l.executable (head.command LC_MAIN (row_bytes little 8 (offset ∷ 0 ∷ [])) ∷ []))
    (head.command LC_UUID (uuid_written uuid) ∷ []) (head.versions_for l.versions)
    ((if l.executable then head.path_command LC_LOAD_DYLINKER [] DYLINKER
    else head.path_command LC_ID_DYLIB (1 ∷ 0 ∷ 0 ∷ []) l.install_name) ∷ [])
    (map (head.path_command LC_LOAD_DYLIB (2 ∷ 0x054c0000 ∷ 0x00010000 ∷ [])) (libraries_needed l))
    (map (head.path_command LC_RPATH []) l.rpaths)
    (head.table_command LC_DYLD_CHAINED_FIXUPS p.linkedit.fixups.start (range_size p.linkedit.fixups)
    ∷ head.table_command LC_DYLD_EXPORTS_TRIE p.linkedit.trie.start trie
    ∷ head.command LC_SYMTAB (row_bytes little 4 (p.linkedit.symtab.start ∷ counts.symbols ∷ p.linkedit.strtab.start ∷ counts.strings ∷ []))
    ∷ head.table_command LC_CODE_SIGNATURE p.linkedit.signature.start (range_size p.linkedit.signature) ∷ [])))

-- texts joined end to end
joined : (commands : List Command) → concat (map text_said (map said_by commands)) ≡ commands_text commands
unfolding commands_text
joined [] = refl
joined (c ∷ commands) = ap (λ (t : List ℕ). text_said (said_by c) ++ t) (joined commands)

header-long : (h : MachHeader) → length (spelling mach_header_rows h) ≡ 32
unfolding spelling row_bytes le_bytes
header-long h = refl

-- THE head of a link
pub head_spelled : HeadIsSpelled
unfolding head_text head_for spelling
head_spelled l counts uuid p trie kind commands executable locals are long =
    ap (λ (h : MachHeader). spelling mach_header_rows h ++ commands_text commands) header
    ∙ ap (λ (t : List ℕ). spelling mach_header_rows (header_with l p (length texts) (sum_by length texts)) ++ t) (sym all)
  where
    texts : List (List ℕ)
    texts = head.commands_for l counts p uuid trie

    said : map text_said (map said_by commands) ≡ texts
    said = ap (map text_said) are ∙ commands-spelled l counts p uuid trie

    all : concat texts ≡ commands_text commands
    all = ap concat (sym said) ∙ joined commands

    count : length commands ≡ length texts
    count = sym (length-map commands said_by) ∙ sym (length-map (map said_by commands) text_said) ∙ ap length said

    size : commands_size commands ≡ sum_by length texts
    size =
        omega (
          arith,
          long,
          length-append (spelling mach_header_rows (header_of_kind kind commands)) (commands_text commands),
          header-long (header_of_kind kind commands),
          length-joined texts,
          ap length all,
        )

    told : ℕ → ℕ → Bool → Bool → MachHeader
    told n bytes e t = record (header_of_kind (record { executable = e; thread_locals = t }) commands) { ncmds = n; sizeofcmds = bytes }

    header : header_of_kind kind commands ≡ header_with l p (length texts) (sum_by length texts)
    header =
        ap (λ (n : ℕ). told n (commands_size commands) kind.executable kind.thread_locals) count
        ∙ ap (λ (n : ℕ). told (length texts) n kind.executable kind.thread_locals) size
        ∙ ap (λ (e : Bool). told (length texts) (sum_by length texts) e kind.thread_locals) executable
        ∙ ap (told (length texts) (sum_by length texts) l.executable) locals

-- and a reader finds it
pub head_found_again : HeadIsFoundAgain
head_found_again l counts uuid b p says kind commands executable locals are long readable =
    let spelled = head_spelled l counts uuid p says.trie kind commands executable locals are long in
    found_said l counts uuid b p says.trie kind commands executable locals are
    (readable.found b (subst (λ (text : List ℕ). Stands b (record { at = 0; text = text })) (sym spelled) says.text))
