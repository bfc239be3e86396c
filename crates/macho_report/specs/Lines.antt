-- What a run prints: the line of a fault, the lines of `-map`, and those of `-generate`.
use Rattle.std.specs.Prelude.{ℕ, ◌==◌, if◌then◌else◌, List, [], ◌∷◌, ◌++◌, codes, length, decimal, Option, None, Some, find}
use Rattle.std.specs.Option.{option_map_or}
use Rattle.std.specs.List.{flat_map}
use Rattle.hex.specs.Hex.{encode_lower}
use Rattle.sha2.specs.Sha256.{sha256}
use Rattle.macho_bytes.specs.Texts.{name_of}
use Rattle.macho_args.specs.Settings.{Settings, Input}
use Rattle.macho_args.specs.declared.fault.ArgsFault.{ArgsFault}
use Rattle.macho_args.specs.declared.fault.ArgsFault.TheVariants as words
use Rattle.macho_stub_lines.specs.declared.fault.StubRule.{StubRule}
use Rattle.macho_stub_lines.specs.declared.fault.StubRule.TheVariants as stub
use Rattle.macho_model.specs.declared.rules.ObjectRule.{ObjectRule}
use Rattle.macho_model.specs.declared.rules.ObjectRule.TheVariants as object
use Rattle.macho_model.specs.declared.rules.UnwindRule.{UnwindRule}
use Rattle.macho_model.specs.declared.rules.UnwindRule.TheVariants as unwind
use Rattle.macho_model.specs.declared.targets.Limit.{Limit}
use Rattle.macho_model.specs.declared.targets.Limit.TheVariants as limit
use Rattle.macho_model.specs.declared.targets.Site.{Site}
use Rattle.macho_model.specs.declared.targets.Site.TheVariants.{Field, Slot, Stub}
use Rattle.macho_model.specs.declared.placed.PlacedSection.{PlacedSection}
use Rattle.macho_model.specs.Faults.{LinkFault}
use Rattle.macho_model.specs.Faults as refusal
use Rattle.macho_model.specs.Links.{Link, header_at}
use Rattle.macho_model.specs.Placement.{id_of}
use Rattle.macho_answer.specs.declared.fault.LinkError.{LinkError}
use Rattle.macho_answer.specs.declared.fault.LinkError.TheVariants as error
use Rattle.macho_answer.specs.declared.fault.InputFault.TheVariants as input
use Rattle.macho_answer.specs.Errors.{fault_of}
use Rattle.macho_answer.specs.declared.image.LinkedImage.{LinkedImage}
use Rattle.macho_printing.specs.Printing.{hex_text}
use Rattle.macho_job.specs.Names.{file_name, last_name}
use Rattle.macho_job.specs.declared.fault.Fault.{Fault}
use Rattle.macho_job.specs.declared.fault.Fault.TheVariants.{MissingFile, UnknownKind, Input as InputRefused, Link as LinkRefused, Words, Read, Write, Print, OutOfMemory}

-- what is told of a word: the path or name of the input that stands in it, else the path of the list that does
abbrev pub word_name : List Input → List (ℕ × List ℕ) → ℕ → List ℕ
word_name inputs lists word =
    option_map_or (λ input. input.name) (find (λ input. input.word == word) inputs)
    (option_map_or (λ list. list.1) (find (λ list. list.0 == word) lists) [])

-- an argument that is not accepted: its index, and why
abbrev pub broken_word : ArgsFault → ℕ × List ℕ
broken_word (words.MissingValue word) = (word, codes "MissingValue")
broken_word (words.Unknown word) = (word, codes "Unknown")
broken_word (words.Unsupported word) = (word, codes "Unsupported")
broken_word (words.BadVersion word) = (word, codes "BadVersion")
broken_word (words.BadPlatform word) = (word, codes "BadPlatform")
broken_word (words.BadArch word) = (word, codes "BadArch")
broken_word (words.BadUuid word) = (word, codes "BadUuid")
broken_word (words.BadNumber word) = (word, codes "BadNumber")
broken_word words.OutOfMemory = (0, codes "OutOfMemory")

-- the names of the rules
abbrev pub object_rule : ObjectRule → List ℕ
object_rule object.O1 = codes "O1"
object_rule object.O2 = codes "O2"
object_rule object.O3 = codes "O3"
object_rule object.O4 = codes "O4"
object_rule object.O5 = codes "O5"
object_rule object.O6 = codes "O6"
object_rule object.O7 = codes "O7"
object_rule object.O8 = codes "O8"
object_rule object.O9 = codes "O9"
object_rule object.O10 = codes "O10"
object_rule object.O11 = codes "O11"
object_rule object.O12 = codes "O12"
object_rule object.O13 = codes "O13"
object_rule object.O14 = codes "O14"

abbrev pub stub_rule : StubRule → List ℕ
stub_rule stub.S1 = codes "S1"
stub_rule stub.S2 = codes "S2"
stub_rule stub.S3 = codes "S3"
stub_rule stub.S4 = codes "S4"
stub_rule stub.S5 = codes "S5"
stub_rule stub.S6 = codes "S6"
stub_rule stub.S7 = codes "S7"
stub_rule stub.S8 = codes "S8"
stub_rule stub.S9 = codes "S9"

abbrev pub unwind_rule : UnwindRule → List ℕ
unwind_rule unwind.U1 = codes "U1"
unwind_rule unwind.U2 = codes "U2"
unwind_rule unwind.U3 = codes "U3"
unwind_rule unwind.U4 = codes "U4"
unwind_rule unwind.U5 = codes "U5"
unwind_rule unwind.U6 = codes "U6"
unwind_rule unwind.U7 = codes "U7"
unwind_rule unwind.U8 = codes "U8"

-- what is too many
abbrev pub limit_name : Limit → List ℕ
limit_name limit.Segments = codes "segments"
limit_name limit.Libraries = codes "libraries"
limit_name limit.Sections = codes "sections"
limit_name limit.Personalities = codes "personalities"
limit_name limit.Imports = codes "imports"
limit_name limit.NameBytes = codes "name bytes"
limit_name limit.Symbols = codes "symbols"
limit_name limit.Pages = codes "pages"

-- A text is a list of pieces. Of a relocation, with its file by number: `FILE: section S, relocation N: `, then what is wrong there.
abbrev pub relocation_text : List (List ℕ) → ℕ → ℕ → ℕ → List ℕ → List (List ℕ)
relocation_text paths number section relocation text =
    file_name paths number ∷ codes ": section " ∷ decimal section ∷ codes ", relocation " ∷ decimal relocation ∷ codes ": " ∷ text ∷ []

-- a place of the image and what is wrong there
abbrev pub site_text : List (List ℕ) → Site → List ℕ → List (List ℕ)
site_text paths (Field number section relocation) text = relocation_text paths number section relocation text
site_text paths (Slot index) text = codes "slot " ∷ decimal index ∷ codes ": " ∷ text ∷ []
site_text paths (Stub index) text = codes "stub " ∷ decimal index ∷ codes ": " ∷ text ∷ []

-- THE texts of the refusals of a link, a row for each
abbrev pub link_text : List (List ℕ) → LinkFault → List (List ℕ)
link_text paths (refusal.DuplicateSymbol name first second) =
    codes "duplicate symbol " ∷ name ∷ codes " in " ∷ file_name paths first ∷ codes " and " ∷ file_name paths second ∷ []
link_text paths (refusal.UndefinedSymbol name number) = codes "undefined symbol " ∷ name ∷ codes " in " ∷ file_name paths number ∷ []
link_text paths (refusal.EntryNotDefined name) = codes "entry symbol " ∷ name ∷ codes " is not defined" ∷ []
link_text paths (refusal.ExportListMissing name) = codes "exported symbol not defined: " ∷ name ∷ []
link_text paths (refusal.BadInitializer number section offset) =
    file_name paths number ∷ codes ": bad initializer at " ∷ decimal offset ∷ codes " in section " ∷ decimal section ∷ []
link_text paths (refusal.BadUnwind number section entry rule) =
    file_name paths number ∷ codes ": unwind entry " ∷ decimal entry ∷ codes " breaks rule " ∷ unwind_rule rule ∷ []
link_text paths (refusal.UnsupportedRelocation number section relocation) =
    relocation_text paths number section relocation (codes "unsupported")
link_text paths (refusal.OverlappingFields number section first second) =
    file_name paths number ∷ codes ": section " ∷ decimal section ∷ codes ", relocations " ∷ decimal first ∷ codes " and " ∷ decimal second
    ∷ codes " overlap" ∷ []
link_text paths (refusal.BindAddend number section relocation addend) = relocation_text paths number section relocation (codes "bad addend")
link_text paths (refusal.FixupPlace number section relocation placement) =
    relocation_text paths number section relocation (codes "bad place")
link_text paths (refusal.TooMany what number placement) = codes "too many " ∷ limit_name what ∷ codes ": " ∷ decimal number ∷ []
link_text paths (refusal.ImageTooLarge placement) = codes "image too large" ∷ []
link_text paths (refusal.RebaseTarget at placement) = site_text paths at (codes "bad target")
link_text paths (refusal.RelocationRange at placement) = site_text paths at (codes "out of range")
link_text paths refusal.BadName = codes "bad name" ∷ []

-- The refusal of a linker: the rule that an input breaks, told by the path of the last file that was read; or that of the link, of
-- which want of memory tells nothing.
abbrev pub error_text : List (List ℕ) → LinkError → List (List ℕ)
error_text paths (error.BadInput (input.Object fault)) =
    last_name paths ∷ codes ": rule " ∷ object_rule fault.rule ∷ codes " at " ∷ decimal fault.place ∷ []
error_text paths (error.BadInput (input.Stub line rule)) =
    last_name paths ∷ codes ": rule " ∷ stub_rule rule ∷ codes " at " ∷ decimal line ∷ []
error_text paths refused = option_map_or (link_text paths) (fault_of refused) (codes "out of memory" ∷ [])

-- THE texts of the faults, a row for each, with the inputs and lists that were asked for and the paths of the files
abbrev pub fault_text : List Input → List (ℕ × List ℕ) → List (List ℕ) → Fault → List (List ℕ)
fault_text inputs lists paths (Words fault) = codes "bad word " ∷ decimal (broken_word fault).0 ∷ codes ": " ∷ (broken_word fault).1 ∷ []
fault_text inputs lists paths (MissingFile word) = codes "cannot find " ∷ word_name inputs lists word ∷ []
fault_text inputs lists paths (Read word) = codes "cannot read " ∷ word_name inputs lists word ∷ []
fault_text inputs lists paths (UnknownKind word kind) =
    word_name inputs lists word ∷ codes ": not an arm64 object, dynamic library or stub" ∷ []
fault_text inputs lists paths (InputRefused word refused) = error_text paths refused
fault_text inputs lists paths (LinkRefused refused) = error_text paths refused
fault_text inputs lists paths Write = codes "cannot write the output" ∷ []
fault_text inputs lists paths Print = codes "cannot print" ∷ []
fault_text inputs lists paths OutOfMemory = codes "out of memory" ∷ []

-- THE line of a text: the program's name before it, and a line feed behind it
abbrev pub line_of : List (List ℕ) → List ℕ
line_of text = flat_map (λ piece. piece) (codes "wild_macho: " ∷ (text ++ codes "\n" ∷ []))

-- THE line of a placed section in the map: its address, the size, segment and name of its header, and the path of its file
abbrev pub map_line : Link → List (List ℕ) → PlacedSection → List ℕ
map_line l paths q =
    let h = header_at l (id_of q) in
    flat_map (λ piece. piece) (hex_text q.address ∷ codes " " ∷ hex_text h.size ∷ codes " " ∷ name_of h.segname ∷ codes ","
    ∷ name_of h.sectname ∷ codes " " ∷ file_name paths q.file ∷ codes "\n" ∷ [])

-- THE lines of `-generate`, where it was given: how many objects, how many words the loader fixes up, how many bytes, and their
-- digest (FIPS 180-4)
abbrev pub totals : Option ℕ → LinkedImage → List ℕ
totals None image = []
totals (Some count) image =
    flat_map (λ piece. piece) (codes "objects " ∷ decimal count ∷ codes "\nfixups " ∷ decimal image.fixups ∷ codes "\nlength "
    ∷ decimal (length image.bytes.items) ∷ codes "\nsha256 " ∷ encode_lower (sha256 image.bytes.items) ∷ codes "\n" ∷ [])

-- THE text of a run: the lines of `-map`, where it was given, one for each placed section, and then those of `-generate`
abbrev pub run_lines : Settings → Link → List (List ℕ) → LinkedImage → List ℕ
run_lines s l paths image =
    (if s.map_lines then flat_map (map_line l paths) image.placement.sections.items else []) ++ totals s.generate image
