-- The options of ld64 and lld by name: which words behind them are their operands, and what each does. The manual pages ld(1) of both
-- describe them.
use Rattle.std.specs.Prelude.{ℕ, List, [], ◌∷◌, ◌++◌, map, codes, drop, length, nat_eq, Bool, ◌&&◌, ◌||◌, if◌then◌else◌}
use Rattle.std.specs.List.{find, starts_with}
use Rattle.std.specs.Option.{unwrap_or}
use Rattle.std.specs.Str.{bytes_eq}
use Rattle.ld64_words.specs.declared.effects.CoreName.{CoreName}
use Rattle.ld64_words.specs.declared.effects.CoreName.TheVariants.{InstallName, Root, Library, Framework}
use Rattle.ld64_words.specs.declared.effects.Effect.{Effect}
use Rattle.ld64_words.specs.declared.effects.Effect.TheVariants.{Kept, Renamed, First, Lowest, Noted, Marked, Path, Ignored, Refused, Unread}
use Rattle.ld64_words.specs.declared.effects.Note.TheVariants.{Version, FatalWarnings, AllMembers, ObjcMembers, AllMembersOf, MapFile, CurrentVersion, CompatibilityVersion, HeaderRoom, WantedSymbol, WeakFile, WeakLibrary, WeakFramework, NeededFile, NeededLibrary, NeededFramework}
use Rattle.ld64_words.specs.declared.effects.Why.TheVariants.{Default, Slides, Signed, Bound, StripsNothing, MergesNothing, ExportsAll, NoTables, NoIslands, NoOptions, NoWarnings, Obsolete, SameBytes, NoLto, NoDebugMap, NoDependents, NoDependencyFile, OtherOutput, OtherTarget, SdkVersion, LooksUp, OneDefinition, Order, FromFile, Placed, Stack, Exports, Reexports, Lazy, Hides, Strips, SignatureStands, UuidStands, Commands, Chains, Unwind, ObjcStubs, Initializers, Searches, Bitcode, Unknown}
use Rattle.ld64_words.specs.declared.table.Operands.{Operands}
use Rattle.ld64_words.specs.declared.table.Operands.TheVariants.{Behind, Joined}
use Rattle.ld64_words.specs.declared.table.Row.{Row}

-- an option: its name, the text that its first operand has to be (any, where that is empty), its operands, and what it does
pub record OptionRow : Type 0 where
  pub name : List ℕ
  pub first : List ℕ
  pub operands : Operands
  pub effect : Effect

-- a row by its parts, the name last
abbrev pub row : Operands → Effect → List ℕ → List ℕ → OptionRow
row operands effect first name = record { name = name; first = first; operands = operands; effect = effect }

-- a word of the core under which an option is passed on
abbrev pub core_text : CoreName → List ℕ
core_text InstallName = codes "-install_name"
core_text Root = codes "-syslibroot"
core_text Library = codes "-l"
core_text Framework = codes "-framework"

-- THE options that are taken, by their whole names
unfoldable pub TAKEN : List OptionRow
TAKEN =
    row (Behind 1) Kept (codes "arm64") (codes "-arch")
    ∷ row (Behind 3) Kept (codes "macos") (codes "-platform_version")
    ∷ row (Behind 1) (Ignored Default) (codes "error") (codes "-undefined")
    ∷ row (Behind 1) (Ignored Default) (codes "ignore_dylibs") (codes "-commons")
    ∷ row (Behind 1) (Ignored Default) (codes "non-weak") (codes "-weak_reference_mismatches")
    ∷ map (row (Behind 0) Kept []) (codes "-dylib" ∷ codes "-dead_strip_dylibs" ∷ codes "-headerpad_max_install_names" ∷ [])
    ++ map (row (Behind 1) Kept []) (codes "-o" ∷ codes "-e" ∷ codes "-install_name" ∷ codes "-exported_symbols_list" ∷
    codes "-rpath" ∷ codes "-L" ∷ codes "-F" ∷ codes "-l" ∷ codes "-framework" ∷ [])
    ++ map (row (Behind 1) (Renamed InstallName) []) (codes "-dylib_install_name" ∷ [])
    ++ map (row (Behind 1) (First Root) []) (codes "-syslibroot" ∷ [])
    ++ map (row (Behind 1) (First InstallName) []) (codes "-final_output" ∷ [])
    ++ map (row (Behind 1) Lowest []) (codes "-macos_version_min" ∷ codes "-macosx_version_min" ∷ [])
    ++ map (row (Behind 0) (Noted Version) []) (codes "-v" ∷ codes "-version_details" ∷ codes "--version" ∷ [])
    ++ map (row (Behind 0) (Noted FatalWarnings) []) (codes "-fatal_warnings" ∷ [])
    ++ map (row (Behind 0) (Noted AllMembers) []) (codes "-all_load" ∷ [])
    ++ map (row (Behind 0) (Noted ObjcMembers) []) (codes "-ObjC" ∷ [])
    ++ map (row (Behind 1) (Noted MapFile) []) (codes "-map" ∷ [])
    ++ map (row (Behind 1) (Noted CurrentVersion) []) (codes "-current_version" ∷ codes "-dylib_current_version" ∷ [])
    ++ map (row (Behind 1) (Noted CompatibilityVersion) []) (codes "-compatibility_version" ∷ codes "-dylib_compatibility_version" ∷ [])
    ++ map (row (Behind 1) (Noted HeaderRoom) []) (codes "-headerpad" ∷ [])
    ++ map (row (Behind 1) (Noted WantedSymbol) []) (codes "-u" ∷ [])
    ++ map (row (Behind 1) (Path AllMembersOf) []) (codes "-force_load" ∷ [])
    ++ map (row (Behind 1) (Path WeakFile) []) (codes "-weak_library" ∷ [])
    ++ map (row (Behind 1) (Path NeededFile) []) (codes "-needed_library" ∷ [])
    ++ map (row (Behind 1) (Marked Framework WeakFramework) []) (codes "-weak_framework" ∷ [])
    ++ map (row (Behind 1) (Marked Framework NeededFramework) []) (codes "-needed_framework" ∷ [])
    ++ map (row (Behind 1) Unread []) (codes "-filelist" ∷ [])
    ++ map (row (Behind 0) (Ignored Default) []) (codes "-execute" ∷ codes "-dynamic" ∷ codes "-search_paths_first" ∷
    codes "-twolevel_namespace" ∷ codes "-noall_load" ∷ codes "-fixup_chains" ∷ codes "-init_offsets" ∷
    codes "-no_application_extension" ∷ codes "-no_encryption" ∷ codes "-version_load_command" ∷ [])
    ++ map (row (Behind 0) (Ignored Slides) []) (codes "-pie" ∷ codes "-no_pie" ∷ [])
    ++ map (row (Behind 0) (Ignored Signed) []) (codes "-adhoc_codesign" ∷ [])
    ++ map (row (Behind 0) (Ignored Bound) []) (codes "-bind_at_load" ∷ [])
    ++ map (row (Behind 0) (Ignored StripsNothing) []) (codes "-x" ∷ codes "-S" ∷ codes "-dead_strip" ∷
    codes "-no_dead_strip_inits_and_terms" ∷ [])
    ++ map (row (Behind 0) (Ignored MergesNothing) []) (codes "-no_deduplicate" ∷ codes "-no_objc_category_merging" ∷
    codes "-no_objc_relative_method_lists" ∷ codes "-allow_dead_duplicates" ∷ [])
    ++ map (row (Behind 0) (Ignored ExportsAll) []) (codes "-export_dynamic" ∷ [])
    ++ map (row (Behind 0) (Ignored NoTables) []) (codes "-no_function_starts" ∷ codes "-no_data_in_code_info" ∷
    codes "-no_source_version" ∷ [])
    ++ map (row (Behind 0) (Ignored NoIslands) []) (codes "-no_branch_islands" ∷ codes "-ignore_optimization_hints" ∷ [])
    ++ map (row (Behind 0) (Ignored NoOptions) []) (codes "-ignore_auto_link" ∷ [])
    ++ map (row (Behind 1) (Ignored NoOptions) []) (codes "-ignore_auto_link_option" ∷ [])
    ++ map (row (Behind 0) (Ignored NoWarnings) []) (codes "-w" ∷ codes "-t" ∷ codes "-whyload" ∷ codes "-why_load" ∷
    codes "-demangle" ∷ codes "-print_statistics" ∷ codes "-arch_errors_fatal" ∷ codes "-no_arch_warnings" ∷
    codes "-warn_commons" ∷ codes "-warn_weak_exports" ∷ codes "-warn_compact_unwind" ∷ codes "-warn_unused_dylibs" ∷
    codes "-no_warn_unused_dylibs" ∷ codes "-warn_duplicate_libraries" ∷ codes "-no_warn_duplicate_libraries" ∷
    codes "-no_warn_inits" ∷ codes "-whatsloaded" ∷ codes "-debug_variant" ∷ codes "--color-diagnostics" ∷
    codes "-color-diagnostics" ∷ [])
    ++ map (row (Behind 1) (Ignored NoWarnings) []) (codes "-why_live" ∷ [])
    ++ map (row (Behind 0) (Ignored Obsolete) []) (codes "-single_module" ∷ codes "-multi_module" ∷
    codes "-twolevel_namespace_hints" ∷ codes "-prebind" ∷ codes "-noprebind" ∷ codes "-nofixprebinding" ∷
    codes "-prebind_all_twolevel_modules" ∷ codes "-noprebind_all_twolevel_modules" ∷ codes "-no_eh_labels" ∷
    codes "-keep_private_externs" ∷ codes "-d" ∷ codes "-arch_multiple" ∷ codes "-force_cpusubtype_ALL" ∷
    codes "-nomultidefs" ∷ codes "-noseglinkedit" ∷ codes "-ld_classic" ∷ codes "-ld_new" ∷ [])
    ++ map (row (Behind 1) (Ignored Obsolete) []) (codes "-multiply_defined" ∷ codes "-multiply_defined_unused" ∷ [])
    ++ map (row (Behind 0) (Ignored SameBytes) []) (codes "-reproducible" ∷ codes "-O0" ∷ codes "-O1" ∷ codes "-O2" ∷ codes "-O3" ∷ [])
    ++ map (row (Behind 1) (Ignored NoLto) []) (codes "-lto_library" ∷ codes "-object_path_lto" ∷ codes "-cache_path_lto" ∷
    codes "-prune_interval_lto" ∷ codes "-prune_after_lto" ∷ codes "-max_relative_cache_size_lto" ∷ codes "-mcpu" ∷
    codes "-mllvm" ∷ [])
    ++ map (row (Behind 1) (Ignored NoDebugMap) []) (codes "-oso_prefix" ∷ codes "-add_ast_path" ∷ [])
    ++ map (row (Behind 1) (Ignored NoDependents) []) (codes "-executable_path" ∷ codes "-dylib_file" ∷ codes "-client_name" ∷ [])
    ++ map (row (Behind 1) (Ignored NoDependencyFile) []) (codes "-dependency_info" ∷ [])

-- THE options that are refused, and those whose operand is joined
unfoldable pub OTHERS : List OptionRow
OTHERS =
    map (row (Behind 0) (Refused OtherOutput) []) (codes "-r" ∷ codes "-bundle" ∷ codes "-private_bundle" ∷ codes "-static" ∷
    codes "-preload" ∷ codes "-kext" ∷ codes "-dylinker" ∷ [])
    ++ map (row (Behind 0) (Refused OtherOutput) []) (codes "-bundle_loader" ∷ codes "-dylinker_install_name" ∷ [])
    ++ map (row (Behind 0) (Refused OtherTarget) []) (codes "-arch" ∷ codes "-platform_version" ∷ codes "-ios_version_min" ∷
    codes "-iphoneos_version_min" ∷ codes "-ios_simulator_version_min" ∷ codes "-maccatalyst_version_min" ∷
    codes "-tvos_version_min" ∷ codes "-watchos_version_min" ∷ [])
    ++ map (row (Behind 0) (Refused SdkVersion) []) (codes "-sdk_version" ∷ [])
    ++ map (row (Behind 0) (Refused LooksUp) []) (codes "-undefined" ∷ codes "-U" ∷ codes "-flat_namespace" ∷
    codes "-force_flat_namespace" ∷ [])
    ++ map (row (Behind 0) (Refused OneDefinition) []) (codes "-commons" ∷ codes "-weak_reference_mismatches" ∷
    codes "-interposable" ∷ codes "-interposable_list" ∷ [])
    ++ map (row (Behind 0) (Refused Order) []) (codes "-order_file" ∷ codes "-order_file_statistics" ∷ codes "-sectorder" ∷ [])
    ++ map (row (Behind 0) (Refused FromFile) []) (codes "-sectcreate" ∷ codes "-sectalign" ∷ codes "-sectobjectsymbols" ∷
    codes "-segcreate" ∷ [])
    ++ map (row (Behind 0) (Refused Placed) []) (codes "-image_base" ∷ codes "-seg1addr" ∷ codes "-segaddr" ∷ codes "-segprot" ∷
    codes "-segalign" ∷ codes "-seg_page_size" ∷ codes "-seg_addr_table" ∷ codes "-seg_addr_table_filename" ∷
    codes "-segs_read_only_addr" ∷ codes "-segs_read_write_addr" ∷ codes "-read_only_relocs" ∷ codes "-pagezero_size" ∷
    codes "-rename_section" ∷ codes "-rename_segment" ∷ codes "-move_to_rw_segment" ∷ codes "-move_to_ro_segment" ∷
    codes "-no_data_const" ∷ codes "-data_const" ∷ [])
    ++ map (row (Behind 0) (Refused Stack) []) (codes "-stack_size" ∷ codes "-stack_addr" ∷ codes "-allow_stack_execute" ∷
    codes "-allow_heap_execute" ∷ [])
    ++ map (row (Behind 0) (Refused Exports) []) (codes "-exported_symbol" ∷ codes "-unexported_symbol" ∷
    codes "-unexported_symbols_list" ∷ codes "-reexported_symbols_list" ∷ codes "-no_exported_symbols" ∷
    codes "-no_weak_exports" ∷ codes "-no_weak_imports" ∷ codes "-alias" ∷ codes "-alias_list" ∷
    codes "-exported_symbols_order" ∷ [])
    ++ map (row (Behind 0) (Refused Reexports) []) (codes "-reexport_library" ∷ codes "-reexport_framework" ∷ codes "-sub_library" ∷
    codes "-sub_umbrella" ∷ codes "-umbrella" ∷ codes "-allowable_client" ∷ codes "-upward_library" ∷
    codes "-upward_framework" ∷ codes "-merge_library" ∷ codes "-merge_framework" ∷ [])
    ++ map (row (Behind 0) (Refused Lazy) []) (codes "-lazy_library" ∷ codes "-lazy_framework" ∷ codes "-delay_library" ∷
    codes "-delay_framework" ∷ [])
    ++ map (row (Behind 0) (Refused Hides) []) (codes "-load_hidden" ∷ [])
    ++ map (row (Behind 0) (Refused Strips) []) (codes "-s" ∷ codes "-non_global_symbols_no_strip_list" ∷
    codes "-non_global_symbols_strip_list" ∷ [])
    ++ map (row (Behind 0) (Refused SignatureStands) []) (codes "-no_adhoc_codesign" ∷ [])
    ++ map (row (Behind 0) (Refused UuidStands) []) (codes "-no_uuid" ∷ codes "-random_uuid" ∷ [])
    ++ map (row (Behind 0) (Refused Commands) []) (codes "-no_version_load_command" ∷ codes "-source_version" ∷
    codes "-add_source_version" ∷ codes "-function_starts" ∷ codes "-data_in_code_info" ∷ codes "-mark_dead_strippable_dylib" ∷
    codes "-application_extension" ∷ codes "-encryptable" ∷ [])
    ++ map (row (Behind 0) (Refused Chains) []) (codes "-no_fixup_chains" ∷ codes "-fixup_chains_section" ∷ codes "-no_init_offsets" ∷ [])
    ++ map (row (Behind 0) (Refused Unwind) []) (codes "-no_compact_unwind" ∷ codes "-keep_dwarf_unwind" ∷
    codes "-no_keep_dwarf_unwind" ∷ [])
    ++ map (row (Behind 0) (Refused ObjcStubs) []) (codes "-objc_stubs_fast" ∷ codes "-objc_stubs_small" ∷
    codes "-objc_relative_method_lists" ∷ [])
    ++ map (row (Behind 0) (Refused Initializers) []) (codes "-init" ∷ codes "-no_inits" ∷ [])
    ++ map (row (Behind 0) (Refused Searches) []) (codes "-Z" ∷ codes "-search_dylibs_first" ∷ codes "-no_implicit_dylibs" ∷ [])
    ++ map (row (Behind 0) (Refused Bitcode) []) (codes "-bitcode_bundle" ∷ codes "-bitcode_hide_symbols" ∷
    codes "-bitcode_symbol_map" ∷ codes "-flto" ∷ [])
    ++ map (row Joined (Marked Library WeakLibrary) []) (codes "-weak-l" ∷ [])
    ++ map (row Joined (Marked Library NeededLibrary) []) (codes "-needed-l" ∷ [])
    ++ map (row Joined (Refused Reexports) []) (codes "-reexport-l" ∷ codes "-upward-l" ∷ codes "-merge-l" ∷ [])
    ++ map (row Joined (Refused Lazy) []) (codes "-lazy-l" ∷ codes "-delay-l" ∷ [])
    ++ map (row Joined (Refused Hides) []) (codes "-hidden-l" ∷ [])
    ++ map (row Joined Kept []) (codes "-l" ∷ codes "-L" ∷ codes "-F" ∷ [])
    ++ map (row Joined (Ignored SameBytes) []) (codes "--threads=" ∷ [])
    ++ map (row Joined (Ignored NoWarnings) []) (codes "--color-diagnostics=" ∷ codes "--error-limit=" ∷ [])
    ++ map (row Joined (Ignored MergesNothing) []) (codes "--icf=" ∷ [])
    ++ map (row Joined Unread []) (codes "@" ∷ [])
    ++ map (row Joined (Refused Unknown) []) (codes "-" ∷ [])

-- a word that is no option: the path of an input
abbrev pub input_row : OptionRow
input_row = row (Behind 0) Kept [] []

-- how many words behind an option are its operands
abbrev pub count_of : Operands → ℕ
count_of (Behind count) = count
count_of Joined = 0

-- the first word, or an empty text where there is none
abbrev pub first_of : List (List ℕ) → List ℕ
first_of [] = []
first_of (word ∷ words) = word

-- a word is an option's name, or begins with it where the operand is joined
abbrev pub is_named : Operands → List ℕ → List ℕ → Bool
is_named (Behind count) word name = bytes_eq name word
is_named Joined word name = starts_with nat_eq word name

-- a row fits a word with this first operand
unfoldable pub fits : List ℕ → List ℕ → OptionRow → Bool
fits word first row = is_named row.operands word row.name && (bytes_eq row.first [] || bytes_eq row.first first)

-- THE row of a word, where these words stand behind it: the first that fits of those that are taken, else of the others
unfoldable pub row_for : List ℕ → List (List ℕ) → OptionRow
row_for word behind =
    unwrap_or (find (fits word (first_of behind)) TAKEN) (unwrap_or (find (fits word (first_of behind)) OTHERS) input_row)

-- the operand: what follows the name in the same word, or the first word behind it
abbrev pub operand_of : OptionRow → List ℕ → List (List ℕ) → List ℕ
operand_of row word behind = by_place row.operands
  where
    by_place : Operands → List ℕ
    by_place (Behind count) = first_of behind
    by_place Joined = if starts_with nat_eq word row.name then drop (length row.name) word else []

-- a row that was found, without where its texts lie in memory
abbrev pub row_said : Row → OptionRow
row_said found = row found.operands found.effect found.first.now found.name.now
