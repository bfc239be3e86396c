-- What the definitions of the loader say of small images, by computing: segments, libraries, tables and page starts; and
-- each rule of the loader, kept by the examples and broken alone by a change of one.
use Rattle.std.proofs.Common.{◌≡◌, ℕ, ◌+◌, ◌-◌, ◌^◌, List, [], ◌∷◌, ◌++◌, replicate, refl, map, length}
use Rattle.std.specs.Prelude.{codes, All}
use Rattle.std.specs.List.{AllByRecursion}
use Rattle.std.proofs.lemmas.List.Elements.{All-weaker, All-from_recursion}
use Rattle.macho_bytes.specs.Numbers.{le_at, le_bytes, row_bytes}
use Rattle.macho_bytes.specs.Layouts.{reading}
use Rattle.macho_model.specs.declared.rules.LoadRule.{LoadRule}
use Rattle.macho_model.specs.declared.rules.LoadRule.TheVariants.{L1, L2, L3, L4, L5, L6, L7, L8, L9}
use Rattle.macho_model.specs.Commands.{header_of, commands_from, commands_of, commands_end}
use Rattle.macho_model.specs.Images.{segments_of, mapped_segments, base_of, libraries_of, tables_of}
use Rattle.macho_model.specs.Chain.{chain_segments}
use Rattle.macho_model.specs.Loader.{IsAccepted}
use Rattle.macho_model_checks.proofs.Examples.{words8, words, halves, name16, changed}
use Rattle.macho_model_checks.proofs.ExampleImages.{smallest, image_with_fixups, one_page, two_pages}
use Rattle.macho_model_checks.proofs.LoaderTests.{load_verdict, load_all_but, load_all_pass, is_accepted, LoadBreaksAlone, load_breaks_alone}
use Rattle.macho_model.proofs.PageChains.{no_page_of}

-- the commands of the smallest image, its base, and the addresses of what is mapped
pub commands_of_smallest : commands_of smallest ≡
    record { at = 32; number = 0x19; size = 72 } ∷ record { at = 104; number = 0x19; size = 152 }
    ∷ record { at = 256; number = 0x80000028; size = 24 }
    ∷ record { at = 280; number = 0xe; size = 32 } ∷ []
unfolding commands_of commands_from header_of reading le_at row_bytes le_bytes words8 words name16 smallest
commands_of_smallest = refl

pub base_of_smallest : (base_of smallest ≡ 0x100000000) × (map (λ s. s.vmaddr) (mapped_segments smallest) ≡ 0x100000000 ∷ [])
    × (length (segments_of smallest) ≡ 2)
unfolding base_of mapped_segments segments_of commands_of commands_from header_of reading le_at row_bytes le_bytes words8 words name16
    smallest
base_of_smallest = (refl, refl, refl)

-- the smallest image has no fixup table, and the loader accepts it
pub no_tables : tables_of smallest ≡ []
unfolding tables_of commands_of commands_from header_of reading le_at row_bytes le_bytes words8 words name16 smallest
no_tables = refl

pub smallest_is_accepted : IsAccepted smallest
unfolding load_verdict tables_of base_of segments_of commands_of commands_from commands_end header_of libraries_of reading le_at row_bytes
    le_bytes words8 words name16 smallest
smallest_is_accepted = is_accepted smallest refl (λ number s page a is on. absurd (no_page_of smallest no_tables number s page a is on))

-- what the image with fixups says of its segments, its library and its table
pub segments_of_one_page : (map (λ s. s.vmaddr) (mapped_segments one_page) ≡ 0x100000000 ∷ 0x100004000 ∷ [])
    × (libraries_of one_page ≡ codes "/usr/lib/libSystem.B.dylib" ∷ []) × (tables_of one_page ≡ record { at = 320; size = 83 } ∷ [])
unfolding mapped_segments tables_of base_of segments_of commands_of commands_from header_of libraries_of reading le_at row_bytes le_bytes
    words8 words halves name16 image_with_fixups one_page
segments_of_one_page = (refl, refl, refl)

-- each segment as chains see it, with its page starts
pub chain_segments_of_two_pages : chain_segments two_pages ≡
    record { address = 0; file_offset = 0; file_size = 0; starts = [] }
    ∷ record { address = 0x100000000; file_offset = 0; file_size = 0x4000; starts = [] }
    ∷ record { address = 0x100004000; file_offset = 0x4000; file_size = 0x4010; starts = 0x10 ∷ 8 ∷ [] } ∷ []
unfolding chain_segments mapped_segments tables_of base_of segments_of commands_of commands_from header_of libraries_of reading le_at
    row_bytes le_bytes words8 words halves name16 image_with_fixups two_pages
chain_segments_of_two_pages = refl

-- its tests
pub verdict_of_one_page : load_verdict one_page ≡ load_all_pass
unfolding load_verdict tables_of base_of segments_of commands_of commands_from commands_end header_of libraries_of reading le_at row_bytes
    le_bytes words8 words halves name16 image_with_fixups one_page
verdict_of_one_page = refl

pub verdict_of_two_pages : load_verdict two_pages ≡ load_all_pass
unfolding load_verdict tables_of base_of segments_of commands_of commands_from commands_end header_of libraries_of reading le_at row_bytes
    le_bytes words8 words halves name16 image_with_fixups two_pages
verdict_of_two_pages = refl

-- A change of the image of one page and the rule that it breaks.
pub record LoadChange : Type 0 where
  pub rule : LoadRule
  pub at : ℕ
  pub text : List ℕ

abbrev pub changed_image : LoadChange → List ℕ
changed_image c = changed one_page c.at c.text

abbrev pub load_changes : List LoadChange
load_changes =
    -- another magic number; the type of an object
    record { rule = L1; at = 0; text = words (0xfeedface ∷ []) }
    ∷ record { rule = L1; at = 12; text = words (1 ∷ []) }
    -- the last command passes `sizeofcmds`
    ∷ record { rule = L2; at = 20; text = words (287 ∷ []) }
    -- data that may be executed; `__TEXT` that may be written, at first alone
    ∷ record { rule = L3; at = 176 + 56; text = words (7 ∷ 7 ∷ []) }
    ∷ record { rule = L3; at = 104 + 60; text = words (7 ∷ []) }
    -- more file bytes than bytes in memory; file bytes behind the end
    ∷ record { rule = L4; at = 104 + 32; text = words8 (0 ∷ []) }
    ∷ record { rule = L4; at = 176 + 48; text = words8 (33 ∷ []) }
    -- an address, a size and a file offset that are no multiple of a page
    ∷ record { rule = L5; at = 32 + 32; text = words8 (0xfffff000 ∷ []) }
    ∷ record { rule = L5; at = 176 + 32; text = words8 (0x7000 ∷ []) }
    -- a segment that begins below the end of the one before it; one that ends behind 2 ^ 64
    ∷ record { rule = L6; at = 32 + 32; text = words8 (0x100004000 ∷ []) }
    ∷ record { rule = L6; at = 176 + 32; text = words8 ((2 ^ 64 - 0x4000) ∷ []) }
    -- `__TEXT` without file bytes for the commands
    ∷ record { rule = L7; at = 104 + 48; text = words8 (319 ∷ []) }
    -- `__DATA` named `__TEXT` too, as it may be accessed for
    ∷ record {
      rule = L7;
      at = 176 + 8;
      text = name16 (codes "__TEXT") ++ words8 (0x100004000 ∷ 0x8000 ∷ 0x4000 ∷ 32 ∷ []) ++ words (5 ∷ 5 ∷ []);
    }
    -- two fixup tables, the first in place of the library, and no imports
    ∷ record {
      rule = L8;
      at = 248;
      text = words (0x80000034 ∷ 56 ∷ 320 ∷ 83 ∷ []) ++ replicate 40 0 ++ words (0x80000034 ∷ 16 ∷ 320 ∷ 83 ∷ [])
          ++ words (0 ∷ 28 ∷ 72 ∷ 76 ∷ 0 ∷ []);
    }
    -- a table that passes the file; another version, import format, page size, pointer format; starts of another address
    ∷ record { rule = L8; at = 304 + 12; text = words (16097 ∷ []) }
    ∷ record { rule = L8; at = 320; text = words (1 ∷ []) }
    ∷ record { rule = L8; at = 320 + 20; text = words (3 ∷ []) }
    ∷ record { rule = L8; at = 320 + 48; text = halves (0x1000 ∷ []) }
    ∷ record { rule = L8; at = 320 + 50; text = halves (2 ∷ []) }
    ∷ record { rule = L8; at = 320 + 52; text = words8 (0x8000 ∷ []) }
    -- more segments than commands of segments; an import table, of no imports, that begins behind the table
    ∷ record { rule = L8; at = 320 + 28; text = words (4 ∷ []) }
    ∷ record { rule = L8; at = 320 + 8; text = words (84 ∷ 76 ∷ 0 ∷ []) }
    -- an import of library 0, of library 2 of one, and one whose name has no end
    ∷ record { rule = L9; at = 320 + 72; text = words (0x200 ∷ []) }
    ∷ record { rule = L9; at = 320 + 72; text = words (0x202 ∷ []) }
    ∷ record { rule = L9; at = 320 + 72; text = words (0xe01 ∷ []) }
    ∷ []

-- what the tests say of each change
load_verdicts : AllByRecursion (λ c. load_verdict (changed_image c) ≡ load_all_but c.rule) load_changes
unfolding load_verdict tables_of base_of segments_of commands_of commands_from commands_end header_of libraries_of reading le_at row_bytes
    le_bytes words8 words halves name16 image_with_fixups one_page changed
load_verdicts
    = (
      refl,
      (
        refl,
        (
          refl,
          (
            refl,
            (
              refl,
              (
                refl,
                (
                  refl,
                  (
                    refl,
                    (
                      refl,
                      (
                        refl,
                        (
                          refl,
                          (
                            refl,
                            (refl, (refl, (refl, (refl, (refl, (refl, (refl, (refl, (refl, (refl, (refl, (refl, (refl, tt))))))))))))),
                          ),
                        ),
                      ),
                    ),
                  ),
                ),
              ),
            ),
          ),
        ),
      ),
    )

-- Each change breaks its rule, and no other one that has a test.
pub each_load_change_breaks_its_rule : All (λ c. LoadBreaksAlone (changed_image c) c.rule) load_changes
each_load_change_breaks_its_rule =
    All-weaker (λ c. load_verdict (changed_image c) ≡ load_all_but c.rule) (λ c. LoadBreaksAlone (changed_image c) c.rule)
    (λ c is. load_breaks_alone (changed_image c) c.rule is) load_changes
    (All-from_recursion (λ c. load_verdict (changed_image c) ≡ load_all_but c.rule) load_changes load_verdicts)
