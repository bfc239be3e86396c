-- What a file says of a command is one of eleven things, by the command's number.
--
-- The tests of the number are taken in the order of the definition: where one passes, the number is known; where none
-- does, the command is another. In each case number and size that the record says are those that the walk met, since a
-- record begins with them.
use Rattle.std.proofs.Common.{◌≡◌, ℕ, ◌⊎◌, ◌==◌, Bool, true, false, List, inl, inr, refl, ap, ◌∙◌}
use Rattle.std.proofs.lemmas.Bool.{eqb-true}
use Rattle.macho_bytes.specs.Layouts.{reading, size_of}
use Rattle.macho_records.specs.Layouts.{load_command, segment_command, symtab_command}
use Rattle.macho_wire.specs.Layouts.{entry_point_command, dylinker_command, dylib_command, rpath_command, linkedit_data_command, uuid_command, build_version_command}
use Rattle.macho_records.specs.declared.constants.TheConstants.{LC_BUILD_VERSION, LC_CODE_SIGNATURE, LC_DYLD_CHAINED_FIXUPS, LC_DYLD_EXPORTS_TRIE, LC_ID_DYLIB, LC_LOAD_DYLIB, LC_LOAD_DYLINKER, LC_MAIN, LC_RPATH, LC_SEGMENT_64, LC_SYMTAB, LC_UUID}
use Rattle.macho_model.specs.Commands.{Command}
use Rattle.macho_model.specs.Agreement.{section_headers_at}
use Rattle.macho_model.specs.HeadCommands.{Segment, EntryPoint, Uuid, BuildVersion, Dylinker, Dylib, Rpath, LinkeditData, Symtab, Other, behind, tools_at, command_in, size_said}
use Rattle.macho_commands.specs.Texts.{number_said}
use Rattle.macho_commands.specs.steps.Writing.{IsLinkedit}
use Rattle.macho_commands.proofs.Numbered.{in_segment, in_entry_point, in_uuid, in_build_version, in_dylinker, in_dylib, in_rpath, in_symtab, in_linkedit}

-- no test of the number passes
pub record IsUnknown (c : Command) : Type 0 where
  pub segment : (c.number == LC_SEGMENT_64) ≡ false
  pub entry_point : (c.number == LC_MAIN) ≡ false
  pub uuid : (c.number == LC_UUID) ≡ false
  pub build_version : (c.number == LC_BUILD_VERSION) ≡ false
  pub dylinker : (c.number == LC_LOAD_DYLINKER) ≡ false
  pub id_dylib : (c.number == LC_ID_DYLIB) ≡ false
  pub load_dylib : (c.number == LC_LOAD_DYLIB) ≡ false
  pub rpath : (c.number == LC_RPATH) ≡ false
  pub symtab : (c.number == LC_SYMTAB) ≡ false
  pub fixups : (c.number == LC_DYLD_CHAINED_FIXUPS) ≡ false
  pub trie : (c.number == LC_DYLD_EXPORTS_TRIE) ≡ false
  pub signature : (c.number == LC_CODE_SIGNATURE) ≡ false

pub data Shape (b : List ℕ) (c : Command) : Type 0 where
  a_segment : c.number ≡ LC_SEGMENT_64 → command_in b c ≡ Segment (reading segment_command b c.at) (section_headers_at b c.at) → Shape b c
  an_entry_point : c.number ≡ LC_MAIN → command_in b c ≡ EntryPoint (reading entry_point_command b c.at) → Shape b c
  a_uuid : c.number ≡ LC_UUID → command_in b c ≡ Uuid (reading uuid_command b c.at) → Shape b c
  a_build_version : c.number ≡ LC_BUILD_VERSION → command_in b c ≡ BuildVersion (reading build_version_command b c.at) (tools_at b c.at)
      → Shape b c
  a_dylinker : c.number ≡ LC_LOAD_DYLINKER → command_in b c ≡ Dylinker (reading dylinker_command b c.at)
      (behind b c (size_of dylinker_command)) → Shape b c
  a_dylib : (c.number ≡ LC_ID_DYLIB) ⊎ (c.number ≡ LC_LOAD_DYLIB) → command_in b c ≡ Dylib (reading dylib_command b c.at)
      (behind b c (size_of dylib_command)) → Shape b c
  an_rpath : c.number ≡ LC_RPATH → command_in b c ≡ Rpath (reading rpath_command b c.at) (behind b c (size_of rpath_command)) → Shape b c
  a_symtab : c.number ≡ LC_SYMTAB → command_in b c ≡ Symtab (reading symtab_command b c.at) → Shape b c
  a_table : IsLinkedit c.number → command_in b c ≡ LinkeditData (reading linkedit_data_command b c.at) → Shape b c
  unknown : IsUnknown c → command_in b c ≡ Other c.number c.size → Shape b c

unknown-is : (b : List ℕ) (c : Command) → IsUnknown c → command_in b c ≡ Other c.number c.size
unfolding command_in
unknown-is b c u =
    rw (
      u.segment,
      u.entry_point,
      u.uuid,
      u.build_version,
      u.dylinker,
      u.id_dylib,
      u.load_dylib,
      u.rpath,
      u.symtab,
      u.fixups,
      u.trie,
      u.signature,
    ) refl

-- the test of a number, from what it answers
Tested : Command → ℕ → Type 0
Tested c n = (c.number ≡ n) ⊎ ((c.number == n) ≡ false)

tested : (c : Command) (n : ℕ) → Tested c n
unfolding Tested
tested c n = by (c.number == n) refl
  where
    by : (x : Bool) → (c.number == n) ≡ x → (c.number ≡ n) ⊎ ((c.number == n) ≡ false)
    by true e = inl (eqb-true c.number n e)
    by false e = inr e

-- THE shape of a command
pub shape : (b : List ℕ) (c : Command) → Shape b c
unfolding Tested
shape b c =
    elim (tested c LC_SEGMENT_64) [
      | inl n ↦ a_segment n (in_segment b c n)
      | inr no_segment ↦
          elim (tested c LC_MAIN) [
            | inl n ↦ an_entry_point n (in_entry_point b c n)
            | inr no_entry ↦
                elim (tested c LC_UUID) [
                  | inl n ↦ a_uuid n (in_uuid b c n)
                  | inr no_uuid ↦
                      elim (tested c LC_BUILD_VERSION) [
                        | inl n ↦ a_build_version n (in_build_version b c n)
                        | inr no_versions ↦
                            elim (tested c LC_LOAD_DYLINKER) [
                              | inl n ↦ a_dylinker n (in_dylinker b c n)
                              | inr no_dylinker ↦
                                  elim (tested c LC_ID_DYLIB) [
                                    | inl n ↦ a_dylib (inl n) (in_dylib b c (inl n))
                                    | inr no_id ↦
                                        elim (tested c LC_LOAD_DYLIB) [
                                          | inl n ↦ a_dylib (inr n) (in_dylib b c (inr n))
                                          | inr no_load ↦
                                              elim (tested c LC_RPATH) [
                                                | inl n ↦ an_rpath n (in_rpath b c n)
                                                | inr no_rpath ↦
                                                    elim (tested c LC_SYMTAB) [
                                                      | inl n ↦ a_symtab n (in_symtab b c n)
                                                      | inr no_symtab ↦
                                                          elim (tested c LC_DYLD_CHAINED_FIXUPS) [
                                                            | inl n ↦ a_table (inl n) (in_linkedit b c (inl n))
                                                            | inr no_fixups ↦
                                                                elim (tested c LC_DYLD_EXPORTS_TRIE) [
                                                                  | inl n ↦ a_table (inr (inl n)) (in_linkedit b c (inr (inl n)))
                                                                  | inr no_trie ↦
                                                                      elim (tested c LC_CODE_SIGNATURE) [
                                                                        | inl n ↦ a_table (inr (inr n)) (in_linkedit b c (inr (inr n)))
                                                                        | inr no_signature ↦
                                                                            let none : IsUnknown c = record {
                                                                              segment = no_segment;
                                                                              entry_point = no_entry;
                                                                              uuid = no_uuid;
                                                                              build_version = no_versions;
                                                                              dylinker = no_dylinker;
                                                                              id_dylib = no_id;
                                                                              load_dylib = no_load;
                                                                              rpath = no_rpath;
                                                                              symtab = no_symtab;
                                                                              fixups = no_fixups;
                                                                              trie = no_trie;
                                                                              signature = no_signature;
                                                                            } in
                                                                            unknown none (unknown-is b c none)
                                                                      ]
                                                                ]
                                                          ]
                                                    ]
                                              ]
                                        ]
                                  ]
                            ]
                      ]
                ]
          ]
    ]

-- a command whose number and size the bytes say at its place
pub record IsRead (b : List ℕ) (c : Command) : Type 0 where
  pub number : (reading load_command b c.at).cmd ≡ c.number
  pub size : (reading load_command b c.at).cmdsize ≡ c.size

-- number and size of a command, as it says itself
pub number_said-is : (b : List ℕ) (c : Command) → IsRead b c → Shape b c → number_said (command_in b c) ≡ c.number
unfolding reading
number_said-is b c r (a_segment n e) = ap number_said e ∙ r.number
number_said-is b c r (an_entry_point n e) = ap number_said e ∙ r.number
number_said-is b c r (a_uuid n e) = ap number_said e ∙ r.number
number_said-is b c r (a_build_version n e) = ap number_said e ∙ r.number
number_said-is b c r (a_dylinker n e) = ap number_said e ∙ r.number
number_said-is b c r (a_dylib n e) = ap number_said e ∙ r.number
number_said-is b c r (an_rpath n e) = ap number_said e ∙ r.number
number_said-is b c r (a_symtab n e) = ap number_said e ∙ r.number
number_said-is b c r (a_table n e) = ap number_said e ∙ r.number
number_said-is b c r (unknown n e) = ap number_said e

pub size_said-is : (b : List ℕ) (c : Command) → IsRead b c → Shape b c → size_said (command_in b c) ≡ c.size
unfolding reading
size_said-is b c r (a_segment n e) = ap size_said e ∙ r.size
size_said-is b c r (an_entry_point n e) = ap size_said e ∙ r.size
size_said-is b c r (a_uuid n e) = ap size_said e ∙ r.size
size_said-is b c r (a_build_version n e) = ap size_said e ∙ r.size
size_said-is b c r (a_dylinker n e) = ap size_said e ∙ r.size
size_said-is b c r (a_dylib n e) = ap size_said e ∙ r.size
size_said-is b c r (an_rpath n e) = ap size_said e ∙ r.size
size_said-is b c r (a_symtab n e) = ap size_said e ∙ r.size
size_said-is b c r (a_table n e) = ap size_said e ∙ r.size
size_said-is b c r (unknown n e) = ap size_said e
