-- One use more, by a relocation that is no addend. The name of its symbol, if it has one, is noted; it leads where the
-- relocation leads in the end, since the number of an import that is noted stays; and each list gets what the use asks for.
use Rattle.std.proofs.Common.{◌≡◌, ℕ, ◌-◌, ◌<◌, Bool, true, false, ◌&&◌, ◌||◌, not, nat_le, nat_lt, List, [], ◌∷◌, ◌++◌, Option, Some, None, is_none, IsNone, Contains, refl, sym, ap, ◌∙◌, subst, arith, if◌then◌else◌, ◌==◌}
use Rattle.std.proofs.lemmas.Bool.Decides.{nat_tests}
use Rattle.std.proofs.lemmas.List.Elements.{All-push}
use Rattle.macho_wire.specs.declared.relocations.RelocationInfo.{RelocationInfo}
use Rattle.macho_records.specs.declared.constants.TheConstants.{ARM64_RELOC_ADDEND}
use Rattle.macho_model.specs.declared.placed.Counts.{Counts}
use Rattle.macho_model.specs.declared.targets.Target.{Target}
use Rattle.macho_model.specs.Objects.{num_sections, num_symbols, section_at, relocation_at}
use Rattle.macho_model.specs.Grammar.{IsObject}
use Rattle.macho_model.proofs.ObjectLaws.{object_keeps}
use Rattle.macho_model.specs.Links.{Input, Link, SectionId, object_of}
use Rattle.macho_model.specs.Resolution.{SymbolId, definition_of}
use Rattle.macho_model.specs.Needs.{relocation_in, section_named, symbol_of_relocation}
use Rattle.macho_model.specs.Uses.{Use, ByRelocation, uses_of, symbol_used, global_name, slot_of_use, stub_of_use, slot_of_relocation, stub_of_relocation, target_with}
use Rattle.macho_model.specs.Targets.{same_target, target_of, target_of_relocation}
use Rattle.macho_model.specs.Fields.{field_of, width_of, addend_of}
use Rattle.macho_model.specs.Fixups.{same_entry, own_entry}
use Rattle.macho_model.specs.Values.{is_pointer}
use Rattle.macho_model.specs.Uses as model
use Rattle.macho_model.proofs.Words.{target_of_symbol, target_of_section, subtrahend_of}
use Rattle.macho_object.specs.Views.{FileBytes}
use Rattle.macho_symbol_names.specs.declared.fault.SymbolFault.{SymbolFault}
use Rattle.macho_symbol_names.specs.declared.fault.SymbolFault.TheVariants.{DuplicateSymbol, UndefinedSymbol, ExportListMissing, OutOfMemory}
use Rattle.macho_symbol_names.specs.Kept.{Keeps}
use Rattle.macho_symbols.specs.Kept.{ResolvedRows, IsResolved, symbol_id}
use Rattle.macho_symbols.specs.Told.{IsDefined, IsUndefined, noting}
use Rattle.macho_answer.specs.declared.fault.LinkError.{LinkError}
use Rattle.macho_answer.specs.Errors.{error_of}
use Rattle.macho_answer.specs.Standing.{Stands}
use Rattle.macho_promise.specs.Noted.{imports_in, slots_in, stubs_in}
use Rattle.macho_needs.specs.declared.needs.Needs.{Needs}
use Rattle.macho_needs.specs.Tables.{Numbered, with_some, own_of_pointer}
use Rattle.macho_needs.specs.Noted.{IsNoted, IsNext, IsFound, IsRelocationOf, own_in, own_of_use, pointer_of, referent}
use Rattle.macho_needs.specs.steps.Leads.{carried_start, noting_by, lead_by, FoundIf, IsFoundBy, IsLostBy}
use Rattle.macho_needs.proofs.Growing.{with_name, imports_more, slots_more, stubs_more, own_more, noting_is, nothing_is}
use Rattle.macho_needs.proofs.Staying.{target_stays}
use Rattle.macho_needs.proofs.Undefined.{use_is_undefined}

pub names : (l : Link) (s : SectionId) (r : ℕ) → (relocation_in l s r).r_extern ≡ true
    → ((relocation_in l s r).r_type == ARM64_RELOC_ADDEND) ≡ false
    → symbol_of_relocation l s r ≡ Some (symbol_id s.file (relocation_in l s r).r_symbolnum)
names l s r extern other = rw (extern, other) refl

pub names_none : (l : Link) (s : SectionId) (r : ℕ) → (relocation_in l s r).r_extern ≡ false → symbol_of_relocation l s r ≡ None
names_none l s r extern = rw extern refl

pub names_it : (l : Link) (s : SectionId) (r : ℕ) (rel : RelocationInfo) (file : ℕ) → rel ≡ relocation_in l s r → s.file ≡ file
    → (rel.r_type == ARM64_RELOC_ADDEND) ≡ false → rel.r_extern ≡ true → symbol_of_relocation l s r ≡ Some (symbol_id file rel.r_symbolnum)
names_it l s r rel file is here other extern =
    let at : (relocation_in l s r).r_type ≡ rel.r_type = ap (λ (q : RelocationInfo). q.r_type) (sym is) in
    names l s r (ap (λ (q : RelocationInfo). q.r_extern) (sym is) ∙ extern) (ap (λ n. n == ARM64_RELOC_ADDEND) at ∙ other)
    ∙ ap (λ (q : RelocationInfo). Some (symbol_id s.file q.r_symbolnum)) (sym is) ∙ ap (λ f. Some (symbol_id f rel.r_symbolnum)) here

-- tables with what a use asks for
abbrev pub with_use : ℕ → Target → Option ℕ → Numbered → Numbered
with_use kind t pointer n = record {
  slots = with_some same_target n.slots (slot_of_relocation kind t);
  stubs = with_some same_target n.stubs (stub_of_relocation kind t);
  own = with_some same_entry n.own (own_of_pointer t pointer);
}

-- what is noted
noted_after : (l : Link) (us : List Use) (s : SectionId) (r : ℕ) → ((relocation_in l s r).r_type == ARM64_RELOC_ADDEND) ≡ false
    → noting_by l (imports_in l us) s.file (relocation_in l s r) ≡ imports_in l (us ++ ByRelocation s r ∷ [])
noted_after l us s r other = by (relocation_in l s r).r_extern refl
  where
    by : (b : Bool) → (relocation_in l s r).r_extern ≡ b
        → noting_by l (imports_in l us) s.file (relocation_in l s r) ≡ imports_in l (us ++ ByRelocation s r ∷ [])
    by true e =
        let here : noting_by l (imports_in l us) s.file (relocation_in l s r)
        ≡ noting l (imports_in l us) (symbol_id s.file (relocation_in l s r).r_symbolnum) = rw e refl in
        here ∙ sym (imports_more l us (ByRelocation s r) ∙ ap (λ o. with_name l (imports_in l us) (global_name l o)) (names l s r e other)
        ∙ noting_is l (imports_in l us) (symbol_id s.file (relocation_in l s r).r_symbolnum))
    by false e =
        let here : noting_by l (imports_in l us) s.file (relocation_in l s r) ≡ imports_in l us = rw e refl in
        here ∙ sym (imports_more l us (ByRelocation s r) ∙ ap (λ o. with_name l (imports_in l us) (global_name l o)) (names_none l s r e)
        ∙ nothing_is l (imports_in l us))

-- where it leads
lead_is : (l : Link) (us : List Use) (s : SectionId) (r : ℕ) (bytes : List ℕ) → IsNext l us (ByRelocation s r) → object_of l s.file ≡ bytes
    → ((relocation_in l s r).r_type == ARM64_RELOC_ADDEND) ≡ false
    → lead_by l (imports_in l us) bytes s.file (relocation_in l s r) ≡ target_of_relocation l s r
unfolding target_of_relocation
lead_is l us s r bytes next object other = by (relocation_in l s r).r_extern refl
  where
    by : (b : Bool) → (relocation_in l s r).r_extern ≡ b
        → lead_by l (imports_in l us) bytes s.file (relocation_in l s r)
        ≡ (if (relocation_in l s r).r_extern then target_of_symbol l (symbol_of_relocation l s r)
        else target_of_section l (section_named l s r))
    by true e =
        let id = symbol_id s.file (relocation_in l s r).r_symbolnum in
        let here : lead_by l (imports_in l us) bytes s.file (relocation_in l s r) ≡ target_with l (imports_in l us) id = rw e refl in
        let there :
        (if (relocation_in l s r).r_extern then target_of_symbol l (symbol_of_relocation l s r)
        else target_of_section l (section_named l s r)) ≡ target_of l id
        = ap (λ b. if b then target_of_symbol l (symbol_of_relocation l s r) else target_of_section l (section_named l s r)) e
        ∙ ap (target_of_symbol l) (names l s r e other) in
        here ∙ target_stays l us (ByRelocation s r) id next (ap (global_name l) (names l s r e other)) ∙ sym there
    by false e =
        let here : lead_by l (imports_in l us) bytes s.file (relocation_in l s r)
        ≡ carried_start s.file ((relocation_in l s r).r_symbolnum - 1) (section_at bytes ((relocation_in l s r).r_symbolnum - 1)) =
        rw e refl in
        let there :
        (if (relocation_in l s r).r_extern then target_of_symbol l (symbol_of_relocation l s r)
        else target_of_section l (section_named l s r)) ≡ target_of_section l (section_named l s r)
        = ap (λ b. if b then target_of_symbol l (symbol_of_relocation l s r) else target_of_section l (section_named l s r)) e in
        here ∙ ap (λ b. carried_start s.file ((relocation_in l s r).r_symbolnum - 1) (section_at b ((relocation_in l s r).r_symbolnum - 1)))
        (sym object) ∙ sym there

-- the section that is named is there
abbrev number_test : RelocationInfo → ℕ → Bool → Bool
number_test q sections known =
    if q.r_extern then known else (q.r_type == ARM64_RELOC_ADDEND) || (nat_le 1 q.r_symbolnum && nat_le q.r_symbolnum sections)

below : (extern other known : Bool) (n sections : ℕ) → (if extern then known else other || (nat_le 1 n && nat_le n sections)) ≡ true
    → extern ≡ false → other ≡ false
    → n - 1 < sections
below true other known n sections t e o = cc
below false true known n sections t e o = cc
below false false known n sections t e o = grind (arith, nat_tests)

pub named_there : (l : Link) (s : SectionId) (r : ℕ) (object : FileBytes) (rel : RelocationInfo) → IsObject object.bytes
    → IsRelocationOf l s r object rel
    → (rel.r_type == ARM64_RELOC_ADDEND) ≡ false → rel.r_extern ≡ false → rel.r_symbolnum - 1 < num_sections object.bytes
named_there l s r object rel whole of other extern =
    let there : rel ≡ relocation_at object.bytes s.section r = of.is ∙ ap (λ b. relocation_at b s.section r) of.object_is in
    let number : r < (section_at object.bytes s.section).nreloc = subst (λ b. r < (section_at b s.section).nreloc) of.object_is of.number in
    let test : number_test rel (num_sections object.bytes) (nat_lt rel.r_symbolnum (num_symbols object.bytes)) ≡ true
    = ap (λ q. number_test q (num_sections object.bytes) (nat_lt q.r_symbolnum (num_symbols object.bytes))) there
    ∙ (object_keeps whole).o5.1 s.section r of.section number in
    below rel.r_extern (rel.r_type == ARM64_RELOC_ADDEND) _ rel.r_symbolnum (num_sections object.bytes) test extern other

found_is : (l : Link) (s : SectionId) (r : ℕ) → ((relocation_in l s r).r_type == ARM64_RELOC_ADDEND) ≡ false
    → IsFoundBy l s.file (relocation_in l s r) → IsFound l (ByRelocation s r)
found_is l s r other found = by (relocation_in l s r).r_extern refl
  where
    by : (b : Bool) → (relocation_in l s r).r_extern ≡ b → IsFound l (ByRelocation s r)
    by true e t used =
        let same : symbol_id s.file (relocation_in l s r).r_symbolnum ≡ t =
        let h : Some (symbol_id s.file (relocation_in l s r).r_symbolnum) ≡ Some t = sym (names l s r e other) ∙ used in cc in
        let here : FoundIf l (symbol_id s.file (relocation_in l s r).r_symbolnum) true =
        subst (FoundIf l (symbol_id s.file (relocation_in l s r).r_symbolnum)) e found in
        subst (IsDefined l) same here
    by false e t used = let h : None ≡ Some t = sym (names_none l s r e) ∙ used in cc

-- a relocation by itself, and as one of a link
pub use_noted : (l : Link) (us : List Use) (s : SectionId) (r : ℕ) (old new : Needs) (object : FileBytes) (rel : RelocationInfo) (file : ℕ)
    (pointer : Option ℕ) (t : Target)
    → IsNoted l us old → IsNext l us (ByRelocation s r) → IsRelocationOf l s r object rel → s.file ≡ file → pointer ≡ pointer_of l s r
    → (rel.r_type == ARM64_RELOC_ADDEND) ≡ false
    → IsResolved l (noting_by l (imports_in l us) file rel) new.resolved → IsFoundBy l file rel → t ≡ target_of_relocation l s r
    → new.tables ≡ record {
      slots = with_some same_target old.tables.slots (slot_of_relocation rel.r_type t);
      stubs = with_some same_target old.tables.stubs (stub_of_relocation rel.r_type t);
      own = with_some same_entry old.tables.own (own_of_pointer t pointer);
    }
    → IsNoted l (us ++ ByRelocation s r ∷ []) new
use_noted l us s r old new object rel file pointer t is next of here told other resolved found leads tables =
    let at : (relocation_in l s r).r_type ≡ rel.r_type = ap (λ (q : RelocationInfo). q.r_type) (sym of.is) in
    let other_at : ((relocation_in l s r).r_type == ARM64_RELOC_ADDEND) ≡ false = ap (λ n. n == ARM64_RELOC_ADDEND) at ∙ other in
    let same : noting_by l (imports_in l us) file rel ≡ imports_in l (us ++ ByRelocation s r ∷ [])
    = ap (λ f. noting_by l (imports_in l us) f rel) (sym here) ∙ ap (noting_by l (imports_in l us) s.file) of.is
    ∙ noted_after l us s r other_at in
    let found_at : IsFoundBy l s.file (relocation_in l s r)
    = subst (λ f. IsFoundBy l f (relocation_in l s r)) (sym here) (subst (IsFoundBy l file) of.is found) in
    record {
      imports = subst (λ ns. IsResolved l ns new.resolved) same resolved;
      slots = ap (λ (n : Numbered). n.slots) tables ∙ ap (λ xs. with_some same_target xs (slot_of_relocation rel.r_type t)) is.slots
          ∙ ap (λ u. with_some same_target (slots_in l us) (slot_of_relocation rel.r_type u)) leads
          ∙ ap (λ k. with_some same_target (slots_in l us) (slot_of_relocation k (target_of_relocation l s r))) (sym at)
          ∙ sym (slots_more l us (ByRelocation s r));
      stubs = ap (λ (n : Numbered). n.stubs) tables ∙ ap (λ xs. with_some same_target xs (stub_of_relocation rel.r_type t)) is.stubs
          ∙ ap (λ u. with_some same_target (stubs_in l us) (stub_of_relocation rel.r_type u)) leads
          ∙ ap (λ k. with_some same_target (stubs_in l us) (stub_of_relocation k (target_of_relocation l s r))) (sym at)
          ∙ sym (stubs_more l us (ByRelocation s r));
      own = ap (λ (n : Numbered). n.own) tables ∙ ap (λ xs. with_some same_entry xs (own_of_pointer t pointer)) is.own
          ∙ ap (λ u. with_some same_entry (own_in l us) (own_of_pointer u pointer)) leads
          ∙ ap (with_some same_entry (own_in l us))
          (ap (own_of_pointer (target_of_relocation l s r)) told ∙ entry (is_pointer (field_of l s r)))
          ∙ sym (own_more l us (ByRelocation s r));
      found = All-push (IsFound l) us (ByRelocation s r) is.found (found_is l s r other_at found_at);
    }
  where
    entry : (b : Bool)
        → own_of_pointer (target_of_relocation l s r) (if b then Some (field_of l s r).addend else None)
        ≡ own_entry b (target_of_relocation l s r) (field_of l s r).addend
    entry true = refl
    entry false = refl

pub leads_there : (l : Link) (us : List Use) (s : SectionId) (r : ℕ) (object : FileBytes) (rel : RelocationInfo) (file : ℕ)
    → IsNext l us (ByRelocation s r)
    → IsRelocationOf l s r object rel → s.file ≡ file → (rel.r_type == ARM64_RELOC_ADDEND) ≡ false
    → lead_by l (imports_in l us) object.bytes file rel ≡ target_of_relocation l s r
leads_there l us s r object rel file next of here other =
    let at : (relocation_in l s r).r_type ≡ rel.r_type = ap (λ (q : RelocationInfo). q.r_type) (sym of.is) in
    ap (λ f. lead_by l (imports_in l us) object.bytes f rel) (sym here) ∙ ap (lead_by l (imports_in l us) object.bytes s.file) of.is
    ∙ lead_is l us s r object.bytes next of.object_is (ap (λ n. n == ARM64_RELOC_ADDEND) at ∙ other)

-- a refusal stands
pub lost_stands : (l : Link) (counts : Counts) (u : Use) (file : ℕ) (rel : RelocationInfo) (e : LinkError) → Contains (uses_of l) u
    → model.names_symbol l u ≡ true
    → (rel.r_extern ≡ true → symbol_used l u ≡ Some (symbol_id file rel.r_symbolnum)) → IsLostBy l file rel e → Stands l counts e
lost_stands l counts u file rel e there named used lost = subst (Stands l counts) (sym lost.is) (by lost.fault lost.undefined)
  where
    none_is : {X : Type 0} (o : Option X) → is_none o ≡ true → IsNone o
    none_is None e = refl
    none_is (Some x) e = cc

    by : (fault : SymbolFault) → IsUndefined l (symbol_id file rel.r_symbolnum) fault → Stands l counts (error_of fault)
    by (UndefinedSymbol name f) told = record {
      stands = use_is_undefined l name.items f u (symbol_id file rel.r_symbolnum) there named (used lost.extern) told.0 (sym told.2)
          (sym told.3)
          (none_is (definition_of l name.items) (ap (λ n. is_none (definition_of l n)) told.2 ∙ told.1));
      kept = tt;
    }
    by (DuplicateSymbol name first second) told = absurd told
    by (ExportListMissing name) told = absurd told
    by OutOfMemory told = tt

-- an addend asks for nothing
pub addend_noted : (l : Link) (us : List Use) (s : SectionId) (r : ℕ) (n : Needs) (object : FileBytes) (rel : RelocationInfo)
    → IsNoted l us n → IsRelocationOf l s r object rel
    → rel.r_type ≡ ARM64_RELOC_ADDEND → IsNoted l (us ++ ByRelocation s r ∷ []) n
addend_noted l us s r n object rel is of addend =
    let at : (relocation_in l s r).r_type ≡ ARM64_RELOC_ADDEND = ap (λ (q : RelocationInfo). q.r_type) (sym of.is) ∙ addend in
    let unnamed : symbol_of_relocation l s r ≡ None = none (relocation_in l s r).r_extern (relocation_in l s r).r_type at in
    let no_slot : slot_of_use l (ByRelocation s r) ≡ None = ap (λ k. slot_of_relocation k (target_of_relocation l s r)) at in
    let no_stub : stub_of_use l (ByRelocation s r) ≡ None = ap (λ k. stub_of_relocation k (target_of_relocation l s r)) at in
    let no_entry : own_of_use l (ByRelocation s r) ≡ None = entry (width_of l s r) (relocation_in l s r).r_type (subtrahend_of l s r) at in
    record {
      imports =
          subst (λ ns. IsResolved l ns n.resolved)
          (sym (imports_more l us (ByRelocation s r) ∙ ap (λ o. with_name l (imports_in l us) (global_name l o)) unnamed
          ∙ nothing_is l (imports_in l us))) is.imports;
      slots = is.slots ∙ ap (with_some same_target (slots_in l us)) (sym no_slot) ∙ sym (slots_more l us (ByRelocation s r));
      stubs = is.stubs ∙ ap (with_some same_target (stubs_in l us)) (sym no_stub) ∙ sym (stubs_more l us (ByRelocation s r));
      own = is.own ∙ ap (with_some same_entry (own_in l us)) (sym no_entry) ∙ sym (own_more l us (ByRelocation s r));
      found = All-push (IsFound l) us (ByRelocation s r) is.found (λ t used. let h : None ≡ Some t = sym unnamed ∙ used in cc);
    }
  where
    none : (b : Bool) (k : ℕ) → k ≡ ARM64_RELOC_ADDEND
        → (if b && not (k == ARM64_RELOC_ADDEND) then Some (symbol_id s.file (relocation_in l s r).r_symbolnum) else None) ≡ None
    none true k e = rw e refl
    none false k e = refl

    nothing : (b : Bool) → own_entry (b && false) (target_of_relocation l s r) (addend_of l s r) ≡ None
    nothing true = refl
    nothing false = refl

    entry : (w k : ℕ) (o : Option Target) → k ≡ ARM64_RELOC_ADDEND
        → own_entry
        (is_pointer
        (record {
          relocation = r;
          offset = (relocation_in l s r).r_address;
          width = w;
          type = k;
          target = target_of_relocation l s r;
          subtrahend = o;
          addend = addend_of l s r;
        }))
        (target_of_relocation l s r) (addend_of l s r) ≡ None
    entry w k o e = rw e (nothing (w == 8))

pub referent_is : (l : Link) (s : SectionId) (r : ℕ) (object : FileBytes) (rel : RelocationInfo) → IsRelocationOf l s r object rel
    → (rel.r_type == ARM64_RELOC_ADDEND) ≡ false
    → target_of_relocation l s r ≡ referent l s r
referent_is l s r object rel of other =
    let at : ((relocation_in l s r).r_type == ARM64_RELOC_ADDEND) ≡ false =
    ap (λ (q : RelocationInfo). q.r_type == ARM64_RELOC_ADDEND) (sym of.is) ∙ other in rw at refl

-- a link with these inputs
unfoldable pub link_with : List Input → Link
link_with inputs = record {
  executable = true;
  output = [];
  entry = [];
  install_name = [];
  rpaths = [];
  versions = None;
  dead_strip_dylibs = false;
  headerpad = false;
  inputs = inputs;
  export_lists = [];
}

-- the files are kept
pub files_kept : (inputs : List Input) (old new : ResolvedRows) (file : ℕ) (rel : RelocationInfo) → Keeps inputs old.files
    → ((l : Link) (noted : List (List ℕ)) → IsResolved l noted old → IsResolved l (noting_by l noted file rel) new) → Keeps inputs new.files
unfolding link_with
files_kept inputs old new file rel keeps more =
    record { are = (more (link_with inputs) old.noted (record { keeps = keeps.are; notes = refl })).keeps }
