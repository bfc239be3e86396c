-- Uses by plain pointers of consumed sections: an initializer's asks for its name alone, a personality's for a slot too.
use Rattle.std.proofs.Common.{◌≡◌, ℕ, Bool, true, false, ◌&&◌, ◌==◌, not, List, [], ◌∷◌, ◌++◌, Some, None, Result, Ok, Err, OnOk, OnErr, IfOk, IfErr, refl, sym, ap, ◌∙◌, subst, if◌then◌else◌}
use Rattle.std.proofs.lemmas.List.Elements.{All-push}
pub use Rattle.std.proofs.lemmas.Result.{on_ok_weaker as on_ok}
use Rattle.macho_wire.specs.declared.relocations.RelocationInfo.{RelocationInfo}
use Rattle.macho_records.specs.declared.constants.TheConstants.{ARM64_RELOC_ADDEND, ARM64_RELOC_UNSIGNED}
use Rattle.macho_model.specs.Links.{Input, Link, SectionId}
use Rattle.macho_model.specs.Resolution.{SymbolId}
use Rattle.macho_model.specs.Needs.{relocation_in, section_named, symbol_of_relocation}
use Rattle.macho_model.specs.Uses.{Use, symbol_used, name_used, global_name, slot_of_use, stub_of_use, target_with}
use Rattle.macho_model.specs.Targets.{same_target, target_of_relocation}
use Rattle.macho_model.specs.Fixups.{same_entry}
use Rattle.macho_model.specs.Consumed.{is_plain_pointer}
use Rattle.macho_model.proofs.Words.{target_of_symbol, target_of_section}
use Rattle.macho_symbol_names.specs.Kept.{Keeps}
use Rattle.macho_symbols.specs.Kept.{ResolvedRows, IsResolved, symbol_id}
use Rattle.macho_symbols.specs.Told.{IsDefined, noting}
use Rattle.macho_promise.specs.Noted.{imports_in, stubs_in}
use Rattle.macho_needs.specs.declared.needs.Needs.{Needs}
use Rattle.macho_needs.specs.Tables.{with_some}
use Rattle.macho_needs.specs.Noted.{IsNoted, IsNext, IsFound, own_in, own_of_use}
use Rattle.macho_needs.proofs.Growing.{with_name, imports_more, slots_more, stubs_more, own_more, noting_is}
use Rattle.macho_needs.proofs.Staying.{target_stays}
use Rattle.macho_needs.proofs.Using.{link_with, names_it}
use Rattle.macho_model.proofs.Sections.{no_addend}

pub symbol_noted : (l : Link) (us : List Use) (u : Use) (id : SymbolId) (old new : Needs) → IsNoted l us old → symbol_used l u ≡ Some id
    → name_used l u ≡ global_name l (Some id)
    → IsResolved l (noting l (imports_in l us) id) new.resolved → IsDefined l id
    → new.tables.slots ≡ with_some same_target old.tables.slots (slot_of_use l u) → new.tables.stubs ≡ old.tables.stubs
    → new.tables.own ≡ old.tables.own
    → stub_of_use l u ≡ None → own_of_use l u ≡ None → IsNoted l (us ++ u ∷ []) new
symbol_noted l us u id old new is used named resolved found slots stubs own no_stub no_entry = record {
  imports =
      subst (λ ns. IsResolved l ns new.resolved)
      (sym (imports_more l us u ∙ ap (with_name l (imports_in l us)) named ∙ noting_is l (imports_in l us) id)) resolved;
  slots = slots ∙ ap (λ xs. with_some same_target xs (slot_of_use l u)) is.slots ∙ sym (slots_more l us u);
  stubs = stubs ∙ is.stubs ∙ ap (with_some same_target (stubs_in l us)) (sym no_stub) ∙ sym (stubs_more l us u);
  own = own ∙ is.own ∙ ap (with_some same_entry (own_in l us)) (sym no_entry) ∙ sym (own_more l us u);
  found = All-push (IsFound l) us u is.found (λ t h. let same : id ≡ t = let e : Some id ≡ Some t = sym used ∙ h in cc in
      subst (IsDefined l) same found);
}

-- where a pointer to a symbol leads
pub pointer_leads : (l : Link) (us : List Use) (u : Use) (s : SectionId) (r : ℕ) (rel : RelocationInfo) (file : ℕ) → IsNext l us u
    → rel ≡ relocation_in l s r → s.file ≡ file
    → is_plain_pointer rel ≡ true → rel.r_extern ≡ true → name_used l u ≡ global_name l (symbol_of_relocation l s r)
    → target_with l (imports_in l us) (symbol_id file rel.r_symbolnum) ≡ target_of_relocation l s r
unfolding target_of_relocation
pointer_leads l us u s r rel file next is here plain extern named =
    let it = names_it l s r rel file is here (no_addend rel plain) extern in
    target_stays l us u (symbol_id file rel.r_symbolnum) next (named ∙ ap (global_name l) it)
    ∙ sym (ap (λ b. if b then target_of_symbol l (symbol_of_relocation l s r) else target_of_section l (section_named l s r))
    (ap (λ (q : RelocationInfo). q.r_extern) (sym is) ∙ extern)
    ∙ ap (target_of_symbol l) it)

-- answers, said in other words
pub on_ok_both : {X E P Q R : Type 0} (r : Result X E) → (P → Q → R) → OnOk r P → OnOk r Q → OnOk r R
on_ok_both (Ok x) f p q = f p q
on_ok_both (Err e) f p q = tt

pub if_ok : {X E : Type 0} (P Q : X → Type 0) (r : Result X E) → ((x : X) → P x → Q x) → IfOk r P → IfOk r Q
if_ok P Q (Ok x) f p = f x p
if_ok P Q (Err e) f p = tt

-- the files are kept, whatever is answered
pub files_stay : {X E : Type 0} (r : Result X E) (inputs : List Input) (old new : ResolvedRows) (id : SymbolId) → Keeps inputs old.files
    → ((l : Link) (noted : List (List ℕ)) → IsResolved l noted old → OnOk r (IsResolved l (noting l noted id) new)) → OnErr r (new ≡ old)
    → Keeps inputs new.files
unfolding link_with
files_stay (Ok x) inputs old new id keeps more kept =
    record { are = (more (link_with inputs) old.noted (record { keeps = keeps.are; notes = refl })).keeps }
files_stay (Err e) inputs old new id keeps more kept = subst (λ (q : ResolvedRows). Keeps inputs q.files) (sym kept) keeps
