-- Views of the files of a link, and what the whole walk gives. A view is there where the file is an object, and has its bytes; any
-- other file has no sections. Once all files were looked at, all uses by carried relocations were, and all carried sections.
use Rattle.std.proofs.Common.{◌≡◌, ℕ, ◌<◌, ◌≤◌, false, not, List, [], ◌∷◌, ◌++◌, length, take, map, get_or, Option, Some, None, All, Contains, refl, sym, ap, ◌∙◌, subst, arith, append-nil, append_assoc, filter, IfNone}
use Rattle.std.specs.List.{flat_map, enumerate_from}
use Rattle.std.proofs.lemmas.List.{length-map, get_or-map}
use Rattle.std.proofs.lemmas.List.FromFn.{length-enumerate_from}
use Rattle.std.proofs.lemmas.List.Elements.{All-nil}
use Rattle.macho_model.specs.Links.{Input, Object, Dylib, Stub, Link, SectionId, no_input, header_at, sections_of, sections_of_file, carried_of}
use Rattle.macho_model.specs.Needs.{initializer_sections, unwind_sections, is_imported, relocation_in, relocations_of}
use Rattle.macho_model.specs.Uses.{Use, ByRelocation, ByName, uses_of, initializer_uses, personality_uses, carried_uses}
use Rattle.macho_model.specs.ExportLists.{plain_entries}
use Rattle.macho_model.specs.Fields.{Field, field_of, fields_of, is_prefix_type}
use Rattle.macho_model.specs.Values.{needs_fixup, is_pointer, fits_signed}
use Rattle.macho_model.specs.Targets.{is_import}
use Rattle.macho_object.specs.Views.{FileBytes}
use Rattle.macho_symbol_names.specs.Kept.{FileRows, Keeps}
use Rattle.macho_promise.specs.Noted.{BeginsWith, uses_of_carried}
use Rattle.macho_promise.specs.Sound.{IsSound}
use Rattle.macho_needs.specs.declared.needs.Needs.{Needs}
use Rattle.macho_needs.specs.Noted.{IsNoted}
use Rattle.macho_relocation_scan.specs.declared.findings.Findings.{Findings}
use Rattle.macho_promise.specs.Views.{object_view, views_of}
use Rattle.macho_relocation_scan.specs.Surveys.{AreOfInputs, IsFine, IsFineRelocation, IsApart}
use Rattle.macho_relocation_scan.specs.steps.Found.{IsClean, IsSurveyed}
use Rattle.macho_relocation_scan.specs.steps.Sections.{HasRows, HasObject, carried_among, uses_among, carried_in, uses_in, input_at}
use Rattle.macho_relocation_scan.proofs.Walking.{walked_all}
use Rattle.macho_bytes.proofs.Members.{all_contains, contains_map, map_contains, contains_flat_map, contains_range, range_contains, unfilter_contains}

-- what a view says
pub view_says : (x : Input) (o : FileBytes) → object_view x ≡ Some o → (x ≡ Object o.bytes) × (o.is_dynamic ≡ false)
view_says (Object bytes) o e =
    let same : record { bytes = bytes; is_dynamic = false } ≡ o = cc
    in (ap (λ (f : FileBytes). Object f.bytes) same, sym (ap (λ (f : FileBytes). f.is_dynamic) same))
view_says (Dylib bytes) o e = cc
view_says (Stub text says) o e = cc

pub nothing_said : (file : ℕ) (x : Input) → object_view x ≡ None → sections_of_file file x ≡ []
nothing_said file (Object bytes) e = cc
nothing_said file (Dylib bytes) e = refl
nothing_said file (Stub text says) e = refl

-- the view of a file
pub view_at : (views : List (Option FileBytes)) (inputs : List Input) (file : ℕ) (seen answer : Option FileBytes)
    → views ≡ map object_view inputs → file < length views
    → seen ≡ get_or views file seen → seen ≡ answer → object_view (get_or inputs file no_input) ≡ answer
view_at views inputs file seen answer are below at is =
    let inside : file < length inputs = omega (arith, below, ap length are, length-map inputs object_view) in
    sym (get_or-map object_view inputs file no_input seen inside) ∙ ap (λ (vs : List (Option FileBytes)). get_or vs file seen) (sym are)
    ∙ sym at ∙ is

pub file_inside : (views : List (Option FileBytes)) (inputs : List Input) (file : ℕ) → views ≡ map object_view inputs
    → file < length views → file < length inputs
file_inside views inputs file are below = omega (arith, below, ap length are, length-map inputs object_view)

pub has_rows : (views : List (Option FileBytes)) (files : List FileRows) (file : ℕ) (seen : Option FileBytes) (o : FileBytes)
    → AreOfInputs views files → file < length views
    → seen ≡ get_or views file seen → seen ≡ Some o → HasRows files file o.bytes
has_rows views files file seen o of below at is = record {
  inputs = of.inputs;
  keeps = of.keeps;
  there = file_inside views of.inputs file of.are below;
  is = (view_says (get_or of.inputs file no_input) o (view_at views of.inputs file seen (Some o) of.are below at is)).0;
}

pub has_object : (views : List (Option FileBytes)) (l : Link) (file : ℕ) (seen : Option FileBytes) (o : FileBytes) → views ≡ views_of l
    → file < length views
    → seen ≡ get_or views file seen → seen ≡ Some o → HasObject l file o.bytes
has_object views l file seen o are below at is = record {
  there = file_inside views l.inputs file are below;
  is = (view_says (get_or l.inputs file no_input) o (view_at views l.inputs file seen (Some o) are below at is)).0;
}

-- one file
one_file : (l : Link) (file : ℕ) (x : Input) → get_or l.inputs file no_input ≡ x
    → flat_map (λ (i : ℕ × Input). sections_of_file i.0 i.1) (input_at l file ∷ []) ≡ sections_of_file file x
one_file l file x is = append-nil (sections_of_file file (get_or l.inputs file no_input)) ∙ ap (sections_of_file file) is

pub file_more : (l : Link) (ss : List SectionId) (us : List Use) (file : ℕ) (x : Input) (n : Needs) (f : Findings)
    → get_or l.inputs file no_input ≡ x
    → IsSurveyed l (ss ++ carried_among l (sections_of_file file x)) (us ++ uses_among l (sections_of_file file x)) n f
    → IsSurveyed l (ss ++ carried_in l (input_at l file ∷ [])) (us ++ uses_in l (input_at l file ∷ [])) n f
file_more l ss us file x n f is surveyed =
    subst (λ (a : List SectionId). IsSurveyed l (ss ++ carried_among l a) (us ++ uses_among l a) n f) (sym (one_file l file x is)) surveyed

pub file_begins : (l : Link) (us : List Use) (file : ℕ) (x : Input) → get_or l.inputs file no_input ≡ x
    → BeginsWith l (us ++ uses_in l (input_at l file ∷ []))
    → BeginsWith l (us ++ uses_among l (sections_of_file file x))
file_begins l us file x is begins = subst (λ (a : List SectionId). BeginsWith l (us ++ uses_among l a)) (one_file l file x is) begins

pub file_none : (l : Link) (ss : List SectionId) (us : List Use) (file : ℕ) (n : Needs) (f : Findings)
    → object_view (get_or l.inputs file no_input) ≡ None
    → IsSurveyed l (ss ++ []) (us ++ []) n f → IsSurveyed l (ss ++ carried_in l (input_at l file ∷ []))
    (us ++ uses_in l (input_at l file ∷ [])) n f
file_none l ss us file n f none is =
    file_more l ss us file (get_or l.inputs file no_input) n f refl
    (subst (λ (a : List SectionId). IsSurveyed l (ss ++ carried_among l a) (us ++ uses_among l a) n f)
    (sym (nothing_said file (get_or l.inputs file no_input) none)) is)

-- before anything was looked at
pub nothing_yet : (l : Link) (n : Needs) (f : Findings) → f ≡ record { unsupported = None; overlap = None; addend = None; place = None }
    → IsNoted l [] n → IsSurveyed l [] [] n f
nothing_yet l n f is noted =
    subst (λ (g : Findings). IsSurveyed l [] [] n g) (sym is)
    (record {
      noted = noted;
      standing = record { unsupported = tt; overlap = tt; addend = tt; place = tt };
      fine = λ c. All-nil
          (IsFine l);
      apart = λ c. All-nil (IsApart l);
    })

-- all files
pub all_uses : (l : Link) → uses_in l (enumerate_from 0 l.inputs) ≡ uses_of_carried l
unfolding uses_of_carried carried_of sections_of
all_uses l = refl

pub all_sections : (l : Link) → carried_in l (enumerate_from 0 l.inputs) ≡ carried_of l
unfolding carried_of sections_of
all_sections l = refl

pub whole_begins : (l : Link) → BeginsWith l (uses_in l (enumerate_from 0 l.inputs))
unfolding uses_of uses_of_carried carried_of sections_of
whole_begins l =
    let first = flat_map (carried_uses l) (carried_of l) in
    let second = flat_map (initializer_uses l) (initializer_sections l) in
    let third = flat_map (personality_uses l) (unwind_sections l) in
    let last = map ByName (filter (is_imported l) (plain_entries l.export_lists)) in
    record {
      rest = (second ++ third) ++ last;
      is = ap (λ ws. ws ++ last) (append_assoc first second third)
          ∙ append_assoc first (second ++ third) last;
    }

pub whole_survey : (l : Link) (i : ℕ) (n : Needs) (f : Findings) → length (enumerate_from 0 l.inputs) ≤ i
    → IsSurveyed l (carried_in l (take i (enumerate_from 0 l.inputs))) (uses_in l (take i (enumerate_from 0 l.inputs))) n f
    → IsSurveyed l (carried_of l) (uses_of_carried l) n f
whole_survey l i n f past is =
    let all = walked_all l (carried_in l) (uses_in l) [] [] (enumerate_from 0 l.inputs) i n f past is in
    subst (λ (ss : List SectionId). IsSurveyed l ss (uses_of_carried l) n f) (all_sections l)
    (subst (λ (us : List Use). IsSurveyed l (carried_in l (enumerate_from 0 l.inputs)) us n f) (all_uses l) all)

-- an answer that is none, said in other words
pub if_none : {X P Q : Type 0} (o : Option X) → (P → Q) → IfNone o P → IfNone o Q
if_none None f p = f p
if_none (Some x) f p = tt

-- one input more
pub input_more : (l : Link) (views : List (Option FileBytes)) (i : ℕ) → views ≡ views_of l → i < length views
    → i < length (enumerate_from 0 l.inputs)
input_more l views i are below = omega (arith, file_inside views l.inputs i are below, length-enumerate_from 0 l.inputs)

pub inputs_past : (l : Link) (views : List (Option FileBytes)) (i : ℕ) → views ≡ views_of l → length views ≤ i
    → length (enumerate_from 0 l.inputs) ≤ i
inputs_past l views i are past = omega (arith, past, ap length are, length-map l.inputs object_view, length-enumerate_from 0 l.inputs)

-- a relocation of a carried section is a use
use_there : (l : Link) (s : SectionId) (r : ℕ) → Contains (carried_of l) s → r < (header_at l s).nreloc
    → Contains (uses_of_carried l) (ByRelocation s r)
unfolding uses_of_carried
use_there l s r carried below =
    contains_flat_map (carried_uses l) (carried_of l) s (ByRelocation s r) carried
    (contains_map (ByRelocation s) (relocations_of l s) r (contains_range (header_at l s).nreloc r below))

-- a field of a section is that of one of its relocations
field_from : (l : Link) (s : SectionId) (f : Field) → Contains (fields_of l s) f → (r : ℕ) × (r < (header_at l s).nreloc)
    × (field_of l s r ≡ f)
unfolding fields_of
field_from l s f there =
    let m = map_contains (field_of l s) _ f there in (
      m.0,
      range_contains (header_at l s).nreloc m.0 (unfilter_contains (λ r. not (is_prefix_type (relocation_in l s r).r_type))
          (relocations_of l s) m.0
          m.1),
      m.2,
    )

pub sound_is : (l : Link) (n : Needs) (f : Findings) → IsSurveyed l (carried_of l) (uses_of_carried l) n f → IsClean f → IsSound l
sound_is l n f is clean = record {
  relocations = record {
    supported = λ s r carried below. (fine s r carried below).supported;
    apart = λ s q r carried order below. (all_contains (IsApart l) (carried_of l) s (is.apart clean) carried).each q r order below;
  };
  addends = λ s g carried there pointer import.
      let m = field_from l s g there in
      let fits = (fine s m.0 carried m.1).addend (ap is_pointer m.2 ∙ pointer) (ap (λ (h : Field). is_import h.target) m.2 ∙ import) in
      sym (ap (λ (h : Field). fits_signed 32 h.addend) m.2) ∙ fits;
  places = λ s g carried there fixup.
      let m = field_from l s g there in (fine s m.0 carried m.1).place (ap (needs_fixup l s) m.2 ∙ fixup);
}
  where
    fine : (s : SectionId) (r : ℕ) → Contains (carried_of l) s → r < (header_at l s).nreloc → IsFineRelocation l s r
    fine s r carried below = all_contains (IsFine l) (uses_of_carried l) (ByRelocation s r) (is.fine clean) (use_there l s r carried below)

pub views_kept : (views : List (Option FileBytes)) (old new : List FileRows) → AreOfInputs views old
    → ((inputs : List Input) → Keeps inputs old → Keeps inputs new) → AreOfInputs views new
views_kept views old new of kept = record { inputs = of.inputs; keeps = kept of.inputs of.keeps; are = of.are }
