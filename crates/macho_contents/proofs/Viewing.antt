-- Sections of a link, seen through views of its objects.
--
-- A view that is there is that of an object, so its bytes are the link's. A placed section is a carried one, as these are listed
-- in order. So what filling one section rests on follows from what filling all of them does. A section of zeros has no fields: it
-- asks for nothing, and nothing stands against it.
use Rattle.std.proofs.Common.{◌≡◌, ℕ, true, false, Bool, List, [], ◌++◌, map, filter, length, get_or, refl, sym, ap, subst, ◌∙◌, arith, append-nil, inl, inr, if◌then◌else◌, Option, Some, None, Result, Ok, Err, OnOk}
use Rattle.std.specs.Prelude.{Contains, All, nat_lt}
use Rattle.std.proofs.lemmas.Bool.{cases_lt, true≢false}
use Rattle.std.proofs.lemmas.List.{get_or_past, get_or-map, length-map}
use Rattle.macho_records.specs.Sections.{is_zerofill}
use Rattle.macho_records.specs.declared.header.SectionHeader.{SectionHeader}
use Rattle.macho_model.specs.declared.placed.PlacedSection.{PlacedSection}
use Rattle.macho_model.specs.Objects.{section_at}
use Rattle.macho_model.specs.Links.{Input, Object, Dylib, Stub, Link, SectionId, object_of, object_bytes, no_input, header_at, carried_of}
use Rattle.macho_model.specs.Fields.{Field, fields_of}
use Rattle.macho_model.specs.Values.{needs_fixup}
use Rattle.macho_model.specs.Placement.{Placed, id_of}
use Rattle.macho_object.specs.Views.{FileBytes, section_count, of_section}
use Rattle.macho_bytes.proofs.Members.{contains_map, nil_contains}
use Rattle.macho_promise.specs.Views.{object_view, views_of}
use Rattle.macho_promise.specs.Asked.{field_fixup, fixups_in}
use Rattle.macho_fixups.specs.declared.run.Fixup.{Fixup}
use Rattle.macho_fields.specs.Looks.{Look}
use Rattle.macho_fields.specs.Filling.{IsToFill}
use Rattle.macho_fields.specs.Faults.{NoneStandsIn}
use Rattle.macho_contents.specs.Fitting.{SectionsFit, AreToFill}
use Rattle.macho_contents.specs.steps.Sections.{IsPut, IsDone, IsSeen}

-- two facts of an Ok give a third
pub on_ok_all : {X E A B C D : Type 0} (r : Result X E) → (A → B → C → D) → OnOk r A → OnOk r B → OnOk r C → OnOk r D
on_ok_all (Ok x) all a b c = all a b c
on_ok_all (Err e) all a b c = tt

-- the header that a view answers
pub header_is : (f : FileBytes) (k : ℕ) (r : Option SectionHeader) (h : SectionHeader)
    → r ≡ of_section f k (section_at f.bytes k) → r ≡ Some h
    → h ≡ section_at f.bytes k
header_is f k r h told is = by (nat_lt k (section_count f.is_dynamic f.bytes)) (sym told ∙ is)
  where
    by : (b : Bool) → (if b then Some (section_at f.bytes k) else None) ≡ Some h → h ≡ section_at f.bytes k
    by true e = cc
    by false e = cc

view_bytes : (x : Input) (f : FileBytes) → object_view x ≡ Some f → object_bytes x ≡ f.bytes
view_bytes (Object bytes) f e = cc
view_bytes (Dylib bytes) f e = cc
view_bytes (Stub text says) f e = cc

none_some : {X : Type 0} (x : X) → None ≡ Some x → ⊥
none_some x e = cc

-- a view that is there shows the bytes of the link's object
pub view_is : (l : Link) (views : List (Option FileBytes)) (k : ℕ) (f : FileBytes) → views ≡ views_of l → get_or views k None ≡ Some f
    → object_of l k ≡ f.bytes
view_is l views k f same seen = elim (cases_lt k (length l.inputs)) [
  | inl among ↦
      view_bytes (get_or l.inputs k no_input) f
      (sym (ap (λ (vs : List (Option FileBytes)). get_or vs k None) same ∙ get_or-map object_view l.inputs k no_input None among) ∙ seen)
  | inr past ↦
      let nothing : get_or views k None ≡ None =
      ap (λ (vs : List (Option FileBytes)). get_or vs k None) same
      ∙ get_or_past (views_of l) k None (omega (arith, past, length-map l.inputs object_view)) in
      absurd (none_some f (sym nothing ∙ seen))
]

-- a placed section is carried
pub placed_carried : (l : Link) (p : Placed) (q : PlacedSection) → map id_of p.sections ≡ carried_of l → Contains p.sections q
    → Contains (carried_of l) (id_of q)
placed_carried l p q listed here =
    subst (λ (ss : List SectionId). Contains ss (id_of q)) listed (contains_map id_of p.sections q here)

-- what filling one rests on
pub one_to_fill : (l : Link) (p : Placed) (views : List (Option FileBytes)) (look : Look) (q : PlacedSection) (f : FileBytes)
    → AreToFill l p views look → Contains p.sections q → get_or views q.file None ≡ Some f → IsToFill l p q look f.bytes
one_to_fill l p views look q f all here seen = record {
  sound = all.sound;
  found = all.found;
  tells = all.tells;
  carried = placed_carried l p q all.listed here;
  here = here;
  object = view_is l views q.file f all.objects seen;
}

-- its header
pub header_here : (l : Link) (p : Placed) (views : List (Option FileBytes)) (look : Look) (q : PlacedSection) (f : FileBytes) (b : Bool)
    → AreToFill l p views look → get_or views q.file None ≡ Some f → is_zerofill (section_at f.bytes q.section) ≡ b
    → is_zerofill (header_at l (id_of q)) ≡ b
header_here l p views look q f b all seen is =
    ap (λ (bytes : List ℕ). is_zerofill (section_at bytes q.section)) (view_is l views q.file f all.objects seen) ∙ is

-- a section of zeros is done
pub zeros_done : (l : Link) (p : Placed) (views : List (Option FileBytes)) (look : Look) (q : PlacedSection) (old : List ℕ)
    (run : List Fixup)
    → AreToFill l p views look → Contains p.sections q → is_zerofill (header_at l (id_of q)) ≡ true → IsDone l p q old old run run
unfolding fixups_in
zeros_done l p views look q old run all here zeros = record {
  zeros = λ is. refl;
  filled = λ other. absurd (true≢false (sym zeros ∙ other));
  asked = sym (append-nil run) ∙ ap (λ (fs : List Field). run ++ map (field_fixup l p q) (filter (needs_fixup l (id_of q)) fs))
      (sym none);
  none = record {
    range = λ r bad. field_none bad.0 (bad.2).1;
    rebase = λ r bad. field_none bad.0 (bad.2).1;
    place = λ r bad. field_none bad.0 (bad.1).1;
  };
}
  where
    none : fields_of l (id_of q) ≡ []
    none = all.zeros (id_of q) (placed_carried l p q all.listed here) zeros

    field_none : (f : Field) → Contains (fields_of l (id_of q)) f → ⊥
    field_none f has = nil_contains f (subst (λ (fs : List Field). Contains fs f) none has)

-- and so is one that was filled
pub filled_done : (l : Link) (p : Placed) (q : PlacedSection) (old new : List ℕ) (run next : List Fixup)
    → is_zerofill (header_at l (id_of q)) ≡ false
    → IsPut l p q old new → next ≡ run ++ fixups_in l p q → NoneStandsIn l p q → IsDone l p q old new run next
filled_done l p q old new run next filled put asked none = record {
  zeros = λ is. absurd (true≢false (sym is ∙ filled));
  filled = λ is. put;
  asked = asked;
  none = none;
}

-- sections that have room are those of viewed objects
pub sections_seen : (views : List (Option FileBytes)) (p : Placed) (n : ℕ) → SectionsFit views p n → All (IsSeen views) p.sections
sections_seen views p n fit k d lt = record {
  file = (fit k d lt).file;
  viewed = (fit k d lt).viewed;
  static = (fit k d lt).static;
  among = (fit k d lt).among;
  low = λ filled. ((fit k d lt).room filled).low;
}
