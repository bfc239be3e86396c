-- Where the targets of needed words are, and which imports these are.
--
-- Each target is a part of the link, or an import of it: that of a slot, since the placed slots are the link's; and that of a pointer. A
-- part of the link is placed, once, and the look-ups tell where; so a target that is no import is at the address that is looked up, and
-- nowhere else. The names of an import are those of its number. The first words were asked one by one: each led as it was to.
use Rattle.std.proofs.Common.{◌≡◌, ℕ, ◌+◌, ◌%◌, ◌^◌, ◌<◌, false, List, length, get_or, refl, sym, ap, subst, ◌∙◌, inl, inr}
use Rattle.std.specs.Prelude.{Contains}
use Rattle.macho_bytes.proofs.Comparing.{read_alike, below_more}
use Rattle.macho_bytes.proofs.Members.{contains_map, map_contains, contains_range, all_contains}
use Rattle.macho_model.specs.Values.{is_absolute_target}
use Rattle.macho_model.specs.declared.targets.Target.{Target}
use Rattle.macho_model.specs.declared.targets.Target.TheVariants as target
use Rattle.macho_model.specs.declared.placed.Slot.{Slot}
use Rattle.macho_model.specs.declared.targets.Site.{Site}
use Rattle.macho_model.specs.declared.targets.Site.TheVariants as site
use Rattle.macho_model.specs.Links.{Link, SectionId, section_id}
use Rattle.macho_model.specs.Resolution.{chosen_commons}
use Rattle.macho_model.specs.Targets.{slots_of}
use Rattle.macho_model.specs.Targets as model
use Rattle.macho_model.specs.Rows.{is_none}
use Rattle.macho_model.specs.Addresses.{address_of}
use Rattle.macho_model.specs.Placement.{Placed, IsWholeList, id_of}
use Rattle.macho_fields.specs.Looks.{Look, TellsAddresses, IsThere, IsPlacedOnce, address_in}
use Rattle.macho_fields.proofs.Placing.{address_told, stands_at, stands_only}
use Rattle.macho_image_laws.specs.Leads.{HasPlace, TargetsLead}
use Rattle.macho_image_rules.specs.declared.chain.Needed.{Needed}
use Rattle.macho_image_rules.specs.declared.words.ImportName.{ImportName}
use Rattle.macho_image_rules.specs.Words.{is_import, IsPlacedAt, IsImportNamed}
use Rattle.macho_image_rules.specs.Needing.{IsSlotWord, IsPointerWord, IsOfSite, IsNeededBy, AreNeededBy}
use Rattle.macho_image_rules.specs.Asking.{AreNamesOf, LeadsAsNeeded, IsMisledFirst}

-- the names of an import
pub named : (l : Link) (names : List ImportName) (id : ℕ) (name : ImportName) → AreNamesOf l names → id < length names
    → get_or names id name ≡ name → IsImportNamed l id name.library.now name.name.now
named l names id name of among is =
    subst (λ (n : ImportName). IsImportNamed l id n.library.now n.name.now) is (of.each id name among)

-- a target that isn't any import's
pub no_import_is : (t : Target) → ((id : ℕ) → t ≡ target.Import id → ⊥) → is_import t ≡ false
no_import_is (target.Section file section offset) not = refl
no_import_is (target.Common id) not = refl
no_import_is (target.Import id) not = absurd (not id refl)
no_import_is target.Base not = refl
no_import_is (target.Absolute value) not = refl
no_import_is target.None not = refl

-- a part of a link is placed
there : (l : Link) (p : Placed) (t : Target) → IsWholeList l p → HasPlace l t → IsThere p t
there l p (target.Section file section offset) whole has =
    let q = map_contains id_of p.sections (section_id file section)
    (subst (λ (ss : List SectionId). Contains ss (section_id file section)) (sym whole.sections) has.0) in
    (q.0, q.1, ap (λ (s : SectionId). s.file) q.2, ap (λ (s : SectionId). s.section) q.2)
there l p (target.Common id) whole has =
    let c = map_contains (λ c. c.id) p.commons id
    (subst (λ (ids : List ℕ). Contains ids id) (sym whole.commons) (contains_range (length (chosen_commons l)) id has)) in
    (c.0, c.1, c.2)
there l p (target.Import id) whole has = tt
there l p target.Base whole has = tt
there l p (target.Absolute value) whole has = tt
there l p target.None whole has = tt

-- a target with a place is something, and no fixed value
some : (l : Link) (t : Target) → HasPlace l t → (is_none t ≡ false) × (is_absolute_target t ≡ false)
some l (target.Section file section offset) has = (refl, refl)
some l (target.Common id) has = (refl, refl)
some l (target.Import id) has = (refl, refl)
some l target.Base has = (refl, refl)
some l (target.Absolute value) has = absurd has
some l target.None has = absurd has

own_as_model : (t : Target) → is_import t ≡ false → model.is_import t ≡ false
own_as_model (target.Section file section offset) own = refl
own_as_model (target.Common id) own = refl
own_as_model (target.Import id) own = own
own_as_model target.Base own = refl
own_as_model (target.Absolute value) own = refl
own_as_model target.None own = refl

-- a target that is no import is at the address that is looked up
pub placed_at : (l : Link) (p : Placed) (look : Look) (t : Target) (x : ℕ) → IsWholeList l p → IsPlacedOnce p → TellsAddresses p look
    → HasPlace l t → is_import t ≡ false → x ≡ address_in look t % 2 ^ 64 → IsPlacedAt l p t x
placed_at l p look t x whole once tells has own is =
    let plain = own_as_model t own in
    let told = address_told p look t tells in
    record {
      own = own;
      place = address_of p t;
      at = stands_at l p t once (there l p t whole has) plain (some l t has).0;
      each = λ y at. ap (λ (n : ℕ). n % 2 ^ 64) (stands_only l p t y once plain at ∙ sym told) ∙ sym is;
    }

-- THE target of a needed word is a part of the link, or an import of it.
slot_has : (l : Link) (p : Placed) (n : Needed) (k : ℕ) → TargetsLead l → IsWholeList l p → IsSlotWord p n k → HasPlace l n.target
slot_has l p n k leads whole word =
    let listed = contains_map (λ (s : Slot). s.target) p.slots word.slot (k, word.numbered.0, word.numbered.1) in
    subst (HasPlace l) (sym (ap (λ (w : Needed). w.target) word.is))
    (all_contains (HasPlace l) (slots_of l) word.slot.target leads.slots
    (subst (λ (ts : List Target). Contains ts word.slot.target) whole.slots listed))

pointer_has : (l : Link) (p : Placed) (n : Needed) (file section relocation : ℕ) → TargetsLead l → IsWholeList l p
    → IsPointerWord l p n file section relocation → HasPlace l n.target
pointer_has l p n file section relocation leads whole word =
    let q = word.place in
    let carried = subst (λ (ss : List SectionId). Contains ss (id_of q)) whole.sections
    (contains_map id_of p.sections q word.pointer.placed) in
    subst (HasPlace l) (sym (ap (λ (w : Needed). w.target) word.is))
    (leads.pointers (id_of q) word.field carried word.pointer.among word.pointer.needs)

pub target_has : (l : Link) (p : Placed) (n : Needed) → TargetsLead l → IsWholeList l p → IsNeededBy l p n → HasPlace l n.target
target_has l p n leads whole by = of n.site by
  where
    of : (at : Site) → IsOfSite l p n at → HasPlace l n.target
    of (site.Slot k) word = slot_has l p n k leads whole word
    of (site.Field file section relocation) word = pointer_has l p n file section relocation leads whole word
    of (site.Stub k) word = absurd word

pub each_has : (l : Link) (p : Placed) (needed : List Needed) (n : ℕ) (d : Needed) → TargetsLead l → IsWholeList l p
    → AreNeededBy l p needed → n < length needed → HasPlace l (get_or needed n d).target
each_has l p needed n d leads whole by among = target_has l p (get_or needed n d) leads whole (by.each n d among)

-- the first words led as they were to, and then one doesn't, or all do
abbrev pub FirstLead : Link → List ℕ → Placed → List Needed → ℕ → Type 0
FirstLead l b p needed n = (k : ℕ) (d : Needed) → k < n → LeadsAsNeeded l b p (get_or needed k d)

pub one_more_leads : (l : Link) (b : List ℕ) (p : Placed) (needed : List Needed) (n : ℕ) (e : Needed) → n < length needed
    → FirstLead l b p needed n → LeadsAsNeeded l b p (get_or needed n e) → FirstLead l b p needed (n + 1)
one_more_leads l b p needed n e among before leads k d lt = elim (below_more k n lt) [
  | inl less ↦ before k d less
  | inr same ↦
      subst (λ (i : ℕ). LeadsAsNeeded l b p (get_or needed i d)) (sym same)
      (subst (LeadsAsNeeded l b p) (read_alike needed n e d among) leads)
]

pub misled_first : (l : Link) (b : List ℕ) (p : Placed) (needed : List Needed) (n : ℕ) (e : Needed) → n < length needed
    → FirstLead l b p needed n → (LeadsAsNeeded l b p (get_or needed n e) → ⊥) → IsMisledFirst l b p needed n
misled_first l b p needed n e among before misled = record {
  among = among;
  misled = λ d leads. misled (subst (LeadsAsNeeded l b p) (read_alike needed n d e among) leads);
  before = before;
}
