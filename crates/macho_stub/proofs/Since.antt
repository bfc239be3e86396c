-- What the lines that were read say of where the reading is: the first line of the document is the last head among
-- them; a flow list that is open began at a line behind which, at every line since, a closing bracket may stand; and a
-- key of items has nothing under it but lines that are passed over.
-- Each line keeps this: by what the step over it leaves (`KeptLines`), a list is as it was or begins at the line. That
-- a bracket may stand behind an open list is by reading it (`closing_stands`); that none may where no list is open is
-- by reading too (`no_bracket_at_keys`, `no_bracket_at_item`).
use Rattle.std.proofs.Common.{◌≡◌, ◌≢◌, ℕ, ◌+◌, Bool, true, false, List, [], ◌∷◌, ◌++◌, length, Option, Some, None, Ok, Err, refl, sym, ap, ◌∙◌, inl, inr, subst}
use Rattle.std.specs.Str.{bytes_eq}
use Rattle.macho_stub_lines.specs.declared.fault.StubRule.TheVariants.{S1}
use Rattle.macho_stub_lines.specs.declared.keys.ItemKind.{ItemKind}
use Rattle.macho_stub_lines.specs.Bytes.{indent, unspaced, is_passed, has_barred, is_blank_or_comment, is_key_byte, head, has_dash, belongs_to_top, end}
use Rattle.macho_stub_lines.specs.Faults.{Reading, outside}
use Rattle.macho_stub_lines.specs.Keys.{entry_at}
use Rattle.macho_stub.specs.Documents.{ItemFields, DocumentFields}
use Rattle.macho_stub.specs.steps.Opened.{OpenDocumentFields, head_at, with_items}
use Rattle.macho_stub.specs.steps.Reader.{ItemListFields, NameListFields, ModeFields, Keys, Skipped, Names, NoItem, InsideFields, PlaceFields, Outside, Within, StateFields, stays, first_line, top_line, items_with_last, content_line, line_step, start, names_line, within}
use Rattle.macho_stub.specs.Order.{MayStand, IsLastLine}
use Rattle.macho_stub.specs.steps.Order.{unread_key, unread_item}
use Rattle.macho_stub.proofs.Lasts.{IsHead, stays_last, is_last}
use Rattle.macho_stub.proofs.PutIn.{closing_bracket, at_item, begun, close_steps, dash_steps}
use Rattle.macho_stub.proofs.Joined.{IsLine}
use Rattle.macho_stub.proofs.Reached.{Reached, reached_start, reached_more, may_stand, refused}
use Rattle.macho_stub.proofs.Steps.{Closes, keys_state, top_steps, lacking_steps}
use Rattle.macho_stub.proofs.Kept.{Began}
use Rattle.macho_stub.proofs.KeptLines.{BehindState, NoBarePlace, inside_line_kept, names_line_no_bare, outside_kept, step_kinds}
use Rattle.macho_stub_lines.proofs.Bind.{not_broken}

-- no flow list is open before the line
abbrev pub IsOutsideList : List (List ℕ) → List ℕ → Type 0
IsOutsideList before line = MayStand before closing_bracket → ⊥

-- the lines end inside a flow list that began at this number
abbrev pub IsCutList : ℕ → List (List ℕ) → Type 0
IsCutList number texts = MayStand texts closing_bracket × IsLastLine IsOutsideList number texts

-- the line has content
abbrev pub HasContent : List (List ℕ) → List ℕ → Type 0
HasContent before line = is_passed line ≡ false

-- the lines end at a key of items, at this number, under which none stands
abbrev pub IsBareKey : ℕ → List (List ℕ) → Type 0
IsBareKey number texts = MayStand texts unread_item × (MayStand texts unread_key → ⊥) × IsLastLine HasContent number texts

abbrev pub HeadsAt : List (List ℕ) → PlaceFields → Type 0
HeadsAt first Outside = Unit {0}
HeadsAt first (Within inside) = IsLastLine IsHead inside.document.line first

abbrev pub ListMode : List (List ℕ) → ModeFields → Type 0
ListMode first Keys = Unit {0}
ListMode first Skipped = Unit {0}
ListMode first (Names names) = IsCutList names.began first
ListMode first (NoItem kind at) = IsBareKey at first

abbrev pub ListsAt : List (List ℕ) → PlaceFields → Type 0
ListsAt first Outside = Unit {0}
ListsAt first (Within inside) = ListMode first inside.mode

-- the lines lead to the state, and say this of it
pub record Known (first : List (List ℕ)) (state : StateFields) : Type 0 where
  pub reached : Reached first state
  pub heads : HeadsAt first state.place
  pub lists : ListsAt first state.place

-- what is known at the start
pub known_start : Known [] start
known_start = record { reached = reached_start; heads = tt; lists = tt }

-- ---- heads

passed_no_head : (text : List ℕ) → is_passed text ≡ true → text ≢ head
unfolding is_passed is_blank_or_comment unspaced indent
passed_no_head text h = λ is. absurd (let k = sym (ap is_passed is) ∙ h in cc)

-- ---- flow lists

list_stays : (number : ℕ) (first : List (List ℕ)) (text : List ℕ) → IsCutList number first → MayStand (first ++ text ∷ []) closing_bracket
    → IsCutList number (first ++ text ∷ [])
list_stays number first text c m = (m, stays_last IsOutsideList number first text c.1 (λ outside. outside c.0))

list_here : (first : List (List ℕ)) (text : List ℕ) → (MayStand first closing_bracket → ⊥) → MayStand (first ++ text ∷ []) closing_bracket
    → IsCutList (length first + 1) (first ++ text ∷ [])
list_here first text n m = (m, is_last IsOutsideList first text n)

-- behind a list that is open a bracket may stand
pub closing_stands : (first : List (List ℕ)) (before : List DocumentFields) (document : OpenDocumentFields) (list : Option ItemListFields)
    (names : NameListFields) → Reached first (record { documents = before; place = Within (stays document list (Names names)) })
    → MayStand first closing_bracket
closing_stands first before document list names r = may_stand first _ _ closing_bracket r refl
    (close_steps before document list names (length first + 1) r.good.1)

-- and where a key may stand, none may
bracket_at_top : (before : List DocumentFields) (document whole : OpenDocumentFields) (list : Option ItemListFields) (skipped : Bool)
    (line : ℕ) → Closes list document whole → line_step (keys_state before document list skipped) line closing_bracket ≡ outside line
unfolding has_barred is_passed is_blank_or_comment unspaced indent belongs_to_top top_line entry_at is_key_byte
bracket_at_top before document whole list skipped line c =
    top_steps before document whole list skipped line closing_bracket c refl refl refl

-- where keys may stand, no bracket may
pub no_bracket_at_keys : (first : List (List ℕ)) (before : List DocumentFields) (document : OpenDocumentFields) (list : Option
    ItemListFields)
    (skipped : Bool) → Reached first (keys_state before document list skipped) → MayStand first closing_bracket → ⊥
unfolding has_barred is_passed is_blank_or_comment unspaced indent
no_bracket_at_keys first before document None skipped r m = refused first _ closing_bracket (length first + 1) S1 r
    (bracket_at_top before document document None skipped (length first + 1) refl) m
no_bracket_at_keys first before document (Some list) skipped r m = by_items (items_with_last document.line list) refl
  where
    by_items : (reading : Reading (List ItemFields)) → items_with_last document.line list ≡ reading → ⊥
    by_items (Ok items) e = refused first _ closing_bracket (length first + 1) S1 r
        (bracket_at_top before document (with_items list.kind items document) (Some list) skipped (length first + 1) (items, e, refl)) m
    by_items (Err fault) e = refused first _ closing_bracket fault.line fault.rule r
        (lacking_steps before document list skipped (length first + 1) closing_bracket fault.line fault.rule e refl refl refl) m

-- nor where an item must stand
pub no_bracket_at_item : (first : List (List ℕ)) (before : List DocumentFields) (document : OpenDocumentFields) (list : Option
    ItemListFields)
    (kind : ItemKind) (at : ℕ) → Reached first (record { documents = before; place = Within (stays document list (NoItem kind at)) })
    → MayStand first closing_bracket → ⊥
unfolding line_step has_barred is_passed is_blank_or_comment unspaced indent first_line has_dash
no_bracket_at_item first before document list kind at r m = refused first _ closing_bracket (length first + 1) S1 r refl m

-- ---- keys of items

-- there an item may stand
pub item_stands : (first : List (List ℕ)) (before : List DocumentFields) (document : OpenDocumentFields) (list : Option ItemListFields)
    (kind : ItemKind) (at : ℕ) → Reached first (record { documents = before; place = Within (stays document list (NoItem kind at)) })
    → MayStand first unread_item
item_stands first before document list kind at r = may_stand first _ (at_item before document (begun kind) true) unread_item r refl
    (dash_steps before document list kind at (length first + 1))

pub no_unread_key_at_item : (first : List (List ℕ)) (before : List DocumentFields) (document : OpenDocumentFields)
    (list : Option ItemListFields) (kind : ItemKind) (at : ℕ)
    → Reached first (record { documents = before; place = Within (stays document list (NoItem kind at)) })
    → MayStand first unread_key → ⊥
unfolding line_step has_barred is_passed is_blank_or_comment unspaced indent first_line has_dash
no_unread_key_at_item first before document list kind at r m = refused first _ unread_key (length first + 1) S1 r refl m

-- ---- a step

-- a line that is passed over
mode_passed : (first : List (List ℕ)) (before : List DocumentFields) (document : OpenDocumentFields) (list : Option ItemListFields)
    (mode : ModeFields) (text : List ℕ) → is_passed text ≡ true
    → Reached (first ++ text ∷ []) (record { documents = before; place = Within (stays document list mode) })
    → ListMode first mode → ListMode (first ++ text ∷ []) mode
mode_passed first before document list Keys text p r l = tt
mode_passed first before document list Skipped text p r l = tt
mode_passed first before document list (Names names) text p r l = list_stays names.began first text l
    (closing_stands (first ++ text ∷ []) before document list names r)
mode_passed first before document list (NoItem kind at) text p r l = (
  item_stands (first ++ text ∷ []) before document list kind at r,
  no_unread_key_at_item (first ++ text ∷ []) before document list kind at r,
  stays_last HasContent at first text l.2 (λ content. let both = sym p ∙ content in cc),
)

place_passed : (first : List (List ℕ)) (before : List DocumentFields) (place : PlaceFields) (text : List ℕ) → is_passed text ≡ true
    → Reached (first ++ text ∷ []) (record { documents = before; place = place }) → HeadsAt first place → ListsAt first place
    → HeadsAt (first ++ text ∷ []) place × ListsAt (first ++ text ∷ []) place
place_passed first before Outside text p r h l = (tt, tt)
place_passed first before (Within inside) text p r h l = (
  stays_last IsHead inside.document.line first text h (passed_no_head text p),
  mode_passed first before inside.document inside.list inside.mode text p r l,
)

-- a list, or a key of items, that begins at the line
new_list : (first : List (List ℕ)) (before : List DocumentFields) (document : OpenDocumentFields) (list : Option ItemListFields)
    (mode : ModeFields) (text : List ℕ) → is_passed text ≡ false → (MayStand first closing_bracket → ⊥)
    → Reached (first ++ text ∷ []) (record { documents = before; place = Within (stays document list mode) })
    → Began (length first + 1) mode → ListMode (first ++ text ∷ []) mode
new_list first before document list Keys text p n r b = tt
new_list first before document list Skipped text p n r b = tt
new_list first before document list (Names names) text p n r b =
    let C : ℕ → Type 0 = λ k. IsCutList k (first ++ text ∷ []) in
    subst C (sym b) (list_here first text n (closing_stands (first ++ text ∷ []) before document list names r))
new_list first before document list (NoItem kind at) text p n r b =
    let L : ℕ → Type 0 = λ k. IsLastLine HasContent k (first ++ text ∷ []) in (
      item_stands (first ++ text ∷ []) before document list kind at r,
      no_unread_key_at_item (first ++ text ∷ []) before document list kind at r,
      subst L (sym b) (is_last HasContent first text p),
    )

-- a list that goes on, or is closed
old_list : (first : List (List ℕ)) (before : List DocumentFields) (document : OpenDocumentFields) (list : Option ItemListFields)
    (mode : ModeFields) (text : List ℕ) (began : ℕ) → IsCutList began first
    → Reached (first ++ text ∷ []) (record { documents = before; place = Within (stays document list mode) })
    → Began began mode → NoBarePlace (Within (stays document list mode)) → ListMode (first ++ text ∷ []) mode
old_list first before document list Keys text began c r b n = tt
old_list first before document list Skipped text began c r b n = tt
old_list first before document list (Names names) text began c r b n =
    let C : ℕ → Type 0 = λ k. IsCutList k (first ++ text ∷ []) in
    subst C (sym b) (list_stays began first text c (closing_stands (first ++ text ∷ []) before document list names r))
old_list first before document list (NoItem kind at) text began c r b n = absurd n

-- the line begins a document
at_new_head : (first : List (List ℕ)) (inside : InsideFields) (text : List ℕ) → text ≡ head
    → inside ≡ stays (head_at (length first + 1)) None Keys
    → HeadsAt (first ++ text ∷ []) (Within inside) × ListsAt (first ++ text ∷ []) (Within inside)
at_new_head first inside text is at =
    let P : InsideFields → Type 0 = λ i. HeadsAt (first ++ text ∷ []) (Within i) × ListsAt (first ++ text ∷ []) (Within i) in
    subst P (sym at) (is_last IsHead first text is, tt)

-- what a line inside a document leaves
behind_inside : (first : List (List ℕ)) (next : StateFields) (text : List ℕ) (number began : ℕ) → Reached (first ++ text ∷ []) next
    → IsLastLine IsHead number first → BehindState number began (length first + 1) text next
    → ((document : OpenDocumentFields) (list : Option ItemListFields) (mode : ModeFields)
    → Reached (first ++ text ∷ []) (record { documents = next.documents; place = Within (stays document list mode) })
    → next.place ≡ Within (stays document list mode) → Began began mode → ListMode (first ++ text ∷ []) mode)
    → HeadsAt (first ++ text ∷ []) next.place × ListsAt (first ++ text ∷ []) next.place
behind_inside first next text number began r h b k = by_place next.place refl b
  where
    by_place : (place : PlaceFields) → next.place ≡ place
        → BehindState number began (length first + 1) text (record { documents = next.documents; place = place })
        → HeadsAt (first ++ text ∷ []) place × ListsAt (first ++ text ∷ []) place
    by_place Outside is b = (tt, tt)
    by_place (Within inside) is b =
        elim b [
          | inl o ↦
              let H : ℕ → Type 0 = λ n. IsLastLine IsHead n (first ++ text ∷ []) in
              let R : PlaceFields → Type 0 = λ p. Reached (first ++ text ∷ []) (record { documents = next.documents; place = p }) in (
                subst H (sym o.1.0) (stays_last IsHead number first text h o.0),
                k inside.document inside.list inside.mode (subst R is r) is o.1.1,
              )
          | inr o ↦ at_new_head first inside text o.0 o.1
        ]

inside_more : (first : List (List ℕ)) (before : List DocumentFields) (document : OpenDocumentFields) (list : Option ItemListFields)
    (mode : ModeFields) (next : StateFields) (text : List ℕ)
    → is_passed text ≡ false → Known first (record { documents = before; place = Within (stays document list mode) })
    → Reached (first ++ text ∷ []) next
    → content_line before (Within (stays document list mode)) (length first + 1) text ≡ Ok next
    → HeadsAt (first ++ text ∷ []) next.place × ListsAt (first ++ text ∷ []) next.place
inside_more first before document list Keys next text p k r e =
    behind_inside first next text document.line (length first + 1) r k.heads
    (inside_line_kept before document list Keys (length first + 1) text next e)
    (λ d l m q is b. new_list first next.documents d l m text p (no_bracket_at_keys first before document list false k.reached) q b)
inside_more first before document list Skipped next text p k r e =
    behind_inside first next text document.line (length first + 1) r k.heads
    (inside_line_kept before document list Skipped (length first + 1) text next e)
    (λ d l m q is b. new_list first next.documents d l m text p (no_bracket_at_keys first before document list true k.reached) q b)
inside_more first before document list (Names names) next text p k r e =
    let go = not_broken (bytes_eq text end) (length first + 1) S1
    (within before (names_line document list (length first + 1) names text)) next e in
    let n = names_line_no_bare before document list (length first + 1) names text next go.1 in
    behind_inside first next text document.line names.began r k.heads
    (inside_line_kept before document list (Names names) (length first + 1) text next e)
    (λ d l m q is b. old_list first next.documents d l m text names.began k.lists q b (subst NoBarePlace is n))
inside_more first before document list (NoItem kind at) next text p k r e =
    behind_inside first next text document.line (length first + 1) r k.heads
    (inside_line_kept before document list (NoItem kind at) (length first + 1) text next e)
    (λ d l m q is b. new_list first next.documents d l m text p (no_bracket_at_item first before document list kind at k.reached) q b)

place_more : (first : List (List ℕ)) (before : List DocumentFields) (place : PlaceFields) (next : StateFields) (text : List ℕ)
    → is_passed text ≡ false → Known first (record { documents = before; place = place }) → Reached (first ++ text ∷ []) next
    → content_line before place (length first + 1) text ≡ Ok next
    → HeadsAt (first ++ text ∷ []) next.place × ListsAt (first ++ text ∷ []) next.place
place_more first before Outside next text p k r e =
    let o = outside_kept before (length first + 1) text next e in
    let P : StateFields → Type 0 = λ s. HeadsAt (first ++ text ∷ []) s.place × ListsAt (first ++ text ∷ []) s.place in
    subst P o.1 (is_last IsHead first text o.0, tt)
place_more first before (Within inside) next text p k r e = inside_more first before inside.document inside.list inside.mode next text p k
    r e

-- a line more keeps what is known
pub known_more : (first : List (List ℕ)) (state next : StateFields) (text : List ℕ) → Known first state → IsLine text
    → line_step state (length first + 1) text ≡ Ok next → Known (first ++ text ∷ []) next
known_more first state next text k l e =
    let r = reached_more first state next text k.reached l e in
    let both : HeadsAt (first ++ text ∷ []) next.place × ListsAt (first ++ text ∷ []) next.place = elim (step_kinds state next (length
    first + 1) text e) [
      | inl p ↦
          let P : StateFields → Type 0 = λ s. HeadsAt (first ++ text ∷ []) s.place × ListsAt (first ++ text ∷ []) s.place in
          let R : StateFields → Type 0 = λ s. Reached (first ++ text ∷ []) s in
          subst P p.1 (place_passed first state.documents state.place text p.0 (subst R (sym p.1) r) k.heads k.lists)
      | inr c ↦ place_more first state.documents state.place next text c.0 k r c.1
    ] in
    record { reached = r; heads = both.0; lists = both.1 }
