-- Stubs one behind the other, and slots that are asked for.
--
-- A stub more is put behind those so far, which it leaves. A slot more appends its fixup. By the placement's addresses the
-- slot of a stub is one of its slots, behind it; so it is in reach exactly where it is within 4 GiB of the stub's page. And a
-- slot has no word exactly where its target's address is none that a word has room for.
use Rattle.std.proofs.Common.{◌≡◌, ℕ, ◌+◌, ◌*◌, ◌<◌, ◌≤◌, true, List, [], ◌∷◌, ◌++◌, map, take, get_or, sym, ap, subst, ◌∙◌, arith, inl, inr, length, append_assoc}
use Rattle.std.specs.Prelude.{Some}
use Rattle.std.proofs.lemmas.List.{map-append, take_more}
use Rattle.macho_bytes.specs.Texts.{put, Stands}
use Rattle.macho_bytes.proofs.Puts.{put_stands, stands_beside}
use Rattle.macho_model.specs.declared.placed.Slot.{Slot}
use Rattle.macho_model.specs.declared.placed.Stub.{Stub}
use Rattle.macho_fixups.specs.declared.run.Fixup.{Fixup}
use Rattle.macho_fields.specs.Looks.{Look}
use Rattle.macho_object.proofs.Options.{some_if}
use Rattle.macho_fixups.specs.declared.words.FixupKind.{FixupKind}
use Rattle.macho_fields.specs.steps.Fields.{is_encodable, kind_asked, fixup_asked}
use Rattle.macho_fields.specs.steps.Stubs.{IsThrough, StubsStand, slot_asked, SlotsAsked}
use Rattle.macho_bytes.proofs.Comparing.{below_more, read_alike}

-- one stub more
pub stubs_more : (look : Look) (stubs : List Stub) (n : ℕ) (s : Stub) (text old new : List ℕ) → StubsStand look stubs n old
    → n < length stubs
    → s ≡ get_or stubs n s → IsThrough look s text → length old ≡ 12 * length stubs → new ≡ put (12 * n) text old
    → StubsStand look stubs (n + 1) new
stubs_more look stubs n s text old new before among is through room put_is k d lt = elim (below_more k n lt) [
  | inl less ↦
      let b = before k d less in
      record {
        text = b.text;
        stands = subst (λ (t : List ℕ). Stands t (record { at = 12 * k; text = b.text })) (sym put_is)
            (stands_beside (12 * n) text old (record { at = 12 * k; text = b.text }) fits b.stands (inl (omega (arith, less, b.is.long))));
        is = b.is;
      }
  | inr last ↦
      record {
        text = text;
        stands = subst (λ (t : List ℕ). Stands t (record { at = 12 * k; text = text })) (sym put_is)
            (subst (λ (m : ℕ). Stands (put (12 * n) text old) (record { at = 12 * m; text = text })) (sym last)
            (put_stands (12 * n) text old fits));
        is = subst (λ (t : Stub). IsThrough look t text) (is ∙ read_alike stubs n s d among
            ∙ sym (ap (λ (m : ℕ). get_or stubs m d) last)) through;
      }
]
  where
    fits : 12 * n + length text ≤ length old
    fits = omega (arith, through.long, room, among)

-- one slot more
pub slots_more : (look : Look) (slots : List Slot) (n : ℕ) (s : Slot) (old mid new : List Fixup) → SlotsAsked look slots n old mid
    → n < length slots
    → s ≡ get_or slots n s → is_encodable look s.target 0 ≡ true → new ≡ mid ++ slot_asked look s ∷ []
    → SlotsAsked look slots (n + 1) old new
slots_more look slots n s old mid new before among is fits more = record {
  fit = λ k d lt. elim (below_more k n lt) [
    | inl less ↦ before.fit k d less
    | inr last ↦ subst (λ (t : Slot). is_encodable look t.target 0 ≡ true)
        (is ∙ read_alike slots n s d among ∙ sym (ap (λ (m : ℕ). get_or slots m d) last)) fits
  ];
  run =
      more ∙ ap (λ (t : List Fixup). t ++ slot_asked look s ∷ []) before.run
      ∙ append_assoc old (map (slot_asked look) (take n slots)) (slot_asked look s ∷ [])
      ∙ ap (λ (t : List Fixup). old ++ t) (sym (map-append (slot_asked look) (take n slots) (s ∷ []))
      ∙ ap (map (slot_asked look)) (sym (take_more slots n s among ∙ ap (λ (x : Slot). take n slots ++ x ∷ []) (sym is))));
}

-- the same, as it is pushed
pub slots_pushed : (look : Look) (slots : List Slot) (n : ℕ) (s : Slot) (kind : FixupKind) (old mid new : List Fixup)
    → SlotsAsked look slots n old mid
    → n < length slots → s ≡ get_or slots n s → Some kind ≡ fixup_asked look s.target 0
    → new ≡ mid ++ record { address = s.address; kind = kind } ∷ []
    → SlotsAsked look slots (n + 1) old new
slots_pushed look slots n s kind old mid new before among is asked more =
    let both = some_if (is_encodable look s.target 0) kind (kind_asked look s.target 0) asked in
    slots_more look slots n s old mid new before among is both.0
    (more ∙ ap (λ (k : FixupKind). mid ++ record { address = s.address; kind = k } ∷ []) both.1)
