-- THE theorem: what is written is the image with the name changed.
--
-- The bytes are known range by range (`Splices`). From them come the load commands (`Moved`, `Same`), that the loader accepts the image
-- (`Accepts`), the chain (`Chains`) and memory (`Memories`). The path of the new command is what stands behind its record up to the
-- first NUL: the new name has none, and at least one follows it.
use Rattle.std.proofs.Common.{◌≡◌, ℕ, ◌+◌, ◌-◌, ◌^◌, ◌<◌, ◌==◌, nat_lt, true, false, List, [], ◌∷◌, ◌++◌, length, replicate, slice_range, refl, sym, ap, subst, ◌∙◌, arith, All, append_assoc}
use Rattle.std.specs.Prelude.{Result, Ok, Err, IfOk}
use Rattle.std.specs.Global.{Vec}
use Rattle.macho_retool.specs.declared.change.RetoolFault.{RetoolFault}
use Rattle.std.proofs.lemmas.Bool.{le-ltb}
use Rattle.std.proofs.lemmas.List.{length-append, length-replicate}
use Rattle.std.proofs.lemmas.List.Edits.{length-between}
use Rattle.macho_bytes.specs.Numbers.{little, row_bytes}
use Rattle.macho_bytes.specs.Texts.{Stands, name_of}
use Rattle.macho_bytes.specs.Layouts.{size_of}
use Rattle.macho_bytes.proofs.Bools.{equal_is, unequal_is}
use Rattle.macho_bytes.proofs.Members.{contains_all}
use Rattle.macho_bytes.proofs.Names.{name_of-zeros, name_of-whole}
use Rattle.macho_bytes.proofs.Numbers.{stands-back, length-row_little}
use Rattle.macho_records.specs.CommandLayouts.{rpath_command}
use Rattle.macho_model.specs.Commands.{Command, commands_of, path_of}
use Rattle.macho_model.specs.Images.{Table}
use Rattle.macho_retool.specs.declared.change.Change.{Change}
use Rattle.macho_retool.specs.Changes.{command_number, record_size, path_for, new_size, new_text, moved}
use Rattle.macho_retool.specs.Retooled.{text_of_command, IsRetooled}
use Rattle.macho_retool.specs.steps.Spliced.{IsReady, IsSpliced}
use Rattle.macho_retool.specs.steps.Rewritten.{IsChanged}
use Rattle.macho_retool.proofs.Agree.{text-agrees}
use Rattle.macho_retool.proofs.Known.{Known, known}
use Rattle.macho_retool.proofs.Rooms.{commands_inside}
use Rattle.macho_retool.proofs.Writes.{record_is}
use Rattle.macho_retool.proofs.Splices.{spliced}
use Rattle.macho_retool.proofs.Same.{header_is, commands_move, others_agree}
use Rattle.macho_retool.proofs.Accepts.{still_accepted}
use Rattle.macho_retool.proofs.Memories.{on_forth, on_back, memory_alike}

-- the path of the new command
path_is : (change : Change) (b x : List ℕ) (c : Command) (t : Table) → IsReady change b c t → IsSpliced change b x c t
    → path_of x (moved change c c) (record_size change) ≡ path_for change
unfolding new_text
path_is change b x c t ready splice =
    let k = known change b c t ready in
    let holds = k.holds in
    let inside = k.inside in
    let sized = k.sized in
    let end = commands_inside b ready.accepted in
    let numbers = row_bytes little 4 (command_number change ∷ new_size change ∷ record_size change ∷ []) in
    let kept = slice_range b (c.at + size_of rpath_command) (c.at + record_size change) in
    let n = new_size change - (record_size change + length (path_for change)) in
    let zeros = replicate n 0 in
    let row : length numbers ≡ 12 = length-row_little 4 (command_number change ∷ new_size change ∷ record_size change ∷ []) in
    let least = record_is change in
    let rest : length kept ≡ c.at + record_size change - (c.at + 12) =
    length-between b (c.at + 12) (c.at + record_size change) (omega (arith, holds, inside, end)) in
    let front : length (numbers ++ kept) ≡ record_size change = omega (arith, length-append numbers kept, row, rest, least) in
    let whole : Stands x (record { at = c.at; text = (numbers ++ kept) ++ (path_for change ++ zeros) }) =
    subst (λ ts. Stands x (record { at = c.at; text = ts })) (append_assoc (numbers ++ kept) (path_for change) zeros) splice.text in
    let there = stands-back x c.at (c.at + record_size change) (numbers ++ kept) (path_for change ++ zeros) (omega (arith, front)) whole in
    let le : nat_lt c.at c.at ≡ false = le-ltb c.at c.at (omega arith) in
    let eq : (c.at == c.at) ≡ true = equal_is c.at c.at refl in
    let is : moved change c c ≡ record { at = c.at; number = c.number; size = new_size change } = rw (le, eq) refl in
    let long : length (path_for change ++ zeros) ≡ new_size change - record_size change =
    omega (arith, length-append (path_for change) zeros, length-replicate {A = ℕ} n 0, sized) in
    let last : c.at + record_size change + length (path_for change ++ zeros) ≡ c.at + new_size change = omega (arith, long, sized) in
    ap (λ (d : Command). name_of (slice_range x (d.at + record_size change) (d.at + d.size))) is
    ∙ ap (λ e. name_of (slice_range x (c.at + record_size change) e)) (sym last)
    ∙ ap name_of there.same ∙ name_of-zeros (path_for change) n
    ∙ name_of-whole (path_for change) (λ i lt zero. ready.ends (i, lt, zero))

-- each other command
others_are : (change : Change) (b x : List ℕ) (c : Command) (t : Table) → IsReady change b c t → IsSpliced change b x c t
    → All (λ y. (y.at ≡ c.at → ⊥) → text_of_command x (moved change c y) ≡ text_of_command b y) (commands_of b)
others_are change b x c t ready splice =
    contains_all (λ y. (y.at ≡ c.at → ⊥) → text_of_command x (moved change c y) ≡ text_of_command b y) (commands_of b)
    (λ y there other.
    let differ : (y.at == c.at) ≡ false = unequal_is y.at c.at other in
    let size : (moved change c y).size ≡ y.size = rw differ refl in
    text-agrees y.size x b (moved change c y).at y.at ((moved change c y).at + (moved change c y).size) (y.at + y.size)
    (others_agree change b x c t y ready splice there other) (ap (λ n. (moved change c y).at + n) size) refl)

-- THE theorem
pub retooled : (change : Change) (b x : List ℕ) → IsChanged change b x → IsRetooled change b x
retooled change b x h =
    let c = h.command in
    let t = h.table in
    let ready = h.ready in
    let k = known change b c t ready in
    let small : new_size change < 2 ^ 32 = size_small change b c t h.form.limit k h.says.0 h.small in
    let splice = spliced change b x c t h.form ready h.says h.small (commands_inside b ready.accepted) h.is in (
      c,
      t,
      record {
        named = ready.named;
        formed = ready.formed;
        accepted = still_accepted change b x c t ready splice small;
        long = splice.long;
        commands = commands_move change b x c t ready splice small;
        is = splice.text;
        path = path_is change b x c t ready splice;
        front = λ i from to. splice.head i (omega (arith, from)) to;
        behind = splice.tail;
        others = others_are change b x c t ready splice;
        header = header_is change b x c t ready splice;
        freed = splice.freed;
        kept = splice.kept;
        signed = splice.signed;
        chain = λ a. (on_forth change b x c t a ready splice small, on_back change b x c t a ready splice small);
        memory = memory_alike change b x c t ready splice small;
      },
    )
  where
    size_small : (change : Change) (b : List ℕ) (c : Command) (t : Table) (limit : ℕ) → Known change b c t → limit ≡ t.at → limit < 2 ^ 32
        → new_size change < 2 ^ 32
    size_small change b c t limit k is below =
        let inside = k.inside in
        let text = k.new_text in
        let far = k.limit in
        omega (arith, is, below, inside, text, far)

-- so is an answer
pub found_of : (change : Change) (b : List ℕ) (result : Result (Vec ℕ) RetoolFault) → IfOk result (λ v. IsChanged change b v.items)
    → IfOk result (λ v. IsRetooled change b v.items)
found_of change b (Ok v) h = retooled change b v.items h
found_of change b (Err fault) h = tt
