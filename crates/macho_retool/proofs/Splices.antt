-- The bytes that are written are those of the old image, range by range.
--
-- Three texts are put into a copy: the size of the load commands, the changed commands, the digests. They share no byte: the size stands in
-- front of the commands, these in front of the signature. Inside the changed commands stands the new command, its front and then zeros, and
-- behind it what stood behind the old one, and zeros. The digests are of bytes in front of them, so they are those of the written image.
use Rattle.std.proofs.Common.{◌≡◌, ℕ, ◌+◌, ◌*◌, ◌-◌, ◌^◌, ◌<◌, ◌≤◌, List, [], ◌∷◌, ◌++◌, length, get_or, max, replicate, slice_range, refl, sym, ap, subst, ◌∙◌, arith, inl, inr, append_assoc}
use Rattle.std.proofs.lemmas.Bool.{cases_lt}
use Rattle.std.proofs.lemmas.List.{length-append, length-replicate, get_or-replicate, get_or_append_left, get_or-append_right, ext_get_or}
use Rattle.std.proofs.lemmas.List.Edits.{get_or-between, length-between}
use Rattle.macho_bytes.specs.Numbers.{little, le_bytes, row_bytes}
use Rattle.macho_bytes.specs.Texts.{put, Stands}
use Rattle.macho_bytes.specs.Layouts.{size_of}
use Rattle.macho_bytes.proofs.Puts.{length-put, get_or-put_in, get_or-put_below, get_or-put_above, put_stands, stands_by_bytes}
use Rattle.macho_bytes.proofs.Numbers.{little_is_sound}
use Rattle.macho_bytes.proofs.Reading.{little_is_local, le_at-put_same}
use Rattle.macho_records.specs.CommandLayouts.{rpath_command}
use Rattle.macho_model.specs.Commands.{Command, commands_end}
use Rattle.macho_model.specs.Images.{Table}
use Rattle.macho_model.specs.Signature.{page_count, page_digests}
use Rattle.macho_signature.proofs.Pages.{length-page_digests}
use Rattle.macho_retool.specs.declared.change.Change.{Change}
use Rattle.macho_retool.specs.declared.form.Form.{Form}
use Rattle.macho_retool.specs.Changes.{command_number, record_size, path_for, new_size, new_text, new_end}
use Rattle.macho_retool.specs.Forms.{digests_place}
use Rattle.macho_retool.specs.Retooled.{both_end}
use Rattle.macho_retool.specs.steps.Formed.{SaysForm}
use Rattle.macho_retool.specs.steps.Rewritten.{PlaceFits, place_in, front, changed_commands, unsigned, signed_at}
use Rattle.macho_retool.specs.steps.Spliced.{IsReady, IsSpliced}
use Rattle.macho_retool.proofs.Known.{Known, known}
use Rattle.macho_retool.proofs.Places.{place_fits, digests_inside}
use Rattle.macho_retool.proofs.Writes.{length-front, length-changed, digests-alike}

-- a part of what stands from a place on
part_of_rest : (b : List ℕ) (at from to : ℕ) → at + to ≤ length b → slice_range (slice_range b at (length b)) from to
    ≡ slice_range b (at + from) (at + to)
part_of_rest b at from to fits =
    let rest = slice_range b at (length b) in
    let whole : length rest ≡ length b - at = length-between b at (length b) (omega arith) in
    let l1 : length (slice_range rest from to) ≡ to - from = length-between rest from to (omega (arith, whole, fits)) in
    let l2 : length (slice_range b (at + from) (at + to)) ≡ at + to - (at + from) = length-between b (at + from) (at + to) fits in
    ext_get_or 0 (slice_range rest from to) (slice_range b (at + from) (at + to)) (omega (arith, l1, l2))
    (λ i lt. get_or-between rest from to i 0 (omega (arith, lt, l1))
    ∙ get_or-between b at (length b) (from + i) 0 (omega (arith, lt, l1, fits))
    ∙ ap (λ (k : ℕ). get_or b k 0) (omega arith) ∙ sym (get_or-between b (at + from) (at + to) i 0 (omega (arith, lt, l1))))

-- the new text is its front and zeros
new_text_is : (change : Change) (b : List ℕ) (c : Command) → c.at + record_size change ≤ length b
    → new_text change b c ≡ front change (new_size change) (slice_range b c.at (length b))
    ++ replicate (new_size change - (record_size change + length (path_for change))) 0
unfolding new_text
new_text_is change b c fits =
    let numbers = row_bytes little 4 (command_number change ∷ new_size change ∷ record_size change ∷ []) in
    let zeros = replicate (new_size change - (record_size change + length (path_for change))) 0 in
    let kept = slice_range b (c.at + size_of rpath_command) (c.at + record_size change) in
    ap (λ t. t ++ zeros) (append_assoc numbers kept (path_for change))
    ∙ ap (λ t. (numbers ++ (t ++ path_for change)) ++ zeros) (sym (part_of_rest b c.at 12 (record_size change) fits))

-- a byte of the changed commands: of the new command, of what has moved, or freed
in_command : (change : Change) (b : List ℕ) (c : Command) (t : Table) (form : Form) (i : ℕ) → Known change b c t
    → PlaceFits change b (place_in change b c) form → commands_end b ≤ length b → i < new_size change
    → get_or (changed_commands change b (place_in change b c)) i 0 ≡ get_or (new_text change b c) i 0
unfolding changed_commands
in_command change b c t form i k fits end lt =
    let n = max (commands_end b) (new_end change b c) - c.at in
    let old = slice_range b c.at (length b) in
    let f = front change (new_size change) old in
    let zeros = replicate n 0 in
    let moved = slice_range b (c.at + c.size) (commands_end b) in
    let h1 = k.holds in
    let h2 = k.inside in
    let h3 = k.sized in
    let long : length f ≡ record_size change + length (path_for change) =
    length-front change (new_size change) old (omega (arith, h1, h2, end, length-between b c.at (length b) (omega arith))) in
    let sized : length zeros ≡ n = length-replicate {A = ℕ} n 0 in
    let tail : length moved ≡ commands_end b - (c.at + c.size) = length-between b (c.at + c.size) (commands_end b) end in
    let one = length-put 0 f zeros (omega (arith, long, sized, h2, h3)) in
    let below = get_or-put_below (new_size change) moved (put 0 f zeros) i (omega (arith, one, sized, tail, h2)) lt in
    let room : record_size change + length (path_for change) ≤ new_size change = omega (arith, h3) in
    let is = ap (λ (ts : List ℕ). get_or ts i 0) (new_text_is change b c (omega (arith, h1, h2, end))) in
    below ∙ elim (cases_lt i (length f)) [
      | inl inside ↦
          get_or-put_in 0 f zeros i (omega (arith, long, sized, h2, h3)) (omega arith) (omega (arith, inside))
          ∙ ap (λ (m : ℕ). get_or f m 0) (omega arith)
          ∙ sym (is ∙ get_or_append_left f (replicate (new_size change - (record_size change + length (path_for change))) 0) 0 i inside)
      | inr past ↦
          get_or-put_above 0 f zeros i (omega (arith, long, sized, h2, h3)) (omega (arith, past))
          ∙ get_or-replicate {A = ℕ} n i 0 0 (omega (arith, lt, h2))
          ∙ sym (is
          ∙ get_or-append_right f (replicate (new_size change - (record_size change + length (path_for change))) 0) (length f) i 0 refl past
          ∙ get_or-replicate {A = ℕ} (new_size change - (record_size change + length (path_for change))) (i - length f) 0 0
          (omega (arith, lt, long, past, room)))
    ]

in_moved : (change : Change) (b : List ℕ) (c : Command) (t : Table) (i : ℕ) → Known change b c t → commands_end b ≤ length b
    → c.at + c.size ≤ i → i < commands_end b
    → get_or (changed_commands change b (place_in change b c)) (i + new_size change - c.size - c.at) 0 ≡ get_or b i 0
unfolding changed_commands
in_moved change b c t i k end from to =
    let n = max (commands_end b) (new_end change b c) - c.at in
    let old = slice_range b c.at (length b) in
    let f = front change (new_size change) old in
    let zeros = replicate n 0 in
    let moved = slice_range b (c.at + c.size) (commands_end b) in
    let h1 = k.holds in
    let h2 = k.inside in
    let h3 = k.sized in
    let long : length f ≡ record_size change + length (path_for change) =
    length-front change (new_size change) old (omega (arith, h1, h2, end, length-between b c.at (length b) (omega arith))) in
    let sized : length zeros ≡ n = length-replicate {A = ℕ} n 0 in
    let tail : length moved ≡ commands_end b - (c.at + c.size) = length-between b (c.at + c.size) (commands_end b) end in
    let one = length-put 0 f zeros (omega (arith, long, sized, h2, h3)) in
    get_or-put_in (new_size change) moved (put 0 f zeros) (i + new_size change - c.size - c.at) (omega (arith, one, sized, tail, h2))
    (omega (arith, from)) (omega (arith, from, to, tail))
    ∙ get_or-between b (c.at + c.size) (commands_end b) (i + new_size change - c.size - c.at - new_size change) 0 (omega (arith, from, to))
    ∙ ap (λ (m : ℕ). get_or b m 0) (omega (arith, from))

in_freed : (change : Change) (b : List ℕ) (c : Command) (t : Table) (i : ℕ) → Known change b c t → commands_end b ≤ length b
    → new_end change b c ≤ i → i < commands_end b
    → get_or (changed_commands change b (place_in change b c)) (i - c.at) 0 ≡ 0
unfolding changed_commands
in_freed change b c t i k end from to =
    let n = max (commands_end b) (new_end change b c) - c.at in
    let old = slice_range b c.at (length b) in
    let f = front change (new_size change) old in
    let zeros = replicate n 0 in
    let moved = slice_range b (c.at + c.size) (commands_end b) in
    let h1 = k.holds in
    let h2 = k.inside in
    let h3 = k.sized in
    let long : length f ≡ record_size change + length (path_for change) =
    length-front change (new_size change) old (omega (arith, h1, h2, end, length-between b c.at (length b) (omega arith))) in
    let sized : length zeros ≡ n = length-replicate {A = ℕ} n 0 in
    let tail : length moved ≡ commands_end b - (c.at + c.size) = length-between b (c.at + c.size) (commands_end b) end in
    let one = length-put 0 f zeros (omega (arith, long, sized, h2, h3)) in
    get_or-put_above (new_size change) moved (put 0 f zeros) (i - c.at) (omega (arith, one, sized, tail, h2))
    (omega (arith, from, tail, h2))
    ∙ get_or-put_above 0 f zeros (i - c.at) (omega (arith, long, sized, h2, h3)) (omega (arith, long, from, h2, h3))
    ∙ get_or-replicate {A = ℕ} n (i - c.at) 0 0 (omega (arith, to, from, h2))

-- THE bytes
pub spliced : (change : Change) (b x : List ℕ) (c : Command) (t : Table) (form : Form) → IsReady change b c t → SaysForm b t form
    → form.limit < 2 ^ 32 → commands_end b ≤ length b → x ≡ signed_at form (unsigned change b (place_in change b c))
    → IsSpliced change b x c t
unfolding unsigned signed_at
spliced change b x c t form ready says small end is =
    record {
      long = long_x;
      low = λ i lt. below i (omega (arith, lt, k.from, k.inside, k.old_text, k.limit)) ∙ front_of i (omega (arith, lt, k.from))
          ∙ get_or-put_below 20 size b i size_fits lt;
      size = little_is_local.alike 4 x (put 20 size b) 20 20
          (λ j lt. below (20 + j) (omega (arith, lt, k.from, k.inside, k.old_text, k.limit))
          ∙ front_of (20 + j) (omega (arith, lt, k.from)))
          ∙ le_at-put_same 4 (new_end change b c - 32) 20 b (omega (arith, small, says.0, k.limit, k.new_text)) (omega
          (arith, size_fits, size_long));
      head = λ i from lt. below i (omega (arith, lt, k.inside, k.old_text, k.limit)) ∙ front_of i lt
          ∙ get_or-put_above 20 size b i size_fits (omega (arith, from, size_long));
      text = stands_by_bytes x (record { at = c.at; text = new_text change b c })
          (omega (arith, text_long, long_x, k.inside, k.new_text, k.limit, k.file))
          (λ i lt. below (c.at + i) (omega (arith, lt, text_long, k.inside, k.new_text, k.limit))
          ∙ commands_of_x (c.at + i) (omega arith) (omega (arith, lt, text_long, k.inside))
          ∙ ap (λ (m : ℕ). get_or r m 0) (omega arith) ∙ in_command change b c t form i k fits end (omega (arith, lt, text_long)));
      tail = λ i from to. below (i + new_size change - c.size) (omega (arith, from, to, k.new_text, k.limit))
          ∙ commands_of_x (i + new_size change - c.size) (omega (arith, from)) (omega (arith, from, to))
          ∙ in_moved change b c t i k end from to;
      freed = λ i from to. below i (omega (arith, to, k.old_text, k.limit))
          ∙ commands_of_x i (omega (arith, from, k.inside)) (omega (arith, to)) ∙ in_freed change b c t i k end from to;
      kept = λ i from outside. elim outside [
        | inl before ↦ get_x_below i (omega (arith, before)) ∙ behind_of i from
        | inr past ↦ get_x_above i (omega (arith, past, digests_long, signed_same)) ∙ behind_of i from
      ];
      signed = subst (λ ds. Stands x (record { at = digests_place b t; text = ds })) signed_is
          (subst (λ y. Stands y (record { at = digests_place b t; text = digests })) (sym is_x)
          (put_stands (digests_place b t) digests u digests_fit));
    }
  where
    k : Known change b c t
    k = known change b c t ready

    fits : PlaceFits change b (place_in change b c) form
    fits = place_fits change b c t (place_in change b c) form ready says small refl

    size : List ℕ
    size = le_bytes 4 (new_end change b c - 32)

    size_long : length size ≡ 4
    size_long = little_is_sound.long 4 (new_end change b c - 32)

    size_fits : 20 + length size ≤ length b
    size_fits = omega (arith, size_long, k.from, k.inside, end)

    r : List ℕ
    r = changed_commands change b (place_in change b c)

    r_long : length r ≡ max (commands_end b) (new_end change b c) - c.at
    r_long = length-changed change b (place_in change b c) form fits

    base : List ℕ
    base = put 20 size b

    base_long : length base ≡ length b
    base_long = length-put 20 size b size_fits

    r_fits : c.at + length r ≤ length base
    r_fits = omega (arith, r_long, base_long, k.inside, k.old_text, k.new_text, k.limit, k.file)

    u : List ℕ
    u = put c.at r base

    u_long : length u ≡ length b
    u_long = length-put c.at r base r_fits ∙ base_long

    digests : List ℕ
    digests = page_digests u t.at

    digests_long : length digests ≡ 32 * page_count t.at
    digests_long = length-page_digests u t.at

    digests_fit : digests_place b t + length digests ≤ length u
    digests_fit = omega (arith, digests_long, u_long, digests_inside b t ready.formed)

    place : form.limit + form.hashes_offset ≡ digests_place b t
    place = omega (arith, says.0, says.1)

    is_x : x ≡ put (digests_place b t) digests u
    is_x = is ∙ ap (λ n. put n (page_digests u form.limit) u) place ∙ ap (λ n. put (digests_place b t) (page_digests u n) u) says.0

    long_x : length x ≡ length b
    long_x = ap length is_x ∙ length-put (digests_place b t) digests u digests_fit ∙ u_long

    get_x_below : (i : ℕ) → i < digests_place b t → get_or x i 0 ≡ get_or u i 0
    get_x_below i lt = ap (λ (y : List ℕ). get_or y i 0) is_x ∙ get_or-put_below (digests_place b t) digests u i digests_fit lt

    get_x_above : (i : ℕ) → digests_place b t + length digests ≤ i → get_or x i 0 ≡ get_or u i 0
    get_x_above i past = ap (λ (y : List ℕ). get_or y i 0) is_x ∙ get_or-put_above (digests_place b t) digests u i digests_fit past

    below : (i : ℕ) → i < t.at → get_or x i 0 ≡ get_or u i 0
    below i lt = get_x_below i (omega (arith, lt))

    signed_is : digests ≡ page_digests x t.at
    signed_is = digests-alike t.at u x (omega (arith, u_long, k.file)) (omega (arith, long_x, k.file)) (λ i lt. sym (below i lt))

    signed_same : length (page_digests x t.at) ≡ 32 * page_count t.at
    signed_same = length-page_digests x t.at

    front_of : (i : ℕ) → i < c.at → get_or u i 0 ≡ get_or base i 0
    front_of i lt = get_or-put_below c.at r base i r_fits lt

    commands_of_x : (i : ℕ) → c.at ≤ i → i < max (commands_end b) (new_end change b c) → get_or u i 0 ≡ get_or r (i - c.at) 0
    commands_of_x i from to = get_or-put_in c.at r base i r_fits from (omega (arith, r_long, from, to))

    behind_of : (i : ℕ) → both_end change b c ≤ i → get_or u i 0 ≡ get_or b i 0
    behind_of i from =
        get_or-put_above c.at r base i r_fits (omega (arith, r_long, from, k.inside))
        ∙ get_or-put_above 20 size b i size_fits (omega (arith, size_long, from, k.from, k.inside))

    text_long : length (new_text change b c) ≡ new_size change
    text_long =
        let old = slice_range b c.at (length b) in
        let zeros = replicate (new_size change - (record_size change + length (path_for change))) 0 in
        let f = front change (new_size change) old in
        let long : length f ≡ record_size change + length (path_for change) =
        length-front change (new_size change) old (omega (arith, k.holds, k.inside, end, length-between b c.at (length b) (omega arith))) in
        ap length (new_text_is change b c (omega (arith, k.holds, k.inside, end))) ∙ length-append f zeros
        ∙ omega
        (arith, long, length-replicate {A = ℕ} (new_size change - (record_size change + length (path_for change))) 0, k.sized)
