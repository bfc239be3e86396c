-- Offsets that are written one behind the other.
--
-- An offset is put behind those so far, whose bytes it leaves: a number of 4 bytes at 4 * k lies in front of one at 4 * n where k is
-- below n. And at its own place it is read back.
use Rattle.std.proofs.Common.{◌≡◌, ℕ, ◌+◌, ◌*◌, ◌^◌, ◌<◌, List, get_or, length, sym, ap, subst, ◌∙◌, arith, inl, inr, ◌⊎◌}
use Rattle.macho_bytes.specs.Numbers.{le_at, le_bytes}
use Rattle.macho_bytes.specs.Texts.{put}
use Rattle.macho_bytes.proofs.Reading.{le_at-put_other, le_at-put_same}
use Rattle.macho_model.specs.declared.targets.Target.{Target}
use Rattle.macho_model.specs.declared.targets.Target.TheVariants as target
use Rattle.macho_consumed.specs.declared.rows.Initializer.{Initializer}
use Rattle.macho_fields.specs.Looks.{Look}
use Rattle.macho_synthetic.specs.steps.Offsets.{IsOffset, target_in, OffsetsStand}
use Rattle.macho_bytes.proofs.Comparing.{below_more, read_alike}

-- one offset more
pub offsets_more : (look : Look) (rows : List Initializer) (n : ℕ) (row : Initializer) (offset : ℕ) (old new : List ℕ)
    → OffsetsStand look rows n old → n < length rows → row ≡ get_or rows n row → IsOffset look (target_in look row) offset
    → offset < 2 ^ 32 → length old ≡ 4 * length rows → length (le_bytes 4 offset) ≡ 4 → new ≡ put (4 * n) (le_bytes 4 offset) old
    → OffsetsStand look rows (n + 1) new
offsets_more look rows n row offset old new before among is told small room long put_is k d lt = elim (below_more k n lt) [
  | inl less ↦
      let kept : le_at 4 new (4 * k) ≡ le_at 4 old (4 * k) =
      ap (λ (t : List ℕ). le_at 4 t (4 * k)) put_is
      ∙ le_at-put_other 4 (4 * n) (4 * k) (le_bytes 4 offset) old (omega (arith, room, among, long)) (inl (omega (arith, less))) in
      subst (IsOffset look (target_in look (get_or rows k d))) (sym kept) (before k d less)
  | inr last ↦
      let read : le_at 4 new (4 * k) ≡ offset =
      ap (λ (t : List ℕ). le_at 4 t (4 * k)) put_is ∙ ap (λ (m : ℕ). le_at 4 (put (4 * n) (le_bytes 4 offset) old) (4 * m)) last
      ∙ le_at-put_same 4 offset (4 * n) old small (omega (arith, room, among)) in
      let same : row ≡ get_or rows k d = is ∙ read_alike rows n row d among ∙ sym (ap (λ (m : ℕ). get_or rows m d) last) in
      subst (λ (r : Initializer). IsOffset look (target_in look r) (le_at 4 new (4 * k))) same
      (subst (IsOffset look (target_in look row)) (sym read) told)
]

-- an offset has 32 bits
pub offset_small : (look : Look) (t : Target) (n : ℕ) → IsOffset look t n → n < 2 ^ 32
offset_small look (target.Section file section offset) n is = is.0
offset_small look (target.Common id) n is = absurd is
offset_small look (target.Import id) n is = absurd is
offset_small look target.Base n is = absurd is
offset_small look (target.Absolute value) n is = absurd is
offset_small look target.None n is = absurd is
