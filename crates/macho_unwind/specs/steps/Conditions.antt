-- What is asked of entries, entry by entry and two by two.
use Rattle.std.specs.Prelude.{◌≡◌, ◌≢◌, ℕ, ◌+◌, ◌/◌, ◌%◌, ◌^◌, ◌<◌, ◌≤◌, Option, IfSome}
use Rattle.macho_unwind_pages.specs.declared.entries.Personality.{Personality}
use Rattle.macho_unwind_pages.specs.declared.entries.ResolvedUnwindInfo.{ResolvedUnwindInfo}

-- No address is below the text's, the function ends below 2^64, and bits 28 and 29 are clear.
pub record IsFit (text : ℕ) (e : ResolvedUnwindInfo) : Type 0 where
  pub start : text ≤ e.start
  pub slot : IfSome e.personality (λ p. text ≤ p.slot)
  pub lsda : IfSome e.lsda (λ address. text ≤ address)
  pub end : e.start + e.length < 2 ^ 64
  pub clear : e.encoding / 2 ^ 28 % 4 ≡ 0

-- equal ids have equal slots
abbrev pub HaveOneSlot : Option Personality → Option Personality → Type 0
HaveOneSlot a b = IfSome a (λ p. IfSome b (λ q. p.id ≡ q.id → p.slot ≡ q.slot))

-- Two entries start at different places, and equal ids have equal slots.
pub record AreApart (e f : ResolvedUnwindInfo) : Type 0 where
  pub starts : e.start ≢ f.start
  pub slots : HaveOneSlot e.personality f.personality
