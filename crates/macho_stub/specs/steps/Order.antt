-- Parts of what breaks off a text, by name.
use Rattle.std.specs.Prelude.{◌≡◌, ◌⊎◌, ℕ, false, List, codes}
use Rattle.std.specs.Str.Lines.{lines}
use Rattle.macho_stub_lines.specs.declared.fault.StubRule.{StubRule}
use Rattle.macho_stub_lines.specs.Bytes.{indent, is_passed, head, end}
use Rattle.macho_stub.specs.Order.{MayStand, StopsAt, StopsAtEnd}

-- a line with a key that isn't read, and the first line of an item with such a key
abbrev pub unread_key : List ℕ
unread_key = codes "a: a"

abbrev pub unread_item : List ℕ
unread_item = codes "- a: a"

-- The last item lacks a key: whatever stands in a line at column 0, it may not stand behind these lines.
abbrev pub LacksInItem : List (List ℕ) → Type 0
LacksInItem first = (line : List ℕ) → is_passed line ≡ false → indent line ≡ 0 → MayStand first line → ⊥

-- The last document lacks a key: more keys may stand behind these lines, but not its end, and no other document.
abbrev pub LacksInDocument : List (List ℕ) → Type 0
LacksInDocument first = MayStand first unread_key × (MayStand first head → ⊥) × (MayStand first end → ⊥)

-- The text breaks off: at a line, or at its end.
abbrev pub BreaksOff : List ℕ → ℕ → StubRule → Type 0
BreaksOff text number rule = StopsAt (lines text) number rule ⊎ StopsAtEnd text number rule
