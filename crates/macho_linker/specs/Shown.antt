-- What a linker shows of what it holds.
use Rattle.std.specs.Prelude.{◌≡◌, ℕ, ◌<◌, ◌≤◌, true, false, List, length, get_or, Option, Some, None}
use Rattle.std.specs.Borrow.{Bor}
use Rattle.macho_model.specs.Links.{Link, Input, Object, Dylib, Stub, no_input}
use Rattle.macho_linker.specs.Linkers.{bytes_of}
use Rattle.macho_linker.specs.declared.linker.InputView.{InputView}
use Rattle.macho_linker.specs.declared.linker.InputView.TheVariants as shown

-- a view shows an input: an object or a dynamic library by its bytes, a stub by its text
abbrev pub Shows : Input → InputView → Type 0
Shows (Object b) (shown.Object file) = file ≡ record { bytes = b; is_dynamic = false }
Shows (Dylib b) (shown.Dylib file) = file ≡ record { bytes = b; is_dynamic = true }
Shows (Stub text says) (shown.Stub view) = view.now ≡ text
Shows input view = ⊥

-- the view of a file, which is there exactly where a file has the number
abbrev pub ShowsInput : Link → ℕ → Option InputView → Type 0
ShowsInput l index None = length l.inputs ≤ index
ShowsInput l index (Some view) = (index < length l.inputs) × Shows (get_or l.inputs index no_input) view

-- the bytes of a file as it was taken, which are there exactly where a file has the number
abbrev pub ShowsBytes : Link → ℕ → Option (Bor (List ℕ)) → Type 0
ShowsBytes l index None = length l.inputs ≤ index
ShowsBytes l index (Some bytes) = (index < length l.inputs) × (bytes.now ≡ bytes_of (get_or l.inputs index no_input))
