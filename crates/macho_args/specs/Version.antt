-- Versions of up to three parts, packed as `mach-o/loader.h` packs them (`LC_BUILD_VERSION`).
use Rattle.std.specs.Prelude.{ℕ, ◌+◌, ◌*◌, ◌==◌, nat_lt, if◌then◌else◌, List, [], codes, length, get_or, Option, None, Some, option_and_then}
use Rattle.std.specs.List.{slice_split}
use Rattle.macho_args.specs.Numbers.{number_up_to}
use Rattle.macho_args.specs.declared.version.SemanticVersion.{SemanticVersion}

-- the packed number
abbrev pub version_number : SemanticVersion → ℕ
version_number version = version.0

-- `o >>= f` is `?` of Rust: what f makes of the value, if there is one
infixl 10 ◌>>=◌
abbrev pub ◌>>=◌ : {A B : Type 0} → Option A → (A → Option B) → Option B
o >>= f = option_and_then f o

-- three parts in one number: 16 bits of the first, 8 each of the others
abbrev pub packed : List ℕ → List ℕ → List ℕ → Option ℕ
packed major minor patch = do
  x ← number_up_to 65535 major
  y ← number_up_to 255 minor
  z ← number_up_to 255 patch
  Some (x * 65536 + y * 256 + z)

-- The version that a text writes, packed: one to three parts between dots (46), of which missing ones are 0.
unfoldable pub version_of : List ℕ → Option ℕ
version_of text =
    let parts : List (List ℕ) = slice_split (λ byte. byte == 46) text in
    if nat_lt 3 (length parts) then None else packed (get_or parts 0 []) (get_or parts 1 (codes "0")) (get_or parts 2 (codes "0"))
