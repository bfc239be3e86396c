-- What is printed of names.
use Rattle.std.specs.Prelude.{ℕ, List, nat_lt, if◌then◌else◌, Option, Some, None}
use Rattle.std.specs.List.{list_all}

-- what is printed of a text: its bytes where they are ASCII; of other bytes nothing is said
abbrev pub ascii_output : List ℕ → Option (List ℕ)
ascii_output bytes = if list_all (λ b. nat_lt b 128) bytes then Some bytes else None
