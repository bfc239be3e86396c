-- Parts of the definitions of `Entries`, by names that proofs use.
use Rattle.std.specs.Prelude.{ℕ, ◌==◌, ◌&&◌, ◌||◌, nat_lt, Bool, Option, List}
use Rattle.std.specs.List.{cons_option, filter_map}
use Rattle.macho_unwind_pages.specs.declared.entries.UnwindInput.{UnwindInput}
use Rattle.macho_unwind_pages.specs.Entries.{times}

-- a code ranks before another if it stands more often, or as often and is the greater
abbrev pub ranks_before : List ℕ → ℕ → ℕ → Bool
ranks_before codes a b = nat_lt (times codes b) (times codes a) || (times codes a == times codes b && nat_lt b a)

-- the ids that entries name, in their order and as often as they are named
abbrev pub named_by : Option ℕ → List ℕ → List ℕ
named_by o ids = cons_option o ids

abbrev pub named_ids : List UnwindInput → List ℕ
named_ids entries = filter_map (λ e. e.personality) entries
