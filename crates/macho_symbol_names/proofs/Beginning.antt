-- An empty table knows of no event: no bucket leads anywhere, and no name is among its none.
use Rattle.std.proofs.Common.{◌≡◌, ℕ, ◌<◌, ◌≤◌, [], length, get_or, replicate, Some, refl, arith}
use Rattle.std.proofs.lemmas.List.{get_or-replicate, length-replicate}
use Rattle.std.proofs.lemmas.List.Elements.{All-nil}
use Rattle.macho_symbol_names.specs.Events.{event_at, best_of}
use Rattle.macho_symbol_names.specs.Tables.{IsEmptyTable, IsThere, IsTagged, entry_name}

pub empty_knows : (seed n : ℕ) → 1 ≤ n → IsEmptyTable (record { seed = seed; items = replicate n 0 }) []
unfolding best_of
empty_knows seed n some = record {
  knows = λ files. record {
    table = record {
      chained = record {
        some = omega (arith, some, length-replicate {A = ℕ} n 0);
        long = refl;
        newest = λ b h. omega (arith, zeros b h);
        begins = λ b m h e. absurd (omega (arith, zeros b h, e));
        reached = λ k h. absurd (omega (arith, h));
        older = λ j h. absurd (omega (arith, h));
        stays = λ j m h e. absurd (omega (arith, h));
        onward = λ j k less h same. absurd (omega (arith, h));
      };
      there = All-nil (IsThere files);
      tagged = All-nil (IsTagged seed files);
      apart = λ j k less h same. absurd (omega (arith, h));
    };
    knows = record {
      each = All-nil (λ e. best_of (entry_name files e) [] ≡ Some (event_at files e.file e.row));
      rest = λ name nowhere. refl;
      single = λ name. omega arith;
    };
  };
}
  where
    zeros : (b : ℕ) → b < length {A = ℕ} (replicate n 0) → get_or {A = ℕ} (replicate n 0) b 0 ≡ 0
    zeros b h = get_or-replicate n b 0 0 (omega (arith, h, length-replicate {A = ℕ} n 0))
