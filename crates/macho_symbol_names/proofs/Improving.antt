-- A better row in an entry. The name stays, and so the chains do; the entry leads to the better of both rows.
use Rattle.std.proofs.Common.{◌≡◌, ℕ, true, false, ◌<◌, ◌/◌, ◌^◌, List, length, get_or, set, refl, ap, sym, ◌∙◌, arith, length-set}
use Rattle.std.proofs.lemmas.Bool.{false≢true}
use Rattle.std.proofs.lemmas.List.Elements.{All-set}
use Rattle.macho_symbol_names.specs.declared.table.Entry.{Entry}
use Rattle.macho_symbol_names.specs.Kept.{FileRows}
use Rattle.macho_symbol_names.specs.Events.{row_at, beats}
use Rattle.macho_symbol_names.specs.Hashing.{hash_of}
use Rattle.macho_symbol_names.specs.Tables.{Heads, IsTable, IsThere, IsTagged, no_entry, entry_name, names_of}
use Rattle.macho_symbol_names.specs.steps.Tables.{IsImproved, row_of_entry, both_strong}
use Rattle.macho_symbol_names.proofs.Lists.{map_set_same}

-- names and nexts stay where an entry leads to another row of its name
pub names_stay : (files : List FileRows) (entries : List Entry) (number : ℕ) (e : Entry)
    → entry_name files e ≡ entry_name files (get_or entries number no_entry)
    → names_of files (set entries number e) ≡ names_of files entries
names_stay files entries number e same = map_set_same (entry_name files) entries number e no_entry same

-- the table stays one
pub table_stays : (files : List FileRows) (heads : Heads) (entries : List Entry) (number : ℕ) (e : Entry) → IsTable files heads entries
    → e.next ≡ (get_or entries number no_entry).next → entry_name files e ≡ entry_name files (get_or entries number no_entry)
    → IsThere files e → number < length entries → e.tag ≡ (get_or entries number no_entry).tag
    → IsTable files heads (set entries number e)
table_stays files heads entries number e table next same there within tag = record {
  chained = rw (map_set_same (λ x. x.next) entries number e no_entry next, names_stay files entries number e same) table.chained;
  there = All-set (IsThere files) entries number e there table.there;
  tagged = All-set (IsTagged heads.seed files) entries number e
      (tag ∙ table.tagged number no_entry within ∙ ap (λ n. hash_of heads.seed n / 2 ^ 32) (sym same)) table.tagged;
  apart = λ j k less h. rw (names_stay files entries number e same) (table.apart j k less (omega (arith, h, length-set entries number e)));
}

-- the two ways
pub stays_best : (files : List FileRows) (entries : List Entry) (number file row : ℕ)
    → beats (row_at files file row) (row_of_entry files entries number) ≡ false
    → both_strong (row_of_entry files entries number) (row_at files file row) ≡ false → IsImproved files entries entries number file row
stays_best files entries number file row fails single = record {
  kept = λ _. refl;
  better = λ passes. absurd
      (false≢true (sym fails ∙ passes));
  single = single;
}

pub is_better : (files : List FileRows) (entries new : List Entry) (number file row : ℕ)
    → beats (row_at files file row) (row_of_entry files entries number) ≡ true
    → both_strong (row_of_entry files entries number) (row_at files file row) ≡ false
    → new ≡ set entries number (record (get_or entries number no_entry) { file = file; row = row })
    → IsImproved files entries new number file row
is_better files entries new number file row passes single is = record {
  kept = λ fails. absurd
      (false≢true (sym fails ∙ passes));
  better = λ _. is;
  single = single;
}
