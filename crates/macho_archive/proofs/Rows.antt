-- Small archives, written out by hand from `ar(5)` and the names of GNU's `ar`, and what is said of them, by computing: which entries they
-- have, and which members with which bytes. The places were added up by hand, too.
use Rattle.std.proofs.Common.{◌≡◌, ℕ, zero, suc, ◌-◌, ◌<◌, true, false, List, [], ◌∷◌, ◌++◌, length, replicate, nat_eq, refl, arith, lit<, lit≤}
use Rattle.std.specs.Prelude.{codes}
use Rattle.std.specs.List.{starts_with}
use Rattle.macho_archive.specs.Fields.{trimmed, decimal_of}
use Rattle.macho_archive.specs.Entries.{MAGIC, stem_at, stated_size, contents_at, next_of, is_special, is_symbol_table, is_bsd, bsd_width, bsd_name, without_slash, first_line, is_gnu, gnu_name, name_in, width_in, member_at, is_passed, keeps}
use Rattle.macho_archive.specs.Archives.{IsEntry, HasMembers, place_of, names_before, member_numbers, members_of}
use Rattle.macho_archive.specs.declared.fault.ArchiveRule.{ArchiveRule}
use Rattle.macho_archive.specs.declared.fault.ArchiveRule.TheVariants.{A1, A2, A3, A4, A5, A6}

-- A header of 60 bytes: name and size, and a date, an owner, a group and a mode that say nothing.
abbrev pub header : List ℕ → List ℕ → List ℕ
header name size =
    name ++ replicate (16 - length name) 32 ++ codes "0           0     0     100644  " ++ size ++ replicate (10 - length size) 32
    ++ codes "`\n"

-- an entry that keeps each rule
entry_is : (b : List ℕ) (k : ℕ) → place_of b k < length b → keeps b (names_before b k) (place_of b k) A1 ≡ true
    → keeps b (names_before b k) (place_of b k) A2 ≡ true → keeps b (names_before b k) (place_of b k) A3 ≡ true
    → keeps b (names_before b k) (place_of b k) A4 ≡ true → keeps b (names_before b k) (place_of b k) A5 ≡ true
    → keeps b (names_before b k) (place_of b k) A6 ≡ true → IsEntry b k
entry_is b k within r1 r2 r3 r4 r5 r6 = record { within = within; kept = kept }
  where
    kept : (rule : ArchiveRule) → keeps b (names_before b k) (place_of b k) rule ≡ true
    kept A1 = r1
    kept A2 = r2
    kept A3 = r3
    kept A4 = r4
    kept A5 = r5
    kept A6 = r6

-- ---- BSD's: at 8 a table of symbols, at 96 a long name that is filled with NULs, and a byte that fills up, at 172 a short name

unfoldable pub bsd : List ℕ
bsd =
    codes "!<arch>\n" ++ header (codes "#1/20") (codes "28") ++ codes "__.SYMDEF SORTED" ++ replicate 12 0
    ++ header (codes "#1/12") (codes "15") ++ codes "one.o" ++ replicate 7 0 ++ codes "abc\n"
    ++ header (codes "two.o") (codes "4") ++ codes "defg"

bsd_each : (k : ℕ) → k < 3 → IsEntry bsd k
unfolding bsd place_of names_before trimmed decimal_of stem_at stated_size contents_at next_of is_special is_bsd bsd_width bsd_name is_gnu
bsd_each zero h = entry_is bsd 0 (lit< tt) refl refl refl refl refl refl
bsd_each (suc zero) h = entry_is bsd 1 (lit< tt) refl refl refl refl refl refl
bsd_each (suc (suc zero)) h = entry_is bsd 2 (lit< tt) refl refl refl refl refl refl
bsd_each (suc (suc (suc k))) h = absurd (omega arith)

pub bsd_members : HasMembers bsd (
    record { name = codes "one.o"; place = 168; bytes = codes "abc" }
    ∷ record { name = codes "two.o"; place = 232; bytes = codes "defg" } ∷ [])
unfolding bsd place_of names_before trimmed decimal_of stem_at stated_size contents_at next_of is_special is_symbol_table is_bsd bsd_width
    bsd_name without_slash is_gnu name_in width_in member_at is_passed member_numbers members_of
bsd_members = record { count = 3; whole = record { magic = refl; each = bsd_each; ends = lit≤ tt }; all = refl }

-- ---- GNU's: at 8 the table of symbols, at 72 the table of names, at 156 a name in it, at 220 a short name

unfoldable pub gnu : List ℕ
gnu =
    codes "!<arch>\n" ++ header (codes "/") (codes "4") ++ replicate 4 0 ++ header (codes "//") (codes "23")
    ++ codes "x/\na_very_long_name.o/\n\n" ++ header (codes "/3") (codes "3") ++ codes "abc\n" ++ header (codes "b.o/") (codes "2")
    ++ codes "de"

gnu_each : (k : ℕ) → k < 4 → IsEntry gnu k
unfolding gnu place_of names_before trimmed decimal_of stem_at stated_size contents_at next_of is_special is_bsd bsd_width bsd_name is_gnu
    gnu_name first_line without_slash
gnu_each zero h = entry_is gnu 0 (lit< tt) refl refl refl refl refl refl
gnu_each (suc zero) h = entry_is gnu 1 (lit< tt) refl refl refl refl refl refl
gnu_each (suc (suc zero)) h = entry_is gnu 2 (lit< tt) refl refl refl refl refl refl
gnu_each (suc (suc (suc zero))) h = entry_is gnu 3 (lit< tt) refl refl refl refl refl refl
gnu_each (suc (suc (suc (suc k)))) h = absurd (omega arith)

pub gnu_members : HasMembers gnu (
    record { name = codes "a_very_long_name.o"; place = 216; bytes = codes "abc" }
    ∷ record { name = codes "b.o"; place = 280; bytes = codes "de" } ∷ [])
unfolding gnu place_of names_before trimmed decimal_of stem_at stated_size contents_at next_of is_special is_symbol_table is_bsd bsd_width
    bsd_name is_gnu gnu_name first_line without_slash name_in width_in member_at is_passed member_numbers members_of
gnu_members = record { count = 4; whole = record { magic = refl; each = gnu_each; ends = lit≤ tt }; all = refl }

-- ---- an archive without entries; a thin one; a size that isn't decimal; a name in a table that isn't there; a name longer than its entry

pub empty_members : HasMembers (codes "!<arch>\n") []
unfolding place_of members_of member_numbers
empty_members = record { count = 0; whole = record { magic = refl; each = λ k h. absurd (omega arith); ends = lit≤ tt }; all = refl }

pub thin_is_none : starts_with nat_eq (codes "!<thin>\n") MAGIC ≡ false
thin_is_none = refl

pub no_size : keeps (codes "!<arch>\n" ++ header (codes "a") (codes "1x") ++ codes "b") [] 8 A4 ≡ false
unfolding trimmed decimal_of stated_size
no_size = refl

pub no_table : keeps (codes "!<arch>\n" ++ header (codes "/0") (codes "1") ++ codes "b") [] 8 A6 ≡ false
unfolding trimmed decimal_of stem_at is_special is_gnu gnu_name first_line
no_table = refl

pub long_name : keeps (codes "!<arch>\n" ++ header (codes "#1/2") (codes "1") ++ codes "b") [] 8 A5 ≡ false
unfolding trimmed decimal_of stem_at stated_size contents_at is_bsd bsd_width bsd_name
long_name = refl
