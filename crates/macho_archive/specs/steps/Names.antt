-- What is known of an entry's name when it was read.
use Rattle.std.specs.Prelude.{◌≡◌, ℕ, ◌≤◌, ◌||◌, not, true, false, List, length, Option, Some, None, is_some}
use Rattle.macho_archive.specs.Entries.{is_bsd, is_gnu, bsd_name, bsd_width, gnu_name, name_in, width_in}
use Rattle.macho_archive.specs.declared.fault.ArchiveRule.{ArchiveRule}
use Rattle.macho_archive.specs.declared.fault.ArchiveRule.TheVariants.{A5, A6}
use Rattle.macho_archive.specs.declared.names.Named.{Named}

-- A name that stands in the contents was read, and its width.
pub record IsWideName (stem contents : List ℕ) (n : Named) : Type 0 where
  pub name : bsd_name stem contents ≡ Some n.name.now
  pub width : bsd_width stem ≡ Some n.width
  pub fits : n.width ≤ length contents

-- the same, or none stands there
abbrev pub IsWide : List ℕ → List ℕ → Option Named → Type 0
IsWide stem contents None = bsd_name stem contents ≡ None
IsWide stem contents (Some n) = IsWideName stem contents n

-- A name was read.
pub record IsNamed (stem contents table : List ℕ) (n : Named) : Type 0 where
  pub name : name_in stem contents table ≡ Some n.name.now
  pub width : n.width ≡ width_in stem
  pub fits : n.width ≤ length contents
  pub bsd : (not (is_bsd stem) || is_some (bsd_name stem contents)) ≡ true
  pub gnu : (not (is_gnu stem) || is_some (gnu_name stem table)) ≡ true

-- the rule on names that is broken
abbrev pub IsUnnamed : List ℕ → List ℕ → List ℕ → ArchiveRule → Type 0
IsUnnamed stem contents table A5 = (not (is_bsd stem) || is_some (bsd_name stem contents)) ≡ false
IsUnnamed stem contents table A6 = (not (is_gnu stem) || is_some (gnu_name stem table)) ≡ false
IsUnnamed stem contents table rule = ⊥
