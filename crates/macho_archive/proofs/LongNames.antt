-- Names that stand in the contents.
--
-- A field that begins with `#1/` doesn't begin with `/`. So such an entry has no long name of GNU, and its name is that in the contents.
use Rattle.std.proofs.Common.{◌≡◌, ℕ, true, false, List, [], ◌∷◌, ap, refl, arith, sym}
use Rattle.std.specs.Option.{unwrap_or}
use Rattle.std.proofs.lemmas.Bool.Decides.{nat_tests}
use Rattle.macho_archive.specs.Entries.{is_bsd, is_gnu, name_in, width_in}
use Rattle.macho_archive.specs.declared.names.Named.{Named}
use Rattle.macho_archive.specs.steps.Names.{IsWideName, IsNamed}

bsd_no_gnu : (stem : List ℕ) → is_bsd stem ≡ true → is_gnu stem ≡ false
unfolding is_bsd is_gnu
bsd_no_gnu [] h = cc
bsd_no_gnu (x ∷ xs) h = grind (arith, nat_tests)

-- an entry whose name stands in the contents
pub wide_named : (stem contents table : List ℕ) (n : Named) → is_bsd stem ≡ true → IsWideName stem contents n
    → IsNamed stem contents table n
unfolding name_in width_in
wide_named stem contents table n is wide =
    let no_gnu = bsd_no_gnu stem is in
    record {
      name = rw is wide.name;
      width = rw is (sym (ap (λ o. unwrap_or o 0) wide.width));
      fits = wide.fits;
      bsd = rw (is, wide.name) refl;
      gnu = rw no_gnu refl;
    }
