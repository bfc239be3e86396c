-- Names in fields of 16 bytes.
--
-- A name ends at its first NUL: the name of a name is that name, and zeros behind a name change nothing. So the name of a field is
-- the name that the field was made of.
use Rattle.std.proofs.Common.{◌≡◌, ℕ, zero, suc, ◌+◌, ◌-◌, ◌==◌, Bool, true, false, List, [], ◌∷◌, ◌++◌, length, take, refl, sym, ap, ◌∙◌, arith}
use Rattle.std.specs.Prelude.{replicate}
use Rattle.macho_bytes.specs.Texts.{name_of}
use Rattle.macho_records.specs.Segments.{name_field}
use Rattle.macho_bytes.proofs.Names.{named-cons}

-- the name of a name is that name
pub name_of-name : (bytes : List ℕ) → name_of (name_of bytes) ≡ name_of bytes
name_of-name [] = refl
name_of-name (x ∷ xs) = by (name_of-name xs) (x == 0) refl
  where
    by : name_of (name_of xs) ≡ name_of xs → (t : Bool) → (x == 0) ≡ t → name_of (name_of (x ∷ xs)) ≡ name_of (x ∷ xs)
    by rest true e = rw e refl
    by rest false e =
        ap name_of (named-cons x xs e) ∙ named-cons x (name_of xs) e ∙ ap (λ (t : List ℕ). x ∷ t) rest ∙ sym (named-cons x xs e)
