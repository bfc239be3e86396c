-- The look-up of a relocation's kind, once over all rows.
--
-- The table in code is the table of the definitions, by computing. The look-up over any table is a search for the first
-- row of the type, length and pcrel; so over this table it answers the kind, or that there is none.
use Rattle.std.proofs.Common.{◌≡◌, ℕ, Bool, map, refl, Option, Some, None}
use Rattle.std.specs.Prelude.{IfOk, OnErr}
use Rattle.std.specs.Option.{ok_or}
use Rattle.macho_wire.specs.declared.relocations.RelocationInfo.{RelocationInfo}
use Rattle.macho_arm64.specs.declared.kinds.TheConstants.{KINDS}
use Rattle.macho_arm64.specs.Kinds.{kinds, kind_among, kind_at, info_of}

pub one_table : KINDS ≡ kinds
one_table = refl

-- an Option turned into a Result: its value, or an error where there is none
pub found-ok_or : {A E : Type 0} (o : Option A) (e : E) → IfOk (ok_or o e) (λ x. o ≡ Some x)
found-ok_or (Some x) e = refl
found-ok_or None e = tt

pub none-ok_or : {A E : Type 0} (o : Option A) (e : E) → OnErr (ok_or o e) (o ≡ None)
none-ok_or (Some x) e = tt
none-ok_or None e = refl

-- a relocation of a type, length and pcrel has their kind; and each row of the table is found by them
pub kind_is : (rel : RelocationInfo) (type length : ℕ) (pcrel : Bool) → rel.r_type ≡ type → rel.r_length ≡ length → rel.r_pcrel ≡ pcrel
    → info_of rel ≡ kind_at type length pcrel
kind_is rel type length pcrel t n p = rw (t, n, p) refl
