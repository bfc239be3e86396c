-- The tests of targets and of entries decide whether they are equal: each compares all fields of one constructor.
use Rattle.std.proofs.Common.{◌≡◌, Bool, true, false, ◌&&◌, ◌==◌, Decides, refl, ap}
use Rattle.std.proofs.lemmas.Bool.Decides.{Decides-eqb}
use Rattle.macho_model.specs.declared.targets.Target.{Target}
use Rattle.macho_model.specs.declared.targets.Target.TheVariants as target
use Rattle.macho_model.specs.Targets.{same_target}
use Rattle.macho_model.specs.Fixups.{EntryOfImport, same_entry}
use Rattle.macho_bytes.proofs.Bools.{and_left, and_right, and_both as both}

pub targets_decide : (a b : Target) → Decides (same_target a b) (a ≡ b)
targets_decide (target.Section f s o) (target.Section g t p) = (
  λ e. let x : f ≡ g = (Decides-eqb f g).0 (and_left (f == g) (s == t) (and_left ((f == g) && (s == t)) (o == p) e)) in
      let y : s ≡ t = (Decides-eqb s t).0 (and_right (f == g) (s == t) (and_left ((f == g) && (s == t)) (o == p) e)) in
      let z : o ≡ p = (Decides-eqb o p).0 (and_right ((f == g) && (s == t)) (o == p) e) in cc,
  λ e. let x : f ≡ g = cc in let y : s ≡ t = cc in let z : o ≡ p = cc in
      both ((f == g) && (s == t)) (o == p) (both (f == g) (s == t) ((Decides-eqb f g).1 x) ((Decides-eqb s t).1 y)) ((Decides-eqb o p).1 z),
)
targets_decide (target.Common i) (target.Common j) = (λ e. ap target.Common ((Decides-eqb i j).0 e), λ e. (Decides-eqb i j).1 cc)
targets_decide (target.Import i) (target.Import j) = (λ e. ap target.Import ((Decides-eqb i j).0 e), λ e. (Decides-eqb i j).1 cc)
targets_decide target.Base target.Base = (λ e. refl, λ e. refl)
targets_decide (target.Absolute v) (target.Absolute w) = (λ e. ap target.Absolute ((Decides-eqb v w).0 e), λ e. (Decides-eqb v w).1 cc)
targets_decide target.None target.None = (λ e. refl, λ e. refl)
targets_decide a b = (λ e. cc, λ e. cc)
