-- That a text says one thing in one way: two readings of which each is the only one are the same, since readings can be told apart.
use Rattle.std.specs.Prelude.{◌≡◌, ℕ, List}
use Rattle.std.specs.Coded.{Coded, Coded-set, coded_ℕ, coded_list, coded×, code_by, ×_prop, Π_prop}
use mathlib.Core.Path.{refl}
use mathlib.Core.Logic.{∥∥₁_elim, ∥∥₁_prop}
use mathlib.Core.HLevel.{Σ_prop_path}
use Rattle.macho_model.specs.Links.{StubReading}
use Rattle.macho_linker.specs.Readings.{SaysOneThing}

-- a reading as lists of numbers
abbrev coded_reading : Coded StubReading
coded_reading =
    code_by (List ℕ × (List (List ℕ) × List (List ℕ)))
    (coded× (coded_list coded_ℕ) (coded× (coded_list (coded_list coded_ℕ)) (coded_list (coded_list coded_ℕ))))
    (λ s. (s.install_name, (s.names, s.weak_names)))
    (λ p. record { install_name = p.0; names = p.1.0; weak_names = p.1.1 })
    (λ _. refl)

pub same_readings : (x y : StubReading) → IsProp (x ≡ y)
same_readings x y = Coded-set coded_reading x y

pub one_thing : (text : List ℕ) → IsProp (SaysOneThing text)
one_thing text x y =
    Σ_prop_path
    (λ (says : StubReading). ×_prop ∥∥₁_prop (Π_prop λ other. Π_prop λ _. same_readings says other))
    (∥∥₁_elim y.1.0 (same_readings x.0 y.0) (λ is. x.1.1 y.0 is))
