-- What differs between the chains and the needed words differs between the chains and the link.
--
-- The needed words stand at the places that need a fixup, and at no other. So 'needed' may be read as 'a place that needs a fixup' on both
-- sides of each statement.
use Rattle.std.proofs.Common.{Some, None, inl, inr}
use Rattle.macho_image_rules.specs.WordLaws.{DifferencesAreOfTheLink}

pub of_the_link : DifferencesAreOfTheLink
of_the_link l b p needed None by first =
    λ a. (λ on. (by.places a).0 ((first a).0 on), λ place. (first a).1 ((by.places a).1 place))
of_the_link l b p needed (Some a) by first = elim first.one [
  | inl chained ↦ inl (chained.0, λ place. chained.1 ((by.places a).1 place))
  | inr asked ↦ inr ((by.places a).0 asked.0, asked.1)
]
