-- One section more: two relocations that overlap in it are found, or all are apart.
use Rattle.std.proofs.Common.{◌≡◌, ℕ, ◌<◌, true, List, [], ◌∷◌, ◌++◌, Option, Some, None, IfSome, Contains, sym, subst}
use Rattle.std.proofs.lemmas.List.Elements.{All-push}
use Rattle.macho_model.specs.Objects.{num_sections, section_at}
use Rattle.macho_model.specs.Links.{Link, SectionId, object_of, is_carried, carried_of}
use Rattle.macho_model.specs.Uses.{Use}
use Rattle.macho_needs.specs.declared.needs.Needs.{Needs}
use Rattle.macho_relocation_scan.specs.declared.findings.Findings.{Findings}
use Rattle.macho_relocation_scan.specs.declared.section.Section.{Section}
use Rattle.macho_relocation_scan.specs.Surveys.{IsApart}
use Rattle.macho_relocation_scan.specs.steps.Found.{first_of, IsOverlap, IsClean, IsSurveyed}
use Rattle.macho_relocation_scan.specs.steps.Overlaps.{IsFoundIn}
use Rattle.macho_relocation_scan.specs.steps.Sections.{id_of, pair_of, HasObject}
use Rattle.macho_relocation_scan.proofs.Judging.{if_first_of, none_first_of}
use Rattle.macho_relocation_scan.proofs.Walking.{carried_there, same_object}

-- by the bytes of the link's object
told_stands : (l : Link) (at : Section) (told : Option (ℕ × ℕ)) → Contains (carried_of l) (id_of at)
    → IsFoundIn (object_of l at.file) at.section told → IfSome (pair_of at told) (IsOverlap l)
told_stands l at None carried found = tt
told_stands l at (Some p) carried found = (carried, found.order, found.there, found.share, found.apart)

none_apart : (l : Link) (at : Section) (told : Option (ℕ × ℕ)) → IsFoundIn (object_of l at.file) at.section told → pair_of at told ≡ None
    → IsApart l (id_of at)
none_apart l at None found e = record { each = found.each }
none_apart l at (Some p) found e = cc

pub overlap_more : (l : Link) (ss : List SectionId) (us : List Use) (n : Needs) (f : Findings) (at : Section) (told : Option (ℕ × ℕ))
    (b : List ℕ) → HasObject l at.file b
    → at.section < num_sections b → is_carried (section_at b at.section) ≡ true → IsFoundIn b at.section told → IsSurveyed l ss us n f
    → IsSurveyed l (ss ++ id_of at ∷ []) us n (record f { overlap = first_of f.overlap (pair_of at told) })
overlap_more l ss us n f at told b has among carried found before = record {
  noted = before.noted;
  standing = record {
    unsupported = before.standing.unsupported;
    overlap = if_first_of (IsOverlap l) f.overlap (pair_of at told) before.standing.overlap (told_stands l at told there found_here);
    addend = before.standing.addend;
    place = before.standing.place;
  };
  fine = λ c. before.fine (clean c);
  apart = λ c. All-push (IsApart l) ss (id_of at) (before.apart (clean c))
      (none_apart l at told found_here (none_first_of f.overlap (pair_of at told) c.overlap).1);
}
  where
    there : Contains (carried_of l) (id_of at)
    there = carried_there l at.file at.section b has among carried

    found_here : IsFoundIn (object_of l at.file) at.section told
    found_here = subst (λ bytes. IsFoundIn bytes at.section told) (sym (same_object l at.file b has)) found

    clean : IsClean (record f { overlap = first_of f.overlap (pair_of at told) }) → IsClean f
    clean c = record {
      unsupported = c.unsupported;
      overlap = (none_first_of f.overlap (pair_of at told)
          c.overlap).0;
      addend = c.addend;
      place = c.place;
    }
