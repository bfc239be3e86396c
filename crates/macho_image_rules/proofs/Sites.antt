-- Needed words, by what they belong to.
--
-- Each slot and each pointer has its word among the needed ones; what is so of the word is so of it. And a needed word is, as a whole, that
-- of the slot or the pointer that its site names: so if it is misled, that one is.
use Rattle.std.proofs.Common.{subst, sym}
use Rattle.macho_bytes.proofs.Members.{all_contains, contains_all}
use Rattle.macho_model.specs.declared.targets.Site.{Site}
use Rattle.macho_model.specs.declared.targets.Site.TheVariants as site
use Rattle.macho_image_rules.specs.Needing.{slot_word, field_word, IsOfSite}
use Rattle.macho_image_rules.specs.Asking.{LeadsAsNeeded}
use Rattle.macho_image_rules.specs.WordLaws.{SlotLeads, IsMisledSite, NeededWordsAreAll, MisledWordsAreOfSites}

pub words_are_all : NeededWordsAreAll
words_are_all l b p needed by lead = record {
  slots = contains_all (SlotLeads l b p) p.slots (λ s one.
      all_contains (LeadsAsNeeded l b p) needed (slot_word one.0 s) lead (by.slots one.0 s (one.1, one.2)));
  pointers = λ q f pointer. all_contains (LeadsAsNeeded l b p) needed (field_word q f) lead (by.pointers q f pointer);
}

pub misled_of_site : MisledWordsAreOfSites
misled_of_site l b p word by misled = of word.site by
  where
    of : (at : Site) → IsOfSite l p word at → IsMisledSite l b p at
    of (site.Slot k) one = (one.slot, one.numbered, λ leads. misled (subst (LeadsAsNeeded l b p) (sym one.is) leads))
    of (site.Field file section relocation) one = record {
      place = one.place;
      field = one.field;
      pointer = one.pointer;
      file_is = one.file_is;
      section_is = one.section_is;
      relocation_is = one.relocation_is;
      misled = λ leads. misled (subst (LeadsAsNeeded l b p) (sym one.is) leads);
    }
    of (site.Stub k) one = absurd one
