-- Words while they are gathered.
use Rattle.std.specs.Prelude.{ℕ, List, map, get_or}
use Rattle.std.specs.List.{range_with_len}
use Rattle.macho_model.specs.declared.placed.Slot.{Slot}
use Rattle.macho_model.specs.declared.targets.Site.TheVariants as site
use Rattle.macho_model.specs.declared.targets.Target.TheVariants as target
use Rattle.macho_fields.specs.declared.pointers.Pointer.{Pointer}
use Rattle.macho_image_rules.specs.declared.chain.Needed.{Needed}
use Rattle.macho_image_rules.specs.Needing.{slot_word}

-- the word of a pointer that was told
abbrev pub word_of : Pointer → Needed
word_of t =
    record {
      address = t.address;
      site = site.Field t.file t.section t.relocation;
      target = t.target;
      addend = t.addend;
    }

-- stands for a slot outside of a list
abbrev pub no_slot : Slot
no_slot = record { target = target.None; address = 0 }

-- the word of the slot of a number
abbrev pub word_at : List Slot → ℕ → Needed
word_at slots k = slot_word k (get_or slots k no_slot)

-- the words of the first slots
unfoldable pub slot_words : List Slot → ℕ → List Needed
slot_words slots n = map (word_at slots) (range_with_len 0 n)
