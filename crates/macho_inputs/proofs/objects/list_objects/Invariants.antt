use Rattle.std.proofs.Common.{◌≡◌, map, take, All, false}
use Rattle.std.specs.List.{enumerate_from, filter_map}
use Rattle.macho_linkedit.specs.Listing.{object_in, seen_object}
use Rattle.macho_linker.specs.Owned.{input_of}
use Rattle.macho_inputs.proofs.objects.list_objects.Given as goal

abbrev pub invariant-loop-number : goal.invariant-loop-number
invariant-loop-number l = record {
  listed : map seen_object l.objects.items ≡ filter_map object_in (enumerate_from 0 (map input_of (take l.number l.inputs)));
  kinds : All (λ o. o.file.is_dynamic ≡ false) l.objects.items;
}
