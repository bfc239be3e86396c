-- The addresses of commons: what holds before number k is that the first k are listed.
use Rattle.std.proofs.Common.{◌≡◌, map, take}
use Rattle.macho_places.proofs.addresses.common_list.Given as goal

abbrev pub invariant-loop-common : goal.invariant-loop-common
invariant-loop-common l = l.list.items ≡ map (λ x. x.address) (take l.common-index l.commons)
