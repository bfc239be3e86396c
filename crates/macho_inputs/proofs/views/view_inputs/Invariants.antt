use Rattle.std.proofs.Common.{◌≡◌, map, take, All}
use Rattle.macho_promise.specs.Views.{object_view, ViewsObject}
use Rattle.macho_linker.specs.Owned.{input_of}
use Rattle.macho_inputs.proofs.views.view_inputs.Given as goal

abbrev pub invariant-loop-input : goal.invariant-loop-input
invariant-loop-input l = record {
  viewed : l.views.items ≡ map object_view (map input_of (take l.input-index l.inputs));
  rules : All ViewsObject l.views.items;
}
