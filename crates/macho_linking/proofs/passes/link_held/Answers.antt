-- What is viewed of the inputs is the link's.
use Rattle.std.proofs.Common.{◌≡◌, sym, subst, false, All}
use Rattle.macho_symbols.specs.Exported.{AreLists}
use Rattle.macho_linkedit.specs.declared.listing.LinkedObject.{LinkedObject}
use Rattle.macho_linkedit.specs.Listing.{AreObjects}
use Rattle.macho_refusal_laws.specs.Inputs.{HasBytes}
use Rattle.macho_linking.specs.steps.Lists.{AreListsOf}
use Rattle.macho_linking.proofs.Given.{lists_are, owned_bytes}
use Rattle.macho_linking.proofs.passes.link_held.Goals as goal

pub link_viewed-requires-clause-objects : goal.link_viewed-requires-clause-objects
link_viewed-requires-clause-objects c =
    let l = c.args.linker.now in (
      subst (AreObjects l) (sym c.deref-2.ensures.value) (c.in_ok-objects.ensures.listed l (sym c.inputs-inputs.ensures.same)),
      subst (All (λ (o : LinkedObject). o.file.is_dynamic ≡ false)) (sym c.deref-2.ensures.value) c.in_ok-objects.ensures.kinds,
    )

pub link_viewed-requires-clause-lists : goal.link_viewed-requires-clause-lists
link_viewed-requires-clause-lists c =
    let l = c.args.linker.now in
    subst (AreLists l) (sym c.as_ref-list.ensures.value) (lists_are l c.in_ok-list.list
    (subst (λ texts. AreListsOf texts c.in_ok-list.list) c.export_lists.ensures c.in_ok-list.ensures))

pub link_viewed-requires-clause-bytes : goal.link_viewed-requires-clause-bytes
link_viewed-requires-clause-bytes c = subst (All HasBytes) c.inputs-inputs.ensures.same (owned_bytes c.inputs-inputs.result.now)
