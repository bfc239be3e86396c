-- The symbols of one object more stand behind those before; at the end all objects are those of the link.
use Rattle.std.proofs.Common.{ℕ, ◌<◌, List, take, refl, sym, ap, subst, arith}
use Rattle.std.specs.List.{flat_map}
use Rattle.std.proofs.lemmas.List.{take_all}
use Rattle.std.proofs.lemmas.List.Sums.{sum_by_more}
use Rattle.macho_model.specs.Objects.{num_symbols}
use Rattle.macho_model.specs.Resolution.{SymbolId}
use Rattle.macho_symbols.specs.Kept.{HasSymbol}
use Rattle.macho_linkedit.specs.declared.listing.LinkedObject.{LinkedObject}
use Rattle.macho_linkedit.specs.steps.Listing.{Lists}
use Rattle.macho_linkedit.proofs.Listed.{lists_append, symbols_in_object, objects_more, bytes_are, are_listed}
use Rattle.macho_linkedit.proofs.listing.table_symbols.Goals as goal

pub list_object-requires-clause-known : goal.list_object-requires-clause-known
list_object-requires-clause-known c =
    subst (λ (o : LinkedObject). (k : ℕ) → k < num_symbols o.file.bytes → HasSymbol c.args.resolved.now o.number k) (sym c.object-item.is)
    (c.requires.known c.loop-object.object-index c.object-item.result c.loop-object-test.true)

pub loop-object-preserved : goal.loop-object-preserved
loop-object-preserved c = record {
  done = λ l noted resolved are.
      subst (λ (xs : List SymbolId). Lists l xs (record { symbols = c.new.result; strings = 1 }) c.list_object.new.table)
      (sym (objects_more c.args.objects.now c.loop-object.object-index c.object-item.result c.loop-object-test.true c.object-item.is))
      (lists_append l (flat_map symbols_in_object (take c.loop-object.object-index c.args.objects.now))
      (symbols_in_object c.object-item.result) (record { symbols = c.new.result; strings = 1 })
      c.loop-object.table c.list_object.new.table (c.loop-object.invariant.done l noted resolved are)
      (c.in_ok-list_object.ensures.done l noted resolved
      (bytes_are l c.args.objects.now c.loop-object.object-index c.object-item.result are c.loop-object-test.true c.object-item.is)));
  room =
      omega (
        arith,
        c.in_ok-list_object.ensures.room,
        c.loop-object.invariant.room,
        sum_by_more
            (λ (o : LinkedObject). num_symbols o.file.bytes) c.args.objects.now c.loop-object.object-index c.object-item.result
            c.loop-object-test.true,
        ap (λ (o : LinkedObject). num_symbols o.file.bytes) c.object-item.is,
      );
}

pub returns : goal.returns
returns c l noted resolved are =
    are_listed l c.args.objects.now (record { symbols = c.new.result; strings = 1 }) c.loop-object.table are c.new.ensures.items refl
    (subst (λ (xs : List LinkedObject). Lists l (flat_map symbols_in_object xs)
    (record { symbols = c.new.result; strings = 1 }) c.loop-object.table)
    (take_all c.loop-object.object-index c.args.objects.now c.loop-object-test.false) (c.loop-object.invariant.done l noted resolved are))
