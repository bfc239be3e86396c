-- What was read is handed on, and what is answered of it is the link's.
use Rattle.std.proofs.Common.{refl, sym, subst, map, List}
use Rattle.std.specs.Option.{option_copied}
use Rattle.macho_model.specs.Needs.{imports_of}
use Rattle.macho_symbols.specs.Exported.{AreExports}
use Rattle.macho_symbols.specs.declared.exports.ExportName.{ExportName}
use Rattle.macho_linkedit.specs.Tries.{AreKept}
use Rattle.macho_symbol_tables.specs.Exports.{CanBeTrie, exports_told}
use Rattle.macho_promise_laws.proofs.Plain.{imports_plain}
use Rattle.macho_linking.proofs.Given.{stands_counted}
use Rattle.macho_linking.proofs.Handed.{are_of, can_be_sized, has_plan}
use Rattle.macho_linking.proofs.planning.plan_inputs.Goals as goal

pub kept_exports-requires-clause-link : goal.kept_exports-requires-clause-link
kept_exports-requires-clause-link c =
    let l = c.args.linker.now in (
      l,
      record {
        exports_are = subst (λ (es : List ExportName). AreExports l (imports_of l) es) (sym c.deref.ensures.value)
            c.requires.read_is.0.exports;
        imports_are = c.imports.ensures l (imports_of l) c.requires.read_is.0.resolved;
        libraries_are = c.requires.libraries_are;
      },
    )

pub plan_link-requires : goal.plan_link-requires
plan_link-requires c =
    let l = c.args.linker.now in
    can_be_sized l _ c.args.views.now c.args.objects.now (option_copied c.args.list) c.args.read.now
    (map (λ n. n.items) c.args.libraries.now) c.requires
    (record {
      arguments = c.size_arguments.ensures;
      given = (refl, refl, refl);
      needs = refl;
      rows = (c.deref-2.ensures.value, c.deref-3.ensures.value);
      exports = (subst (AreKept l (exports_told c.args.read.now.exports.items)) (sym c.deref-4.ensures.value)
          (subst (λ (es : List ExportName). AreKept l (exports_told es) c.in_ok-exports.exports.items) c.deref.ensures.value
          (c.in_ok-exports.ensures.kept l (record {
            exports_are = subst (λ (es : List ExportName). AreExports l (imports_of l) es) (sym c.deref.ensures.value)
                c.requires.read_is.0.exports;
            imports_are = c.imports.ensures l (imports_of l) c.requires.read_is.0.resolved;
            libraries_are = c.requires.libraries_are;
          }))));
      trie = subst CanBeTrie (sym c.deref-4.ensures.value) (c.in_ok-exports.ensures.names l (record {
        exports_are = subst (λ (es : List ExportName). AreExports l (imports_of l) es) (sym c.deref.ensures.value)
            c.requires.read_is.0.exports;
        imports_are = c.imports.ensures l (imports_of l) c.requires.read_is.0.resolved;
        libraries_are = c.requires.libraries_are;
      }) (imports_plain l c.requires.rules.1));
    })

pub returns-clause-done : goal.returns-clause-done
returns-clause-done c =
    let l = c.args.linker.now in
    let of_link = are_of l _ c.args.views.now c.args.objects.now (option_copied c.args.list) c.args.read.now
    (map (λ n. n.items) c.args.libraries.now)
    c.requires (record {
      arguments = c.size_arguments.ensures;
      given = (refl, refl, refl);
      needs = refl;
      rows = (c.deref-2.ensures.value, c.deref-3.ensures.value);
      exports = (subst (AreKept l (exports_told c.args.read.now.exports.items)) (sym c.deref-4.ensures.value)
          (subst (λ (es : List ExportName). AreKept l (exports_told es) c.in_ok-exports.exports.items) c.deref.ensures.value
          (c.in_ok-exports.ensures.kept l (record {
            exports_are = subst (λ (es : List ExportName). AreExports l (imports_of l) es) (sym c.deref.ensures.value)
                c.requires.read_is.0.exports;
            imports_are = c.imports.ensures l (imports_of l) c.requires.read_is.0.resolved;
            libraries_are = c.requires.libraries_are;
          }))));
      trie = subst CanBeTrie (sym c.deref-4.ensures.value) (c.in_ok-exports.ensures.names l (record {
        exports_are = subst (λ (es : List ExportName). AreExports l (imports_of l) es) (sym c.deref.ensures.value)
            c.requires.read_is.0.exports;
        imports_are = c.imports.ensures l (imports_of l) c.requires.read_is.0.resolved;
        libraries_are = c.requires.libraries_are;
      }) (imports_plain l c.requires.rules.1));
    }) in
    has_plan l c.args.read.now c.deref-4.result.now c.plan_link.result
    (subst (AreKept l (exports_told c.args.read.now.exports.items)) (sym c.deref-4.ensures.value)
    (subst (λ (es : List ExportName). AreKept l (exports_told es) c.in_ok-exports.exports.items) c.deref.ensures.value
    (c.in_ok-exports.ensures.kept l (record {
      exports_are = subst (λ (es : List ExportName). AreExports l (imports_of l) es) (sym c.deref.ensures.value)
          c.requires.read_is.0.exports;
      imports_are = c.imports.ensures l (imports_of l) c.requires.read_is.0.resolved;
      libraries_are = c.requires.libraries_are;
    })))) (c.plan_link.ensures.done l of_link c.requires.lists_are)

pub returns-clause-why : goal.returns-clause-why
returns-clause-why c =
    let l = c.args.linker.now in
    let of_link = are_of l _ c.args.views.now c.args.objects.now (option_copied c.args.list) c.args.read.now
    (map (λ n. n.items) c.args.libraries.now)
    c.requires (record {
      arguments = c.size_arguments.ensures;
      given = (refl, refl, refl);
      needs = refl;
      rows = (c.deref-2.ensures.value, c.deref-3.ensures.value);
      exports = (subst (AreKept l (exports_told c.args.read.now.exports.items)) (sym c.deref-4.ensures.value)
          (subst (λ (es : List ExportName). AreKept l (exports_told es) c.in_ok-exports.exports.items) c.deref.ensures.value
          (c.in_ok-exports.ensures.kept l (record {
            exports_are = subst (λ (es : List ExportName). AreExports l (imports_of l) es) (sym c.deref.ensures.value)
                c.requires.read_is.0.exports;
            imports_are = c.imports.ensures l (imports_of l) c.requires.read_is.0.resolved;
            libraries_are = c.requires.libraries_are;
          }))));
      trie = subst CanBeTrie (sym c.deref-4.ensures.value) (c.in_ok-exports.ensures.names l (record {
        exports_are = subst (λ (es : List ExportName). AreExports l (imports_of l) es) (sym c.deref.ensures.value)
            c.requires.read_is.0.exports;
        imports_are = c.imports.ensures l (imports_of l) c.requires.read_is.0.resolved;
        libraries_are = c.requires.libraries_are;
      }) (imports_plain l c.requires.rules.1));
    }) in
    stands_counted l c.plan_link.result (λ counts are. c.plan_link.ensures.why l counts of_link c.requires.lists_are are)
