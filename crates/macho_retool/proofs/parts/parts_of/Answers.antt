-- The lists of parts, one behind the other.
use Rattle.std.proofs.Common.{◌≡◌, ◌∙◌, map, subst}
use Rattle.macho_model.specs.Commands.{numbered}
use Rattle.macho_records.specs.declared.constants.TheConstants.{LC_CODE_SIGNATURE, LC_DYLD_CHAINED_FIXUPS, LC_DYLD_EXPORTS_TRIE, LC_SEGMENT_64, LC_SYMTAB}
use Rattle.macho_loader.specs.Lists.{range_of}
use Rattle.macho_retool.proofs.Rooms.{segments_inside, parts_join}
use Rattle.macho_retool.proofs.parts.parts_of.Goals as goal

pub add_segments-requires : goal.add_segments-requires
add_segments-requires c =
    segments_inside c.args.bytes.now c.deref.result.now c.requires.accepted
    (subst (λ x. c.deref.result.now ≡ map (range_of x) (numbered LC_SEGMENT_64 x)) c.requires.same
    (c.deref.ensures.value ∙ c.in_ok-segments.ensures))

pub returns : goal.returns
returns c =
    parts_join c.args.bytes.now c.deref.result.now c.deref-2.result.now c.deref-3.result.now c.deref-4.result.now c.deref-5.result.now
    c.deref-6.result.now
    c.new-parts.result.items c.add_segments.new.parts.items c.add_tables.new.parts.items c.add_tables-2.new.parts.items
    c.add_symbols.new.parts.items c.add_strings.new.parts.items c.add_tables-3.new.parts.items
    (subst (λ x. c.deref.result.now ≡ map (range_of x) (numbered LC_SEGMENT_64 x)) c.requires.same
    (c.deref.ensures.value ∙ c.in_ok-segments.ensures))
    (subst (λ x. c.deref-2.result.now ≡ map (range_of x) (numbered LC_DYLD_CHAINED_FIXUPS x)) c.requires.same
    (c.deref-2.ensures.value ∙ c.in_ok-fixups.ensures))
    (subst (λ x. c.deref-3.result.now ≡ map (range_of x) (numbered LC_DYLD_EXPORTS_TRIE x)) c.requires.same
    (c.deref-3.ensures.value ∙ c.in_ok-tries.ensures))
    (subst (λ x. c.deref-4.result.now ≡ map (range_of x) (numbered LC_SYMTAB x)) c.requires.same
    (c.deref-4.ensures.value ∙ c.in_ok-symbols.ensures))
    (subst (λ x. c.deref-5.result.now ≡ map (range_of x) (numbered LC_SYMTAB x)) c.requires.same
    (c.deref-5.ensures.value ∙ c.in_ok-symbols.ensures))
    (subst (λ x. c.deref-6.result.now ≡ map (range_of x) (numbered LC_CODE_SIGNATURE x)) c.requires.same
    (c.deref-6.ensures.value ∙ c.in_ok-signatures.ensures))
    c.new-parts.ensures.items c.in_ok-add_segments.ensures c.in_ok-add_tables.ensures c.in_ok-add_tables-2.ensures
    c.in_ok-add_symbols.ensures c.in_ok-add_strings.ensures c.in_ok-add_tables-3.ensures
