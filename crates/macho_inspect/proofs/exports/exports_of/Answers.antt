-- The ranges are those of the commands of a trie.
use Rattle.std.proofs.Common.{◌≡◌, map, refl, sym, ap, subst, ◌∙◌}
use Rattle.macho_trie.specs.Lists.{AreExports}
use Rattle.macho_loader.specs.Lists.{range_of}
use Rattle.macho_inspect.specs.Reports.{exported_by}
use Rattle.macho_inspect.specs.Tries.{trie_commands}
use Rattle.macho_inspect.proofs.Tries.{no_exports, no_trie, trie_of_none, right_without, one_trie, second_trie}
use Rattle.macho_inspect.proofs.exports.exports_of.Goals as goal

pub returns-in-empty : goal.returns-in-empty
returns-in-empty c =
    let b = c.args.bytes.now in
    let are : c.as_slice.result.now ≡ map (range_of b) (trie_commands b) =
    subst (λ x. c.as_slice.result.now ≡ map (range_of x) (trie_commands x)) c.requires (c.as_slice.ensures.value ∙ c.in_ok-tries.ensures) in
    let none = no_trie b c.as_slice.result.now are c.in-empty.len_below in (
      subst (λ xs. AreExports xs (map exported_by c.new.result.items)) (sym (trie_of_none b none))
          (no_exports (map exported_by c.new.result.items) (ap (λ xs. map exported_by xs) c.new.ensures.items)),
      λ place. right_without b place none,
    )

pub exports_in-requires : goal.exports_in-requires
exports_in-requires c =
    let b = c.args.bytes.now in
    let are : c.as_slice.result.now ≡ map (range_of b) (trie_commands b) =
    subst (λ x. c.as_slice.result.now ≡ map (range_of x) (trie_commands x)) c.requires (c.as_slice.ensures.value ∙ c.in_ok-tries.ensures) in
    one_trie b (trie_commands b) c.as_slice.result.now _ are c.in-len1.len_below c.in-len1.len_at_least refl

pub returns : goal.returns
returns c =
    let b = c.args.bytes.now in
    let are : c.as_slice.result.now ≡ map (range_of b) (trie_commands b) =
    subst (λ x. c.as_slice.result.now ≡ map (range_of x) (trie_commands x)) c.requires (c.as_slice.ensures.value ∙ c.in_ok-tries.ensures) in
    second_trie b (trie_commands b) c.as_slice.result.now _ are c.in-len2-up.len_at_least refl
