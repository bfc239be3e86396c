use Rattle.std.proofs.Common.{refl}
use Rattle.macho_trie.proofs.Followed.{starts_followed}
use Rattle.macho_trie.proofs.names.visit_all.Goals as goal

pub follow-requires : goal.follow-requires
follow-requires c =
    starts_followed c.args.bytes.now _ c.args.lines.now c.new-pending.result.items _ c.requires.some refl
    (c.in_ok-vec.ensures.items_if_clones_equal (λ y e. e)) c.new-pending.ensures.items c.in_ok-push.ensures.items refl refl refl
    c.requires.empty
