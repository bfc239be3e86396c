-- The image that is written is that of the linker, so its sections are those that the linker carries.
use Rattle.wild_macho_cases.proofs.linked_again.link_args.Goals as goal

pub write_image-requires : goal.write_image-requires
write_image-requires g c =
    rw c.in-Ok.image-is (rw c.in-Ok.is at c.link_again-answered.ensures.done).answer.linked.loadable.placed.whole_list.sections
