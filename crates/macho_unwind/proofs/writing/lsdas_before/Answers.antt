-- How many LSDAs are of functions that start before a start.
--
-- The functions of the LSDAs rise, so those below the start come first, and the list has a point of partition. Before the
-- point all are below the start, and from it on none is. So the count of those below the start is the point.
use Rattle.std.proofs.Common.{nat_lt, rules, arith}
use Rattle.std.proofs.lemmas.Bool.Decides.{nat_tests}
use Rattle.std.proofs.lemmas.List.Sorted.{IsPartitionPoint-from_clause, IsPartitionedBy-ltb}
use Rattle.macho_unwind_pages.specs.declared.plans.Lsda.{Lsda}
use Rattle.macho_unwind.proofs.Counting.{count-cut, rises_weakly}
use Rattle.macho_unwind.proofs.writing.lsdas_before.Goals as goal

pub returns-clause-is : goal.returns-clause-is
returns-clause-is c =
    let parted = IsPartitionedBy-ltb (λ (l : Lsda). l.function) c.args.lsdas.now c.args.start
    (rises_weakly (λ (l : Lsda). l.function) c.args.lsdas.now c.requires) in
    let point = IsPartitionPoint-from_clause (λ (l : Lsda). nat_lt l.function c.args.start) _ _
    c.partition_point.ensures.partitioned parted (λ a r q k. search rules) in
    count-cut (λ (l : Lsda). l.function) c.args.start c.args.lsdas.now c.partition_point.result c.partition_point.ensures.bound
    (λ k d h. let t = point.0 k d (omega arith) h in grind (arith, nat_tests))
    (λ k d le h. let t = point.1 k d le h in grind (arith, nat_tests))
