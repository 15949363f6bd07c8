use Rattle.std.proofs.Common.{ltb, ltb-true, ltb-false, rules}
use Rattle.std.proofs.lemmas.List.Sorted.{IsPartitionPoint-from_clause, IsPartitionedBy-ltb}
use Rattle.ioevent_set.specs.Index.{address_of}
use Rattle.ioevent_set.proofs.events.place_of.Goals as goal

pub returns-clause-before : goal.returns-clause-before
returns-clause-before c =
    let parted = IsPartitionedBy-ltb address_of _ c.args.address c.requires in
    let point = IsPartitionPoint-from_clause (λ row. ltb row.address c.args.address) _ _ c.partition_point.ensures.partitioned parted (λ a r q k. search rules) in
    λ k d from below. ltb-true _ _ (point.0 k d from below)

pub returns-clause-from : goal.returns-clause-from
returns-clause-from c =
    let parted = IsPartitionedBy-ltb address_of _ c.args.address c.requires in
    let point = IsPartitionPoint-from_clause (λ row. ltb row.address c.args.address) _ _ c.partition_point.ensures.partitioned parted (λ a r q k. search rules) in
    λ k d from below. ltb-false _ _ (point.1 k d from below)
