use Rattle.std.proofs.Common.{ltb, ltb-true, rules}
use Rattle.std.proofs.lemmas.List.Sorted.{IsPartitionPoint-from_clause, IsPartitionedBy-ltb}
use Rattle.ipcz_node.proofs.Serials.{in_order}
use Rattle.ipcz_node.proofs.routers.lower_in.Goals as goal

pub returns-clause-lower : goal.returns-clause-lower
returns-clause-lower g c =
    let parted = IsPartitionedBy-ltb (λ e. e.0) _ c.args.from (in_order 0 c.requires.0 _ c.requires.1) in
    let point = IsPartitionPoint-from_clause (λ e. ltb e.0 c.args.from) _ _ c.partition_point.ensures.partitioned parted (λ a r q k. search rules) in
    λ k d low high. ltb-true _ _ (point.0 k d low high)
