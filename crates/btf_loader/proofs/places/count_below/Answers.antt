use Rattle.std.specs.Prelude.{nat_lt}
use Rattle.std.proofs.Common.{rules}
use Rattle.std.proofs.lemmas.List.Sorted.{IsPartitionPoint-from_clause, IsPartitionedBy-ltb}
use Rattle.btf_loader.proofs.Sharing.{partition_counts}
use Rattle.btf_loader.proofs.places.count_below.Goals as goal

pub returns : goal.returns
returns c =
    let parted = IsPartitionedBy-ltb (λ x. x) c.args.numbers.now c.args.bound c.requires in
    let point = IsPartitionPoint-from_clause (λ n. nat_lt n c.args.bound) _ _ c.partition_point.ensures.partitioned parted (λ a r q k. search rules) in
    partition_counts (λ n. nat_lt n c.args.bound) c.args.numbers.now c.partition_point.result c.partition_point.ensures.bound point
