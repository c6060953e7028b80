use Rattle.std.proofs.Common.{ℕ, List, sym, subst, rules}
use Rattle.std.proofs.lemmas.List.Sorted.{IsPartitionPoint-from_clause}
use Rattle.std.specs.Ordering.{is_lt, is_le}
use Rattle.btf_relocate.specs.Index.{IsIndex, kind_code, key_of, key_cmp}
use Rattle.btf_relocate.proofs.Indexes.{Splits, below_parted, upto_parted, found_between, none_between}
use Rattle.btf_relocate.proofs.target.TargetIndex.candidates_in.Goals as goal

pub returns-then-start-end : goal.returns-then-start-end
returns-then-start-end c =
    let t = c.args.table.now in
    let own = c.essential_name-name.result.now in
    let code = c.comparison_number-kind.result in
    let ids = c.as_slice-ids.result.now in
    let index : IsIndex t ids = subst (λ (ns : List ℕ). IsIndex t ns) (sym c.as_slice-ids.ensures.value) c.requires.1 in
    let start : Splits (λ id. is_lt (key_cmp (key_of t id) (own, code))) ids c.partition_point-start.result =
    IsPartitionPoint-from_clause (λ id. is_lt (key_cmp (key_of t id) (own, code))) _ _ c.partition_point-start.ensures.partitioned (below_parted t ids (own, code) index) (λ a r q k. search rules) in
    let end : Splits (λ id. is_le (key_cmp (key_of t id) (own, code))) ids c.partition_point-end.result =
    IsPartitionPoint-from_clause (λ id. is_le (key_cmp (key_of t id) (own, code))) _ _ c.partition_point-end.ensures.partitioned (upto_parted t ids (own, code) index) (λ a r q k. search rules) in
    found_between t ids c.args.name.now (kind_code c.args.kind) c.partition_point-start.result c.partition_point-end.result own code index c.essential_name-name.ensures c.comparison_number-kind.ensures.code start end

pub returns-else-start-end : goal.returns-else-start-end
returns-else-start-end c =
    let t = c.args.table.now in
    let own = c.essential_name-name.result.now in
    let code = c.comparison_number-kind.result in
    let ids = c.as_slice-ids.result.now in
    let index : IsIndex t ids = subst (λ (ns : List ℕ). IsIndex t ns) (sym c.as_slice-ids.ensures.value) c.requires.1 in
    let start : Splits (λ id. is_lt (key_cmp (key_of t id) (own, code))) ids c.partition_point-start.result =
    IsPartitionPoint-from_clause (λ id. is_lt (key_cmp (key_of t id) (own, code))) _ _ c.partition_point-start.ensures.partitioned (below_parted t ids (own, code) index) (λ a r q k. search rules) in
    let end : Splits (λ id. is_le (key_cmp (key_of t id) (own, code))) ids c.partition_point-end.result =
    IsPartitionPoint-from_clause (λ id. is_le (key_cmp (key_of t id) (own, code))) _ _ c.partition_point-end.ensures.partitioned (upto_parted t ids (own, code) index) (λ a r q k. search rules) in
    none_between t ids c.args.name.now (kind_code c.args.kind) c.partition_point-start.result c.partition_point-end.result own code index c.essential_name-name.ensures c.comparison_number-kind.ensures.code start end c.if-start-end.false
