use Rattle.std.proofs.Common.{◌≡◌, List, drop, subst, arith}
use Rattle.std.proofs.lemmas.Grind.{common_steps}
use Rattle.std.specs.Prelude.{map}
use Rattle.std.specs.List.{AllByRecursion}
use Rattle.std.proofs.lemmas.List.{take_all, length-drop}
use Rattle.btf_model.specs.Spelling.{IsWhole}
use Rattle.btf_model.specs.Blob.{canon, IsTable}
use Rattle.btf_model.specs.Table.{strip}
use Rattle.btf_model.proofs.Blobs.{canon_is_table}
use Rattle.btf_records.specs.BtfType.{record_of}
use Rattle.btf_records.specs.declared.btf_type.BtfType.{BtfType}
use Rattle.btf_table.specs.Btf.{table_of}
use Rattle.btf_table.proofs.Tables.{consistent_is_valid}
use Rattle.btf_table.proofs.table.Btf.to_bytes.Goals as goal

pub returns-clause-parses_back : goal.returns-clause-parses_back
returns-clause-parses_back c =
    let whole : AllByRecursion IsWhole (map record_of (drop 1 c.self.inside.types.items)) = subst (λ (xs : List BtfType). AllByRecursion IsWhole (map record_of xs)) (rw c.deref.ensures.value (take_all _ _ (omega (arith, length-drop 1 c.self.inside.types.items)))) c.in_ok-append_types.ensures.whole in
    let v = canon_is_table (table_of c.self.inside) (consistent_is_valid c.self.inside c.self.invariant whole) in
    let bytes : canon (table_of c.self.inside) ≡ c.extend_from_slice.new.self.items = grind (arith, common_steps) in
    rw (← c.self.view_is) (subst (λ b. IsTable (table_of c.self.inside).order b (strip (table_of c.self.inside))) bytes v)
