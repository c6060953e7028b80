use Rattle.std.proofs.Common.{◌≡◌, ◌++◌, List, [], ◌∷◌, length, map, sym, ap, subst, ◌∙◌, arith}
use Rattle.std.specs.List.{flat_map}
use Rattle.std.proofs.Common.{drop}
use Rattle.btf_model.specs.declared.endianness.Endianness.TheVariants.{Little}
use Rattle.btf_model.specs.Record.{Record, unknown}
use Rattle.btf_model.specs.Spelling.{spell}
use Rattle.btf_records.specs.BtfType.{record_of}
use Rattle.btf_records.specs.declared.btf_type.BtfType.{BtfType}
use Rattle.btf_table.specs.Denied.{AllHaveKinds}
use Rattle.btf_table.proofs.KnownKinds.{only_unknown}
use Rattle.btf_table.proofs.table.Btf.new.Goals as goal

pub invariant_of-result : goal.invariant_of-result
invariant_of-result c =
    let records : map record_of c.push-2.new.self.items ≡ unknown ∷ [] = ap (map record_of) (c.in_ok-push-2.ensures.items ∙ ap (λ (xs : List BtfType). xs ++ _ ∷ []) c.in_ok-types.ensures.items) in
    record {
      magic = omega arith;
      version = omega arith;
      flags = omega arith;
      limit = omega arith;
      strings = omega (arith, ap length c.in_ok-push.ensures.items, ap length c.in_ok-strings.ensures.items, c.in_ok-push.ensures.len, c.in_ok-strings.ensures.len);
      types = ap (λ (rs : List Record). length (flat_map (spell Little) (drop 1 rs))) (sym records);
      first = ([], records);
      kinds = subst AllHaveKinds (sym records) only_unknown;
    }
