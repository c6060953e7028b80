use Rattle.std.proofs.Common.{◌≡◌, ◌+◌, ◌<◌, List, length, true, false, sym, ap, subst, refl, ◌∙◌, arith}
use Rattle.btf_relocate_model.specs.Candidates.{is_nameless}
use Rattle.btf_relocate.specs.declared.target.Entry.{Entry}
use Rattle.btf_relocate.proofs.Indexes.{Before, not_named, one_named}
use Rattle.btf_relocate.proofs.target.types_with_name.Goals as goal
use Rattle.btf_relocate.proofs.target.types_with_name.Goals.{then-not-is_empty+in_ok-push, else-not-is_empty}

pub loop-type_id-preserved : goal.loop-type_id-preserved
loop-type_id-preserved c =
    let t = c.args.table.now in
    let es : List Entry = c.loop-type_id.entries.items in
    let name = c.key_of-kind.result.0.now in
    let kind = c.key_of-kind.result.1 in
    let i = c.loop-type_id.type_id in
    let lt : i < length t.records = omega (arith, c.loop-type_id-test.true, c.type_count.ensures) in
    elim c.if-not-is_empty.branch [
      | then-not-is_empty+in_ok-push w ↦
          let some : is_nameless name ≡ false = sym c.is_empty.ensures ∙ w.if-not-is_empty.true in
          let e : Entry = record { name = c.key_of-kind.result.0; kind = kind; type_id = i } in
          one_named t es i name kind c.key_of-kind.ensures lt c.loop-type_id.invariant some e c.if-not-is_empty.entries.items (ap (λ v. v.items) w.entries-is ∙ w.in_ok-push.ensures.items) refl refl
      | else-not-is_empty w ↦
          let none : is_nameless name ≡ true = sym c.is_empty.ensures ∙ w.if-not-is_empty.false in
          subst (λ (xs : List Entry). Before t xs (i + 1)) (sym (ap (λ v. v.items) w.entries-is)) (not_named t es i name kind c.key_of-kind.ensures lt c.loop-type_id.invariant none)
    ]
