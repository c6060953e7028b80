use Rattle.std.proofs.Common.{ℕ, List, get_or, Option, None, Some, subst}
use Rattle.std.proofs.Math.ListN.{drop_of_length-le}
use Rattle.btf_plain.specs.declared.kind.BtfKind.{BtfKind}
use Rattle.btf_plain.specs.declared.kind.BtfKind.TheVariants.{Unknown}
use Rattle.btfobj_cli.specs.Compat.{FindsOrNone}
use Rattle.btfobj_cli.proofs.Compared.{kind_passed, kind_found, no_kind}
use Rattle.btfobj_cli.proofs.compatibility.find_first.Goals as goal

pub loop-kind-preserved : goal.loop-kind-preserved
loop-kind-preserved c = λ found rest.
    let t = c.args.table.now in
    let name : List ℕ = c.args.name.now in
    let ks : List BtfKind = c.args.kinds.now in
    let i : ℕ = c.loop-kind.kind-index in
    let none : FindsOrNone t (get_or ks i Unknown) name None = subst (λ (o : Option ℕ). FindsOrNone t (get_or ks i Unknown) name o) c.in_default.is c.in_ok-id.ensures in
    c.loop-kind.invariant found (kind_passed t name ks i found c.loop-kind-test.true none rest)

pub returns-in-Some : goal.returns-in-Some
returns-in-Some c =
    let t = c.args.table.now in
    let name : List ℕ = c.args.name.now in
    let ks : List BtfKind = c.args.kinds.now in
    let i : ℕ = c.loop-kind.kind-index in
    let has : FindsOrNone t (get_or ks i Unknown) name (Some c.in-Some.id) = subst (λ (o : Option ℕ). FindsOrNone t (get_or ks i Unknown) name o) c.in-Some.is c.in_ok-id.ensures in
    c.loop-kind.invariant (Some (get_or ks i Unknown, c.in-Some.id)) (kind_found t name ks i c.in-Some.id c.loop-kind-test.true has)

pub returns : goal.returns
returns c = c.loop-kind.invariant None (no_kind c.args.table.now c.args.name.now c.args.kinds.now c.loop-kind.kind-index (drop_of_length-le c.args.kinds.now c.loop-kind-test.false))
