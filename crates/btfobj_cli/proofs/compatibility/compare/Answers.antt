use Rattle.std.proofs.Common.{ℕ, List, [], Bool, Option, None, Some, Ok, subst, refl}
use Rattle.btf_compare.specs.Pairs.{id_pair}
use Rattle.btf_model.specs.Compat.{Plain}
use Rattle.btf_model.specs.Fields.{Pair}
use Rattle.btf_plain.specs.declared.kind.BtfKind.{BtfKind}
use Rattle.btfobj_cli.specs.Compat.{FindsFirst, compared_kinds, like_kinds}
use Rattle.btfobj_cli.proofs.compatibility.compare.Goals as goal

pub returns-in_default : goal.returns-in_default
returns-in_default c =
    (None, subst (λ (o : Option (BtfKind × ℕ)). FindsFirst c.args.local.now c.args.name.now compared_kinds o) c.in_default.is c.in_ok-found.ensures, refl)

pub returns-in_default-2 : goal.returns-in_default-2
returns-in_default-2 c = (
  Some c.in-Some.found,
  subst (λ (o : Option (BtfKind × ℕ)). FindsFirst c.args.local.now c.args.name.now compared_kinds o) c.in-Some.is c.in_ok-found.ensures,
  (None, subst (λ (o : Option (BtfKind × ℕ)). FindsFirst c.args.target.now c.args.name.now (like_kinds c.in-Some.found.0) o) c.in_default-2.is c.in_ok-like.ensures, refl),
)

pub returns-then-branch : goal.returns-then-branch
returns-then-branch c = (
  Some c.in-Some.found,
  subst (λ (o : Option (BtfKind × ℕ)). FindsFirst c.args.local.now c.args.name.now compared_kinds o) c.in-Some.is c.in_ok-found.ensures,
  (
    Some c.in-Some-2.like,
    subst (λ (o : Option (BtfKind × ℕ)). FindsFirst c.args.target.now c.args.name.now (like_kinds c.in-Some.found.0) o) c.in-Some-2.is c.in_ok-like.ensures,
    subst (λ (b : Bool). (listed : List Pair) × Plain c.args.local.now c.args.target.now [] (id_pair c.in-Some.found.1 c.in-Some-2.like.1) (Ok b) listed) c.if-branch.true c.in_ok-types_are_compatible.ensures,
  ),
)

pub returns-else-branch : goal.returns-else-branch
returns-else-branch c = (
  Some c.in-Some.found,
  subst (λ (o : Option (BtfKind × ℕ)). FindsFirst c.args.local.now c.args.name.now compared_kinds o) c.in-Some.is c.in_ok-found.ensures,
  (
    Some c.in-Some-2.like,
    subst (λ (o : Option (BtfKind × ℕ)). FindsFirst c.args.target.now c.args.name.now (like_kinds c.in-Some.found.0) o) c.in-Some-2.is c.in_ok-like.ensures,
    subst (λ (b : Bool). (listed : List Pair) × Plain c.args.local.now c.args.target.now [] (id_pair c.in-Some.found.1 c.in-Some-2.like.1) (Ok b) listed) c.if-branch.false c.in_ok-types_are_compatible.ensures,
  ),
)
