use Rattle.std.proofs.Common.{◌∙◌, ◌∷◌, ap, map, slice_get}
use Rattle.btf_order_model.specs.Uses.{uses_of}
use Rattle.btf_order.specs.Shape.{param_type}
use Rattle.btf_order.proofs.Types.{struct_child, union_child, struct_uses, union_uses, prototype_uses}
use Rattle.btf_order.proofs.shape.child_of.Goals as goal

pub returns-in-Struct-clause-child : goal.returns-in-Struct-clause-child
returns-in-Struct-clause-child c =
    struct_child c.args.btf_type.now c.in-Struct.t c.members.result.now c.args.through_pointer c.args.index c.member_at.result c.in-Struct.is c.kind.ensures.info c.members.ensures.words c.member_at.ensures.child

pub returns-in-Union-clause-child : goal.returns-in-Union-clause-child
returns-in-Union-clause-child c =
    union_child c.args.btf_type.now c.in-Union.t c.members-in-Union.result.now c.args.through_pointer c.args.index c.member_at-in-Union.result c.in-Union.is c.kind.ensures.info c.members-in-Union.ensures.words c.member_at-in-Union.ensures.child

pub returns-in-Struct-clause-uses : goal.returns-in-Struct-clause-uses
returns-in-Struct-clause-uses c =
    c.member_at.ensures.uses ∙ ap (λ us. slice_get us c.args.index) (struct_uses c.args.btf_type.now c.in-Struct.t c.members.result.now c.args.through_pointer c.in-Struct.is c.kind.ensures.info c.members.ensures.words)

pub returns-in-Union-clause-uses : goal.returns-in-Union-clause-uses
returns-in-Union-clause-uses c =
    c.member_at-in-Union.ensures.uses ∙ ap (λ us. slice_get us c.args.index) (union_uses c.args.btf_type.now c.in-Union.t c.members-in-Union.result.now c.args.through_pointer c.in-Union.is c.kind.ensures.info c.members-in-Union.ensures.words)

pub returns-in-FuncProto-clause-uses : goal.returns-in-FuncProto-clause-uses
returns-in-FuncProto-clause-uses c =
    c.type_at.ensures.uses
    ∙ ap (λ r. slice_get (uses_of (r ∷ map param_type c.params.result.now) c.args.through_pointer) c.args.index) c.return_type.ensures
    ∙ ap (λ us. slice_get us c.args.index) (prototype_uses c.args.btf_type.now c.in-FuncProto.t c.params.result.now c.args.through_pointer c.in-FuncProto.is c.kind.ensures.info c.params.ensures.words)
