use Rattle.std.proofs.Common.{refl, sym, ◌∙◌}
use Rattle.btf_model.specs.Refusal.{Refusal}
use Rattle.btf_model.proofs.Comparisons.{same_ok}
use Rattle.btf_records.specs.declared.btf_type.BtfType.TheVariants.{FuncProto, Enum}
use Rattle.btf_table.specs.PassStep.{pass_on}
use Rattle.btf_table.proofs.Checks.{checked_ok}
use Rattle.btf_table.proofs.PassRules.{proto_named, proto_stays, proto_as_enum}
use Rattle.btf_table.proofs.sanitize.func_proto.rewrite_proto.Goals as goal

pub returns-then-not-granted : goal.returns-then-not-granted
returns-then-not-granted c = λ given answers id there here granted.
    proto_as_enum (pass_on c.args.btf.now given answers) id (FuncProto c.args.proto.now) (Enum c.in_ok-as_enum.field-0) c.args.made.now there there.kind_is here (granted ∙ c.if-not-granted.true)
    (same_ok {E = Refusal} c.in_ok-as_enum.field-0 _ c.in_ok-as_enum.ensures) refl refl

pub returns-then-not-has_unnamed : goal.returns-then-not-has_unnamed
returns-then-not-has_unnamed c = λ given answers id there here granted.
    proto_stays (pass_on c.args.btf.now given answers) id (FuncProto c.args.proto.now) c.args.made.now there there.kind_is here (granted ∙ c.if-not-granted.false) (sym c.has_unnamed.ensures ∙ c.if-not-has_unnamed.true) refl

pub returns : goal.returns
returns c = λ given answers id there here granted.
    let ok : _ = checked_ok _ _ _ c.in_ok-proto.ensures.answer in
    proto_named (pass_on c.args.btf.now given answers) id (FuncProto c.args.proto.now) (FuncProto c.in_ok-proto.proto) c.args.made.now _ there there.kind_is here (granted ∙ c.if-not-granted.false) ok.0 ok.1 refl refl c.in_ok-proto.ensures.adds refl refl refl
