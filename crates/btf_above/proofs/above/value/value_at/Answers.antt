use Rattle.std.proofs.Common.{map, Err, refl, subst, inl}
use Rattle.btf_model.specs.Refusal.{UnexpectedBtfType}
use Rattle.btf_model.specs.Value.{HasVariants, FindsVariant}
use Rattle.btf_plain.specs.Error.{MeetsOrNoMemory, Meets}
use Rattle.btf_above.specs.Variants.{enum_variant, enum64_variant, HaveUtf8Names}
use Rattle.btf_plain.specs.Fallback.{fallback_variant, fallback_value}
use Rattle.btf_above.proofs.Values.{enum_has, enum64_has, union_has, plain_union, other_has, found_among, reported_of}
use Rattle.btf_above.proofs.above.value.value_at.Goals as goal

pub returns-in-Enum-clause-value : goal.returns-in-Enum-clause-value
returns-in-Enum-clause-value c =
    found_among c.args.btf.now c.args.type_id c.args.name.now (map enum_variant c.variants.result.now) c.find_value.result
    (enum_has c.args.btf.now c.args.type_id c.in_ok-t.field-0.now c.in-Enum.t c.variants.result.now c.in_ok-t.ensures c.in-Enum.is c.variants.ensures.words) c.find_value.ensures.found

pub returns-in-Enum-clause-no_memory : goal.returns-in-Enum-clause-no_memory
returns-in-Enum-clause-no_memory c =
    reported_of c.args.btf.now c.args.type_id c.args.name.now (map enum_variant c.variants.result.now) c.find_value.result
    (enum_has c.args.btf.now c.args.type_id c.in_ok-t.field-0.now c.in-Enum.t c.variants.result.now c.in_ok-t.ensures c.in-Enum.is c.variants.ensures.words) c.find_value.ensures.no_memory

pub returns-in-Enum64-clause-value : goal.returns-in-Enum64-clause-value
returns-in-Enum64-clause-value c =
    let vs : _ = c.variants-in-Enum64.result.now in
    found_among c.args.btf.now c.args.type_id c.args.name.now (map enum64_variant vs) c.find_value-in-Enum64.result
    (enum64_has c.args.btf.now c.args.type_id c.in_ok-t.field-0.now c.in-Enum64.t vs c.in_ok-t.ensures c.in-Enum64.is c.variants-in-Enum64.ensures.words) c.find_value-in-Enum64.ensures.found

pub returns-in-Enum64-clause-no_memory : goal.returns-in-Enum64-clause-no_memory
returns-in-Enum64-clause-no_memory c =
    let vs : _ = c.variants-in-Enum64.result.now in
    reported_of c.args.btf.now c.args.type_id c.args.name.now (map enum64_variant vs) c.find_value-in-Enum64.result
    (enum64_has c.args.btf.now c.args.type_id c.in_ok-t.field-0.now c.in-Enum64.t vs c.in_ok-t.ensures c.in-Enum64.is c.variants-in-Enum64.ensures.words) c.find_value-in-Enum64.ensures.no_memory

pub returns-in-Some-clause-value : goal.returns-in-Some-clause-value
returns-in-Some-clause-value c =
    let vs : _ = c.in-Some.fallback.now.variants.items in
    found_among c.args.btf.now c.args.type_id c.args.name.now (map fallback_variant vs) c.find_value-in-Some.result
    (union_has c.args.btf.now c.args.type_id c.in_ok-t.field-0.now c.in-Union.t (fallback_value c.in-Some.fallback.now) c.in_ok-t.ensures c.in-Union.is c.in-Some.ensures)
    (subst (λ (ws : _). MeetsOrNoMemory (λ v. v) c.find_value-in-Some.result (FindsVariant c.args.btf.now.strings c.args.name.now (map fallback_variant ws))) c.deref.ensures.value c.find_value-in-Some.ensures.found)

pub returns-in-Some-clause-no_memory : goal.returns-in-Some-clause-no_memory
returns-in-Some-clause-no_memory c =
    let vs : _ = c.in-Some.fallback.now.variants.items in
    reported_of c.args.btf.now c.args.type_id c.args.name.now (map fallback_variant vs) c.find_value-in-Some.result
    (union_has c.args.btf.now c.args.type_id c.in_ok-t.field-0.now c.in-Union.t (fallback_value c.in-Some.fallback.now) c.in_ok-t.ensures c.in-Union.is c.in-Some.ensures)
    (subst (λ (ws : _). HaveUtf8Names c.args.btf.now.strings (map fallback_variant ws) → Meets (λ v. v) c.find_value-in-Some.result (FindsVariant c.args.btf.now.strings c.args.name.now (map fallback_variant ws))) c.deref.ensures.value c.find_value-in-Some.ensures.no_memory)

pub returns-in-None-clause-value : goal.returns-in-None-clause-value
returns-in-None-clause-value c = inl (plain_union c.args.btf.now c.args.type_id c.in_ok-t.field-0.now c.in-Union.t c.in_ok-t.ensures c.in-Union.is c.in-None.ensures)

pub returns-in-None-clause-no_memory : goal.returns-in-None-clause-no_memory
returns-in-None-clause-no_memory c = λ _. (UnexpectedBtfType c.args.type_id, refl, inl (plain_union c.args.btf.now c.args.type_id c.in_ok-t.field-0.now c.in-Union.t c.in_ok-t.ensures c.in-Union.is c.in-None.ensures))

pub returns-in_default : goal.returns-in_default
returns-in_default c =
    let other : HasVariants c.args.btf.now c.args.type_id (Err (UnexpectedBtfType c.args.type_id)) = other_has c.args.btf.now c.args.type_id c.in_ok-t.field-0.now c.in_ok-t.ensures c.in_default.not-Enum c.in_default.not-Enum64 c.in_default.not-Union in
    record { value = inl other; no_memory = λ _. (UnexpectedBtfType c.args.type_id, refl, inl other) }
