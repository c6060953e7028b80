use Rattle.std.proofs.Common.{◌∙◌, sym}
use Rattle.btf_view.specs.TypeRef.{record_in}
use Rattle.btf_relocate_model.specs.Comparison.{enumerators_of, named_enumerators}
use Rattle.btf_relocate.specs.Enumerators.{enumerator_variant}
use Rattle.btf_relocate.proofs.Definitions.{unreadable, one_missing, one_among, has_it, names_known}
use Rattle.btf_relocate.proofs.Errors.{given_by}
use Rattle.btf_relocate.proofs.types.names.enumerators_match.Goals as goal

pub returns-in_err-name : goal.returns-in_err-name
returns-in_err-name c =
    let vs = enumerators_of (record_in c.args.one.now) in
    let found = c.in_ok-names.ensures in
    let e = c.in_err-name.field-0.0 in
    given_by c.from_residual-in_err-name.result e (named_enumerators c.args.local.now c.args.target.now (record_in c.args.one.now) (record_in c.args.other.now)) c.from_residual-in_err-name.ensures.1
    (names_known c.args.local.now c.args.target.now (record_in c.args.one.now) (record_in c.args.other.now) c.count-2.result c.count.result c.count.ensures.value c.count-2.ensures.value c.if-count.false found.0 found.1
    ∙ unreadable c.args.local.now found.0 vs c.loop-index.index (c.loop-index.invariant found.0 found.2) (enumerator_variant c.in-Some.enumerator) (sym c.in-Some.ensures) e c.in_err-name.ensures)

pub returns-then-not-contains : goal.returns-then-not-contains
returns-then-not-contains c =
    let vs = enumerators_of (record_in c.args.one.now) in
    let found = c.in_ok-names.ensures in
    names_known c.args.local.now c.args.target.now (record_in c.args.one.now) (record_in c.args.other.now) c.count-2.result c.count.result c.count.ensures.value c.count-2.ensures.value c.if-count.false found.0 found.1
    ∙ one_missing c.args.local.now found.0 vs c.loop-index.index (c.loop-index.invariant found.0 found.2) (enumerator_variant c.in-Some.enumerator) (sym c.in-Some.ensures) c.in_ok-name.name.now c.in_ok-name.ensures
    (has_it c.in_ok-names.names found.0 found.2 c.essential_name.result c.in_ok-name.name.now c.contains.result c.contains.ensures c.essential_name.ensures ∙ c.if-not-contains.true)

pub loop-index-preserved : goal.loop-index-preserved
loop-index-preserved c = λ all has.
    one_among c.args.local.now all (enumerators_of (record_in c.args.one.now)) c.loop-index.index (c.loop-index.invariant all has) (enumerator_variant c.in-Some.enumerator) (sym c.in-Some.ensures) c.in_ok-name.name.now c.in_ok-name.ensures
    (has_it c.in_ok-names.names all has c.essential_name.result c.in_ok-name.name.now c.contains.result c.contains.ensures c.essential_name.ensures ∙ c.if-not-contains.false)
