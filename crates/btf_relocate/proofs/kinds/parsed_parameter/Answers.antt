use Rattle.std.proofs.Common.{◌∙◌, ℕ, List, length, map, refl, sym, ap, arith}
use Rattle.std.specs.Prelude.{slice_get}
use Rattle.std.specs.Option.{option_map}
use Rattle.std.proofs.lemmas.Option.{slice_get-map, slice_get_past, slice_get_read}
use Rattle.std.proofs.lemmas.List.{length-map}
use Rattle.btf_plain.specs.declared.items.BtfParam.{BtfParam}
use Rattle.btf_relocate.proofs.Members.{proto_parameters}
use Rattle.btf_relocate.proofs.kinds.parsed_parameter.Goals as goal

pub returns-in-Some-clause-parameter : goal.returns-in-Some-clause-parameter
returns-in-Some-clause-parameter c =
    let ps = c.params.result.now in
    let i = c.args.index in
    let found = c.in-Some.ensures.lookup in
    let here = slice_get_read ps (length ps) i c.in-Some.parameter.now refl found.3.0 found.1 in
    sym (ap (option_map (λ (p : BtfParam). p.btf_type)) here) ∙ sym (slice_get-map (λ (p : BtfParam). p.btf_type) ps i)
    ∙ ap (λ (ts : List ℕ). slice_get ts i) (proto_parameters c.args.btf_type.now c.in-FuncProto.t ps c.in-FuncProto.is c.kind.ensures.info c.params.ensures.words)

pub returns-in-None-clause-parameter : goal.returns-in-None-clause-parameter
returns-in-None-clause-parameter c =
    let ps = c.params.result.now in
    let of = λ (p : BtfParam). p.btf_type in
    sym (slice_get_past (map of ps) c.args.index (omega (arith, length-map ps of, c.in-None.ensures.lookup.3)))
    ∙ ap (λ (ts : List ℕ). slice_get ts c.args.index) (proto_parameters c.args.btf_type.now c.in-FuncProto.t ps c.in-FuncProto.is c.kind.ensures.info c.params.ensures.words)
