use Rattle.std.proofs.Common.{ℕ, ◌+◌, ◌*◌, List, ◌∷◌, ◌++◌, take, drop, ap, sym, ◌∙◌, arith, Ok}
use Rattle.btf_model.specs.Record.{Record, vlen}
use Rattle.btf_model.specs.Refusal.{Refusal}
use Rattle.btf_rewrite_model.specs.Ksyms.{named_parameters}
use Rattle.btf_model.proofs.Comparisons.{same_ok}
use Rattle.btf_table.proofs.NamedParams.{named_next, named_all}
use Rattle.btf_table.proofs.sanitize.func_proto.with_names.Goals as goal

pub loop-index-init : goal.loop-index-init
loop-index-init c =
    same_ok {E = Refusal} c.in_ok-with_names.with_names c.args.proto.now c.in_ok-with_names.ensures ∙ ap (λ (tail : List ℕ). record c.args.proto.now { tail = tail }) c.params-param-items.ensures.words

pub set_param_name-requires : goal.set_param_name-requires
set_param_name-requires c = omega (arith, c.loop-index-test.true, c.params-param-items.ensures.count, ap (λ (r : Record). vlen r.info) c.loop-index.invariant)

pub loop-index-preserved : goal.loop-index-preserved
loop-index-preserved c =
    let i : ℕ = c.loop-index.index in
    let new : ℕ = c.param_name.result in
    c.set_param_name.ensures ∙ ap (λ (r : Record). record r { tail = take (2 * i) r.tail ++ new ∷ drop (2 * i + 1) r.tail }) c.loop-index.invariant
    ∙ ap (λ (tail : List ℕ). record c.args.proto.now { tail = tail }) (named_next c.args.name_offset c.params-param-items.result.now i new c.loop-index-test.true c.param_name.ensures)

pub returns : goal.returns
returns c =
    ap (λ (r : Record). Ok r) (
    c.loop-index.invariant
    ∙ ap (λ (tail : List ℕ). record c.args.proto.now { tail = tail }) (named_all c.args.name_offset c.loop-index.index c.params-param-items.result.now c.loop-index-test.false ∙ ap (named_parameters c.args.name_offset) (sym c.params-param-items.ensures.words))
    )
