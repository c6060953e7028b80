use Rattle.std.proofs.Common.{◌∙◌, ℕ, get_or, arith, subst, sym}
use Rattle.std.proofs.lemmas.Bool.{true≢false}
use Rattle.std.proofs.lemmas.Option.{slice_get-get_or}
use Rattle.btf_model.specs.Table.{Table}
use Rattle.btf_plain.specs.Kind.{kind}
use Rattle.vbtf.specs.IndexFinding.{IsNamedAt}
use Rattle.vbtf.proofs.IndexFinding.{first_is, none_is, one_more}
use Rattle.vbtf.proofs.indexed.place_of.Goals as goal

pub returns-then-is_named_at : goal.returns-then-is_named_at
returns-then-is_named_at c =
    let ids = c.candidates-id-items.result.now in
    let i = c.loop-id.id-index in
    let id : ℕ = get_or ids i 0 in
    first_is c.args.table.now c.args.name.now c.args.kind ids c.requires.named c.candidates-id-items.ensures i id (slice_get-get_or ids i 0 c.loop-id-test.true)
    (c.is_named_at.ensures.0 c.if-is_named_at.true) c.loop-id.invariant

pub loop-id-preserved : goal.loop-id-preserved
loop-id-preserved c =
    let ids = c.candidates-id-items.result.now in
    let i = c.loop-id.id-index in
    let id : ℕ = get_or ids i 0 in
    one_more c.args.table.now (kind c.args.kind) c.args.name.now ids i id (slice_get-get_or ids i 0 c.loop-id-test.true)
    (λ h. true≢false (sym (c.is_named_at.ensures.1 h) ∙ c.if-is_named_at.false)) c.loop-id.invariant

pub returns : goal.returns
returns c =
    let ids = c.candidates-id-items.result.now in
    none_is c.args.table.now c.args.name.now c.args.kind ids c.requires.named c.candidates-id-items.ensures (λ m x lt. c.loop-id.invariant m x (omega (arith, lt, c.loop-id-test.false)))
