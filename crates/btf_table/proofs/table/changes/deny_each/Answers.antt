use Rattle.std.proofs.Common.{ℕ, length, get_or, refl, arith}
use Rattle.btf_table.proofs.Denials.{one_denied, id_at}
use Rattle.btf_table.proofs.table.changes.deny_each.Goals as goal

pub loop-at-init : goal.loop-at-init
loop-at-init c = record { records = refl; fallbacks = refl; len = refl; kinds = λ have. have }

pub loop-at-preserved : goal.loop-at-preserved
loop-at-preserved c =
    let at : ℕ = c.loop-at.at in
    let ids = c.args.ids.now in
    let inside = id_at (length c.args.types.now) ids at 0 c.requires c.loop-at-test.true in
    one_denied ids at (get_or ids at 0) c.args.types.now c.loop-at.types c.index-types-id.result c.deny.new.btf_type c.loop-at-test.true refl (omega (arith, inside, c.loop-at.auto.types)) c.loop-at.invariant
    c.deny.ensures.words c.deny.ensures.fallback c.deny.ensures.len c.deny.ensures.kind
