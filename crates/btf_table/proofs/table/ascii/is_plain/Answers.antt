use Rattle.std.proofs.Common.{◌≡◌, ◌+◌, arith}
use Rattle.std.proofs.lemmas.Bool.{eqb-true}
use Rattle.btf_table.proofs.Ascii.{ascii_on}
use Rattle.btf_table.proofs.table.ascii.is_plain.Goals as goal

pub returns-then-zero-eq-LANES : goal.returns-then-zero-eq-LANES
returns-then-zero-eq-LANES c plain before =
    let zero : c.runs_at-zero.result.0 ≡ 16 = c.if-zero-eq-LANES.true in
    let other : c.runs_at-zero.result.1 ≡ 16 = eqb-true c.runs_at-zero.result.1 16 plain in
    record {
      within = c.requires;
      each = ascii_on c.args.bytes.now c.args.at c.runs_at-zero.result.0 c.runs_at-zero.result.1 c.requires c.runs_at-zero.ensures.zero c.runs_at-zero.ensures.other before.each (c.args.at + 16) (omega (arith, zero)) (omega (arith, other));
    }
