use Rattle.std.proofs.Common.{◌≢◌, ◌+◌, ◌∙◌, ℕ, length, ap, arith, sym}
use Rattle.std.specs.Prelude.{slice_range, ◌==◌}
use Rattle.std.proofs.lemmas.Bool.{true≢false}
use Rattle.btf_ext.specs.ExtHeader.{range}
use Rattle.btf_ext.proofs.ExtHeaders.{full_range}
use Rattle.btf_ext.proofs.header.Range.find.Goals as goal

pub returns : goal.returns
returns c =
    let some : length c.in_ok-bytes.bytes.now ≢ 0 = λ zero. true≢false (ap (λ n. n == 0) (sym zero) ∙ sym c.if-is_empty.ensures) in
    full_range c.args.endianness c.args.data.now (range c.args.self.now) c.read_u32-size.result c.in_ok-bytes.bytes.now c.in_ok-size.size.now c.in_ok-size.sections.now
    (omega (arith, c.in_ok-bytes.ensures.lookup.0.1, c.start-start.ensures))
    (c.in_ok-bytes.ensures.lookup.0.2 ∙ ap (λ (s : ℕ). slice_range c.args.data.now s (s + c.args.self.now.len)) c.start-start.ensures)
    some c.in_ok-size.ensures.cases.2 c.in_ok-size.ensures.cases.0 c.read_u32-size.ensures c.in_ok-size.ensures.cases.1 c.if-size-self.false
