use Rattle.std.proofs.Common.{ℕ, ◌≡◌, length, ap, sym, ◌∙◌, arith}
use Rattle.btf_model.specs.Record.{vlen, tail_words}
use Rattle.btf_model.specs.Word.{words_at}
use Rattle.btf_model.proofs.Words.{length-words_at}
use Rattle.btf_plain.specs.Kind as kinds
use Rattle.btf_plain.specs.Head.{record_after}
use Rattle.btf_plain.specs.Third.{third_kept}
use Rattle.btf_plain.proofs.record.Record.read.Goals as goal

pub of-requires-clause-tail : goal.of-requires-clause-tail
of-requires-clause-tail g c =
    let k = kinds.kind g.K.Kind.KIND in
    let n = g.K.Tail.Words.number c.vlen.result in
    ap length c.in_ok-tail.ensures.1 ∙ g.met.K.Tail.Words.length_kept (words_at c.args.endianness n c.args.rest.now) ∙ length-words_at c.args.endianness n c.args.rest.now
    ∙ sym (g.met.K.Kind.tail_number c.vlen.result) ∙ ap (tail_words k) c.vlen.ensures.value

pub returns : goal.returns
returns g c =
    let k = kinds.kind g.K.Kind.KIND in
    let n = g.K.Tail.Words.number c.vlen.result in
    let m = tail_words k (vlen c.args.head.info) in
    let same : n ≡ m = sym (g.met.K.Kind.tail_number c.vlen.result) ∙ ap (tail_words k) c.vlen.ensures.value in
    let third : c.kept_third-third.result ≡ third_kept k c.args.head.third =
    c.kept_third-third.ensures ∙ ap (λ x. third_kept (kinds.kind x) c.args.head.third) c.KIND.ensures in
    let words = c.in_ok-tail.ensures.1 ∙ ap (λ (j : ℕ). g.K.Tail.Words.kept (words_at c.args.endianness j c.args.rest.now)) same in (
      omega (arith, c.in_ok-tail.ensures.0, same),
      c.of.ensures
          ∙ (λ i. record { name = c.args.head.name; info = c.args.head.info; third = third i; tail = words i })
          ∙ sym (g.met.K.Kind.is_kept (record_after c.args.endianness c.args.head m c.args.rest.now)),
    )
