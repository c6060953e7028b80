use Rattle.std.proofs.Common.{◌≡◌, ◌∙◌, ◌+◌, ℕ, List, Some, None, length, refl, sym, ap, arith, drop}
use Rattle.std.specs.Prelude.{slice_get}
use Rattle.std.proofs.lemmas.Option.{none-some, same_Some}
use Rattle.btf_model.specs.Record.{Record, kind_of, tail_words, vlen}
use Rattle.btf_plain.specs.Kind.{kind}
use Rattle.btf_view.specs.Words.{record_before}
use Rattle.btf_view.proofs.Tails.{tail_there}
use Rattle.btf_view.proofs.There.{words_there}
use Rattle.btf_view.proofs.record_words.RecordWords.at.Goals as goal

pub returns-in_default : goal.returns-in_default
returns-in_default c r is =
    let types = c.args.types.now in
    let head = c.head_at-head.ensures r is in
    let none : kind_of r.info ≡ None = ap kind_of (sym head.info) ∙ sym c.in_default.ensures in
    let tail = tail_there c.args.endianness types (drop (c.args.place + 12) types) c.args.place r refl is in
    absurd (none-some tail.kind (sym none ∙ tail.has))

pub returns-then-tail-words_after : goal.returns-then-tail-words_after
returns-then-tail-words_after c r is =
    let types = c.args.types.now in
    let k = kind c.in-Some.kind in
    let head = c.head_at-head.ensures r is in
    let has : kind_of c.head_at-head.result.info ≡ Some k = sym c.in-Some.ensures in
    let tail = c.tail_at-tail.ensures.tail r is in
    let own : kind_of r.info ≡ Some k = ap kind_of (sym head.info) ∙ has in
    let same : tail.kind ≡ k = same_Some tail.kind k (sym tail.has ∙ own) in
    let number : length r.tail ≡ tail_words k (vlen c.head_at-head.result.info) = tail.len ∙ (λ i. tail_words (same i) (vlen (sym head.info i))) in
    let count : c.words_after.result ≡ tail_words k (vlen c.head_at-head.result.info) = c.words_after.ensures.value ∙ ap (tail_words k) c.vlen.ensures.value in
    absurd (omega (arith, tail.long, number, count, c.if-tail-words_after.true))

pub returns : goal.returns
returns c r is =
    let types = c.args.types.now in
    let head = c.head_at-head.result in
    let k = kind c.in-Some.kind in
    let there = words_there c.args.endianness types c.args.place r head k is (c.head_at-head.ensures r is) (sym c.in-Some.ensures) in
    ap (λ (x : Record). Some x) (ap (record_before k c.args.endianness head) c.tail_at-tail.ensures.bytes ∙ sym there)
