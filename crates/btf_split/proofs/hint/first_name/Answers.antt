use Rattle.std.proofs.Common.{◌≡◌, ℕ, ◌-◌, ◌*◌, List, length, drop, Some, ap, sym, ◌∙◌, arith}
use Rattle.std.specs.Prelude.{slice_get}
use Rattle.std.proofs.lemmas.List.{take_all, length-drop}
use Rattle.btf_model.specs.Record.{Kind, kind_of, kinds, tail_words}
use Rattle.btf_plain.specs.Kind.{kind}
use Rattle.btf_split.proofs.Hints.{other_kind, cut_tail, front_is_record}
use Rattle.btf_split.proofs.hint.first_name.Goals as goal

pub returns-in_default-try_from : goal.returns-in_default-try_from
returns-in_default-try_from c = other_kind c.args.endianness c.args.bytes.now c.in-Ok.head c.in-Ok.tail.now c.kind.result c.in-Ok.ensures c.kind.ensures c.in_default-try_from.ensures.0

pub returns-then-tail-len : goal.returns-then-tail-len
returns-then-tail-len c =
    let k : Kind = kind c.in-Ok-try_from.kind in
    let known : kind_of c.in-Ok.head.info ≡ Some k = ap (λ (n : ℕ). slice_get kinds n) (sym c.kind.ensures) ∙ c.in-Ok-try_from.ensures in
    cut_tail c.args.endianness c.args.bytes.now c.in-Ok.head c.in-Ok.tail.now k c.tail_words-len.result c.in-Ok.ensures known
    (c.tail_words-len.ensures ∙ ap (tail_words k) c.vlen.ensures.value) c.if-tail-len.true

pub returns : goal.returns
returns c =
    let k : Kind = kind c.in-Ok-try_from.kind in
    let known : kind_of c.in-Ok.head.info ≡ Some k = ap (λ (n : ℕ). slice_get kinds n) (sym c.kind.ensures) ∙ c.in-Ok-try_from.ensures in
    let tail : List ℕ = c.in-Ok.tail.now in
    let len : ℕ = 4 * c.tail_words-len.result in
    front_is_record c.args.endianness c.args.bytes.now c.in-Ok.head tail _ k c.tail_words-len.result c.kept_name.result
    (λ i. omega (arith, c.type_inv.bytes i)) c.in-Ok.ensures known (c.tail_words-len.ensures ∙ ap (tail_words k) c.vlen.ensures.value) c.if-tail-len.false
    (take_all (length tail - len) (drop len tail) (omega (arith, length-drop len tail))) c.kept_name.ensures
