use Rattle.std.proofs.Common.{◌≡◌, ◌∙◌, ◌+◌, ◌-◌, [], inl, inr, sym, length, drop, arith}
use Rattle.std.proofs.lemmas.List.{length-drop, take_all, nil_from_length}
use Rattle.btf_view.proofs.Tails.{tail_there}
use Rattle.btf_view.proofs.record.tail_at.Goals as goal

pub returns-in-Some-clause-bytes : goal.returns-in-Some-clause-bytes
returns-in-Some-clause-bytes c =
    let types = c.args.types.now in
    let at = c.args.place + 12 in
    c.in-Some.ensures.lookup.0.2 ∙ take_all (length types - at) (drop at types) (omega (arith, length-drop at types))

pub returns-in-Some-clause-tail : goal.returns-in-Some-clause-tail
returns-in-Some-clause-tail c r is =
    let types = c.args.types.now in
    let at = c.args.place + 12 in
    tail_there c.args.endianness types c.in-Some.tail.now c.args.place r (c.in-Some.ensures.lookup.0.2 ∙ take_all (length types - at) (drop at types) (omega (arith, length-drop at types))) is

pub returns-in-None-clause-bytes : goal.returns-in-None-clause-bytes
returns-in-None-clause-bytes c =
    let types = c.args.types.now in
    let at = c.args.place + 12 in
    sym (nil_from_length (drop at types) (elim c.in-None.ensures.lookup.0 [ inl x ↦ omega (arith, x, length-drop at types) | inr x ↦ omega (arith, x, length-drop at types) ]))

pub returns-in-None-clause-tail : goal.returns-in-None-clause-tail
returns-in-None-clause-tail c r is =
    let types = c.args.types.now in
    let at = c.args.place + 12 in
    tail_there c.args.endianness types _ c.args.place r (sym (nil_from_length (drop at types) (elim c.in-None.ensures.lookup.0 [ inl x ↦ omega (arith, x, length-drop at types) | inr x ↦ omega (arith, x, length-drop at types) ]))) is
