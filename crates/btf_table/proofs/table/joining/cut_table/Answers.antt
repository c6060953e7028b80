use Rattle.std.proofs.Common.{◌≡◌, ℕ, ◌-◌, List, length, take, drop, ap, ◌∙◌, arith}
use Rattle.std.proofs.lemmas.List.{take_all, length-drop}
use Rattle.btf_records.specs.declared.btf_type.BtfType.{BtfType}
use Rattle.btf_table.proofs.Joining.{spelled, cut_len, consistent_cut, first_part, view_cut}
use Rattle.btf_table.proofs.table.joining.cut_table.Goals as goal

-- the removed types
removed : (xs ys : List BtfType) (n : ℕ) → xs ≡ ys → take (length xs - n) (drop n xs) ≡ drop n ys
removed xs ys n is = take_all (length xs - n) (drop n xs) (omega (arith, length-drop n xs)) ∙ ap (drop n) is

pub types_len-removed-requires : goal.types_len-removed-requires
types_len-removed-requires c =
    let b = c.table.inside in
    omega (arith, c.table.invariant.limit, cut_len b c.args.types c.table.invariant c.requires.first, ap (spelled b.endianness) (removed c.deref.result.now b.types.items c.args.types c.deref.ensures.value))

pub overflow_cast-table : goal.overflow_cast-table
overflow_cast-table c =
    let b = c.table.inside in
    omega (arith, c.table.invariant.limit, cut_len b c.args.types c.table.invariant c.requires.first, ap (spelled b.endianness) (removed c.deref.result.now b.types.items c.args.types c.deref.ensures.value), c.types_len-removed.ensures)

pub overflow_sub-table : goal.overflow_sub-table
overflow_sub-table c =
    let b = c.table.inside in
    omega (arith, cut_len b c.args.types c.table.invariant c.requires.first, ap (spelled b.endianness) (removed c.deref.result.now b.types.items c.args.types c.deref.ensures.value), c.types_len-removed.ensures)

pub invariant_of-table : goal.invariant_of-table
invariant_of-table c =
    let b = c.table.inside in
    consistent_cut b c.args.types c.args.strings c.types_len-removed.result c.truncate-2.new.self c.truncate.new.self c.table.invariant c.requires.first
    (c.types_len-removed.ensures ∙ ap (spelled b.endianness) (removed c.deref.result.now b.types.items c.args.types c.deref.ensures.value)) c.truncate-2.ensures.items c.truncate.ensures.items

pub returns : goal.returns
returns c =
    let b = c.table.inside in
    view_cut b c.args.types c.args.strings (b.type_len - c.types_len-removed.result) c.truncate-2.new.self c.truncate.new.self c.truncate-2.ensures.items c.truncate.ensures.items ∙ ap (first_part c.args.types c.args.strings) c.table.view_is
