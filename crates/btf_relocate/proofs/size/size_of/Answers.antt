use Rattle.std.proofs.Common.{◌∙◌, ◌+◌, ◌-◌, ℕ, sym, ap, arith}
use Rattle.btf_model.specs.Walk.{Bytes, Times, NoExtent, Elements, walk_limit}
use Rattle.btf_view.specs.TypeRef.{record_in}
use Rattle.btf_relocate_model.specs.Types.{walk}
use Rattle.btf_relocate.proofs.Pointers.{none_there}
use Rattle.btf_relocate.proofs.Sizes.{find, missing, no_extent, bytes_end, too_many, goes_on, too_long, found_extent}
use Rattle.btf_relocate.proofs.size.size_of.Goals as goal

pub returns-in_default : goal.returns-in_default
returns-in_default c =
    let at : Elements = record { count = c.loop.count; type = c.loop.id } in
    missing c.args.pointer_size c.args.table.now c.args.type_id c.loop.counter at c.loop-test.true c.loop.invariant (none_there c.args.table.now.records c.loop.id (sym c.in_default.ensures))

pub returns-in-Bytes : goal.returns-in-Bytes
returns-in-Bytes c =
    let at : Elements = record { count = c.loop.count; type = c.loop.id } in
    c.ok_or.ensures.value
    ∙ bytes_end c.args.pointer_size c.args.table.now c.args.type_id c.loop.counter at c.in-Bytes.bytes c.checked_mul.result c.loop-test.true c.loop.invariant
    (found_extent c.args.pointer_size c.args.table.now at (record_in c.in-Some.btf_type) (Bytes c.in-Bytes.bytes) (sym c.in-Some.ensures) c.in-Bytes.ensures) c.checked_mul.ensures

pub returns-in-Nothing : goal.returns-in-Nothing
returns-in-Nothing c =
    let at : Elements = record { count = c.loop.count; type = c.loop.id } in
    no_extent c.args.pointer_size c.args.table.now c.args.type_id c.loop.counter at c.loop-test.true c.loop.invariant
    (found_extent c.args.pointer_size c.args.table.now at (record_in c.in-Some.btf_type) NoExtent (sym c.in-Some.ensures) c.in-Nothing.ensures)

pub returns : goal.returns
returns c =
    let at : Elements = record { count = c.loop.count; type = c.loop.id } in
    too_long c.args.pointer_size c.args.table.now c.args.type_id c.loop.counter at (omega arith) c.loop.invariant

pub returns-in_default-checked_mul : goal.returns-in_default-checked_mul
returns-in_default-checked_mul c =
    let at : Elements = record { count = c.loop.count; type = c.loop.id } in
    too_many c.args.pointer_size c.args.table.now c.args.type_id c.loop.counter at c.in-Times.times c.in-Times.next c.loop-test.true c.loop.invariant
    (found_extent c.args.pointer_size c.args.table.now at (record_in c.in-Some.btf_type) (Times c.in-Times.times c.in-Times.next) (sym c.in-Some.ensures) c.in-Times.ensures) c.in_default-checked_mul.ensures

pub loop-preserved : goal.loop-preserved
loop-preserved c =
    let at : Elements = record { count = c.loop.count; type = c.loop.id } in
    let t = c.args.table.now in
    ap (λ (n : ℕ). walk (find c.args.pointer_size t) (walk_limit - (c.loop.counter + 1)) (record { count = n; type = c.in-Times.next })) c.in-Some-checked_mul.ensures.1
    ∙ goes_on c.args.pointer_size t c.args.type_id c.loop.counter at c.in-Times.times c.in-Times.next c.loop-test.true c.loop.invariant
    (found_extent c.args.pointer_size t at (record_in c.in-Some.btf_type) (Times c.in-Times.times c.in-Times.next) (sym c.in-Some.ensures) c.in-Times.ensures) c.in-Some-checked_mul.ensures.0
