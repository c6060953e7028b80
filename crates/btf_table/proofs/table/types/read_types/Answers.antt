use Rattle.std.proofs.Common.{◌≡◌, ℕ, true, nat_eq, List, [], length, ap, refl}
use Rattle.std.specs.Prelude.{◌≢◌}
use Rattle.btf_records.specs.BtfType.{record_of}
use Rattle.btf_table.proofs.Sections.{record_within, cut_begins, cut_goes_on, cut_ends}
use Rattle.btf_table.proofs.table.types.read_types.Goals as goal

pub loop-rest-init : goal.loop-rest-init
loop-rest-init c = cut_begins c.args.endianness c.args.data.now c.push.new.self.items _ (rw c.in_ok-types.ensures.items at c.in_ok-push.ensures.items) refl refl

pub returns-in_err-size : goal.returns-in_err-size
returns-in_err-size c =
    let not_done : c.loop-rest.rest.now ≢ [] = λ e. (let done : nat_eq (length c.loop-rest.rest.now) 0 ≡ true = ap (λ (x : List ℕ). nat_eq (length x) 0) e in absurd cc) in
    cut_ends c.args.endianness c.args.data.now c.loop-rest.types.items c.loop-rest.rest.now c.in_err-size.field-0.0 c.from_residual-in_err-size.result c.loop-rest.invariant c.in_err-size.ensures.1 not_done c.from_residual-in_err-size.ensures.1

pub loop-rest-preserved : goal.loop-rest-preserved
loop-rest-preserved c =
    let put = c.in_ok-size.ensures in
    cut_goes_on c.args.endianness c.args.data.now c.loop-rest.types.items c.read_onto.new.types.items c.loop-rest.rest.now _ put.0 c.in_ok-size.size c.loop-rest.invariant put.2 put.3 put.4 c.split_at.ensures.back (rw c.make_room.ensures at put.1)

pub split_at-requires : goal.split_at-requires
split_at-requires c =
    let put = c.in_ok-size.ensures in
    record_within c.args.endianness c.loop-rest.rest.now (record_of put.0) c.in_ok-size.size put.2 put.4
