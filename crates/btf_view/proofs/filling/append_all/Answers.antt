use Rattle.std.proofs.Common.{◌≡◌, ◌∙◌, ◌<◌, ℕ, Some, length, min, get_or, inl, inr, sym, ap, subst, arith}
use Rattle.std.specs.Prelude.{map}
use Rattle.std.specs.Option.{option_map}
use Rattle.std.proofs.Math.Nat.{min-le_left, min-le_right}
use Rattle.std.proofs.lemmas.Option.{slice_get-get_or, slice_get-map}
use Rattle.btf_model.specs.Record.{Record}
use Rattle.btf_view.specs.Items.{members_or_none}
use Rattle.btf_view.proofs.Appended.{AreAppended, members_listed_to, one_appended}
use Rattle.btf_view.proofs.Fills.{Written, one_written}
use Rattle.btf_view.proofs.Places.{placed, as_many_places}
use Rattle.btf_view.proofs.filling.append_all.Goals as goal

pub loop-index-preserved : goal.loop-index-preserved
loop-index-preserved c = (
  omega (arith, c.in-Some.ensures.few.0, c.append_members.auto.out),
  λ rs h.
      let i = c.loop-index.index in
      let places = c.args.places.now in
      let counts = c.args.counts.now in
      let number : Record → ℕ = λ r. length (members_or_none r) in
      let low : i < length places = omega (arith, c.loop-index-test.true, c.min-records.ensures, min-le_right (length counts) (length places)) in
      let room : i < length c.loop-index.counts = omega (arith, c.loop-index-test.true, c.loop-index.auto.counts, c.min-records.ensures, min-le_left (length counts) (length places)) in
      let found = placed c.args.endianness c.args.types.now places rs i (get_or places i 0) h (slice_get-get_or places i 0 low) in
      let more = c.in-Some.ensures.items found.0 found.2 in
      let there = c.loop-index.invariant.1 rs h in (
        one_written (map number rs) counts c.loop-index.counts i c.in-Some.count there.0 room
            (slice_get-map number rs i ∙ ap (option_map number) found.1 ∙ ap (λ (n : ℕ). Some n) (sym more.0)),
        one_appended rs c.args.out.now c.loop-index.out c.append_members.new.out i c.loop-index.written c.in-Some.count found.0 there.1 found.1 more,
      ),
)

pub returns-in_default : goal.returns-in_default
returns-in_default c rs h =
    let i = c.loop-index.index in
    let places = c.args.places.now in
    let counts = c.args.counts.now in
    let low : i < length places = omega (arith, c.loop-index-test.true, c.min-records.ensures, min-le_right (length counts) (length places)) in
    let found = placed c.args.endianness c.args.types.now places rs i (get_or places i 0) h (slice_get-get_or places i 0 low) in
    let full = c.in_default.ensures.items found.0 found.2 in
    let there = c.loop-index.invariant.1 rs h in
    members_listed_to rs counts c.loop-index.counts c.args.out.now c.append_members.new.out i c.loop-index.written
    (omega (arith, low, as_many_places c.args.endianness c.args.types.now places rs h)) there.0
    (subst (λ out. AreAppended rs c.args.out.now out i c.loop-index.written) (sym full.1) there.1)
    (inr (found.0, found.1, omega (arith, full.0, c.loop-index.auto.out)))

pub returns : goal.returns
returns c rs h =
    let k = c.min-records.result in
    let counts = c.args.counts.now in
    let places = c.args.places.now in
    let many : length places ≡ length rs = as_many_places c.args.endianness c.args.types.now places rs h in
    let end : c.loop-index.index ≡ k = omega (arith, c.loop-index-test.false, c.loop-index.auto.index-end) in
    let there = c.loop-index.invariant.1 rs h in
    members_listed_to rs counts c.loop-index.counts c.args.out.now c.loop-index.out k c.loop-index.written
    (omega (arith, c.min-records.ensures, min-le_right (length counts) (length places), many))
    (subst (Written (map (λ r. length (members_or_none r)) rs) counts c.loop-index.counts) end there.0)
    (subst (λ n. AreAppended rs c.args.out.now c.loop-index.out n c.loop-index.written) end there.1)
    (inl (c.min-records.ensures ∙ ap (min (length counts)) many))
