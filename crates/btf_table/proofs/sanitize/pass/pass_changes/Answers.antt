use Rattle.std.proofs.Common.{◌≡◌, ℕ, suc, ◌+◌, ◌<◌, get_or, List, [], length, refl, sym, ap, subst, arith}
use Rattle.std.specs.Prelude.{slice_get, Some}
use Rattle.std.proofs.lemmas.List.{length-map, get_or_default}
use Rattle.std.proofs.lemmas.Option.{IfSome_then}
use Rattle.btf_model.specs.Table.{Table}
use Rattle.btf_rewrite_model.specs.Pass.{Pass}
use Rattle.btf_rewrite_model.specs.Passing.{IsPassAt}
use Rattle.btf_records.specs.BtfType.{record_of, fallback_of}
use Rattle.btf_records.specs.declared.btf_type.BtfType.{BtfType}
use Rattle.btf_table.specs.Features.{Called}
use Rattle.btf_table.specs.Layout.{layout_of}
use Rattle.btf_table.specs.Btf.{IsType}
use Rattle.btf_table.specs.PassStep.{Given, pass_on, given_under, IsHere, Comes, IsMade, Passes, BeginsAsked}
use Rattle.btf_table.specs.declared.sanitize.outcome.Outcome.{Outcome}
use Rattle.btf_records.specs.declared.btf_type.BtfType.TheVariants.{Unknown}
use Rattle.btf_plain.proofs.Refused.{handed_on}
use Rattle.btf_table.proofs.PassAsking.{begins_at, begins_all, begins_none, further_answers}
use Rattle.btf_table.proofs.PassStates.{here_of_made, steps_on, refused_at, passes_whole, made_at_start, fallback_there}
use Rattle.btf_table.specs.contracts.sanitize.pass.pass_changes.F-FnMut.{words}
use Rattle.btf_table.proofs.sanitize.pass.pass_changes.Given.{Over}
use Rattle.btf_table.proofs.sanitize.pass.pass_changes.Goals as goal
use Rattle.btf_table.proofs.sanitize.pass.pass_changes.Goals.{After-rewrite_type}

pub returns-in_err-made-clause-asks : goal.returns-in_err-made-clause-asks
returns-in_err-made-clause-asks g c = begins_none (pass_on c.args.btf.now (given_under c.args.request.now.policy (layout_of c.args.request.now.sections.now c.args.request.now.symbols.now)) c.args.resolver.now.answers) c.requires.unasked

pub loop-id-init : goal.loop-id-init
loop-id-init g c =
    let t : Table = c.args.btf.now in
    let ts : List BtfType = c.as_slice-count.result.now in
    let p : Pass = pass_on t (given_under c.args.request.now.policy (layout_of c.args.request.now.sections.now c.args.request.now.symbols.now)) c.args.resolver.now.answers in
    let none : c.args.resolver.now.answers ≡ [] = c.requires.unasked in
    let first = c.as_slice-count.ensures.first in
    let some : 0 < length ts = omega (arith, ap length c.as_slice-count.ensures.records, ap length first.1, length-map ts record_of) in
    let b : BtfType = get_or ts 0 Unknown in
    let there : slice_get t.fallbacks 0 ≡ Some (fallback_of b) = fallback_there t ts c.as_slice-count.ensures.fallbacks 0 b some (get_or_default ts 0 Unknown b some) in
    let start = made_at_start p c.in_ok-made.made first.0 (fallback_of b) first.1 there none
    (record {
      types = c.in_ok-made.ensures.types;
      strings = c.in_ok-made.ensures.strings;
      new_types = c.in_ok-made.ensures.new_types;
      type_len = c.in_ok-made.ensures.type_len;
      room = c.in_ok-made.ensures.room;
      names = c.in_ok-made.ensures.names;
      member_type = c.in_ok-made.ensures.member_type;
      filler = c.in_ok-made.ensures.filler;
    }) in
    (c.requires.callable, subst (λ answers. Called (words g.row.F g.row.G g.row.H g.row.G-Hasher g.row.H-Hasher g.F.FnMut).step c.args.resolver.now.predicate answers c.args.resolver.now.predicate) (sym none) refl, start.0, subst (IsMade p 1 c.in_ok-made.made) (sym c.new-denied.ensures.items) start.1, c.new-names.ensures p.layout)

-- ---- an id, after its rule has returned

module _ (g : Over) (c : After-rewrite_type g) where
  abbrev given : Given
  given = given_under c.args.request.now.policy (layout_of c.args.request.now.sections.now c.args.request.now.symbols.now)

  abbrev before : Pass
  before = pass_on c.args.btf.now given c.loop-id.resolver.answers

  abbrev after : Pass
  after = pass_on c.args.btf.now given c.rewrite_type.new.resolver.answers

  -- the table has the type at this id
  type_is : IsType c.args.btf.now c.loop-id.id c.type_at-btf_type.result.now
  type_is = c.type_at-btf_type.ensures

  -- what lower ids have made is the same under the new answers
  here_is : IsHere after c.loop-id.id c.loop-id.made
  here_is =
      let further = c.rewrite_type.ensures.further in
      here_of_made before c.loop-id.id c.loop-id.made c.loop-id.denied.items after.answers further.0 (further_answers c.loop-id.resolver.answers c.rewrite_type.new.resolver.answers further) c.loop-id.invariant.2 c.loop-id.invariant.3

  -- the pass comes to the id
  comes : Comes c.args.btf.now given c.loop-id.id c.type_at-btf_type.result.now c.loop-id.resolver.answers after.answers c.loop-id.made
  comes = record { there = type_is; answered = c.loop-id.invariant.2.asked; here = here_is }

  -- the id is one of the table
  is_below : c.loop-id.id < length c.args.btf.now.records
  is_below = omega (arith, c.loop-id-test.true, ap length (sym c.as_slice-count.ensures.records), length-map c.as_slice-count.result.now record_of)

  -- the answers are to the first features that the pass asks for
  begins : BeginsAsked after
  begins =
      let asks = c.rewrite_type.ensures.asks given c.loop-id.id refl comes in
      begins_at before c.loop-id.id after.answers asks.0 c.loop-id.invariant.2 is_below asks.1

pub returns-in_err-outcome-clause-called : goal.returns-in_err-outcome-clause-called
returns-in_err-outcome-clause-called g c = c.rewrite_type.ensures.called c.args.resolver.now.predicate c.loop-id.invariant.1

pub returns-in_err-outcome-clause-asks : goal.returns-in_err-outcome-clause-asks
returns-in_err-outcome-clause-asks g c = begins g (goal.at.returns-in_err-outcome-clause-asks g c).After-rewrite_type

pub returns-in_err-outcome-clause-passes : goal.returns-in_err-outcome-clause-passes
returns-in_err-outcome-clause-passes g c =
    let s = (goal.at.returns-in_err-outcome-clause-passes g c).After-rewrite_type in
    let id : ℕ = c.loop-id.id in
    let at : IsPassAt (before g s) id = c.loop-id.invariant.2 in
    handed_on (λ c. c) c.in_err-outcome.field-0.0 c.from_residual-in_err-outcome.result (Passes (after g s)) c.from_residual-in_err-outcome.ensures.1
    (IfSome_then _ (c.in_err-outcome.ensures.steps (given g s) id refl (comes g s)) (λ refusal h. refused_at (before g s) id c.rewrite_type.new.resolver.answers refusal (is_below g s) at h.0 h.1))

pub returns-in_err-keep-clause-called : goal.returns-in_err-keep-clause-called
returns-in_err-keep-clause-called g c = c.rewrite_type.ensures.called c.args.resolver.now.predicate c.loop-id.invariant.1

pub returns-in_err-keep-clause-asks : goal.returns-in_err-keep-clause-asks
returns-in_err-keep-clause-asks g c = begins g (goal.at.returns-in_err-keep-clause-asks g c).After-rewrite_type

pub loop-id-preserved : goal.loop-id-preserved
loop-id-preserved g c =
    let s = (goal.at.loop-id-preserved g c).After-rewrite_type in
    let id : ℕ = c.loop-id.id in
    let at : IsPassAt (before g s) id = c.loop-id.invariant.2 in
    let b : BtfType = c.type_at-btf_type.result.now in
    let low : 0 < id = omega (arith, c.loop-id.auto.id) in
    let o : Outcome = c.in_ok-outcome.outcome in
    let next = steps_on (before g s) id c.rewrite_type.new.resolver.answers b o c.loop-id.made c.rewrite_type.new.made c.keep.new.self c.loop-id.denied.items c.keep.new.denied.items low at c.loop-id.invariant.3 (type_is g s)
    (c.in_ok-outcome.ensures.steps (given g s) id refl (comes g s))
    (record {
      types = c.in_ok-keep.ensures.types;
      denied = c.in_ok-keep.ensures.denied;
      names = c.in_ok-keep.ensures.names;
      kind = c.in_ok-keep.ensures.kind;
      len = c.in_ok-keep.ensures.len;
      strings = c.keep.ensures.strings;
      new_types = c.keep.ensures.new_types;
      type_len = c.keep.ensures.type_len;
      member_type = c.keep.ensures.member_type;
      filler = c.keep.ensures.filler;
    }) in
    let one_on : suc id ≡ id + 1 = omega arith in
    (c.rewrite_type.ensures.callable, c.rewrite_type.ensures.called c.args.resolver.now.predicate c.loop-id.invariant.1, subst (IsPassAt (after g s)) one_on next.0, subst (λ n. IsMade (after g s) n c.keep.new.self c.keep.new.denied.items) one_on next.1, c.in_ok-outcome.ensures.read)

pub returns-clause-asks : goal.returns-clause-asks
returns-clause-asks g c =
    let t : Table = c.args.btf.now in
    let ts : List BtfType = c.as_slice-count.result.now in
    let p : Pass = pass_on t (given_under c.args.request.now.policy (layout_of c.args.request.now.sections.now c.args.request.now.symbols.now)) c.loop-id.resolver.answers in
    let id : ℕ = c.loop-id.id in
    let at : IsPassAt p id = c.loop-id.invariant.2 in
    let end : id ≡ length t.records = omega (arith, c.loop-id-test.false, c.loop-id.auto.id-end, ap length c.as_slice-count.ensures.first.1, ap length c.as_slice-count.ensures.records, length-map ts record_of) in
    begins_all p (subst (IsPassAt p) end at)

pub returns-clause-passes : goal.returns-clause-passes
returns-clause-passes g c =
    let t : Table = c.args.btf.now in
    let ts : List BtfType = c.as_slice-count.result.now in
    let p : Pass = pass_on t (given_under c.args.request.now.policy (layout_of c.args.request.now.sections.now c.args.request.now.symbols.now)) c.loop-id.resolver.answers in
    let id : ℕ = c.loop-id.id in
    let at : IsPassAt p id = c.loop-id.invariant.2 in
    let made : IsMade p id c.loop-id.made c.loop-id.denied.items = c.loop-id.invariant.3 in
    let end : id ≡ length t.records = omega (arith, c.loop-id-test.false, c.loop-id.auto.id-end, ap length c.as_slice-count.ensures.first.1, ap length c.as_slice-count.ensures.records, length-map ts record_of) in
    let many : length t.fallbacks ≡ length t.records = omega (arith, ap length c.as_slice-count.ensures.records, ap length c.as_slice-count.ensures.fallbacks, length-map ts record_of, length-map ts fallback_of) in
    passes_whole p id c.loop-id.made c.loop-id.denied c.as_slice-count.ensures.first.0 end many c.as_slice-count.ensures.first.1 at made

pub rewrite_type-requires-clause-read : goal.rewrite_type-requires-clause-read
rewrite_type-requires-clause-read g c = c.loop-id.invariant.4
