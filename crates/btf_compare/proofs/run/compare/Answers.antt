use Rattle.std.proofs.Common.{◌≡◌, ℕ, [], Bool, true, false, Ok, ◌∷◌, Err, Result, refl, sym, ap, subst, inl, inr}
use Rattle.std.proofs.lemmas.Bool.{false≢true}
use Rattle.btf_model.specs.Run.{new_frame}
use Rattle.btf_plain.specs.declared.error.BtfError.{BtfError}
use Rattle.btf_compare.specs.declared.frame.Place.{Place}
use Rattle.btf_compare.specs.declared.frame.Place.TheVariants.{Ends, Pending}
use Rattle.btf_compare.specs.Compared.{HasStarted, IsStarted, WalksTo, frame_of, passed_in, Compares}
use Rattle.btf_compare.specs.Pairs.{pair_of}
use Rattle.btf_compare.proofs.Begun.{Walked, ends_false, walked_unless_false}
use Rattle.btf_compare.proofs.Comparing.{propagated, root_refused, root_differs}
use Rattle.btf_compare.proofs.Roots.{root_fails, root_ends, root_goes, root_frame}
use Rattle.btf_compare.proofs.run.compare.Given.{Over}
use Rattle.btf_compare.proofs.run.compare.Goals as goal
use Rattle.btf_compare.proofs.run.compare.Goals.{After-branch-answer, In_ok-answer, In-Pending}

-- a walk without passed prototypes
goes : (g : Over) (c : After-branch-answer g) (end : Result Place BtfError) → Walked c.args.local.now c.args.target.now (passed_in c.new-none.result) (pair_of c.args.root) c.start.new.frame end → WalksTo c.args.local.now c.args.target.now (λ p. false) (new_frame (pair_of c.args.root)) (frame_of c.start.new.frame)
goes g c end w = root_goes c.args.local.now c.args.target.now c.new-none.result c.args.root (root_frame c.args.root) c.start.new.frame c.new-none.ensures.empty refl w.1

pub returns-in_err-answer : goal.returns-in_err-answer
returns-in_err-answer g c =
    let s = (goal.at.returns-in_err-answer g c).After-branch-answer in
    let result = c.from_residual.result in
    let is = propagated c.from_residual.result c.in_err-answer.field-0.0 c.from_residual.ensures.1 in
    elim c.in_err-answer.ensures [
      | inl refused ↦ root_refused c.args.local.now c.args.target.now c.args.root c.allocator_of-alloc.ensures c.allocator_of.ensures c.in_err-answer.field-0.0 result (g.S.Starts.has_added c.args.starts.now c.start.new.starts) refused.0 is (refused.1 c.args.starts.now [] c.requires)
      | inr walked ↦
          let w = walked_unless_false c.args.local.now c.args.target.now (passed_in c.new-none.result) (pair_of c.args.root) c.start.new.frame (Err c.in_err-answer.field-0.0) refl walked.0 in
          root_fails c.args.local.now c.args.target.now c.args.root (g.S.Starts.has_added c.args.starts.now c.start.new.starts) w.0 (walked.3 c.args.starts.now [] c.requires) c.start.new.frame (goes g s (Err c.in_err-answer.field-0.0) w) c.in_err-answer.field-0.0 result w.2 is
    ]

-- the state of the pair
begun : (g : Over) (c : In_ok-answer g) → HasStarted c.args.local.now c.args.target.now (passed_in c.new-none.result) (pair_of c.args.root) c.start.new.frame (Ok c.in_ok-answer.field-0) × (c.start.new.frame.pair ≡ c.args.root) × g.S.Starts.has_added c.args.starts.now c.start.new.starts (c.args.root ∷ [])
begun g c = elim c.in_ok-answer.ensures [ inl failed ↦ absurd failed.0 | inr started ↦ (started.0, started.1, started.3 c.args.starts.now [] c.requires) ]

ends_with : (g : Over) (c : After-branch-answer g) (answer : Bool) → g.S.Starts.has_added c.args.starts.now c.start.new.starts (c.args.root ∷ []) → HasStarted c.args.local.now c.args.target.now (passed_in c.new-none.result) (pair_of c.args.root) c.start.new.frame (Ok (Ends answer)) → Compares c.args.local.now c.args.target.now (pair_of c.args.root) (Ok answer) (g.S.Starts.has_added c.args.starts.now c.start.new.starts)
ends_with g c answer added (inr w) = root_ends c.args.local.now c.args.target.now c.args.root (g.S.Starts.has_added c.args.starts.now c.start.new.starts) w.0 added c.start.new.frame (goes g c (Ok (Ends answer)) w) answer w.2
ends_with g c false added (inl kinds) = root_differs c.args.local.now c.args.target.now c.args.root (g.S.Starts.has_added c.args.starts.now c.start.new.starts) kinds.0 added
ends_with g c true added (inl kinds) = absurd (false≢true (ap ends_false kinds.1))

pub returns-in-Ends : goal.returns-in-Ends
returns-in-Ends g c =
    let h = begun g (goal.at.returns-in-Ends g c).In_ok-answer in
    ends_with g (goal.at.returns-in-Ends g c).After-branch-answer c.in-Ends.answer h.2 (subst (λ (p : Place). HasStarted c.args.local.now c.args.target.now (passed_in c.new-none.result) (pair_of c.args.root) c.start.new.frame (Ok p)) c.in-Ends.is h.0)

-- ---- it is at prototypes

pending : (g : Over) (c : In-Pending g) → HasStarted c.args.local.now c.args.target.now (passed_in c.new-none.result) (pair_of c.args.root) c.start.new.frame (Ok c.in_ok-answer.field-0) → Walked c.args.local.now c.args.target.now (passed_in c.new-none.result) (pair_of c.args.root) c.start.new.frame (Ok (Pending c.in-Pending.found))
pending g c h = walked_unless_false c.args.local.now c.args.target.now (passed_in c.new-none.result) (pair_of c.args.root) c.start.new.frame (Ok (Pending c.in-Pending.found)) refl (subst (λ (p : Place). HasStarted c.args.local.now c.args.target.now (passed_in c.new-none.result) (pair_of c.args.root) c.start.new.frame (Ok p)) c.in-Pending.is h)

pub compare_on-requires-clause-begins : goal.compare_on-requires-clause-begins
compare_on-requires-clause-begins g c =
    let h = begun g (goal.at.compare_on-requires-clause-begins g c).In_ok-answer in
    subst (λ (ids : ℕ × ℕ). IsStarted c.args.local.now c.args.target.now (pair_of ids) true) (sym h.1) (pending g (goal.at.compare_on-requires-clause-begins g c).In-Pending h.0).0

pub compare_on-requires-clause-walked : goal.compare_on-requires-clause-walked
compare_on-requires-clause-walked g c =
    let h = begun g (goal.at.compare_on-requires-clause-walked g c).In_ok-answer in
    subst (λ (ids : ℕ × ℕ). WalksTo c.args.local.now c.args.target.now (λ p. false) (new_frame (pair_of ids)) (frame_of c.start.new.frame)) (sym h.1)
    (goes g (goal.at.compare_on-requires-clause-walked g c).After-branch-answer (Ok (Pending c.in-Pending.found)) (pending g (goal.at.compare_on-requires-clause-walked g c).In-Pending h.0))

pub compare_on-requires-clause-here : goal.compare_on-requires-clause-here
compare_on-requires-clause-here g c = (pending g (goal.at.compare_on-requires-clause-here g c).In-Pending (begun g (goal.at.compare_on-requires-clause-here g c).In_ok-answer).0).2
