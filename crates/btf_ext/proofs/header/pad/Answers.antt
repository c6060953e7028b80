use Rattle.std.proofs.Common.{◌≡◌, ◌∙◌, ℕ, ◌-◌, List, ◌++◌, length, drop, ap}
use Rattle.std.specs.Prelude.{replicate}
use Rattle.std.proofs.lemmas.List.{drop-replicate}
use Rattle.btf_ext.proofs.header.pad.Goals as goal

pub returns : goal.returns
returns c =
    let zeros : drop (length c.args.given.now) (replicate 32 0) ≡ replicate (32 - length c.args.given.now) 0 = drop-replicate (length c.args.given.now) 32 0 in
    ap (λ (x : List ℕ). x ++ drop (length c.args.given.now) (replicate 32 0)) c.copy_from_slice.ensures.after ∙ ap (λ (x : List ℕ). c.args.given.now ++ x) zeros
