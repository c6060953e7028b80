use Rattle.std.proofs.Common.{◌+◌, sym, ap, ◌∙◌, ℕ}
use Rattle.std.specs.Prelude.{nat_lt, count_by}
use Rattle.btf_loader.proofs.Sharing.{shared_by_place, shared_by_none}
use Rattle.btf_loader.proofs.places.Places.is_shared.Goals as goal

pub returns : goal.returns
returns c =
    ap (λ (k : ℕ). nat_lt (k + 1) c.count_below.result) (c.count_below-2.ensures ∙ ap (count_by (λ n. nat_lt n (c.in-Some.start + 1))) c.deref-2.ensures.value)
    ∙ ap (nat_lt (count_by (λ n. nat_lt n (c.in-Some.start + 1)) c.args.self.now.ends.items + 1)) (c.count_below.ensures ∙ ap (count_by (λ n. nat_lt n c.in-Some.end)) c.deref.ensures.value)
    ∙ shared_by_place c.args.object.now.sections c.args.self.now.starts.items c.args.self.now.ends.items c.args.index c.in-Some.start c.in-Some.end c.requires.starts c.requires.ends c.in-Some.ensures.some

pub returns-in_default : goal.returns-in_default
returns-in_default c = sym (shared_by_none c.args.object.now.sections c.args.index c.in_default.ensures.none)
