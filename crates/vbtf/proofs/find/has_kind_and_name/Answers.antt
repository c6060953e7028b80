use Rattle.std.proofs.Common.{inl}
use Rattle.std.proofs.lemmas.Bool.{false≢true}
use Rattle.vbtf.proofs.find.has_kind_and_name.Goals as goal

pub returns-then-not-is_wanted : goal.returns-then-not-is_wanted
returns-then-not-is_wanted c = inl (λ wanted. false≢true (c.if-not-is_wanted.ensures.1 wanted))
