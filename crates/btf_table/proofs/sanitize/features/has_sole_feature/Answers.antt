use Rattle.std.proofs.Common.{sym, ◌∙◌}
use Rattle.btf_table.proofs.PassAsking.{asks_called, asks_next, asks_further, further_none}
use Rattle.btf_table.proofs.PassOne.{one_asked, one_granted, none_asked}
use Rattle.btf_table.specs.contracts.sanitize.features.has_sole_feature.F-FnMut.{words}
use Rattle.btf_table.proofs.sanitize.features.has_sole_feature.Goals as goal

pub returns-in-Some-clause-called : goal.returns-in-Some-clause-called
returns-in-Some-clause-called g c = λ first called. asks_called (words g.row.F g.F.FnMut).step first c.in-Some.feature c.args.resolver.now c.is_supported.new.self c.is_supported.result c.is_supported.ensures.asks called

pub returns-in-Some-clause-asks : goal.returns-in-Some-clause-asks
returns-in-Some-clause-asks g c = λ t given id there one below.
    one_asked t given id c.args.btf_type.now c.args.resolver.now.answers below c.is_supported.new.self.answers c.in-Some.feature c.is_supported.result
    (asks_next (words g.row.F g.F.FnMut).step c.in-Some.feature c.args.resolver.now c.is_supported.new.self c.is_supported.result c.is_supported.ensures.asks) (sym c.sole_feature.ensures ∙ c.in-Some.is) there one

pub returns-in-Some-clause-granted : goal.returns-in-Some-clause-granted
returns-in-Some-clause-granted g c = λ t given id below.
    one_granted t given id c.args.btf_type.now c.args.resolver.now.answers below c.is_supported.new.self.answers c.in-Some.feature c.is_supported.result
    (asks_next (words g.row.F g.F.FnMut).step c.in-Some.feature c.args.resolver.now c.is_supported.new.self c.is_supported.result c.is_supported.ensures.asks) (sym c.sole_feature.ensures ∙ c.in-Some.is)

pub returns-in-None-clause-asks : goal.returns-in-None-clause-asks
returns-in-None-clause-asks g c = λ t given id there one below.
    none_asked t given id c.args.btf_type.now c.args.resolver.now.answers below (sym c.sole_feature.ensures ∙ c.in-None.is) there one

pub returns-in-Some-clause-further : goal.returns-in-Some-clause-further
returns-in-Some-clause-further g c = asks_further (words g.row.F g.F.FnMut).step c.in-Some.feature c.args.resolver.now c.is_supported.new.self c.is_supported.result c.is_supported.ensures.asks

pub returns-in-None-clause-further : goal.returns-in-None-clause-further
returns-in-None-clause-further g c = further_none c.args.resolver.now.answers
