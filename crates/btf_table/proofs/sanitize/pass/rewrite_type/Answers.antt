use Rattle.std.proofs.Common.{◌≡◌, ℕ, true, [], sym, ap, subst, ◌∙◌}
use Rattle.btf_model.specs.Record.{kind_of}
use Rattle.btf_plain.specs.Error.{MeetsOrNoMemory}
use Rattle.btf_records.specs.BtfType.{record_of}
use Rattle.btf_records.specs.declared.btf_type.BtfType.{BtfType}
use Rattle.btf_table.specs.Btf.{IsType}
use Rattle.btf_table.specs.PassStep.{Given, pass_on, made_of, Comes, AsksUpTo, Steps, Rules}
use Rattle.btf_table.specs.SoleFeature.{asks_one}
use Rattle.btf_table.proofs.PassOne.{one_type}
use Rattle.btf_plain.proofs.Refused.{with_fact}
use Rattle.btf_table.proofs.sanitize.pass.rewrite_type.Given.{Over}
use Rattle.btf_table.proofs.sanitize.pass.rewrite_type.Goals as goal
use Rattle.btf_table.proofs.sanitize.pass.rewrite_type.Goals.{After-rewrite_by}

pub returns-in-Func-clause-steps : goal.returns-in-Func-clause-steps
returns-in-Func-clause-steps g c = λ given id is comes.
    subst (λ (b : BtfType). Comes c.args.btf.now given id b c.args.resolver.now.answers c.rewrite_func.new.resolver.answers c.args.made.now
    → MeetsOrNoMemory (λ o. made_of o b) c.rewrite_func.result (Steps (pass_on c.args.btf.now given c.args.resolver.now.answers) id c.rewrite_func.new.resolver.answers b c.args.made.now c.args.made.now)) (sym c.in-Func.is)
    (λ comes. c.rewrite_func.ensures.steps given id c.args.made.now comes) comes

one : (g : Over) (c : After-rewrite_by g) (id : ℕ) → IsType c.args.btf.now id c.args.btf_type.now → asks_one (kind_of (record_of c.args.btf_type.now).info) ≡ true
one g c id there = ap asks_one there.kind_is ∙ one_type c.args.btf_type.now c.in_default.not-Func c.in_default.not-DataSec

pub returns-in_default-clause-asks : goal.returns-in_default-clause-asks
returns-in_default-clause-asks g c = λ given id is comes. let policy = ap (λ (x : Given). x.policy) is in let sections = ap (λ (x : Given). x.layout.sections) is in let there = comes.there in let below = comes.answered in let here = comes.here in
    let s = (goal.at.returns-in_default-clause-asks g c).After-rewrite_by in
    ([], c.has_sole_feature-granted.ensures.asks c.args.btf.now given id there (one g s id there) below)

pub returns-in_default-clause-steps : goal.returns-in_default-clause-steps
returns-in_default-clause-steps g c = λ given id is comes. let policy = ap (λ (x : Given). x.policy) is in let sections = ap (λ (x : Given). x.layout.sections) is in let symbols = ap (λ (x : Given). x.layout.symbols) is in let there = comes.there in let below = comes.answered in let here = comes.here in
    let s = (goal.at.returns-in_default-clause-steps g c).After-rewrite_by in
    with_fact (λ o. made_of o c.args.btf_type.now) c.rewrite_by.result (AsksUpTo (pass_on c.args.btf.now given c.args.resolver.now.answers) id c.has_sole_feature-granted.new.resolver.answers [])
    (Rules (pass_on c.args.btf.now given c.has_sole_feature-granted.new.resolver.answers) id c.args.btf_type.now c.args.made.now c.rewrite_by.new.made)
    (c.has_sole_feature-granted.ensures.asks c.args.btf.now given id there (one g s id there) below)
    (c.rewrite_by.ensures (one g s id there) given c.has_sole_feature-granted.new.resolver.answers id there here (c.has_sole_feature-granted.ensures.granted c.args.btf.now given id below))
