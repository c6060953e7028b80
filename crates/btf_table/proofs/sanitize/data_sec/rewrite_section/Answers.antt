use Rattle.std.specs.Option.{unwrap_or}
use Rattle.std.specs.Prelude.{if◌then◌else◌, Result, Ok}
use Rattle.std.specs.Result.{result_ok}
use Rattle.std.proofs.Common.{◌≡◌, ◌==◌, ℕ, Bool, true, false, not, Some, None, Err, [], ◌∷◌, List, refl, sym, ap, ◌∙◌}
use Rattle.std.proofs.lemmas.Bool.{eq-eqb, ne_eqb}
use Rattle.std.proofs.lemmas.Option.{none-some, IfSome_then}
use Rattle.btf_model.specs.Record as kinds
use Rattle.btf_model.specs.Record.{Record, kind_of, vlen}
use Rattle.btf_rewrite_model.specs.declared.feature.BtfFeature.TheVariants as features
use Rattle.btf_rewrite_model.specs.declared.feature.BtfFeature.{BtfFeature}
use Rattle.btf_rewrite_model.specs.declared.feature.FeatureAnswer.{FeatureAnswer}
use Rattle.btf_rewrite_model.specs.Pass.{Pass, has, asks, asks_below, section_size, gets_filler}
use Rattle.btf_rewrite_model.specs.Rule.{ruled_below}
use Rattle.btf_rewrite_model.proofs.Passing.{NextAnswers}
use Rattle.btf_records.specs.declared.btf_type.BtfType.TheVariants.{DataSec}
use Rattle.btf_table.specs.Adding.{next_string_offset}
use Rattle.btf_rewrite_model.specs.Passing.{AreAnswersTo}
use Rattle.btf_table.specs.Features.{Resolver, AsksResolver, Called, IsFurther}
use Rattle.btf_table.specs.Layout.{sizes_of}
use Rattle.btf_table.specs.Btf.{IsType}
use Rattle.btf_table.specs.PassStep.{Given, pass_on, IsHere, AsksUpTo, Rules, Steps}
use Rattle.btf_table.specs.SectionStep.{HasNewName, final_size, is_fillable, asks_zero}
use Rattle.btf_table.specs.declared.sanitize.made.Made.{Made}
use Rattle.btf_table.proofs.Checks.{checked_err}
use Rattle.btf_table.proofs.PassAsking.{asks_called, asks_next, asks_further, further_then}
use Rattle.btf_plain.proofs.Refused.{handed_on, with_fact}
use Rattle.btf_table.proofs.SectionRules.{zero_further, name_refused, has_new_name, size_refused, size_is, fills_by, asks_by_size, granted_one, asks_some, asks_one, granted_two, asks_two, fills_two, denied_asks, struct_answer, renamed_answer, laid_answer, zero_called}
use Rattle.btf_table.specs.contracts.sanitize.data_sec.rewrite_section.F-FnMut.{words}
use Rattle.btf_model.proofs.Comparisons.{same_ok}
use Rattle.btf_plain.specs.declared.error.BtfError.{BtfError}
use Rattle.btf_table.proofs.sanitize.data_sec.rewrite_section.Given.{Over}
use Rattle.btf_table.proofs.sanitize.data_sec.rewrite_section.Goals as goal
use Rattle.btf_table.proofs.sanitize.data_sec.rewrite_section.Goals.{After-new_name, After-final_size}

is_not_false : (b : Bool) → (b ≡ false → ⊥) → b ≡ true
is_not_false true never = refl
is_not_false false never = absurd (never refl)

ok_no_err : {X E : Type 0} {x : X} {e : E} → ◌≡◌ {A = Result X E} (Ok x) (Err e) → ⊥
ok_no_err {X} {E} {x} is = none-some x (sym (ap result_ok is))

-- ---- if only DataSec is asked for

module _ (g : Over) (c : After-new_name g) where
  abbrev r : Record
  r = c.args.data_sec.now

  abbrev one : List FeatureAnswer
  one = c.is_supported-granted.new.self.answers

  -- the predicate is called for DataSec, if it is called
  called_one : (first : g.row.F.Denot) → Called (words g.row.F g.row.G g.row.H g.row.G-Hasher g.row.H-Hasher g.F.FnMut).step first c.args.resolver.now.answers c.args.resolver.now.predicate → Called (words g.row.F g.row.G g.row.H g.row.G-Hasher g.row.H-Hasher g.F.FnMut).step first c.is_supported-granted.new.self.answers c.is_supported-granted.new.self.predicate
  called_one first = asks_called _ first features.DataSec c.args.resolver.now c.is_supported-granted.new.self c.is_supported-granted.result c.is_supported-granted.ensures.asks

  -- its answers are the earlier answers, and perhaps one more
  further_one : IsFurther c.args.resolver.now.answers c.is_supported-granted.new.self.answers
  further_one = asks_further (words g.row.F g.row.G g.row.H g.row.G-Hasher g.row.H-Hasher g.F.FnMut).step features.DataSec c.args.resolver.now c.is_supported-granted.new.self c.is_supported-granted.result c.is_supported-granted.ensures.asks

  -- DataSec is asked for, unless it is answered
  next_one : NextAnswers c.args.resolver.now.answers features.DataSec c.is_supported-granted.result one
  next_one = asks_next (words g.row.F g.row.G g.row.H g.row.G-Hasher g.row.H-Hasher g.F.FnMut).step features.DataSec c.args.resolver.now c.is_supported-granted.new.self c.is_supported-granted.result c.is_supported-granted.ensures.asks

  module _ (given : Given) (id : ℕ) (there : IsType c.args.btf.now id (DataSec r)) (below : AreAnswersTo (asks_below (pass_on c.args.btf.now given c.args.resolver.now.answers) id) c.args.resolver.now.answers) where
    abbrev p : Pass
    p = pass_on c.args.btf.now given c.args.resolver.now.answers

    -- DataSec is answered, which is the first feature that the id asks for
    some_asked : (left : List BtfFeature) × AsksUpTo p id one left
    some_asked = asks_some p id r there there.kind_is below one c.is_supported-granted.result next_one

    -- and it may be the only one
    one_asked : asks (pass_on c.args.btf.now given one) id ≡ features.DataSec ∷ [] → AsksUpTo p id one []
    one_asked = asks_one p id r there there.kind_is below one c.is_supported-granted.result next_one

    -- the answer is the one that the predicate gave
    has_one : has (pass_on c.args.btf.now given one) features.DataSec ≡ c.is_supported-granted.result
    has_one = granted_one p id r there there.kind_is below one c.is_supported-granted.result next_one

pub returns-in_err-name_offset-clause-called : goal.returns-in_err-name_offset-clause-called
returns-in_err-name_offset-clause-called g c = called_one g (goal.at.returns-in_err-name_offset-clause-called g c).After-new_name

pub returns-in_err-name_offset-clause-further : goal.returns-in_err-name_offset-clause-further
returns-in_err-name_offset-clause-further g c = further_one g (goal.at.returns-in_err-name_offset-clause-further g c).After-new_name

pub returns-in_err-name_offset-clause-asks : goal.returns-in_err-name_offset-clause-asks
returns-in_err-name_offset-clause-asks g c = λ given id is comes. let policy = ap (λ (x : Given). x.policy) is in let sections = ap (λ (x : Given). x.layout.sections) is in let there = comes.there in let below = comes.answered in let here = comes.here in some_asked g (goal.at.returns-in_err-name_offset-clause-asks g c).After-new_name given id there below

pub returns-in_err-name_offset-clause-steps : goal.returns-in_err-name_offset-clause-steps
returns-in_err-name_offset-clause-steps g c = λ given id is comes. let policy = ap (λ (x : Given). x.policy) is in let sections = ap (λ (x : Given). x.layout.sections) is in let symbols = ap (λ (x : Given). x.layout.symbols) is in let there = comes.there in let below = comes.answered in let here = comes.here in
    let at = (goal.at.returns-in_err-name_offset-clause-steps g c).After-new_name in
    let r : Record = c.args.data_sec.now in
    let before : Made = c.args.made.now in
    let p : Pass = pass_on c.args.btf.now given c.args.resolver.now.answers in
    let q : Pass = pass_on c.args.btf.now given c.is_supported-granted.new.self.answers in
    let StepsTo = Steps p id c.is_supported-granted.new.self.answers (DataSec r) before (record before { changes = c.new_name.new.changes }) in
    handed_on (λ new. unwrap_or new (DataSec r)) c.in_err-name_offset.field-0.0 c.from_residual.result StepsTo c.from_residual.ensures.1
    (IfSome_then _ (c.in_err-name_offset.ensures.answer q refl (has_one g at given id there below)) (λ refusal is.
    let no = name_refused q id r there there.kind_is (next_string_offset c.args.btf.now before.changes) refusal here.offset (checked_err _ _ refusal is) in
    let both : StepsTo (Err refusal) = (one_asked g at given id there below no.0, no.1) in
    both))

pub returns-then-not-granted-clause-called : goal.returns-then-not-granted-clause-called
returns-then-not-granted-clause-called g c = called_one g (goal.at.returns-then-not-granted-clause-called g c).After-new_name

pub returns-then-not-granted-clause-further : goal.returns-then-not-granted-clause-further
returns-then-not-granted-clause-further g c = further_one g (goal.at.returns-then-not-granted-clause-further g c).After-new_name

pub returns-then-not-granted-clause-asks : goal.returns-then-not-granted-clause-asks
returns-then-not-granted-clause-asks g c = λ given id is comes. let policy = ap (λ (x : Given). x.policy) is in let sections = ap (λ (x : Given). x.layout.sections) is in let there = comes.there in let below = comes.answered in let here = comes.here in some_asked g (goal.at.returns-then-not-granted-clause-asks g c).After-new_name given id there below

pub returns-then-not-granted-clause-steps : goal.returns-then-not-granted-clause-steps
returns-then-not-granted-clause-steps g c = λ given id is comes. let policy = ap (λ (x : Given). x.policy) is in let sections = ap (λ (x : Given). x.layout.sections) is in let symbols = ap (λ (x : Given). x.layout.symbols) is in let there = comes.there in let below = comes.answered in let here = comes.here in
    let at = (goal.at.returns-then-not-granted-clause-steps g c).After-new_name in
    let r : Record = c.args.data_sec.now in
    let before : Made = c.args.made.now in
    let now : Made = record before { changes = c.new_name.new.changes } in
    let q : Pass = pass_on c.args.btf.now given c.is_supported-granted.new.self.answers in
    let has_it : has q features.DataSec ≡ c.is_supported-granted.result = has_one g at given id there below in
    let denied : has q features.DataSec ≡ false = has_it ∙ c.if-not-granted.true in
    let name : ℕ = c.in_ok-name_offset.name_offset in
    let n : HasNewName q id r name before now =
    has_new_name q id r there there.kind_is before now name there.tail_is here (c.in_ok-name_offset.ensures.answer q refl has_it) (c.in_ok-name_offset.ensures.adds q refl has_it) refl refl refl in
    with_fact (λ new. unwrap_or new (DataSec r)) c.as_struct.result _ (Rules q id (DataSec r) before now) (one_asked g at given id there below (denied_asks q id r there there.kind_is denied))
    (struct_answer q id r name before now n c.as_struct.result denied (c.as_struct.ensures.answer q (ruled_below q id) refl (c.deref.ensures.value ∙ here.names)) c.as_struct.ensures.fallback)

pub returns-in_err-size-clause-called : goal.returns-in_err-size-clause-called
returns-in_err-size-clause-called g c = called_one g (goal.at.returns-in_err-size-clause-called g c).After-new_name

pub returns-in_err-size-clause-further : goal.returns-in_err-size-clause-further
returns-in_err-size-clause-further g c = further_one g (goal.at.returns-in_err-size-clause-further g c).After-new_name

pub returns-in_err-size-clause-asks : goal.returns-in_err-size-clause-asks
returns-in_err-size-clause-asks g c = λ given id is comes. let policy = ap (λ (x : Given). x.policy) is in let sections = ap (λ (x : Given). x.layout.sections) is in let there = comes.there in let below = comes.answered in let here = comes.here in some_asked g (goal.at.returns-in_err-size-clause-asks g c).After-new_name given id there below

pub returns-in_err-size-clause-steps : goal.returns-in_err-size-clause-steps
returns-in_err-size-clause-steps g c = λ given id is comes. let policy = ap (λ (x : Given). x.policy) is in let sections = ap (λ (x : Given). x.layout.sections) is in let symbols = ap (λ (x : Given). x.layout.symbols) is in let there = comes.there in let below = comes.answered in let here = comes.here in
    let at = (goal.at.returns-in_err-size-clause-steps g c).After-new_name in
    let r : Record = c.args.data_sec.now in
    let before : Made = c.args.made.now in
    let now : Made = record before { changes = c.new_name.new.changes } in
    let p : Pass = pass_on c.args.btf.now given c.args.resolver.now.answers in
    let q : Pass = pass_on c.args.btf.now given c.is_supported-granted.new.self.answers in
    let StepsTo = Steps p id c.is_supported-granted.new.self.answers (DataSec r) before now in
    let has_it : has q features.DataSec ≡ c.is_supported-granted.result = has_one g at given id there below in
    let n : HasNewName q id r c.in_ok-name_offset.name_offset before now =
    has_new_name q id r there there.kind_is before now c.in_ok-name_offset.name_offset there.tail_is here (c.in_ok-name_offset.ensures.answer q refl has_it) (c.in_ok-name_offset.ensures.adds q refl has_it) refl refl refl in
    let unsized : (r.third == 0) ≡ true = is_not_false (r.third == 0) (λ is. ok_no_err (sym (c.final_size.ensures.own is) ∙ c.in_err-size.was)) in
    handed_on (λ new. unwrap_or new (DataSec r)) c.in_err-size.field-0.0 c.from_residual-in_err-size.result StepsTo c.from_residual-in_err-size.ensures.1
    (IfSome_then _ (c.in_err-size.ensures.section unsized q refl sections) (λ refusal is.
    let no = size_refused q id r there there.kind_is refusal n.passed (has_it ∙ c.if-not-granted.false) unsized (checked_err _ _ refusal is) in
    let both : StepsTo (Err refusal) = (one_asked g at given id there below no.0, no.1) in
    both))

-- ---- if DataSecZero may be asked for too

-- What is known after all that a section asks for is answered, and whether the section gets the filler.
record IsAnswered (p : Pass) (id : ℕ) (r : Record) (name size : ℕ) (before now : Made) (answers : List FeatureAnswer) (fills : Bool) : Type 0 where
  all_asked : AsksUpTo p id answers []
  granted : has (record p { answers = answers }) features.DataSec ≡ true
  named : HasNewName (record p { answers = answers }) id r name before now
  sized : final_size (record p { answers = answers }) id r ≡ Some size
  filled : gets_filler (record p { answers = answers }) id ≡ fills

module _ (g : Over) (c : After-final_size g) (size : ℕ) (was : c.final_size.result ≡ Ok size) (new : Resolver g.row.F.Denot) (fills : Bool)
    (quiet : asks_zero c.args.request.now.policy c.args.data_sec.now size ≡ false → (new ≡ c.is_supported-granted.new.self) × (fills ≡ is_fillable c.args.request.now.policy c.args.data_sec.now))
    (asks_it : asks_zero c.args.request.now.policy c.args.data_sec.now size ≡ true → AsksResolver (words g.row.F g.row.G g.row.H g.row.G-Hasher g.row.H-Hasher g.F.FnMut).step features.DataSecZero c.is_supported-granted.new.self (not fills) new) where
  -- the predicate is called for DataSec and DataSecZero, if it is called
  called_two : (first : g.row.F.Denot) → Called (words g.row.F g.row.G g.row.H g.row.G-Hasher g.row.H-Hasher g.F.FnMut).step first c.args.resolver.now.answers c.args.resolver.now.predicate → Called (words g.row.F g.row.G g.row.H g.row.G-Hasher g.row.H-Hasher g.F.FnMut).step first new.answers new.predicate
  called_two first called =
      zero_called _ first c.args.request.now.policy c.args.data_sec.now size c.is_supported-granted.new.self new fills quiet asks_it
      (asks_called _ first features.DataSec c.args.resolver.now c.is_supported-granted.new.self c.is_supported-granted.result c.is_supported-granted.ensures.asks called)

  -- the answers are the earlier answers, and perhaps one or two more
  further_two : IsFurther c.args.resolver.now.answers new.answers
  further_two =
      further_then c.args.resolver.now.answers c.is_supported-granted.new.self.answers new.answers (asks_further (words g.row.F g.row.G g.row.H g.row.G-Hasher g.row.H-Hasher g.F.FnMut).step features.DataSec c.args.resolver.now c.is_supported-granted.new.self c.is_supported-granted.result c.is_supported-granted.ensures.asks)
      (zero_further (words g.row.F g.row.G g.row.H g.row.G-Hasher g.row.H-Hasher g.F.FnMut).step c.args.request.now.policy c.args.data_sec.now size c.is_supported-granted.new.self new fills quiet asks_it)

  -- what is known at the three exits with a size
  answered : (given : Given) (id : ℕ) → given.policy ≡ c.args.request.now.policy → given.layout.sections ≡ sizes_of c.args.request.now.sections.now → IsType c.args.btf.now id (DataSec c.args.data_sec.now)
      → AreAnswersTo (asks_below (pass_on c.args.btf.now given c.args.resolver.now.answers) id) c.args.resolver.now.answers → IsHere (pass_on c.args.btf.now given new.answers) id c.args.made.now
      → IsAnswered (pass_on c.args.btf.now given c.args.resolver.now.answers) id c.args.data_sec.now c.in_ok-name_offset.name_offset size c.args.made.now (record c.args.made.now { changes = c.new_name.new.changes }) new.answers fills
  answered given id policy sections there below here =
      let r : Record = c.args.data_sec.now in
      let before : Made = c.args.made.now in
      let now : Made = record before { changes = c.new_name.new.changes } in
      let kind : kind_of r.info ≡ Some kinds.DataSec = there.kind_is in
      let granted : Bool = c.is_supported-granted.result in
      let p : Pass = pass_on c.args.btf.now given c.args.resolver.now.answers in
      let one : List FeatureAnswer = c.is_supported-granted.new.self.answers in
      let next : NextAnswers p.answers features.DataSec granted one = asks_next (words g.row.F g.row.G g.row.H g.row.G-Hasher g.row.H-Hasher g.F.FnMut).step features.DataSec c.args.resolver.now c.is_supported-granted.new.self granted c.is_supported-granted.ensures.asks in
      let two : List FeatureAnswer = new.answers in
      let q : Pass = pass_on c.args.btf.now given two in
      let quiet_so : asks_zero given.policy r size ≡ false → (two ≡ one) × (fills ≡ is_fillable given.policy r) =
      λ is. let reported = quiet (ap (λ pol. asks_zero pol r size) (sym policy) ∙ is) in (ap (λ (s : Resolver g.row.F.Denot). s.answers) reported.0, reported.1 ∙ ap (λ pol. is_fillable pol r) (sym policy)) in
      let zero : asks_zero given.policy r size ≡ true → NextAnswers one features.DataSecZero (not fills) two =
      λ is. asks_next (words g.row.F g.row.G g.row.H g.row.G-Hasher g.row.H-Hasher g.F.FnMut).step features.DataSecZero c.is_supported-granted.new.self new (not fills) (asks_it (ap (λ pol. asks_zero pol r size) (sym policy) ∙ is)) in
      let has_it : has q features.DataSec ≡ granted = granted_two p id r there kind below one granted next size two fills quiet_so zero in
      let yes : has q features.DataSec ≡ true = has_it ∙ c.if-not-granted.false in
      let n : HasNewName q id r c.in_ok-name_offset.name_offset before now =
      has_new_name q id r there kind before now c.in_ok-name_offset.name_offset there.tail_is here (c.in_ok-name_offset.ensures.answer q refl has_it) (c.in_ok-name_offset.ensures.adds q refl has_it) refl refl refl in
      let known : final_size q id r ≡ Some size =
      size_is q id r there kind size n.passed (λ is. same_ok {E = BtfError} size r.third (sym was ∙ c.final_size.ensures.own is)) (λ is. rw was at (c.final_size.ensures.section is q refl sections)) in
      record {
        all_asked = asks_two p id r there kind below one granted next size two fills quiet_so zero (asks_by_size q id r there kind size n.passed yes known);
        granted = yes;
        named = n;
        sized = known;
        filled = fills_two p id r there kind below one granted next size two fills quiet_so zero (fills_by q id r there kind size yes known);
      }

pub returns-then-wants_filler-clause-called : goal.returns-then-wants_filler-clause-called
returns-then-wants_filler-clause-called g c = called_two g (goal.at.returns-then-wants_filler-clause-called g c).After-final_size c.in_ok-size.size c.in_ok-size.was c.wants_filler.new.resolver c.wants_filler.result c.wants_filler.ensures.quiet c.wants_filler.ensures.asks

pub returns-then-wants_filler-clause-further : goal.returns-then-wants_filler-clause-further
returns-then-wants_filler-clause-further g c = further_two g (goal.at.returns-then-wants_filler-clause-further g c).After-final_size c.in_ok-size.size c.in_ok-size.was c.wants_filler.new.resolver c.wants_filler.result c.wants_filler.ensures.quiet c.wants_filler.ensures.asks

pub returns-then-wants_filler-clause-asks : goal.returns-then-wants_filler-clause-asks
returns-then-wants_filler-clause-asks g c = λ given id is comes. let policy = ap (λ (x : Given). x.policy) is in let sections = ap (λ (x : Given). x.layout.sections) is in let there = comes.there in let below = comes.answered in let here = comes.here in ([], (answered g (goal.at.returns-then-wants_filler-clause-asks g c).After-final_size c.in_ok-size.size c.in_ok-size.was c.wants_filler.new.resolver c.wants_filler.result c.wants_filler.ensures.quiet c.wants_filler.ensures.asks given id policy sections there below here).all_asked)

pub returns-then-wants_filler-clause-steps : goal.returns-then-wants_filler-clause-steps
returns-then-wants_filler-clause-steps g c = λ given id is comes. let policy = ap (λ (x : Given). x.policy) is in let sections = ap (λ (x : Given). x.layout.sections) is in let symbols = ap (λ (x : Given). x.layout.symbols) is in let there = comes.there in let below = comes.answered in let here = comes.here in
    let r : Record = c.args.data_sec.now in
    let before : Made = c.args.made.now in
    let q : Pass = pass_on c.args.btf.now given c.wants_filler.new.resolver.answers in
    let known = answered g (goal.at.returns-then-wants_filler-clause-steps g c).After-final_size c.in_ok-size.size c.in_ok-size.was c.wants_filler.new.resolver c.wants_filler.result c.wants_filler.ensures.quiet c.wants_filler.ensures.asks given id policy sections there below here in
    with_fact (λ new. unwrap_or new (DataSec r)) c.fill.result _ (Rules q id (DataSec r) before c.fill.new.made) known.all_asked (c.fill.ensures given q.answers id r before known.named (known.filled ∙ c.if-wants_filler.true) known.sized)

pub returns-then-size-ne0-clause-called : goal.returns-then-size-ne0-clause-called
returns-then-size-ne0-clause-called g c = called_two g (goal.at.returns-then-size-ne0-clause-called g c).After-final_size c.in_ok-size.size c.in_ok-size.was c.wants_filler.new.resolver c.wants_filler.result c.wants_filler.ensures.quiet c.wants_filler.ensures.asks

pub returns-then-size-ne0-clause-further : goal.returns-then-size-ne0-clause-further
returns-then-size-ne0-clause-further g c = further_two g (goal.at.returns-then-size-ne0-clause-further g c).After-final_size c.in_ok-size.size c.in_ok-size.was c.wants_filler.new.resolver c.wants_filler.result c.wants_filler.ensures.quiet c.wants_filler.ensures.asks

pub returns-then-size-ne0-clause-asks : goal.returns-then-size-ne0-clause-asks
returns-then-size-ne0-clause-asks g c = λ given id is comes. let policy = ap (λ (x : Given). x.policy) is in let sections = ap (λ (x : Given). x.layout.sections) is in let there = comes.there in let below = comes.answered in let here = comes.here in ([], (answered g (goal.at.returns-then-size-ne0-clause-asks g c).After-final_size c.in_ok-size.size c.in_ok-size.was c.wants_filler.new.resolver c.wants_filler.result c.wants_filler.ensures.quiet c.wants_filler.ensures.asks given id policy sections there below here).all_asked)

pub returns-then-size-ne0-clause-steps : goal.returns-then-size-ne0-clause-steps
returns-then-size-ne0-clause-steps g c = λ given id is comes. let policy = ap (λ (x : Given). x.policy) is in let sections = ap (λ (x : Given). x.layout.sections) is in let symbols = ap (λ (x : Given). x.layout.symbols) is in let there = comes.there in let below = comes.answered in let here = comes.here in
    let r : Record = c.args.data_sec.now in
    let before : Made = c.args.made.now in
    let now : Made = record before { changes = c.new_name.new.changes } in
    let q : Pass = pass_on c.args.btf.now given c.wants_filler.new.resolver.answers in
    let known = answered g (goal.at.returns-then-size-ne0-clause-steps g c).After-final_size c.in_ok-size.size c.in_ok-size.was c.wants_filler.new.resolver c.wants_filler.result c.wants_filler.ensures.quiet c.wants_filler.ensures.asks given id policy sections there below here in
    let sized : (r.third == 0) ≡ false = ne_eqb r.third 0 (λ is. c.if-size-ne0.true (c.size.ensures ∙ is)) in
    with_fact (λ new. unwrap_or new (DataSec r)) c.rename.result _ (Rules q id (DataSec r) before now) known.all_asked
    (renamed_answer q id r c.in_ok-name_offset.name_offset before now known.named c.rename.result known.granted sized (known.filled ∙ c.if-wants_filler.false) c.rename.ensures.answer c.rename.ensures.fallback)

pub returns-clause-called : goal.returns-clause-called
returns-clause-called g c = called_two g (goal.at.returns-clause-called g c).After-final_size c.in_ok-size.size c.in_ok-size.was c.wants_filler.new.resolver c.wants_filler.result c.wants_filler.ensures.quiet c.wants_filler.ensures.asks

pub returns-clause-further : goal.returns-clause-further
returns-clause-further g c = further_two g (goal.at.returns-clause-further g c).After-final_size c.in_ok-size.size c.in_ok-size.was c.wants_filler.new.resolver c.wants_filler.result c.wants_filler.ensures.quiet c.wants_filler.ensures.asks

pub returns-clause-asks : goal.returns-clause-asks
returns-clause-asks g c = λ given id is comes. let policy = ap (λ (x : Given). x.policy) is in let sections = ap (λ (x : Given). x.layout.sections) is in let there = comes.there in let below = comes.answered in let here = comes.here in ([], (answered g (goal.at.returns-clause-asks g c).After-final_size c.in_ok-size.size c.in_ok-size.was c.wants_filler.new.resolver c.wants_filler.result c.wants_filler.ensures.quiet c.wants_filler.ensures.asks given id policy sections there below here).all_asked)

pub returns-clause-steps : goal.returns-clause-steps
returns-clause-steps g c = λ given id is comes. let policy = ap (λ (x : Given). x.policy) is in let sections = ap (λ (x : Given). x.layout.sections) is in let symbols = ap (λ (x : Given). x.layout.symbols) is in let there = comes.there in let below = comes.answered in let here = comes.here in
    let r : Record = c.args.data_sec.now in
    let before : Made = c.args.made.now in
    let now : Made = record before { changes = c.new_name.new.changes } in
    let q : Pass = pass_on c.args.btf.now given c.wants_filler.new.resolver.answers in
    let known = answered g (goal.at.returns-clause-steps g c).After-final_size c.in_ok-size.size c.in_ok-size.was c.wants_filler.new.resolver c.wants_filler.result c.wants_filler.ensures.quiet c.wants_filler.ensures.asks given id policy sections there below here in
    let unsized : (r.third == 0) ≡ true = eq-eqb r.third 0 (sym c.size.ensures ∙ c.if-size-ne0.false) in
    with_fact (λ new. unwrap_or new (DataSec r)) c.with_symbol_offsets.result _ (Rules q id (DataSec r) before now) known.all_asked
    (laid_answer q id r c.in_ok-name_offset.name_offset before now known.named c.in_ok-size.size c.with_symbol_offsets.result known.granted unsized (known.filled ∙ c.if-wants_filler.false) (ap (λ (z : Bool). if z then section_size q id else Some r.third) (sym unsized) ∙ known.sized) (c.with_symbol_offsets.ensures.answer q refl symbols) c.with_symbol_offsets.ensures.fallback)

pub fill-requires : goal.fill-requires
fill-requires g c =
    (c.in_ok-name_offset.ensures.adds (pass_on c.args.btf.now (record { layout = record { sections = λ _. None; symbols = λ _. None }; policy = c.args.request.now.policy }) (record { feature = features.DataSec; granted = c.is_supported-granted.result } ∷ [])) refl refl).room
