use Rattle.std.proofs.Common.{Bool, not, ◌||◌, [], Err, refl, sym, subst, ◌∙◌}
use Rattle.btf_model.specs.Record.{vlen}
use Rattle.btf_rewrite_model.specs.Feature.{is_global}
use Rattle.btf_rewrite_model.specs.Made.{typedef}
use Rattle.btf_rewrite_model.specs.Pass.{Pass, has, is_builtin}
use Rattle.btf_rewrite_model.specs.declared.feature.BtfFeature.TheVariants as features
use Rattle.btf_rewrite_model.proofs.Passing.{NextAnswers}
use Rattle.btf_table.specs.PassStep.{pass_on, made_of, Steps}
use Rattle.btf_records.specs.declared.btf_type.BtfType.TheVariants.{Func, Typedef}
use Rattle.std.proofs.lemmas.Option.{IfSome_then}
use Rattle.btf_plain.proofs.Refused.{handed_on}
use Rattle.btf_records.specs.declared.btf_type.BtfType.{BtfType}
use Rattle.btf_table.proofs.PassAsking.{asked_none, asks_called, asks_next, asks_further, further_then, further_none}
use Rattle.btf_table.proofs.FuncRules.{func_unread, func_denied, func_static, func_stays, none_asked, one_granted, one_asked, both_asked, linkage_global, linkage_other, and_first, and_second, and_third, not_if, changes_if, changes_else, stays_if, read_name, unread_name, is_known}
use Rattle.btf_table.specs.contracts.sanitize.func.rewrite_func.F-FnMut.{words}
use Rattle.btf_table.proofs.sanitize.func.rewrite_func.Goals as goal

pub returns-in_err-check_name-clause-asks : goal.returns-in_err-check_name-clause-asks
returns-in_err-check_name-clause-asks g c = λ given id there below. none_asked c.args.btf.now given id c.args.resolver.now.answers below

pub returns-then-not-is_supported-clause-called : goal.returns-then-not-is_supported-clause-called
returns-then-not-is_supported-clause-called g c = λ first called.
    asks_called _ first features.Func c.args.resolver.now c.is_supported.new.self c.is_supported.result c.is_supported.ensures.asks called

pub returns-in_default-clause-called : goal.returns-in_default-clause-called
returns-in_default-clause-called g c = λ first called.
    asks_called _ first features.Func c.args.resolver.now c.is_supported.new.self c.is_supported.result c.is_supported.ensures.asks called

pub returns-in_err-make_static-clause-called : goal.returns-in_err-make_static-clause-called
returns-in_err-make_static-clause-called g c = λ first called.
    asks_called _ first features.Func c.args.resolver.now c.is_supported.new.self c.is_supported.result c.is_supported.ensures.asks called

pub returns-then-is_builtin-clause-called : goal.returns-then-is_builtin-clause-called
returns-then-is_builtin-clause-called g c = λ first called.
    asks_called _ first features.Func c.args.resolver.now c.is_supported.new.self c.is_supported.result c.is_supported.ensures.asks called

pub returns-then-is_supported-clause-called : goal.returns-then-is_supported-clause-called
returns-then-is_supported-clause-called g c = λ first called.
    asks_called _ first features.FuncGlobal c.is_supported.new.self c.is_supported-2.new.self c.is_supported-2.result c.is_supported-2.ensures.asks
    (asks_called _ first features.Func c.args.resolver.now c.is_supported.new.self c.is_supported.result c.is_supported.ensures.asks called)

pub returns-in_err-make_static-2-clause-called : goal.returns-in_err-make_static-2-clause-called
returns-in_err-make_static-2-clause-called g c = λ first called.
    asks_called _ first features.FuncGlobal c.is_supported.new.self c.is_supported-2.new.self c.is_supported-2.result c.is_supported-2.ensures.asks
    (asks_called _ first features.Func c.args.resolver.now c.is_supported.new.self c.is_supported.result c.is_supported.ensures.asks called)

pub returns-clause-called : goal.returns-clause-called
returns-clause-called g c = λ first called.
    asks_called _ first features.FuncGlobal c.is_supported.new.self c.is_supported-2.new.self c.is_supported-2.result c.is_supported-2.ensures.asks
    (asks_called _ first features.Func c.args.resolver.now c.is_supported.new.self c.is_supported.result c.is_supported.ensures.asks called)

pub returns-then-not-is_supported-clause-asks : goal.returns-then-not-is_supported-clause-asks
returns-then-not-is_supported-clause-asks g c = λ given id there below.
    let n = read_name c.args.btf.now.strings c.name_offset-name_offset.result c.args.func.now.name c.in_ok-check_name.ensures c.name_offset-name_offset.ensures.value in (
      [],
      one_asked c.args.btf.now given id (Func c.args.func.now) there there.kind_is n.0 n.1 c.args.resolver.now.answers below c.is_supported.new.self.answers c.is_supported.result (asks_next (words g.row.F g.F.FnMut).step features.Func c.args.resolver.now c.is_supported.new.self c.is_supported.result c.is_supported.ensures.asks)
          (and_first c.is_supported.result (is_global c.args.func.now) (not (is_builtin n.0)) c.if-not-is_supported.true),
    )

pub returns-in_default-clause-asks : goal.returns-in_default-clause-asks
returns-in_default-clause-asks g c = λ given id there below.
    let n = read_name c.args.btf.now.strings c.name_offset-name_offset.result c.args.func.now.name c.in_ok-check_name.ensures c.name_offset-name_offset.ensures.value in (
      [],
      one_asked c.args.btf.now given id (Func c.args.func.now) there there.kind_is n.0 n.1 c.args.resolver.now.answers below c.is_supported.new.self.answers c.is_supported.result (asks_next (words g.row.F g.F.FnMut).step features.Func c.args.resolver.now c.is_supported.new.self c.is_supported.result c.is_supported.ensures.asks)
          (and_second c.is_supported.result (is_global c.args.func.now) (not (is_builtin n.0)) (linkage_other (vlen c.args.func.now.info) (λ is. c.in_default.not-Global (c.linkage.ensures ∙ is)))),
    )

pub returns-in_err-make_static-clause-asks : goal.returns-in_err-make_static-clause-asks
returns-in_err-make_static-clause-asks g c = λ given id there below.
    let n = read_name c.args.btf.now.strings c.name_offset-name_offset.result c.args.func.now.name c.in_ok-check_name.ensures c.name_offset-name_offset.ensures.value in (
      [],
      one_asked c.args.btf.now given id (Func c.args.func.now) there there.kind_is n.0 n.1 c.args.resolver.now.answers below c.is_supported.new.self.answers c.is_supported.result (asks_next (words g.row.F g.F.FnMut).step features.Func c.args.resolver.now c.is_supported.new.self c.is_supported.result c.is_supported.ensures.asks)
          (and_third c.is_supported.result (is_global c.args.func.now) (is_builtin n.0) (is_known c.args.btf.now.strings c.strings_from.result.now n.0 c.name_offset-name_offset.result c.args.func.now.name c.is_builtin.result c.strings_from.ensures c.name_offset-name_offset.ensures.value n.1 c.is_builtin.ensures ∙ c.if-is_builtin.true)),
    )

pub returns-then-is_builtin-clause-asks : goal.returns-then-is_builtin-clause-asks
returns-then-is_builtin-clause-asks g c = λ given id there below.
    let n = read_name c.args.btf.now.strings c.name_offset-name_offset.result c.args.func.now.name c.in_ok-check_name.ensures c.name_offset-name_offset.ensures.value in (
      [],
      one_asked c.args.btf.now given id (Func c.args.func.now) there there.kind_is n.0 n.1 c.args.resolver.now.answers below c.is_supported.new.self.answers c.is_supported.result (asks_next (words g.row.F g.F.FnMut).step features.Func c.args.resolver.now c.is_supported.new.self c.is_supported.result c.is_supported.ensures.asks)
          (and_third c.is_supported.result (is_global c.args.func.now) (is_builtin n.0) (is_known c.args.btf.now.strings c.strings_from.result.now n.0 c.name_offset-name_offset.result c.args.func.now.name c.is_builtin.result c.strings_from.ensures c.name_offset-name_offset.ensures.value n.1 c.is_builtin.ensures ∙ c.if-is_builtin.true)),
    )

pub returns-then-is_supported-clause-asks : goal.returns-then-is_supported-clause-asks
returns-then-is_supported-clause-asks g c = λ given id there below.
    let n = read_name c.args.btf.now.strings c.name_offset-name_offset.result c.args.func.now.name c.in_ok-check_name.ensures c.name_offset-name_offset.ensures.value in (
      [],
      (both_asked c.args.btf.now given id (Func c.args.func.now) there there.kind_is n.0 n.1 c.args.resolver.now.answers below c.is_supported.new.self.answers c.is_supported-2.new.self.answers c.is_supported-2.result (subst (λ (b : Bool). NextAnswers c.args.resolver.now.answers features.Func b c.is_supported.new.self.answers) c.if-not-is_supported.false (asks_next (words g.row.F g.F.FnMut).step features.Func c.args.resolver.now c.is_supported.new.self c.is_supported.result c.is_supported.ensures.asks)) (asks_next (words g.row.F g.F.FnMut).step features.FuncGlobal c.is_supported.new.self c.is_supported-2.new.self c.is_supported-2.result c.is_supported-2.ensures.asks)
          (linkage_global (vlen c.args.func.now.info) (sym c.linkage.ensures ∙ c.in-Global.is)) (is_known c.args.btf.now.strings c.strings_from.result.now n.0 c.name_offset-name_offset.result c.args.func.now.name c.is_builtin.result c.strings_from.ensures c.name_offset-name_offset.ensures.value n.1 c.is_builtin.ensures ∙ c.if-is_builtin.false)).0,
    )

pub returns-in_err-make_static-2-clause-asks : goal.returns-in_err-make_static-2-clause-asks
returns-in_err-make_static-2-clause-asks g c = λ given id there below.
    let n = read_name c.args.btf.now.strings c.name_offset-name_offset.result c.args.func.now.name c.in_ok-check_name.ensures c.name_offset-name_offset.ensures.value in (
      [],
      (both_asked c.args.btf.now given id (Func c.args.func.now) there there.kind_is n.0 n.1 c.args.resolver.now.answers below c.is_supported.new.self.answers c.is_supported-2.new.self.answers c.is_supported-2.result (subst (λ (b : Bool). NextAnswers c.args.resolver.now.answers features.Func b c.is_supported.new.self.answers) c.if-not-is_supported.false (asks_next (words g.row.F g.F.FnMut).step features.Func c.args.resolver.now c.is_supported.new.self c.is_supported.result c.is_supported.ensures.asks)) (asks_next (words g.row.F g.F.FnMut).step features.FuncGlobal c.is_supported.new.self c.is_supported-2.new.self c.is_supported-2.result c.is_supported-2.ensures.asks)
          (linkage_global (vlen c.args.func.now.info) (sym c.linkage.ensures ∙ c.in-Global.is)) (is_known c.args.btf.now.strings c.strings_from.result.now n.0 c.name_offset-name_offset.result c.args.func.now.name c.is_builtin.result c.strings_from.ensures c.name_offset-name_offset.ensures.value n.1 c.is_builtin.ensures ∙ c.if-is_builtin.false)).0,
    )

pub returns-clause-asks : goal.returns-clause-asks
returns-clause-asks g c = λ given id there below.
    let n = read_name c.args.btf.now.strings c.name_offset-name_offset.result c.args.func.now.name c.in_ok-check_name.ensures c.name_offset-name_offset.ensures.value in (
      [],
      (both_asked c.args.btf.now given id (Func c.args.func.now) there there.kind_is n.0 n.1 c.args.resolver.now.answers below c.is_supported.new.self.answers c.is_supported-2.new.self.answers c.is_supported-2.result (subst (λ (b : Bool). NextAnswers c.args.resolver.now.answers features.Func b c.is_supported.new.self.answers) c.if-not-is_supported.false (asks_next (words g.row.F g.F.FnMut).step features.Func c.args.resolver.now c.is_supported.new.self c.is_supported.result c.is_supported.ensures.asks)) (asks_next (words g.row.F g.F.FnMut).step features.FuncGlobal c.is_supported.new.self c.is_supported-2.new.self c.is_supported-2.result c.is_supported-2.ensures.asks)
          (linkage_global (vlen c.args.func.now.info) (sym c.linkage.ensures ∙ c.in-Global.is)) (is_known c.args.btf.now.strings c.strings_from.result.now n.0 c.name_offset-name_offset.result c.args.func.now.name c.is_builtin.result c.strings_from.ensures c.name_offset-name_offset.ensures.value n.1 c.is_builtin.ensures ∙ c.if-is_builtin.false)).0,
    )

pub returns-then-not-is_supported-clause-steps : goal.returns-then-not-is_supported-clause-steps
returns-then-not-is_supported-clause-steps g c = λ given id made comes. let there = comes.there in let below = comes.answered in let here = comes.here in
    let n = read_name c.args.btf.now.strings c.name_offset-name_offset.result c.args.func.now.name c.in_ok-check_name.ensures c.name_offset-name_offset.ensures.value in (
      one_asked c.args.btf.now given id (Func c.args.func.now) there there.kind_is n.0 n.1 c.args.resolver.now.answers below c.is_supported.new.self.answers c.is_supported.result (asks_next (words g.row.F g.F.FnMut).step features.Func c.args.resolver.now c.is_supported.new.self c.is_supported.result c.is_supported.ensures.asks)
          (and_first c.is_supported.result (is_global c.args.func.now) (not (is_builtin n.0)) c.if-not-is_supported.true),
      func_denied (pass_on c.args.btf.now given c.is_supported.new.self.answers) id (Func c.args.func.now) there there.kind_is made here n.0 n.1 refl (Typedef (typedef c.args.func.now.name c.args.func.now.third)) refl (one_granted c.args.btf.now given id (Func c.args.func.now) there there.kind_is n.0 n.1 c.args.resolver.now.answers below c.is_supported.new.self.answers c.is_supported.result (asks_next (words g.row.F g.F.FnMut).step features.Func c.args.resolver.now c.is_supported.new.self c.is_supported.result c.is_supported.ensures.asks) ∙ c.if-not-is_supported.true) refl there.tail_is,
    )

pub returns-in_default-clause-steps : goal.returns-in_default-clause-steps
returns-in_default-clause-steps g c = λ given id made comes. let there = comes.there in let below = comes.answered in let here = comes.here in
    let n = read_name c.args.btf.now.strings c.name_offset-name_offset.result c.args.func.now.name c.in_ok-check_name.ensures c.name_offset-name_offset.ensures.value in (
      one_asked c.args.btf.now given id (Func c.args.func.now) there there.kind_is n.0 n.1 c.args.resolver.now.answers below c.is_supported.new.self.answers c.is_supported.result (asks_next (words g.row.F g.F.FnMut).step features.Func c.args.resolver.now c.is_supported.new.self c.is_supported.result c.is_supported.ensures.asks)
          (and_second c.is_supported.result (is_global c.args.func.now) (not (is_builtin n.0)) (linkage_other (vlen c.args.func.now.info) (λ is. c.in_default.not-Global (c.linkage.ensures ∙ is)))),
      func_stays (pass_on c.args.btf.now given c.is_supported.new.self.answers) id (Func c.args.func.now) there there.kind_is made here n.0 n.1 refl (Func c.args.func.now) refl (one_granted c.args.btf.now given id (Func c.args.func.now) there there.kind_is n.0 n.1 c.args.resolver.now.answers below c.is_supported.new.self.answers c.is_supported.result (asks_next (words g.row.F g.F.FnMut).step features.Func c.args.resolver.now c.is_supported.new.self c.is_supported.result c.is_supported.ensures.asks) ∙ c.if-not-is_supported.false) (not_if (is_global c.args.func.now) (is_builtin n.0 || not (has (pass_on c.args.btf.now given c.is_supported.new.self.answers) features.FuncGlobal)) (linkage_other (vlen c.args.func.now.info) (λ is. c.in_default.not-Global (c.linkage.ensures ∙ is)))) refl,
    )

pub returns-then-is_builtin-clause-steps : goal.returns-then-is_builtin-clause-steps
returns-then-is_builtin-clause-steps g c = λ given id made comes. let there = comes.there in let below = comes.answered in let here = comes.here in
    let n = read_name c.args.btf.now.strings c.name_offset-name_offset.result c.args.func.now.name c.in_ok-check_name.ensures c.name_offset-name_offset.ensures.value in (
      one_asked c.args.btf.now given id (Func c.args.func.now) there there.kind_is n.0 n.1 c.args.resolver.now.answers below c.is_supported.new.self.answers c.is_supported.result (asks_next (words g.row.F g.F.FnMut).step features.Func c.args.resolver.now c.is_supported.new.self c.is_supported.result c.is_supported.ensures.asks)
          (and_third c.is_supported.result (is_global c.args.func.now) (is_builtin n.0) (is_known c.args.btf.now.strings c.strings_from.result.now n.0 c.name_offset-name_offset.result c.args.func.now.name c.is_builtin.result c.strings_from.ensures c.name_offset-name_offset.ensures.value n.1 c.is_builtin.ensures ∙ c.if-is_builtin.true)),
      func_static (pass_on c.args.btf.now given c.is_supported.new.self.answers) id (Func c.args.func.now) there there.kind_is made here n.0 n.1 refl (Func c.in_ok-make_static.field-0) refl (one_granted c.args.btf.now given id (Func c.args.func.now) there there.kind_is n.0 n.1 c.args.resolver.now.answers below c.is_supported.new.self.answers c.is_supported.result (asks_next (words g.row.F g.F.FnMut).step features.Func c.args.resolver.now c.is_supported.new.self c.is_supported.result c.is_supported.ensures.asks) ∙ c.if-not-is_supported.false) (changes_if (is_global c.args.func.now) (is_builtin n.0) (has (pass_on c.args.btf.now given c.is_supported.new.self.answers) features.FuncGlobal) (linkage_global (vlen c.args.func.now.info) (sym c.linkage.ensures ∙ c.in-Global.is)) (is_known c.args.btf.now.strings c.strings_from.result.now n.0 c.name_offset-name_offset.result c.args.func.now.name c.is_builtin.result c.strings_from.ensures c.name_offset-name_offset.ensures.value n.1 c.is_builtin.ensures ∙ c.if-is_builtin.true)) c.in_ok-make_static.ensures,
    )

pub returns-then-is_supported-clause-steps : goal.returns-then-is_supported-clause-steps
returns-then-is_supported-clause-steps g c = λ given id made comes. let there = comes.there in let below = comes.answered in let here = comes.here in
    let n = read_name c.args.btf.now.strings c.name_offset-name_offset.result c.args.func.now.name c.in_ok-check_name.ensures c.name_offset-name_offset.ensures.value in
    let both = both_asked c.args.btf.now given id (Func c.args.func.now) there there.kind_is n.0 n.1 c.args.resolver.now.answers below c.is_supported.new.self.answers c.is_supported-2.new.self.answers c.is_supported-2.result (subst (λ (b : Bool). NextAnswers c.args.resolver.now.answers features.Func b c.is_supported.new.self.answers) c.if-not-is_supported.false (asks_next (words g.row.F g.F.FnMut).step features.Func c.args.resolver.now c.is_supported.new.self c.is_supported.result c.is_supported.ensures.asks)) (asks_next (words g.row.F g.F.FnMut).step features.FuncGlobal c.is_supported.new.self c.is_supported-2.new.self c.is_supported-2.result c.is_supported-2.ensures.asks)
    (linkage_global (vlen c.args.func.now.info) (sym c.linkage.ensures ∙ c.in-Global.is)) (is_known c.args.btf.now.strings c.strings_from.result.now n.0 c.name_offset-name_offset.result c.args.func.now.name c.is_builtin.result c.strings_from.ensures c.name_offset-name_offset.ensures.value n.1 c.is_builtin.ensures ∙ c.if-is_builtin.false) in (
      both.0,
      func_stays (pass_on c.args.btf.now given c.is_supported-2.new.self.answers) id (Func c.args.func.now) there there.kind_is made here n.0 n.1 refl (Func c.args.func.now) refl both.1 (stays_if (is_global c.args.func.now) (is_builtin n.0) (has (pass_on c.args.btf.now given c.is_supported-2.new.self.answers) features.FuncGlobal) (linkage_global (vlen c.args.func.now.info) (sym c.linkage.ensures ∙ c.in-Global.is)) (is_known c.args.btf.now.strings c.strings_from.result.now n.0 c.name_offset-name_offset.result c.args.func.now.name c.is_builtin.result c.strings_from.ensures c.name_offset-name_offset.ensures.value n.1 c.is_builtin.ensures ∙ c.if-is_builtin.false) (both.2 ∙ c.if-is_supported.true)) refl,
    )

pub returns-clause-steps : goal.returns-clause-steps
returns-clause-steps g c = λ given id made comes. let there = comes.there in let below = comes.answered in let here = comes.here in
    let n = read_name c.args.btf.now.strings c.name_offset-name_offset.result c.args.func.now.name c.in_ok-check_name.ensures c.name_offset-name_offset.ensures.value in
    let both = both_asked c.args.btf.now given id (Func c.args.func.now) there there.kind_is n.0 n.1 c.args.resolver.now.answers below c.is_supported.new.self.answers c.is_supported-2.new.self.answers c.is_supported-2.result (subst (λ (b : Bool). NextAnswers c.args.resolver.now.answers features.Func b c.is_supported.new.self.answers) c.if-not-is_supported.false (asks_next (words g.row.F g.F.FnMut).step features.Func c.args.resolver.now c.is_supported.new.self c.is_supported.result c.is_supported.ensures.asks)) (asks_next (words g.row.F g.F.FnMut).step features.FuncGlobal c.is_supported.new.self c.is_supported-2.new.self c.is_supported-2.result c.is_supported-2.ensures.asks)
    (linkage_global (vlen c.args.func.now.info) (sym c.linkage.ensures ∙ c.in-Global.is)) (is_known c.args.btf.now.strings c.strings_from.result.now n.0 c.name_offset-name_offset.result c.args.func.now.name c.is_builtin.result c.strings_from.ensures c.name_offset-name_offset.ensures.value n.1 c.is_builtin.ensures ∙ c.if-is_builtin.false) in (
      both.0,
      func_static (pass_on c.args.btf.now given c.is_supported-2.new.self.answers) id (Func c.args.func.now) there there.kind_is made here n.0 n.1 refl (Func c.in_ok-make_static-2.field-0) refl both.1 (changes_else (is_global c.args.func.now) (is_builtin n.0) (has (pass_on c.args.btf.now given c.is_supported-2.new.self.answers) features.FuncGlobal) (linkage_global (vlen c.args.func.now.info) (sym c.linkage.ensures ∙ c.in-Global.is)) (is_known c.args.btf.now.strings c.strings_from.result.now n.0 c.name_offset-name_offset.result c.args.func.now.name c.is_builtin.result c.strings_from.ensures c.name_offset-name_offset.ensures.value n.1 c.is_builtin.ensures ∙ c.if-is_builtin.false) (both.2 ∙ c.if-is_supported.false)) c.in_ok-make_static-2.ensures,
    )

pub returns-then-not-is_supported-clause-further : goal.returns-then-not-is_supported-clause-further
returns-then-not-is_supported-clause-further g c = asks_further (words g.row.F g.F.FnMut).step features.Func c.args.resolver.now c.is_supported.new.self c.is_supported.result c.is_supported.ensures.asks

pub returns-in_default-clause-further : goal.returns-in_default-clause-further
returns-in_default-clause-further g c = asks_further (words g.row.F g.F.FnMut).step features.Func c.args.resolver.now c.is_supported.new.self c.is_supported.result c.is_supported.ensures.asks

pub returns-in_err-make_static-clause-further : goal.returns-in_err-make_static-clause-further
returns-in_err-make_static-clause-further g c = asks_further (words g.row.F g.F.FnMut).step features.Func c.args.resolver.now c.is_supported.new.self c.is_supported.result c.is_supported.ensures.asks

pub returns-then-is_builtin-clause-further : goal.returns-then-is_builtin-clause-further
returns-then-is_builtin-clause-further g c = asks_further (words g.row.F g.F.FnMut).step features.Func c.args.resolver.now c.is_supported.new.self c.is_supported.result c.is_supported.ensures.asks

pub returns-then-is_supported-clause-further : goal.returns-then-is_supported-clause-further
returns-then-is_supported-clause-further g c = further_then c.args.resolver.now.answers c.is_supported.new.self.answers c.is_supported-2.new.self.answers (asks_further (words g.row.F g.F.FnMut).step features.Func c.args.resolver.now c.is_supported.new.self c.is_supported.result c.is_supported.ensures.asks)
    (asks_further (words g.row.F g.F.FnMut).step features.FuncGlobal c.is_supported.new.self c.is_supported-2.new.self c.is_supported-2.result c.is_supported-2.ensures.asks)

pub returns-in_err-make_static-2-clause-further : goal.returns-in_err-make_static-2-clause-further
returns-in_err-make_static-2-clause-further g c = further_then c.args.resolver.now.answers c.is_supported.new.self.answers c.is_supported-2.new.self.answers (asks_further (words g.row.F g.F.FnMut).step features.Func c.args.resolver.now c.is_supported.new.self c.is_supported.result c.is_supported.ensures.asks)
    (asks_further (words g.row.F g.F.FnMut).step features.FuncGlobal c.is_supported.new.self c.is_supported-2.new.self c.is_supported-2.result c.is_supported-2.ensures.asks)

pub returns-clause-further : goal.returns-clause-further
returns-clause-further g c = further_then c.args.resolver.now.answers c.is_supported.new.self.answers c.is_supported-2.new.self.answers (asks_further (words g.row.F g.F.FnMut).step features.Func c.args.resolver.now c.is_supported.new.self c.is_supported.result c.is_supported.ensures.asks)
    (asks_further (words g.row.F g.F.FnMut).step features.FuncGlobal c.is_supported.new.self c.is_supported-2.new.self c.is_supported-2.result c.is_supported-2.ensures.asks)

pub returns-in_err-check_name-clause-further : goal.returns-in_err-check_name-clause-further
returns-in_err-check_name-clause-further g c = further_none c.args.resolver.now.answers

pub returns-in_err-check_name-clause-steps : goal.returns-in_err-check_name-clause-steps
returns-in_err-check_name-clause-steps g c = λ given id made comes. let there = comes.there in let below = comes.answered in let here = comes.here in
    let b : BtfType = Func c.args.func.now in
    let p : Pass = pass_on c.args.btf.now given c.args.resolver.now.answers in
    handed_on (λ o. made_of o b) c.in_err-check_name.field-0.0 c.from_residual.result (Steps p id c.args.resolver.now.answers b made made) c.from_residual.ensures.1
    (IfSome_then _ c.in_err-check_name.ensures (λ refusal is.
    let unread = func_unread p id b there there.kind_is refusal (unread_name c.args.btf.now.strings c.name_offset-name_offset.result c.args.func.now.name refusal is c.name_offset-name_offset.ensures.value) in
    let refuses : Steps p id c.args.resolver.now.answers b made made (Err refusal) = (([], asked_none p id below, unread.0), unread.1) in
    refuses))
