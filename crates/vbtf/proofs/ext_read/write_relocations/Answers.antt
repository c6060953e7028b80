use Rattle.std.proofs.Common.{◌≡◌, ◌∙◌, Err, refl, sym, subst, inr}
use Rattle.std.specs.Prelude.{IfSome}
use Rattle.std.proofs.lemmas.Option.{same_Some}
use Rattle.btf_plain.specs.Error.{refusal_of}
use Rattle.vbtf.specs.Ext.{OpenedExt}
use Rattle.vbtf.specs.ExtRead.{RelocationsOf}
use Rattle.vbtf.proofs.Ending.{refused}
use Rattle.vbtf.proofs.ext_read.write_relocations.Goals as goal

pub returns-in-Err-clause-words : goal.returns-in-Err-clause-words
returns-in-Err-clause-words c ext is =
    let same : c.in-Some.ext ≡ ext = same_Some _ _ (sym c.in-Some.is ∙ is) in
    let o = refusal_of c.in-Err.error in
    let words = subst (λ (e : OpenedExt). IfSome o (λ r. RelocationsOf c.args.opened.now.btf.strings e c.args.name.now (Err r))) same c.in-Err.ensures.words in
    inr (refl, refused c.report.result c.report.new.fault o (RelocationsOf c.args.opened.now.btf.strings ext c.args.name.now) words c.report.ensures)
