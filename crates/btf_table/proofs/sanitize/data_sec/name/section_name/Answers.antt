use Rattle.std.proofs.Common.{Bool, sym, ap, ◌∙◌, arith}
use Rattle.std.specs.Prelude.{if◌then◌else◌}
use Rattle.std.proofs.lemmas.Result.{IfOk-weaker}
use Rattle.btf_rewrite_model.specs.Pass.{replaced, slash, dot, underscore_byte}
use Rattle.btf_table.proofs.SectionNames.{replaces_byte}
use Rattle.btf_table.proofs.sanitize.data_sec.name.section_name.Goals as goal

pub returns-then-granted : goal.returns-then-granted
returns-then-granted c =
    let name : _ = c.args.name.now in
    IfOk-weaker c.replace.result _ _ (λ text made.
    replaces_byte dot made.0 slash name _ (omega arith) made.1 ∙ sym (ap (λ (b : Bool). if b then replaced slash dot name else replaced dot underscore_byte name) c.if-granted.true))
    c.replace.ensures.ok

pub returns-else-granted : goal.returns-else-granted
returns-else-granted c =
    let name : _ = c.args.name.now in
    IfOk-weaker c.replace-else-granted.result _ _ (λ text made.
    replaces_byte underscore_byte made.0 dot name _ (omega arith) made.1 ∙ sym (ap (λ (b : Bool). if b then replaced slash dot name else replaced dot underscore_byte name) c.if-granted.false))
    c.replace-else-granted.ensures.ok
