use Rattle.std.proofs.Common.{◌≡◌, ◌∙◌, Ok, List, ℕ, ap, subst}
use Rattle.std.specs.Prelude.{unwrap_or}
use Rattle.std.specs.Result.{result_ok}
use Rattle.std.proofs.lemmas.Option.{same_Some}
use Rattle.btf_ext.specs.BtfExt.{ext as said}
use Rattle.btf_ext.specs.Info.{func_records}
use Rattle.btf_model.specs.Ext.{Records, little_bytes, no_records}
use Rattle.btf_plain.specs.Error.{IsOrNoMemory}
use Rattle.vbtf.proofs.ext_read.func_bytes.Goals as goal

pub returns : goal.returns
returns c =
    let copied = same_Some _ _ (ap result_ok c.in_ok-get.ensures) in
    let found : func_records c.in_ok-get.field-0 ≡ unwrap_or ((said c.args.ext.now).func c.args.name.now) no_records =
    copied ∙ ap (λ (f : List ℕ → _). unwrap_or (f c.args.name.now) no_records) c.func_info.ensures in
    subst (λ bytes. IsOrNoMemory (λ v. v.items) c.func_info_bytes.result (Ok bytes)) (ap (λ (r : Records). little_bytes r.words) found) c.func_info_bytes.ensures
