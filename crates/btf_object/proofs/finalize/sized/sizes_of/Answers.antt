use Rattle.std.proofs.Common.{sym, ap, ◌∙◌, map}
use Rattle.btf_object.specs.Finalize.{data_sec_size}
use Rattle.btf_object_model.specs.Finalized.{with_ksyms_size}
use Rattle.btf_rewrite_model.specs.declared.ksyms_ids.KsymsIds.{KsymsIds}
use Rattle.std.proofs.Common.{Option}
use Rattle.btf_object.proofs.FinalSections.{ksyms_sizes}
use Rattle.btf_object.proofs.finalize.sized.sizes_of.Goals as goal

pub returns : goal.returns
returns c =
    ksyms_sizes c.args.btf.now c.in-Some.ids c.in-Ok-DataSec.field-0.now c.in-Ok-DataSec.data_sec c.entries.result.now c.in_ok-sizes.sizes.items c.in-Ok-DataSec.field-0-is c.in-Ok-DataSec.ensures.record_is c.in-Ok-DataSec.ensures.kind_is c.entries.ensures.words
    c.in_ok-sizes.ensures
    ∙ ap (λ (ids : Option KsymsIds). map data_sec_size (with_ksyms_size c.args.btf.now ids).records) (sym c.in-Some.is)
