use Rattle.std.proofs.Common.{◌∙◌, sym, ap, length}
use Rattle.std.proofs.lemmas.List.{length-map}
use Rattle.btf_ext.specs.Info.{func_records, line_records}
use Rattle.btf_ext.specs.Relocation.{relocation}
use Rattle.vbtf.proofs.SectionNames.{counted}
use Rattle.vbtf.proofs.ext.sizes_of.Goals as goal

pub returns : goal.returns
returns c = (
  c.in-Some.ext,
  c.in-Some.is,
  record {
    func_size = c.func_info_rec_size.ensures;
    line_size = c.line_info_rec_size.ensures;
    func_sections = counted func_records c.func_info.result.now.sections _ c.len.result (λ name. ap (λ f. f name) c.func_info.ensures) c.len.ensures.unique c.len.ensures.len;
    line_sections = counted line_records c.line_info.result.now.sections _ c.len-2.result (λ name. ap (λ f. f name) c.line_info.ensures) c.len-2.ensures.unique c.len-2.ensures.len;
    relocation_sections = sym (length-map c.relocations.result.now relocation) ∙ ap length c.relocations.ensures;
  },
)
