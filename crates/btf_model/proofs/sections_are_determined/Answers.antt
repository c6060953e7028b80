use Rattle.btf_model.proofs.Sections.{same_sections}
use Rattle.btf_model.proofs.sections_are_determined.Goals as goal

pub returns : goal.returns
returns c = same_sections
