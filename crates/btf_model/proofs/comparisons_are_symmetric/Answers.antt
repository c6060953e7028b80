use Rattle.btf_model.proofs.MirroredFields.{fields_mirrored, fields_refused}
use Rattle.btf_model.proofs.MirroredPlain.{plain_mirrored, plain_refused}
use Rattle.btf_model.proofs.comparisons_are_symmetric.Goals as goal

pub returns : goal.returns
returns c = record { fields = fields_mirrored; types = plain_mirrored; refused_fields = fields_refused; refused_types = plain_refused }
