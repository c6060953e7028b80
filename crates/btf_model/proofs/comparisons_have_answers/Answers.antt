use Rattle.btf_model.proofs.FieldWalks.{field_answers, valid_has_kinds}
use Rattle.btf_model.proofs.PlainAnswers.{plain_answers}
use Rattle.btf_model.proofs.comparisons_have_answers.Goals as goal

pub returns : goal.returns
returns c = record { fields = field_answers; types = plain_answers; kinds = valid_has_kinds }
