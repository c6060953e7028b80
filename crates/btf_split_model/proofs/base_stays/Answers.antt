use Rattle.btf_split_model.proofs.Joining.{joined_extends}
use Rattle.btf_split_model.proofs.Staying.{record_stays, text_of_base}
use Rattle.btf_split_model.proofs.base_stays.Goals as goal

pub returns : goal.returns
returns c = record { extends = joined_extends; types = record_stays; texts = text_of_base }
