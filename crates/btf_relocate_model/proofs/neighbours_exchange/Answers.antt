use Rattle.btf_relocate_model.proofs.Exchanges as exchanges
use Rattle.btf_relocate_model.proofs.neighbours_exchange.Goals as goal

pub returns : goal.returns
returns c = exchanges.neighbours_exchange
