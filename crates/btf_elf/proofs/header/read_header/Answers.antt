use Rattle.std.proofs.Common.{◌∙◌, ℕ, List, ap}
use Rattle.btf_model.specs.declared.endianness.Endianness.{Endianness}
use Rattle.btf_elf_model.specs.Header.{header_in, order_of, file_header}
use Rattle.btf_elf.proofs.header.read_header.Goals as goal

pub returns-clause-ok : goal.returns-clause-ok
unfolding file_header
returns-clause-ok c =
    c.header_in.ensures
    ∙ ap (λ (order : Endianness). header_in order c.front-front.result.now) c.in_ok-order.ensures.ok.0
    ∙ ap (λ (bytes : List ℕ). header_in (order_of bytes) bytes) c.front-front.ensures
