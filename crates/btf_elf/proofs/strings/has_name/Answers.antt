use Rattle.std.proofs.Common.{◌∙◌, ℕ, ◌+◌, List, length, take, ap}
use Rattle.std.specs.Prelude.{min}
use Rattle.std.specs.List.{before_first}
use Rattle.std.specs.Str.{bytes_eq}
use Rattle.btf_elf_model.specs.Section.{ends_name, string_from}
use Rattle.btf_elf.proofs.Names.{has_name_lem}
use Rattle.btf_elf.proofs.strings.has_name.Goals as goal

pub returns : goal.returns
returns c =
    let name = c.args.name.now in
    let len = length name + 1 in
    c.eq.ensures
    ∙ ap (λ (ys : List ℕ). bytes_eq ys name) (c.before_zero.ensures ∙ ap (λ (n : ℕ). before_first ends_name (take n c.tail-rest.result.now)) c.min-len.ensures
    ∙ ap (λ (rest : List ℕ). before_first ends_name (take (min len (length rest)) rest)) c.tail-rest.ensures)
    ∙ has_name_lem c.args.strings.now name c.from.result
    ∙ ap (λ (n : ℕ). bytes_eq (string_from c.args.strings.now n) name) c.from.ensures
