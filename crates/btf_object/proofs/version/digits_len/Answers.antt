use Rattle.std.proofs.Common.{◌≡◌, ℕ, List, None, ap, sym, ◌∙◌}
use Rattle.std.specs.Prelude.{position, length}
use Rattle.std.specs.List.{position_or_len}
use Rattle.btf_object.specs.Kernel.{is_other}
use Rattle.btf_elf.proofs.ShortNames.{none_or_len}
use Rattle.btf_object.proofs.version.digits_len.Goals as goal

pub returns-in-None : goal.returns-in-None
returns-in-None c =
    let none : position is_other c.as_bytes.result.now ≡ None = sym c.first_other.ensures ∙ c.in-None.is in
    ap (λ (text : List ℕ). length text) (sym c.as_bytes.ensures.value) ∙ sym (none_or_len is_other c.as_bytes.result.now none) ∙ ap (position_or_len is_other) c.as_bytes.ensures.value
