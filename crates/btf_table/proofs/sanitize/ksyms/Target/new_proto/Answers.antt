use Rattle.std.proofs.Common.{◌≡◌, ℕ, List, Option, Some, None, Ok, length, refl, sym, ap, ◌∙◌}
use Rattle.btf_model.specs.Record.{Record, kind_of}
use Rattle.btf_model.specs.Refusal.{Refusal}
use Rattle.btf_model.specs.Table.{Table}
use Rattle.btf_rewrite_model.specs.Ksyms.{named_parameters, with_names}
use Rattle.btf_model.proofs.Comparisons.{same_ok}
use Rattle.btf_table.specs.declared.sanitize.ksyms.Placeholder.{Placeholder}
use Rattle.btf_table.specs.KsymsStep.{symbol_target}
use Rattle.btf_table.proofs.KsymsItems.{named_same_len}
use Rattle.btf_table.proofs.sanitize.ksyms.Target.new_proto.Goals as goal

-- the name of a placeholder
name_of : Option Placeholder → ℕ
name_of (Some p) = p.name_offset
name_of None = 0

named_after : (t : Table) (placeholder : Option ℕ) (p : Placeholder) (words : List ℕ) → (symbol_target t placeholder).placeholder ≡ Some p → named_parameters p.name_offset words ≡ with_names t placeholder words
unfolding name_of
named_after t (Some id) p words is = ap (λ (o : Option Placeholder). named_parameters (name_of o) words) (sym is)
named_after t None p words is = cc

pub returns-clause-words : goal.returns-clause-words
returns-clause-words c = λ t placeholder target.
    let old : Record = c.args.proto.now in
    c.in_ok-proto.ensures ∙ ap (λ (ws : List ℕ). Ok (record old { tail = ws })) (named_after t placeholder c.in-Some.placeholder old.tail (sym (ap (λ s. s.placeholder) target) ∙ c.in-Some.is))

pub returns-clause-like : goal.returns-clause-like
returns-clause-like c =
    let old : Record = c.args.proto.now in
    let name : _ = c.in-Some.placeholder.name_offset in
    let same : _ = same_ok {E = Refusal} c.in_ok-proto.proto (record old { tail = named_parameters name old.tail }) c.in_ok-proto.ensures in
    record { kind = ap (λ (r : Record). kind_of r.info) same; length = ap (λ (r : Record). length r.tail) same ∙ named_same_len name old.tail; fallback = refl }
