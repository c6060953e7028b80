use Rattle.std.proofs.Common.{◌≡◌, ℕ, List, Bor, subst, ◌∙◌, inl, inr}
use Rattle.std.specs.Option.{option_map}
use Rattle.btf_model.specs.Blob.{IsTable, canon}
use Rattle.btf_model.specs.Refusal.{Refusal}
use Rattle.btf_model.specs.Table.{Table, strip}
use Rattle.btf_model.specs.declared.endianness.Endianness.{Endianness}
use Rattle.btf_model.proofs.Comparisons.{same_ok}
use Rattle.btf_elf_model.specs.declared.file_header.FileHeader.{FileHeader}
use Rattle.btf_table.specs.Layout.{layout_of}
use Rattle.btf_object.specs.Errors.{target_of}
use Rattle.btf_object.proofs.Rewrites.{rewrites_so, refuses_so, passed_on}
use Rattle.btf_object.proofs.table.rewrite_table.Given.{Over}
use Rattle.btf_object.proofs.table.rewrite_table.Goals as goal
use Rattle.btf_object.proofs.table.rewrite_table.Goals.{In_ok-btf}

-- the bytes represent the table, in the object's byte order
parsed : (g : Over) (c : In_ok-btf g) → IsTable c.args.object.now.header.order c.args.table.now c.in_ok-btf.btf
parsed g c = subst (λ (h : FileHeader). IsTable h.order c.args.table.now c.in_ok-btf.btf) c.header.ensures c.in_ok-btf.ensures.parsed

pub returns-in_err-ids-clause-refused : goal.returns-in_err-ids-clause-refused
returns-in_err-ids-clause-refused g c =
    passed_on _ _ c.in_err-ids.field-0.0 c.from_residual-in_err-ids.result (λ (refusal : Refusal) finds. inr (inl (c.in_ok-btf.btf, parsed g (goal.at.returns-in_err-ids-clause-refused g c).In_ok-btf, finds))) c.in_err-ids.ensures
    c.from_residual-in_err-ids.ensures.1

pub returns-in_err-answers-clause-refused : goal.returns-in_err-answers-clause-refused
returns-in_err-answers-clause-refused g c =
    let at = goal.at.returns-in_err-answers-clause-refused g c in
    passed_on _ _ c.in_err-answers.field-0.0 c.from_residual-in_err-answers.result
    (refuses_so c.args.object.now c.args.table.now (target_of c.args.kernel.now c.args.policy (option_map (λ (name : Bor (List ℕ)). name.now) c.args.placeholder)) c.in_ok-btf.btf c.in_ok-ids.ids (layout_of c.in_ok-layout.layout.sections c.in_ok-layout.layout.symbols)
    c.in_ok-layout.ensures.layout (parsed g at.In_ok-btf) c.in_ok-ids.ensures)
    c.in_err-answers.ensures.refused c.from_residual-in_err-answers.ensures.1

pub returns-clause-made : goal.returns-clause-made
returns-clause-made g c =
    let at = goal.at.returns-clause-made g c in
    let new : Table = c.rewrite_for.new.btf in
    let order : Endianness = c.args.object.now.header.order in
    let bytes_are : c.in_ok-to_bytes.field-0.items ≡ canon new = same_ok {E = Refusal} c.in_ok-to_bytes.field-0.items (canon new) c.in_ok-to_bytes.ensures.written in
    let order_is : new.order ≡ order = c.in_ok-answers.ensures.order ∙ (parsed g at.In_ok-btf).same_order in
    let written : IsTable order (canon new) (strip new) =
    subst (λ (bytes : List ℕ). IsTable order bytes (strip new)) bytes_are (subst (λ (e : Endianness). IsTable e c.in_ok-to_bytes.field-0.items (strip new)) order_is c.in_ok-to_bytes.ensures.parses_back) in (
      c.in_ok-btf.btf,
      new,
      rewrites_so c.args.object.now c.args.table.now (target_of c.args.kernel.now c.args.policy (option_map (λ (name : Bor (List ℕ)). name.now) c.args.placeholder)) c.in_ok-btf.btf c.in_ok-ids.ids
          (layout_of c.in_ok-layout.layout.sections c.in_ok-layout.layout.symbols) c.in_ok-layout.ensures.layout (parsed g at.In_ok-btf) c.in_ok-ids.ensures new c.in_ok-answers.answers.items c.in_ok-answers.ensures.rewritten
          c.in_ok-answers.ensures.answers.of_kernel c.in_ok-answers.ensures.answers.asked_for written,
      bytes_are,
    )
