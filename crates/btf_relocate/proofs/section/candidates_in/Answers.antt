use Rattle.std.proofs.Common.{ℕ, List, ap, ◌∙◌}
use Rattle.btf_view.specs.TypeRef.{record_in}
use Rattle.btf_relocate_model.specs.Candidates.{first_candidates}
use Rattle.btf_relocate_model.specs.Types.{name_or_none}
use Rattle.btf_relocate.specs.Index.{kind_code}
use Rattle.btf_relocate.proofs.Indexes.{items_are, candidates_of_record}
use Rattle.btf_relocate.proofs.KindNumbers.{code_of_info}
use Rattle.btf_relocate.proofs.section.candidates_in.Goals as goal

pub returns-in-Ok : goal.returns-in-Ok
returns-in-Ok c =
    let r = record_in c.in-Ok.btf_type in
    items_are c.candidates.result c.candidates.ensures
    (ap (λ (name : List ℕ). first_candidates c.args.target.now name (kind_code c.kind.result)) (c.name_or_none-name.ensures ∙ ap (name_or_none c.args.local.now) c.name_offset.ensures)
    ∙ ap (λ (kind : ℕ). first_candidates c.args.target.now (name_or_none c.args.local.now r.name) kind) (code_of_info c.kind.result r.info c.kind.ensures.info)
    ∙ candidates_of_record c.args.local.now c.args.target.now c.args.type_id r c.in-Ok.ensures)
