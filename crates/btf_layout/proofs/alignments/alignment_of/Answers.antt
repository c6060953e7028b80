use Rattle.std.proofs.Common.{◌∙◌, List, length, drop, sym, ap, subst}
use Rattle.std.proofs.lemmas.List.{take_at}
use Rattle.btf_layout_model.specs.Alignment.{HasAlignment}
use Rattle.btf_layout.specs.declared.progress.Progress.{Progress}
use Rattle.btf_layout.specs.Progress.{alignment_answer, progress_in}
use Rattle.btf_layout.proofs.Answering.{represents, known_answers}
use Rattle.btf_layout.proofs.alignments.alignment_of.Goals as goal

pub returns : goal.returns
returns c =
    represents c.answer_in.result (alignment_answer c.args.type_id (progress_in c.deref.result.now c.args.type_id)) (HasAlignment c.args.table.now.records c.args.type_id) c.answer_in.ensures
    (subst (λ (ps : List Progress). HasAlignment c.args.table.now.records c.args.type_id (alignment_answer c.args.type_id (progress_in ps c.args.type_id)))
    (sym (c.deref.ensures.value ∙ take_at c.run.new.known (drop (length c.run.new.known) c.in_ok-known.known.items) c.in_ok-known.known.len (c.run.auto.known ∙ ap (λ (ps : List Progress). length ps) c.deref_mut.ensures.value ∙ sym c.in_ok-known.known.ok.0)))
    (known_answers c.args.table.now.records c.run.new.known c.in_ok-run.ensures.known c.args.type_id c.in_ok-run.ensures.root))
