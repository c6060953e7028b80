use Rattle.std.proofs.Common.{ℕ, List}
use Rattle.btf_model.specs.Blob.{canon}
use Rattle.btf_model.specs.Refusal.{Refusal}
use Rattle.btf_model.specs.Table.{Table}
use Rattle.btf_model.proofs.Comparisons.{same_ok}
use Rattle.btf_rewrite_model.specs.Pass.{no_layout}
use Rattle.btf_rewrite_model.specs.FeatureSet.{answers_of}
use Rattle.btf_table.specs.PassStep.{given_under}
use Rattle.btf_table.proofs.Rewriting.{written_again}
use Rattle.btf_object_model.specs.Sanitized.{Target}
use Rattle.btfobj_cli.specs.Rewrite.{chosen_target}
use Rattle.btfobj_cli.proofs.rewrite.sanitize_table.Goals as goal

pub returns : goal.returns
returns c =
    let target : Target = chosen_target c.args.rewrite.now in
    let made = c.in_ok-answers.ensures in
    let old : Table = c.args.table in
    let new : Table = c.rewrite_table.new.table in
    let file : List ℕ = c.in_ok-to_bytes.field-0.items in
    λ order bytes is. record {
      old = old;
      new = new;
      ids = made.ids;
      table = is;
      ksyms = made.ksyms;
      rewritten = made.rewritten;
      answers_are = made.answers_are;
      written = same_ok {E = Refusal} file (canon new) c.in_ok-to_bytes.ensures.written;
      parses_back = written_again order bytes file old new made.ids (given_under target.policy no_layout) (answers_of target.has) is made.rewritten c.in_ok-to_bytes.ensures.parses_back;
    }
