use Rattle.std.proofs.Common.{◌≡◌, ℕ, List, length, Result, Ok, subst}
use Rattle.btf_model.specs.Refusal.{Refusal}
use Rattle.btf_model.specs.Table.{Table}
use Rattle.btf_split_model.specs.Split.{split_blob, IsJoined}
use Rattle.btf_split.specs.Blob.{JoinsAgain}
use Rattle.btfobj_cli.specs.InputFile.{file_order}
use Rattle.btfobj_cli.specs.Part.{names_only}
use Rattle.btfobj_cli.specs.Rewrite.{chosen_target}
use Rattle.btfobj_cli.proofs.Above.{over_names, rewrites_part}
use Rattle.btfobj_cli.proofs.part.rewrite_part.Goals as goal

pub returns : goal.returns
returns c =
    let order = file_order c.args.input.now in
    let base : Table = c.args.base.now in
    let old : Table = c.in_ok-table.table in
    let new : Table = c.rewrite_table.new.table in
    let file : List ℕ = c.in_ok-part.part.items in
    let split = c.in_ok-table.ensures in
    let over : IsJoined order (names_only base) split.0 old = over_names order base c.in_ok-names.names split.0 old c.in_ok-names.ensures split.2 in
    let Written : ℕ → ℕ → Type 0 = λ n m. ◌≡◌ {A = Result (List ℕ) Refusal} (Ok file) (split_blob n m new) × JoinsAgain new n m file in
    let given : Written c.type_count.result c.string_len.result = (c.in_ok-part.ensures.written, c.in_ok-part.ensures.joins_again) in
    let written : Written (length base.records) (length base.strings) = subst (λ (n : ℕ). Written n (length base.strings)) c.type_count.ensures (subst (Written c.type_count.result) c.string_len.ensures given) in (
      split.0,
      split.1,
      rewrites_part order base old new split.0 file (chosen_target c.args.rewrite.now) c.in_ok-answers.answers.items over c.in_ok-answers.ensures written.0 written.1,
    )
