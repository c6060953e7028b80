use Rattle.std.proofs.Common.{◌∙◌, ap, ℕ, List, subst}
use Rattle.std.specs.Option.{option_map}
use Rattle.btfobj_cli.specs.InputFile.{IsFile}
use Rattle.btfobj_cli.specs.Changes.{lacks_any}
use Rattle.btfobj_cli.proofs.Files.{rewritten_over}
use Rattle.btfobj_cli.proofs.changes.check.Goals as goal

pub returns : goal.returns
returns g c = (
  c.in_ok-written.written.items,
  c.in_ok-written.answers.items,
  rewritten_over c.args.bytes.now (option_map (λ b. b.now) c.args.base) c.args.rewrite.now c.in_ok-input.input c.in_ok-written.written.items c.in_ok-written.answers.items c.in_ok-input.ensures.read c.in_ok-input.ensures.object c.in_ok-input.ensures.little c.in_ok-input.ensures.big
      c.in_ok-written.ensures,
  c.lacks_any-lacks.ensures ∙ ap lacks_any c.as_slice-2.ensures.value,
  (
    c.in_ok-old.old,
    c.in_ok-new.new,
    (c.in_ok-input.input, c.in_ok-input.ensures.read, c.in_ok-old.ensures),
    (c.in_ok-read.field-0, subst (λ (bs : List ℕ). IsFile bs c.in_ok-read.field-0) c.deref.ensures.value c.in_ok-read.ensures.read, c.in_ok-new.ensures),
    c.in_ok-changes.ensures,
  ),
)
