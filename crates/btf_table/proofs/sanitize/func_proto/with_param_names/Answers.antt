use Rattle.std.proofs.Common.{◌≡◌, ℕ, ◌+◌, ◌*◌, Option, Some, None, List, [], ◌∷◌, ◌++◌, take, drop, sym, ap, subst, ◌∙◌}
use Rattle.std.specs.Prelude.{if◌then◌else◌}
use Rattle.std.proofs.lemmas.Option.{IfSome_then}
use Rattle.btf_model.specs.Refusal.{Refusal}
use Rattle.btf_model.specs.Record.{Record}
use Rattle.btf_rewrite_model.specs.Made.{wants_name}
use Rattle.btf_rewrite_model.specs.Checks.{first_fault, have_room}
use Rattle.btf_rewrite_model.specs.Pass.{texts_len, param_texts}
use Rattle.btf_rewrite_model.specs.Rule.{named_params}
use Rattle.btf_plain.specs.Items.{param_words}
use Rattle.btf_plain.specs.declared.items.BtfParam.{BtfParam}
use Rattle.btf_table.specs.Adding.{next_string_offset, Adds}
use Rattle.btf_table.specs.Checked.{checked}
use Rattle.btf_table.proofs.Adding.{adds_then}
use Rattle.btf_table.proofs.Checks.{checked_ok, checked_err}
use Rattle.btf_table.proofs.Prototypes.{at, texts_to, end_after, room_next, room_fault, texts_next, named_next}
use Rattle.btf_plain.proofs.Refused.{handed_on}
use Rattle.btf_table.proofs.sanitize.func_proto.with_param_names.Goals as goal

pub returns-in_err-name_offset-clause-answer : goal.returns-in_err-name_offset-clause-answer
returns-in_err-name_offset-clause-answer c =
    let i : ℕ = c.loop-index.index in
    let ps : List BtfParam = c.params-param-items.result.now in
    let offset : ℕ = next_string_offset c.args.btf.now c.args.changes.now in
    let named : Record = record c.args.proto.now { tail = named_params 0 offset c.args.proto.now.tail } in
    let end : next_string_offset c.args.btf.now c.loop-index.changes ≡ offset + texts_len (texts_to i ps) = end_after c.args.btf.now c.args.changes.now c.loop-index.changes (texts_to i ps) [] c.loop-index.invariant.1 in
    handed_on (λ r. r) c.in_err-name_offset.field-0.0 c.from_residual-in_err-name_offset.result (λ answer. answer ≡ checked (first_fault (have_room offset (param_texts 0 c.args.proto.now.tail))) named) c.from_residual-in_err-name_offset.ensures.1
    (IfSome_then _ c.in_err-name_offset.ensures.answer
    (λ refusal is.
    let here : first_fault (have_room (offset + texts_len (texts_to i ps)) (param_texts i (param_words (at ps i)))) ≡ Some refusal =
    ap (λ (n : ℕ). first_fault (have_room n (param_texts i (param_words (at ps i))))) (sym end) ∙ checked_err _ _ refusal is in
    sym (ap (λ (f : Option Refusal). checked f named)
    (ap (λ (ws : List ℕ). first_fault (have_room offset (param_texts 0 ws))) c.params-param-items.ensures.words ∙ room_fault offset ps i refusal c.loop-index-test.true c.loop-index.invariant.0 here))))

pub loop-index-preserved : goal.loop-index-preserved
loop-index-preserved c =
    let i : ℕ = c.loop-index.index in
    let ps : List BtfParam = c.params-param-items.result.now in
    let offset : ℕ = next_string_offset c.args.btf.now c.args.changes.now in
    let new : ℕ = c.in_ok-name_offset.name_offset in
    let end : next_string_offset c.args.btf.now c.loop-index.changes ≡ offset + texts_len (texts_to i ps) = end_after c.args.btf.now c.args.changes.now c.loop-index.changes (texts_to i ps) [] c.loop-index.invariant.1 in
    let one : _ = checked_ok _ _ _ c.in_ok-name_offset.ensures.answer in
    let passed : first_fault (have_room (offset + texts_len (texts_to i ps)) (param_texts i (param_words (at ps i)))) ≡ None = ap (λ (n : ℕ). first_fault (have_room n (param_texts i (param_words (at ps i))))) (sym end) ∙ one.0 in
    let is : new ≡ (if wants_name (at ps i).name_offset (at ps i).btf_type then offset + texts_len (texts_to i ps) else (at ps i).name_offset) =
    one.1 ∙ ap (λ (n : ℕ). if wants_name (at ps i).name_offset (at ps i).btf_type then n else (at ps i).name_offset) end in (
      room_next offset ps i c.loop-index-test.true c.loop-index.invariant.0 passed,
      subst (λ (ts : List (List ℕ)). Adds c.args.btf.now c.args.changes.now c.param_name_offset.new.changes ts []) (sym (texts_next ps i c.loop-index-test.true))
          (adds_then c.args.btf.now c.args.changes.now c.loop-index.changes c.param_name_offset.new.changes (texts_to i ps) (param_texts i (param_words (at ps i))) [] [] c.loop-index.invariant.1 c.in_ok-name_offset.ensures.adds),
      c.set_param_name.ensures ∙ ap (λ (r : Record). record r { tail = take (2 * i) r.tail ++ new ∷ drop (2 * i + 1) r.tail }) c.loop-index.invariant.2
          ∙ ap (λ (tail : List ℕ). record c.args.proto.now { tail = tail }) (named_next offset ps i new c.loop-index-test.true is),
    )
