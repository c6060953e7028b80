use Rattle.std.proofs.Common.{◌≡◌, ℕ, ◌*◌, length, ap, sym, refl, ◌∙◌}
use Rattle.std.proofs.lemmas.Result.{on_ok_weaker}
use Rattle.btf_model.specs.Record as model
use Rattle.btf_model.specs.Record.{vlen}
use Rattle.btf_plain.specs.Items.{member_words}
use Rattle.btf_plain.proofs.Lists.{length-items, list_is_whole}
use Rattle.btf_records.proofs.union.Union.append_to.Goals as goal

pub returns-clause-whole : goal.returns-clause-whole
returns-clause-whole c =
    let r = c.args.self.now.words in
    let len : length r.tail ≡ 3 * vlen r.info = ap length c.members.ensures.words ∙ length-items 3 member_words (λ _. refl) c.members.result.now ∙ ap (λ (n : ℕ). 3 * n) (sym c.members.ensures.count) in
    on_ok_weaker c.push_items.result (λ fit. list_is_whole model.Union r (ap (λ u. model.kind_of u.words.info) (sym c.self.view_is) ∙ c.self.invariant.0) len (rw (sym c.self.view_is) (rw (sym c.name.ensures) (rw (sym c.info.ensures) (rw (sym c.size.ensures) c.in_ok-push_array.ensures.words_fit)))) (rw c.members.ensures.words fit) refl) c.push_items.ensures.words_fit
