use Rattle.std.proofs.Common.{◌≡◌, ℕ, ◌+◌, ◌*◌, ◌^◌, length, rules, ap, ◌∙◌, arith}
use Rattle.std.specs.List.{flat_map}
use Rattle.std.proofs.lemmas.List.Sorted.{answers_always}
use Rattle.btf_model.specs.Record.{Record, vlen}
use Rattle.btf_plain.specs.Items.{code_entry_words}
use Rattle.btf_plain.specs.declared.items.DataSecEntry.{DataSecEntry}
use Rattle.btf_table.specs.Layout.{layout_of}
use Rattle.btf_object.proofs.FinalSections.{final_is, entries_len}
use Rattle.btf_object.proofs.finalize.section.final_section.Goals as goal

pub returns-clause-made : goal.returns-clause-made
returns-clause-made g c =
    let key : DataSecEntry → ℕ = λ e. e.offset in
    let keys = answers_always _ _ _ (λ f a r next called. search rules) in
    let count_is : length c.sort_by_key.new.self.items ≡ vlen c.args.data_sec.now.info =
    omega (arith, c.in_ok-size.entries.ok.0, c.sort_by_key.new.self.ok.0, c.in_ok-sort_by_key.ensures.len, c.in_ok-size.ensures.count) in
    (final_is (layout_of c.args.layout.now.sections c.args.layout.now.symbols) c.args.btf.now c.args.data_sec.now c.new.result c.in_ok-size.size c.sort_by_key.new.self.len c.in_ok-size.entries.items c.sort_by_key.new.self.items
    c.in_ok-size.ensures.made (c.sort_by_key.new.self.ok.0 ∙ count_is) (c.in_ok-sort_by_key.ensures.sorted key keys) (c.in_ok-sort_by_key.ensures.stable key keys)
    (c.new.ensures ∙ ap (λ (n : ℕ). record { name = n; info = 15 * 2 ^ 24 + c.sort_by_key.new.self.len; third = c.in_ok-size.size; tail = flat_map code_entry_words c.sort_by_key.new.self.items }) c.name_offset.ensures.value)).0

pub returns-clause-len : goal.returns-clause-len
returns-clause-len g c =
    let tail_len = entries_len c.sort_by_key.new.self.items in
    let count_is : length c.sort_by_key.new.self.items ≡ vlen c.args.data_sec.now.info =
    omega (arith, c.in_ok-size.entries.ok.0, c.sort_by_key.new.self.ok.0, c.in_ok-sort_by_key.ensures.len, c.in_ok-size.ensures.count) in
    omega (arith, tail_len, count_is, ap (λ (r : Record). length r.tail) c.new.ensures, c.info.ensures.tail)
