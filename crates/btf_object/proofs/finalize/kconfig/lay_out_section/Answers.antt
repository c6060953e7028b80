use Rattle.std.proofs.Common.{◌≡◌, ℕ, ◌+◌, ◌*◌, ◌≤◌, ◌^◌, List, Bor, length, map, rules, inr, sym, ap, subst, ◌∙◌, arith}
use Rattle.std.specs.List.{flat_map}
use Rattle.std.specs.declared.cmp.Reverse.{Reverse}
use Rattle.std.proofs.lemmas.List.Sorted.{answers_always}
use Rattle.btf_model.specs.Record.{vlen}
use Rattle.btf_rewrite_model.specs.Made.{section_entries}
use Rattle.btf_rewrite_model.proofs.Granted.{vlen_small}
use Rattle.btf_plain.specs.Items.{code_entry_words}
use Rattle.btf_object_model.specs.Kconfig.{total}
use Rattle.btf_object.specs.Kconfig.{model_extern, HasExterns, AreLaidOut}
use Rattle.btf_object.specs.declared.finalize.kconfig.Extern.{Extern}
use Rattle.btf_object.proofs.Externs.{has_externs, section_made, entries_count, if_some, if_none, known_some}
use Rattle.btf_object.proofs.FinalSections.{none_there}
use Rattle.btf_object.proofs.finalize.kconfig.lay_out_section.Goals as goal
use Rattle.btf_object.proofs.finalize.kconfig.lay_out_section.Goals.{In_ok-entries, In-Some-2}

-- the sorted externs
len_is : (c : In_ok-entries) → length c.sort_by_key.new.self.items ≡ length c.in-Some.externs.items
len_is c = omega (arith, c.in-Some.externs.ok.0, c.sort_by_key.new.self.ok.0, c.in_ok-sort_by_key.ensures.len)

sorted : (c : In_ok-entries) → HasExterns c.args.btf.now c.args.data_sec.now (map model_extern c.sort_by_key.new.self.items)
sorted c =
    let key : Extern → Reverse ℕ × ℕ × Bor (List ℕ) = λ e. (record { 0 = e.value.alignment }, e.value.size, e.name) in
    let keys = answers_always _ _ _ (λ f a r next called. search rules) in
    has_externs c.args.btf.now c.args.data_sec.now c.in-Some.externs.items c.sort_by_key.new.self.items
    (known_some c.args.btf.now (section_entries c.args.data_sec.now.tail) c.in_ok-externs.field-0 c.in-Some.externs c.in-Some.is c.in_ok-externs.ensures.known)
    (len_is c) (c.in_ok-sort_by_key.ensures.sorted key keys) (c.in_ok-sort_by_key.ensures.stable key keys)

-- their entries
laid : (c : In-Some-2) → AreLaidOut c.sort_by_key.new.self.items c.in-Some-2.entries.items c.in-Some-2.size
laid c =
    subst (λ (xs : List Extern). AreLaidOut xs c.in-Some-2.entries.items c.in-Some-2.size) c.deref.ensures.value
    (if_some c.in_ok-entries.field-0 (c.in-Some-2.entries, c.in-Some-2.size) (λ made. AreLaidOut c.deref.result.now made.0.items made.1) c.in-Some-2.is c.in_ok-entries.ensures.some)

entries_len : (e : In_ok-entries) (c : In-Some-2) → length c.sort_by_key.new.self.items ≡ length c.in-Some.externs.items → length c.in-Some-2.entries.items ≡ vlen c.args.data_sec.now.info
entries_len e c len =
    entries_count c.sort_by_key.new.self.items c.in-Some-2.entries.items (laid c).0 ∙ len
    ∙ if_some c.in_ok-externs.field-0 c.in-Some.externs (λ v. length v.items ≡ vlen c.args.data_sec.now.info) c.in-Some.is c.in_ok-externs.ensures.count

pub returns-in_default-2-clause-made : goal.returns-in_default-2-clause-made
returns-in_default-2-clause-made c =
    let at = goal.at.returns-in_default-2-clause-made c in
    let large : 2 ^ 32 ≤ total (map model_extern c.deref.result.now) = if_none c.in_ok-entries.field-0 _ (none_there c.in_ok-entries.field-0 c.in_default-2.not-Some) c.in_ok-entries.ensures.none in
    inr (inr (map model_extern c.sort_by_key.new.self.items, sorted at.In_ok-entries, subst (λ (xs : List Extern). 2 ^ 32 ≤ total (map model_extern xs)) c.deref.ensures.value large))

pub new-requires : goal.new-requires
new-requires c =
    let at = goal.at.new-requires c in
    omega (arith, entries_len at.In_ok-entries at.In-Some-2 (len_is at.In_ok-entries), c.in-Some-2.entries.ok.0, vlen_small c.args.data_sec.now.info)

pub returns-clause-made : goal.returns-clause-made
returns-clause-made c =
    let at = goal.at.returns-clause-made c in
    let count = entries_len at.In_ok-entries at.In-Some-2 (len_is at.In_ok-entries) in
    section_made c.args.btf.now c.args.data_sec.now c.new.result c.sort_by_key.new.self.items c.in-Some-2.entries.items c.in-Some-2.size c.in-Some-2.entries.len (sorted at.In_ok-entries) (sym c.size.ensures ∙ c.if-size-ne0.false) (laid at.In-Some-2)
    (c.in-Some-2.entries.ok.0 ∙ count) count (c.info.ensures.tail ∙ ap (λ (n : ℕ). 3 * vlen n) c.info.ensures.value)
    (c.new.ensures ∙ ap (λ (n : ℕ). record { name = n; info = 15 * 2 ^ 24 + c.in-Some-2.entries.len; third = c.in-Some-2.size; tail = flat_map code_entry_words c.in-Some-2.entries.items }) c.name_offset.ensures.value)
