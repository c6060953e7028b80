use Rattle.std.proofs.Common.{◌≡◌, ℕ, suc, ◌+◌, ◌*◌, ◌<◌, List, ◌++◌, take, drop, set, length, ap, ◌∙◌, arith, refl, lit<}
use Rattle.std.specs.List.{flat_map}
use Rattle.std.proofs.lemmas.List.{length-set}
use Rattle.btf_model.specs.Record.{Record, vlen}
use Rattle.btf_plain.specs.Items.{code_entry_words}
use Rattle.btf_plain.specs.ItemList.{items_of}
use Rattle.btf_plain.specs.declared.items.DataSecEntry.{DataSecEntry}
use Rattle.btf_plain.proofs.Lists.{length-items, words_of_set}
use Rattle.btf_plain.proofs.Tails.{items_counted}
use Rattle.btf_plain.proofs.data_sec.Record+DataSecKind.set_entry.Goals as goal

pub set-requires : goal.set-requires
set-requires c =
    let entries : List DataSecEntry = items_of c.self.inside.tail in
    let counted = items_counted 3 code_entry_words (λ _. refl) (lit< tt) entries (vlen c.self.inside.head.info) c.self.invariant.1 in
    omega (arith, c.requires, counted, ap (λ (r : Record). vlen r.info) c.self.view_is)

pub invariant_of-self : goal.invariant_of-self
invariant_of-self c =
    let entries : List DataSecEntry = items_of c.self.inside.tail in
    let counted = items_counted 3 code_entry_words (λ _. refl) (lit< tt) entries (vlen c.self.inside.head.info) c.self.invariant.1 in (
      c.self.invariant.0,
      ap (λ (es : List DataSecEntry). length (flat_map code_entry_words es)) c.set.ensures ∙ length-items 3 code_entry_words (λ _. refl) (set entries c.args.index c.args.entry)
          ∙ ap (λ (n : ℕ). 3 * n) (length-set entries c.args.index c.args.entry ∙ counted),
      refl,
    )

pub returns : goal.returns
returns c =
    let entries : List DataSecEntry = items_of c.self.inside.tail in
    let counted = items_counted 3 code_entry_words (λ _. refl) (lit< tt) entries (vlen c.self.inside.head.info) c.self.invariant.1 in
    let lt : c.args.index < length entries = omega (arith, c.requires, counted, ap (λ (r : Record). vlen r.info) c.self.view_is) in
    let words = words_of_set 3 code_entry_words (λ _. refl) entries c.args.index c.args.entry lt in
    let behind : 3 * suc c.args.index ≡ 3 * c.args.index + 3 = omega arith in
    ap (λ (es : List DataSecEntry). record { name = c.self.inside.head.name; info = c.self.inside.head.info; third = c.self.inside.head.third; tail = flat_map code_entry_words es }) c.set.ensures
    ∙ ap (λ (t : List ℕ). record { name = c.self.inside.head.name; info = c.self.inside.head.info; third = c.self.inside.head.third; tail = t })
    (words ∙ ap (λ (k : ℕ). take (3 * c.args.index) (flat_map code_entry_words entries) ++ code_entry_words c.args.entry ++ drop k (flat_map code_entry_words entries)) behind)
    ∙ ap (λ (r : Record). record r { tail = take (3 * c.args.index) r.tail ++ code_entry_words c.args.entry ++ drop (3 * c.args.index + 3) r.tail }) c.self.view_is
