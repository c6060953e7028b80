use Rattle.std.proofs.Common.{◌≡◌, ◌∙◌, ◌-◌, List, length, take, drop, ap, arith, subst, sym}
use Rattle.std.specs.Prelude.{map}
use Rattle.std.proofs.lemmas.List.{drop-map, length-drop, take_all}
use Rattle.btf_model.specs.Record.{Record}
use Rattle.btf_records.specs.BtfType.{record_of}
use Rattle.btf_records.specs.declared.btf_type.BtfType.{BtfType}
use Rattle.btf_view.specs.Forms.{Begins, words_in}
use Rattle.btf_view.specs.declared.forms.TypeWords.{TypeWords}
use Rattle.vbtf.proofs.many.fill_types.Goals as goal

pub returns-in-Some : goal.returns-in-Some
returns-in-Some c =
    let first = c.args.first in
    let old = c.args.out.now in
    let types = c.as_slice-types.result.now in
    let records : map record_of types ≡ c.args.table.now.records = ap (map record_of) c.as_slice-types.ensures.value ∙ c.types.ensures.records in
    let rest : c.in-Some.rest.now ≡ drop first types =
    c.in-Some.ensures.lookup.0.2 ∙ take_all (length types - first) (drop first types) (omega (arith, length-drop first types)) in
    let words : map words_in (map record_of c.in-Some.rest.now) ≡ drop first (map words_in c.args.table.now.records) =
    ap (λ (ts : List BtfType). map words_in (map record_of ts)) rest
    ∙ ap (map words_in) (sym (drop-map record_of first types))
    ∙ sym (drop-map words_in first (map record_of types))
    ∙ ap (λ (rs : List Record). drop first (map words_in rs)) records in
    subst (λ (ws : List TypeWords). Begins (take (length old) ws) old c.fill_words.new.out c.fill_words.result) words c.fill_words.ensures
