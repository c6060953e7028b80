use Rattle.std.proofs.Common.{◌≡◌, ◌∙◌, ◌<◌, ℕ, Bool, List, Some, Ok, length, ap, arith, inl, inr, subst, sym}
use Rattle.std.specs.Prelude.{map, slice_get}
use Rattle.std.specs.Option.{option_map}
use Rattle.std.proofs.lemmas.List.{length-map}
use Rattle.std.proofs.lemmas.Option.{IfSome_then}
use Rattle.btf_model.specs.Record.{Record}
use Rattle.btf_model.specs.Refusal as refusals
use Rattle.btf_plain.proofs.Refused.{handed_on}
use Rattle.btf_plain.specs.Kind as kinds
use Rattle.btf_records.specs.BtfType.{record_of}
use Rattle.btf_table.proofs.Names.{record_at}
use Rattle.vbtf.specs.Finding.{FindsFrom, IsSought}
use Rattle.vbtf.proofs.Search.{skipped_more}
use Rattle.vbtf.proofs.find.find_from.Goals as goal

pub loop-id-init : goal.loop-id-init
loop-id-init c = record { from = omega arith; skipped = λ low r from lt at. absurd (omega (arith, from, lt)) }

pub returns-in_err-has_kind_and_name : goal.returns-in_err-has_kind_and_name
returns-in_err-has_kind_and_name c =
    let types = c.as_slice-types.result.now in let t = c.index-types-id.result in let i = c.loop-id.invariant in
    let records : map record_of types ≡ c.args.table.now.records = ap (map record_of) c.as_slice-types.ensures.value ∙ c.types.ensures.records in
    let few : c.loop-id.id < length types = omega (arith, c.loop-id-test.true, c.loop-id.auto.id-end, c.type_count-id-end.ensures, ap length records, length-map types record_of) in
    let there : slice_get c.args.table.now.records c.loop-id.id ≡ Some (record_of t) =
    ap (λ (rs : List Record). slice_get rs c.loop-id.id) (sym records) ∙ record_at types c.loop-id.id t few c.index-types-id.is in
    handed_on (λ id. id) c.in_err-has_kind_and_name.field-0.0 c.from_residual.result
    (FindsFrom c.args.table.now.strings c.args.table.now.records (option_map kinds.kind c.args.wanted) c.args.name.now c.args.first) c.from_residual.ensures.1
    (IfSome_then _ c.in_err-has_kind_and_name.ensures (λ refusal found. inl (c.loop-id.id, record_of t, (i.from, i.skipped, there, found.0), found.1)))

pub returns-then-branch : goal.returns-then-branch
returns-then-branch c =
    let types = c.as_slice-types.result.now in let t = c.index-types-id.result in let i = c.loop-id.invariant in
    let records : map record_of types ≡ c.args.table.now.records = ap (map record_of) c.as_slice-types.ensures.value ∙ c.types.ensures.records in
    let few : c.loop-id.id < length types = omega (arith, c.loop-id-test.true, c.loop-id.auto.id-end, c.type_count-id-end.ensures, ap length records, length-map types record_of) in
    let there : slice_get c.args.table.now.records c.loop-id.id ≡ Some (record_of t) =
    ap (λ (rs : List Record). slice_get rs c.loop-id.id) (sym records) ∙ record_at types c.loop-id.id t few c.index-types-id.is in
    let found = subst (λ (same : Bool). IsSought c.args.table.now.strings (option_map kinds.kind c.args.wanted) c.args.name.now (record_of t) (Ok same)) c.if-branch.true c.in_ok-has_kind_and_name.ensures in
    (record_of t, (i.from, i.skipped, there, found.0), found.1)

pub loop-id-preserved : goal.loop-id-preserved
loop-id-preserved c =
    let types = c.as_slice-types.result.now in let t = c.index-types-id.result in let i = c.loop-id.invariant in
    let records : map record_of types ≡ c.args.table.now.records = ap (map record_of) c.as_slice-types.ensures.value ∙ c.types.ensures.records in
    let few : c.loop-id.id < length types = omega (arith, c.loop-id-test.true, c.loop-id.auto.id-end, c.type_count-id-end.ensures, ap length records, length-map types record_of) in
    let there : slice_get c.args.table.now.records c.loop-id.id ≡ Some (record_of t) =
    ap (λ (rs : List Record). slice_get rs c.loop-id.id) (sym records) ∙ record_at types c.loop-id.id t few c.index-types-id.is in
    record {
      from = omega (arith, i.from);
      skipped = skipped_more c.args.table.now.strings c.args.table.now.records (option_map kinds.kind c.args.wanted) c.args.name.now c.args.first c.loop-id.id (record_of t) i.skipped there
          (subst (λ (same : Bool). IsSought c.args.table.now.strings (option_map kinds.kind c.args.wanted) c.args.name.now (record_of t) (Ok same)) c.if-branch.false c.in_ok-has_kind_and_name.ensures);
    }

pub returns : goal.returns
returns c = inr (
  λ low r from lt at. c.loop-id.invariant.skipped low r from (omega (arith, lt, c.loop-id-test.false, c.loop-id.auto.id-end, c.type_count-id-end.ensures)) at,
  ap (λ (name : List ℕ). refusals.UnknownBtfTypeName name) c.in_ok-to_string.ensures.ok,
)
