use Rattle.std.proofs.Common.{◌≡◌, ◌∙◌, ℕ, None, sym, refl, ap, arith}
use Rattle.std.specs.Prelude.{length, slice_get}
use Rattle.std.proofs.lemmas.Option.{slice_get_past}
use Rattle.btf_records.specs.BtfType.{record_of, type_kind}
use Rattle.btf_records.specs.declared.btf_type.BtfType.{BtfType}
use Rattle.btf_records.specs.declared.btf_type.BtfType.TheVariants as of
use Rattle.btf_model.specs.Record.{tail_words, vlen}
use Rattle.btf_view.proofs.type_ref.word_of.Goals as goal
use Rattle.btf_view.proofs.type_ref.word_of.Goals.{In_default}

-- the number of words of the kinds without any
no_words : (n : ℕ) (b : BtfType) (c : In_default) → c.args.btf_type.now ≡ b → tail_words (type_kind b) n ≡ 0
no_words n of.Unknown c is = refl
no_words n (of.Int r) c is = absurd (c.in_default.not-Int r is)
no_words n (of.Ptr r) c is = refl
no_words n (of.Array r) c is = absurd (c.in_default.not-Array r is)
no_words n (of.Struct r) c is = absurd (c.in_default.not-Struct r is)
no_words n (of.Union u) c is = absurd (c.in_default.not-Union u is)
no_words n (of.Enum r) c is = absurd (c.in_default.not-Enum r is)
no_words n (of.Fwd r) c is = refl
no_words n (of.Typedef r) c is = refl
no_words n (of.Volatile r) c is = refl
no_words n (of.Const r) c is = refl
no_words n (of.Restrict r) c is = refl
no_words n (of.Func r) c is = refl
no_words n (of.FuncProto r) c is = absurd (c.in_default.not-FuncProto r is)
no_words n (of.Var r) c is = absurd (c.in_default.not-Var r is)
no_words n (of.DataSec r) c is = absurd (c.in_default.not-DataSec r is)
no_words n (of.Float r) c is = refl
no_words n (of.DeclTag r) c is = absurd (c.in_default.not-DeclTag r is)
no_words n (of.TypeTag r) c is = refl
no_words n (of.Enum64 r) c is = absurd (c.in_default.not-Enum64 r is)

pub returns-in_default : goal.returns-in_default
returns-in_default c =
    let b = c.args.btf_type.now in
    sym (slice_get_past (record_of b).tail c.args.index (omega (arith, c.info.ensures.tail, no_words (vlen c.info.result) b c refl)))
