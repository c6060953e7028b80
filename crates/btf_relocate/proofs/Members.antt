-- The members and parameters of a type, and their words.
use Rattle.std.proofs.Common.{◌≡◌, ℕ, List, [], ◌∷◌, Some, refl, ap, sym, subst}
use Rattle.std.specs.Prelude.{map}
use Rattle.std.specs.List.{flat_map}
use Rattle.btf_plain.specs.Items.{member_words, param_words}
use Rattle.btf_plain.specs.declared.items.BtfMember.{BtfMember}
use Rattle.btf_plain.specs.declared.items.BtfParam.{BtfParam}
use Rattle.btf_relocate.specs.Members.{member_of, parameters_of}
use Rattle.btf_relocate_model.specs.Comparison.{parameter_ids}
use Rattle.btf_relocate_model.specs.Field.{Member, members_in, members_of}
use Rattle.btf_model.specs.Record as model
use Rattle.btf_model.specs.Record.{Record, kind_of}
use Rattle.btf_records.specs.BtfType.{record_of, type_kind}
use Rattle.btf_records.specs.declared.btf_type.BtfType.{BtfType}
use Rattle.btf_records.specs.declared.btf_type.BtfType.TheVariants as variants
use Rattle.btf_records.specs.declared.union.Union.{Union}

-- the members that are written as words are read from them
pub members_back : (ms : List BtfMember) → members_in (flat_map member_words ms) ≡ map member_of ms
members_back [] = refl
members_back (m ∷ ms) = ap (λ (rest : List Member). member_of m ∷ rest) (members_back ms)

-- the members of a STRUCT
pub struct_members : (b : BtfType) (t : Record) (ms : List BtfMember) → b ≡ variants.Struct t → kind_of (record_of b).info ≡ Some (type_kind b) → t.tail ≡ flat_map member_words ms
    → map member_of ms ≡ members_of (record_of b)
struct_members b t ms is kind tail =
    let here : kind_of t.info ≡ Some model.Struct = subst (λ (x : BtfType). kind_of (record_of x).info ≡ Some (type_kind x)) is kind in
    rw (is, here, tail) (sym (members_back ms))

-- the members of a UNION
pub union_members : (b : BtfType) (u : Union) (ms : List BtfMember) → b ≡ variants.Union u → kind_of (record_of b).info ≡ Some (type_kind b) → u.words.tail ≡ flat_map member_words ms
    → map member_of ms ≡ members_of (record_of b)
union_members b u ms is kind tail =
    let here : kind_of u.words.info ≡ Some model.Union = subst (λ (x : BtfType). kind_of (record_of x).info ≡ Some (type_kind x)) is kind in
    rw (is, here, tail) (sym (members_back ms))

-- ---- parameters

-- the parameters that are written as words are read from them
parameters_back : (ps : List BtfParam) → parameter_ids (flat_map param_words ps) ≡ map (λ p. p.btf_type) ps
parameters_back [] = refl
parameters_back (p ∷ ps) = ap (λ (rest : List ℕ). p.btf_type ∷ rest) (parameters_back ps)

-- the parameters of a FUNC_PROTO
pub proto_parameters : (b : BtfType) (t : Record) (ps : List BtfParam) → b ≡ variants.FuncProto t → kind_of (record_of b).info ≡ Some (type_kind b) → t.tail ≡ flat_map param_words ps
    → map (λ p. p.btf_type) ps ≡ parameters_of (record_of b)
proto_parameters b t ps is kind tail =
    let here : kind_of t.info ≡ Some model.FuncProto = subst (λ (x : BtfType). kind_of (record_of x).info ≡ Some (type_kind x)) is kind in
    rw (is, here, tail) (sym (parameters_back ps))
