-- Facts about the new records of a rewrite, by which a second rewrite does not change them.
use Rattle.std.proofs.Common.{◌≡◌, ◌==◌, ℕ, zero, suc, ◌+◌, ◌<◌, Bool, true, false, ◌&&◌, ◌||◌, not, List, [], ◌∷◌, ◌++◌, length, take, drop, get_or, map, max, Option, None, Some, Result, Ok, Err, refl, sym, ap, subst, ◌∙◌, arith, inl, inr}
use Rattle.std.specs.Prelude.{if◌then◌else◌, slice_get, position}
use Rattle.std.specs.Option.{unwrap_or}
use Rattle.std.specs.List.{flat_map}
use Rattle.std.specs.Str.{bytes_eq}
use Rattle.std.proofs.lemmas.Bool.{ne_eqb, cases_order}
use Rattle.std.proofs.lemmas.List.{append-nil, append_assoc, length-append, length-take, get_or-take}
use Rattle.std.proofs.lemmas.List.Concat.{flat_map-append}
use Rattle.std.proofs.lemmas.List.Quantifiers.{position-Some}
use Rattle.std.proofs.lemmas.Option.{none-some}
use Rattle.std.proofs.lemmas.Slice.Eq.{bytes_eq-Decides}
use Rattle.btf_model.specs.Record as kinds
use Rattle.btf_model.specs.Record.{Kind, Record, kind_of, vlen}
use Rattle.btf_model.specs.Refusal.{Refusal}
use Rattle.btf_model.specs.Text.{is_zero, bytes_at, text_at, lossy}
use Rattle.btf_rewrite_model.specs.declared.feature.BtfFeature.TheVariants as features
use Rattle.btf_rewrite_model.specs.Feature.{is_global, is_signed}
use Rattle.btf_rewrite_model.specs.Made.{record_at, kind_at, section_entries, variants, const, typedef, wants_name, byte_int, struct, union, enum, made_data_sec, with_linkage, unsigned}
use Rattle.btf_rewrite_model.specs.Checks.{first_fault, name_is_read}
use Rattle.btf_rewrite_model.specs.Pass.{Pass, has, name_of, name_checks, replaced, slash, dot, new_section_name, renaming, gets_filler, makes_filler, filler_type_text, filler_text, section_size, is_builtin, texts, texts_by, texts_below, offset_at, param_text}
use Rattle.btf_rewrite_model.specs.Rule.{becomes, becomes_by, ruled_below, known_func, new_name, name_or, completed, sized, filled, named_params, placed, entry_members, variant_members, member_type_id}
use Rattle.btf_rewrite_model.specs.Fault.{fault, checks_by}
use Rattle.btf_rewrite_model.specs.Rewritten.{with_zero_byte}
use Rattle.btf_rewrite_model.proofs.Granted.{kind_made, vlen_small, passed_head, passed_left, static_vlen, static_number, unsigned_number}
use Rattle.btf_model.proofs.Texts.{text_stays, has_bytes, some_mapped}
use Rattle.btf_rewrite_model.proofs.Appending.{ended_len}
use Rattle.btf_rewrite_model.proofs.Renaming.{NoZero, renamed_reads_back, replaced_twice}

-- each parameter in these words that has a type has a name
abbrev pub NoneWants : List ℕ → Type 0
NoneWants (name ∷ type ∷ words) = (wants_name name type ≡ false) × NoneWants words
NoneWants words = Unit {0}

-- The fact about a new record of this kind; p is the pass that made it, and strings are the new strings.
abbrev pub FactOf : Pass → List ℕ → Option Kind → Record → Type 0
FactOf p strings (Some kinds.Ptr) r = r.name ≡ 0
FactOf p strings (Some kinds.Func) r = (name : List ℕ) × (text_at strings r.name ≡ Ok name) × ((is_global r && (is_builtin name || not (has p features.FuncGlobal))) ≡ false)
FactOf p strings (Some kinds.FuncProto) r = NoneWants r.tail
FactOf p strings (Some kinds.DataSec) r = (name : List ℕ) × (text_at strings r.name ≡ Ok name) × (replaced slash dot name ≡ name)
FactOf p strings k r = Unit {0}

abbrev pub Fact : Pass → List ℕ → Record → Type 0
Fact p strings r = FactOf p strings (kind_of r.info) r

of_kind : (p : Pass) (strings : List ℕ) (r : Record) (k : Option Kind) → kind_of r.info ≡ k → FactOf p strings k r → Fact p strings r
of_kind p strings r k kind fact = subst (λ (j : Option Kind). FactOf p strings j r) (sym kind) fact

-- one of two facts
one_of : (P : Record → Type 0) (b : Bool) (x y : Record) → (b ≡ true → P x) → (b ≡ false → P y) → P (if b then x else y)
one_of P true x y f g = f refl
one_of P false x y f g = g refl

-- ---- parameters

none_wants : (k offset : ℕ) (words : List ℕ) → 0 < offset → NoneWants (named_params k offset words)
none_wants k offset [] some = tt
none_wants k offset (n ∷ []) some = tt
none_wants k offset (name ∷ type ∷ words) some =
    elim (wants_name name type) as (λ (b : Bool). wants_name name type ≡ b → NoneWants (if b then offset ∷ type ∷ named_params (k + 1) (offset + length (param_text k) + 1) words else name ∷ type ∷ named_params (k + 1) offset words)) [
      | true ↦ λ _. (has_one offset type some, none_wants (k + 1) (offset + length (param_text k) + 1) words (omega (arith, some)))
      | false ↦ λ other. (other, none_wants (k + 1) offset words some)
    ] refl
  where
    has_one : (n t : ℕ) → 0 < n → wants_name n t ≡ false
    has_one n t lt = ap (λ (b : Bool). b && not (t == 0)) (ne_eqb n 0 (λ none. absurd (omega (arith, lt, none))))

-- ---- functions

func_fact : (p : Pass) (more : List ℕ) (r : Record) (name : Result (List ℕ) Refusal) → kind_of r.info ≡ Some kinds.Func → name_is_read name ≡ None → text_at p.table.strings r.name ≡ name → Fact p (p.table.strings ++ more) (known_func p r name)
func_fact p more r (Err refusal) kind read is = absurd (none-some refusal (sym read))
func_fact p more r (Ok name) kind read is =
    let stays : text_at (p.table.strings ++ more) r.name ≡ Ok name = text_stays p.table.strings more r.name name is in
    one_of (Fact p (p.table.strings ++ more)) (is_global r && (is_builtin name || not (has p features.FuncGlobal))) (with_linkage 0 r) r
    (λ cleared.
    of_kind p (p.table.strings ++ more) (with_linkage 0 r) (Some kinds.Func) (ap (λ (m : ℕ). slice_get (take 20 kinds.kinds) m) (static_number r.info) ∙ kind)
    (name, stays, ap (λ (n : ℕ). (n == 1) && (is_builtin name || not (has p features.FuncGlobal))) (static_vlen r.info)))
    (λ kept. of_kind p (p.table.strings ++ more) r (Some kinds.Func) kind (name, stays, kept))

-- ---- names of sections

no_zero_at : (bs : List ℕ) → ((k : ℕ) → k < length bs → (get_or bs k 0 == 0) ≡ false) → NoZero bs
no_zero_at [] free = tt
no_zero_at (b ∷ bs) free = (free 0 (omega arith), no_zero_at bs (λ k lt. free (suc k) (omega (arith, lt))))

-- the bytes of a text have no zero
no_zero_bytes : (strings : List ℕ) (offset : ℕ) (bytes : List ℕ) → bytes_at strings offset ≡ Some bytes → NoZero bytes
no_zero_bytes strings offset bytes is =
    let rest : List ℕ = drop offset strings in
    let found = some_mapped (λ end. take end rest) (position is_zero rest) bytes is in
    let end : ℕ = found.0 in
    let at = position-Some is_zero rest end 0 found.1 in
    subst NoZero found.2 (no_zero_at (take end rest) (λ k lt.
    let below : k < end = omega (arith, lt, length-take end rest) in
    ap (λ (n : ℕ). n == 0) (get_or-take end rest k 0 below) ∙ at.2 k below))

-- the texts of lower ids, of this id, and of higher ids
texts_split : (p : Pass) (n id : ℕ) → id < n → (later : List (List ℕ)) × (texts_below p n ≡ texts_below p id ++ (texts p id ++ later))
texts_split p zero id lt = absurd (omega (arith, lt))
texts_split p (suc n) id lt =
    elim (cases_order id n) as (λ c. (later : List (List ℕ)) × (texts_below p (suc n) ≡ texts_below p id ++ (texts p id ++ later))) [
      | inl same ↦ ([], ap (λ (i : ℕ). texts_below p i ++ texts p i) (sym same) ∙ ap (λ ts. texts_below p id ++ ts) (sym (append-nil (texts p id))))
      | inr other ↦ elim other as (λ c. (later : List (List ℕ)) × (texts_below p (suc n) ≡ texts_below p id ++ (texts p id ++ later))) [
        | inl less ↦
            let before : (later : List (List ℕ)) × (texts_below p n ≡ texts_below p id ++ (texts p id ++ later)) = texts_split p n id less in (
              before.0 ++ texts p n,
              ap (λ ts. ts ++ texts p n) before.1 ∙ append_assoc (texts_below p id) (texts p id ++ before.0) (texts p n) ∙ ap (λ ts. texts_below p id ++ ts) (append_assoc (texts p id) before.0 (texts p n)),
            )
        | inr more ↦ absurd (omega (arith, lt, more))
      ]
    ]

-- an appended text is at its offset
module _ (p : Pass) (n id : ℕ) (lt : id < n) (bytes : List ℕ) (fillers : List (List ℕ)) (none : NoZero bytes) (own : texts p id ≡ replaced slash dot (lossy bytes) ∷ fillers) where
  pub appended_reads : text_at (p.table.strings ++ flat_map with_zero_byte (texts_below p n)) (offset_at p id) ≡ Ok (replaced slash dot (lossy bytes))
  appended_reads =
      let t : List ℕ = replaced slash dot (lossy bytes) in
      let split : (later : List (List ℕ)) × (texts_below p n ≡ texts_below p id ++ (texts p id ++ later)) = texts_split p n id lt in
      let front : List ℕ = flat_map with_zero_byte (texts_below p id) in
      let behind : List ℕ = flat_map with_zero_byte (fillers ++ split.0) in
      let bytes_are : flat_map with_zero_byte (texts_below p n) ≡ front ++ (with_zero_byte t ++ behind) =
      ap (flat_map with_zero_byte) (split.1 ∙ ap (λ ts. texts_below p id ++ (ts ++ split.0)) own) ∙ flat_map-append with_zero_byte (texts_below p id) (t ∷ (fillers ++ split.0)) in
      let strings_are : p.table.strings ++ flat_map with_zero_byte (texts_below p n) ≡ (p.table.strings ++ front) ++ t ++ 0 ∷ [] ++ behind =
      ap (λ xs. p.table.strings ++ xs) bytes_are ∙ sym (append_assoc p.table.strings front (with_zero_byte t ++ behind)) ∙ sym (append_assoc (p.table.strings ++ front) (with_zero_byte t) behind)
      ∙ ap (λ xs. xs ++ behind) (sym (append_assoc (p.table.strings ++ front) t (0 ∷ []))) in
      let offset : length (p.table.strings ++ front) ≡ offset_at p id = omega (arith, length-append p.table.strings front, ended_len (texts_below p id)) in
      ap (λ xs. text_at xs (offset_at p id)) strings_are
      ∙ text_stays ((p.table.strings ++ front) ++ t ++ 0 ∷ []) behind (offset_at p id) t
      (subst (λ (o : ℕ). text_at ((p.table.strings ++ front) ++ t ++ 0 ∷ []) o ≡ Ok t) offset (renamed_reads_back (p.table.strings ++ front) bytes slash dot (omega arith) (omega arith) refl none))

-- The new name of a section reads as a name without a slash.
module _ (p : Pass) (n id : ℕ) (lt : id < n) (kind : kind_at p.table id ≡ Some kinds.DataSec) (granted : has p features.DataSec ≡ true) where
  named_by : (name : Result (List ℕ) Refusal) → name_of p id ≡ name → name_is_read name ≡ None
      → (text : List ℕ) × (text_at (p.table.strings ++ flat_map with_zero_byte (texts_below p n)) (name_or (record_at p.table id).name (offset_at p id) (renaming p name)) ≡ Ok text) × (replaced slash dot text ≡ text)
  named_by (Err refusal) is read = absurd (none-some refusal (sym read))
  named_by (Ok name) is read =
      let r : Record = record_at p.table id in
      let strings : List ℕ = p.table.strings ++ flat_map with_zero_byte (texts_below p n) in
      let new : List ℕ = replaced slash dot name in
      let section : new_section_name p name ≡ new = ap (λ (b : Bool). if b then new else replaced 0x2e 0x5f name) granted in
      let bytes = has_bytes r.name (bytes_at p.table.strings r.name) name is in
      let free : NoZero bytes.0 = no_zero_bytes p.table.strings r.name bytes.0 bytes.1 in
      elim (bytes_eq (new_section_name p name) name) as (λ (b : Bool). bytes_eq (new_section_name p name) name ≡ b
      → (text : List ℕ) × (text_at strings (name_or r.name (offset_at p id) (if b then [] else new_section_name p name ∷ [])) ≡ Ok text) × (replaced slash dot text ≡ text)) [
        | true ↦ λ same.
            let stays : new ≡ name = sym section ∙ (bytes_eq-Decides (new_section_name p name) name).0 same in
            (name, text_stays p.table.strings (flat_map with_zero_byte (texts_below p n)) r.name name is, stays)
        | false ↦ λ other.
            let own : texts p id ≡ replaced slash dot (lossy bytes.0) ∷ (if makes_filler p id then filler_type_text ∷ filler_text ∷ [] else []) =
            ap (λ (k : Option Kind). texts_by p id k r) kind ∙ ap (λ m. renaming p m ++ (if makes_filler p id then filler_type_text ∷ filler_text ∷ [] else [])) is
            ∙ ap (λ (b : Bool). (if b then [] else new_section_name p name ∷ []) ++ (if makes_filler p id then filler_type_text ∷ filler_text ∷ [] else [])) other
            ∙ ap (λ t. t ∷ (if makes_filler p id then filler_type_text ∷ filler_text ∷ [] else [])) (section ∙ ap (replaced slash dot) (sym bytes.2)) in
            let reads : text_at strings (offset_at p id) ≡ Ok new = appended_reads p n id lt bytes.0 _ free own ∙ ap (λ t. Ok (replaced slash dot t)) bytes.2 in
            (new, reads, replaced_twice slash dot name refl)
      ] refl

  pub name_fact : first_fault (checks_by p id (Some kinds.DataSec) (record_at p.table id)) ≡ None
      → (text : List ℕ) × (text_at (p.table.strings ++ flat_map with_zero_byte (texts_below p n)) (new_name p id (record_at p.table id)) ≡ Ok text) × (replaced slash dot text ≡ text)
  name_fact passed = named_by (name_of p id) refl (passed_head (name_is_read (name_of p id)) _ (passed_left (name_checks p id) _ passed))

-- ---- all kinds

-- the strings after the pass
abbrev pub after : Pass → ℕ → List ℕ
after p n = p.table.strings ++ flat_map with_zero_byte (texts_below p n)

fact_by : (p : Pass) (lower : List Record) (n id : ℕ) (k : Option Kind) → id < n → 0 < length p.table.strings → kind_at p.table id ≡ k → first_fault (checks_by p id k (record_at p.table id)) ≡ None
    → Fact p (after p n) (becomes_by p lower id k (record_at p.table id))
fact_by p lower n id (Some kinds.Ptr) lt some kind passed = of_kind p (after p n) (record (record_at p.table id) { name = 0 }) (Some kinds.Ptr) kind refl
fact_by p lower n id (Some kinds.Var) lt some kind passed =
    one_of (Fact p (after p n)) (has p features.DataSec) (record_at p.table id) (byte_int (record_at p.table id).name) (λ _. of_kind p (after p n) (record_at p.table id) (Some kinds.Var) kind tt) (λ _. of_kind p (after p n) (byte_int (record_at p.table id).name) (Some kinds.Int) refl tt)
fact_by p lower n id (Some kinds.Float) lt some kind passed =
    one_of (Fact p (after p n)) (has p features.Float) (record_at p.table id) (struct 0 (record_at p.table id).third 0 []) (λ _. of_kind p (after p n) (record_at p.table id) (Some kinds.Float) kind tt)
    (λ _. of_kind p (after p n) (struct 0 (record_at p.table id).third 0 []) (Some kinds.Struct) (kind_made 4 0 kinds.Struct (omega arith) (omega arith) refl) tt)
fact_by p lower n id (Some kinds.DeclTag) lt some kind passed =
    one_of (Fact p (after p n)) (has p features.DeclTag) (record_at p.table id) (byte_int (record_at p.table id).name) (λ _. of_kind p (after p n) (record_at p.table id) (Some kinds.DeclTag) kind tt) (λ _. of_kind p (after p n) (byte_int (record_at p.table id).name) (Some kinds.Int) refl tt)
fact_by p lower n id (Some kinds.TypeTag) lt some kind passed =
    one_of (Fact p (after p n)) (has p features.TypeTag) (record_at p.table id) (const (record_at p.table id).third) (λ _. of_kind p (after p n) (record_at p.table id) (Some kinds.TypeTag) kind tt) (λ _. of_kind p (after p n) (const (record_at p.table id).third) (Some kinds.Const) refl tt)
fact_by p lower n id (Some kinds.Enum) lt some kind passed =
    one_of (Fact p (after p n)) (is_signed (record_at p.table id) && not (has p features.Enum64)) (unsigned (record_at p.table id)) (record_at p.table id)
    (λ _. of_kind p (after p n) (unsigned (record_at p.table id)) (Some kinds.Enum) (ap (λ (m : ℕ). slice_get (take 20 kinds.kinds) m) (unsigned_number (record_at p.table id).info) ∙ kind) tt) (λ _. of_kind p (after p n) (record_at p.table id) (Some kinds.Enum) kind tt)
fact_by p lower n id (Some kinds.Enum64) lt some kind passed =
    one_of (Fact p (after p n)) (has p features.Enum64) (record_at p.table id) _ (λ _. of_kind p (after p n) (record_at p.table id) (Some kinds.Enum64) kind tt)
    (λ _. of_kind p (after p n) (union (record_at p.table id).name (record_at p.table id).third (vlen (record_at p.table id).info) (variant_members (member_type_id p id) (variants (record_at p.table id).tail))) (Some kinds.Union) (kind_made 5 (vlen (record_at p.table id).info) kinds.Union (omega arith) (vlen_small (record_at p.table id).info) refl) tt)
fact_by p lower n id (Some kinds.Func) lt some kind passed =
    one_of (Fact p (after p n)) (has p features.Func) (known_func p (record_at p.table id) (name_of p id)) (typedef (record_at p.table id).name (record_at p.table id).third)
    (λ _. func_fact p (flat_map with_zero_byte (texts_below p n)) (record_at p.table id) (name_of p id) kind (passed_head (name_is_read (name_of p id)) [] passed) refl) (λ _. of_kind p (after p n) (typedef (record_at p.table id).name (record_at p.table id).third) (Some kinds.Typedef) refl tt)
fact_by p lower n id (Some kinds.FuncProto) lt some kind passed =
    one_of (Fact p (after p n)) (has p features.Func) (record (record_at p.table id) { tail = named_params 0 (offset_at p id) (record_at p.table id).tail }) (enum (record_at p.table id).name (vlen (record_at p.table id).info) (record_at p.table id).tail)
    (λ _. of_kind p (after p n) (record (record_at p.table id) { tail = named_params 0 (offset_at p id) (record_at p.table id).tail }) (Some kinds.FuncProto) kind (none_wants 0 (offset_at p id) (record_at p.table id).tail (omega (arith, some))))
    (λ _. of_kind p (after p n) (enum (record_at p.table id).name (vlen (record_at p.table id).info) (record_at p.table id).tail) (Some kinds.Enum) (kind_made 6 (vlen (record_at p.table id).info) kinds.Enum (omega arith) (vlen_small (record_at p.table id).info) refl) tt)
fact_by p lower n id (Some kinds.DataSec) lt some kind passed =
    let r : Record = record_at p.table id in
    let strings : List ℕ = after p n in
    one_of (Fact p strings) (has p features.DataSec) (if r.third == 0 then completed p id (unwrap_or (section_size p id) 0) r else sized p id r) (struct (new_name p id r) (vlen r.info) (vlen r.info) (entry_members p lower id (section_entries r.tail)))
    (λ granted.
    let named : (text : List ℕ) × (text_at strings (new_name p id r) ≡ Ok text) × (replaced slash dot text ≡ text) = name_fact p n id lt kind granted passed in
    let with_filler : (size : ℕ) → Fact p strings (filled p id size r) = λ size. of_kind p strings (filled p id size r) (Some kinds.DataSec) (kind_made 15 1 kinds.DataSec (omega arith) (omega arith) refl) named in
    one_of (Fact p strings) (r.third == 0) (completed p id (unwrap_or (section_size p id) 0) r) (sized p id r)
    (λ _. one_of (Fact p strings) (gets_filler p id) (filled p id (max (unwrap_or (section_size p id) 0) 1) r)
    (made_data_sec (new_name p id r) (unwrap_or (section_size p id) 0) (vlen r.info) (map (placed p) (section_entries r.tail)))
    (λ _. with_filler (max (unwrap_or (section_size p id) 0) 1))
    (λ _. of_kind p strings (made_data_sec (new_name p id r) (unwrap_or (section_size p id) 0) (vlen r.info) (map (placed p) (section_entries r.tail))) (Some kinds.DataSec) (kind_made 15 (vlen r.info) kinds.DataSec (omega arith) (vlen_small r.info) refl) named))
    (λ _. one_of (Fact p strings) (gets_filler p id) (filled p id r.third r) (record r { name = new_name p id r }) (λ _. with_filler r.third) (λ _. of_kind p strings (record r { name = new_name p id r }) (Some kinds.DataSec) kind named)))
    (λ _. of_kind p strings (struct (new_name p id r) (vlen r.info) (vlen r.info) (entry_members p lower id (section_entries r.tail))) (Some kinds.Struct) (kind_made 4 (vlen r.info) kinds.Struct (omega arith) (vlen_small r.info) refl) tt)
fact_by p lower n id k lt some kind passed = of_kind p (after p n) (record_at p.table id) k kind tt

-- What the record of an id becomes has the fact of its kind.
pub new_fact : (p : Pass) (n id : ℕ) → id < n → 0 < length p.table.strings → fault p id ≡ None → Fact p (after p n) (becomes p id)
new_fact p n id lt some passed = fact_by p (ruled_below p id) n id (kind_at p.table id) lt some refl passed
