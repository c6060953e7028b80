-- The items of a type, which are read from its words one by one.
use Rattle.std.proofs.Common.{inl, inr, ◌≡◌, ◌∙◌, ℕ, zero, suc, ◌+◌, ◌*◌, ◌-◌, ◌<◌, ◌≤◌, List, [], ◌∷◌, ◌++◌, length, take, drop, true, false, Option, Some, None, refl, sym, ap, arith, take-append-drop, length-take-le, length-drop, drop-drop}
use Rattle.std.specs.Prelude.{IfSome, nat_lt, slice_get, slice_index}
use Rattle.std.specs.Option.{option_map}
use Rattle.std.proofs.lemmas.Bool.{cases_Bool}
use Rattle.std.proofs.lemmas.Bool.Decides.{nat_tests}
use Rattle.std.proofs.lemmas.Option.{slice_get_past}
use Rattle.btf_model.specs.Record as model
use Rattle.btf_model.specs.Record.{Kind, Array, Record, kind_of, tail_words, is_composite}
use Rattle.btf_model.specs.Table.{Variant}
use Rattle.btf_plain.specs.Items.{enum_words, enum64_words, member_words, param_words}
use Rattle.btf_plain.specs.Kind.{kind}
use Rattle.btf_plain.specs.declared.items.BtfEnum.{BtfEnum}
use Rattle.btf_plain.specs.declared.items.BtfEnum64.{BtfEnum64}
use Rattle.btf_plain.specs.declared.items.BtfMember.{BtfMember}
use Rattle.btf_plain.specs.declared.items.BtfParam.{BtfParam}
use Rattle.btf_plain.specs.declared.kind.BtfKind.{BtfKind}
use Rattle.btf_plain.specs.declared.kind.BtfKind.TheVariants as code
use Rattle.btf_relocate_model.specs.Comparison.{parameter_ids}
use Rattle.btf_relocate_model.specs.Enumerator.{enumerators_by, narrow_enumerators, wide_enumerators}
use Rattle.btf_relocate_model.specs.Field.{Member, members_by, members_in, members_of}
use Rattle.btf_relocate_model.specs.Instruction.{sign_extended}
use Rattle.btf_relocate.specs.Members.{member_of, parameters_by, parameters_of}
use Rattle.btf_relocate.specs.Enumerators.{narrow_variant, wide_variant}
use Rattle.btf_view.specs.TypeRef.{first_words, item_at}
use Rattle.btf_view.proofs.Words.{no_item}

-- ---- lists of items, each of which is read from the same number of words

first_take : (w : ℕ) (ws : List ℕ) → w ≤ length ws → first_words w ws ≡ Some (take w ws)
first_take zero ws le = refl
first_take (suc n) [] le = absurd (omega (arith, le))
first_take (suc n) (x ∷ ws) le = ap (option_map (λ (rest : List ℕ). x ∷ rest)) (first_take n ws (omega (arith, le)))

-- the list has a value for each so many words, and none for fewer words
pub record Reads (A : Type 0) (w : ℕ) (read : List ℕ → List A) (value : List ℕ → A) : Type 0 where
  pub some : 0 < w
  pub short : (ws : List ℕ) → length ws < w → read ws ≡ []
  pub next : (xs ws : List ℕ) → length xs ≡ w → read (xs ++ ws) ≡ value xs ∷ read ws

module _ {A : Type 0} (w : ℕ) (read : List ℕ → List A) (value : List ℕ → A) (reads : Reads A w read value) where
  cut : (ws : List ℕ) → w ≤ length ws → read ws ≡ value (take w ws) ∷ read (drop w ws)
  cut ws le = ap read (sym (take-append-drop w ws)) ∙ reads.next (take w ws) (drop w ws) (length-take-le w ws le)

  too_few : (ws : List ℕ) (i : ℕ) → length ws < w → option_map value (item_at w ws i) ≡ slice_get (read ws) i
  too_few ws i few =
      let none : slice_get ws (w * i + (w - 1)) ≡ None = slice_get_past ws (w * i + (w - 1)) (omega (arith, few)) in
      ap (option_map value) (no_item w ws i (w - 1) (omega (arith, few)) none) ∙ sym (ap (λ (xs : List A). slice_get xs i) (reads.short ws few))

  pub item_read : (ws : List ℕ) (i : ℕ) → option_map value (item_at w ws i) ≡ slice_get (read ws) i
  item_read ws zero = elim (cases_Bool (nat_lt (length ws) w)) [
    | inl few ↦ too_few ws zero (grind (arith, nat_tests))
    | inr many ↦
        let le : w ≤ length ws = grind (arith, nat_tests) in
        ap (λ (n : ℕ). option_map value (first_words w (drop n ws))) (let e : w * zero ≡ zero = omega arith in e)
        ∙ ap (option_map value) (first_take w ws le) ∙ sym (ap (λ (xs : List A). slice_get xs zero) (cut ws le))
  ]
  item_read ws (suc i) = elim (cases_Bool (nat_lt (length ws) w)) [
    | inl few ↦ too_few ws (suc i) (grind (arith, nat_tests))
    | inr many ↦
        let le : w ≤ length ws = grind (arith, nat_tests) in
        ap (λ (n : ℕ). option_map value (first_words w (drop n ws))) (let e : w * suc i ≡ w + w * i = omega arith in e)
        ∙ ap (λ (xs : List ℕ). option_map value (first_words w xs)) (sym (drop-drop (w * i) w ws))
        ∙ item_read (drop w ws) i ∙ sym (ap (λ (xs : List A). slice_get xs (suc i)) (cut ws le))
  ]

  pub count_read : (n : ℕ) (ws : List ℕ) → length ws ≡ w * n → length (read ws) ≡ n
  count_read zero ws len = ap length (reads.short ws (omega (arith, len, reads.some)))
  count_read (suc n) ws len =
      let rest : length (read (drop w ws)) ≡ n = count_read n (drop w ws) (omega (arith, len, length-drop w ws)) in
      ap length (cut ws (omega (arith, len))) ∙ omega (arith, rest)

-- two and three words
pub two_words : (xs : List ℕ) → length xs ≡ 2 → xs ≡ slice_index xs 0 ∷ slice_index xs 1 ∷ []
two_words [] is = absurd (omega (arith, is))
two_words (a ∷ []) is = absurd (omega (arith, is))
two_words (a ∷ b ∷ []) is = refl
two_words (a ∷ b ∷ c ∷ xs) is = absurd (omega (arith, is))

pub three_words : (xs : List ℕ) → length xs ≡ 3 → xs ≡ slice_index xs 0 ∷ slice_index xs 1 ∷ slice_index xs 2 ∷ []
three_words [] is = absurd (omega (arith, is))
three_words (a ∷ []) is = absurd (omega (arith, is))
three_words (a ∷ b ∷ []) is = absurd (omega (arith, is))
three_words (a ∷ b ∷ c ∷ []) is = refl
three_words (a ∷ b ∷ c ∷ d ∷ xs) is = absurd (omega (arith, is))

-- ---- members

member_from : List ℕ → Member
member_from ws = record { name = slice_index ws 0; type = slice_index ws 1; offset = slice_index ws 2 }

few_members : (ws : List ℕ) → length ws < 3 → members_in ws ≡ []
few_members [] lt = refl
few_members (a ∷ []) lt = refl
few_members (a ∷ b ∷ []) lt = refl
few_members (a ∷ b ∷ c ∷ ws) lt = absurd (omega (arith, lt))

members_read : Reads Member 3 members_in member_from
unfolding member_from
members_read = record {
  some = omega arith;
  short = few_members;
  next = λ xs ws is. ap (λ (ys : List ℕ). members_in (ys ++ ws)) (three_words xs is);
}

member_values : (o : Option BtfMember) → option_map member_of o ≡ option_map member_from (option_map member_words o)
unfolding member_from
member_values None = refl
member_values (Some m) = refl

composite : (k : Option Kind) (ws : List ℕ) (i : ℕ) → i < length (members_by k ws) → members_by k ws ≡ members_in ws
composite (Some model.Struct) ws i lt = refl
composite (Some model.Union) ws i lt = refl
composite k ws i lt = absurd (omega (arith, lt))

pub member_item : (r : Record) (i : ℕ) (o : Option BtfMember) → i < length (members_of r) → option_map member_words o ≡ item_at 3 r.tail i
    → option_map member_of o ≡ slice_get (members_of r) i
member_item r i o lt is =
    member_values o ∙ ap (option_map member_from) is ∙ item_read 3 members_in member_from members_read r.tail i
    ∙ ap (λ (ms : List Member). slice_get ms i) (sym (composite (kind_of r.info) r.tail i lt))

pub members_counted : (c : BtfKind) (k : Option Kind) (n : ℕ) (ws : List ℕ) → k ≡ Some (kind c) → is_composite (kind c) ≡ true → length ws ≡ tail_words (kind c) n
    → n ≡ length (members_by k ws)
members_counted code.Struct k n ws is so len = sym (ap (λ (q : Option Kind). length (members_by q ws)) is ∙ count_read 3 members_in member_from members_read n ws len)
members_counted code.Union k n ws is so len = sym (ap (λ (q : Option Kind). length (members_by q ws)) is ∙ count_read 3 members_in member_from members_read n ws len)
members_counted c k n ws is so len = absurd (cc)

pub no_members : (c : BtfKind) (k : Option Kind) (ws : List ℕ) → k ≡ Some (kind c) → is_composite (kind c) ≡ false → 0 ≡ length (members_by k ws)
no_members code.Struct k ws is so = absurd (cc)
no_members code.Union k ws is so = absurd (cc)
no_members c k ws is so = sym (ap (λ (q : Option Kind). length (members_by q ws)) is)

-- ---- parameters

parameter_from : List ℕ → ℕ
parameter_from ws = slice_index ws 1

few_parameters : (ws : List ℕ) → length ws < 2 → parameter_ids ws ≡ []
few_parameters [] lt = refl
few_parameters (a ∷ []) lt = refl
few_parameters (a ∷ b ∷ ws) lt = absurd (omega (arith, lt))

parameters_read : Reads ℕ 2 parameter_ids parameter_from
unfolding parameter_from
parameters_read = record {
  some = omega arith;
  short = few_parameters;
  next = λ xs ws is. ap (λ (ys : List ℕ). parameter_ids (ys ++ ws)) (two_words xs is);
}

prototype : (k : Option Kind) (ws : List ℕ) (i : ℕ) → i < length (parameters_by k ws) → parameters_by k ws ≡ parameter_ids ws
prototype (Some model.FuncProto) ws i lt = refl
prototype k ws i lt = absurd (omega (arith, lt))

parameter_values : (o : Option BtfParam) → option_map (λ (p : BtfParam). p.btf_type) o ≡ option_map parameter_from (option_map param_words o)
unfolding parameter_from
parameter_values None = refl
parameter_values (Some p) = refl

pub parameter_item : (r : Record) (i : ℕ) (o : Option BtfParam) → i < length (parameters_of r) → option_map param_words o ≡ item_at 2 r.tail i
    → option_map (λ (p : BtfParam). p.btf_type) o ≡ slice_get (parameters_of r) i
parameter_item r i o lt is =
    parameter_values o ∙ ap (option_map parameter_from) is ∙ item_read 2 parameter_ids parameter_from parameters_read r.tail i
    ∙ ap (λ (ts : List ℕ). slice_get ts i) (sym (prototype (kind_of r.info) r.tail i lt))

pub parameters_counted : (c : BtfKind) (k : Option Kind) (n : ℕ) (ws : List ℕ) → k ≡ Some (kind c) → c ≡ code.FuncProto → length ws ≡ tail_words (kind c) n
    → n ≡ length (parameters_by k ws)
parameters_counted c k n ws is so len =
    sym (ap (λ (q : Option Kind). length (parameters_by q ws)) (is ∙ ap (λ (x : BtfKind). Some (kind x)) so)
    ∙ count_read 2 parameter_ids parameter_from parameters_read n ws (len ∙ ap (λ (x : BtfKind). tail_words (kind x) n) so))

pub no_parameters : (c : BtfKind) (k : Option Kind) (ws : List ℕ) → k ≡ Some (kind c) → (c ≡ code.FuncProto → ⊥) → 0 ≡ length (parameters_by k ws)
no_parameters code.FuncProto k ws is other = absurd (other refl)
no_parameters c k ws is other = sym (ap (λ (q : Option Kind). length (parameters_by q ws)) is)

-- ---- enumerators

narrow_from : List ℕ → Variant
narrow_from ws = record { name = slice_index ws 0; value = sign_extended 32 (slice_index ws 1) }

few_narrow : (ws : List ℕ) → length ws < 2 → narrow_enumerators ws ≡ []
few_narrow [] lt = refl
few_narrow (a ∷ []) lt = refl
few_narrow (a ∷ b ∷ ws) lt = absurd (omega (arith, lt))

narrow_read : Reads Variant 2 narrow_enumerators narrow_from
unfolding narrow_from
narrow_read = record {
  some = omega arith;
  short = few_narrow;
  next = λ xs ws is. ap (λ (ys : List ℕ). narrow_enumerators (ys ++ ws)) (two_words xs is);
}

narrow_values : (o : Option BtfEnum) → option_map narrow_variant o ≡ option_map narrow_from (option_map enum_words o)
unfolding narrow_from
narrow_values None = refl
narrow_values (Some e) = refl

pub narrow_item : (ws : List ℕ) (i : ℕ) (o : Option BtfEnum) → option_map enum_words o ≡ item_at 2 ws i → option_map narrow_variant o ≡ slice_get (narrow_enumerators ws) i
narrow_item ws i o is = narrow_values o ∙ ap (option_map narrow_from) is ∙ item_read 2 narrow_enumerators narrow_from narrow_read ws i

wide_from : List ℕ → Variant
wide_from ws = wide_variant (record { name_offset = slice_index ws 0; value_low = slice_index ws 1; value_high = slice_index ws 2 })

few_wide : (ws : List ℕ) → length ws < 3 → wide_enumerators ws ≡ []
few_wide [] lt = refl
few_wide (a ∷ []) lt = refl
few_wide (a ∷ b ∷ []) lt = refl
few_wide (a ∷ b ∷ c ∷ ws) lt = absurd (omega (arith, lt))

wide_read : Reads Variant 3 wide_enumerators wide_from
unfolding wide_from
wide_read = record {
  some = omega arith;
  short = few_wide;
  next = λ xs ws is. ap (λ (ys : List ℕ). wide_enumerators (ys ++ ws)) (three_words xs is);
}

wide_values : (o : Option BtfEnum64) → option_map wide_variant o ≡ option_map wide_from (option_map enum64_words o)
unfolding wide_from
wide_values None = refl
wide_values (Some e) = refl

pub wide_item : (ws : List ℕ) (i : ℕ) (o : Option BtfEnum64) → option_map enum64_words o ≡ item_at 3 ws i → option_map wide_variant o ≡ slice_get (wide_enumerators ws) i
wide_item ws i o is = wide_values o ∙ ap (option_map wide_from) is ∙ item_read 3 wide_enumerators wide_from wide_read ws i

-- the enumerators and their number, by the kind
pub narrow_has : (c : BtfKind) (k : Option Kind) (ws : List ℕ) → k ≡ Some (kind c) → c ≡ code.Enum → enumerators_by k ws ≡ narrow_enumerators ws
narrow_has c k ws is so = ap (λ (q : Option Kind). enumerators_by q ws) (is ∙ ap (λ (x : BtfKind). Some (kind x)) so)

pub wide_has : (c : BtfKind) (k : Option Kind) (ws : List ℕ) → k ≡ Some (kind c) → c ≡ code.Enum64 → enumerators_by k ws ≡ wide_enumerators ws
wide_has c k ws is so = ap (λ (q : Option Kind). enumerators_by q ws) (is ∙ ap (λ (x : BtfKind). Some (kind x)) so)

pub narrow_counted : (c : BtfKind) (k : Option Kind) (n : ℕ) (ws : List ℕ) → k ≡ Some (kind c) → c ≡ code.Enum → length ws ≡ tail_words (kind c) n
    → n ≡ length (enumerators_by k ws)
narrow_counted c k n ws is so len =
    sym (ap (λ (q : Option Kind). length (enumerators_by q ws)) (is ∙ ap (λ (x : BtfKind). Some (kind x)) so)
    ∙ count_read 2 narrow_enumerators narrow_from narrow_read n ws (len ∙ ap (λ (x : BtfKind). tail_words (kind x) n) so))

pub wide_counted : (c : BtfKind) (k : Option Kind) (n : ℕ) (ws : List ℕ) → k ≡ Some (kind c) → c ≡ code.Enum64 → length ws ≡ tail_words (kind c) n
    → n ≡ length (enumerators_by k ws)
wide_counted c k n ws is so len =
    sym (ap (λ (q : Option Kind). length (enumerators_by q ws)) (is ∙ ap (λ (x : BtfKind). Some (kind x)) so)
    ∙ count_read 3 wide_enumerators wide_from wide_read n ws (len ∙ ap (λ (x : BtfKind). tail_words (kind x) n) so))

pub no_enumerators : (c : BtfKind) (k : Option Kind) (ws : List ℕ) → k ≡ Some (kind c) → (c ≡ code.Enum → ⊥) → (c ≡ code.Enum64 → ⊥) → enumerators_by k ws ≡ []
no_enumerators code.Enum k ws is narrow wide = absurd (narrow refl)
no_enumerators code.Enum64 k ws is narrow wide = absurd (wide refl)
no_enumerators c k ws is narrow wide = ap (λ (q : Option Kind). enumerators_by q ws) is

-- ---- the words of an ARRAY

pub no_array : (c : BtfKind) (k : Option Kind) → k ≡ Some (kind c) → (c ≡ code.Array → ⊥) → k ≡ Some Array → ⊥
no_array code.Array k is other so = other refl
no_array c k is other so = absurd (let wrong : Some (kind c) ≡ Some Array = sym is ∙ so in cc)

pub is_array : (c : BtfKind) (k : Option Kind) → k ≡ Some (kind c) → c ≡ code.Array → k ≡ Some Array
is_array c k is so = is ∙ ap (λ (x : BtfKind). Some (kind x)) so

pub array_words : (c : BtfKind) (n : ℕ) (ws : List ℕ) → c ≡ code.Array → length ws ≡ tail_words (kind c) n → ws ≡ slice_index ws 0 ∷ slice_index ws 1 ∷ slice_index ws 2 ∷ []
array_words c n ws so len = three_words ws (len ∙ ap (λ (x : BtfKind). tail_words (kind x) n) so)

-- what holds anyway holds of what is there
pub if_some : {A : Type 0} (o : Option A) (P : Type 0) → P → IfSome o (λ _. P)
if_some None P p = tt
if_some (Some x) P p = p
