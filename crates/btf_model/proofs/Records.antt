-- No spelling is a proper prefix of another, and bytes determine the spellings that they consist of.
use Rattle.std.proofs.Common.{◌≡◌, ℕ, suc, ◌+◌, ◌*◌, ◌^◌, ◌<◌, ◌≤◌, List, [], ◌∷◌, ◌++◌, length, take, Some, refl, sym, ap, subst, ◌∙◌, append_assoc, arith}
use Rattle.std.specs.List.{flat_map, AllByRecursion}
use Rattle.std.proofs.lemmas.List.{length-append, length-map, append_cancel_left, append-nil}
use Rattle.btf_model.specs.Word.{words_at}
use Rattle.btf_model.specs.declared.endianness.Endianness.{Endianness}
use Rattle.btf_model.specs.Record.{Kind, Unknown, Int, Ptr, Array, Struct, Union, Enum, Fwd, Typedef, Volatile, Const, Restrict, Func, FuncProto, Var, DataSec, Float, DeclTag, TypeTag, Enum64, Record, kind_of, vlen, tail_words, unknown, words}
use Rattle.btf_model.specs.Spelling.{spell, HasKind, kept, IsRecord, IsWhole}
use Rattle.btf_model.specs.Blob.{AreRecords, BeginsNoRecord}
use Rattle.btf_model.proofs.Words.{words_at-front, length-spelled, words_at-spelled}

pub length-spell : (order : Endianness) (r : Record) → length (spell order r) ≡ 12 + 4 * length r.tail
length-spell order r = omega (arith, length-spelled order (words r))

-- the record of a list of words
from_words : List ℕ → Record
from_words (a ∷ b ∷ c ∷ tail) = record { name = a; info = b; third = c; tail = tail }
from_words ws = unknown

from_words-words : (r : Record) → from_words (words r) ≡ r
unfolding from_words
from_words-words r = refl

same_kind : (k l : Kind) → Some k ≡ Some l → k ≡ l
same_kind k l e = cc

-- two spellings at the front of the same bytes have the same info word
same_info : (order : Endianness) (w v : Record) (x y : List ℕ) → AllByRecursion (λ n. n < 2 ^ 32) (words w) → AllByRecursion (λ n. n < 2 ^ 32) (words v) → spell order w ++ x ≡ spell order v ++ y → w.info ≡ v.info
unfolding from_words
same_info order w v x y fw fv e =
    let a = words_at-front order 3 (words w) x fw (omega arith) in
    let b = words_at-front order 3 (words v) y fv (omega arith) in
    let both : take 3 (words w) ≡ take 3 (words v) = sym a ∙ ap (words_at order 3) e ∙ b in
    ap (λ ws. (from_words ws).info) both

-- two records at the front of the same bytes have the same words
pub record SameStart (k l : Kind) (w v : Record) (x y : List ℕ) : Type 0 where
  pub kind : k ≡ l
  pub words : w ≡ v
  pub rest : x ≡ y

pub same_start : (order : Endianness) (k l : Kind) (w v : Record) (x y : List ℕ) → HasKind k w → HasKind l v → spell order w ++ x ≡ spell order v ++ y → SameStart k l w v x y
same_start order k l w v x y hw hv e =
    let info = same_info order w v x y hw.words hv.words e in
    let kind : k ≡ l = same_kind k l (sym hw.kind ∙ ap kind_of info ∙ hv.kind) in
    let len : length w.tail ≡ length v.tail = hw.tail ∙ ap (λ (i : ℕ). tail_words k (vlen i)) info ∙ ap (λ (j : Kind). tail_words j (vlen v.info)) kind ∙ sym hv.tail in
    let a = words_at-spelled order (words w) x hw.words in
    let b = words_at-spelled order (words v) y hv.words in
    let long : length (words w) ≡ length (words v) = ap (λ n. suc (suc (suc n))) len in
    let both : words w ≡ words v = sym a ∙ ap (words_at order (length (words w))) e ∙ ap (λ n. words_at order n (spell order v ++ y)) long ∙ b in
    let same : w ≡ v = sym (from_words-words w) ∙ ap from_words both ∙ from_words-words v in
    let rest : x ≡ y = append_cancel_left (spell order w) x y (e ∙ ap (λ (r : Record). spell order r ++ y) (sym same)) in
    record { kind = kind; words = same; rest = rest }

-- two spellings at the front of the same bytes spell the same record, and the same bytes follow them
pub record SameRecord (a b : List ℕ) (r q : Record) (x y : List ℕ) : Type 0 where
  pub bytes : a ≡ b
  pub record_is : r ≡ q
  pub rest : x ≡ y

pub same_record : (order : Endianness) (a b : List ℕ) (r q : Record) (x y : List ℕ) → IsRecord order a r → IsRecord order b q → a ++ x ≡ b ++ y → SameRecord a b r q x y
same_record order a b r q x y p s e =
    let e' : spell order p.1 ++ x ≡ spell order s.1 ++ y = ap (λ t. t ++ x) (sym p.3) ∙ e ∙ ap (λ t. t ++ y) s.3 in
    let same = same_start order p.0 s.0 p.1 s.1 x y p.2 s.2 e' in
    record {
      bytes = p.3 ∙ ap (spell order) same.words ∙ sym s.3;
      record_is = p.4 ∙ ap (λ (k : Kind). kept k p.1) same.kind ∙ ap (kept s.0) same.words ∙ sym s.4;
      rest = same.rest;
    }

-- a spelling has at least three words
pub spelling_is_long : (order : Endianness) (a : List ℕ) (r : Record) → IsRecord order a r → 12 ≤ length a
spelling_is_long order a r p = omega (arith, length-spell order p.1, ap length p.3)

-- a retained record has as many words as were read
pub length-kept : (k : Kind) (w : Record) → HasKind k w → length (kept k w).tail ≡ length w.tail
length-kept Unknown w h = sym h.tail
length-kept Var w h = length-map _ _
length-kept Int w h = refl
length-kept Ptr w h = refl
length-kept Array w h = refl
length-kept Struct w h = refl
length-kept Union w h = refl
length-kept Enum w h = refl
length-kept Fwd w h = refl
length-kept Typedef w h = refl
length-kept Volatile w h = refl
length-kept Const w h = refl
length-kept Restrict w h = refl
length-kept Func w h = refl
length-kept FuncProto w h = refl
length-kept DataSec w h = refl
length-kept Float w h = refl
length-kept DeclTag w h = refl
length-kept TypeTag w h = refl
length-kept Enum64 w h = refl

-- a spelling is as long as the record that is read
pub length-spelling : (order : Endianness) (a : List ℕ) (r : Record) → IsRecord order a r → length a ≡ 12 + 4 * length r.tail
length-spelling order a r p = omega (arith, length-spell order p.1, ap length p.3, ap (λ (q : Record). length q.tail) p.4, length-kept p.0 p.1 p.2)

-- the spelling of a record that reading retains whole is read as this record
pub whole_is_record : (order : Endianness) (r : Record) → IsWhole r → IsRecord order (spell order r) r
whole_is_record order r h = (h.0, r, h.1, refl, sym h.2)

-- ---- lists of records

-- one more record at the end
pub AreRecords-push : (order : Endianness) (a b : List ℕ) (rs : List Record) (r : Record) → AreRecords order a rs → IsRecord order b r → AreRecords order (a ++ b) (rs ++ r ∷ [])
AreRecords-push order a b [] r h p = (b, [], ap (λ t. t ++ b) h ∙ sym (append-nil b), p, refl)
AreRecords-push order a b (q ∷ rs) r h p =
    (h.0, h.1 ++ b, ap (λ t. t ++ b) h.2 ∙ append_assoc h.0 h.1 b, h.3, AreRecords-push order h.1 b rs r h.4 p)

-- whole records are read as they are written
pub whole_are_records : (order : Endianness) (rs : List Record) → AllByRecursion IsWhole rs → AreRecords order (flat_map (spell order) rs) rs
whole_are_records order [] h = refl
whole_are_records order (r ∷ rs) h = (spell order r, flat_map (spell order) rs, refl, whole_is_record order r h.0, whole_are_records order rs h.1)

begins_nothing : (order : Endianness) (a b : List ℕ) (r : Record) → IsRecord order a r → [] ≡ a ++ b → (A : Type 0) → A
begins_nothing order a b r p e A =
    let le = spelling_is_long order a r p in
    let len = ap length e in
    absurd (omega (arith, length-append a b))

-- there is one way to split bytes into spellings
pub same_records : (order : Endianness) (bytes : List ℕ) (rs qs : List Record) → AreRecords order bytes rs → AreRecords order bytes qs → rs ≡ qs
same_records order bytes [] [] h g = refl
same_records order bytes [] (q ∷ qs) h g = begins_nothing order g.0 g.1 q g.3 (sym h ∙ g.2) ([] ≡ q ∷ qs)
same_records order bytes (r ∷ rs) [] h g = begins_nothing order h.0 h.1 r h.3 (sym g ∙ h.2) (r ∷ rs ≡ [])
same_records order bytes (r ∷ rs) (q ∷ qs) h g =
    let same = same_record order h.0 g.0 r q h.1 g.1 h.3 g.3 (sym h.2 ∙ g.2) in
    let others = same_records order h.1 rs qs h.4 (subst (λ t. AreRecords order t qs) (sym same.rest) g.4) in
    ap (λ (x : Record). x ∷ rs) same.record_is ∙ ap (λ (xs : List Record). q ∷ xs) others

-- if no spelling begins after a front of spellings, no other front of spellings is longer
pub none_is_longer : (order : Endianness) (front rest other more : List ℕ) (rs qs : List Record) → BeginsNoRecord order rest → AreRecords order front rs → AreRecords order other qs → front ++ rest ≡ other ++ more → length other ≤ length front
none_is_longer order front rest other more rs [] none h g e = omega (arith, ap length g)
none_is_longer order front rest other more [] (q ∷ qs) none h g e =
    let begins : rest ≡ g.0 ++ (g.1 ++ more) = ap (λ t. t ++ rest) (sym h) ∙ e ∙ ap (λ t. t ++ more) g.2 ∙ append_assoc g.0 g.1 more in
    absurd (none g.0 (g.1 ++ more) q begins g.3)
none_is_longer order front rest other more (r ∷ rs) (q ∷ qs) none h g e =
    let e' : h.0 ++ (h.1 ++ rest) ≡ g.0 ++ (g.1 ++ more) = sym (append_assoc h.0 h.1 rest) ∙ ap (λ t. t ++ rest) (sym h.2) ∙ e ∙ ap (λ t. t ++ more) g.2 ∙ append_assoc g.0 g.1 more in
    let same = same_record order h.0 g.0 r q (h.1 ++ rest) (g.1 ++ more) h.3 g.3 e' in
    let others = none_is_longer order h.1 rest g.1 more rs qs none h.4 g.4 same.rest in
    omega (arith, length-append h.0 h.1, length-append g.0 g.1, ap length h.2, ap length g.2, ap length same.bytes)

-- the spellings of the records that are read are as long as the bytes
pub length-records : (order : Endianness) (bytes : List ℕ) (rs : List Record) → AreRecords order bytes rs → length (flat_map (spell order) rs) ≡ length bytes
length-records order bytes [] h = ap length (sym h)
length-records order bytes (r ∷ rs) h =
    omega (arith, length-append (spell order r) (flat_map (spell order) rs), length-spell order r, length-spelling order h.0 r h.3, length-records order h.1 rs h.4, ap length h.2, length-append h.0 h.1)

-- each record has at least three words
pub records_are_long : (order : Endianness) (rs : List Record) → 12 * length rs ≤ length (flat_map (spell order) rs)
records_are_long order [] = omega arith
records_are_long order (r ∷ rs) = omega (arith, length-append (spell order r) (flat_map (spell order) rs), length-spell order r, records_are_long order rs)
