-- The words after the head of the record at a place.
use Rattle.std.proofs.Common.{◌≡◌, ℕ, ◌+◌, ◌*◌, ◌≤◌, List, length, drop, Some, min, refl, sym, ap, subst, ◌∙◌, arith, inl, inr}
use Rattle.std.proofs.lemmas.List.{length-drop, length-map, drop-drop}
use Rattle.btf_model.specs.declared.endianness.Endianness.{Endianness}
use Rattle.btf_model.specs.Record.{Kind, Unknown, Int, Ptr, Array, Struct, Union, Enum, Fwd, Typedef, Volatile, Const, Restrict, Func, FuncProto, Var, DataSec, Float, DeclTag, TypeTag, Enum64, Record, kind_of, vlen, tail_words, unknown}
use Rattle.btf_model.specs.Word.{words_at}
use Rattle.btf_model.specs.Spelling.{kept}
use Rattle.btf_model.proofs.Words.{length-words_at}
use Rattle.btf_model.proofs.Reading.{record_at, info_at}
use Rattle.btf_view.specs.Places.{IsRecordAt}
use Rattle.btf_view.specs.Record.{HasTail}
use Rattle.btf_view.proofs.Front.{begins}

-- no bytes suffice for the words of Unknown
no_tail : (order : Endianness) (bytes : List ℕ) → HasTail order bytes unknown
no_tail order bytes = record { kind = Unknown; has = refl; len = refl; long = omega arith; words = λ _. refl }

-- what reading retains has the same words after the head, except for VAR
kept_tail : (order : Endianness) (bytes : List ℕ) (k : Kind) (w : Record) → kind_of w.info ≡ Some k → length w.tail ≡ tail_words k (vlen w.info) → 4 * length w.tail ≤ length bytes → w.tail ≡ words_at order (length w.tail) bytes → HasTail order bytes (kept k w)
kept_tail order bytes Unknown w has len long words = no_tail order bytes
kept_tail order bytes Var w has len long words = record { kind = Var; has = has; len = length-map w.tail (min 3) ∙ len; long = omega (arith, long, length-map w.tail (min 3)); words = λ ne. absurd (ne refl) }
kept_tail order bytes Int w has len long words = record { kind = Int; has = has; len = len; long = long; words = λ _. words }
kept_tail order bytes Ptr w has len long words = record { kind = Ptr; has = has; len = len; long = long; words = λ _. words }
kept_tail order bytes Array w has len long words = record { kind = Array; has = has; len = len; long = long; words = λ _. words }
kept_tail order bytes Struct w has len long words = record { kind = Struct; has = has; len = len; long = long; words = λ _. words }
kept_tail order bytes Union w has len long words = record { kind = Union; has = has; len = len; long = long; words = λ _. words }
kept_tail order bytes Enum w has len long words = record { kind = Enum; has = has; len = len; long = long; words = λ _. words }
kept_tail order bytes Fwd w has len long words = record { kind = Fwd; has = has; len = len; long = long; words = λ _. words }
kept_tail order bytes Typedef w has len long words = record { kind = Typedef; has = has; len = len; long = long; words = λ _. words }
kept_tail order bytes Volatile w has len long words = record { kind = Volatile; has = has; len = len; long = long; words = λ _. words }
kept_tail order bytes Const w has len long words = record { kind = Const; has = has; len = len; long = long; words = λ _. words }
kept_tail order bytes Restrict w has len long words = record { kind = Restrict; has = has; len = len; long = long; words = λ _. words }
kept_tail order bytes Func w has len long words = record { kind = Func; has = has; len = len; long = long; words = λ _. words }
kept_tail order bytes FuncProto w has len long words = record { kind = FuncProto; has = has; len = len; long = long; words = λ _. words }
kept_tail order bytes DataSec w has len long words = record { kind = DataSec; has = has; len = len; long = long; words = λ _. words }
kept_tail order bytes Float w has len long words = record { kind = Float; has = has; len = len; long = long; words = λ _. words }
kept_tail order bytes DeclTag w has len long words = record { kind = DeclTag; has = has; len = len; long = long; words = λ _. words }
kept_tail order bytes TypeTag w has len long words = record { kind = TypeTag; has = has; len = len; long = long; words = λ _. words }
kept_tail order bytes Enum64 w has len long words = record { kind = Enum64; has = has; len = len; long = long; words = λ _. words }

-- the bytes after the head at a place
pub tail_there : (order : Endianness) (types rest : List ℕ) (place : ℕ) (r : Record) → rest ≡ drop (place + 12) types → IsRecordAt order types place r → HasTail order rest r
tail_there order types rest place r is (inl read) =
    let bytes = drop place types in
    let b = begins order bytes r read in
    let n = tail_words b.kind (vlen (info_at order bytes)) in
    let behind : drop 4 (drop 4 (drop 4 bytes)) ≡ rest =
    drop-drop 4 4 (drop 4 bytes) ∙ drop-drop (4 + 4) 4 bytes ∙ drop-drop (4 + (4 + 4)) place types ∙ sym is in
    let len : length (record_at order n bytes).tail ≡ n = length-words_at order n (drop 4 (drop 4 (drop 4 bytes))) in
    subst (HasTail order rest) (sym b.is)
    (kept_tail order rest b.kind (record_at order n bytes) b.has len (omega (arith, b.long, len, ap length is, length-drop (place + 12) types, length-drop place types))
    (ap (λ (m : ℕ). words_at order m (drop 4 (drop 4 (drop 4 bytes)))) (sym len) ∙ ap (words_at order (length (record_at order n bytes).tail)) behind))
tail_there order types rest place r is (inr past) = subst (HasTail order rest) (sym past.1) (no_tail order rest)
