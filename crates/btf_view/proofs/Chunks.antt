-- The texts of the pieces of bytes.
use Rattle.std.proofs.Common.{◌≡◌, ◌∙◌, ◌++◌, ℕ, List, [], ◌∷◌, Bool, true, false, Some, None, Ok, Err, length, drop, refl, sym, ap, arith}
use Rattle.std.proofs.lemmas.List.{append_assoc}
use Rattle.std.proofs.lemmas.Str.{utf8_lossy_chunk, utf8_lossy_last_chunk}
use Rattle.std.specs.Str.Lossy.{utf8_lossy, utf8_valid_len, utf8_invalid_len, replacement_bytes}
use Rattle.std.proofs.lemmas.Bool.{false≢true}
use Rattle.btf_model.specs.Refusal.{InvalidStringOffset}
use Rattle.btf_model.specs.Text.{bytes_at, lossy, text_at, text_of}
use Rattle.btf_table.specs.BtfStr.{HasName}
use Rattle.btf_view.specs.Finding.{chunk_text}

-- a piece without bytes that are not UTF-8
pub chunk_whole : (valid invalid : List ℕ) → length invalid ≡ 0 → chunk_text valid invalid ≡ valid
chunk_whole valid [] none = refl
chunk_whole valid (byte ∷ invalid) none = absurd (omega (arith, none))

-- a piece with such bytes
pub chunk_cut : (valid invalid : List ℕ) → (length invalid ≡ 0 → ⊥) → chunk_text valid invalid ≡ valid ++ replacement_bytes
chunk_cut valid [] some = absurd (some refl)
chunk_cut valid (byte ∷ invalid) some = refl

-- both begin with the valid bytes
pub chunk_begins : (valid invalid more : List ℕ) → (rest : List ℕ) × (chunk_text valid invalid ++ more ≡ valid ++ rest)
chunk_begins valid [] more = (more, refl)
chunk_begins valid (byte ∷ invalid) more = (replacement_bytes ++ more, append_assoc valid replacement_bytes more)

-- the text of bytes has that of their first piece first
pub first_chunk : (bytes valid invalid rest : List ℕ) → bytes ≡ valid ++ (invalid ++ rest) → length valid ≡ utf8_valid_len bytes → length invalid ≡ utf8_invalid_len (drop (utf8_valid_len bytes) bytes) → (length invalid ≡ 0 → length rest ≡ 0) → utf8_lossy bytes ≡ chunk_text valid invalid ++ utf8_lossy rest
first_chunk bytes valid [] rest parts long cut last = utf8_lossy_last_chunk bytes valid [] rest parts long refl (last refl)
first_chunk bytes valid (byte ∷ invalid) rest parts long cut last = utf8_lossy_chunk bytes valid (byte ∷ invalid) rest parts long cut (omega arith) ∙ sym (append_assoc valid replacement_bytes (utf8_lossy rest))

-- the text of the bytes at an offset
pub text_there : (strings bytes : List ℕ) (offset : ℕ) → Some bytes ≡ bytes_at strings offset → text_at strings offset ≡ Ok (lossy bytes)
text_there strings bytes offset is = ap (text_of offset) (sym is)

-- whether it is a name
pub text_compared : (strings bytes name : List ℕ) (offset : ℕ) (same : Bool) → Some bytes ≡ bytes_at strings offset → (same ≡ true → lossy bytes ≡ name) × (lossy bytes ≡ name → same ≡ true) → HasName strings offset name (Ok same)
text_compared strings bytes name offset true is decides = text_there strings bytes offset is ∙ ap (λ (text : List ℕ). Ok text) (decides.0 refl)
text_compared strings bytes name offset false is decides = (lossy bytes, text_there strings bytes offset is, λ e. false≢true (decides.1 e))

-- no bytes are there
pub no_text_there : (strings : List ℕ) (offset : ℕ) → None ≡ bytes_at strings offset → text_at strings offset ≡ Err (InvalidStringOffset offset)
no_text_there strings offset is = ap (text_of offset) (sym is)
