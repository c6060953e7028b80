-- The texts that a buffer receives, one after another; and the text of bytes.
use Rattle.std.proofs.Common.{◌≡◌, ◌∙◌, ◌+◌, ◌≤◌, ℕ, ◌==◌, Bool, true, false, List, [], ◌∷◌, ◌++◌, length, take, drop, refl, sym, ap, subst₂, arith, None, Some, Result, Ok, Err, OnOk}
use Rattle.std.specs.Prelude.{Option}
use Rattle.std.specs.Fmt.{WritesInCalls}
use Rattle.std.specs.Str.Lossy.{utf8_valid_len, utf8_invalid_len, utf8_lossy, after_first_chunk, replacement_bytes}
use Rattle.std.specs.Io.KnownBytes.{Appends, Keeps, append_known}
use Rattle.std.proofs.KnownBytes.{Appends-nil, Appends-trans, Appends-kept, Appends-of_writes}
use Rattle.std.proofs.lemmas.Bool.{false≢true, eqb-true, eq-eqb}
use Rattle.std.proofs.lemmas.List.{append-nil, append_assoc, length-append}
use Rattle.std.proofs.lemmas.Str.{utf8_lossy_step, utf8_lossy_chunk, utf8_lossy_last_chunk}
use Rattle.bstr.proofs.lemmas.LossyLemmas.{lossy_chars-utf8_lossy}
use Rattle.btf_model.specs.Text.{lossy}
use Rattle.text_buffer.specs.Buffer.{given_text, Takes}
use Rattle.text_buffer.specs.declared.buffer.TextBuffer.{TextBuffer}

-- ---- the bytes that a buffer receives

known_nil : (known : Option (List ℕ)) → append_known known [] ≡ known
known_nil None = refl
known_nil (Some xs) = ap (λ (ys : List ℕ). Some ys) (append-nil xs)

-- two claims about a value
pub both_ok : {T E : Type 0} (P Q : Type 0) (r : Result T E) → OnOk r P → OnOk r Q → OnOk r (P × Q)
both_ok P Q (Ok x) p q = (p, q)
both_ok P Q (Err e) p q = tt

-- the bytes of the buffer after the next part
pub added : (old new last done next : List ℕ) → new ≡ old ++ done → last ≡ new ++ next → last ≡ old ++ (done ++ next)
added old new last done next is more = more ∙ ap (λ (xs : List ℕ). xs ++ next) is ∙ append_assoc old done next

-- if there was room for a text, there is room for its next part
pub room_next : (old new all done next more : List ℕ) → length old + length all ≤ 8192 → new ≡ old ++ done → done ++ (next ++ more) ≡ all → length new + length next ≤ 8192
room_next old new all done next more room is parts =
    omega (arith, room, ap length is, length-append old done, ap length parts, length-append done (next ++ more), length-append next more)

module _ {W : Type 0} (contents : W → Option (List ℕ)) where
  pub takes_none : (b : TextBuffer W) → Takes contents b [] b
  takes_none b = (refl, Appends-nil (given_text contents b))

  pub takes_both : (a b d : TextBuffer W) (xs ys : List ℕ) → Takes contents a xs b → Takes contents b ys d → Takes contents a (xs ++ ys) d
  takes_both a b d xs ys first second = (
    second.0 ∙ first.0,
    Appends-trans (given_text contents a) (given_text contents b) (given_text contents d) xs ys first.1 second.1,
  )

  -- texts that are written together
  pub takes_text : (a b : TextBuffer W) (bs : List ℕ) → WritesInCalls (Takes contents) a bs b → Takes contents a bs b
  takes_text a b bs calls = Appends-of_writes (λ (s : TextBuffer W). s.out.ghost_name) (given_text contents) a bs b calls

  -- if a buffer was empty and is empty again, the writer has the bytes that it received
  pub flushed : (w : W) (a b d : TextBuffer W) (bs : List ℕ) → a.out.now ≡ w → a.pending.bytes ≡ [] → Takes contents a bs b → Keeps (given_text contents b) (given_text contents d) → d.pending.bytes ≡ []
      → Appends (contents w) (contents d.out.now) bs
  flushed w a b d bs is empty taken kept again =
      subst₂ (λ (old new : Option (List ℕ)). Appends old new bs)
      (ap (append_known (contents a.out.now)) empty ∙ known_nil (contents a.out.now) ∙ ap contents is)
      (ap (append_known (contents d.out.now)) again ∙ known_nil (contents d.out.now))
      (Appends-kept (given_text contents a) (given_text contents b) (given_text contents d) bs taken.1 kept)

-- ---- the text of bytes

-- UTF-8 is read as itself
whole_is : (bs : List ℕ) → utf8_valid_len bs ≡ length bs → utf8_lossy bs ≡ bs
unfolding utf8_lossy
whole_is [] is = refl
whole_is (b ∷ bs) is = rw (eq-eqb (utf8_valid_len (b ∷ bs)) (length (b ∷ bs)) is) refl

-- the text of bytes begins with their longest UTF-8 prefix
pub text_begins : (bs valid invalid rest : List ℕ) → bs ≡ valid ++ (invalid ++ rest) → length valid ≡ utf8_valid_len bs → length invalid ≡ utf8_invalid_len (drop (utf8_valid_len bs) bs) → (length invalid ≡ 0 → length rest ≡ 0)
    → (more : List ℕ) × (valid ++ more ≡ utf8_lossy bs)
text_begins bs valid [] rest parts front none last = (utf8_lossy rest, sym (utf8_lossy_last_chunk bs valid [] rest parts front refl (last refl)))
text_begins bs valid (b ∷ invalid) rest parts front some last = (replacement_bytes ++ utf8_lossy rest, sym (utf8_lossy_chunk bs valid (b ∷ invalid) rest parts front some (omega arith)))

-- only the empty list of bytes is read as the empty text
pub empty_text : (bs : List ℕ) → lossy bs ≡ [] → bs ≡ []
empty_text bs is = by_cases (utf8_valid_len bs == length bs) refl
  where
    read : utf8_lossy bs ≡ []
    read = sym (lossy_chars-utf8_lossy bs) ∙ is

    by_cases : (b : Bool) → (utf8_valid_len bs == length bs) ≡ b → bs ≡ []
    by_cases true whole = sym (whole_is bs (eqb-true (utf8_valid_len bs) (length bs) whole)) ∙ read
    by_cases false cut =
        let front : List ℕ = take (utf8_valid_len bs) bs in
        let behind : List ℕ = utf8_lossy (after_first_chunk bs) in
        let step : utf8_lossy bs ≡ front ++ (replacement_bytes ++ behind) = utf8_lossy_step bs (λ e. false≢true (sym cut ∙ eq-eqb (utf8_valid_len bs) (length bs) e)) in
        absurd (omega (arith, ap length (sym step ∙ read), length-append front (replacement_bytes ++ behind), length-append replacement_bytes behind))
