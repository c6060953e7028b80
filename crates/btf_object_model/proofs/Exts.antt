-- The contents of `.BTF.ext` do not change, if no readable text changes.
use Rattle.std.proofs.Common.{◌≡◌, ◌≢◌, ℕ, List, [], ◌∷◌, Option, None, Some, Ok, Err, sym, ap, inl, inr}
use Rattle.std.specs.Result.{result_ok}
use Rattle.std.proofs.lemmas.Option.{none-some}
use Rattle.btf_model.specs.declared.endianness.Endianness.{Endianness}
use Rattle.btf_model.specs.Ext.{HeaderOfExt, Named, Ext, HaveNames, AreNamed, IsExt}
use Rattle.btf_model.specs.Refusal.{Refusal, InvalidStringOffset}
use Rattle.btf_model.specs.Text.{bytes_at, text_of, text_at, lossy}
use Rattle.btf_model.proofs.Comparisons.{same_err}

-- a text that cannot be read is refused for its offset
unread : (offset : ℕ) (bytes : Option (List ℕ)) (refusal : Refusal) → text_of offset bytes ≡ Err refusal → refusal ≡ InvalidStringOffset offset
unread offset None refusal is = sym (same_err {A = List ℕ} (InvalidStringOffset offset) refusal is)
unread offset (Some bytes) refusal is = absurd (none-some (lossy bytes) (ap result_ok (sym is)))

module _ (old new : List ℕ) (stays : (offset : ℕ) (text : List ℕ) → text_at old offset ≡ Ok text → text_at new offset ≡ Ok text) where
  names_stay : (named : List Named) → HaveNames old named → HaveNames new named
  names_stay [] have = tt
  names_stay (n ∷ named) have = (stays n.section.name n.text have.0, names_stay named have.1)

  named_ok : (order : Endianness) (size : ℕ) (bytes : List ℕ) (named : List Named) → AreNamed order size old bytes (Ok named) → AreNamed order size new bytes (Ok named)
  named_ok order size bytes named are = (are.0, names_stay named are.1)

  named_err : (order : Endianness) (size : ℕ) (bytes : List ℕ) (refusal : Refusal) → ((offset : ℕ) → refusal ≢ InvalidStringOffset offset) → AreNamed order size old bytes (Err refusal) → AreNamed order size new bytes (Err refusal)
  named_err order size bytes refusal other are = (
    are.0,
    names_stay are.0 are.1,
    elim are.2 [
      | inl unnamed ↦ absurd (other unnamed.0.name (unread unnamed.0.name (bytes_at old unnamed.0.name) refusal unnamed.3))
      | inr cut ↦ inr cut
    ],
  )

  pub contents_ok : (order : Endianness) (bytes : List ℕ) (ext : Ext) → IsExt order bytes old (Ok ext) → IsExt order bytes new (Ok ext)
  contents_ok order bytes ext e =
      let h : HeaderOfExt = e.0 in
      let func = e.2 in
      let line = func.2 in
      let core = line.2 in
      let funcs = core.2 in
      let lines = funcs.2 in (
        h,
        e.1,
        (
          func.0,
          func.1,
          (
            line.0,
            line.1,
            (
              core.0,
              core.1,
              (
                funcs.0,
                named_ok order func.0.size func.0.bytes funcs.0 funcs.1,
                (
                  lines.0,
                  named_ok order line.0.size line.0.bytes lines.0 lines.1,
                  lines.2,
                ),
              ),
            ),
          ),
        ),
      )

  pub contents_err : (order : Endianness) (bytes : List ℕ) (refusal : Refusal) → ((offset : ℕ) → refusal ≢ InvalidStringOffset offset) → IsExt order bytes old (Err refusal) → IsExt order bytes new (Err refusal)
  contents_err order bytes refusal other e =
      elim e [
        | inl cut ↦ inl cut
        | inr h ↦ inr (
          h.0,
          h.1,
          elim h.2 [
            | inl cut ↦ inl cut
            | inr func ↦ inr (
              func.0,
              func.1,
              elim func.2 [
                | inl cut ↦ inl cut
                | inr line ↦ inr (
                  line.0,
                  line.1,
                  elim line.2 [
                    | inl cut ↦ inl cut
                    | inr core ↦ inr (
                      core.0,
                      core.1,
                      elim core.2 [
                        | inl cut ↦ inl (named_err order func.0.size func.0.bytes refusal other cut)
                        | inr funcs ↦ inr (
                          funcs.0,
                          named_ok order func.0.size func.0.bytes funcs.0 funcs.1,
                          elim funcs.2 [
                            | inl cut ↦ inl (named_err order line.0.size line.0.bytes refusal other cut)
                            | inr lines ↦ inr (lines.0, named_ok order line.0.size line.0.bytes lines.0 lines.1, lines.2)
                          ],
                        )
                      ],
                    )
                  ],
                )
              ],
            )
          ],
        )
      ]
